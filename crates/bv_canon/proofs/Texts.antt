-- The bytes of the tokens of a term and of a goal are its canonical text.
use Rattle.std.proofs.Common.{◌≡◌, Bool, true, false, ℕ, List, [], ◌∷◌, ◌++◌, Option, Some, None, refl, sym, ap, ap₂, ◌∙◌, codes, append-nil, append_assoc}
use Rattle.std.specs.Prelude.{decimal, flat_map, if◌then◌else◌}
use Rattle.std.proofs.lemmas.Grind.{flat_map-append}
use Rattle.bv_expr.specs.declared.ops.Sort.{Sort}
use Rattle.bv_expr.specs.declared.ops.Sort.TheVariants.{Truth, Vector}
use Rattle.bv_expr.specs.Goal.{Binders}
use Rattle.bv_expr.specs.Term.{Term, constant, variable, truth, truth_variable, unary, binary, choice, truth_choice}
use Rattle.bvd_text.specs.Hexadecimal.{hex_text}
use Rattle.bv_print.specs.Spelling.{Form, Prefix, Infix, Method, unary_form, binary_form, kept_numbers}
use Rattle.bv_print.specs.Values.{hex_width, truth_text}
use Rattle.bv_print.specs.Canonical.{is_constant, name_at, receiver_text, operation_text, numbers_text, choice_text, term_text, sort_text, binder_text, hypothesis_text, proof_text}
use Rattle.bv_canon.specs.Written.{Written, bytes, text, sign, word, name, left, right, receiver, operation, numbers, chosen, term_tokens}
use Rattle.bv_canon.specs.Lines.{sort_tokens, binder_tokens, hypothesis_tokens, proof_tokens, conclusion_tokens}

pub text-append : (u v : List Written) → text (u ++ v) ≡ text u ++ text v
text-append u v = flat_map-append bytes u v

abbrev pub space : Bool → List ℕ
space b = if b then codes " " else []

-- texts one behind another
four : (a b c d : List ℕ) → a ++ (b ++ (c ++ d)) ≡ ((a ++ b) ++ c) ++ d
four a b c d = search (append_assoc)

six : (a b c d e f : List ℕ) → a ++ (b ++ (c ++ (d ++ (e ++ f)))) ≡ ((((a ++ b) ++ c) ++ d) ++ e) ++ f
six a b c d e f = search (append_assoc)

-- what is behind a bracket
closed : (u : List Written) (t : List ℕ) → text u ≡ t → text (u ++ right ∷ []) ≡ t ++ codes ")"
closed u t h = text-append u (right ∷ []) ∙ ap (λ v. v ++ codes ")") h

receiver_is : (k : Bool) (part : List Written) (t : List ℕ) → text part ≡ t → text (receiver k part) ≡ receiver_text k t
receiver_is false part t h = h
receiver_is true part t h = ap (λ v. codes "(" ++ v) (closed part t h)

operation_is : (f : Form) (k : Bool) (part others : List Written) (t o : List ℕ) → text part ≡ t → text others ≡ o → text (operation f k part others) ≡ operation_text f k t o
operation_is (Prefix w) k part others t o h g = ap (λ v. w ++ v) (text-append part others ∙ ap₂ (λ (u v : List ℕ). u ++ v) h g) ∙ sym (append_assoc w t o)
operation_is (Infix w) k part others t o h g = text-append part (sign true w ∷ others) ∙ ap₂ (λ u v. u ++ (codes " " ++ (w ++ v))) h g ∙ four t (codes " ") w o
operation_is (Method w) k part others t o h g =
    text-append (receiver k part) (sign false (codes ".") ∷ name false w ∷ others) ∙ ap₂ (λ u v. u ++ (codes "." ++ (w ++ v))) (receiver_is k part t h) g ∙ four (receiver_text k t) (codes ".") w o

pub numbers_are : (ns : List ℕ) → text (numbers ns) ≡ numbers_text ns
numbers_are [] = refl
numbers_are (n ∷ ns) = ap (λ v. (codes " " ++ decimal n) ++ v) (numbers_are ns)

-- in brackets
bracketed : (b : Bool) (u : List Written) (t : List ℕ) → text u ≡ t → text (left b ∷ (u ++ right ∷ [])) ≡ space b ++ (codes "(" ++ t ++ codes ")")
bracketed b u t h = append_assoc (space b) (codes "(") (text (u ++ right ∷ [])) ∙ ap (λ v. space b ++ (codes "(" ++ v)) (closed u t h)

chosen_is : (b : Bool) (c x y : List Written) (t u v : List ℕ) → text c ≡ codes " " ++ t → text x ≡ codes " " ++ u → text y ≡ codes " " ++ v → text (chosen b c x y) ≡ space b ++ choice_text t u v
chosen_is b c x y t u v h g k =
    let last = closed y (codes " " ++ v) k in
    let third = word true (codes "else") ∷ (y ++ right ∷ []) in
    let second = word true (codes "then") ∷ (x ++ third) in
    let middle : text (x ++ third) ≡ (codes " " ++ u) ++ (codes " else " ++ (v ++ codes ")")) = text-append x third ∙ ap₂ (λ (u v : List ℕ). u ++ (codes " else" ++ v)) g last in
    let first : text (c ++ second) ≡ (codes " " ++ t) ++ (codes " then " ++ (u ++ (codes " else " ++ (v ++ codes ")")))) = text-append c second ∙ ap₂ (λ (u v : List ℕ). u ++ (codes " then" ++ v)) h middle in
    append_assoc (space b) (codes "(") (codes "if" ++ text (c ++ second)) ∙ ap (λ w. space b ++ (codes "(if" ++ w)) (first ∙ ap (λ w. codes " " ++ w) (six t (codes " then ") u (codes " else ") v (codes ")")))

alone : (b : Bool) (w : List ℕ) → (space b ++ w) ++ [] ≡ space b ++ w
alone b w = append-nil (space b ++ w)

pub term_text_is : (binders : Binders) (x : Term) (b : Bool) → text (term_tokens b binders x) ≡ space b ++ term_text binders x
term_text_is binders (constant v) b =
    append_assoc (space b) (hex_text (hex_width v.width) v.number) (codes "#" ++ (decimal v.width ++ [])) ∙ ap (λ w. space b ++ (hex_text (hex_width v.width) v.number ++ (codes "#" ++ w))) (append-nil (decimal v.width))
    ∙ ap (λ w. space b ++ w) (sym (append_assoc (hex_text (hex_width v.width) v.number) (codes "#") (decimal v.width)))
term_text_is binders (variable k w) b = alone b (name_at binders k)
term_text_is binders (truth c) b = alone b (truth_text c)
term_text_is binders (truth_variable k) b = alone b (name_at binders k)
term_text_is binders (unary op x) b =
    bracketed b (operation (unary_form op) (is_constant x) (term_tokens false binders x) (numbers (kept_numbers op))) _
    (operation_is (unary_form op) (is_constant x) (term_tokens false binders x) (numbers (kept_numbers op)) (term_text binders x) (numbers_text (kept_numbers op)) (term_text_is binders x false) (numbers_are (kept_numbers op)))
term_text_is binders (binary op x y) b =
    bracketed b (operation (binary_form op) (is_constant x) (term_tokens false binders x) (term_tokens true binders y)) _
    (operation_is (binary_form op) (is_constant x) (term_tokens false binders x) (term_tokens true binders y) (term_text binders x) (codes " " ++ term_text binders y) (term_text_is binders x false) (term_text_is binders y true))
term_text_is binders (choice c x y) b =
    chosen_is b (term_tokens true binders c) (term_tokens true binders x) (term_tokens true binders y) (term_text binders c) (term_text binders x) (term_text binders y) (term_text_is binders c true) (term_text_is binders x true) (term_text_is binders y true)
term_text_is binders (truth_choice c x y) b =
    chosen_is b (term_tokens true binders c) (term_tokens true binders x) (term_tokens true binders y) (term_text binders c) (term_text binders x) (term_text binders y) (term_text_is binders c true) (term_text_is binders x true) (term_text_is binders y true)

-- ---- goals

pub sort_text_is : (s : Sort) → text (sort_tokens s) ≡ codes " " ++ sort_text s
sort_text_is Truth = refl
sort_text_is (Vector w) = ap (λ v. codes " BitVec " ++ v) (append-nil (decimal w))

binder_text_is : (b : List ℕ × Sort) → text (binder_tokens b) ≡ binder_text b
binder_text_is b = ap (λ v. codes " (" ++ (b.0 ++ (codes " :" ++ v))) (closed (sort_tokens b.1) (codes " " ++ sort_text b.1) (sort_text_is b.1)) ∙ ap (λ v. codes " (" ++ v) (four b.0 (codes " : ") (sort_text b.1) (codes ")"))

pub binders_text_is : (bs : Binders) → text (flat_map binder_tokens bs) ≡ flat_map binder_text bs
binders_text_is [] = refl
binders_text_is (b ∷ bs) = text-append (binder_tokens b) (flat_map binder_tokens bs) ∙ ap₂ (λ (u v : List ℕ). u ++ v) (binder_text_is b) (binders_text_is bs)

hypothesis_text_is : (binders : Binders) (x : Term) → text (hypothesis_tokens binders x) ≡ hypothesis_text binders x
hypothesis_text_is binders x = ap (λ v. codes " (h :" ++ v) (closed (term_tokens true binders x) (codes " " ++ term_text binders x) (term_text_is binders x true))

pub hypotheses_text_is : (binders : Binders) (hs : List Term) → text (flat_map (hypothesis_tokens binders) hs) ≡ flat_map (hypothesis_text binders) hs
hypotheses_text_is binders [] = refl
hypotheses_text_is binders (x ∷ hs) = text-append (hypothesis_tokens binders x) (flat_map (hypothesis_tokens binders) hs) ∙ ap₂ (λ (u v : List ℕ). u ++ v) (hypothesis_text_is binders x) (hypotheses_text_is binders hs)

proof_text_is : (stored : Option (List ℕ)) → text (proof_tokens stored) ≡ codes " " ++ proof_text stored
proof_text_is None = refl
proof_text_is (Some file) = ap (λ v. codes " bv_check " ++ v) (append-nil (codes "\"" ++ file ++ codes "\""))

pub conclusion_text_is : (binders : Binders) (x : Term) (stored : Option (List ℕ)) → text (conclusion_tokens binders x stored) ≡ codes " : " ++ (term_text binders x ++ (codes " := by " ++ proof_text stored))
conclusion_text_is binders x stored =
    let ends = sign true (codes ":=") ∷ word true (codes "by") ∷ proof_tokens stored in
    ap (λ v. codes " :" ++ v) (text-append (term_tokens true binders x) ends ∙ ap₂ (λ u v. u ++ (codes " := by" ++ v)) (term_text_is binders x true) (proof_text_is stored))
