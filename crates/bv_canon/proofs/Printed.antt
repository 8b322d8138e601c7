-- Each token of a goal's line is the longest piece where it stands, and the bytes of the line are the goal's canonical text.
use Rattle.std.proofs.Common.{◌≡◌, Bool, true, false, not, ℕ, zero, suc, ◌<◌, ◌≤◌, ◌^◌, List, [], ◌∷◌, ◌++◌, length, Option, Some, None, refl, sym, subst, arith, ap, ap₂, ◌∙◌, codes, append-nil, append_assoc}
use Rattle.std.specs.Prelude.{All, IsTrue, slice_get, slice_index_or, option_map, nat_le, ◌==◌, ◌&&◌, flat_map, bytes_eq, if◌then◌else◌}
use Rattle.std.specs.List.{list_all}
use Rattle.std.proofs.lemmas.Str.{IsUtf8-append}
use Rattle.std.proofs.lemmas.Slice.Eq.{bytes_eq-Decides}
use Rattle.std.proofs.lemmas.Option.{slice_get-map}
use Rattle.std.proofs.lemmas.List.Elements.{All-head, All-tail}
use Rattle.bv_lex.specs.declared.token.TokenKind.TheVariants as kinds
use Rattle.std.proofs.lemmas.Grind.{common_steps}
use Rattle.bv_lex.specs.Letters.{is_in_string}
use Rattle.bv_lex.proofs.Encoding.{and_parts}
use Rattle.bv_lex.specs.Signs.{kind_of_word}
use Rattle.bv_expr.specs.declared.ops.Sort.{Sort}
use Rattle.bv_expr.specs.declared.ops.Sort.TheVariants.{Truth, Vector}
use Rattle.bv_expr.specs.Goal.{Binders, is_sort, sorts_of, variables, IsTruthOver}
use Rattle.bv_expr.specs.Statement.{Statement}
use Rattle.bv_expr.specs.Term.{Term}
use Rattle.bv_lex.specs.declared.token.Token.{Token}
use Rattle.bv_lex.specs.Cut.{AreTokens}
use Rattle.bv_lex.proofs.Unique.{one_cut}
use Rattle.bv_trees.specs.Trees.{Goal}
use Rattle.bv_trees.specs.Files.{AreGoals}
use Rattle.bv_trees.proofs.Whole.{one_reading}
use Rattle.bv_typing.specs.Source.{source}
use Rattle.bv_typing.specs.Goals.{States}
use Rattle.bv_print.specs.Canonical.{name_at, name_of, term_text, binder_text, hypothesis_text, head_text, proof_text, goal_text}
use Rattle.bv_canon.specs.Written.{Written, text, sign, word, name, left, right, term_tokens}
use Rattle.bv_canon.specs.Names.{IsWordText, IsName, IsPart, a_name, a_bool, a_bitvec, IsGoalName, unnamed, named, IsQuoted, IsStored}
use Rattle.bv_canon.specs.Lines.{part, further_tokens, head_tokens, sort_tokens, binder_tokens, hypothesis_tokens, quoted, proof_tokens, conclusion_tokens, goal_tokens, line_of}
use Rattle.bv_canon.specs.Reading.{terminals, IsSpellable, IsOfSyntax, IsReadBack}
use Rattle.bv_canon.proofs.Bytes.{ascii_utf8}
use Rattle.bv_canon.proofs.Spelling.{word_is_cut, word_utf8, plain_word, string_is_cut}
use Rattle.bv_canon.proofs.Signs.{colon_sign, assign_sign}
use Rattle.bv_canon.proofs.Texts.{text-append, binders_text_is, hypotheses_text_is, conclusion_text_is}
use Rattle.bv_canon.proofs.Ready.{Ready, AreReady, Begins, HasByte, Follows, NamesFit, ready_before, both_ready, some_behind, blank_follows, right_follows, point_ends, line_ends, left_ready, right_ready, point_ready, sign_ready, word_ready, name_ready, numeral_ready, name_starts, spaced, term_ready}
use Rattle.bv_canon.proofs.Cutting.{line_cut}
use Rattle.bv_canon.proofs.Goals.{line_read}

-- ---- names of goals

part_text : (w : List ℕ) → IsPart w → IsWordText w
part_text w (a_name n) = n.spelled
part_text w a_bool = plain_word 66 (codes "ool") refl refl
part_text w a_bitvec = plain_word 66 (codes "itVec") refl refl

part_ready : (b : Bool) (w r : List ℕ) → IsPart w → Follows r → Ready (part b w) r
part_ready b w r p f = ready_before (part b w) f.byte r f.begins (λ more. (word_utf8 w (part_text w p), word_is_cut w f.byte more (kind_of_word w) (part_text w p) refl f.ends))

-- what stands behind parts of a path
further_follows : (ps : List (List ℕ)) (r : List ℕ) → Follows r → Follows (text (further_tokens ps) ++ r)
further_follows [] r f = f
further_follows (p ∷ ps) r f = record { byte = 46; ends = point_ends; begins = (_, refl) }

further_ready : (ps : List (List ℕ)) (r : List ℕ) → All IsPart ps → Follows r → AreReady (further_tokens ps) r
further_ready [] r h f = tt
further_ready (p ∷ ps) r h f =
    let fits = All-head IsPart p ps h in
    let behind = text (further_tokens ps) ++ r in
    let s = name_starts p behind (part_text p fits) in (
      point_ready (text (part false p ∷ further_tokens ps) ++ r) (record { byte = s.byte; begins = (s.begins.0, append_assoc p (text (further_tokens ps)) r ∙ s.begins.1) }),
      (part_ready false p behind fits (further_follows ps r f), further_ready ps r (All-tail IsPart p ps h) f),
    )

head_ready : (nm : List ℕ) (n : IsGoalName nm) (r : List ℕ) → Follows r → AreReady (head_tokens n) r
head_ready nm unnamed r f = (word_ready false (codes "example") r (plain_word 101 (codes "xample") refl refl) refl f, tt)
head_ready nm (named p) r f = (
  word_ready false (codes "theorem") _ (plain_word 116 (codes "heorem") refl refl) refl (blank_follows _ _ refl),
  (part_ready true p.first (text (further_tokens p.further) ++ r) p.part (further_follows p.further r f), further_ready p.further r p.parts f),
)

-- ---- binders

sort_ready : (s : Sort) (r : List ℕ) → is_sort s ≡ true → Begins 41 r → AreReady (sort_tokens s) r
sort_ready Truth r h b = (word_ready true (codes "Bool") r (plain_word 66 (codes "ool") refl refl) refl (right_follows r b.0 b.1), tt)
sort_ready (Vector w) r h b =
    (word_ready true (codes "BitVec") _ (plain_word 66 (codes "itVec") refl refl) refl (blank_follows _ _ refl), (numeral_ready true w r (below w h) (right_follows r b.0 b.1), tt))
  where
    below : (w : ℕ) → nat_le 1 w && nat_le w 128 ≡ true → w < 2 ^ 128
    below w h = let p = and_parts (nat_le 1 w) (nat_le w 128) h in let m = most w 128 p.1 in omega arith
      where
        most : (m n : ℕ) → nat_le m n ≡ true → m ≤ n
        most m n h = grind (arith, common_steps)

-- a name in a bracket, and what it is bound to
bound_ready : (w : List ℕ) (inner : List Written) (r : List ℕ) → IsName w → HasByte r → Begins 32 (text (inner ++ right ∷ []) ++ r) → AreReady inner (41 ∷ r) → AreReady (left true ∷ name false w ∷ sign true (codes ":") ∷ (inner ++ right ∷ [])) r
bound_ready w inner r n some b h =
    let last = inner ++ right ∷ [] in
    let s = name_starts w (text (sign true (codes ":") ∷ last) ++ r) n.spelled in (
      left_ready true (text (name false w ∷ sign true (codes ":") ∷ last) ++ r) (record { byte = s.byte; begins = (s.begins.0, append_assoc w (text (sign true (codes ":") ∷ last)) r ∙ s.begins.1) }),
      (name_ready false w _ n (blank_follows _ _ refl), (sign_ready true (codes ":") 32 (text last ++ r) b colon_sign, both_ready inner (right ∷ []) r h (right_ready r some, tt))),
    )

joined : (u v : List Written) (r : List ℕ) → text (u ++ v) ++ r ≡ text u ++ (text v ++ r)
joined u v r = ap (λ t. t ++ r) (text-append u v) ∙ append_assoc (text u) (text v) r

binder_ready : (b : List ℕ × Sort) (r : List ℕ) → IsName b.0 → is_sort b.1 ≡ true → HasByte r → AreReady (binder_tokens b) r
binder_ready b r n h some = bound_ready b.0 (sort_tokens b.1) r n some (spaced_sort b.1) (sort_ready b.1 (41 ∷ r) h (r, refl))
  where
    spaced_sort : (s : Sort) → Begins 32 (text (sort_tokens s ++ right ∷ []) ++ r)
    spaced_sort Truth = (_, refl)
    spaced_sort (Vector w) = (_, refl)

binders_ready : (bs : Binders) (r : List ℕ) → All (λ b. IsName b.0) bs → All (λ b. is_sort b.1 ≡ true) bs → HasByte r → AreReady (flat_map binder_tokens bs) r
binders_ready [] r n h some = tt
binders_ready (b ∷ bs) r n h some =
    both_ready (binder_tokens b) (flat_map binder_tokens bs) r (binder_ready b (text (flat_map binder_tokens bs) ++ r) (All-head (λ b. IsName b.0) b bs n) (All-head (λ b. is_sort b.1 ≡ true) b bs h) (some_behind (text (flat_map binder_tokens bs)) r some))
    (binders_ready bs r (All-tail (λ b. IsName b.0) b bs n) (All-tail (λ b. is_sort b.1 ≡ true) b bs h) some)

-- ---- terms

-- the names of a term's variables are names
names_fit : (binders : Binders) (x : Term) → All (λ b. IsName b.0) binders → IsTruthOver (sorts_of binders) x → NamesFit binders x
names_fit binders x n over k d l = there (slice_get binders v.0) refl (over.over k d l)
  where
    v : ℕ × Sort
    v = slice_index_or (variables x) k d

    name_there : (bs : Binders) (k : ℕ) (c : List ℕ × Sort) → All (λ b. IsName b.0) bs → slice_get bs k ≡ Some c → IsName c.0
    name_there [] zero c n e = absurd (cc)
    name_there [] (suc k) c n e = absurd (cc)
    name_there (b ∷ bs) zero c n e = let same : b ≡ c = cc in subst (λ b. IsName b.0) same (All-head (λ b. IsName b.0) b bs n)
    name_there (b ∷ bs) (suc k) c n e = name_there bs k c (All-tail (λ b. IsName b.0) b bs n) e

    there : (c : Option (List ℕ × Sort)) → slice_get binders v.0 ≡ c → slice_get (sorts_of binders) v.0 ≡ Some v.1 → IsName (name_at binders v.0)
    there None e h = let none = sym (slice_get-map (λ b. b.1) binders v.0 ∙ ap (option_map (λ b. b.1)) e) ∙ h in absurd (cc)
    there (Some c) e h = subst IsName (sym (ap name_of e)) (name_there binders v.0 c n e)

truth_ready : (binders : Binders) (x : Term) (b : Bool) (r : List ℕ) → All (λ b. IsName b.0) binders → IsTruthOver (sorts_of binders) x → IsSpellable binders x → Follows r → AreReady (term_tokens b binders x) r
truth_ready binders x b r n over s f = term_ready binders x b r s.expr.leaves s.numbers (names_fit binders x n over) f

h_name : IsName (codes "h")
h_name = record { spelled = plain_word 104 [] refl refl; free = refl }

hypotheses_ready : (binders : Binders) (hs : List Term) (r : List ℕ) → All (λ b. IsName b.0) binders → All (IsTruthOver (sorts_of binders)) hs → All (IsSpellable binders) hs → HasByte r → AreReady (flat_map (hypothesis_tokens binders) hs) r
hypotheses_ready binders [] r n over s some = tt
hypotheses_ready binders (x ∷ hs) r n over s some =
    let others = flat_map (hypothesis_tokens binders) hs in
    let rest = text others ++ r in
    let wt = term_tokens true binders x in
    let b = spaced binders x (41 ∷ rest) in
    both_ready (hypothesis_tokens binders x) others r
    (bound_ready (codes "h") wt rest h_name (some_behind (text others) r some) (b.0, joined wt (right ∷ []) rest ∙ b.1)
    (truth_ready binders x true (41 ∷ rest) n (All-head (IsTruthOver (sorts_of binders)) x hs over) (All-head (IsSpellable binders) x hs s) (right_follows (41 ∷ rest) rest refl)))
    (hypotheses_ready binders hs r n (All-tail (IsTruthOver (sorts_of binders)) x hs over) (All-tail (IsSpellable binders) x hs s) some)

-- ---- proofs

line_follows : Follows (codes "\n")
line_follows = record { byte = 10; ends = line_ends; begins = ([], refl) }

quoted_ready : (w r : List ℕ) → IsQuoted w → Ready (quoted w) r
quoted_ready w r q = (
  IsUtf8-append (codes "\"" ++ w) (codes "\"") (IsUtf8-append (codes "\"") w (ascii_utf8 (codes "\"") refl) q.utf8) (ascii_utf8 (codes "\"") refl),
  string_is_cut w r (in_string w q.bytes),
)
  where
    in_string : (w : List ℕ) → All (λ b. IsTrue (is_in_string b)) w → (k b : ℕ) → slice_get w k ≡ Some b → is_in_string b ≡ true
    in_string [] h zero b e = absurd (cc)
    in_string [] h (suc k) b e = absurd (cc)
    in_string (c ∷ w) h zero b e = let same : c ≡ b = cc in subst (λ b. is_in_string b ≡ true) same (All-head (λ b. IsTrue (is_in_string b)) c w h)
    in_string (c ∷ w) h (suc k) b e = in_string w (All-tail (λ b. IsTrue (is_in_string b)) c w h) k b e

proof_ready : (stored : Option (List ℕ)) → IsStored stored → AreReady (proof_tokens stored) (codes "\n")
proof_ready None s = (word_ready true (codes "bv_decide") (codes "\n") (plain_word 98 (codes "v_decide") refl refl) refl line_follows, tt)
proof_ready (Some file) s = (word_ready true (codes "bv_check") (text (quoted file ∷ []) ++ codes "\n") (plain_word 98 (codes "v_check") refl refl) refl (blank_follows _ _ refl), (quoted_ready file (codes "\n") s, tt))

proof_spaced : (stored : Option (List ℕ)) (r : List ℕ) → Begins 32 (text (proof_tokens stored) ++ r)
proof_spaced None r = (_, refl)
proof_spaced (Some file) r = (_, refl)

conclusion_ready : (binders : Binders) (x : Term) (stored : Option (List ℕ)) → All (λ b. IsName b.0) binders → IsTruthOver (sorts_of binders) x → IsSpellable binders x → IsStored stored → AreReady (conclusion_tokens binders x stored) (codes "\n")
conclusion_ready binders x stored n over s q =
    let ends = sign true (codes ":=") ∷ word true (codes "by") ∷ proof_tokens stored in
    let wt = term_tokens true binders x in
    let b = spaced binders x (text ends ++ codes "\n") in
    let p = proof_spaced stored (codes "\n") in (
      sign_ready true (codes ":") 32 (text (wt ++ ends) ++ codes "\n") (b.0, joined wt ends (codes "\n") ∙ b.1) colon_sign,
      both_ready wt ends (codes "\n") (truth_ready binders x true (text ends ++ codes "\n") n over s (blank_follows _ _ refl))
          (sign_ready true (codes ":=") 32 (text (word true (codes "by") ∷ proof_tokens stored) ++ codes "\n") (_, refl) assign_sign, (word_ready true (codes "by") (text (proof_tokens stored) ++ codes "\n") (plain_word 98 (codes "y") refl refl) refl (blank_follows _ p.0 p.1), proof_ready stored q)),
    )

-- ---- the line

rest_tokens : Binders → Binders → List Term → Term → Option (List ℕ) → List Written
rest_tokens binders bs hs x stored = flat_map binder_tokens bs ++ (flat_map (hypothesis_tokens binders) hs ++ conclusion_tokens binders x stored)

-- what stands behind the name begins with a space
rest_spaced : (binders bs : Binders) (hs : List Term) (x : Term) (stored : Option (List ℕ)) (r : List ℕ) → Begins 32 (text (rest_tokens binders bs hs x stored) ++ r)
unfolding rest_tokens
rest_spaced binders [] [] x stored r = (_, refl)
rest_spaced binders [] (h ∷ hs) x stored r = (_, refl)
rest_spaced binders (b ∷ bs) hs x stored r = (_, refl)

goal_ready : (goal : Statement) (o : IsOfSyntax goal) → AreReady (goal_tokens goal o.name) (codes "\n")
unfolding rest_tokens
goal_ready goal o =
    let binders = goal.binders in
    let bt = flat_map binder_tokens binders in
    let ht = flat_map (hypothesis_tokens binders) goal.hyps in
    let ct = conclusion_tokens binders goal.concl goal.stored in
    let line : HasByte (codes "\n") = record { byte = 10; begins = ([], refl) } in
    let s = rest_spaced binders binders goal.hyps goal.concl goal.stored (codes "\n") in
    both_ready (head_tokens o.name) (bt ++ (ht ++ ct)) (codes "\n") (head_ready goal.name o.name (text (bt ++ (ht ++ ct)) ++ codes "\n") (blank_follows _ s.0 s.1))
    (both_ready bt (ht ++ ct) (codes "\n") (binders_ready binders (text (ht ++ ct) ++ codes "\n") o.names o.fits.sorts (some_behind (text (ht ++ ct)) (codes "\n") line))
    (both_ready ht ct (codes "\n") (hypotheses_ready binders goal.hyps (text ct ++ codes "\n") o.names o.fits.hyps_fit o.hyps (some_behind (text ct) (codes "\n") line))
    (conclusion_ready binders goal.concl goal.stored o.names o.fits.concl_fits o.concl o.stored)))

-- ---- its bytes

further_text_is : (ps : List (List ℕ)) → text (further_tokens ps) ≡ flat_map (λ p. codes "." ++ p) ps
further_text_is [] = refl
further_text_is (p ∷ ps) = ap (λ v. codes "." ++ (p ++ v)) (further_text_is ps)

-- a path isn't `example`, which is a reserved word
no_point : (w : List ℕ) (k : ℕ) → list_all (λ b. not (b == 46)) w ≡ true → slice_get w k ≡ Some 46 → ⊥
no_point [] zero h e = cc
no_point [] (suc k) h e = cc
no_point (b ∷ w) zero h e =
    let same : b ≡ 46 = cc in
    let passes = (and_parts (not (b == 46)) (list_all (λ b. not (b == 46)) w) h).0 in
    let fails : not (b == 46) ≡ false = ap (λ b. not (b == 46)) same in
    cc
no_point (b ∷ w) (suc k) h e = no_point w k (and_parts (not (b == 46)) (list_all (λ b. not (b == 46)) w) h).1 e

point_in : (first more : List ℕ) → slice_get (first ++ 46 ∷ more) (length first) ≡ Some 46
point_in [] more = refl
point_in (b ∷ first) more = point_in first more

other_part : (w : List ℕ) → IsPart w → w ≡ codes "example" → ⊥
other_part w (a_name n) e = let reserved : kind_of_word w ≡ kinds.Reserved = ap kind_of_word e in let free = n.free in cc
other_part w a_bool e = let first = ap (λ v. slice_get v 0) e in cc
other_part w a_bitvec e = let first = ap (λ v. slice_get v 0) e in cc

no_example : (first : List ℕ) (further : List (List ℕ)) → IsPart first → first ++ flat_map (λ p. codes "." ++ p) further ≡ codes "example" → ⊥
no_example first [] p e = other_part first p (sym (append-nil first) ∙ e)
no_example first (q ∷ qs) p e = no_point (codes "example") (length first) refl (sym (ap (λ v. slice_get v (length first)) e) ∙ point_in first (q ++ flat_map (λ p. codes "." ++ p) qs))

not_equal : (x y : List ℕ) → (x ≡ y → ⊥) → bytes_eq x y ≡ false
not_equal x y h = go (bytes_eq x y) refl
  where
    go : (b : Bool) → bytes_eq x y ≡ b → bytes_eq x y ≡ false
    go false e = e
    go true e = absurd (h ((bytes_eq-Decides x y).0 e))

head_text_is : (nm : List ℕ) (n : IsGoalName nm) → text (head_tokens n) ≡ head_text nm
head_text_is nm unnamed = refl
head_text_is nm (named p) =
    ap (λ v. codes "theorem " ++ v) (ap (λ v. p.first ++ v) (further_text_is p.further) ∙ sym p.is)
    ∙ ap (λ b. if b then codes "example" else codes "theorem " ++ nm) (sym (not_equal nm (codes "example") (λ e. no_example p.first p.further p.part (sym p.is ∙ e))))

seven : (a b c d e f g : List ℕ) → a ++ (b ++ (c ++ (d ++ (e ++ (f ++ g))))) ≡ (((((a ++ b) ++ c) ++ d) ++ e) ++ f) ++ g
seven a b c d e f g = search (append_assoc)

goal_text_is : (goal : Statement) (n : IsGoalName goal.name) → text (goal_tokens goal n) ++ codes "\n" ≡ goal_text goal.name goal.binders goal.hyps goal.concl goal.stored
goal_text_is goal n =
    let binders = goal.binders in
    let bt = flat_map binder_tokens binders in
    let ht = flat_map (hypothesis_tokens binders) goal.hyps in
    let ct = conclusion_tokens binders goal.concl goal.stored in
    let inner : text (ht ++ ct) ≡ flat_map (hypothesis_text binders) goal.hyps ++ (codes " : " ++ (term_text binders goal.concl ++ (codes " := by " ++ proof_text goal.stored))) =
    text-append ht ct ∙ ap₂ (λ (u v : List ℕ). u ++ v) (hypotheses_text_is binders goal.hyps) (conclusion_text_is binders goal.concl goal.stored) in
    let middle = text-append bt (ht ++ ct) ∙ ap₂ (λ (u v : List ℕ). u ++ v) (binders_text_is binders) inner in
    let whole = text-append (head_tokens n) (bt ++ (ht ++ ct)) ∙ ap₂ (λ (u v : List ℕ). u ++ v) (head_text_is goal.name n) middle in
    ap (λ v. v ++ codes "\n") (whole ∙ seven (head_text goal.name) (flat_map binder_text binders) (flat_map (hypothesis_text binders) goal.hyps) (codes " : ") (term_text binders goal.concl) (codes " := by ") (proof_text goal.stored))

pub read_back : (goal : Statement) → IsOfSyntax goal → IsReadBack (goal_text goal.name goal.binders goal.hyps goal.concl goal.stored) goal
read_back goal o =
    let ws = goal_tokens goal o.name in
    let file = text ws ++ codes "\n" in
    let line = line_cut ws (goal_ready goal o) in
    subst (λ bytes. IsReadBack bytes goal) (goal_text_is goal o.name) (record { tokens = line.tokens; cut = line.cut; alone = line_read goal o (source file line.tokens) line.stand line.many })

-- it is read in no other way
pub reads_one : (goal : Statement) (tokens : List Token) (trees : List Goal) → IsOfSyntax goal → AreTokens (line_of goal) tokens → AreGoals (terminals (source (line_of goal) tokens)) trees → States (source (line_of goal) tokens) trees (goal ∷ [])
reads_one goal tokens trees o cut derived =
    let r = read_back goal o in
    let same : tokens ≡ r.tokens = (one_cut (line_of goal) tokens r.tokens None None cut r.cut).0 in
    let there = subst (λ ts. AreGoals (terminals (source (line_of goal) ts)) trees) same derived in
    let trees_are : r.alone.tree ∷ [] ≡ trees = one_reading (terminals (source (line_of goal) r.tokens)) (r.alone.tree ∷ []) trees r.alone.derived there in
    subst (λ ts. States (source (line_of goal) ts) trees (goal ∷ [])) (sym same)
    (subst (λ gs. States (source (line_of goal) r.tokens) gs (goal ∷ [])) trees_are (record { fit = r.alone.fit; are = ap (λ g. g ∷ []) (sym r.alone.is) }))
