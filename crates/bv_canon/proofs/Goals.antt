-- A goal's line as a whole: its head and name, its proof, and that nothing stands behind it.
use Rattle.std.proofs.Common.{◌≡◌, ℕ, suc, ◌+◌, ◌-◌, ◌<◌, Bool, true, false, List, [], ◌∷◌, ◌++◌, length, Option, Some, None, refl, sym, ap, ap₂, ◌∙◌, subst, arith, codes, length-append, append-nil, append_assoc}
use Rattle.std.specs.Prelude.{All, map, flat_map, slice_get, slice_index_or, slice_range, option_map, nat_eq, take, drop, if◌then◌else◌}
use Rattle.std.specs.List.{range_with_len}
use Rattle.std.proofs.lemmas.Bool.Decides.{Decides-eqb}
use Rattle.std.proofs.lemmas.List.Elements.{All-head, All-tail}
use Rattle.std.proofs.lemmas.Option.{slice_get_past, slice_get-map}
use Rattle.std.proofs.lemmas.List.{take-append-drop, drop-drop, drop-take}
use Rattle.std.proofs.Math.Seq.{take-append_seam}
use Rattle.bv_grammar.specs.declared.words.Word.TheVariants as words
use Rattle.bv_grammar.specs.declared.words.Terminal.{Terminal}
use Rattle.bv_grammar.specs.Grammar.{is_word}
use Rattle.bv_terminals.specs.Spellings.{terminal_of_kind}
use Rattle.bv_expr.specs.declared.ops.Sort.{Sort}
use Rattle.bv_expr.specs.Goal.{Binders, sorts_of, variables, IsTruthOver, IsGoal}
use Rattle.bv_expr.specs.Statement.{Statement}
use Rattle.bv_expr.specs.Term.{Term}
use Rattle.bv_trees.specs.Trees.{Goal}
use Rattle.bv_trees.specs.Terms.{IsAt, IsWord, IsNot}
use Rattle.bv_trees.specs.Files as f
use Rattle.bv_typing.specs.Source.{Source, text_at, quoted_in, quoted_of, quoted_at}
use Rattle.bv_typing.specs.Variables.{all_bounds, binders_of, variable_of}
use Rattle.bv_typing.specs.Readings.{Env, term}
use Rattle.bv_typing.specs.Goals.{env_of, terms_of, misfits, truth_misfits, bound_misfits, goal_misfits, hypotheses, path_text, name_between}
use Rattle.bv_print.specs.Canonical.{name_at, name_of}
use Rattle.bv_canon.specs.Written.{Written, sign, word, term_tokens}
use Rattle.bv_canon.specs.Names.{IsPart, a_name, a_bool, a_bitvec, IsGoalName, unnamed, named}
use Rattle.bv_canon.specs.Lines.{part, further_tokens, head_tokens, binder_tokens, hypothesis_tokens, proof_tokens, conclusion_tokens, goal_tokens}
use Rattle.bv_canon.specs.Reading.{terminals, Shows, Stand, AreNamed, IsSpellable, IsOfSyntax, IsReadAlone}
use Rattle.bv_canon.proofs.Standing.{terminal_is, text_is, stand_left, stand_right}
use Rattle.bv_canon.proofs.Ends.{other_word, term_before}
use Rattle.bv_canon.proofs.Naming.{bound_list, binders_again, names_its_variable, may_be_bound}
use Rattle.bv_canon.proofs.Lines.{IsReadable, truth_read, is_truth, variables_before, hypotheses_before}

-- ---- names of goals

part_at : (s : Source) (b : Bool) (w : List ℕ) (i : ℕ) → IsPart w → Shows s i (part b w) → f.PartAt (terminals s) i
part_at s b w i (a_name n) h = f.a_name (subst (λ k. IsAt (terminals s) (terminal_of_kind k w) i) n.free (terminal_is h))
part_at s b w i a_bool h = f.a_bool (terminal_is h)
part_at s b w i a_bitvec h = f.a_bitvec (terminal_is h)

dotted_at : (s : Source) (ps : List (List ℕ)) (i j : ℕ) → All IsPart ps → Stand s i (further_tokens ps) → j ≡ i + length (further_tokens ps) → IsNot (terminals s) (is_word words.Dot) j → f.Dotted (terminals s) i j
dotted_at s [] i j parts h n ends = let same : i ≡ j = omega (arith, n) in subst (λ k. f.Dotted (terminals s) k j) (sym same) (f.no_part ends)
dotted_at s (p ∷ ps) i j parts h n ends =
    f.a_part (terminal_is h.0) (part_at s false p (i + 1) (All-head IsPart p ps parts) h.1.0) (dotted_at s ps (i + 1 + 1) j (All-tail IsPart p ps parts) h.1.1 (omega (arith, n)) ends)

-- what tokens spell, one behind another
spelled_at : (s : Source) (ws : List Written) (i : ℕ) → Stand s i ws → flat_map (text_at s) (range_with_len i (length ws)) ≡ flat_map (λ w. w.text) ws
spelled_at s [] i h = refl
spelled_at s (w ∷ ws) i h = ap₂ (λ (u v : List ℕ). u ++ v) (text_is h.0) (spelled_at s ws (i + 1) h.1)

further_text : (ps : List (List ℕ)) → flat_map (λ w. w.text) (further_tokens ps) ≡ flat_map (λ p. codes "." ++ p) ps
further_text [] = refl
further_text (p ∷ ps) = ap (λ v. codes "." ++ (p ++ v)) (further_text ps) ∙ sym (append_assoc (codes ".") p (flat_map (λ p. codes "." ++ p) ps))

no_example : (n : ℕ) → 1 < n → nat_eq n 1 ≡ false
no_example n h = go (nat_eq n 1) refl
  where
    go : (b : Bool) → nat_eq n 1 ≡ b → nat_eq n 1 ≡ false
    go false e = e
    go true e = let same : n ≡ 1 = (Decides-eqb n 1).0 e in absurd (omega arith)

-- ---- proofs

-- what is between the quotes
between_quotes : (bytes : List ℕ) (from to : ℕ) (w : List ℕ) → slice_range bytes from to ≡ codes "\"" ++ w ++ codes "\"" → to ≡ from + length (codes "\"" ++ w ++ codes "\"") → slice_range bytes (from + 1) (to - 1) ≡ w
between_quotes bytes from to w h n =
    let m = length w in
    let behind = drop (from + 1) bytes in
    let long : to - from ≡ 1 + (m + 1) = omega (arith, n, length-append w (codes "\"")) in
    let short : to - 1 - (from + 1) ≡ m = omega (arith, n, length-append w (codes "\"")) in
    let front : take (m + 1) behind ≡ w ++ codes "\"" =
    ap (take (m + 1)) (sym (drop-drop 1 from bytes)) ∙ sym (drop-take 1 (m + 1) (drop from bytes)) ∙ ap (λ n. drop 1 (take n (drop from bytes))) (sym long) ∙ ap (drop 1) h in
    let whole : behind ≡ w ++ (codes "\"" ++ drop (m + 1) behind) = sym (take-append-drop (m + 1) behind) ∙ ap (λ v. v ++ drop (m + 1) behind) front ∙ append_assoc w (codes "\"") (drop (m + 1) behind) in
    ap₂ take short whole ∙ take-append_seam w (codes "\"" ++ drop (m + 1) behind)

record IsProof (s : Source) (i : ℕ) (stored : Option (List ℕ)) (j : ℕ) : Type 0 where
  place : Option ℕ
  derived : f.Proof (terminals s) i place j
  is : option_map (quoted_at s) place ≡ stored

proof_read : (s : Source) (stored : Option (List ℕ)) (i : ℕ) → IsWord (terminals s) words.By i → Stand s (i + 1) (proof_tokens stored) → IsProof s i stored (i + 1 + length (proof_tokens stored))
proof_read s None i by h =
    record { place = None; derived = f.by_tactic by (f.no_intros (other_word (terminals s) (i + 1) words.Intros (terminal_is h.0) (λ h. (cc)))) (f.decided (terminal_is h.0)); is = refl }
proof_read s (Some file) i by h =
    subst (λ n. IsProof s i (Some file) n) (omega arith) (record {
      place = Some (i + 1 + 1);
      derived = f.by_tactic by (f.no_intros (other_word (terminals s) (i + 1) words.Intros (terminal_is h.0) (λ h. (cc)))) (f.checked (terminal_is h.0) (terminal_is h.1.0));
      is = ap Some (ap (quoted_of s.bytes) h.1.0.here ∙ ap (λ k. quoted_in k (slice_range s.bytes (h.1.0.token.from + 1) (h.1.0.token.to - 1))) h.1.0.kind ∙ between_quotes s.bytes h.1.0.token.from h.1.0.token.to file h.1.0.text h.1.0.span);
    })

-- ---- terms of goals

-- a variable of a term names itself among what the binders bind
names_are : (i : ℕ) (binders : Binders) (hyps : List Term) (concl : Term) (x : Term) → IsGoal binders hyps concl → IsTruthOver (sorts_of binders) x → IsSpellable binders x → AreNamed (bound_list i binders) binders x
names_are i binders hyps concl x g over fits k d l = there (slice_get binders v.0) refl (over.over k d l)
  where
    v : ℕ × Sort
    v = slice_index_or (variables x) k d

    there : (c : Option (List ℕ × Sort)) → slice_get binders v.0 ≡ c → slice_get (sorts_of binders) v.0 ≡ Some v.1 → variable_of (bound_list i binders) (name_at binders v.0) ≡ Some (v.0, Some v.1)
    there None e h = let none = sym (slice_get-map (λ b. b.1) binders v.0 ∙ ap (option_map (λ b. b.1)) e) ∙ h in cc
    there (Some c) e h =
        let sort = sym (slice_get-map (λ b. b.1) binders v.0 ∙ ap (option_map (λ b. b.1)) e) ∙ h in
        let is : c.1 ≡ v.1 = cc in
        let name : name_at binders v.0 ≡ c.0 = ap name_of e in
        ap (variable_of (bound_list i binders)) name ∙ names_its_variable i v.0 binders c g.named_apart e (λ n. fits.named k d l (name ∙ n)) ∙ ap (λ s. Some (v.0, Some s)) is

readable : (s : Source) (i : ℕ) (binders : Binders) (hyps : List Term) (concl : Term) (x : Term) → IsGoal binders hyps concl → IsTruthOver (sorts_of binders) x → IsSpellable binders x
    → IsReadable (record { source = s; bounds = bound_list i binders }) binders x
readable s i binders hyps concl x g over fits = record { fits = fits; truth = over.truth; named = names_are i binders hyps concl x g over fits }

all_readable : (s : Source) (i : ℕ) (binders : Binders) (all : List Term) (concl : Term) (hyps : List Term) → IsGoal binders all concl → All (IsTruthOver (sorts_of binders)) hyps → All (IsSpellable binders) hyps
    → All (IsReadable (record { source = s; bounds = bound_list i binders }) binders) hyps
all_readable s i binders all concl hyps g over fits k d l = readable s i binders all concl (slice_index_or hyps k d) g (over k d l) (fits k d l)

-- ---- the whole line behind the head

-- what stands behind the head and the name is the rest of a goal, which is typed and states this
record IsRest (s : Source) (head path : ℕ) (goal : Statement) (j : ℕ) : Type 0 where
  tree : Goal
  derived : f.Statement (terminals s) head path tree j
  head_is : tree.head ≡ head
  path_is : tree.path ≡ path
  fit : goal_misfits s tree ≡ []
  binders : binders_of (all_bounds s tree.binders) ≡ goal.binders
  hyps : map (term (env_of s tree) 0) (hypotheses tree.binders) ≡ goal.hyps
  concl : term (env_of s tree) 0 tree.conclusion ≡ goal.concl
  stored : option_map (quoted_at s) tree.stored ≡ goal.stored

abbrev rest_tokens : Statement → List Written
rest_tokens goal = flat_map binder_tokens goal.binders ++ (flat_map (hypothesis_tokens goal.binders) goal.hyps ++ conclusion_tokens goal.binders goal.concl goal.stored)

flat_last : {A B : Type 0} (g : A → List B) (xs : List A) (x : A) → flat_map g xs ≡ [] → g x ≡ [] → flat_map g (xs ++ x ∷ []) ≡ []
flat_last g [] x h e = append-nil (g x) ∙ e
flat_last {A} {B} g (y ∷ ys) x h e = ap₂ (λ (u v : List B). u ++ v) (left_none (g y) (flat_map g ys) h) (flat_last g ys x (right_none (g y) (flat_map g ys) h) e)
  where
    left_none : (u v : List B) → u ++ v ≡ [] → u ≡ []
    left_none [] v h = refl
    left_none (z ∷ u) v h = cc

    right_none : (u v : List B) → u ++ v ≡ [] → v ≡ []
    right_none [] v h = h
    right_none (z ∷ u) v h = cc

rest_read : (s : Source) (head path : ℕ) (goal : Statement) → IsOfSyntax goal → Stand s path (rest_tokens goal) → IsRest s head path goal (path + length (rest_tokens goal))
rest_read s head path goal o h =
    let binders = goal.binders in
    let e : Env = record { source = s; bounds = bound_list path binders } in
    let vt = flat_map binder_tokens binders in
    let ht = flat_map (hypothesis_tokens binders) goal.hyps in
    let ct = conclusion_tokens binders goal.concl goal.stored in
    let wt = term_tokens true binders goal.concl in
    let ends = sign true (codes ":=") ∷ word true (codes "by") ∷ proof_tokens goal.stored in
    let b = stand_right s path vt (ht ++ ct) h in
    let k = path + length vt + length ht in
    let d = stand_right s (path + length vt) ht ct b in
    let hs = hypotheses_before e binders goal.hyps (path + length vt) k (all_readable s path binders goal.hyps goal.concl goal.hyps o.fits o.fits.hyps_fit o.hyps) (stand_left s (path + length vt) ht ct b) refl (terminal_is d.0) in
    let vs = variables_before e binders path k goal.hyps o.fits.sorts (stand_left s path vt (ht ++ ct) h) hs in
    let q = truth_read e binders goal.concl true (k + 1) (readable s path binders goal.hyps goal.concl goal.concl o.fits o.fits.concl_fits o.concl) (stand_left s (k + 1) wt ends d.1) in
    let p = stand_right s (k + 1) wt ends d.1 in
    let assign = terminal_is p.0 in
    let r = proof_read s goal.stored (k + 1 + length wt + 1) (terminal_is p.1.0) p.1.1 in
    let tree : Goal = record { head = head; path = path; binders = vs.binders; conclusion = q.tree; stored = r.place } in
    let same : env_of s tree ≡ e = ap (λ b. record { source = s; bounds = b }) vs.binds in
    let typed = ap (λ e. flat_map (misfits e) (terms_of tree)) same ∙ flat_last (misfits e) (hypotheses vs.binders) q.tree vs.fit q.fit in
    let truths = ap (λ e. flat_map (truth_misfits e) (terms_of tree)) same ∙ flat_last (truth_misfits e) (hypotheses vs.binders) q.tree vs.truths (is_truth e q.tree q.typed) in
    let bound = ap (bound_misfits []) vs.binds ∙ may_be_bound path [] binders o.fits.named_apart (λ k c e. refl) (let few = o.fits.few in omega arith) in
    subst (λ n. IsRest s head path goal n) (omega (arith, length-append vt (ht ++ ct), length-append ht ct, length-append wt ends)) (record {
      tree = tree;
      derived = f.statement vs.derived (terminal_is d.0) (term_before q.derived assign refl (λ h. (cc))) assign r.derived;
      head_is = refl;
      path_is = refl;
      fit = none_of_three bound typed truths;
      binders = ap binders_of vs.binds ∙ binders_again path binders;
      hyps = ap (λ e. map (term e 0) (hypotheses vs.binders)) same ∙ vs.are;
      concl = ap (λ e. term e 0 q.tree) same ∙ q.is 0;
      stored = r.is;
    })
  where
    none_of_three : {A : Type 0} {u v w : List A} → u ≡ [] → v ≡ [] → w ≡ [] → u ++ (v ++ w) ≡ []
    none_of_three {A} a b c = ap₂ (λ (u v : List A). u ++ v) a (ap₂ (λ (u v : List A). u ++ v) b c)

-- what stands behind a name doesn't go on with it
no_dot_behind : (s : Source) (i : ℕ) (binders bs : Binders) (hs : List Term) (concl : Term) (stored : Option (List ℕ)) → Stand s i (flat_map binder_tokens bs ++ (flat_map (hypothesis_tokens binders) hs ++ conclusion_tokens binders concl stored))
    → IsNot (terminals s) (is_word words.Dot) i
no_dot_behind s i binders [] [] concl stored h = other_word (terminals s) i words.Dot (terminal_is h.0) (λ h. (cc))
no_dot_behind s i binders [] (x ∷ hs) concl stored h = other_word (terminals s) i words.Dot (terminal_is h.0) (λ h. (cc))
no_dot_behind s i binders (b ∷ bs) hs concl stored h = other_word (terminals s) i words.Dot (terminal_is h.0) (λ h. (cc))

-- ---- nothing behind

length_map : {A B : Type 0} (g : A → B) (xs : List A) → length (map g xs) ≡ length xs
length_map g [] = refl
length_map g (x ∷ xs) = ap suc (length_map g xs)

nothing_behind : (s : Source) (i : ℕ) → i ≡ length s.tokens → f.Items (terminals s) i [] (length (terminals s))
nothing_behind s i h =
    let end : i ≡ length (terminals s) = h ∙ sym (length_map _ s.tokens) in
    subst (λ n. f.Items (terminals s) i [] n) end (f.no_item (λ a at b. none a (slice_get_past (terminals s) i (omega (arith, end))) at))
  where
    none : (a : Terminal) → slice_get (terminals s) i ≡ None → slice_get (terminals s) i ≡ Some a → ⊥
    none a g h = let no = sym g ∙ h in cc

alone_by : (s : Source) (goal : Statement) (head path j : ℕ) (r : IsRest s head path goal j) → f.AreGoals (terminals s) (r.tree ∷ []) → name_between s head path ≡ goal.name → IsReadAlone s goal
alone_by s goal head path j r derived called = record {
  tree = r.tree;
  derived = derived;
  fit = append-nil (goal_misfits s r.tree) ∙ r.fit;
  is = λ k. record { name = (ap₂ (name_between s) r.head_is r.path_is ∙ called) k; binders = r.binders k; hyps = r.hyps k; concl = r.concl k; stored = r.stored k };
}

line_read_by : (goal : Statement) → IsOfSyntax goal → (s : Source) (name : List ℕ) (n : IsGoalName name) → name ≡ goal.name → Stand s 0 (head_tokens n ++ rest_tokens goal) → length s.tokens ≡ length (head_tokens n ++ rest_tokens goal) → IsReadAlone s goal
line_read_by goal o s name unnamed is h n =
    let r = rest_read s 0 1 goal o h.1 in
    alone_by s goal 0 1 _ r (f.example_ (terminal_is h.0) r.derived (nothing_behind s (1 + length (rest_tokens goal)) (omega (arith, n)))) is
line_read_by goal o s name (named p) is h n =
    let ps = further_tokens p.further in
    let rest = rest_tokens goal in
    let path = 1 + 1 + length ps in
    let g = stand_right s (1 + 1) ps rest h.1.1 in
    let r = rest_read s 0 path goal o g in
    let dot = no_dot_behind s path goal.binders goal.binders goal.hyps goal.concl goal.stored g in
    let words_are = f.path (part_at s true p.first 1 p.part h.1.0) (dotted_at s p.further (1 + 1) path p.parts (stand_left s (1 + 1) ps rest h.1.1) refl dot) in
    let spelled = spelled_at s (part true p.first ∷ ps) 1 (h.1.0, stand_left s (1 + 1) ps rest h.1.1) in
    alone_by s goal 0 path _ r (f.theorem_ (terminal_is h.0) words_are r.derived (nothing_behind s (path + length rest) (omega (arith, n, length-append ps rest))))
    (ap (λ b. if b then codes "example" else path_text s 1 (path - 1)) (no_example path (omega arith)) ∙ ap (path_text s 1) (count (length ps)) ∙ spelled ∙ ap (λ v. p.first ++ v) (further_text p.further) ∙ sym p.is ∙ is)
  where
    count : (n : ℕ) → 1 + 1 + n - 1 ≡ suc n
    count n = omega arith

pub line_read : (goal : Statement) (o : IsOfSyntax goal) (s : Source) → Stand s 0 (goal_tokens goal o.name) → length s.tokens ≡ length (goal_tokens goal o.name) → IsReadAlone s goal
line_read goal o s h n = line_read_by goal o s goal.name o.name refl h n
