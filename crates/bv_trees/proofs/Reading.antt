-- The goals of a file are one list.
use Rattle.std.proofs.Common.{◌≡◌, ℕ, List, ◌∷◌, Option, Some, refl, sym, ap}
use Rattle.bv_grammar.specs.declared.words.Terminal.{Terminal}
use Rattle.bv_grammar.specs.Grammar.{begins_part, Begins, item_import, item_open, item_theorem, item_example, by_name, by_bool, by_bitvec, by_round, by_brace, by_binder, this_word}
use Rattle.bv_trees.specs.declared.pieces.Sort.{Sort}
use Rattle.bv_trees.specs.Trees as v
use Rattle.bv_trees.specs.Trees.{Tree, Binder, Goal}
use Rattle.bv_trees.specs.Terms.{IsAt, IsWord, SortAt, Term, Operand}
use Rattle.bv_trees.specs.Terms as t
use Rattle.bv_trees.specs.Files as f
use Rattle.bv_trees.specs.Files.{PartAt, Path, Dotted, Paths, Names, Bound, Binders, Intros, Separator, Tactic, Proof, Statement, Items, AreGoals}
use Rattle.bv_trees.proofs.Unique.{up, up2, one_word, goes_on, one_sort, one_term, prefix_is_no_sort, if_is_no_sort, atom_is_no_sort}

-- what a part begins with
part_first : {ts : List Terminal} {i : ℕ} → PartAt ts i → (a : Terminal) × IsAt ts a i × Begins begins_part a
part_first (f.a_name e) = (_, e, by_name)
part_first (f.a_bool e) = (_, e, by_bool)
part_first (f.a_bitvec e) = (_, e, by_bitvec)

path_first : {ts : List Terminal} {i j : ℕ} → Path ts i j → (a : Terminal) × IsAt ts a i × Begins begins_part a
path_first (f.path p d) = part_first p

one_dotted : {ts : List Terminal} {i i' j k : ℕ} → Dotted ts i j → Dotted ts i' k → i ≡ i' → j ≡ k
one_dotted (f.no_part e) (f.no_part e') h = h
one_dotted (f.a_part e p d) (f.a_part e' p' d') h = one_dotted d d' (up2 h)
one_dotted (f.no_part e) (f.a_part e' p' d') h = absurd (goes_on _ e e' this_word h)
one_dotted (f.a_part e' p' d') (f.no_part e) h = absurd (goes_on _ e e' this_word (sym h))

one_path : {ts : List Terminal} {i i' j k : ℕ} → Path ts i j → Path ts i' k → i ≡ i' → j ≡ k
one_path (f.path p d) (f.path p' d') h = one_dotted d d' (up h)

one_paths : {ts : List Terminal} {i i' j k : ℕ} → Paths ts i j → Paths ts i' k → i ≡ i' → j ≡ k
one_paths (f.no_path e) (f.no_path e') h = h
one_paths (f.a_path p d) (f.a_path p' d') h = one_paths d d' (one_path p p' h)
one_paths (f.no_path e) (f.a_path p' d') h = let a = path_first p' in absurd (goes_on _ e a.1 a.2 h)
one_paths (f.a_path p' d') (f.no_path e) h = let a = path_first p' in absurd (goes_on _ e a.1 a.2 (sym h))

one_names : {ts : List Terminal} {i i' j k : ℕ} → Names ts i j → Names ts i' k → i ≡ i' → j ≡ k
one_names (f.no_name e) (f.no_name e') h = h
one_names (f.further_name e d) (f.further_name e' d') h = one_names d d' (up h)
one_names (f.no_name e) (f.further_name e' d') h = absurd (goes_on _ e e' by_binder h)
one_names (f.further_name e' d') (f.no_name e) h = absurd (goes_on _ e e' by_binder (sym h))

no_sort_there : {ts : List Terminal} {p i i' j k : ℕ} {s : Sort} {x : Tree} → Term ts p i x j → SortAt ts i' s k → i ≡ i' → ⊥
no_sort_there (t.term (t.prefixed e q d) u) s h = prefix_is_no_sort e q s h
no_sort_there (t.term (t.chosen e x th y el z) u) s h = if_is_no_sort e s h
no_sort_there (t.term (t.called x m) u) s h = atom_is_no_sort x s h

one_bound : {ts : List Terminal} {a a' m m' i i' j k : ℕ} {b c : Binder} → Bound ts a m i b j → Bound ts a' m' i' c k → a ≡ a' → m ≡ m' → i ≡ i' → (b ≡ c) × (j ≡ k)
one_bound (f.to_sort s) (f.to_sort s') e m h = let same = one_sort s s' h in ((λ n. v.variables (e n) (m n) (same.0 n)), same.1)
one_bound (f.to_term x) (f.to_term x') e m h = let same = one_term x x' refl h in (ap v.hypothesis same.0, same.1)
one_bound (f.to_sort s) (f.to_term x) e m h = absurd (no_sort_there x s (sym h))
one_bound (f.to_term x) (f.to_sort s) e m h = absurd (no_sort_there x s h)

one_binders : {ts : List Terminal} {i i' j k : ℕ} {bs cs : List Binder} → Binders ts i bs j → Binders ts i' cs k → i ≡ i' → (bs ≡ cs) × (j ≡ k)
one_binders (f.no_binder e) (f.no_binder e') h = (refl, h)
one_binders (f.round e n ns c b r d) (f.round e' n' ns' c' b' r' d') h =
    let names = one_names ns ns' (up2 h) in
    let bound = one_bound b b' (up h) names (up names) in
    let rest = one_binders d d' (up bound.1) in
    ((λ q. bound.0 q ∷ rest.0 q), rest.1)
one_binders (f.brace e n ns c s r d) (f.brace e' n' ns' c' s' r' d') h =
    let names = one_names ns ns' (up2 h) in
    let sort = one_sort s s' (up names) in
    let rest = one_binders d d' (up sort.1) in
    ((λ q. v.variables (up h q) (names q) (sort.0 q) ∷ rest.0 q), rest.1)
one_binders (f.no_binder n) (f.round e' n' ns' c' b' r' d') h = absurd (goes_on _ n e' by_round h)
one_binders (f.no_binder n) (f.brace e' n' ns' c' s' r' d') h = absurd (goes_on _ n e' by_brace h)
one_binders (f.round e' n' ns' c' b' r' d') (f.no_binder n) h = absurd (goes_on _ n e' by_round (sym h))
one_binders (f.brace e' n' ns' c' s' r' d') (f.no_binder n) h = absurd (goes_on _ n e' by_brace (sym h))
one_binders (f.round e n ns c b r d) (f.brace e' n' ns' c' s' r' d') h = let same = one_word _ e e' h in cc
one_binders (f.brace e' n' ns' c' s' r' d') (f.round e n ns c b r d) h = let same = one_word _ e' e h in cc

one_separator : {ts : List Terminal} {i i' j k : ℕ} → Separator ts i j → Separator ts i' k → i ≡ i' → j ≡ k
one_separator (f.no_separator e) (f.no_separator e') h = h
one_separator (f.a_separator e) (f.a_separator e') h = up h
one_separator (f.no_separator e) (f.a_separator e') h = absurd (goes_on _ e e' this_word h)
one_separator (f.a_separator e') (f.no_separator e) h = absurd (goes_on _ e e' this_word (sym h))

one_intros : {ts : List Terminal} {i i' j k : ℕ} → Intros ts i j → Intros ts i' k → i ≡ i' → j ≡ k
one_intros (f.no_intros e) (f.no_intros e') h = h
one_intros (f.intros e s) (f.intros e' s') h = one_separator s s' (up h)
one_intros (f.no_intros e) (f.intros e' s') h = absurd (goes_on _ e e' this_word h)
one_intros (f.intros e' s') (f.no_intros e) h = absurd (goes_on _ e e' this_word (sym h))

one_tactic : {ts : List Terminal} {i i' j k : ℕ} {s u : Option ℕ} → Tactic ts i s j → Tactic ts i' u k → i ≡ i' → (s ≡ u) × (j ≡ k)
one_tactic (f.decided e) (f.decided e') h = (refl, up h)
one_tactic (f.checked e n) (f.checked e' n') h = (ap Some (up h), up2 h)
one_tactic (f.decided e) (f.checked e' n') h = let same = one_word _ e e' h in cc
one_tactic (f.checked e' n') (f.decided e) h = let same = one_word _ e' e h in cc

one_proof : {ts : List Terminal} {i i' j k : ℕ} {s u : Option ℕ} → Proof ts i s j → Proof ts i' u k → i ≡ i' → (s ≡ u) × (j ≡ k)
one_proof (f.by_tactic e n s) (f.by_tactic e' n' s') h = one_tactic s s' (one_intros n n' (up h))

one_statement : {ts : List Terminal} {a b i i' j k : ℕ} {g g' : Goal} → Statement ts a i g j → Statement ts b i' g' k → a ≡ b → i ≡ i' → (g ≡ g') × (j ≡ k)
one_statement (f.statement bs c x m q) (f.statement bs' c' x' m' q') head h =
    let binders = one_binders bs bs' h in
    let concl = one_term x x' refl (up binders.1) in
    let proof = one_proof q q' (up concl.1) in
    ((λ n. record { head = head n; path = h n; binders = binders.0 n; conclusion = concl.0 n; stored = proof.0 n }), proof.1)

pub one_items : {ts : List Terminal} {i i' j k : ℕ} {gs hs : List Goal} → Items ts i gs j → Items ts i' hs k → i ≡ i' → (gs ≡ hs) × (j ≡ k)
one_items (f.no_item e) (f.no_item e') h = (refl, h)
one_items (f.import_ e p d) (f.import_ e' p' d') h = one_items d d' (one_path p p' (up h))
one_items (f.open_ e p ps d) (f.open_ e' p' ps' d') h = one_items d d' (one_paths ps ps' (one_path p p' (up h)))
one_items (f.theorem_ e p s d) (f.theorem_ e' p' s' d') h =
    let path = one_path p p' (up h) in
    let goal = one_statement s s' h path in
    let rest = one_items d d' goal.1 in
    ((λ n. goal.0 n ∷ rest.0 n), rest.1)
one_items (f.example_ e s d) (f.example_ e' s' d') h =
    let goal = one_statement s s' h (up h) in
    let rest = one_items d d' goal.1 in
    ((λ n. goal.0 n ∷ rest.0 n), rest.1)
one_items (f.no_item n) (f.import_ e p d) h = absurd (goes_on _ n e item_import h)
one_items (f.no_item n) (f.open_ e p ps d) h = absurd (goes_on _ n e item_open h)
one_items (f.no_item n) (f.theorem_ e p s d) h = absurd (goes_on _ n e item_theorem h)
one_items (f.no_item n) (f.example_ e s d) h = absurd (goes_on _ n e item_example h)
one_items (f.import_ e p d) (f.no_item n) h = absurd (goes_on _ n e item_import (sym h))
one_items (f.open_ e p ps d) (f.no_item n) h = absurd (goes_on _ n e item_open (sym h))
one_items (f.theorem_ e p s d) (f.no_item n) h = absurd (goes_on _ n e item_theorem (sym h))
one_items (f.example_ e s d) (f.no_item n) h = absurd (goes_on _ n e item_example (sym h))
one_items (f.import_ e p d) (f.open_ e' p' ps' d') h = let same = one_word _ e e' h in cc
one_items (f.import_ e p d) (f.theorem_ e' p' s' d') h = let same = one_word _ e e' h in cc
one_items (f.import_ e p d) (f.example_ e' s' d') h = let same = one_word _ e e' h in cc
one_items (f.open_ e p ps d) (f.import_ e' p' d') h = let same = one_word _ e e' h in cc
one_items (f.open_ e p ps d) (f.theorem_ e' p' s' d') h = let same = one_word _ e e' h in cc
one_items (f.open_ e p ps d) (f.example_ e' s' d') h = let same = one_word _ e e' h in cc
one_items (f.theorem_ e p s d) (f.import_ e' p' d') h = let same = one_word _ e e' h in cc
one_items (f.theorem_ e p s d) (f.open_ e' p' ps' d') h = let same = one_word _ e e' h in cc
one_items (f.theorem_ e p s d) (f.example_ e' s' d') h = let same = one_word _ e e' h in cc
one_items (f.example_ e s d) (f.import_ e' p' d') h = let same = one_word _ e e' h in cc
one_items (f.example_ e s d) (f.open_ e' p' ps' d') h = let same = one_word _ e e' h in cc
one_items (f.example_ e s d) (f.theorem_ e' p' s' d') h = let same = one_word _ e e' h in cc
