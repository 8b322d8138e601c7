-- A walk comes to as many different gates as the cone has.
use Rattle.std.proofs.Common.{◌≡◌, ℕ, ◌≤◌, le_antisymm, Bool, true, false, ◌||◌, cond, List, [], ◌∷◌, ◌++◌, length, map, refl, sym, ap, ◌∙◌, subst, arith, true≢false}
use Rattle.std.specs.List.{list_any, count_by, IsDistinct, AllByRecursion}
use Rattle.std.specs.Cmp.{IsEquivalence}
use Rattle.std.proofs.lemmas.List.Sums.{sum_by-cons}
use Rattle.std.proofs.lemmas.Map.Made.{length-le_from_is_member}
use Rattle.gate_shape.specs.Edge.{Edge, constant, input, gate, same}
use Rattle.gate_shape.proofs.Sameness.{same-eq, same-self}
use Rattle.cone_walk.specs.Order.{listed_edge, completions, firsts, order}
use Rattle.cone_walk.specs.Cone.{is_gate, cone_node, cone_nodes}
use Rattle.cone_walk.specs.Numbered.{gates_in}
use Rattle.gate_world.specs.Literals.{arrivals, cone_gates}

pub by_bool : (b : Bool) {P : Type 0} → (b ≡ true → P) → (b ≡ false → P) → P
by_bool true f g = f refl
by_bool false f g = g refl

pub or_cases : (a b : Bool) {P : Type 0} → a || b ≡ true → (a ≡ true → P) → (b ≡ true → P) → P
or_cases true b h f g = f refl
or_cases false b h f g = g h

pub or_left : (a b : Bool) → a ≡ true → a || b ≡ true
or_left a b e = rw e refl

pub or_right : (a b : Bool) → b ≡ true → a || b ≡ true
or_right true b e = refl
or_right false b e = e

or_none : (a b : Bool) → a ≡ false → b ≡ false → a || b ≡ false
or_none a b p q = rw (p, q) refl

or_parts : (a b : Bool) → a || b ≡ false → (a ≡ false) × (b ≡ false)
or_parts true b h = absurd (true≢false h)
or_parts false b h = (refl, h)

-- equal trees
same_swap : (x y : Edge) → same x y ≡ same y x
same_swap x y = by_bool (same x y)
    (λ e. let is : x ≡ y = same-eq x y e in ap (λ z. same z y) is ∙ ap (λ z. same y z) (sym is))
    (λ n. by_bool (same y x) (λ e. let is : y ≡ x = same-eq y x e in absurd (true≢false (sym (subst (λ z. same x z ≡ true) (sym is) (same-self x)) ∙ n))) (λ m. n ∙ sym m))

pub same_equiv : IsEquivalence same
same_equiv = record {
  refl = same-self;
  symm = same_swap;
  congr = λ x y z e. ap (λ w. same w z) (same-eq x y e);
}

pub listed_is : (x : Edge) (xs : List Edge) → listed_edge x xs ≡ list_any (same x) xs
listed_is x [] = refl
listed_is x (y ∷ ys) = ap (λ b. same x y || b) (listed_is x ys)

listed_append : (x : Edge) (xs ys : List Edge) → listed_edge x (xs ++ ys) ≡ true → (listed_edge x xs ≡ true → listed_edge x ys ≡ true → true ≡ true) → (listed_edge x xs || listed_edge x ys) ≡ true
listed_append x [] ys h k = h
listed_append x (z ∷ zs) ys h k = or_cases (same x z) (listed_edge x (zs ++ ys)) h
    (λ e. or_left (same x z || listed_edge x zs) (listed_edge x ys) (or_left (same x z) (listed_edge x zs) e))
    (λ e. or_cases (listed_edge x zs) (listed_edge x ys) (listed_append x zs ys e (λ p q. refl))
    (λ f. or_left (same x z || listed_edge x zs) (listed_edge x ys) (or_right (same x z) (listed_edge x zs) f))
    (λ f. or_right (same x z || listed_edge x zs) (listed_edge x ys) f))

pub in_either : (x : Edge) (xs ys : List Edge) {P : Type 0} → listed_edge x (xs ++ ys) ≡ true → (listed_edge x xs ≡ true → P) → (listed_edge x ys ≡ true → P) → P
in_either x xs ys h f g = or_cases (listed_edge x xs) (listed_edge x ys) (listed_append x xs ys h (λ p q. refl)) f g

pub in_left : (x : Edge) (xs ys : List Edge) → listed_edge x xs ≡ true → listed_edge x (xs ++ ys) ≡ true
in_left x [] ys h = absurd (true≢false (sym h))
in_left x (z ∷ zs) ys h = or_cases (same x z) (listed_edge x zs) h (λ e. or_left (same x z) (listed_edge x (zs ++ ys)) e) (λ e. or_right (same x z) (listed_edge x (zs ++ ys)) (in_left x zs ys e))

pub in_right : (x : Edge) (xs ys : List Edge) → listed_edge x ys ≡ true → listed_edge x (xs ++ ys) ≡ true
in_right x [] ys h = h
in_right x (z ∷ zs) ys h = or_right (same x z) (listed_edge x (zs ++ ys)) (in_right x zs ys h)

in_one : (x y : Edge) → listed_edge x (y ∷ []) ≡ true → x ≡ y
in_one x y h = or_cases (same x y) false h (λ e. same-eq x y e) (λ e. absurd (true≢false (sym e)))

all_apart : (x : Edge) (xs : List Edge) → listed_edge x xs ≡ false → AllByRecursion (λ y. same x y ≡ false) xs
all_apart x [] h = tt
all_apart x (y ∷ ys) h = let p = or_parts (same x y) (listed_edge x ys) h in (p.0, all_apart x ys p.1)

apart_push : (y : Edge) (xs : List Edge) (x : Edge) → AllByRecursion (λ z. same y z ≡ false) xs → same y x ≡ false → AllByRecursion (λ z. same y z ≡ false) (xs ++ x ∷ [])
apart_push y [] x a e = (e, tt)
apart_push y (z ∷ zs) x a e = (a.0, apart_push y zs x a.1 e)

once_push : (xs : List Edge) (x : Edge) → IsDistinct same xs → listed_edge x xs ≡ false → IsDistinct same (xs ++ x ∷ [])
unfolding IsDistinct
once_push [] x d h = (tt, tt)
once_push (y ∷ ys) x d h = let p = or_parts (same x y) (listed_edge x ys) h in (apart_push y ys x d.0 (same_swap y x ∙ p.0), once_push ys x d.1 p.1)

pub once_firsts : (done xs : List Edge) → IsDistinct same done → IsDistinct same (firsts done xs)
unfolding firsts
once_firsts done [] d = d
once_firsts done (x ∷ xs) d = by_bool (listed_edge x done) (λ h. rw h (once_firsts done xs d)) (λ h. rw h (once_firsts (done ++ x ∷ []) xs (once_push done x d h)))

pub none_once : IsDistinct same []
unfolding IsDistinct
none_once = tt

-- what the first ones are
pub firsts_of : (done xs : List Edge) (x : Edge) → listed_edge x (firsts done xs) ≡ true → listed_edge x (done ++ xs) ≡ true
unfolding firsts
firsts_of done [] x h = in_left x done [] h
firsts_of done (y ∷ ys) x h =
    by_bool (listed_edge y done)
    (λ e. in_either x done ys (firsts_of done ys x (rw e at h)) (λ f. in_left x done (y ∷ ys) f) (λ f. in_right x done (y ∷ ys) (or_right (same x y) (listed_edge x ys) f)))
    (λ e. in_either x (done ++ y ∷ []) ys (firsts_of (done ++ y ∷ []) ys x (rw e at h))
    (λ f. in_either x done (y ∷ []) f (λ g. in_left x done (y ∷ ys) g) (λ g. in_right x done (y ∷ ys) (or_left (same x y) (listed_edge x ys) (subst (λ z. same x z ≡ true) (in_one x y g) (same-self x)))))
    (λ f. in_right x done (y ∷ ys) (or_right (same x y) (listed_edge x ys) f)))

firsts_keep : (done xs : List Edge) (x : Edge) → listed_edge x done ≡ true → listed_edge x (firsts done xs) ≡ true
unfolding firsts
firsts_keep done [] x h = h
firsts_keep done (y ∷ ys) x h = by_bool (listed_edge y done) (λ e. rw e (firsts_keep done ys x h)) (λ e. rw e (firsts_keep (done ++ y ∷ []) ys x (in_left x done (y ∷ []) h)))

has_firsts : (done xs : List Edge) (x : Edge) → listed_edge x xs ≡ true → listed_edge x (firsts done xs) ≡ true
unfolding firsts
has_firsts done [] x h = absurd (true≢false (sym h))
has_firsts done (y ∷ ys) x h =
    or_cases (same x y) (listed_edge x ys) h
    (λ s. let is : x ≡ y = same-eq x y s in
    by_bool (listed_edge y done)
    (λ e. rw e (firsts_keep done ys x (subst (λ z. listed_edge z done ≡ true) (sym is) e)))
    (λ e. rw e (firsts_keep (done ++ y ∷ []) ys x (in_right x done (y ∷ []) (or_left (same x y) false s)))))
    (λ t. by_bool (listed_edge y done) (λ e. rw e (has_firsts done ys x t)) (λ e. rw e (has_firsts (done ++ y ∷ []) ys x t)))

-- gates alone
pub only_gates : List Edge → List Edge
only_gates [] = []
only_gates (constant s ∷ xs) = only_gates xs
only_gates (input s k j ∷ xs) = only_gates xs
only_gates (gate s a b ∷ xs) = gate s a b ∷ only_gates xs

gates_apart : (x : Edge) (xs : List Edge) → AllByRecursion (λ y. same x y ≡ false) xs → AllByRecursion (λ y. same x y ≡ false) (only_gates xs)
unfolding only_gates
gates_apart x [] h = tt
gates_apart x (constant s ∷ xs) h = gates_apart x xs h.1
gates_apart x (input s k j ∷ xs) h = gates_apart x xs h.1
gates_apart x (gate s a b ∷ xs) h = (h.0, gates_apart x xs h.1)

gates_once : (xs : List Edge) → IsDistinct same xs → IsDistinct same (only_gates xs)
unfolding IsDistinct only_gates
gates_once [] d = tt
gates_once (constant s ∷ xs) d = gates_once xs d.1
gates_once (input s k j ∷ xs) d = gates_once xs d.1
gates_once (gate s a b ∷ xs) d = (gates_apart (gate s a b) xs d.0, gates_once xs d.1)

pub has_gates : (s : Bool) (a b : Edge) (xs : List Edge) → listed_edge (gate s a b) xs ≡ true → listed_edge (gate s a b) (only_gates xs) ≡ true
unfolding only_gates same
has_gates s a b [] h = absurd (true≢false (sym h))
has_gates s a b (constant t ∷ xs) h = has_gates s a b xs h
has_gates s a b (input t k j ∷ xs) h = has_gates s a b xs h
has_gates s a b (gate t c d ∷ xs) h = or_cases (same (gate s a b) (gate t c d)) (listed_edge (gate s a b) xs) h
    (λ e. or_left (same (gate s a b) (gate t c d)) (listed_edge (gate s a b) (only_gates xs)) e)
    (λ e. or_right (same (gate s a b) (gate t c d)) (listed_edge (gate s a b) (only_gates xs)) (has_gates s a b xs e))

pub gates_of : (xs : List Edge) (x : Edge) → listed_edge x (only_gates xs) ≡ true → listed_edge x xs ≡ true
unfolding only_gates
gates_of [] x h = h
gates_of (constant s ∷ xs) x h = or_right (same x (constant s)) (listed_edge x xs) (gates_of xs x h)
gates_of (input s k j ∷ xs) x h = or_right (same x (input s k j)) (listed_edge x xs) (gates_of xs x h)
gates_of (gate s a b ∷ xs) x h = or_cases (same x (gate s a b)) (listed_edge x (only_gates xs)) h
    (λ e. or_left (same x (gate s a b)) (listed_edge x xs) e) (λ e. or_right (same x (gate s a b)) (listed_edge x xs) (gates_of xs x e))

-- it is a gate
abbrev IsGateEdge : Edge → Type 0
IsGateEdge x = (s : Bool) × (a : Edge) × (b : Edge) × (x ≡ gate s a b)

gates_are : (xs : List Edge) (x : Edge) → listed_edge x (only_gates xs) ≡ true → IsGateEdge x
unfolding only_gates
gates_are [] x h = absurd (true≢false (sym h))
gates_are (constant s ∷ xs) x h = gates_are xs x h
gates_are (input s k j ∷ xs) x h = gates_are xs x h
gates_are (gate s a b ∷ xs) x h = or_cases (same x (gate s a b)) (listed_edge x (only_gates xs)) h (λ e. (s, a, b, same-eq x (gate s a b) e)) (λ e. gates_are xs x e)

-- what the walk comes to it completes, and the gates that it completes it came to
arrivals_are : (e x : Edge) → listed_edge x (arrivals e) ≡ true → IsGateEdge x × (listed_edge x (completions e) ≡ true)
unfolding arrivals completions
arrivals_are (constant s) x h = absurd (true≢false (sym h))
arrivals_are (input s k j) x h = absurd (true≢false (sym h))
arrivals_are (gate s a b) x h =
    or_cases (same x (gate false a b)) (listed_edge x (arrivals a ++ arrivals b)) h
    (λ e. ((false, a, b, same-eq x (gate false a b) e), in_right x (completions a ++ completions b) (gate false a b ∷ []) (or_left (same x (gate false a b)) false e)))
    (λ t. in_either x (arrivals a) (arrivals b) t
    (λ f. let r = arrivals_are a x f in (r.0, in_left x (completions a ++ completions b) (gate false a b ∷ []) (in_left x (completions a) (completions b) r.1)))
    (λ f. let r = arrivals_are b x f in (r.0, in_left x (completions a ++ completions b) (gate false a b ∷ []) (in_right x (completions a) (completions b) r.1))))

not_input : (x : Edge) (s : Bool) (k j : ℕ) → IsGateEdge x → x ≡ input s k j → ⊥
not_input x s k j g e = absurd (gate_input (sym g.3 ∙ e))
  where
    gate_input : {t : Bool} {a b : Edge} → gate t a b ≡ input s k j → ⊥
    gate_input e = cc

completed_came : (e x : Edge) → IsGateEdge x → listed_edge x (completions e) ≡ true → listed_edge x (arrivals e) ≡ true
unfolding arrivals completions
completed_came (constant s) x g h = absurd (true≢false (sym h))
completed_came (input s k j) x g h = absurd (not_input x false k j g (in_one x (input false k j) h))
completed_came (gate s a b) x g h =
    in_either x (completions a ++ completions b) (gate false a b ∷ []) h
    (λ t. or_right (same x (gate false a b)) (listed_edge x (arrivals a ++ arrivals b))
    (in_either x (completions a) (completions b) t (λ f. in_left x (arrivals a) (arrivals b) (completed_came a x g f)) (λ f. in_right x (arrivals a) (arrivals b) (completed_came b x g f))))
    (λ t. or_left (same x (gate false a b)) (listed_edge x (arrivals a ++ arrivals b)) (subst (λ z. same x z ≡ true) (in_one x (gate false a b) t) (same-self x)))

-- how many gates there are
count_gates : (ord xs : List Edge) → count_by is_gate (map (cone_node ord) xs) ≡ length (only_gates xs)
unfolding cone_node only_gates
count_gates ord [] = refl
count_gates ord (constant s ∷ xs) = sum_by-cons (λ n. cond (is_gate n) 1 0) (cone_node ord (constant s)) (map (cone_node ord) xs) ∙ (let e = count_gates ord xs in omega arith)
count_gates ord (input s k j ∷ xs) = sum_by-cons (λ n. cond (is_gate n) 1 0) (cone_node ord (input s k j)) (map (cone_node ord) xs) ∙ (let e = count_gates ord xs in omega arith)
count_gates ord (gate s a b ∷ xs) = sum_by-cons (λ n. cond (is_gate n) 1 0) (cone_node ord (gate s a b)) (map (cone_node ord) xs) ∙ (let e = count_gates ord xs in omega arith)

pub some_listed : (xs : List Edge) (x : Edge) → list_any (same x) xs ≡ true → listed_edge x xs ≡ true
some_listed xs x h = listed_is x xs ∙ h

pub came_in_order : (e x : Edge) → listed_edge x (cone_gates e) ≡ true → listed_edge x (only_gates (order e)) ≡ true
unfolding order
came_in_order e x h =
    let r = arrivals_are e x (firsts_of [] (arrivals e) x h) in
    let g = r.0 in
    subst (λ z. listed_edge z (only_gates (firsts [] (completions e))) ≡ true) (sym g.3)
    (has_gates g.0 g.1 g.2 (firsts [] (completions e)) (subst (λ z. listed_edge z (firsts [] (completions e)) ≡ true) g.3 (has_firsts [] (completions e) x r.1)))

pub order_came : (e x : Edge) → listed_edge x (only_gates (order e)) ≡ true → listed_edge x (cone_gates e) ≡ true
unfolding order
order_came e x h =
    let g = gates_are (firsts [] (completions e)) x h in
    has_firsts [] (arrivals e) x (completed_came e x g (firsts_of [] (completions e) x (gates_of (firsts [] (completions e)) x h)))

pub cones_agree : (e : Edge) → length (cone_gates e) ≡ gates_in (cone_nodes e)
unfolding cone_nodes order
cones_agree e =
    let came : List Edge = cone_gates e in
    let ours : List Edge = only_gates (order e) in
    let low : length came ≤ length ours = length-le_from_is_member same_equiv came ours (once_firsts [] (arrivals e) none_once) (λ x h. sym (listed_is x ours) ∙ came_in_order e x (some_listed came x h)) in
    let high : length ours ≤ length came = length-le_from_is_member same_equiv ours came (gates_once (firsts [] (completions e)) (once_firsts [] (completions e) none_once)) (λ x h. sym (listed_is x came) ∙ order_came e x (some_listed ours x h)) in
    le_antisymm low high ∙ sym (count_gates (order e) (order e))
