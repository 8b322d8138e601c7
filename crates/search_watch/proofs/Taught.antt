-- The clause that a conflict teaches, on the trail to which it is cut.
use Rattle.std.proofs.Common.{◌≡◌, ◌≢◌, ◌⊎◌, ℕ, ◌-◌, ◌<◌, ◌≤◌, Bool, true, false, not, ◌&&◌, cond, nat_eq, max, List, [], ◌∷◌, ◌++◌, length, map, fold, refl, ap, sym, ◌∙◌, subst, inl, inr, arith}
use Rattle.std.specs.List.{filter}
use Rattle.std.proofs.lemmas.Bool.{cases_Bool, cases_lt}
use Rattle.std.proofs.lemmas.Grind.{common_steps}
use Rattle.std.proofs.lemmas.List.{append-nil, append_assoc}
use Rattle.sat_form.specs.Literals.{Literal, member, negate, put, put_all, same_literal, set_of, without}
use Rattle.sat_form.proofs.Sets as sets
use Rattle.search_learn.specs.declared.Step.{Step}
use Rattle.search_learn.specs.Analysis.{Resolved, back_level, is_resolved, resolve_back, resolve_if}
use Rattle.search_learn.specs.Rule.{Continues}
use Rattle.search_learn.specs.Trail.{assigned, clause_false, cut, level, level_of}
use Rattle.search_learn.specs.Values.{IsOfMachine}
use Rattle.search_learn.proofs.Decisions.{are_reasoned, clash, false_before, some_member}
use Rattle.search_learn.proofs.Keeps.{lesson_false}
use Rattle.search_watch.specs.Chosen.{IsOpen}
use Rattle.search_watch.specs.Nets.{Net, IsNet, IsThere}
use Rattle.search_watch.specs.Visits.{clause_at, pair_at}
use Rattle.search_watch.specs.Watched.{is_false}
use Rattle.search_watch.proofs.Exact.{false-unsatisfied}
use Rattle.search_watch.proofs.Found.{consistent}
use Rattle.search_watch.proofs.Levels.{Stands, cut-false_is, cut-machine, false-cut, false-level, level-cut, stands-level, stands-member}
use Rattle.search_watch.proofs.PutIn.{put-here, put-keeps, without-keeps}

put_all-left : (s ls : List Literal) (k : Literal) → member s k ≡ true → member (put_all s ls) k ≡ true
put_all-left s [] k h = h
put_all-left s (l ∷ ls) k h = put_all-left (put s l) ls k (put-keeps s l k h)

put_all-right : (s ls : List Literal) (k : Literal) → member ls k ≡ true → member (put_all s ls) k ≡ true
put_all-right s [] k h = absurd (cc)
put_all-right s (l ∷ ls) k h = elim (sets.one_of (same_literal k l) (member ls k) h) [
  | inl here ↦ put_all-left (put s l) ls k (subst (λ (x : Literal). member (put s l) x ≡ true) (sym (sets.same_is k l here)) (put-here s l))
  | inr later ↦ put_all-right (put s l) ls k later
]

no-member : (c : List Literal) → ((k : Literal) → member c k ≡ true → ⊥) → c ≡ []
no-member [] none = refl
no-member (k ∷ c) none = absurd (none k (sets.either_left (same_literal k k) (member c k) (sets.same_itself k)))

-- A decision is above level 0.
decides-above : (lits_of : ℕ → List Literal) (vars : ℕ) (b later : List Step) (e : Step) → Continues lits_of vars b later → Stands later e → e.reason ≡ 0 → 0 < e.level
decides-above lits_of vars b [] e cont h zero = absurd h
decides-above lits_of vars b (x ∷ later) e cont (inl is) zero =
    let up = cont.0.decided (ap (λ (y : Step). y.reason) is ∙ zero) in
    let same = ap (λ (y : Step). y.level) is in
    omega arith
decides-above lits_of vars b (x ∷ later) e cont (inr deep) zero = decides-above lits_of vars (b ++ x ∷ []) later e cont.1 deep zero

module _ (lits_of : ℕ → List Literal) (vars : ℕ) (trail : List Step) (d : ℕ) (start : Resolved) where
  -- Where all entries are of level 0, what is left is false before them.
  all-left : (b later : List Step) → trail ≡ b ++ later → Continues lits_of vars b later → ((e : Step) → Stands later e → (e.level ≡ 0) × (e.reason ≢ 0)) → ((k : Literal) → member start.lits k ≡ true → is_false trail k ≡ true)
      → (k : Literal) → member (resolve_back lits_of trail d start later).lits k ≡ true → is_false b k ≡ true
  all-left b [] split cont zero all k has = ap (λ (t : List Step). is_false t k) (sym (append-nil b) ∙ sym split) ∙ all k has
  all-left b (e ∷ later) split cont zero all k has =
      let r = resolve_back lits_of trail d start later in
      let deep = all-left (b ++ e ∷ []) later (split ∙ sym (append_assoc b (e ∷ []) later)) cont.1 (λ x h. zero x (inr h)) all in
      let here = zero e (inl refl) in
      elim (is_resolved lits_of trail d r.lits e) as (λ t. is_resolved lits_of trail d r.lits e ≡ t → member (resolve_if lits_of trail d t r e).lits k ≡ true → is_false b k ≡ true) [
        | true ↦ λ resolved one. elim (sets.member_put_all (without r.lits (negate e.lit)) (without (lits_of e.reason) e.lit) k one) [
          | inl kept ↦ elim (false_before lits_of vars trail b e k (deep k (sets.member_without r.lits (negate e.lit) k kept))) [
            | inl old ↦ old
            | inr is ↦ sets.absurd_bool (sets.without_itself r.lits (negate e.lit) (ap (member (without r.lits (negate e.lit))) (sym is) ∙ kept))
          ]
          | inr new ↦ sets.member_all (is_false b) (without (lits_of e.reason) e.lit) k (sets.others_false (assigned b) (lits_of e.reason) e.lit (cont.0.implied here.1)) new
        ]
        | false ↦ λ passed one. elim (false_before lits_of vars trail b e k (deep k one)) [
          | inl old ↦ old
          | inr is ↦ clash (is_resolved lits_of trail d r.lits e) (sets.join _ _ (ap (member r.lits) (sym is) ∙ one) (sets.either_left (nat_eq e.level 0) _ (ap (λ n. nat_eq n 0) here.0 ∙ sets.nat_itself 0))) passed
        ]
      ] refl has

  -- A literal of the current level is left.
  abbrev HasCurrent : List Literal → Type 0
  HasCurrent c = (k : Literal) × (member c k ≡ true) × (level_of trail k ≡ d)

  current-left : (later : List Step) → ((e : Step) → Stands later e → level_of trail (negate e.lit) ≡ e.level) → d ≢ 0 → HasCurrent start.lits → HasCurrent (resolve_back lits_of trail d start later).lits
  current-left [] own above has = has
  current-left (e ∷ later) own above has =
      let r = resolve_back lits_of trail d start later in
      let deep = current-left later (λ x h. own x (inr h)) above has in
      let here = own e (inl refl) in
      elim (is_resolved lits_of trail d r.lits e) as (λ t. is_resolved lits_of trail d r.lits e ≡ t → HasCurrent (resolve_if lits_of trail d t r e).lits) [
        | false ↦ λ _. deep
        | true ↦ λ resolved. elim (sets.one_of (nat_eq e.level 0) _ (sets.both (member r.lits (negate e.lit)) _ resolved).1) [
          | inl zero ↦
              let apart : deep.0 ≢ negate e.lit = λ is. above (sym deep.2 ∙ ap (level_of trail) is ∙ here ∙ sets.nat_is e.level 0 zero) in
              (deep.0, put_all-left (without r.lits (negate e.lit)) (without (lits_of e.reason) e.lit) deep.0 (without-keeps r.lits (negate e.lit) deep.0 apart deep.1), deep.2)
          | inr current ↦
              let one = some_member (λ k. nat_eq (level_of trail k) d) (without r.lits (negate e.lit)) (sets.both (nat_eq e.level d) _ current).1 in
              (one.0, put_all-left (without r.lits (negate e.lit)) (without (lits_of e.reason) e.lit) one.0 one.1, sets.nat_is (level_of trail one.0) d one.2)
        ]
      ] refl

-- What a clause that was learnt on a trail has.
pub record IsTaughtBy (t : List Step) (c : List Literal) : Type 0 where
  pub wrong : (k : Literal) → member c k ≡ true → is_false t k ≡ true
  pub lit : Literal
  pub here : member c lit ≡ true
  pub current : level_of t lit ≡ level t
  pub above : 0 < level t

some-unfalse : (t : List Step) (c : List Literal) → clause_false t c ≡ false → (k : Literal) × (member c k ≡ true) × (is_false t k ≡ false)
some-unfalse t [] h = absurd (cc)
some-unfalse t (l ∷ c) h = elim (cases_Bool (is_false t l)) [
  | inr free ↦ (l, sets.either_left (same_literal l l) (member c l) (sets.same_itself l), free)
  | inl wrong ↦ let deep = some-unfalse t c (sym (ap (λ (b : Bool). b && clause_false t c) wrong) ∙ h) in (deep.0, sets.either_right (same_literal deep.0 l) (member c deep.0) deep.1, deep.2)
]

-- A clause that is false has a literal of the current level.
false-current : (vars : ℕ) (t : List Step) (n : Net) (j : ℕ) → IsNet vars t [] n → IsOfMachine vars t → 0 < level t → j < length n.clauses → clause_false t (clause_at n.clauses j) ≡ true
    → (k : Literal) × (member (clause_at n.clauses j) k ≡ true) × (level_of t k ≡ level t)
false-current vars t n j net machine above low wrong =
    let c = clause_at n.clauses j in
    let k = level t - 1 in
    let some : c ≢ [] = λ e. let none : level t ≡ 0 = ap level (net.fresh j low e) in absurd (omega arith) in
    let there : IsThere n.clauses j = record { within = low; some = some } in
    let calm = net.calm j there k (omega arith) in
    let pair = (net.looked j there).pair in
    let free : clause_false (cut k t) c ≡ false = elim (cases_Bool (clause_false (cut k t) c)) as (λ _. clause_false (cut k t) c ≡ false) [
      | inr h ↦ h
      | inl all ↦ absurd (false-unsatisfied (cut k t) c (consistent vars (cut k t) (cut-machine vars k t machine)) all (calm.first (sets.member_all (is_false (cut k t)) c (pair_at n.pairs j).first all pair.first)))
    ] in
    let one = some-unfalse (cut k t) c free in
    let bad = sets.member_all (is_false t) c one.0 wrong one.1 in
    let most = false-level vars t one.0 machine bad in (
      one.0,
      one.1,
      elim (cases_lt k (level_of t one.0)) as (λ _. level_of t one.0 ≡ level t) [
        | inl over ↦ omega arith
        | inr under ↦ clash (is_false (cut k t) one.0) (false-cut vars k t one.0 machine bad under) one.2
      ],
    )

pub taught-by : (vars : ℕ) (t : List Step) (n : Net) (j : ℕ) (lits_of : ℕ → List Literal) → IsNet vars t [] n → (cont : Continues lits_of vars [] t) → j < length n.clauses → clause_false t (clause_at n.clauses j) ≡ true
    → (c : List Literal) → c ≡ (resolve_back lits_of t (level t) (record { lits = set_of (clause_at n.clauses j); used = [] }) t).lits → c ≢ [] → IsTaughtBy t c
taught-by vars t n j lits_of net cont low wrong c is some =
    let machine : IsOfMachine vars t = (lits_of, cont) in
    let d = level t in
    let c0 = clause_at n.clauses j in
    let start : Resolved = record { lits = set_of c0; used = [] } in
    let all = λ (k : Literal) (h : member start.lits k ≡ true). sets.member_all (is_false t) c0 k wrong (sets.set_of_member c0 k h) in
    let reasoned = are_reasoned lits_of vars t d start [] t refl cont (λ k h. absurd (cc)) refl all in
    let falses = λ (k : Literal) (h : member c k ≡ true). lesson_false lits_of vars t d start all [] t refl cont reasoned k (subst (λ (x : List Literal). member x k ≡ true) is h) in
    let own = λ (e : Step) (h : Stands t e). stands-level vars t e machine h in
    let above : 0 < d = elim (cases_lt 0 d) as (λ _. 0 < d) [
      | inl h ↦ h
      | inr none ↦
          let zero : (e : Step) → Stands t e → (e.level ≡ 0) × (e.reason ≢ 0) = λ e h.
          let wrong2 : is_false t (negate e.lit) ≡ true = ap (member (assigned t)) (sets.negate_twice e.lit) ∙ stands-member t e h in
          let most = false-level vars t (negate e.lit) machine wrong2 in
          let here = own e h in
          let flat : e.level ≡ 0 = omega arith in
          (flat, λ z. let up = decides-above lits_of vars [] t e cont h z in absurd (omega arith)) in
          let left = all-left lits_of vars t d start [] t refl cont zero all in
          absurd (some (is ∙ no-member _ (λ k h. absurd (cc (left k h)))))
    ] in
    let first = false-current vars t n j net machine above low wrong in
    let one = current-left lits_of vars t d start t own (λ z. absurd (omega (arith, z))) (first.0, put_all-right [] c0 first.0 first.1, first.2) in
    record { wrong = falses; lit = one.0; here = subst (λ (x : List Literal). member x one.0 ≡ true) (sym is) one.1; current = one.2; above = above }

-- The level to which the trail is cut.
back-low : (t : List Step) (d : ℕ) (c : List Literal) (a : ℕ) → a < d → ((k : Literal) → member c k ≡ true → level_of t k ≤ d) → fold max a (filter (λ n. not (nat_eq n d)) (map (level_of t) c)) < d
back-low t d [] a low each = low
back-low t d (l ∷ c) a low each =
    let later = λ (k : Literal) (h : member c k ≡ true). each k (sets.either_right (same_literal k l) (member c k) h) in
    let here = each l (sets.either_left (same_literal l l) (member c l) (sets.same_itself l)) in
    elim (nat_eq (level_of t l) d) as (λ b. nat_eq (level_of t l) d ≡ b → fold max a (cond (not b) (level_of t l ∷ filter (λ n. not (nat_eq n d)) (map (level_of t) c)) (filter (λ n. not (nat_eq n d)) (map (level_of t) c))) < d) [
      | true ↦ λ _. back-low t d c a low later
      | false ↦ λ other. let apart = differs (level_of t l) d other in back-low t d c (max a (level_of t l)) (omega arith) later
    ] refl
  where
    differs : (m n : ℕ) → nat_eq m n ≡ false → m ≢ n
    differs m n h = grind (arith, common_steps)

max-one : (a x : ℕ) → (max a x ≡ a) ⊎ (max a x ≡ x)
max-one a x = elim (cases_lt a x) as (λ _. (max a x ≡ a) ⊎ (max a x ≡ x)) [ inl h ↦ inr (omega arith) | inr h ↦ inl (omega arith) ]

back-attained : (t : List Step) (d : ℕ) (c : List Literal) (a b : ℕ) → b ≡ fold max a (filter (λ n. not (nat_eq n d)) (map (level_of t) c)) → (b ≡ a) ⊎ ((k : Literal) × (member c k ≡ true) × (level_of t k ≡ b))
back-attained t d [] a b is = inl is
back-attained t d (l ∷ c) a b is =
    let rest = filter (λ n. not (nat_eq n d)) (map (level_of t) c) in
    let deeper : ((k : Literal) × (member c k ≡ true) × (level_of t k ≡ b)) → (k : Literal) × (member (l ∷ c) k ≡ true) × (level_of t k ≡ b) = λ found. (found.0, sets.either_right (same_literal found.0 l) (member c found.0) found.1, found.2) in
    elim (nat_eq (level_of t l) d) as (λ e. b ≡ fold max a (cond (not e) (level_of t l ∷ rest) rest) → (b ≡ a) ⊎ ((k : Literal) × (member (l ∷ c) k ≡ true) × (level_of t k ≡ b))) [
      | true ↦ λ same. elim (back-attained t d c a b same) [ inl none ↦ inl none | inr found ↦ inr (deeper found) ]
      | false ↦ λ same. elim (back-attained t d c (max a (level_of t l)) b same) [
        | inr found ↦ inr (deeper found)
        | inl e ↦ elim (max-one a (level_of t l)) [
          | inl old ↦ inl (e ∙ old)
          | inr new ↦ inr (l, sets.either_left (same_literal l l) (member c l) (sets.same_itself l), sym new ∙ sym e)
        ]
      ]
    ] is

pub back-below : (vars : ℕ) (t : List Step) (c : List Literal) → IsOfMachine vars t → IsTaughtBy t c → back_level t (level t) c < level t
back-below vars t c machine taught = back-low t (level t) c 0 taught.above (λ k h. false-level vars t k machine (taught.wrong k h))

pub taught-open : (vars : ℕ) (t : List Step) (c : List Literal) → IsOfMachine vars t → IsTaughtBy t c → 0 < level (cut (back_level t (level t) c) t) → IsOpen (cut (back_level t (level t) c) t) c
taught-open vars t c machine taught above =
    let b = back_level t (level t) c in
    let low = back-below vars t c machine taught in
    let high = level-cut vars b t machine in
    let found : (k : Literal) × (member c k ≡ true) × (level_of t k ≡ b) = elim (back-attained t (level t) c 0 b refl) [ inl none ↦ absurd (omega (arith, none)) | inr found ↦ found ] in
    let at = found.2 in
    let wrong = false-cut vars b t found.0 machine (taught.wrong found.0 found.1) (omega arith) in
    let same = (cut-false_is vars b t found.0 machine wrong).same in
    let current = taught.current in
    record {
      free = elim (cases_Bool (clause_false (cut b t) c)) as (λ _. clause_false (cut b t) c ≡ false) [
        | inr h ↦ h
        | inl all ↦ let under = (cut-false_is vars b t taught.lit machine (sets.member_all (is_false (cut b t)) c taught.lit all taught.here)).low in absurd (omega arith)
      ];
      lit = found.0;
      member = found.1;
      wrong = wrong;
      current = omega arith;
    }
