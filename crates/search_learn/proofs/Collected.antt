-- What is left of a false clause, collected along the trail and put in order, is the learnt clause.
use Rattle.std.proofs.Common.{◌≡◌, ℕ, suc, ◌+◌, ◌-◌, ◌*◌, ◌<◌, ◌≤◌, Bool, true, false, not, ◌&&◌, ◌||◌, cond, nat_eq, nat_lt, max, List, [], ◌∷◌, ◌++◌, length, map, get_or, take, drop, refl, ap, sym, ◌∙◌, subst, arith, inl, inr, take-append-drop}
use Rattle.std.specs.List.{filter, fold}
use Rattle.std.specs.List.Sorted.{IsNonDecreasingBy, IsPermutation}
use Rattle.std.proofs.lemmas.Bool.{cases_Bool}
use Rattle.std.proofs.lemmas.Grind.{common_steps}
use Rattle.std.proofs.lemmas.List.{append-nil, append_assoc, drop_more}
use Rattle.std.proofs.lemmas.List.Folds.{list_any-append}
use Rattle.std.proofs.lemmas.List.Sorted.{sum_by-IsPermutation}
use Rattle.std.proofs.lemmas.List.Sums.{sum_by-append, sum_by-cons}
use Rattle.sat_form.specs.Literals.{Literal, member, negate, put_all, same_literal, same_sign, without}
use Rattle.sat_form.proofs.Sets as sets
use Rattle.search_learn.specs.declared.Step.{Step}
use Rattle.search_learn.specs.Analysis.{Lesson, Resolved, lesson, resolve_back}
use Rattle.search_learn.specs.Cases.{times}
use Rattle.search_learn.specs.Marks.{key, Ordered, AreFalse, IsListing}
use Rattle.search_learn.specs.Rule.{Continues, IsTrail}
use Rattle.search_learn.specs.Trail.{assigned, is_assigned, level_of}
use Rattle.search_learn.specs.Values.{AreLevels}
use Rattle.search_learn.proofs.Cutting.{gone}
use Rattle.search_learn.proofs.Entries.{assigned_last}
use Rattle.search_learn.proofs.Marks.{put_all_other, without_other}
use Rattle.search_learn.proofs.Ordered.{lower}
use Rattle.search_learn.proofs.Reach.{assigned_append}
use Rattle.search_learn.proofs.Decisions.{clash}
use Rattle.search_learn.proofs.SameSets.{any_counted, ordered_same}

-- A variable stands once on a trail.
module _ (clause_of : ℕ → List Literal) (vars : ℕ) where
  continues_rest : (before a b : List Step) → Continues clause_of vars before (a ++ b) → Continues clause_of vars (before ++ a) b
  continues_rest before [] b cont = subst (λ (x : List Step). Continues clause_of vars x b) (sym (append-nil before)) cont
  continues_rest before (e ∷ a) b cont = subst (λ (x : List Step). Continues clause_of vars x b) (append_assoc before (e ∷ []) a) (continues_rest (before ++ e ∷ []) a b cont.1)

  later_none : (before later : List Step) (l : Literal) → Continues clause_of vars before later → member (assigned before) l ≡ true → times l.var (assigned later) ≡ 0
  later_none before [] l cont has = refl
  later_none before (e ∷ later) l cont has =
      let first = sum_by-cons (λ (x : Literal). cond (nat_eq x.var l.var) 1 0) e.lit (assigned later) in
      let deep = later_none (before ++ e ∷ []) later l cont.1 (assigned_append before (e ∷ []) l has) in
      elim (nat_eq e.lit.var l.var) as (λ b. nat_eq e.lit.var l.var ≡ b → times l.var (assigned (e ∷ later)) ≡ cond b 1 0 + times l.var (assigned later) → times l.var (assigned (e ∷ later)) ≡ 0) [
        | true ↦ λ same _. clash (member (assigned before) l) has (gone before l e.lit cont.0.new (sym (sets.nat_is e.lit.var l.var same)))
        | false ↦ λ _ count. omega arith
      ] refl first

  pub trail_once : (before later : List Step) (v : ℕ) → Continues clause_of vars before later → times v (assigned later) ≤ 1
  trail_once before [] v cont = omega arith
  trail_once before (e ∷ later) v cont =
      let first = sum_by-cons (λ (x : Literal). cond (nat_eq x.var v) 1 0) e.lit (assigned later) in
      elim (nat_eq e.lit.var v) as (λ b. nat_eq e.lit.var v ≡ b → times v (assigned (e ∷ later)) ≡ cond b 1 0 + times v (assigned later) → times v (assigned (e ∷ later)) ≤ 1) [
        | true ↦ λ same count.
            let none : times v (assigned later) ≡ 0 = subst (λ (n : ℕ). times n (assigned later) ≡ 0) (sets.nat_is e.lit.var v same) (later_none (before ++ e ∷ []) later e.lit cont.1 (assigned_last before e)) in
            omega arith
        | false ↦ λ _ count. let deep = trail_once (before ++ e ∷ []) later v cont.1 in omega arith
      ] refl first

none_times : (s : List Literal) (l : Literal) → times l.var s ≡ 0 → member s l ≡ false
none_times [] l none = refl
none_times (k ∷ s) l none =
    let first = sum_by-cons (λ (x : Literal). cond (nat_eq x.var l.var) 1 0) k s in
    elim (nat_eq k.var l.var) as (λ b. nat_eq k.var l.var ≡ b → times l.var (k ∷ s) ≡ cond b 1 0 + times l.var s → member (k ∷ s) l ≡ false) [
      | true ↦ λ same count. absurd (omega arith)
      | false ↦ λ differ count. ap (λ b. (b && same_sign l.positive k.positive) || member s l) (flip l.var k.var differ) ∙ none_times s l (omega arith)
    ] refl first
  where
    flip : (m n : ℕ) → nat_eq n m ≡ false → nat_eq m n ≡ false
    flip m n h = elim (nat_eq m n) as (λ b. nat_eq m n ≡ b → b ≡ false) [
      | true ↦ λ same. clash (nat_eq n m) (ap (λ x. nat_eq x m) (sym (sets.nat_is m n same)) ∙ sets.nat_itself m) h
      | false ↦ λ _. refl
    ] refl

-- An entry of a trail, and those behind it.
pub record IsApart (trail : List Step) (i : ℕ) (e : Step) : Type 0 where
  pub rest : drop i trail ≡ e ∷ drop (i + 1) trail
  pub own : member (assigned (drop (i + 1) trail)) e.lit ≡ false
  pub before : (l : Literal) → member (assigned (take i trail)) l ≡ true → (member (assigned (drop (i + 1) trail)) l ≡ false) × (same_literal l e.lit ≡ false)

pub entry_apart : (clause_of : ℕ → List Literal) (vars : ℕ) (trail : List Step) (i : ℕ) (e : Step) → IsTrail clause_of vars trail → i < length trail → e ≡ get_or trail i e → IsApart trail i e
entry_apart clause_of vars trail i e machine inside is =
    let front = take i trail in
    let later = drop (i + 1) trail in
    let rest : drop i trail ≡ e ∷ later = drop_more trail i e inside ∙ ap (λ x. x ∷ later) (sym is) in
    let split : trail ≡ front ++ e ∷ later = sym (take-append-drop i trail) ∙ ap (λ x. front ++ x) rest in
    let cont : Continues clause_of vars front (e ∷ later) = continues_rest clause_of vars [] front (e ∷ later) (subst (λ (x : List Step). Continues clause_of vars [] x) split machine) in
    record {
      rest = rest;
      own = none_times (assigned later) e.lit (later_none clause_of vars (front ++ e ∷ []) later e.lit cont.1 (assigned_last front e));
      before = λ l has. (
        none_times (assigned later) l (later_none clause_of vars (front ++ e ∷ []) later l cont.1 (assigned_append front (e ∷ []) l has)),
        elim (same_literal l e.lit) as (λ b. same_literal l e.lit ≡ b → b ≡ false) [
          | true ↦ λ same. clash (member (assigned front) l) has (gone front l e.lit cont.0.new (ap (λ (x : Literal). x.var) (sets.same_is l e.lit same)))
          | false ↦ λ _. refl
        ] refl,
      );
    }

-- What is listed along the trail: those of the set that stand behind a place.
abbrev pub AreListed : List Literal → List Literal → List Step → Type 0
AreListed lits s later = (k : Literal) → member lits k ≡ (member s k && member (assigned later) (negate k))

abbrev pub AreFewer : List Literal → List Step → Type 0
AreFewer lits later = (v : ℕ) → times v lits ≤ times v (assigned later)

same_negated : (k l : Literal) → same_literal (negate k) l ≡ same_literal k (negate l)
same_negated k l = ap (λ b. nat_eq k.var l.var && b) (signs k.positive l.positive)
  where
    signs : (a b : Bool) → same_sign (not a) b ≡ same_sign a (not b)
    signs true true = refl
    signs true false = refl
    signs false true = refl
    signs false false = refl

pub listed_kept : (lits s : List Literal) (later : List Step) (e : Step) → member s (negate e.lit) ≡ true → AreListed lits s later → AreListed (lits ++ negate e.lit ∷ []) s (e ∷ later)
listed_kept lits s later e has listed = λ k.
    let n = negate e.lit in
    let p = member (assigned later) (negate k) in
    list_any-append (same_literal k) lits (n ∷ [])
    ∙ ap (λ b. b || (same_literal k n || false)) (listed k)
    ∙ elim (same_literal k n) as (λ b. same_literal k n ≡ b → ((member s k && p) || (b || false)) ≡ (member s k && (b || p))) [
      | true ↦ λ same. here (member s k) p (ap (member s) (sets.same_is k n same) ∙ has)
      | false ↦ λ _. there (member s k && p)
    ] refl
    ∙ ap (λ b. member s k && (b || p)) (sym (same_negated k e.lit))
  where
    here : (m p : Bool) → m ≡ true → ((m && p) || (true || false)) ≡ (m && (true || p))
    here true true h = refl
    here true false h = refl
    here false p h = absurd (cc)

    there : (x : Bool) → (x || (false || false)) ≡ x
    there true = refl
    there false = refl

pub listed_passed : (lits s : List Literal) (later : List Step) (e : Step) → member s (negate e.lit) ≡ false → AreListed lits s later → AreListed lits s (e ∷ later)
listed_passed lits s later e hasnt listed = λ k.
    let n = negate e.lit in
    let p = member (assigned later) (negate k) in
    listed k
    ∙ elim (same_literal k n) as (λ b. same_literal k n ≡ b → (member s k && p) ≡ (member s k && (b || p))) [
      | true ↦ λ same. here (member s k) p (ap (member s) (sets.same_is k n same) ∙ hasnt)
      | false ↦ λ _. refl
    ] refl
    ∙ ap (λ b. member s k && (b || p)) (sym (same_negated k e.lit))
  where
    here : (m p : Bool) → m ≡ false → (m && p) ≡ (m && (true || p))
    here true p h = absurd (cc)
    here false p h = refl

-- the set behind a resolution: what goes isn't listed, nor is what comes in
pub listed_resolved : (lits s others : List Literal) (trail : List Step) (i : ℕ) (e : Step) → IsApart trail i e → ((l : Literal) → member others l ≡ true → member (assigned (take i trail)) (negate l) ≡ true)
    → AreListed lits s (drop (i + 1) trail) → AreListed lits (put_all (without s (negate e.lit)) others) (e ∷ drop (i + 1) trail)
listed_resolved lits s others trail i e parts known listed = λ k.
    let later = drop (i + 1) trail in
    let n = negate e.lit in
    let r = put_all (without s n) others in
    let p = member (assigned later) (negate k) in
    listed k
    ∙ elim (same_literal k n) as (λ b. same_literal k n ≡ b → (member s k && p) ≡ (member r k && (b || p))) [
      | true ↦ λ same.
          let is = sets.same_is k n same in
          here (member s k) (member r k) p (ap (λ (x : Literal). member (assigned later) (negate x)) is ∙ ap (member (assigned later)) (sets.negate_twice e.lit) ∙ parts.own) (ap (member r) is ∙ gone_for_good)
      | false ↦ λ differ. there (member s k) (member r k) p (λ behind. sym (stays k differ behind))
    ] refl
    ∙ ap (λ b. member r k && (b || p)) (sym (same_negated k e.lit))
  where
    here : (m r p : Bool) → p ≡ false → r ≡ false → (m && p) ≡ (r && (true || p))
    here true r true h g = absurd (cc)
    here true r false h g = sym (ap (λ b. b && true) g)
    here false r p h g = sym (ap (λ b. b && true) g)

    there : (m r p : Bool) → (p ≡ true → m ≡ r) → (m && p) ≡ (r && (false || p))
    there m r true h = ap (λ b. b && true) (h refl)
    there true true false h = refl
    there true false false h = refl
    there false true false h = refl
    there false false false h = refl

    not_other : (l : Literal) → member others l ≡ true → (member (assigned (drop (i + 1) trail)) (negate l) ≡ false) × (same_literal (negate l) e.lit ≡ false)
    not_other l has = parts.before (negate l) (known l has)

    gone_for_good : member (put_all (without s (negate e.lit)) others) (negate e.lit) ≡ false
    gone_for_good = elim (cases_Bool (member (put_all (without s (negate e.lit)) others) (negate e.lit))) as (λ _. member (put_all (without s (negate e.lit)) others) (negate e.lit) ≡ false) [
      | inr absent ↦ absent
      | inl has ↦ elim (sets.member_put_all (without s (negate e.lit)) others (negate e.lit) has) as (λ _. member (put_all (without s (negate e.lit)) others) (negate e.lit) ≡ false) [
        | inl old ↦ absurd (sets.absurd_bool (sets.without_itself s (negate e.lit) old))
        | inr new ↦ clash (same_literal (negate (negate e.lit)) e.lit) (ap (λ (x : Literal). same_literal x e.lit) (sets.negate_twice e.lit) ∙ sets.same_itself e.lit) (not_other (negate e.lit) new).1
      ]
    ]

    stays : (k : Literal) → same_literal k (negate e.lit) ≡ false → member (assigned (drop (i + 1) trail)) (negate k) ≡ true → member (put_all (without s (negate e.lit)) others) k ≡ member s k
    stays k differ behind = put_all_other (without s (negate e.lit)) others k (λ has. clash (member (assigned (drop (i + 1) trail)) (negate k)) behind (not_other k has).0)
        ∙ without_other s (negate e.lit) k (λ is. clash (same_literal k (negate e.lit)) (ap (λ (x : Literal). same_literal x (negate e.lit)) is ∙ sets.same_itself (negate e.lit)) differ)

pub fewer_kept : (lits : List Literal) (later : List Step) (e : Step) → AreFewer lits later → AreFewer (lits ++ negate e.lit ∷ []) (e ∷ later)
fewer_kept lits later e fewer = λ v.
    let h = fewer v in
    let a : times v (lits ++ negate e.lit ∷ []) ≡ times v lits + times v (negate e.lit ∷ []) = sum_by-append (λ (x : Literal). cond (nat_eq x.var v) 1 0) lits (negate e.lit ∷ []) in
    let b : times v (negate e.lit ∷ []) ≡ cond (nat_eq e.lit.var v) 1 0 + 0 = sum_by-cons (λ (x : Literal). cond (nat_eq x.var v) 1 0) (negate e.lit) [] in
    let c : times v (assigned (e ∷ later)) ≡ cond (nat_eq e.lit.var v) 1 0 + times v (assigned later) = sum_by-cons (λ (x : Literal). cond (nat_eq x.var v) 1 0) e.lit (assigned later) in
    omega arith

pub fewer_passed : (lits : List Literal) (later : List Step) (e : Step) → AreFewer lits later → AreFewer lits (e ∷ later)
fewer_passed lits later e fewer = λ v.
    let h = fewer v in
    let c : times v (assigned (e ∷ later)) ≡ cond (nat_eq e.lit.var v) 1 0 + times v (assigned later) = sum_by-cons (λ (x : Literal). cond (nat_eq x.var v) 1 0) e.lit (assigned later) in
    omega arith

-- The same where an entry is resolved, kept or passed.
module _ (clause_of : ℕ → List Literal) (vars : ℕ) (t : List Step) (d : ℕ) (start : Resolved) (machine : IsTrail clause_of vars t)
    (i left : ℕ) (e : Step) (r : Resolved) (lits : List Literal) (inside : i < length t) (is : e ≡ get_or t i e) (next : left ≡ i + 1)
    (listed : AreListed lits r.lits (drop left t)) (fewer : AreFewer lits (drop left t)) where
  abbrev pub AreCollected : List Literal → Type 0
  AreCollected now = AreListed now (resolve_back clause_of t d start (drop i t)).lits (drop i t) × AreFewer now (drop i t)

  apart : IsApart t i e
  apart = entry_apart clause_of vars t i e machine inside is

  here : AreListed lits r.lits (drop (i + 1) t)
  here = subst (λ (n : ℕ). AreListed lits r.lits (drop n t)) next listed

  fewer_here : AreFewer lits (drop (i + 1) t)
  fewer_here = subst (λ (n : ℕ). AreFewer lits (drop n t)) next fewer

  collected_by : (now : List Literal) (s : Resolved) → resolve_back clause_of t d start (drop i t) ≡ s → AreListed now s.lits (e ∷ drop (i + 1) t) → AreFewer now (e ∷ drop (i + 1) t) → AreCollected now
  collected_by now s same a b = (
    subst (λ (x : List Step). AreListed now (resolve_back clause_of t d start (drop i t)).lits x) (sym apart.rest) (subst (λ (x : Resolved). AreListed now x.lits (e ∷ drop (i + 1) t)) (sym same) a),
    subst (AreFewer now) (sym apart.rest) b,
  )

  pub collected_resolved : (others : List Literal) (used : List ℕ) → AreFalse (take i t) others → resolve_back clause_of t d start (drop i t) ≡ record { lits = put_all (without r.lits (negate e.lit)) others; used = used } → AreCollected lits
  collected_resolved others used known same =
      collected_by lits (record { lits = put_all (without r.lits (negate e.lit)) others; used = used }) same (listed_resolved lits r.lits others t i e apart known here) (fewer_passed lits (drop (i + 1) t) e fewer_here)

  pub collected_kept : resolve_back clause_of t d start (drop i t) ≡ r → member r.lits (negate e.lit) ≡ true → AreCollected (lits ++ negate e.lit ∷ [])
  collected_kept same has = collected_by (lits ++ negate e.lit ∷ []) r same (listed_kept lits r.lits (drop (i + 1) t) e has here) (fewer_kept lits (drop (i + 1) t) e fewer_here)

  pub collected_passed : resolve_back clause_of t d start (drop i t) ≡ r → member r.lits (negate e.lit) ≡ false → AreCollected lits
  collected_passed same hasnt = collected_by lits r same (listed_passed lits r.lits (drop (i + 1) t) e hasnt here) (fewer_passed lits (drop (i + 1) t) e fewer_here)

-- At the trail's beginning all of the set is listed.
pub listing : (clause_of : ℕ → List Literal) (vars : ℕ) (lits s : List Literal) (trail : List Step) → IsTrail clause_of vars trail → ((k : Literal) → member s k ≡ true → member (assigned trail) (negate k) ≡ true)
    → AreListed lits s trail → AreFewer lits trail → IsListing s lits
listing clause_of vars lits s trail machine falsified listed fewer = record {
  members = λ k. listed k ∙ elim (member s k) as (λ b. member s k ≡ b → (b && member (assigned trail) (negate k)) ≡ b) [ true ↦ λ has. falsified k has | false ↦ λ _. refl ] refl;
  once = λ v. let a = fewer v in let b = trail_once clause_of vars [] trail v machine in omega arith;
}

-- A set is in order once its literals are by their variables.
rises : (v w : ℕ) (a b : Bool) → v < w → 2 * v + cond a 1 0 + 1 ≤ 2 * w + cond b 1 0
rises v w true true h = omega arith
rises v w true false h = omega arith
rises v w false true h = omega arith
rises v w false false h = omega arith

ordered_once : (k : Literal) (s : List Literal) → IsNonDecreasingBy (λ (l : Literal). l.var) (k ∷ s) → ((v : ℕ) → times v (k ∷ s) ≤ 1) → Ordered (key k) (k ∷ s)
ordered_once k [] up once = (omega arith, tt)
ordered_once k (l ∷ s) up once =
    let deep = ordered_once l s (λ i j d le inside. up (suc i) (suc j) d (omega arith) (omega arith)) fewer in
    (omega arith, lower (key k + 1) (key l) (l ∷ s) (rises k.var l.var k.positive l.positive above) deep)
  where
    first : (v : ℕ) → times v (k ∷ l ∷ s) ≡ cond (nat_eq k.var v) 1 0 + times v (l ∷ s)
    first v = sum_by-cons (λ (x : Literal). cond (nat_eq x.var v) 1 0) k (l ∷ s)

    fewer : (v : ℕ) → times v (l ∷ s) ≤ 1
    fewer v = let a = first v in let b = once v in omega arith

    apart_above : (m n : ℕ) → m ≤ n → nat_eq n m ≡ false → m < n
    apart_above m n le differ = grind (arith, common_steps)

    above : k.var < l.var
    above =
        let le : k.var ≤ l.var = up 0 1 k (omega arith) (omega arith) in
        let a = first k.var in
        let b = sum_by-cons (λ (x : Literal). cond (nat_eq x.var k.var) 1 0) l s in
        let c = once k.var in
        let own : ◌≡◌ {A = ℕ} (cond (nat_eq k.var k.var) 1 0) 1 = ap (λ (x : Bool). cond x 1 0) (sets.nat_itself k.var) in
        elim (nat_eq l.var k.var) as (λ t. nat_eq l.var k.var ≡ t → times k.var (l ∷ s) ≡ cond t 1 0 + times k.var s → k.var < l.var) [
          | true ↦ λ _ count. absurd (omega arith)
          | false ↦ λ differ _. apart_above k.var l.var le differ
        ] refl b

pub sorted_same : (s a b : List Literal) → Ordered 0 s → IsListing s a → IsPermutation a b → IsNonDecreasingBy (λ (l : Literal). l.var) b → b ≡ s
sorted_same s a b o list moved up = ordered_same 0 b s (in_order b up (λ v. let h = list.once v in let e = sum_by-IsPermutation (λ (x : Literal). cond (nat_eq x.var v) 1 0) a b moved in omega arith)) o (λ k. any_counted (same_literal k) b
    ∙ ap (nat_lt 0) (sum_by-IsPermutation (λ (x : Literal). cond (same_literal k x) 1 0) a b moved)
    ∙ sym (any_counted (same_literal k) a)
    ∙ list.members k)
  where
    in_order : (c : List Literal) → IsNonDecreasingBy (λ (l : Literal). l.var) c → ((v : ℕ) → times v c ≤ 1) → Ordered 0 c
    in_order [] up once = tt
    in_order (k ∷ c) up once = lower 0 (key k) (k ∷ c) (omega arith) (ordered_once k c up once)

-- The levels that are kept are those of the trail.
pub levels_same : (t : List Step) (vars : ℕ) (levels : List ℕ) (lits : List Literal) → AreLevels vars levels t → ((l : Literal) → member lits l ≡ true → (0 < l.var) × (is_assigned t l ≡ true))
    → map (λ (l : Literal). get_or levels (l.var - 1) 0) lits ≡ map (level_of t) lits
levels_same t vars levels [] are has = refl
levels_same t vars levels (l ∷ lits) are has =
    let here = has l (sets.either_left (same_literal l l) (member lits l) (sets.same_itself l)) in
    ap (λ n. n ∷ map (λ (x : Literal). get_or levels (x.var - 1) 0) lits) (are.each l here.0 here.1)
    ∙ ap (λ ns. level_of t l ∷ ns) (levels_same t vars levels lits are (λ k one. has k (sets.either_right (same_literal k l) (member lits k) one)))

-- The parts of what is answered, as a lesson.
pub lesson_seen : (clause_of : ℕ → List Literal) (t : List Step) (vars d e id : ℕ) (levels : List ℕ) (lits : List Literal) (hints : List ℕ) (back : ℕ) → d ≡ e → AreLevels vars levels t
    → ((l : Literal) → member (lesson clause_of t d id).lits l ≡ true → (0 < l.var) × (is_assigned t l ≡ true))
    → lits ≡ (lesson clause_of t d id).lits → hints ≡ (lesson clause_of t d id).hints
    → back ≡ fold max 0 (filter (λ n. not (nat_eq n d)) (map (λ (l : Literal). get_or levels (l.var - 1) 0) lits))
    → ◌≡◌ {A = Lesson} (record { lits = lits; hints = hints; back = back }) (lesson clause_of t e id)
lesson_seen clause_of t vars d e id levels lits hints back same are has lits_is hints_is back_is =
    let s = (lesson clause_of t d id).lits in
    let back_too : back ≡ (lesson clause_of t d id).back =
    back_is
    ∙ ap (λ (x : List Literal). fold max 0 (filter (λ n. not (nat_eq n d)) (map (λ (l : Literal). get_or levels (l.var - 1) 0) x))) lits_is
    ∙ ap (λ ns. fold max 0 (filter (λ n. not (nat_eq n d)) ns)) (levels_same t vars levels s are has) in
    (λ i. record { lits = lits_is i; hints = hints_is i; back = back_too i }) ∙ ap (λ n. lesson clause_of t n id) same
