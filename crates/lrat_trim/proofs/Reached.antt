-- The lines that are kept are those that the empty clause reaches.
use Rattle.std.proofs.Common.{◌≡◌, ℕ, zero, suc, ◌+◌, ◌≤◌, Bool, true, false, ◌||◌, cond, nat_eq, List, [], ◌∷◌, ◌++◌, length, map, refl, ap, sym, ◌∙◌, subst, arith, ◌⊎◌, inl, inr}
use Rattle.std.specs.List.{IsAmong, filter, list_any}
use Rattle.std.specs.Prelude.{IfOk, Ok, Err}
use Rattle.std.specs.declared.result.Result.{Result}
use Rattle.std.specs.declared.vec.Vec.{Vec}
use Rattle.std.specs.declared.alloc.Global.{Global}
use Rattle.std.proofs.lemmas.List.Folds.{list_any-append}
use Rattle.sat_form.specs.Literals.{Literal}
use Rattle.sat_form.specs.Log.{Logged}
use Rattle.sat_form.proofs.Numbers.{eq_is, eq_not_above, eq_not_below}
use Rattle.sat_form.proofs.Sets.{both, either_left, either_right, one_of, neither, nat_is, nat_itself}
use Rattle.lrat_lines.specs.declared.line.Line.{Line}
use Rattle.lrat_lines.specs.Lines as lines
use Rattle.lrat_lines.specs.Seen.{seen}
use Rattle.lrat_trim.specs.Derivation.{LogLine, are_earlier, hints_earlier, logged_from}
use Rattle.lrat_trim.specs.Derived.{AreNumbered, TrimmedReached}
use Rattle.lrat_trim.specs.Trim.{IsTrimmed, Kept, Reaches, all_renumbered, keep, is_needed, trim}
use Rattle.lrat_trim.specs.Trim.Reaches.{empty_clause, hint}
use Rattle.lrat_trim.proofs.Marked.{none_later}

no : {P : Type 0} {b : Bool} → b ≡ true → b ≡ false → P
no t f = cc

-- members of a list
not_among : {X P : Type 0} (x : X) → IsAmong [] x → P
not_among x h = let inside = h.1.0 in absurd (omega arith)

among_first : {X : Type 0} (x y : X) (xs : List X) → y ≡ x → IsAmong (x ∷ xs) y
among_first x y xs is = (0, (omega arith, is))

among_later : {X : Type 0} (x y : X) (xs : List X) → IsAmong xs y → IsAmong (x ∷ xs) y
among_later x y xs h = let inside = h.1.0 in (suc h.0, (omega arith, h.1.1))

among_cases : {X : Type 0} (x y : X) (xs : List X) → IsAmong (x ∷ xs) y → (y ≡ x) ⊎ IsAmong xs y
among_cases x y xs (zero, (inside, is)) = inl is
among_cases x y xs (suc i, (inside, is)) = inr (i, (omega arith, is))

any_among : (id : ℕ) (hints : List ℕ) → list_any (nat_eq id) hints ≡ true → IsAmong hints id
any_among id [] h = absurd (cc)
any_among id (x ∷ hints) h = elim (one_of (nat_eq id x) _ h) [ inl here ↦ among_first x id hints (nat_is id x here) | inr later ↦ among_later x id hints (any_among id hints later) ]

among_any : (id : ℕ) (hints : List ℕ) → IsAmong hints id → list_any (nat_eq id) hints ≡ true
among_any id [] h = not_among id h
among_any id (x ∷ hints) h = elim (among_cases x id hints h) [ inl is ↦ either_left _ _ (eq_is id x is) | inr later ↦ either_right (nat_eq id x) _ (among_any id hints later) ]

-- a line with this id is among the lines
abbrev has_id : ℕ → List Logged → Bool
has_id id ls = list_any (λ l. nat_eq l.id id) ls

among_has : (ls : List Logged) (k : Logged) → IsAmong ls k → has_id k.id ls ≡ true
among_has [] k h = not_among k h
among_has (l ∷ ls) k h = elim (among_cases l k ls h) [ inl is ↦ either_left _ _ (eq_is l.id k.id (ap (λ (x : Logged). x.id) (sym is))) | inr later ↦ either_right (nat_eq l.id k.id) _ (among_has ls k later) ]

has_among : (ls : List Logged) (id : ℕ) → has_id id ls ≡ true → (k : Logged) × IsAmong ls k × (k.id ≡ id)
has_among [] id h = absurd (cc)
has_among (l ∷ ls) id h = elim (one_of (nat_eq l.id id) _ h) [
  | inl here ↦ (l, among_first l l ls refl, nat_is l.id id here)
  | inr later ↦ let deep = has_among ls id later in (deep.0, among_later l deep.0 ls deep.1, deep.2)
]

above : (low : ℕ) (ls : List Logged) (k : Logged) → AreNumbered low ls → IsAmong ls k → low ≤ k.id
above low [] k n h = not_among k h
above low (l ∷ ls) k n h = elim (among_cases l k ls h) [
  | inl is ↦ let e = ap (λ (x : Logged). x.id) is in let f = n.0 in omega arith
  | inr later ↦ let deep = above (low + 1) ls k n.2 later in omega arith
]

-- kept b l ls: what is kept of l ∷ ls where l is needed, or isn't
abbrev kept : Bool → Logged → List Logged → Kept
kept b l ls = cond b (record { ids = l.hints ++ (keep ls).ids; lines = l ∷ (keep ls).lines }) (keep ls)

kept_among : (ls : List Logged) (k : Logged) → IsAmong (keep ls).lines k → IsAmong ls k
kept_among [] k h = h
kept_among (l ∷ ls) k h = elim (is_needed (keep ls) l) as (λ b. IsAmong (kept b l ls).lines k → IsAmong (l ∷ ls) k) [
  | true ↦ λ one. elim (among_cases l k (keep ls).lines one) [ inl is ↦ among_first l k ls is | inr later ↦ among_later l k ls (kept_among ls k later) ]
  | false ↦ λ one. among_later l k ls (kept_among ls k one)
] h

nothing_of : (lits : List Literal) → nat_eq (length lits) 0 ≡ true → lits ≡ []
nothing_of [] h = refl
nothing_of (l ∷ lits) h = absurd (no h (eq_not_above (length (l ∷ lits)) 0 (omega arith)))

-- What is kept is reached.
module _ (log : List Logged) where
  abbrev Sound : Kept → Type 0
  Sound k = ((l : Logged) → IsAmong k.lines l → Reaches log l.id) × ((id : ℕ) → list_any (nat_eq id) k.ids ≡ true → Reaches log id)

  sound : (ls : List Logged) → ((k : Logged) → IsAmong ls k → IsAmong log k) → Sound (keep ls)
  sound [] inside = (λ l h. not_among l h, λ id h. absurd (no h refl))
  sound (l ∷ ls) inside =
      let deep = sound ls (λ k h. inside k (among_later l k ls h)) in
      let here = inside l (among_first l l ls refl) in
      elim (is_needed (keep ls) l) as (λ b. is_needed (keep ls) l ≡ b → Sound (kept b l ls)) [
        | true ↦ λ needed.
            let reached : Reaches log l.id = elim (one_of (nat_eq (length l.lits) 0) _ needed) [ inl empty ↦ empty_clause l here (nothing_of l.lits empty) | inr named ↦ deep.1 l.id named ] in (
              λ k h. elim (among_cases l k (keep ls).lines h) [ inl is ↦ subst (λ (x : Logged). Reaches log x.id) (sym is) reached | inr later ↦ deep.0 k later ],
              λ id h. elim (one_of (list_any (nat_eq id) l.hints) _ (sym (list_any-append (nat_eq id) l.hints (keep ls).ids) ∙ h)) [ inl named ↦ hint l here reached id (any_among id l.hints named) | inr old ↦ deep.1 id old ],
            )
        | false ↦ λ _. deep
      ] refl

-- A line that kept lines name is kept, and one that has the id of a kept one.
named_kept : (low : ℕ) (ls : List Logged) (k : Logged) → AreNumbered low ls → IsAmong ls k → list_any (nat_eq k.id) (keep ls).ids ≡ true → IsAmong (keep ls).lines k
named_kept low [] k n h named = h
named_kept low (l ∷ ls) k n h named =
    elim (is_needed (keep ls) l) as (λ b. is_needed (keep ls) l ≡ b → list_any (nat_eq k.id) (kept b l ls).ids ≡ true → IsAmong (kept b l ls).lines k) [
      | true ↦ λ _ named. elim (among_cases l k ls h) [
        | inl is ↦ among_first l k (keep ls).lines is
        | inr later ↦
            let high = above (low + 1) ls k n.2 later in
            let rest : list_any (nat_eq k.id) (keep ls).ids ≡ true =
            sym (ap (λ b. b || list_any (nat_eq k.id) (keep ls).ids) (none_later low k.id l.hints n.1 (omega arith))) ∙ sym (list_any-append (nat_eq k.id) l.hints (keep ls).ids) ∙ named in
            among_later l k (keep ls).lines (named_kept (low + 1) ls k n.2 later rest)
      ]
      | false ↦ λ passed named. elim (among_cases l k ls h) [
        | inl is ↦ no (ap (λ (x : Logged). list_any (nat_eq x.id) (keep ls).ids) (sym is) ∙ named) (neither (nat_eq (length l.lits) 0) _ passed).1
        | inr later ↦ named_kept (low + 1) ls k n.2 later named
      ]
    ] refl named

same_kept : (low : ℕ) (ls : List Logged) (k : Logged) → AreNumbered low ls → IsAmong ls k → has_id k.id (keep ls).lines ≡ true → IsAmong (keep ls).lines k
same_kept low [] k n h has = h
same_kept low (l ∷ ls) k n h has =
    elim (is_needed (keep ls) l) as (λ b. has_id k.id (kept b l ls).lines ≡ true → IsAmong (kept b l ls).lines k) [
      | true ↦ λ one. elim (among_cases l k ls h) [
        | inl is ↦ among_first l k (keep ls).lines is
        | inr later ↦
            let high = above (low + 1) ls k n.2 later in
            let first = n.0 in
            let rest : has_id k.id (keep ls).lines ≡ true = sym (ap (λ b. b || has_id k.id (keep ls).lines) (eq_not_below l.id k.id (omega arith))) ∙ one in
            among_later l k (keep ls).lines (same_kept (low + 1) ls k n.2 later rest)
      ]
      | false ↦ λ one. elim (among_cases l k ls h) [
        | inl is ↦
            let other = has_among (keep ls).lines k.id one in
            let high = above (low + 1) ls other.0 n.2 (kept_among ls other.0 other.1) in
            let first = n.0 in
            let same = ap (λ (x : Logged). x.id) is in
            let e = other.2 in
            absurd (omega arith)
        | inr later ↦ same_kept (low + 1) ls k n.2 later one
      ]
    ] has

empty_kept : (ls : List Logged) (k : Logged) → IsAmong ls k → k.lits ≡ [] → IsAmong (keep ls).lines k
empty_kept [] k h empty = h
empty_kept (l ∷ ls) k h empty =
    elim (is_needed (keep ls) l) as (λ b. is_needed (keep ls) l ≡ b → IsAmong (kept b l ls).lines k) [
      | true ↦ λ _. elim (among_cases l k ls h) [ inl is ↦ among_first l k (keep ls).lines is | inr later ↦ among_later l k (keep ls).lines (empty_kept ls k later empty) ]
      | false ↦ λ passed. elim (among_cases l k ls h) [
        | inl is ↦ no (ap (λ c. nat_eq (length c) 0) (ap (λ (x : Logged). x.lits) (sym is) ∙ empty)) (neither (nat_eq (length l.lits) 0) _ passed).0
        | inr later ↦ empty_kept ls k later empty
      ]
    ] refl

kept_hints : (ls : List Logged) (k : Logged) → IsAmong (keep ls).lines k → (id : ℕ) → list_any (nat_eq id) k.hints ≡ true → list_any (nat_eq id) (keep ls).ids ≡ true
kept_hints [] k h id named = not_among k h
kept_hints (l ∷ ls) k h id named =
    elim (is_needed (keep ls) l) as (λ b. IsAmong (kept b l ls).lines k → list_any (nat_eq id) (kept b l ls).ids ≡ true) [
      | true ↦ λ one. list_any-append (nat_eq id) l.hints (keep ls).ids ∙ elim (among_cases l k (keep ls).lines one) [
        | inl is ↦ either_left _ _ (ap (λ (x : Logged). list_any (nat_eq id) x.hints) (sym is) ∙ named)
        | inr later ↦ either_right (list_any (nat_eq id) l.hints) _ (kept_hints ls k later id named)
      ]
      | false ↦ λ one. kept_hints ls k one id named
    ] h

-- What is reached is the id of a kept line, or one that kept lines name.
abbrev found : List Logged → ℕ → Bool
found log id = has_id id (keep log).lines || list_any (nat_eq id) (keep log).ids

module _ (low : ℕ) (log : List Logged) (numbered : AreNumbered low log) where
  line_kept : (k : Logged) → IsAmong log k → found log k.id ≡ true → IsAmong (keep log).lines k
  line_kept k h reached = elim (one_of (has_id k.id (keep log).lines) _ reached) [ inl has ↦ same_kept low log k numbered h has | inr named ↦ named_kept low log k numbered h named ]

  complete : (id : ℕ) → Reaches log id → found log id ≡ true
  complete _ (empty_clause l among empty) = either_left _ _ (among_has (keep log).lines l (empty_kept log l among empty))
  complete _ (hint l among reached id among_hints) =
      either_right (has_id id (keep log).lines) _ (kept_hints log l (line_kept l among (complete l.id reached)) id (among_any id l.hints among_hints))

  found_kept : (k : Logged) → IsAmong log k → found log k.id ≡ has_id k.id (keep log).lines
  found_kept k h =
      elim (has_id k.id (keep log).lines) as (λ b. has_id k.id (keep log).lines ≡ b → (b || list_any (nat_eq k.id) (keep log).ids) ≡ b) [
        | true ↦ λ _. refl
        | false ↦ λ hasnt. elim (list_any (nat_eq k.id) (keep log).ids) as (λ b. list_any (nat_eq k.id) (keep log).ids ≡ b → b ≡ false) [
          | true ↦ λ named. no (among_has (keep log).lines k (named_kept low log k numbered h named)) hasnt
          | false ↦ λ _. refl
        ] refl
      ] refl

-- A test that passes the kept lines' ids alone picks them.
filtered : (test : ℕ → Bool) (low : ℕ) (ls : List Logged) → AreNumbered low ls → ((k : Logged) → IsAmong ls k → test k.id ≡ has_id k.id (keep ls).lines) → (keep ls).lines ≡ filter (λ l. test l.id) ls
filtered test low [] n same = refl
filtered test low (l ∷ ls) n same =
    elim (is_needed (keep ls) l) as (λ b. is_needed (keep ls) l ≡ b → ((k : Logged) → IsAmong (l ∷ ls) k → test k.id ≡ has_id k.id (kept b l ls).lines) → (kept b l ls).lines ≡ cond (test l.id) (l ∷ filter (λ x. test x.id) ls) (filter (λ x. test x.id) ls)) [
      | true ↦ λ _ same.
          let on : test l.id ≡ true = same l (among_first l l ls refl) ∙ either_left _ _ (nat_itself l.id) in
          let deep = filtered test (low + 1) ls n.2 (λ k h.
          let high = above (low + 1) ls k n.2 h in
          let first = n.0 in
          same k (among_later l k ls h) ∙ ap (λ b. b || has_id k.id (keep ls).lines) (eq_not_below l.id k.id (omega arith))) in
          ap (λ x. l ∷ x) deep ∙ ap (λ b. cond b (l ∷ filter (λ x. test x.id) ls) (filter (λ x. test x.id) ls)) (sym on)
      | false ↦ λ _ same.
          let off : test l.id ≡ false = same l (among_first l l ls refl) ∙ gone in
          filtered test (low + 1) ls n.2 (λ k h. same k (among_later l k ls h)) ∙ ap (λ b. cond b (l ∷ filter (λ x. test x.id) ls) (filter (λ x. test x.id) ls)) (sym off)
    ] refl same
  where
    gone : has_id l.id (keep ls).lines ≡ false
    gone = elim (has_id l.id (keep ls).lines) as (λ b. has_id l.id (keep ls).lines ≡ b → b ≡ false) [
      | true ↦ λ has.
          let other = has_among (keep ls).lines l.id has in
          let high = above (low + 1) ls other.0 n.2 (kept_among ls other.0 other.1) in
          let first = n.0 in
          let e = other.2 in
          absurd (omega arith)
      | false ↦ λ _. refl
    ] refl

pub trimmed_reached : TrimmedReached
trimmed_reached m log numbered = (
  found log,
  λ id. (
    λ reached.
        let both_sound = sound log log (λ k h. h) in
        elim (one_of (has_id id (keep log).lines) _ reached) [
          | inl has ↦ let one = has_among (keep log).lines id has in subst (λ (n : ℕ). Reaches log n) one.2 (both_sound.0 one.0 one.1)
          | inr named ↦ both_sound.1 id named
        ],
    complete (m + 1) log numbered id,
  ),
  ap (all_renumbered m) (filtered (found log) (m + 1) log numbered (found_kept (m + 1) log numbered)),
)

-- What is answered, if anything is.
pub if_trimmed : {E : Type 0} (m : ℕ) (log : List Logged) → AreNumbered (m + 1) log → (r : Result (Vec Line Global) E) → IfOk r (λ lines. map seen lines.items ≡ trim m log) → IfOk r (λ lines. IsTrimmed m log (map seen lines.items))
if_trimmed m log numbered (Ok new) is = subst (λ (x : List lines.Line). IsTrimmed m log x) (sym is) (trimmed_reached m log numbered)
if_trimmed m log numbered (Err e) is = tt

-- The lines of a log, as it keeps them, are numbered.
pub logged_numbered : (id : ℕ) (lines : List LogLine) → hints_earlier id lines ≡ true → AreNumbered id (logged_from id lines)
logged_numbered id [] h = tt
logged_numbered id (l ∷ lines) h = let parts = both (are_earlier id l.hints) (hints_earlier (id + 1) lines) h in (refl, parts.0, logged_numbered (id + 1) lines parts.1)
