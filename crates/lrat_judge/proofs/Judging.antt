-- What an addition comes to.
use Rattle.std.proofs.Common.{◌≡◌, ℕ, ℤ, Bool, true, false, ◌||◌, cond, List, [], ◌∷◌, ◌++◌, map, refl, ap, sym, ◌∙◌, suc, length, nat_eq, arith}
use Rattle.std.specs.Prelude.{Some, None, Ok, Err, IfOk}
use Rattle.std.specs.declared.result.Result.{Result}
use Rattle.std.specs.List.{list_any, slice_get}
use Rattle.std.specs.Option.{option_map}
use Rattle.std.specs.declared.option.Option.{Option}
use Rattle.std.proofs.lemmas.List.{append-nil}
use Rattle.std.proofs.lemmas.Grind.{common_steps}
use Rattle.sat_form.proofs.Sets.{nat_itself}
use Rattle.sat_form.specs.Literals.{Literal, negate}
use Rattle.sat_form.specs.Assignment.{is_true}
use Rattle.lrat_lines.specs.Judge as judge
use Rattle.lrat_lines.specs.Judge.{Clauses, Hints, Group, two_opposite, take_hints, judge_first, judge_pivot}
use Rattle.lrat_lines.specs.Judge.Taken.{Conflict as Clash, Units, Stop as Refuse}
use Rattle.lrat_judge.specs.Marked.{Same}
use Rattle.lrat_lines.specs.Lines.Line.{Add as Addition}
use Rattle.lrat_judge.specs.declared.cause.Cause.{Cause}
use Rattle.lrat_judge.specs.Judged.{cause_shown}
use Rattle.lrat_judge.specs.Assumed.{blocked, Assumes, judge_new}
use Rattle.lrat_judge.proofs.Uncovered.{missing_same}

none_true : (c : List Literal) → list_any (is_true []) c ≡ false
none_true [] = refl
none_true (l ∷ c) = none_true c

opposite : (c : List Literal) → two_opposite c ≡ blocked [] c
opposite c = sym (ap (λ b. b || two_opposite c) (none_true c))

module _ (db : Clauses) (lits : List Literal) (h : Hints) (m : List Literal) where
  pub new_blocked : Assumes m [] lits false → None ≡ judge_new db lits h
  new_blocked a = sym (ap (λ b. cond b None (judge_first db lits h.groups (take_hints db (map negate lits) h.first))) (opposite lits ∙ a))

  pub new_open : (ids : List ℕ) → Assumes m [] lits true → h.first ≡ ids → judge_new db lits h ≡ judge_first db lits h.groups (take_hints db (map negate lits ++ []) ids)
  new_open ids a f =
      ap (λ b. cond b None (judge_first db lits h.groups (take_hints db (map negate lits) h.first))) (opposite lits ∙ a.0)
      ∙ ap (λ i. judge_first db lits h.groups (take_hints db (map negate lits) i)) f
      ∙ ap (λ s. judge_first db lits h.groups (take_hints db s ids)) (sym (append-nil (map negate lits)))

pub passed_on : {X E : Type 0} (r : Result X E) (m : List Literal) (as_cause : X → Option judge.Cause) (P : List Literal → Option judge.Cause) (q : Option judge.Cause) (b : List Literal)
    → IfOk r (λ x. (a : List Literal) → Same m a → as_cause x ≡ P a) → Same m b → P b ≡ q → IfOk r (λ x. as_cause x ≡ q)
passed_on (Ok x) m as_cause P q b h same e = h b same ∙ e
passed_on (Err y) m as_cause P q b h same e = tt

-- behind groups that are right
abbrev behind : Option judge.Cause → Option judge.Cause → Option judge.Cause
behind groups rest = elim groups as (λ _. Option judge.Cause) [ Some cause ↦ Some cause | None ↦ rest ]

pub pivot_left : (db : Clauses) (lits : List Literal) (pivot : Literal) (gs : List Group) (old new a : List Literal) (groups r : Option judge.Cause)
    → Some pivot ≡ slice_get lits 0 → groups ≡ judge.judge_groups db a pivot gs → groups ≡ None → new ≡ old → r ≡ judge.judge_missing db new pivot gs → Same old a → r ≡ judge_pivot db a lits gs
pivot_left db [] pivot gs old new a groups r first is none kept missing same = cc
pivot_left db (l ∷ lits) pivot gs old new a groups r first is none kept missing same =
    let e : pivot ≡ l = cc in
    missing
    ∙ ap (λ m. judge.judge_missing db m pivot gs) kept
    ∙ missing_same db old a pivot gs same
    ∙ sym (ap (λ g. behind g (judge.judge_missing db a pivot gs)) (sym is ∙ none))
    ∙ ap (λ p. judge_pivot db a (p ∷ lits) gs) e

module _ (db known : Clauses) (id : ℕ) (lits slice : List Literal) (hints : List ℤ) (answer : Option Cause) (clauses : known ≡ db) (literals : slice ≡ lits) (is : option_map cause_shown answer ≡ judge.judge_add known id slice (judge.split_hints hints)) where
  judged : option_map cause_shown answer ≡ judge.judge_add db id lits (judge.split_hints hints)
  judged = is ∙ ap (λ d. judge.judge_add d id slice (judge.split_hints hints)) clauses ∙ ap (λ c. judge.judge_add db id c (judge.split_hints hints)) literals

  -- a refused addition
  pub refused : (cause : Cause) → answer ≡ Some cause → judge.judge db (Addition id lits hints) ≡ Err (cause_shown cause)
  unfolding judge.judge
  refused cause e = ap (judge.added db id lits) (sym judged ∙ ap (option_map cause_shown) e)

  -- an addition that checks
  pub checked : (next : Clauses) → answer ≡ None → next ≡ judge.add_clause known id lits → judge.judge db (Addition id lits hints) ≡ Ok next
  unfolding judge.judge
  checked next e n = ap (judge.added db id lits) (sym judged ∙ ap (option_map cause_shown) e) ∙ sym (ap Ok (n ∙ ap (λ d. judge.add_clause d id lits) clauses))

not_empty : (n : ℕ) → nat_eq (suc n) 0 ≡ false
not_empty n = grind (arith, common_steps)

-- whether a clause is the empty one
pub last_by_length : (id : ℕ) (lits : List Literal) (hints : List ℤ) (n : ℕ) (b : Bool) → n ≡ length lits → nat_eq n 0 ≡ b → judge.is_last (Addition id lits hints) ≡ b
last_by_length id [] hints n b l e = sym (nat_itself 0) ∙ ap (λ k. nat_eq k 0) (sym l) ∙ e
last_by_length id (k ∷ lits) hints n b l e = sym (not_empty (length lits)) ∙ ap (λ k. nat_eq k 0) (sym l) ∙ e

pub ok_weaker : {X E : Type 0} (r : Result X E) (P Q : X → Type 0) → ((x : X) → P x → Q x) → IfOk r P → IfOk r Q
ok_weaker (Ok x) P Q h p = h x p
ok_weaker (Err y) P Q h p = tt
