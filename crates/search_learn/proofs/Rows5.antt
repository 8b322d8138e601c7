-- Worked rows.
use Rattle.std.proofs.Common.{◌≡◌, ℕ, true, false, List, [], ◌∷◌, refl}
use Rattle.sat_form.specs.Literals.{Literal}
use Rattle.search_learn.specs.declared.Turn.{Turn}
use Rattle.search_learn.specs.declared.Turn.TheVariants.{Sat, Budget}
use Rattle.search_learn.specs.Luby.{luby}
use Rattle.sat_form.specs.Log.{Logged}
use Rattle.search_learn.specs.Machine.{Machine, machine, step, steps}

abbrev p : ℕ → Literal
p v = record { var = v; positive = true }

abbrev n : ℕ → Literal
n v = record { var = v; positive = false }

abbrev clauses : List (List Literal)
clauses = (p 1 ∷ []) ∷ (n 4 ∷ p 2 ∷ []) ∷ (n 4 ∷ p 3 ∷ []) ∷ (p 4 ∷ n 2 ∷ n 3 ∷ []) ∷ (n 5 ∷ n 2 ∷ []) ∷ (n 5 ∷ n 3 ∷ []) ∷ (p 5 ∷ p 2 ∷ p 3 ∷ []) ∷ (n 6 ∷ n 4 ∷ []) ∷ (n 6 ∷ n 5 ∷ []) ∷ (p 6 ∷ p 4 ∷ p 5 ∷ []) ∷ (p 6 ∷ []) ∷ []

record End : Type 0 where
  end : Turn
  spent : ℕ
  log : List Logged

abbrev end_of : Machine → End
end_of m = record { end = m.state.end; spent = m.state.spent; log = m.log }

row_5 : end_of (steps 5 6 (machine 6 clauses)) ≡ record { end = Sat; spent = 6; log = [] }
unfolding step luby
row_5 = refl

row_5_budget : end_of (steps 4 5 (machine 6 clauses)) ≡ record { end = Budget 5; spent = 5; log = [] }
unfolding step luby
row_5_budget = refl
