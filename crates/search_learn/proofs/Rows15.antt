-- Worked rows.
use Rattle.std.proofs.Common.{◌≡◌, ℕ, true, false, List, [], ◌∷◌, refl}
use Rattle.sat_form.specs.Literals.{Literal}
use Rattle.search_learn.specs.declared.Turn.{Turn}
use Rattle.search_learn.specs.declared.Turn.TheVariants.{Unsat}
use Rattle.search_learn.specs.Luby.{luby}
use Rattle.sat_form.specs.Log.{Logged}
use Rattle.search_learn.specs.Machine.{Machine, machine, step, steps}

abbrev p : ℕ → Literal
p v = record { var = v; positive = true }

abbrev n : ℕ → Literal
n v = record { var = v; positive = false }

abbrev clauses : List (List Literal)
clauses = (p 1 ∷ []) ∷ (n 5 ∷ p 3 ∷ []) ∷ (n 5 ∷ p 4 ∷ []) ∷ (p 5 ∷ n 3 ∷ n 4 ∷ []) ∷ (n 6 ∷ p 2 ∷ []) ∷ (n 6 ∷ p 5 ∷ []) ∷ (p 6 ∷ n 2 ∷ n 5 ∷ []) ∷ (n 7 ∷ p 2 ∷ []) ∷ (n 7 ∷ p 3 ∷ []) ∷ (p 7 ∷ n 2 ∷ n 3 ∷ []) ∷ (n 8 ∷ p 4 ∷ []) ∷ (n 8 ∷ p 7 ∷ []) ∷ (p 8 ∷ n 4 ∷ n 7 ∷ []) ∷ (n 9 ∷ p 6 ∷ []) ∷ (n 9 ∷ p 8 ∷ []) ∷ (p 9 ∷ n 6 ∷ n 8 ∷ []) ∷ (n 10 ∷ n 6 ∷ []) ∷ (n 10 ∷ n 8 ∷ []) ∷ (p 10 ∷ p 6 ∷ p 8 ∷ []) ∷ (n 11 ∷ n 9 ∷ []) ∷ (n 11 ∷ n 10 ∷ []) ∷ (p 11 ∷ p 9 ∷ p 10 ∷ []) ∷ (p 11 ∷ []) ∷ []

record End : Type 0 where
  end : Turn
  spent : ℕ
  log : List Logged

abbrev end_of : Machine → End
end_of m = record { end = m.state.end; spent = m.state.spent; log = m.log }

row_15 : end_of (steps 21 28 (machine 11 clauses)) ≡ record { end = Unsat; spent = 28; log = record { id = 24; lits = (p 2 ∷ []); hints = 23 ∷ 21 ∷ 5 ∷ 8 ∷ 12 ∷ 19 ∷ [] } ∷ record { id = 25; lits = (p 3 ∷ []); hints = 23 ∷ 21 ∷ 2 ∷ 9 ∷ 6 ∷ 12 ∷ 19 ∷ [] } ∷ record { id = 26; lits = (p 4 ∷ []); hints = 23 ∷ 21 ∷ 3 ∷ 11 ∷ 6 ∷ 19 ∷ [] } ∷ record { id = 27; lits = []; hints = 23 ∷ 20 ∷ 24 ∷ 25 ∷ 10 ∷ 26 ∷ 4 ∷ 13 ∷ 7 ∷ 16 ∷ [] } ∷ [] }
unfolding step luby
row_15 = refl
