-- What is answered of a file.
use Rattle.std.specs.Prelude.{◌⊎◌, ◌≤◌, ℕ, List, length, map, Result, Ok, Err}
use Rattle.std.specs.declared.alloc.Global.{Global}
use Rattle.std.specs.declared.vec.Vec.{Vec}
use Rattle.bv_lex.specs.declared.fault.Fault.{Fault}
use Rattle.bv_lex.specs.Cut.{IsMemory}
use Rattle.bv_expr.specs.declared.goal.Goal.{Goal}
use Rattle.bv_expr.specs.Statement.{statement_of}
use Rattle.bv_parse.specs.Reads.{ReadsAs, IsFaultOf}

-- that these are its goals, 1,024 at most
pub record AreItsGoals (bytes : List ℕ) (goals : List Goal) : Type 0 where
  pub read : ReadsAs bytes (map statement_of goals)
  pub few : length goals ≤ 1024

-- or its fault, or want of memory
abbrev pub IsAnswer : List ℕ → Result (Vec Goal Global) Fault → Type 0
IsAnswer bytes (Ok goals) = AreItsGoals bytes goals.items
IsAnswer bytes (Err f) = IsMemory f.kind ⊎ IsFaultOf bytes f
