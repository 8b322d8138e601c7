-- What holds of every file.
use Rattle.std.specs.Prelude.{◌≡◌, ℕ, List}
use Rattle.bv_lex.specs.declared.fault.Fault.{Fault}
use Rattle.bv_expr.specs.Statement.{Statement}
use Rattle.bv_parse.specs.Reads.{ReadsAs, IsFaultOf}

-- A file reads as one list of goals at most,
abbrev pub OneReading : List ℕ → List Statement → List Statement → Type 0
OneReading bytes goals others = ReadsAs bytes goals → ReadsAs bytes others → goals ≡ others

-- it has one fault at most,
abbrev pub OneFault : List ℕ → Fault → Fault → Type 0
OneFault bytes f g = IsFaultOf bytes f → IsFaultOf bytes g → f ≡ g

-- and one that reads as goals has none.
abbrev pub NotBoth : List ℕ → List Statement → Fault → Type 0
NotBoth bytes goals f = ReadsAs bytes goals → IsFaultOf bytes f → ⊥
