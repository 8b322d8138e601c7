-- The names of certificates.
use Rattle.std.specs.Prelude.{ℕ, List, ◌++◌, codes, decimal, unwrap_or}
use Rattle.bvd_words.specs.Requests.{Command, Prove, Alone, Check, Schedule, Cnf, Show}
use Rattle.bv_expr.specs.Statement.{Statement}

-- the name of the k-th goal's certificate
abbrev pub numbered : ℕ → List ℕ
numbered k = codes "goal-" ++ decimal k ++ codes ".lrat"

-- the file of a goal's certificate: a check reads the stored one, where the goal names it
abbrev pub certificate_of : Command → ℕ → Statement → List ℕ
certificate_of Prove k goal = numbered k
certificate_of Alone k goal = numbered k
certificate_of Schedule k goal = numbered k
certificate_of Check k goal = unwrap_or goal.stored (numbered k)
certificate_of Cnf k goal = numbered k
certificate_of Show k goal = numbered k
