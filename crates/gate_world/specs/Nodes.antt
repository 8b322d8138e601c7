-- The nodes that goals have at their ends.
use Rattle.std.specs.Prelude.{ℕ, List, [], ◌∷◌, ◌++◌}
use Rattle.gate_world.specs.Tasks.{nodes_of}
use Rattle.gate_world.specs.declared.task.Task.{Task}

-- those of all goals, a node as often as it is in a cone
abbrev pub all_nodes : List Task → List ℕ
all_nodes [] = []
all_nodes (t ∷ ts) = nodes_of t ++ all_nodes ts
