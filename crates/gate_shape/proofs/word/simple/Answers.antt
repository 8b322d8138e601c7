use Rattle.std.proofs.Common.{◌∙◌, ap, sym, option_map}
use Rattle.gate_shape.specs.Builds.{edge}
use Rattle.gate_shape.proofs.Sameness.{simple_once}
use Rattle.gate_shape.proofs.word.simple.Goals as goal

pub returns-clause-edges : goal.returns-clause-edges
returns-clause-edges c m one ka kb = simple_once m one c.args.a c.args.b ka kb ∙ sym (ap (λ o. option_map (edge m) o) c.simplification.ensures)
