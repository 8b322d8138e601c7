-- Changes of width that change nothing.
use Rattle.std.specs.Prelude.{◌==◌, ◌&&◌, None}
use Rattle.bv_expr.specs.declared.ops.Unary.TheVariants as of
use Rattle.bv_expr.specs.Term.{unary}
use Rattle.bv_normal.specs.Constants.{width}
use Rattle.bv_normal.specs.Fitting.{Rule, gives}

-- SetWidth and SignExtend to the part's own width, and Extract of all its bits, become x.
unfoldable pub same_width : Rule
same_width (unary (of.SetWidth v) x) = gives (v == width x) x
same_width (unary (of.SignExtend v) x) = gives (v == width x) x
same_width (unary (of.Extract start len) x) = gives ((start == 0) && (len == width x)) x
same_width _ = None
