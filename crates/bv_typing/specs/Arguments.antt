-- The arguments of a method, as far as rows look at them.
use Rattle.std.specs.Prelude.{List, [], ◌∷◌}
use Rattle.bv_typing.specs.declared.kind.Kind.{Kind}
use Rattle.bv_typing.specs.declared.kind.Kind.TheVariants.{Bare}
use Rattle.bv_typing.specs.declared.methods.Arguments.{Arguments}
use Rattle.bv_typing.specs.declared.methods.Arguments.TheVariants as few

-- Their kinds. No row fits more than two, whichever they are.
abbrev pub kinds_in : Arguments → List Kind
kinds_in few.None = []
kinds_in (few.One k) = k ∷ []
kinds_in (few.Two k l) = k ∷ l ∷ []
kinds_in few.More = Bare ∷ Bare ∷ Bare ∷ []

-- one before them
abbrev pub put_before : Kind → Arguments → Arguments
put_before k few.None = few.One k
put_before k (few.One l) = few.Two k l
put_before k _ = few.More
