-- A goal of a file is spelled by the syntax, so its canonical line is read as that goal alone.
use Rattle.std.proofs.Common.{ℕ, List, [], ◌∷◌, sym, ap, subst}
use Rattle.std.specs.Prelude.{map}
use Rattle.std.specs.List.{Contains}
use Rattle.std.proofs.lemmas.List.Elements.{All-contains}
use Rattle.bv_trees.specs.Trees.{Goal}
use Rattle.bv_expr.specs.Statement.{Statement}
use Rattle.bv_typing.specs.Source.{Source, source}
use Rattle.bv_typing.specs.Goals.{statement}
use Rattle.bv_parse.specs.Reads.{Outlines}
use Rattle.bv_canon.specs.Lines.{line_of}
use Rattle.bv_canon.specs.Reading.{IsOfSyntax}
use Rattle.bv_canon.specs.Laws.{GoalIsReadBack, StatesOfSyntax, PrintedGoalReads}

pub reread : ((goal : Statement) → GoalIsReadBack goal) → ((s : Source) (trees : List Goal) → StatesOfSyntax s trees) → (bytes : List ℕ) (goals : List Statement) (goal : Statement) → PrintedGoalReads bytes goals goal
reread back syntax bytes goals goal reads there within =
    let s = source bytes reads.tokens in
    let all = syntax s reads.trees reads.outlines.cut reads.outlines.goals reads.states.fit in
    let of_syntax = All-contains IsOfSyntax (map (statement s) reads.trees) goal all (subst (λ l. Contains l goal) reads.states.are there) in
    let b = back goal of_syntax in
    let outlines : Outlines (line_of goal) b.tokens (b.alone.tree ∷ []) = record { cut = b.cut; goals = b.alone.derived } in
    record {
      tokens = b.tokens;
      trees = b.alone.tree ∷ [];
      outlines = outlines;
      within = within b.tokens (b.alone.tree ∷ []) outlines;
      states = record { fit = b.alone.fit; are = ap (λ x. x ∷ []) (sym b.alone.is) };
    }
