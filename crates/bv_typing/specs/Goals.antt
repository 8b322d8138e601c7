-- What the goals of a file read as, and the one fault of their types.
use Rattle.std.specs.Prelude.{◌≡◌, ℕ, ◌+◌, ◌-◌, nat_le, nat_eq, if◌then◌else◌, List, [], ◌∷◌, ◌++◌, Option, Some, None, option_map, map, flat_map, codes}
use Rattle.std.specs.List.{range_with_len}
use Rattle.bv_lex.specs.declared.fault.What.TheVariants as what
use Rattle.bv_lex.specs.declared.fault.FaultKind.TheVariants as fault
use Rattle.bv_expr.specs.declared.ops.Sort.TheVariants.{Truth}
use Rattle.bv_expr.specs.Statement.{Statement}
use Rattle.bv_trees.specs.Trees.{Tree, Trees, name, numeral, literal, prefix, infix_, method, ascribed, no_more, and, Binder, variables, hypothesis, Goal}
use Rattle.bv_trees.specs.Trees as trees
use Rattle.bv_typing.specs.declared.misfit.Misfit.{Misfit}
use Rattle.bv_typing.specs.declared.kind.Kind.{Kind}
use Rattle.bv_typing.specs.declared.kind.Kind.TheVariants as kind
use Rattle.bv_typing.specs.declared.kind.Row.{Row}
use Rattle.bv_typing.specs.declared.kind.Row.TheVariants as row
use Rattle.bv_typing.specs.Source.{Source, text_at, quoted_at}
use Rattle.bv_typing.specs.Variables.{Bound, all_bounds, may_bind, binders_of}
use Rattle.bv_typing.specs.Readings.{Env, judged, kind_of, term}

-- the fault of a form whose own row doesn't fit
abbrev pub own : ℕ → Option Row → List Misfit
own i None = []
own i (Some (row.Typed k)) = []
own i (Some row.Fails) = record { at = i; kind = fault.Typing } ∷ []
own i (Some row.TooWide) = record { at = i; kind = fault.Limit what.Width } ∷ []

-- the faults of a tree: those of its parts, and its own
abbrev mutual
  pub misfits : Env → Tree → List Misfit
  misfits e (name i) = own i (judged e (name i))
  misfits e (numeral i) = own i (judged e (numeral i))
  misfits e (literal i w) = own i (judged e (literal i w))
  misfits e (trees.constant c i) = own i (judged e (trees.constant c i))
  misfits e (prefix o i x) = misfits e x ++ own i (judged e (prefix o i x))
  misfits e (infix_ o i x y) = misfits e x ++ (misfits e y ++ own i (judged e (infix_ o i x y)))
  misfits e (trees.choice i x y z) = misfits e x ++ (misfits e y ++ (misfits e z ++ own i (judged e (trees.choice i x y z))))
  misfits e (method i x xs) = misfits e x ++ (all_misfits e xs ++ own i (judged e (method i x xs)))
  misfits e (ascribed i x s) = misfits e x ++ own i (judged e (ascribed i x s))

  pub all_misfits : Env → Trees → List Misfit
  all_misfits e no_more = []
  all_misfits e (and x xs) = misfits e x ++ all_misfits e xs

-- the place of a term's outermost node, brackets and ascriptions aside
abbrev pub outermost : Tree → ℕ
outermost (name i) = i
outermost (numeral i) = i
outermost (literal i w) = i
outermost (trees.constant c i) = i
outermost (prefix o i x) = i
outermost (infix_ o i x y) = i
outermost (trees.choice i x y z) = i
outermost (method i x xs) = i
outermost (ascribed i x s) = outermost x

-- a hypothesis or a conclusion that is typed is a truth
abbrev pub not_truth : ℕ → Option Kind → List Misfit
not_truth i None = []
not_truth i (Some (kind.Sorted Truth)) = []
not_truth i (Some _) = record { at = i; kind = fault.Typing } ∷ []

abbrev pub truth_misfits : Env → Tree → List Misfit
truth_misfits e x = not_truth (outermost x) (kind_of e x)

-- a name that may not be bound behind others
abbrev pub bound_misfits : List Bound → List Bound → List Misfit
bound_misfits before [] = []
bound_misfits before (b ∷ bs) = (if may_bind before b then [] else record { at = b.at; kind = fault.Typing } ∷ []) ++ bound_misfits (before ++ b ∷ []) bs

-- the hypotheses of a goal
abbrev pub hypotheses : List Binder → List Tree
hypotheses [] = []
hypotheses (variables i j s ∷ bs) = hypotheses bs
hypotheses (hypothesis x ∷ bs) = x ∷ hypotheses bs

abbrev pub env_of : Source → Goal → Env
env_of s g = record { source = s; bounds = all_bounds s g.binders }

-- the terms of a goal: its hypotheses, and its conclusion
abbrev pub terms_of : Goal → List Tree
terms_of g = hypotheses g.binders ++ g.conclusion ∷ []

-- the faults of a goal's types: in its variables, in its terms, and where these are no truths
abbrev pub goal_misfits : Source → Goal → List Misfit
goal_misfits s g = bound_misfits [] (all_bounds s g.binders) ++ (flat_map (misfits (env_of s g)) (terms_of g) ++ flat_map (truth_misfits (env_of s g)) (terms_of g))

-- those of all goals
abbrev pub file_misfits : Source → List Goal → List Misfit
file_misfits s gs = flat_map (goal_misfits s) gs

-- the one at the least place
abbrev pub earlier : Misfit → Option Misfit → Misfit
earlier f None = f
earlier f (Some g) = if nat_le f.at g.at then f else g

abbrev pub least : List Misfit → Option Misfit
least [] = None
least (f ∷ fs) = Some (earlier f (least fs))

-- the name of a goal: its path without spaces, or `example`
abbrev pub path_text : Source → ℕ → ℕ → List ℕ
path_text s i n = flat_map (text_at s) (range_with_len i n)

-- of a goal whose head word stands at i, and whose name ends before j
abbrev pub name_between : Source → ℕ → ℕ → List ℕ
name_between s i j = if nat_eq j (i + 1) then codes "example" else path_text s (i + 1) (j - (i + 1))

abbrev pub goal_name : Source → Goal → List ℕ
goal_name s g = name_between s g.head g.path

-- what a goal states
abbrev pub statement : Source → Goal → Statement
statement s g = record {
  name = goal_name s g;
  binders = binders_of (all_bounds s g.binders);
  hyps = map (term (env_of s g) 0) (hypotheses g.binders);
  concl = term (env_of s g) 0 g.conclusion;
  stored = option_map (quoted_at s) g.stored;
}

-- the goals are typed, and state this
pub record States (s : Source) (gs : List Goal) (statements : List Statement) : Type 0 where
  pub fit : file_misfits s gs ≡ []
  pub are : statements ≡ map (statement s) gs
