-- How the types of a goal's terms are judged: by one walk over its pieces, with a stack of the terms that are complete.
use Rattle.std.specs.Prelude.{ℕ, List, [], ◌∷◌, ◌++◌, Option, Some, None, option_map, option_and_then, map}
use Rattle.bv_grammar.specs.declared.words.Word.{Word}
use Rattle.bv_expr.specs.declared.ops.Sort.{Sort}
use Rattle.bv_expr.specs.declared.ops.Sort.TheVariants.{Truth}
use Rattle.bv_expr.specs.Sorts.{vectors}
use Rattle.bv_trees.specs.declared.pieces.Piece.{Piece}
use Rattle.bv_trees.specs.declared.pieces.Piece.TheVariants as piece
use Rattle.bv_typing.specs.declared.misfit.Misfit.{Misfit}
use Rattle.bv_typing.specs.declared.note.Note.{Note}
use Rattle.bv_typing.specs.declared.kind.Kind.{Kind}
use Rattle.bv_typing.specs.declared.kind.Kind.TheVariants as kind
use Rattle.bv_typing.specs.declared.kind.Row.{Row}
use Rattle.bv_typing.specs.declared.kind.Row.TheVariants as row
use Rattle.bv_typing.specs.declared.method.Method.{Method}
use Rattle.bv_typing.specs.declared.verdicts.Typed.{Typed}
use Rattle.bv_typing.specs.declared.verdicts.Verdict.{Verdict}
use Rattle.bv_typing.specs.declared.verdicts.Gathered.{Gathered}
use Rattle.bv_typing.specs.declared.judging.Part.{Part}
use Rattle.bv_typing.specs.declared.judging.Slot.{Slot}
use Rattle.bv_typing.specs.declared.judging.Slot.TheVariants as slot
use Rattle.bv_typing.specs.declared.variables.Binding.{Binding}
use Rattle.bv_typing.specs.Source.{Source, number_at}
use Rattle.bv_typing.specs.Rows.{sorted}
use Rattle.bv_typing.specs.Variables.{sort_at, named}
use Rattle.bv_typing.specs.Readings.{Env, name_row, variable_at, method_at, infix_width, either, width_in, width_for, width_of_sort}
use Rattle.bv_typing.specs.Notes.{nothing, tells}
use Rattle.bv_typing.specs.Goals.{own, not_truth, least}
use Rattle.bv_typing.specs.Earliest.{also}
use Rattle.bv_typing.specs.Verdicts.{verdict_at, prefix_verdict, infix_verdict, choice_verdict, ascribed_verdict, method_verdict, none_gathered, gathered_before}

-- the terms that are complete and the methods whose arguments are read, the innermost first; a note for each piece so far;
-- and the least misfit so far
pub record Judging : Type 0 where
  pub slots : List Slot
  pub notes : List Note
  pub least : Option Misfit

abbrev pub start : Judging
start = record { slots = []; notes = []; least = None }

-- ---- the stack

abbrev pub untyped : Part
untyped = record { typed = None; outermost = 0 }

-- the last term, and the others
abbrev pub popped : List Slot → Part × List Slot
popped [] = (untyped, [])
popped (slot.Call ∷ ss) = (untyped, ss)
popped (slot.Term p ∷ ss) = (p, ss)

-- the arguments of the last method, and what is before them
abbrev pub gather : List Slot → Gathered → Gathered × List Slot
gather [] g = (g, [])
gather (slot.Call ∷ ss) g = (g, ss)
gather (slot.Term p ∷ ss) g = gather ss (gathered_before p.typed g)

abbrev pub kind_in : Option Typed → Option Kind
kind_in t = option_map (λ x. x.kind) t

-- ---- one piece

-- where these names are bound
abbrev pub env_at : Source → List Binding → Env
env_at s bs = record { source = s; bounds = map (named s) bs }

abbrev pub row_in : Option Verdict → Option Row
row_in v = option_map (λ x. x.row) v

abbrev pub typed_in : Option Verdict → Option Typed
typed_in v = option_and_then (λ x. x.typed) v

-- a term is complete: its own place, that of its outermost node, what its row says, what it tells its parts, what is before them
abbrev pub complete : ℕ → ℕ → Option Verdict → Note → List Slot → Judging → Judging
complete i outermost v n below s = record {
  slots = slot.Term (record { typed = typed_in v; outermost = outermost }) ∷ below;
  notes = s.notes ++ n ∷ [];
  least = also s.least (least (own i (row_in v)));
}

abbrev pub leaf : ℕ → Row → Judging → Judging
leaf i r s = complete i i (Some (verdict_at 1 r)) nothing s.slots s

abbrev pub prefixed : Word → ℕ → Part → List Slot → Judging → Judging
prefixed o i p below s = complete i i (prefix_verdict o p.typed) nothing below s

abbrev pub joined : Word → ℕ → Part → Part → List Slot → Judging → Judging
joined o i p q below s = complete i i (infix_verdict o p.typed q.typed) (tells (infix_width o (kind_in p.typed) (kind_in q.typed))) below s

abbrev pub chosen : ℕ → Part → Part → Part → List Slot → Judging → Judging
chosen i c p q below s = complete i i (choice_verdict c.typed p.typed q.typed) (tells (either (width_in (kind_in p.typed)) (width_in (kind_in q.typed)))) below s

abbrev pub called : Option Method → ℕ → Part → Gathered → List Slot → Judging → Judging
called m i p g below s = complete i i (method_verdict m p.typed g) (record { width = width_for m (kind_in p.typed); arguments = g.count }) below s

abbrev pub ascribed : Option Sort → ℕ → Part → List Slot → Judging → Judging
ascribed t i p below s = complete i p.outermost (ascribed_verdict t p.typed) (tells (width_of_sort t)) below s

abbrev pub calling : Judging → Judging
calling s = record { slots = slot.Call ∷ s.slots; notes = s.notes ++ nothing ∷ []; least = s.least }

abbrev pub passed : Judging → Judging
passed s = record { slots = s.slots; notes = s.notes ++ nothing ∷ []; least = s.least }

abbrev pub on_prefix : Word → ℕ → Part × List Slot → Judging → Judging
on_prefix o i p s = prefixed o i p.0 p.1 s

abbrev pub on_infix : Word → ℕ → Part × List Slot → Judging → Judging
on_infix o i q s = joined o i (popped q.1).0 q.0 (popped q.1).1 s

abbrev pub on_choice : ℕ → Part × List Slot → Judging → Judging
on_choice i q s = chosen i (popped (popped q.1).1).0 (popped q.1).0 q.0 (popped (popped q.1).1).1 s

abbrev pub on_method : Option Method → ℕ → Gathered × List Slot → Judging → Judging
on_method m i g s = called m i (popped g.1).0 g.0 (popped g.1).1 s

abbrev pub on_ascribed : Option Sort → ℕ → Part × List Slot → Judging → Judging
on_ascribed t i p s = ascribed t i p.0 p.1 s

abbrev pub judge : Env → Piece → Judging → Judging
judge e (piece.Name i) s = leaf i (name_row (variable_at e i)) s
judge e (piece.Numeral i) s = leaf i (row.Typed (kind.Number (number_at e.source i))) s
judge e (piece.Literal i w) s = leaf i (sorted (vectors (number_at e.source w))) s
judge e (piece.Constant c i) s = leaf i (row.Typed (kind.Sorted Truth)) s
judge e (piece.Prefix o i) s = on_prefix o i (popped s.slots) s
judge e (piece.Infix o i) s = on_infix o i (popped s.slots) s
judge e (piece.Choice i) s = on_choice i (popped s.slots) s
judge e (piece.Call i) s = calling s
judge e (piece.Method i) s = on_method (method_at e i) i (gather s.slots none_gathered) s
judge e (piece.Ascribed i w) s = on_ascribed (sort_at e.source w) i (popped s.slots) s
judge e (piece.Goal h i) s = passed s
judge e (piece.Variables i j w) s = passed s
judge e (piece.Proof t) s = passed s

-- all pieces
abbrev pub judge_all : Env → List Piece → Judging → Judging
judge_all e [] s = s
judge_all e (p ∷ ps) s = judge_all e ps (judge e p s)

-- ---- the end of a goal, where the stack has its hypotheses and its conclusion

abbrev pub part_misfit : Part → Option Misfit
part_misfit p = least (not_truth p.outermost (kind_in p.typed))

-- the least of those that are no truths, before one that stands behind them
abbrev pub truths_misfit : List Slot → Option Misfit → Option Misfit
truths_misfit [] m = m
truths_misfit (slot.Call ∷ ss) m = truths_misfit ss m
truths_misfit (slot.Term p ∷ ss) m = truths_misfit ss (also (part_misfit p) m)

-- the least misfit of a goal's terms
abbrev pub least_of : Judging → Option Misfit
least_of s = also s.least (truths_misfit s.slots None)
