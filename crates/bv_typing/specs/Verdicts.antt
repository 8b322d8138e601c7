-- What a form's own row says, and of which kind and depth its term then is, by the kinds and depths of its parts.
use Rattle.std.specs.Prelude.{ℕ, ◌+◌, max, Option, Some, None, option_map, option_and_then}
use Rattle.bv_grammar.specs.declared.words.Word.{Word}
use Rattle.bv_expr.specs.declared.ops.Sort.{Sort}
use Rattle.bv_limits.specs.Depths.{added}
use Rattle.bv_typing.specs.declared.kind.Row.{Row}
use Rattle.bv_typing.specs.declared.kind.Row.TheVariants as row
use Rattle.bv_typing.specs.declared.method.Method.{Method}
use Rattle.bv_typing.specs.declared.methods.Arguments.{Arguments}
use Rattle.bv_typing.specs.declared.methods.Arguments.TheVariants as few
use Rattle.bv_typing.specs.declared.verdicts.Typed.{Typed}
use Rattle.bv_typing.specs.declared.verdicts.Verdict.{Verdict}
use Rattle.bv_typing.specs.declared.verdicts.Gathered.{Gathered}
use Rattle.bv_typing.specs.Arguments.{kinds_in, put_before}
use Rattle.bv_typing.specs.Rows.{prefix_row, infix_row, choice_row, method_row}
use Rattle.bv_typing.specs.Readings.{within, ascribed_to}

-- of the kind that a row says, at this depth
abbrev pub typed_with : ℕ → Row → Option Typed
typed_with d (row.Typed k) = Some (record { kind = k; depth = d })
typed_with d row.Fails = None
typed_with d row.TooWide = None

abbrev pub verdict_at : ℕ → Row → Verdict
verdict_at d r = record { row = r; typed = typed_with d r }

-- of a term that is deeper than its parts, and maybe too deep
abbrev pub deeper : ℕ → Row → Verdict
deeper d r = verdict_at d (within d r)

abbrev pub prefix_verdict : Word → Option Typed → Option Verdict
prefix_verdict o p = option_map (λ t. deeper (t.depth + 1) (prefix_row o t.kind)) p

abbrev pub infix_verdict : Word → Option Typed → Option Typed → Option Verdict
infix_verdict o p q = option_and_then (λ t. option_map (λ u. deeper (max t.depth u.depth + added o) (infix_row o t.kind u.kind)) q) p

abbrev pub choice_verdict : Option Typed → Option Typed → Option Typed → Option Verdict
choice_verdict c p q = option_and_then (λ s. option_and_then (λ t. option_map (λ u. deeper (max s.depth (max t.depth u.depth) + 1) (choice_row s.kind t.kind u.kind)) q) p) c

abbrev pub ascribed_verdict : Option Sort → Option Typed → Option Verdict
ascribed_verdict s p = option_map (λ t. verdict_at t.depth (ascribed_to s t.kind)) p

-- ---- the arguments of a method

-- none yet
abbrev pub none_gathered : Gathered
none_gathered = record { kinds = Some few.None; depth = 0; count = 0 }

abbrev pub kinds_before : Option Typed → Option Arguments → Option Arguments
kinds_before (Some t) (Some ks) = Some (put_before t.kind ks)
kinds_before _ _ = None

abbrev pub deepest : Option Typed → ℕ → ℕ
deepest None d = d
deepest (Some t) d = max t.depth d

-- one before them
abbrev pub gathered_before : Option Typed → Gathered → Gathered
gathered_before p g = record { kinds = kinds_before p g.kinds; depth = deepest p g.depth; count = g.count + 1 }

abbrev pub method_verdict : Option Method → Option Typed → Gathered → Option Verdict
method_verdict m p g = option_and_then (λ t. option_map (λ ks. deeper (max t.depth g.depth + 1) (method_row m t.kind (kinds_in ks))) g.kinds) p
