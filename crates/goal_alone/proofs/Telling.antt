-- What holds of a proved goal's clauses holds of the goal.
use Rattle.std.proofs.Common.{◌≡◌, ℕ, ◌≤◌, true, false, List, length, sym, ◌∙◌, subst}
use Rattle.std.specs.Prelude.{◌↔◌}
use Rattle.bv_expr.specs.Term.{Term}
use Rattle.bv_expr.specs.Goal.{Binders, IsValid}
use Rattle.sat_form.specs.Literals.{Literal}
use Rattle.sat_form.specs.Truth.{HaveNoValues}
use Rattle.lrat_lines.specs.Replay.{TextComesTo}
use Rattle.lrat_lines.specs.Replay.Verdict.{Accepted}
use Rattle.goal_alone.specs.Satisfying.{IsSatisfiable, IsFalsifiable}
use Rattle.goal_reply.specs.declared.reply.Reply.{Reply}
use Rattle.goal_reply.specs.declared.reply.Reply.TheVariants as reply
use Rattle.goal_alone.specs.Told.{IfProved}

pub map_proved : (r : Reply) (P Q : List ℕ → Type 0) → ((text : List ℕ) → P text → Q text) → IfProved r P → IfProved r Q
map_proved (reply.Proved text) P Q f p = f text.items p
map_proved (reply.False values) P Q f p = tt
map_proved (reply.Budget spent) P Q f p = tt
map_proved reply.Deep P Q f p = tt
map_proved reply.Large P Q f p = tt
map_proved reply.Memory P Q f p = tt

-- clauses without values are those of a valid goal
pub valid_without_values : (binders : Binders) (hyps : List Term) (concl : Term) (cs : List (List Literal)) → IsSatisfiable cs ↔ IsFalsifiable binders hyps concl → HaveNoValues cs → IsValid binders hyps concl
valid_without_values binders hyps concl cs law none values are false_at =
    let some = law.1 (values, are, false_at) in
    let clash : false ≡ true = sym (none some.0) ∙ some.1 in
    absurd (cc)

pub accepted_for : (r : Reply) (cs ds : List (List Literal)) → cs ≡ ds → IfProved r (λ text. (most : ℕ) → length text ≤ most → TextComesTo cs most text Accepted) → IfProved r (λ text. (most : ℕ) → length text ≤ most → TextComesTo ds most text Accepted)
accepted_for r cs ds e p = subst (λ (es : List (List Literal)). IfProved r (λ text. (most : ℕ) → length text ≤ most → TextComesTo es most text Accepted)) e p
