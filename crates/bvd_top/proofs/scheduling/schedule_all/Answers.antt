use Rattle.std.proofs.Common.{◌≡◌, ◌∙◌, ◌≤◌, List, length, map, arith, ap, sym, subst, None, Some}
use Rattle.std.specs.Prelude.{Option}
use Rattle.std.proofs.lemmas.List.{length-map}
use Rattle.bv_expr.specs.declared.goal.Goal.{Goal}
use Rattle.bvd_host.specs.Causes.{Rose}
use Rattle.bvd_words.specs.Requests.{Schedule}
use Rattle.bvd_words.specs.Asked.{request_shown}
use Rattle.bvd_report.specs.Report.{Part, all_goals}
use Rattle.bvd_report.specs.Shown.{parts_shown}
use Rattle.gate_world.specs.Scheduled.{IsScheduled, AreRightOutcomes}
use Rattle.bvd_top.specs.Shown.{files_shown}
use Rattle.bvd_top.specs.Listed.{all_held, parts_by}
use Rattle.bvd_top.specs.Parts.{AreAnswered}
use Rattle.bvd_top.specs.Scheduled.{gates_of}
use Rattle.bvd_top.proofs.Together.{few_held, right_count, together, parts_tellable, gates_told, parts_count}
use Rattle.bvd_top.proofs.scheduling.schedule_all.Goals as goal

pub schedule-requires-clause-goals : goal.schedule-requires-clause-goals
schedule-requires-clause-goals c =
    let few = few_held c.args.files.now c.requires.small in
    let count = length-map c.in_ok-goals.goals.items (λ g. g.now) in
    omega (arith, few, count, ap length c.in_ok-goals.ensures, c.requires.few)

pub parts_of-requires-clause-few : goal.parts_of-requires-clause-few
parts_of-requires-clause-few c = omega (arith, few_held c.args.files.now c.requires.small, c.requires.few)

pub parts_of-requires-clause-count : goal.parts_of-requires-clause-count
parts_of-requires-clause-count c =
    let outcomes = c.in_ok-scheduled.scheduled.outcomes.items in
    right_count c.args.request.now.steps (all_held c.args.files.now) outcomes (subst (λ (l : List Goal). AreRightOutcomes c.args.request.now.steps l outcomes) c.in_ok-goals.ensures c.in_ok-scheduled.ensures.right)

pub returns-clause-found : goal.returns-clause-found
returns-clause-found c = λ kept before now.
    let request = c.args.request.now in
    let files = c.args.files.now in
    let outcomes = c.in_ok-scheduled.scheduled.outcomes.items in
    let counts = c.in_ok-scheduled.scheduled.counts in
    let right = subst (λ (l : List Goal). AreRightOutcomes request.steps l outcomes) c.in_ok-goals.ensures c.in_ok-scheduled.ensures.right in
    let scheduled = subst (λ (l : List Goal). IsScheduled l request.seed request.table request.steps outcomes counts) c.in_ok-goals.ensures c.in_ok-scheduled.ensures.scheduled in
    subst (λ (l : List Part). AreAnswered (request_shown request) kept (Rose before now) (files_shown files) l) (sym c.in_ok-parts.ensures)
    (together (request_shown request) kept (Rose before now) files outcomes counts c.requires.schedules scheduled right)

pub returns-clause-tellable : goal.returns-clause-tellable
returns-clause-tellable c =
    let request = c.args.request.now in
    let files = c.args.files.now in
    let outcomes = c.in_ok-scheduled.scheduled.outcomes.items in
    let counts = c.in_ok-scheduled.scheduled.counts in
    let right = subst (λ (l : List Goal). AreRightOutcomes request.steps l outcomes) c.in_ok-goals.ensures c.in_ok-scheduled.ensures.right in
    let scheduled = subst (λ (l : List Goal). IsScheduled l request.seed request.table request.steps outcomes counts) c.in_ok-goals.ensures c.in_ok-scheduled.ensures.scheduled in
    let found = subst (λ (l : List Part). AreAnswered (request_shown request) None ⊥ (files_shown files) l) (sym c.in_ok-parts.ensures)
    (together (request_shown request) None ⊥ files outcomes counts c.requires.schedules scheduled right) in
    parts_tellable (request_shown request) None ⊥ 1 files c.in_ok-parts.parts.items c.requires.of_file found.0

pub returns-clause-gates : goal.returns-clause-gates
returns-clause-gates c =
    let request = c.args.request.now in
    let files = c.args.files.now in
    let outcomes = c.in_ok-scheduled.scheduled.outcomes.items in
    let counts = c.in_ok-scheduled.scheduled.counts in
    let right = subst (λ (l : List Goal). AreRightOutcomes request.steps l outcomes) c.in_ok-goals.ensures c.in_ok-scheduled.ensures.right in
    let scheduled = subst (λ (l : List Goal). IsScheduled l request.seed request.table request.steps outcomes counts) c.in_ok-goals.ensures c.in_ok-scheduled.ensures.scheduled in
    gates_told files outcomes counts request.seed request.table request.steps (right_count request.steps (all_held files) outcomes right) scheduled
    ∙ ap (λ l. gates_of Schedule (all_goals l)) (sym c.in_ok-parts.ensures)

pub returns-clause-few : goal.returns-clause-few
returns-clause-few c =
    let request = c.args.request.now in
    let files = c.args.files.now in
    let outcomes = c.in_ok-scheduled.scheduled.outcomes.items in
    let right = subst (λ (l : List Goal). AreRightOutcomes request.steps l outcomes) c.in_ok-goals.ensures c.in_ok-scheduled.ensures.right in
    let count = parts_count files outcomes (right_count request.steps (all_held files) outcomes right) in
    omega (arith, few_held files c.requires.small, c.requires.few, count, ap (λ l. length (all_goals l)) c.in_ok-parts.ensures)
