use Rattle.std.proofs.Common.{◌≡◌, ◌∙◌, ap, sym, subst, false, length}
use Rattle.std.specs.Option.{option_copied, option_map}
use Rattle.search_learn.specs.Analysis.{seen}
use Rattle.search_learn.specs.Engine.{Engine, stepped}
use Rattle.search_learn.specs.Machine.{Machine, advance, step}
use Rattle.lrat_trim.specs.Derivation.{Derivation}
use Rattle.cdcl_solver.specs.Kept.{IsRunning}
use Rattle.cdcl_solver.specs.Notes.{lines_with}
use Rattle.cdcl_solver.specs.Progress.{Progress}
use Rattle.cdcl_solver.proofs.Going.{advanced, may_note, next_running}
use Rattle.cdcl_solver.proofs.Search.advance.Goals as goal

pub note-requires : goal.note-requires
note-requires c =
    let s = c.self.inside in
    let running = c.self.invariant.1 (rw (← c.self.view_is) at c.requires) in
    may_note s.rounds s.log running c.self.invariant.0 (option_map seen (option_copied c.last.result))
    (sym (c.last.ensures ∙ ap (λ (e : Engine). e.last) c.in_ok-turn.ensures.step))

pub invariant_of-self-2 : goal.invariant_of-self-2
invariant_of-self-2 c =
    let s = c.self.inside in
    let running = c.self.invariant.1 (rw (← c.self.view_is) at c.requires) in
    let lesson = option_map seen (option_copied c.last.result) in
    let learnt : (step s.rounds.budget s.rounds.state).learnt ≡ lesson = sym (c.last.ensures ∙ ap (λ (e : Engine). e.last) c.in_ok-turn.ensures.step) in
    let engine = sym c.in_ok-turn.ensures.step in
    let log = sym c.in_ok-note.ensures.ok in (
      ap (λ (d : Derivation). d.inputs) c.in_ok-note.ensures.ok ∙ c.self.invariant.0 ∙ ap (λ (e : Engine). length e.clauses) engine,
      λ _. subst (λ (e : Engine). IsRunning e c.note.new.log) engine (subst (λ (d : Derivation). IsRunning (stepped s.rounds) d) log (next_running s.rounds s.log running c.self.invariant.0 lesson learnt)),
    )

pub returns-clause-step : goal.returns-clause-step
returns-clause-step c =
    let s = c.self.inside in
    let whole = rw (← c.self.view_is) at c.requires in
    let running = c.self.invariant.1 whole in
    let lesson = option_map seen (option_copied c.last.result) in
    let learnt : (step s.rounds.budget s.rounds.state).learnt ≡ lesson = sym (c.last.ensures ∙ ap (λ (e : Engine). e.last) c.in_ok-turn.ensures.step) in
    let engine = c.in_ok-turn.ensures.step in
    let log = c.in_ok-note.ensures.ok in
    let moved : ◌≡◌ {A = Progress} (record { vars = c.step.new.self.vars; clauses = c.step.new.self.clauses; budget = c.step.new.self.budget; machine = record { state = c.step.new.self.state; log = c.note.new.log.lines }; broken = false })
    (record { vars = s.rounds.vars; clauses = s.rounds.clauses; budget = s.rounds.budget; machine = record { state = (step s.rounds.budget s.rounds.state).state; log = lines_with s.log lesson }; broken = false }) =
    λ i. record { vars = (engine i).vars; clauses = (engine i).clauses; budget = (engine i).budget; machine = record { state = (engine i).state; log = (log i).lines }; broken = false } in
    rw (← c.self.view_is)
    (moved
    ∙ ap (λ (a : Machine). record { vars = s.rounds.vars; clauses = s.rounds.clauses; budget = s.rounds.budget; machine = a; broken = false }) (advanced s.rounds s.log running c.self.invariant.0 lesson learnt)
    ∙ ap (λ b. record { vars = s.rounds.vars; clauses = s.rounds.clauses; budget = s.rounds.budget; machine = advance s.rounds.budget (record { state = s.rounds.state; log = s.log.lines }); broken = b }) (sym whole))
