use Rattle.std.proofs.Common.{◌∷◌, ◌+◌, ap, sym, ◌∙◌, drop, drop-cons, add-one, get_or, arith}
use Rattle.std.proofs.lemmas.List.{drop_all}
use Rattle.lrat_lines.specs.Judge.{delete_clauses, Clauses}
use Rattle.lrat_judge.proofs.Entries.{entries, remove_entries, delete_step, delete_none}
use Rattle.lrat_judge.proofs.known.Known.delete.Goals as goal

pub loop-id-preserved : goal.loop-id-preserved
loop-id-preserved c = record {
  rest =
      ap (λ (db : Clauses). delete_clauses db (drop (c.loop-id.id-index + 1) c.args.ids.now)) (ap entries c.remove.ensures.entries ∙ remove_entries c.loop-id.self-inside.clauses.entries (get_or c.args.ids.now c.loop-id.id-index 0) c.loop-id.invariant.sorted)
      ∙ sym (delete_step (entries c.loop-id.self-inside.clauses.entries) (get_or c.args.ids.now c.loop-id.id-index 0) (drop (c.loop-id.id-index + 1) c.args.ids.now))
      ∙ ap (λ k. delete_clauses (entries c.loop-id.self-inside.clauses.entries) (get_or c.args.ids.now c.loop-id.id-index 0 ∷ drop k c.args.ids.now)) (add-one c.loop-id.id-index)
      ∙ sym (ap (delete_clauses (entries c.loop-id.self-inside.clauses.entries)) (drop-cons c.args.ids.now c.loop-id.id-index 0 (omega arith)))
      ∙ c.loop-id.invariant.rest;
  sorted = c.remove.ensures.ordered;
}

pub returns : goal.returns
returns c =
    sym (ap (delete_clauses (entries c.loop-id.self-inside.clauses.entries)) (drop_all c.loop-id.id-index c.args.ids.now (omega arith)) ∙ delete_none (entries c.loop-id.self-inside.clauses.entries))
    ∙ c.loop-id.invariant.rest
