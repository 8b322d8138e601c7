use Rattle.std.proofs.Common.{◌≡◌, ◌∙◌, ◌++◌, ap, length}
use Rattle.lrat_lines.specs.Lines.{written}
use Rattle.lrat_trim.specs.Derivation.{Derivation}
use Rattle.lrat_trim.specs.Trim.{trim}
use Rattle.goal_alone.proofs.Texts.{reads_back}
use Rattle.goal_alone.proofs.certificate.certificate.Goals as goal

pub returns-clause-text : goal.returns-clause-text
returns-clause-text c =
    let logged = written (trim c.log.result.now.inputs c.log.result.now.lines) in
    c.in_ok-write_trimmed.ensures.text ∙ ap (λ xs. xs ++ logged) c.new-text.ensures.items ∙ ap (λ (l : Derivation). written (trim l.inputs l.lines)) c.log.ensures.log

pub returns-clause-lines : goal.returns-clause-lines
returns-clause-lines c =
    let logged = trim c.log.result.now.inputs c.log.result.now.lines in
    let trimmed = trim (length c.args.search.now.clauses) c.args.search.now.machine.log in
    reads_back c.write_trimmed.new.out.items logged trimmed (c.in_ok-write_trimmed.ensures.text ∙ ap (λ xs. xs ++ written logged) c.new-text.ensures.items) (ap (λ (l : Derivation). trim l.inputs l.lines) c.log.ensures.log) c.in_ok-write_trimmed.ensures.writable
