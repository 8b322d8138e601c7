use Rattle.std.proofs.Common.{◌≡◌, ◌+◌, ◌∙◌, get_or, sym}
use Rattle.std.specs.Prelude.{slice_get, Some}
use Rattle.std.proofs.lemmas.Bool.{eqb-true}
use Rattle.std.proofs.lemmas.Option.{slice_get_within}
use Rattle.bv_lex.proofs.Reading.{here, read}
use Rattle.bv_lex.proofs.Encoding.{differ}
use Rattle.bv_lex.proofs.runs.is_pair.Goals as goal

pub returns-then-byte-first-clause-yes : goal.returns-then-byte-first-clause-yes
returns-then-byte-first-clause-yes c e =
    let one : get_or c.args.text.now c.args.at 0 ≡ c.args.first = sym c.byte.ensures ∙ c.if-byte-first.true in
    let two : get_or c.args.text.now (c.args.at + 1) 0 ≡ c.args.second = sym c.byte-then-byte-first.ensures ∙ eqb-true _ _ e in
    let there : slice_get c.args.text.now (c.args.at + 1) ≡ Some c.args.second = here c.args.text.now (c.args.at + 1) c.args.second two c.requires.second in
    ((here c.args.text.now c.args.at c.args.first one c.requires.first, (there, tt)), slice_get_within c.args.text.now (c.args.at + 1) c.args.second there)

pub returns-then-byte-first-clause-no_ : goal.returns-then-byte-first-clause-no_
returns-then-byte-first-clause-no_ c e s = differ _ _ e (c.byte-then-byte-first.ensures ∙ read c.args.text.now (c.args.at + 1) c.args.second s.1.0)

pub returns-else-byte-first-clause-no_ : goal.returns-else-byte-first-clause-no_
returns-else-byte-first-clause-no_ c e s = differ _ _ e (c.byte.ensures ∙ read c.args.text.now c.args.at c.args.first s.0)
