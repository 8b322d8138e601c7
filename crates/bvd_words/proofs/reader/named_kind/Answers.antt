use Rattle.std.proofs.Common.{Some, None, arith, sym, ◌<◌, length}
use Rattle.std.proofs.lemmas.Str.Pattern.{split_parts}
use Rattle.std.proofs.lemmas.Bool.Decides.{nat_tests}
use Rattle.bvd_words.proofs.Lexed.{named_parts, named_whole}
use Rattle.bvd_words.proofs.reader.named_kind.Goals as goal

pub returns-in-Some : goal.returns-in-Some
returns-in-Some c =
    let parts = split_parts 61 c.args.name.now (Some (c.in-Some.name, c.in-Some.text)) c.in-Some.ensures.cases (omega arith) in
    let some : 0 < length c.args.name.now = grind (arith, nat_tests) in
    sym (named_parts c.args.name.now c.in-Some.name.now c.in-Some.text.now some parts.0 parts.1)

pub returns-in-None : goal.returns-in-None
returns-in-None c =
    let lacks = split_parts 61 c.args.name.now None c.in-None.ensures.cases (omega arith) in
    let some : 0 < length c.args.name.now = grind (arith, nat_tests) in
    sym (named_whole c.args.name.now some lacks)
