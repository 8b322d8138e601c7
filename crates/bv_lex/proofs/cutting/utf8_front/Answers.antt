use Rattle.std.proofs.Common.{◌≡◌, length, sym, arith}
use Rattle.std.specs.Str.Lossy.{utf8_valid_len}
use Rattle.std.proofs.lemmas.List.{take_all}
use Rattle.std.proofs.lemmas.Str.{utf8_valid_len-IsUtf8}
use Rattle.bv_lex.proofs.cutting.utf8_front.Goals as goal

pub returns-in-Ok-clause-front : goal.returns-in-Ok-clause-front
returns-in-Ok-clause-front c =
    let all : utf8_valid_len c.args.bytes.now ≡ length c.args.bytes.now = utf8_valid_len-IsUtf8 c.args.bytes.now c.in-Ok.ensures.cases.1 in
    sym (take_all (utf8_valid_len c.args.bytes.now) c.args.bytes.now (omega arith))
