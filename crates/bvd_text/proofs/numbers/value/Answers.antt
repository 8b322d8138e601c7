use Rattle.std.proofs.Common.{◌≡◌, ◌+◌, ◌*◌, Some, None, arith, ap, ◌∙◌, take}
use Rattle.std.specs.Str.Parse.{digits_value}
use Rattle.std.proofs.lemmas.List.{take_all}
use Rattle.bvd_text.specs.Numbers as spec
use Rattle.bvd_text.proofs.Digits.{digit_at, next_value, stays_big}
use Rattle.bvd_text.proofs.numbers.value.Goals as goal

pub digit-next-requires-clause-digit : goal.digit-next-requires-clause-digit
digit-next-requires-clause-digit c = digit_at c.args.base c.args.digits.now c.loop-byte.byte-index c.requires.digits (omega arith)

pub returns-in_err-value : goal.returns-in_err-value
returns-in_err-value c =
    let none : None ≡ spec.small (c.loop-byte.value * c.args.base + c.digit-next.result) = c.in_err-value.ensures in
    let next : None ≡ spec.small (digits_value c.args.base (take (c.loop-byte.byte-index + 1) c.args.digits.now)) = next_value c.args.base c.args.digits.now c.loop-byte.byte-index c.loop-byte.value c.digit-next.result None
    c.loop-byte.invariant (omega arith) c.digit-next.ensures.value none in
    let all : None ≡ spec.small (digits_value c.args.base c.args.digits.now) = stays_big c.args.base c.args.digits.now (c.loop-byte.byte-index + 1) (omega (arith, c.requires.low)) next in
    let given : c.from_residual.result ≡ None = grind arith in
    given ∙ all

pub loop-byte-preserved : goal.loop-byte-preserved
loop-byte-preserved c =
    let some : Some c.in_ok-value.value ≡ spec.small (c.loop-byte.value * c.args.base + c.digit-next.result) = c.in_ok-value.ensures in
    next_value c.args.base c.args.digits.now c.loop-byte.byte-index c.loop-byte.value c.digit-next.result (Some c.in_ok-value.value)
    c.loop-byte.invariant (omega arith) c.digit-next.ensures.value some

pub returns : goal.returns
returns c =
    let end : take c.loop-byte.byte-index c.args.digits.now ≡ c.args.digits.now = take_all c.loop-byte.byte-index c.args.digits.now (omega arith) in
    c.loop-byte.invariant ∙ ap (λ ds. spec.small (digits_value c.args.base ds)) end
