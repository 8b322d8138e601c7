use Rattle.std.proofs.Common.{ℕ, ◌≤◌, arith, subst, sym}
use Rattle.std.specs.Prelude.{IfSome, Option, option_map}
use Rattle.bvd_words.proofs.Bounds.{number_or_most}
use Rattle.bvd_words.proofs.request.steps_of.Goals as goal

pub returns-clause-most : goal.returns-clause-most
returns-clause-most c =
    let P : Option ℕ → Type 0 = λ o. IfSome o (λ n. n ≤ 1000000000) in
    subst P (sym c.number_or.ensures) (number_or_most 10000000 1 1000000000 (option_map (λ t. t.now) c.text_of.result) (omega arith))
