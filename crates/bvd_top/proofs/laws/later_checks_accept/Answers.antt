use Rattle.bvd_host.specs.Causes.{Rose}
use Rattle.bvd_top.proofs.Confirmed.{OneAnswer, later_accepts}
use Rattle.bvd_top.proofs.laws.later_checks_accept.Goals as goal

pub returns-clause-done : goal.returns-clause-done
returns-clause-done c =
    let once : OneAnswer = record { fault = c.one_answer.ensures.fault; reading = c.one_answer.ensures.reading; not_both = c.one_answer.ensures.not_both } in
    later_accepts once ⊥ ⊥

pub returns-clause-ending : goal.returns-clause-ending
returns-clause-ending c =
    let once : OneAnswer = record { fault = c.one_answer.ensures.fault; reading = c.one_answer.ensures.reading; not_both = c.one_answer.ensures.not_both } in
    λ k l m n. later_accepts once (Rose k l) (Rose m n)
