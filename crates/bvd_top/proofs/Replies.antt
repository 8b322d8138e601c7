-- Replies of a search, as they are told.
use Rattle.std.proofs.Common.{ℕ}
use Rattle.bv_expr.specs.Goal.{AreValues, Falsifies, IsValid}
use Rattle.bv_expr.specs.Statement.{Statement}
use Rattle.goal_reply.specs.declared.reply.Reply.{Reply}
use Rattle.goal_reply.specs.declared.reply.Reply.TheVariants as reply
use Rattle.goal_alone.specs.Alone.{alone}
use Rattle.goal_alone.specs.Told.{IsAnswer, IfProved, IfFalse}
use Rattle.bvd_report.specs.Report.{Told, Full}
use Rattle.bvd_report.specs.Shown.{reply_shown}
use Rattle.bvd_top.specs.Answered.{IsAnswered, IsAnsweredOrFull, IsCertificateFor}

pub answered : (steps : ℕ) (goal : Statement) (r : Reply) → IsAnswer r (alone goal.binders goal.hyps goal.concl steps) → IfProved r (λ _. IsValid goal.binders goal.hyps goal.concl)
    → IfFalse r (λ values. AreValues goal.binders values × Falsifies goal.hyps goal.concl values) → IfProved r (IsCertificateFor goal.hyps goal.concl) → IsAnswered steps goal (reply_shown r)
answered steps goal (reply.Proved text) is valid refuted accepted = (is, accepted, valid)
answered steps goal (reply.False values) is valid refuted accepted = (is, refuted.0, refuted.1)
answered steps goal (reply.Budget spent) is valid refuted accepted = is
answered steps goal reply.Deep is valid refuted accepted = is
answered steps goal reply.Large is valid refuted accepted = is
answered steps goal reply.Memory is valid refuted accepted = tt

-- what a goal is answered alone it may be answered among others
pub or_full : (steps : ℕ) (goal : Statement) (told : Told) → IsAnswered steps goal told → IsAnsweredOrFull steps goal told
or_full steps goal Full is = tt
or_full steps goal told is = is
