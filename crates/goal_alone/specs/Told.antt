-- What a reply says.
use Rattle.std.specs.Prelude.{◌≡◌, ℕ, List}
use Rattle.bv_expr.specs.declared.ops.Val.{Val}
use Rattle.goal_reply.specs.declared.reply.Reply.{Reply}
use Rattle.goal_reply.specs.declared.reply.Reply.TheVariants as reply
use Rattle.goal_alone.specs.Alone.{Answer}
use Rattle.goal_alone.specs.Alone as answer

-- The reply is this answer, or want of memory.
abbrev pub IsAnswer : Reply → Answer → Type 0
IsAnswer (reply.Proved text) a = a ≡ answer.Proved text.items
IsAnswer (reply.False values) a = a ≡ answer.False values.items
IsAnswer (reply.Budget spent) a = a ≡ answer.Budget spent
IsAnswer reply.Deep a = a ≡ answer.Deep
IsAnswer reply.Large a = a ≡ answer.Large
IsAnswer reply.Memory a = Unit {0}

-- This holds of the certificate, where the reply is Proved.
abbrev pub IfProved : Reply → (List ℕ → Type 0) → Type 0
IfProved (reply.Proved text) P = P text.items
IfProved _ P = Unit {0}

-- This holds of the values, where the reply is False.
abbrev pub IfFalse : Reply → (List Val → Type 0) → Type 0
IfFalse (reply.False values) P = P values.items
IfFalse _ P = Unit {0}
