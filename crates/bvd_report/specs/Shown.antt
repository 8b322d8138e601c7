-- What the code's values stand for.
use Rattle.std.specs.Prelude.{List, map, string_bytes}
use Rattle.goal_reply.specs.declared.reply.Reply.{Reply}
use Rattle.goal_reply.specs.declared.reply.Reply.TheVariants as reply
use Rattle.goal_reply.specs.declared.reply.Outcome.{Outcome}
use Rattle.goal_reply.specs.declared.reply.Outcome.TheVariants as outcome
use Rattle.bv_expr.specs.Statement.{statement_of}
use Rattle.bvd_report.specs.declared.told.Told.{Told}
use Rattle.bvd_report.specs.declared.told.Told.TheVariants as told
use Rattle.bvd_report.specs.declared.told.Line.{Line}
use Rattle.bvd_report.specs.declared.told.Found.{Found}
use Rattle.bvd_report.specs.declared.told.Found.TheVariants.{Absent, TooLong, Faulty, Goals}
use Rattle.bvd_report.specs.declared.told.Part.{Part}
use Rattle.bvd_report.specs.declared.summary.Verdict.{Verdict}
use Rattle.bvd_report.specs.declared.summary.Verdict.TheVariants as verdict
use Rattle.goal_reply.specs.declared.counts.GateCounts.{GateCounts}
use Rattle.bvd_report.specs.Report as spec

abbrev pub reply_shown : Reply → spec.Told
reply_shown (reply.Proved text) = spec.Told.Proved text.items
reply_shown (reply.False values) = spec.Told.False values.items
reply_shown (reply.Budget spent) = spec.Told.Budget spent
reply_shown reply.Deep = spec.Told.Deep
reply_shown reply.Large = spec.Told.Large
reply_shown reply.Memory = spec.Told.OutOfMemory

abbrev pub outcome_shown : Outcome → spec.Told
outcome_shown (outcome.Replied r) = reply_shown r
outcome_shown outcome.Full = spec.Told.Full
outcome_shown (outcome.Cancelled by) = spec.Told.Cancelled by

abbrev pub told_shown : Told → spec.Told
told_shown (told.Outcome o) = outcome_shown o
told_shown (told.Replayed end) = spec.Told.Replayed end
told_shown told.AbsentCertificate = spec.Told.AbsentCertificate
told_shown (told.Clauses text) = spec.Told.Clauses text.items
told_shown told.Nothing = spec.Told.Nothing

abbrev pub line_shown : Line → spec.Line
line_shown line = record { goal = statement_of line.goal.now; certificate = string_bytes line.certificate; told = told_shown line.told }

abbrev pub lines_shown : List Line → List spec.Line
lines_shown lines = map line_shown lines

abbrev pub found_shown : Found → spec.Found
found_shown Absent = spec.Found.Absent
found_shown TooLong = spec.Found.TooLong
found_shown (Faulty fault) = spec.Found.Faulty fault
found_shown (Goals lines) = spec.Found.Goals (lines_shown lines.items)

abbrev pub part_shown : Part → spec.Part
part_shown part = record { path = part.path.now; found = found_shown part.found }

abbrev pub parts_shown : List Part → List spec.Part
parts_shown parts = map part_shown parts

abbrev pub verdict_shown : Verdict → spec.Verdict
verdict_shown verdict.Holds = spec.Verdict.Holds
verdict_shown verdict.Fails = spec.Verdict.Fails
verdict_shown verdict.Other = spec.Verdict.Other

abbrev pub gates_shown : GateCounts → spec.Gates
gates_shown g = record { in_cones = g.in_cones; distinct = g.distinct }
