use Rattle.bvd_report.specs.Report.{Holds, Fails, Other, count_of, all_goals}
use Rattle.bvd_report.specs.Shown.{parts_shown}
use Rattle.bvd_report.proofs.Counts.{counted}
use Rattle.bvd_report.proofs.summary.push_counts.Goals as goal

pub returns : goal.returns
returns c =
    let goals = all_goals (parts_shown c.args.parts.now) in
    counted c.extend_from_slice-2.result c.args.out.now.items c.extend_from_slice.new.self.items c.push_count.new.out.items c.push_count-2.new.out.items c.push_number.new.out.items c.extend_from_slice-2.new.self.items
    c.args.holds.now c.args.fails.now c.count_all.result c.count_all-2.result c.count_all-3.result (count_of Holds goals) (count_of Fails goals) (count_of Other goals)
    c.count_all.ensures c.count_all-2.ensures c.count_all-3.ensures c.in_ok-extend_from_slice.ensures.items c.in_ok-push_count.ensures c.in_ok-push_count-2.ensures c.in_ok-push_number.ensures.ok c.extend_from_slice-2.ensures.items
