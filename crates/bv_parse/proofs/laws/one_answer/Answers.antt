use Rattle.bv_parse.proofs.Unique.{one_fault, one_reading, not_both}
use Rattle.bv_parse.proofs.laws.one_answer.Goals as goal

pub returns-clause-fault : goal.returns-clause-fault
returns-clause-fault c = one_fault (record { cut = c.one_cut.ensures; not_both = c.whole_or_fault.ensures.not_both; one_fault = c.whole_or_fault.ensures.one_fault; whole = c.whole_files_have_one_reading.ensures.whole; one = c.whole_files_have_one_reading.ensures.one })

pub returns-clause-not_both : goal.returns-clause-not_both
returns-clause-not_both c = not_both (record { cut = c.one_cut.ensures; not_both = c.whole_or_fault.ensures.not_both; one_fault = c.whole_or_fault.ensures.one_fault; whole = c.whole_files_have_one_reading.ensures.whole; one = c.whole_files_have_one_reading.ensures.one })

pub returns-clause-reading : goal.returns-clause-reading
returns-clause-reading c = one_reading (record { cut = c.one_cut.ensures; not_both = c.whole_or_fault.ensures.not_both; one_fault = c.whole_or_fault.ensures.one_fault; whole = c.whole_files_have_one_reading.ensures.whole; one = c.whole_files_have_one_reading.ensures.one })
