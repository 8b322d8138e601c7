use Rattle.bv_grammar.proofs.Unique.{not_both, one_fault}
use Rattle.bv_grammar.proofs.Total.{every_file_ends}
use Rattle.bv_grammar.proofs.laws.whole_or_fault.Goals as goal

pub returns-clause-one_of_both : goal.returns-clause-one_of_both
returns-clause-one_of_both c = every_file_ends

pub returns-clause-not_both : goal.returns-clause-not_both
returns-clause-not_both c = not_both

pub returns-clause-one_fault : goal.returns-clause-one_fault
returns-clause-one_fault c = one_fault
