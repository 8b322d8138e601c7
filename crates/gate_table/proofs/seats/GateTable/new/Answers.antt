use Rattle.std.proofs.Common.{rules, ap, ◌∙◌}
use Rattle.gate_probe.specs.Words.{word_at}
use Rattle.gate_table.proofs.Allowed.{begins, all_zero}
use Rattle.gate_table.proofs.seats.GateTable.new.Goals as goal

pub of_words-requires : goal.of_words-requires
of_words-requires c = begins _ _ (search rules) (λ s. ap (λ ws. word_at ws s) (c.as_slice.ensures.value ∙ c.in_ok-words.ensures.items_if_clones_equal (λ y e. e)) ∙ all_zero _ s)
