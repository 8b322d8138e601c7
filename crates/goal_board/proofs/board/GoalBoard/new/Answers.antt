use Rattle.std.proofs.Common.{rules, ap, ◌∙◌}
use Rattle.goal_board.specs.Words.{word_at}
use Rattle.goal_board.proofs.Cutting.{begins, all_zero}
use Rattle.goal_board.proofs.board.GoalBoard.new.Goals as goal

pub of_words-requires : goal.of_words-requires
of_words-requires c = begins _ _ (c.requires.sessions, c.requires.workers.1, c.requires.goals) (search rules)
    (λ s. ap (λ ws. word_at ws s) (c.as_slice.ensures.value ∙ c.in_ok-words.ensures.items_if_clones_equal (λ y e. e)) ∙ all_zero _ s)
