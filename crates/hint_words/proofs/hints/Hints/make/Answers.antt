use Rattle.std.proofs.Common.{◌∙◌}
use Rattle.hint_words.proofs.Keeps.{opens}
use Rattle.hint_words.proofs.hints.Hints.make.Goals as goal

pub of_words-requires : goal.of_words-requires
of_words-requires c =
    opens (record { words = c.args.words; seats = c.args.seats }) c.deref.result.now
    (c.deref.ensures.value ∙ c.in_ok-zeros.ensures.items_if_clones_equal (λ y e. e))
