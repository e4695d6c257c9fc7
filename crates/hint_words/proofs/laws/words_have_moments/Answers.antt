use Rattle.hint_words.proofs.Moments.{words_have_moments}
use Rattle.hint_words.proofs.laws.words_have_moments.Goals as goal

pub returns : goal.returns
returns c = words_have_moments
