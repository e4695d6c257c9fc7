use Rattle.run_words.proofs.WordNumbers.{hint_words_apart, settings_apart}
use Rattle.run_words.proofs.laws.words_lie_apart.Goals as goal

pub returns-clause-words : goal.returns-clause-words
returns-clause-words c = hint_words_apart

pub returns-clause-settings : goal.returns-clause-settings
returns-clause-settings c = settings_apart
