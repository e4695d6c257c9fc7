use Rattle.hint_words.proofs.Changes.{changes_are_written}
use Rattle.hint_words.proofs.laws.changes_are_written.Goals as goal

pub returns : goal.returns
returns c = changes_are_written
