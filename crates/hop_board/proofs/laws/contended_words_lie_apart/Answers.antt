use Rattle.hop_board.proofs.Apart.{lie_apart}
use Rattle.hop_board.proofs.laws.contended_words_lie_apart.Goals as goal

pub returns : goal.returns
returns c = lie_apart
