use Rattle.workers.proofs.BoardLaws.{boards_have_settings}
use Rattle.workers.proofs.board_laws.boards_have_their_settings.Goals as goal

pub returns : goal.returns
returns c = boards_have_settings
