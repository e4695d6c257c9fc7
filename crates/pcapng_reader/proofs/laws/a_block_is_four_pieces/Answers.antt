use Rattle.pcapng_reader.proofs.Pieces.{has_four_pieces}
use Rattle.pcapng_reader.proofs.laws.a_block_is_four_pieces.Goals as goal

pub returns : goal.returns
returns c = has_four_pieces
