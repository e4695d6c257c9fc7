use Rattle.hop_core.proofs.Rounds.{round_may_be_asked, round_retires_one}
use Rattle.hop_core.proofs.laws.a_round_retires_one_packet.Goals as goal

pub returns-clause-asks : goal.returns-clause-asks
returns-clause-asks c = round_may_be_asked

pub returns-clause-one : goal.returns-clause-one
returns-clause-one c = round_retires_one
