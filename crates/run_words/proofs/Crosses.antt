-- What the threads share may be lent to each of them, by itself and as a part of another struct.
use denote.Param.Send.{IsSync, sendable}
use Rattle.std.proofs.Crossing.{crosses}
use Rattle.hint_words.proofs.hints.Hints.TheSendSync as hints
use Rattle.steer_model.specs.contracts.setup.Given.{the_row as given_row}
use Rattle.run_words.specs.contracts.shared.Shared as shared

given_sync : IsSync given_row
given_sync = search (sendable, crosses) depth 60

pub shared_sync : IsSync shared.the_row
shared_sync = search (sendable, crosses, hints.the_sync, given_sync) depth 60

pub shared_part_sync : IsSync (shared.the_field).row
shared_part_sync = search (sendable, crosses, hints.the_sync, given_sync) depth 60
