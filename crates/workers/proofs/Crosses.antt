-- What the threads share may be lent to each of them, and a worker with its seats may go to one.
use denote.Param.Send.{AllSync, IsSend, IsSync, recorded_sync, struct_sync}
use denote.Struct.Declared.{fields, shape}
use Rattle.steer_base.specs.contracts.journal.Journal.{the_row as journal_row}
use Rattle.steer_base.proofs.journal.Journal.TheSendSync as journal
use Rattle.history.specs.contracts.arrival.Arrival.{the_row as arrival_row}
use Rattle.history.proofs.arrival.Arrival.TheSendSync as arrival
use Rattle.hop_board.specs.contracts.board.Board.{the_row as board_row}
use Rattle.hop_board.proofs.Crosses.{board_sync}
use Rattle.board_api.proofs.Crosses.{seat_send}
use Rattle.linearization.proofs.seat.OrderedSeat.TheSendSync as ordered
use Rattle.run_words.proofs.Crosses.{shared_part_sync as shared_sync}
use Rattle.run_workers.specs.contracts.stage.Stage as stage
use Rattle.run_workers.proofs.worker.Worker.TheSendSync as worker
use Rattle.run_crew.specs.contracts.seated.Seated as seated
use Rattle.hint_words.proofs.hints.Hints.TheSendSync as hints
use Rattle.run_workers.specs.contracts.tally.Counter as counter
use Rattle.run_workers.specs.contracts.tally.Tally.{the_row as tally_row}
use Rattle.workers.specs.contracts.posts.Post as post
use Rattle.workers.proofs.Names.{sendable, crosses}

late_sync : IsSync (journal_row arrival_row)
late_sync = search (sendable, journal.the_sync, arrival.the_sync) depth 60

pub stage_sync : IsSync (stage.the_row board_row)
stage_sync =
    let T = stage.the_type board_row in
    let all : AllSync (fields T) = (board_sync, (board_sync, (shared_sync, (late_sync, tt)))) in
    recorded_sync _ _ _ T.to_one (struct_sync (shape T) all)

pub tally_sync : IsSync tally_row
tally_sync = search (sendable, crosses, hints.the_sync) depth 60

seated_part_send : IsSend (seated.the_field).row
seated_part_send = search (
  sendable,
  crosses,
  worker.the_field_send,
  seat_send,
  ordered.the_send,
) depth 60

counter_part_send : IsSend (counter.the_field).row
counter_part_send = search (sendable, crosses, ordered.the_send) depth 60

pub post_send : IsSend post.the_row
post_send = search (sendable, crosses, seated_part_send, counter_part_send) depth 60
