-- What the workers of a run share, as contracts see it.
use Rattle.std.specs.Prelude.{◌≡◌, ◌≤◌, List}
use Rattle.history.specs.declared.arrival.Arrival.{Arrival}
use Rattle.plan_reader.specs.declared.limits.TheConstants.{MAX_PLAN_FILTERS}
use Rattle.board_api.specs.Views.{BoardView}
use Rattle.run_words.specs.Numbers.{word_count}
use Rattle.run_workers.specs.Hands.Pollers.{HasQueueSettings}
use Rattle.run_workers.specs.Hands.Servers.{HasTransmitSettings}
use Rattle.run_words.specs.declared.shared.Shared.{Shared}

-- A stage as contracts see it: its two boards, what all threads share beside them, and the arrivals
-- once all packets have arrived.
pub record StageView : Type 0 where
  pub rx : BoardView
  pub tx : BoardView
  pub shared : Shared
  pub late : List Arrival

abbrev pub stage_view : BoardView → BoardView → Shared → List Arrival → StageView
stage_view rx tx shared late = record { rx = rx; tx = tx; shared = shared; late = late }

-- The boards and the words of a stage have the sizes that the plan asks for: a lane of the receive
-- board for each processor and one of the transmit board for each transmit queue, out lanes for all
-- applications and the port, their settings, one room at both boards, and two words for each
-- packet.
pub record HasSizes (t : StageView) : Type 0 where
  pub queue_settings : HasQueueSettings t.rx.sizes t.shared.given
  pub cpus : t.rx.sizes.lanes ≡ t.shared.given.cpus
  pub apps : t.shared.given.apps ≤ t.rx.sizes.outs
  pub maps : HasTransmitSettings t.tx.sizes t.shared.given
  pub port : 1 ≤ t.tx.sizes.outs
  pub room : t.tx.sizes.room ≡ t.rx.sizes.room
  pub words : word_count t.rx.sizes.room ≤ t.shared.hints.words
  pub filters : t.shared.filters ≤ MAX_PLAN_FILTERS
