-- The machine: two hops, what is set, and what else its history keeps.
use Rattle.std.specs.Prelude.{ℕ, List, Option, length, map, slice_index_or, unwrap_or}
use Rattle.std.specs.List.{range_with_len}
use Rattle.steer_base.specs.declared.choice.Chosen.{Chosen}
use Rattle.steer_base.specs.declared.filter.Filter.{Filter}
use Rattle.hop_model.specs.Hop.{Bare, HopState, accepted_at, delivered_at, drops_at, nobody}
use Rattle.hop_model.specs.Hop.{out_at, pulled_at, retired_at}
use Rattle.hop_model.specs.Reads.{last_choice}
use Rattle.history.specs.declared.arrival.Arrival.{Arrival}
use Rattle.history.specs.declared.commanded.Commanded.{Commanded}
use Rattle.history.specs.declared.history.History.{History}
use Rattle.history.specs.declared.lane_list.LaneList.{LaneList}
use Rattle.history.specs.declared.sent.Sent.{Sent}
use Rattle.history.specs.declared.sock_write.SockWrite.{SockWrite}
use Rattle.steer_model.specs.State.Settings.{Settings}
use Rattle.steer_model.specs.State.Setup.{Setup}
use Rattle.steer_model.specs.declared.note.Note.{Note}
use Rattle.steer_model.specs.declared.note.Note.TheVariants as note

-- The state of the machine: what the plan and the capture fix, the settings, the tables, the notes
-- of the pollers, the two hops, and the lists of the history beside them.
pub record Machine : Type 0 where
  pub setup : Setup
  pub settings : Settings
  pub socket : List (Option ℕ)  -- the entries of the socket flow table
  pub filters : List (Option Filter)
  pub notes : List Note  -- of each poller, what it keeps beside its packet
  pub rx : HopState  -- from the receive queues over the processors to the applications
  pub tx : HopState  -- from the applications over the transmit queues to the port
  pub arrivals : List Arrival
  pub sent : List (List Sent)  -- of each application, the replies that it began
  pub writes : List (List SockWrite)  -- of each application, its writes to the socket flow table
  pub commands : List Commanded  -- each with its answer

-- the note of a poller
abbrev pub note_of : Machine → ℕ → Note
note_of m q = slice_index_or m.notes q note.Nothing

-- the last choice of a producer
abbrev pub last_chosen : HopState → ℕ → Chosen
last_chosen s q = unwrap_or (last_choice s q) nobody

-- ---- the history of a machine

-- what a history keeps of a lane
abbrev pub lane_list : Bare → ℕ → LaneList
lane_list b c =
    record {
      accepted = accepted_at b c;
      drops = drops_at b c;
      pulled = pulled_at b c;
      delivered = delivered_at b c;
      retired = retired_at b c;
    }

-- what a history keeps of all lanes of a hop
abbrev pub history_lanes : Bare → List LaneList
history_lanes b = map (lane_list b) (range_with_len 0 (length b.accepted))

-- the history of a machine
abbrev pub history_of : Machine → History
history_of m =
    record {
      total = length m.setup.packets;
      cut = m.setup.cut;
      arrivals = m.arrivals;
      taken = m.rx.taken;
      choices = m.rx.choices;
      lanes = history_lanes m.rx.bare;
      inboxes = m.rx.bare.outs;
      sent = m.sent;
      tx_choices = m.tx.choices;
      tx_lanes = history_lanes m.tx.bare;
      port = out_at m.tx.bare 0;
      writes = m.writes;
      commands = m.commands;
      start = m.rx.fixed.start;
    }
