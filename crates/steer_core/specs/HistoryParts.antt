-- The parts of a history, and the history that they make.
use Rattle.std.specs.Prelude.{[], slice_index_or}
use Rattle.hop_model.specs.Hop.{HopState}
use Rattle.history.specs.declared.history.History.{History}
use Rattle.steer_model.specs.State.Machine.{Machine, history_lanes}
use Rattle.steer_core.specs.declared.parts.BesidePart.{BesidePart}
use Rattle.steer_core.specs.declared.parts.HistoryParts.{HistoryParts}
use Rattle.steer_core.specs.declared.parts.HopPart.{HopPart}

-- what a history has of a hop
abbrev pub hop_part : HopState → HopPart
hop_part s =
    record {
      taken = s.taken;
      choices = s.choices;
      lanes = history_lanes s.bare;
      outs = s.bare.outs;
      start = s.fixed.start;
    }

-- what a history has of a machine beside its hops
abbrev pub machine_beside : Machine → BesidePart
machine_beside m =
    record { arrivals = m.arrivals; sent = m.sent; writes = m.writes; commands = m.commands }

-- the history of its parts
abbrev pub joined_history : HistoryParts → History
joined_history p =
    record {
      total = p.total;
      cut = p.cut;
      arrivals = p.beside.arrivals;
      taken = p.rx.taken;
      choices = p.rx.choices;
      lanes = p.rx.lanes;
      inboxes = p.rx.outs;
      sent = p.beside.sent;
      tx_choices = p.tx.choices;
      tx_lanes = p.tx.lanes;
      port = slice_index_or p.tx.outs 0 [];
      writes = p.beside.writes;
      commands = p.beside.commands;
      start = p.rx.start;
    }
