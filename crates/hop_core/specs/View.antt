-- The values of a hop's parts, and the state that they stand for.
use Rattle.std.specs.Prelude.{ℕ, Bool, List}
use Rattle.steer_base.specs.declared.choice.Chosen.{Chosen}
use Rattle.hop_core.specs.FlowTables.{FlowTables}
use Rattle.hop_model.specs.Hop.{HopState}
use Rattle.steer_base.specs.Journals.{Journals}
use Rattle.hop_core.specs.LaneTable.{LaneTable}
use Rattle.hop_core.specs.declared.hop.Gate.{Gate}
use Rattle.hop_core.specs.declared.hop.Hands.{Hands}
use Rattle.hop_core.specs.declared.hop.Rings.{Rings}

-- The values of a hop's parts, as its code holds them.
pub record HopParts : Type 0 where
  pub arrivals : Journals ℕ
  pub taken : List ℕ
  pub choices : Journals Chosen
  pub placed : List ℕ
  pub since : List ℕ
  pub visits : List Bool
  pub counts : List ℕ
  pub tables : FlowTables
  pub lanes : LaneTable
  pub delivered : List ℕ
  pub retired : List ℕ
  pub outs : Journals ℕ
  pub inside : ℕ
  pub closed : Bool

-- the values of a hop's parts, as a record
abbrev pub parts_of : Rings → List ℕ → FlowTables → LaneTable → Hands → Journals ℕ → Gate → HopParts
parts_of rings counts tables lanes hands outs gate =
    record {
      arrivals = rings.arrivals;
      taken = rings.taken.items;
      choices = rings.choices;
      placed = rings.placed.items;
      since = rings.since.items;
      visits = gate.visits.items;
      counts = counts;
      tables = tables;
      lanes = lanes;
      delivered = hands.delivered.items;
      retired = hands.retired.items;
      outs = outs;
      inside = gate.inside;
      closed = gate.closed;
    }

-- the state that the values of a hop's parts represent
abbrev pub state_of : HopParts → HopState
state_of h =
    record {
      fixed = record {
        limit = h.lanes.limit;
        room = h.lanes.room;
        start = h.lanes.start;
        exact = h.tables.exact;
        limited = h.lanes.limited;
      };
      bare = record {
        accepted = h.lanes.accepted;
        offers = h.lanes.offers;
        drops = h.lanes.drops;
        pulled = h.lanes.pulled;
        delivered = h.delivered;
        retired = h.retired;
        outs = h.outs.lists;
        inside = h.inside;
        closed = h.closed;
      };
      counts = h.counts;
      arrivals = h.arrivals.lists;
      taken = h.taken;
      choices = h.choices.lists;
      placed = h.placed;
      since = h.since;
      visits = h.visits;
    }
