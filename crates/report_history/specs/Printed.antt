-- The history whose report has these parts, and the history that is built of them.
use Rattle.std.specs.Prelude.{ℕ, ◌≡◌, List, length, map}
use Rattle.std.specs.List.{filter_map, range_with_len}
use Rattle.steer_base.specs.declared.choice.Chosen.{Chosen}
use Rattle.steer_base.specs.declared.packet.Packet.{Packet}
use Rattle.history.specs.Ranges.{HistoryFits}
use Rattle.history.specs.Regular.{AreQueued, Regular}
use Rattle.history.specs.declared.history.History.{History}
use Rattle.history.specs.declared.lane_list.LaneList.{LaneList}
use Rattle.report_reader.specs.Parts.{ArePartsOf}
use Rattle.report_reader.specs.Slots.{IsShelved}
use Rattle.report_reader.specs.declared.parts.Parts.{Parts}
use Rattle.report_reader.specs.declared.slots.Kind.TheVariants.{Port}
use Rattle.report_reader.specs.declared.slots.Seen.{Seen}
use Rattle.report_history.specs.Lists.{AreChoices, AreInboxes, AreLanes, IsBacklog, IsTxQueue}
use Rattle.report_history.specs.Shown.{arrivals_from, shown_sent, shown_tx_choice, own_write}

-- A regular history with this counter start and texts of taps has these parts; each arrival is at
-- the queue that its filter and table entry lead to, and numbers are within their types.
pub record IsHistoryOf (packets : List Packet) (apps start : ℕ) (p : Parts) (h : History)
    (texts : List (List ℕ)) : Type 0 where
  pub regular : Regular packets apps h
  pub queued : AreQueued packets h
  pub numbers : HistoryFits h
  pub starts : h.start ≡ start
  pub parts : ArePartsOf packets apps h texts p

-- Whatever history has these parts, it is this one, and the texts are these.
abbrev pub IsOnlyHistory : List Packet → ℕ → ℕ → Parts → History → List (List ℕ) → Type 0
IsOnlyHistory packets apps start p found shown =
    (h : History) (texts : List (List ℕ)) → IsHistoryOf packets apps start p h texts
    → (found ≡ h) × (shown ≡ texts)

-- A history whose lists are built of the lines of packets and of the parts of a report: its
-- arrivals, replies and writes are just these, and its choices, lanes, inboxes and port are the
-- lists that the lines show, if there are any.
pub record IsBuilt (packets : List Packet) (apps start : ℕ) (p : Parts) (seen : List Seen)
    (k : History) : Type 0 where
  pub arrivals : k.arrivals ≡ arrivals_from 0 seen
  pub taken : k.taken ≡ p.taken.items
  pub choices : (lists : List (List Chosen))
      → AreChoices seen k.arrivals (length p.taken.items) lists → k.choices ≡ lists
  pub lanes : (lanes : List LaneList) → AreLanes (IsBacklog start seen) p.cpus.items lanes
      → k.lanes ≡ lanes
  pub inboxes : (lists : List (List ℕ)) → AreInboxes start seen apps lists → k.inboxes ≡ lists
  pub sent : k.sent ≡ map (filter_map (shown_sent seen)) k.inboxes
  pub tx_choices : k.tx_choices ≡ map (filter_map (shown_tx_choice seen packets)) k.sent
  pub tx_lanes : (lanes : List LaneList) → AreLanes (IsTxQueue start seen) p.txs.items lanes
      → k.tx_lanes ≡ lanes
  pub port : (list : List ℕ) → IsShelved start Port seen 0 list → k.port ≡ list
  pub writes : k.writes
      ≡ map (λ a. filter_map (own_write a) p.writes.items) (range_with_len 0 apps)
  pub commands : k.commands ≡ p.commands.items
  pub total : k.total ≡ p.last.total
  pub cut : k.cut ≡ p.last.cut
  pub starts : k.start ≡ start
