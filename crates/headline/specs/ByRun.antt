-- What the threads of a run leave in a history beyond the eleven clauses: at each of the two hops
-- all was done in one order.
use Rattle.std.specs.Prelude.{ℕ, ◌≡◌, ◌+◌, ◌-◌, ◌<◌, ◌≤◌, List, None, length, map, take}
use Rattle.history.specs.Lists.{lane_at, list_at, packet_at}
use Rattle.history.specs.declared.history.History.{History}
use Rattle.history.specs.declared.lane_list.LaneList.{LaneList}
use Rattle.steer_base.specs.Drops.{bucket_of, drop_cause, offers_of}
use Rattle.steer_base.specs.Sets.{has}
use Rattle.steer_model.specs.Good.Choices.{AreByRule}
use Rattle.steer_model.specs.Good.Inputs.{Input, settings_at}
use Rattle.steer_model.specs.Good.Replies.{IsReplyByRule}
use Rattle.headline.specs.HopOrders.{AcceptedAs, HopCounts, HopOrder, receive_lists}
use Rattle.headline.specs.HopOrders.{transmit_lists}
use Rattle.headline.specs.OrdersOfWords.{FiltersAreOlder, WantsAreOlder, WantsStaySet}

-- The packets that had been put to a processor, in the order of their puts, when these were the
-- counts.
abbrev pub offered_at : LaneList → (accepted dropped : ℕ) → List ℕ
offered_at lane accepted dropped =
    offers_of (take accepted lane.accepted) (take dropped lane.drops)

-- Neither a full backlog nor the flow limit was a cause to drop packet x at processor c, when these
-- were the counts.
abbrev pub HasNoCause : Input → History → HopCounts → (processor packet : ℕ) → Type 0
HasNoCause i h now c x =
    drop_cause (has i.plan.limited c) i.plan.backlog (now.accepted c - now.pulled c)
    (map (λ y. bucket_of (packet_at i.packets y).hash)
    (offered_at (lane_at h.lanes c) (now.accepted c) (now.dropped c)))
    (packet_at i.packets x).hash
    ≡ None

-- Along the order of the way in the settings go forward through the commands, for all queues
-- together: each choice is by the rule with the settings after as many commands as had come at the
-- moment of its put, and this number never falls.
pub record SettingsGoForward (i : Input) (h : History) (o : HopOrder (receive_lists h))
    : Type 0 where
  pub at : ℕ → ℕ → ℕ
  pub by_rule : AreByRule i h at
  pub given : ℕ → ℕ
  pub rise : (m n : ℕ) → m ≤ n → given m ≤ given n
  pub holds : (q k : ℕ) → k < length (list_at h.choices q) → at q k ≡ given (o.put q k)

-- The same of the maps along the order of the way out, for all applications together.
pub record MapsGoForward (i : Input) (h : History) (o : HopOrder (transmit_lists h)) : Type 0 where
  pub at : ℕ → ℕ → ℕ
  pub by_rule : (a k : ℕ) → k < length (list_at h.tx_choices a)
      → IsReplyByRule i h a k (settings_at i h (at a k))
  pub given : ℕ → ℕ
  pub rise : (m n : ℕ) → m ≤ n → given m ≤ given n
  pub holds : (a k : ℕ) → k < length (list_at h.tx_choices a) → at a k ≡ given (o.put a k)

-- The lists of a history are those of a run. All that was done on the way in was done in one order:
-- in it no more packets than the backlog ever waited at a processor, no packet was accepted that
-- had to be dropped, and the settings go forward. All that was done on the way out was done in one
-- order too, in which the maps go forward. Between the two orders nothing is said. A filter that
-- was seen was set by the move of a packet that arrived earlier; a want that was seen was written
-- for another packet than this one and those that its queue chose for later; and no want is unset
-- but by a command.
pub record IsByRun (i : Input) (h : History) : Type 0 where
  pub receive : HopOrder (receive_lists h)
  pub room : (m c : ℕ) → (receive.at m).accepted c ≤ (receive.at m).pulled c + i.plan.backlog
  pub due : (q k c n : ℕ) (a : AcceptedAs (receive_lists h) q k c n)
      → HasNoCause i h (receive.at (receive.put q k)) c a.chosen.id
  pub settings : SettingsGoForward i h receive
  pub transmit : HopOrder (transmit_lists h)
  pub maps : MapsGoForward i h transmit
  pub filters : FiltersAreOlder i h
  pub wants : WantsAreOlder i h settings.at
  pub stay : WantsStaySet i h
