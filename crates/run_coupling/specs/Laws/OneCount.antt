-- The one count by which a sweep can see that a run has ended: as many packets were retired at the
-- transmit board or dropped at the receive board as the capture has.
use Rattle.std.specs.Prelude.{◌≡◌, ℕ, ◌+◌, ◌<◌, ◌≤◌, List, length, map}
use Rattle.steer_base.specs.Orders.{IsPrefix}
use Rattle.steer_base.specs.declared.choice.Chosen.{Chosen}
use Rattle.history.specs.Lists.{list_at}
use Rattle.history.specs.declared.history.History.{History}
use Rattle.hop_rule.specs.Events.{sum_below}
use Rattle.hop_rule.specs.Sizes.{puller}
use Rattle.hop_rule.specs.declared.sizes.BoardSizes.{BoardSizes}
use Rattle.hop_rule.specs.declared.step.BoardStep.{BoardStep}
use Rattle.board_api.specs.Closings.Closings.{HasEnded, own_in}
use Rattle.board_api.specs.OwnSteps.{delivered_by, dropped_by}
use Rattle.board_api.specs.Seats.{BoardSeatView}
use Rattle.board_api.specs.declared.lists.BoardLists.{BoardLists}
use Rattle.hop_delivery.specs.Orders.Runs.{Execution}
use Rattle.run_coupling.specs.Coupling.Ends.{TotalsReplied, TotalsRetired, accepted_count}
use Rattle.run_coupling.specs.Coupling.Ends.{retired_count}
use Rattle.run_coupling.specs.Coupling.Turns.{KeepsTurns}

module _ (about : BoardSizes) (own : ℕ → List BoardStep) where
  -- The packets of all seats that the lane dropped.
  abbrev pub dropped_count : ℕ → ℕ
  dropped_count l = sum_below (λ q. length (dropped_by l (own q))) about.seats

  -- The packets that the lane's seat has delivered.
  abbrev pub delivered_count : ℕ → ℕ
  delivered_count l = length (delivered_by l (own (puller about l)))

  -- Of each lane its seat has retired what it delivered: no seat is between the two.
  abbrev pub DeliveriesAreRetired : Type 0
  DeliveriesAreRetired = (l : ℕ) → l < about.lanes → delivered_count l ≡ retired_count about own l

  -- The seats' own lists are explained by turns, and the journals of their producers are these.
  pub record ChoicesAreOfTurns (t : Execution) (choices : List (List Chosen)) : Type 0 where
    pub turns : KeepsTurns own t
    pub journals : (p : ℕ) → list_at choices p ≡ t.choices p

-- The number of choices in these journals.
abbrev pub choice_count : List (List Chosen) → ℕ
choice_count choices = sum_below (λ p. length (list_at choices p)) (length choices)

-- What the two boards and the applications keep before the end: each put is for a choice, and each
-- application replied to a front of its inbox.
pub record KeepsCounts (h : History) (rx : BoardSizes) (rx_own : ℕ → List BoardStep)
    (rx_lists : BoardLists) (queues : Execution) (tx : BoardSizes) (tx_own : ℕ → List BoardStep)
    (applications : Execution) : Type 0 where
  pub received : ChoicesAreOfTurns rx rx_own queues h.choices
  pub sent : ChoicesAreOfTurns tx tx_own applications h.tx_choices
  pub inboxes : h.inboxes ≡ rx_lists.outs
  pub lists : length h.tx_choices ≡ rx.outs
  pub replies : (a : ℕ) → length (list_at h.tx_choices a) ≡ length (list_at h.sent a)
  pub front : (a : ℕ) → IsPrefix (map (λ s. s.id) (list_at h.sent a)) (list_at h.inboxes a)

-- The totals that this one count makes equal. That a delivered packet was retired at the receive
-- board it does not say: its reply may be shipped before.
pub record TotalsAreEqual (h : History) (rx : BoardSizes) (rx_own : ℕ → List BoardStep)
    (tx : BoardSizes) (tx_own : ℕ → List BoardStep) (n : ℕ) : Type 0 where
  pub chosen : choice_count h.choices ≡ n
  pub sent : TotalsRetired tx tx_own
  pub replied : sum_below (λ a. length (list_at h.sent a)) rx.outs
      ≡ sum_below (accepted_count rx rx_own) rx.lanes
  pub received : DeliveriesAreRetired rx rx_own
      → TotalsRetired rx rx_own × TotalsReplied rx rx_own h

-- If not more choices were made than there are packets, and as many packets as there are were
-- retired at the transmit board or dropped at the receive board, the totals of a run's end are
-- equal.
abbrev pub OneCountSuffices : Type 0
OneCountSuffices =
    (h : History) (rx : BoardSizes) (rx_seats : List BoardSeatView) (rx_lists : BoardLists)
    (queues : Execution) (tx : BoardSizes) (tx_seats : List BoardSeatView) (tx_lists : BoardLists)
    (applications : Execution) (n : ℕ)
    → HasEnded rx rx_seats rx_lists → HasEnded tx tx_seats tx_lists
    → KeepsCounts h rx (own_in rx_seats) rx_lists queues tx (own_in tx_seats) applications
    → choice_count h.choices ≤ n
    → n
    ≡ sum_below (retired_count tx (own_in tx_seats)) tx.lanes
    + sum_below (dropped_count rx (own_in rx_seats)) rx.lanes
    → TotalsAreEqual h rx (own_in rx_seats) tx (own_in tx_seats) n
