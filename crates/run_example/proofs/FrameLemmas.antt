-- A run from two lawful orders and the coupling invariants with their parts as own lists.
use Rattle.std.proofs.Common.{◌≡◌, ℕ, ◌+◌, ◌^◌, ◌&&◌, Bool, true, false, List, sym}
use Rattle.std.proofs.Common.{arith, refl, subst}
use Rattle.std.specs.Prelude.{nat_lt}
use Rattle.std.proofs.lemmas.Bool.{ltb-true}
use Rattle.atomic_table.specs.Seated.{TableId}
use Rattle.linearization.specs.Orders.{StepBy}
use Rattle.linearization.specs.Seats.{SeatView}
use Rattle.hint_words.specs.Closings.{HaveEnded}
use Rattle.hint_words.specs.declared.step.HintStep.{HintStep}
use Rattle.history.specs.declared.history.History.{History}
use Rattle.hop_rule.specs.Boards.{IsLawful}
use Rattle.hop_rule.specs.Owns.{own_of}
use Rattle.hop_rule.specs.Sizes.{FitSizes}
use Rattle.hop_rule.specs.declared.sizes.BoardSizes.{BoardSizes}
use Rattle.hop_rule.specs.declared.sizes.TheConstants.{MAX_BOARD_ROOM}
use Rattle.hop_rule.specs.declared.step.BoardStep.{BoardStep}
use Rattle.board_api.specs.Closings.Closings.{own_in, seats_in}
use Rattle.board_api.specs.Closings.Finals.{lists_of}
use Rattle.board_api.proofs.Endings.{each_order_closes}
use Rattle.hop_delivery.specs.Orders.Runs.{Execution}
use Rattle.steer_model.specs.Good.Inputs.{Input}
use Rattle.run_coupling.specs.Coupling.Ends.{TotalsReplied}
use Rattle.run_coupling.specs.Coupling.Hints.{LoadsAreUsed, StoresAreMeant}
use Rattle.run_coupling.specs.Coupling.Marks.{KeepsMarks}
use Rattle.run_coupling.specs.Coupling.Runs.{IsOfInput, IsRun, KeepsCommands, ReceiveCoupling}
use Rattle.run_coupling.specs.Coupling.Runs.{TransmitCoupling}
use Rattle.run_coupling.specs.Coupling.Tries.{Try}
use Rattle.run_coupling.proofs.Runs.CodeLemmas.{are-shared, shared}

-- a board may end with this order
pub record MayEnd (about : BoardSizes) (order : List (StepBy BoardStep)) : Type 0 where
  pub fit : FitSizes about
  pub lawful : IsLawful about order

-- whether a board may have these sizes
abbrev fit_tests : BoardSizes → Bool
fit_tests about =
    nat_lt about.room (MAX_BOARD_ROOM + 1)
    && (nat_lt about.start (2 ^ 32)
    && (nat_lt about.lanes 33 && (nat_lt 0 about.seats && nat_lt about.seats 65)))

both : (a : Bool) {b : Bool} → (a && b) ≡ true → (a ≡ true) × (b ≡ true)
both true e = (refl, e)
both false e = absurd (cc)

pub ends_with : (about : BoardSizes) (order : List (StepBy BoardStep)) → fit_tests about ≡ true
    → IsLawful about order → MayEnd about order
ends_with about order passes lawful =
    let a = both (nat_lt about.room (MAX_BOARD_ROOM + 1)) passes in
    let b = both (nat_lt about.start (2 ^ 32)) a.1 in
    let c = both (nat_lt about.lanes 33) b.1 in
    let d = both (nat_lt 0 about.seats) c.1 in
    let room = ltb-true about.room (MAX_BOARD_ROOM + 1) a.0 in
    let lanes = ltb-true about.lanes 33 c.0 in
    let some = ltb-true 0 about.seats d.0 in
    let seats = ltb-true about.seats 65 d.1 in
    record {
      fit = record {
        room = omega arith;
        start = ltb-true about.start (2 ^ 32) b.0;
        lanes = omega arith;
        some_seat = omega arith;
        seats = omega arith;
      };
      lawful = lawful;
    }

-- what is kept at the hint words
pub record KeepsHints (i : Input) (h : History)
    (seats : List (SeatView HintStep)) (rx_own : ℕ → List BoardStep) (t : Execution)
    (seen : ℕ → ℕ → ℕ → ℕ) : Type 0 where
  pub ended : HaveEnded seats
  pub meant : StoresAreMeant i h shared seats t
  pub used : LoadsAreUsed i h shared seats rx_own t seen
  pub marks : KeepsMarks i h shared seats rx_own t seen used.wants

-- how loads were used, and in which order with the marks
abbrev UsesInOrder : Input → History → List (SeatView HintStep) → (ℕ → List BoardStep) → Execution
    → (ℕ → ℕ → ℕ → ℕ) → Type 0
UsesInOrder i h seats rx_own t seen =
    (used : LoadsAreUsed i h shared seats rx_own t seen)
    × KeepsMarks i h shared seats rx_own t seen used.wants

module _ (i : Input) (h : History) (rx : BoardSizes)
    (rx_order : List (StepBy BoardStep)) (rx_ends : MayEnd rx rx_order) (tx : BoardSizes)
    (tx_order : List (StepBy BoardStep)) (tx_ends : MayEnd tx tx_order)
  where
    abbrev rx_own : ℕ → List BoardStep
    rx_own = own_of rx_order

    abbrev tx_own : ℕ → List BoardStep
    tx_own = own_of tx_order

    pub run_of : (tries : List Try) (queues applications : Execution)
        (queues_seen maps_seen : ℕ → ℕ → ℕ → ℕ) (seats : List (SeatView HintStep))
        → IsOfInput i h → KeepsCommands i h tries
        → ReceiveCoupling i h rx rx_own (lists_of rx rx_order) tries queues queues_seen
        → TransmitCoupling i h rx_own tx tx_own (lists_of tx tx_order) tries applications
        maps_seen
        → TotalsReplied rx rx_own h → KeepsHints i h seats rx_own queues queues_seen
        → TableId → IsRun i h
    run_of tries queues applications queues_seen maps_seen seats input commands received sent
        replied hints table =
        let rx_ended = each_order_closes table rx rx_order rx_ends.fit rx_ends.lawful in
        let tx_ended = each_order_closes table tx tx_order tx_ends.fit tx_ends.lawful in
        let uses : UsesInOrder i h seats (own_in (seats_in table rx rx_order)) queues queues_seen =
        subst (λ own. UsesInOrder i h seats own queues queues_seen) (sym rx_ended.1)
        (hints.used, hints.marks) in
        record {
          input = input;
          tries = tries;
          commands = commands;
          rx = rx;
          rx_seats = seats_in table rx rx_order;
          rx_lists = lists_of rx rx_order;
          rx_ended = rx_ended.0;
          queues = queues;
          queues_seen = queues_seen;
          received = subst
              (λ own. ReceiveCoupling i h rx own (lists_of rx rx_order) tries queues
              queues_seen) (sym rx_ended.1) received;
          tx = tx;
          tx_seats = seats_in table tx tx_order;
          tx_lists = lists_of tx tx_order;
          tx_ended = tx_ended.0;
          applications = applications;
          maps_seen = maps_seen;
          sent = subst
              (λ own. TransmitCoupling i h own tx (own_in (seats_in table tx tx_order))
              (lists_of tx tx_order) tries applications maps_seen) (sym rx_ended.1)
              (subst
              (λ own. TransmitCoupling i h rx_own tx own (lists_of tx tx_order) tries
              applications maps_seen) (sym tx_ended.1) sent);
          replied = subst (λ own. TotalsReplied rx own h) (sym rx_ended.1) replied;
          codes = shared;
          shared = are-shared;
          hint_seats = seats;
          hints_ended = hints.ended;
          meant = hints.meant;
          used = uses.0;
          marks = uses.1;
        }
