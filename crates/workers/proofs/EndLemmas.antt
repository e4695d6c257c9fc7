-- All that is known at the end of a run, from its threads, its closings and the laws of both.
use Rattle.std.specs.Prelude.{slice_get}
use Rattle.std.proofs.lemmas.List.FromFn.{length-range_with_len}
use Rattle.std.proofs.lemmas.List.Elements.{Contains-append_cases, Contains-append_left}
use Rattle.std.proofs.lemmas.List.Elements.{Contains-append_right}
use Rattle.steer_base.specs.Orders.{IsPrefix}
use Rattle.steer_base.specs.declared.choice.Chosen.{Chosen}
use Rattle.history.specs.Lists.{list_at}
use Rattle.history.specs.declared.commanded.Commanded.{Commanded}
use Rattle.history.specs.declared.history.History.{History}
use Rattle.plan_reader.specs.Ranges.{commands_of}
use Rattle.hop_rule.specs.Owns.{puts_of}
use Rattle.hop_rule.specs.Sizes.{closer}
use Rattle.hop_rule.specs.declared.step.BoardStep.{BoardStep}
use Rattle.board_api.specs.Closings.Closings.{own_in}
use Rattle.board_api.specs.declared.lists.BoardLists.{BoardLists}
use Rattle.steer_model.specs.Good.Commands.{AreGiven}
use Rattle.steer_model.specs.Good.Inputs.{setup_in}
use Rattle.run_coupling.specs.Laws.SharedCodes.{SharedCodesExist}
use Rattle.run_coupling.specs.Coupling.Boards.{IsReceiveBoard, IsTransmitBoard}
use Rattle.run_crew.specs.ArrivalLaws.{WireKeepsCoupling}
use Rattle.run_crew.specs.Routes.{Ends}
use Rattle.workers.specs.Boards.{receive_sizes, transmit_sizes}
use Rattle.workers.specs.BoardLaws.{PlansFitBoards}
use Rattle.run_controller.specs.Journals.{Attempted}
use Rattle.run_controller.specs.Laws.{AreBoards, ControllerKeepsCoupling}
use Rattle.run_controller.specs.Settings.{first_known}
use Rattle.run_workers.specs.Actors.{KeepsPoller}
use Rattle.run_crew.specs.DrainLaws.{AreDrained}
use Rattle.run_crew.specs.QueueLaws.{CrewsHaveTurns, ReceiveEnds}
use Rattle.run_crew.specs.ReplyLaws.{HasJournals, TransmitEnds}
use Rattle.run_crew.specs.RunLaws.{HintsEnd, IsCopied, RunEnds}
use Rattle.run_crew.specs.Executions.{AreTurnsOf, SeatTurns}
use Rattle.run_crew.specs.ThreadLaws.{ArrivalsAreWithin, ControllersTouchNoLane}
use Rattle.run_crew.specs.ThreadLaws.{FrontsAreChosen, TouchesNoLane}
use Rattle.workers.specs.EndLaws.{LeftListsMakeHistories, OneListIsLeft}
use Rattle.workers.specs.Left.{IsLeft, hint_seats, history_of, rx_seats, tx_seats}
use Rattle.workers.specs.declared.closing.Left.{Left}
use Rattle.run_crew.proofs.ChoiceFunctions.{item-at, none-some, some-is}
use Rattle.run_crew.proofs.ExecutionLemmas.{actor-back}
use Rattle.workers.proofs.Names.{◌≡◌, ◌⊎◌, inl, inr, ℕ, zero, suc, ◌+◌, ◌-◌, ◌/◌, ◌%◌, ◌<◌, ◌≤◌}
use Rattle.workers.proofs.Names.{List, [], ◌∷◌, ◌++◌, All, Some, length, map, sym, refl, ap, ◌∙◌}
use Rattle.workers.proofs.Names.{subst, arith, Contains, range_with_len, slice_index, cases_lt}
use Rattle.workers.proofs.Names.{length-map, received, SeatView, HintStep, arrivals_at, Arrival}
use Rattle.workers.proofs.Names.{BoardSizes, BoardSeatView, Input, Poller, Server, stage, actor_at}
use Rattle.workers.proofs.Names.{IsPlayed, drains_of, pollers_of, servers_of, ships_of, Seated, Run}
use Rattle.workers.proofs.Names.{all_played, IsOver, stage_of}
use Rattle.workers.proofs.ArrivedLemmas.{arrived-below}
use Rattle.workers.proofs.FlowLemmas.{one-hash}
use Rattle.workers.proofs.FreeHandLemmas.{drain-hand, poller-hand, server-hand, ship-hand}
use Rattle.workers.proofs.PlayedLemmas.{all-at, all-count}
use Rattle.workers.proofs.LastSeatLemmas.{crew-has, of-crew, seats-last, seats-others, seats-worker}

-- the laws of what is below
pub record Laws : Type 0 where
  pub turns : CrewsHaveTurns
  pub lanes : ControllersTouchNoLane
  pub within : ArrivalsAreWithin
  pub fronts : FrontsAreChosen
  pub wire : WireKeepsCoupling
  pub controller : ControllerKeepsCoupling
  pub boards : PlansFitBoards
  pub codes : SharedCodesExist

-- ---- lists of lists

list-at-map : {A B : Type 0} (f : A → List B) (xs : List A) (q : ℕ) (x : A)
    → slice_get xs q ≡ Some x → list_at (map f xs) q ≡ f x
list-at-map f [] q x there = none-some x there
list-at-map f (y ∷ ys) zero x there = ap f (some-is y x there)
list-at-map f (y ∷ ys) (suc q) x there = list-at-map f ys q x there

list-at-past : {B : Type 0} (lists : List (List B)) (q : ℕ) → length lists ≤ q
    → list_at lists q ≡ []
list-at-past [] q more = refl
list-at-past (y ∷ ys) zero more = absurd (omega (arith, more))
list-at-past (y ∷ ys) (suc q) more = list-at-past ys q (omega (arith, more))

count-at : {A B : Type 0} (f : A → List B) (xs : List A) (q : ℕ)
    → slice_index (map (λ x. length (f x)) xs) q ≡ length (list_at (map f xs) q)
count-at f [] q = refl
count-at f (y ∷ ys) zero = refl
count-at f (y ∷ ys) (suc q) = count-at f ys q

-- ---- a run that is over, and the lists that it leaves

module _ (i : Input) (s : Run) (left : Left) (over : IsOver i s)
    (is : IsLeft s (length i.plan.queues) (length i.plan.apps) left) (laws : Laws) where
  abbrev h : History
  h = history_of (length i.packets) i.cut i.plan.start left

  abbrev crew : List Seated
  crew = s.crew.items

  abbrev last : BoardSeatView
  last = s.controller.seats.rx

  abbrev tx_last : BoardSeatView
  tx_last = s.controller.seats.tx

  abbrev rx_own : ℕ → List BoardStep
  rx_own = own_in (rx_seats s)

  abbrev tx_own : ℕ → List BoardStep
  tx_own = own_in (tx_seats s)

  rx-end : last.number ≡ length crew
  rx-end =
      let count : s.stage.rx.sizes.seats ≡ length crew + 1 = over.back.work.rx_count in
      let number : last.number ≡ s.stage.rx.sizes.seats - 1 =
      over.back.controller.seated.rx.closer in
      omega (arith, count, number)

  tx-end : tx_last.number ≡ length crew
  tx-end =
      let count : s.stage.tx.sizes.seats ≡ length crew + 1 = over.back.work.tx_count in
      let number : tx_last.number ≡ s.stage.tx.sizes.seats - 1 =
      over.back.controller.seated.tx.closer in
      omega (arith, count, number)

  rx-closer : closer s.stage.rx.sizes ≡ length crew
  rx-closer =
      let count : s.stage.rx.sizes.seats ≡ length crew + 1 = over.back.work.rx_count in
      omega (arith, count)

  tx-closer : closer s.stage.tx.sizes ≡ length crew
  tx-closer =
      let count : s.stage.tx.sizes.seats ≡ length crew + 1 = over.back.work.tx_count in
      omega (arith, count)

  touched : TouchesNoLane over.back.controller.old.rx last
      × TouchesNoLane over.back.controller.old.tx tx_last
  touched =
      laws.lanes (stage s.stage.shared s.stage.rx s.stage.tx) []
      s.controller.controller.commands.items (first_known i.plan) over.back.controller.last
      over.back.controller.old s.controller.seats over.back.controller.attempted

  rx-puts : puts_of last.steps ≡ []
  rx-puts = touched.0.puts ∙ ap puts_of over.back.controller.rx_fresh

  tx-puts : puts_of tx_last.steps ≡ []
  tx-puts = touched.1.puts ∙ ap puts_of over.back.controller.tx_fresh

  rx-sizes : s.stage.rx.sizes ≡ receive_sizes i.plan (length i.packets)
  rx-sizes = over.back.boards.rx

  tx-sizes : s.stage.tx.sizes ≡ transmit_sizes i.plan (length i.packets)
  tx-sizes = over.back.boards.tx

  -- ---- the lists of a poller and of an application

  module _ (q : ℕ) (less : q < length i.plan.queues) (p : IsPlayed crew pollers_of q) where
    poller-at : slice_get (all_played crew pollers_of (length i.plan.queues)) q ≡ Some p.actor
    poller-at = all-at crew pollers_of (length i.plan.queues) over.back.work.pollers q less p

    choices-at : list_at h.choices q ≡ p.actor.choices.items
    choices-at =
        ap (λ ls. list_at ls q) is.choices
        ∙ list-at-map (λ (v : Poller). v.choices.items)
        (all_played crew pollers_of (length i.plan.queues)) q p.actor poller-at

    keeps : (first : ℕ → ℕ) × (turns : List _) × (marks : List _)
        × KeepsPoller (stage_of s) p.by.seats first turns marks (q / length crew) p.actor
    keeps =
        let work = over.back.work.work (q % length crew) p.by p.worker in
        (work.first, work.turns, work.marks, work.pollers (q / length crew) p.actor p.is)

    queue-is : p.actor.queue ≡ q
    queue-is =
        keeps.3.own
        ∙ (ap (λ n. actor_at s.stage.rx.sizes n (q / length crew))
        (over.back.work.rx_numbers (q % length crew) p.by p.worker)
        ∙ actor-back s.stage.rx.sizes (length crew) q over.back.work.rx_count over.back.work.some)

  module _ (a : ℕ) (less : a < length i.plan.apps) (p : IsPlayed crew servers_of a) where
    server-at : slice_get (all_played crew servers_of (length i.plan.apps)) a ≡ Some p.actor
    server-at = all-at crew servers_of (length i.plan.apps) over.back.work.servers a less p

    journals-at : HasJournals i h crew a p
    journals-at =
        record {
          sent =
              ap (λ ls. list_at ls a) is.sent
              ∙ list-at-map (λ (v : Server). v.sent.items)
              (all_played crew servers_of (length i.plan.apps)) a p.actor server-at;
          choices =
              ap (λ ls. list_at ls a) is.reply_choices
              ∙ list-at-map (λ (v : Server). v.choices.items)
              (all_played crew servers_of (length i.plan.apps)) a p.actor server-at;
          writes =
              ap (λ ls. list_at ls a) is.writes
              ∙ list-at-map (λ (v : Server). v.writes.items)
              (all_played crew servers_of (length i.plan.apps)) a p.actor server-at;
          home = over.back.homes a less p;
          hand = server-hand crew over.free (a % length crew) p.by p.worker (a / length crew)
              p.actor p.is;
        }

  -- ---- the closings of the boards

  queue-count : length h.choices ≡ length i.plan.queues
  queue-count =
      ap length is.choices
      ∙ (length-map (all_played crew pollers_of (length i.plan.queues))
      (λ (v : Poller). v.choices.items)
      ∙ all-count crew pollers_of (length i.plan.queues) over.back.work.pollers)

  module _ (turns : ℕ → SeatTurns) (turns-are : AreTurnsOf (stage_of s) crew turns) where
    receive-ends : ReceiveEnds i (stage_of s) crew turns rx_own h.choices
    receive-ends =
        let room = ap (λ (z : BoardSizes). z.room) rx-sizes in
        record {
          given = over.back.boards.given;
          hashes = one-hash i over.back.flows;
          room = omega (arith, room);
          work = over.back.work;
          turns_are = turns-are;
          lists = seats-worker (λ (x : Seated). x.seats.rx) crew last over.back.work.rx_numbers
              rx-end;
          others = seats-others (λ (x : Seated). x.seats.rx) crew last over.back.work.rx_numbers
              rx-end
              rx-puts;
          choices_are = record { count = queue-count; are = choices-at };
        }

    transmit-ends : TransmitEnds i h (stage_of s) crew turns rx_own tx_own
    transmit-ends =
        record {
          given = over.back.boards.given;
          late = sym is.arrivals;
          arrived = subst
              (λ (all : List Arrival). map (λ (a : Arrival). a.id) all
              ≡ range_with_len 0 (length i.packets)) (sym is.arrivals) over.back.wire.all;
          work = over.back.work;
          turns_are = turns-are;
          rx_lists = seats-worker (λ (x : Seated). x.seats.rx) crew last over.back.work.rx_numbers
              rx-end;
          lists = seats-worker (λ (x : Seated). x.seats.tx) crew tx_last over.back.work.tx_numbers
              tx-end;
          others = seats-others (λ (x : Seated). x.seats.tx) crew tx_last over.back.work.tx_numbers
              tx-end tx-puts;
          out_count = ap (λ (z : BoardSizes). z.outs) rx-sizes;
          sent_count =
              ap length is.sent
              ∙ (length-map (all_played crew servers_of (length i.plan.apps))
              (λ (v : Server). v.sent.items)
              ∙ all-count crew servers_of (length i.plan.apps) over.back.work.servers);
          choice_count =
              ap length is.reply_choices
              ∙ (length-map (all_played crew servers_of (length i.plan.apps))
              (λ (v : Server). v.choices.items)
              ∙ all-count crew servers_of (length i.plan.apps) over.back.work.servers);
          write_count =
              ap length is.writes
              ∙ (length-map (all_played crew servers_of (length i.plan.apps))
              (λ (v : Server). v.writes.items)
              ∙ all-count crew servers_of (length i.plan.apps) over.back.work.servers);
          journals = journals-at;
        }

  drained : AreDrained s.stage.rx.sizes crew drains_of
  drained =
      record {
        each = over.back.work.drains;
        hands = λ l less.
            let p = over.back.work.drains l less in
            drain-hand crew over.free (l % length crew) p.by p.worker (l / length crew) p.actor
            p.is;
      }

  shipped : AreDrained s.stage.tx.sizes crew ships_of
  shipped =
      record {
        each = over.back.work.ships;
        hands = λ l less.
            let p = over.back.work.ships l less in
            ship-hand crew over.free (l % length crew) p.by p.worker (l / length crew) p.actor
            p.is;
      }

  -- ---- what the history copies

  rx-board : IsReceiveBoard i h s.stage.rx.sizes left.rx
  rx-board =
      subst (λ (z : BoardSizes). IsReceiveBoard i h z left.rx) (sym rx-sizes)
      (laws.boards.receives i h left.rx refl refl refl)

  tx-board : IsTransmitBoard i h s.stage.tx.sizes left.tx
  tx-board =
      subst (λ (z : BoardSizes). IsTransmitBoard i h z left.tx) (sym tx-sizes)
      (laws.boards.transmits i h left.tx refl refl refl)

  copied : IsCopied i h (stage_of s) left.rx left.tx
  copied =
      record {
        total = refl;
        cut = refl;
        start = refl;
        rx_board = rx-board;
        tx_board = tx-board;
        taken_count =
            ap length is.taken
            ∙ (length-map (all_played crew pollers_of (length i.plan.queues))
            (λ (v : Poller). length v.choices.items)
            ∙ all-count crew pollers_of (length i.plan.queues) over.back.work.pollers);
        taken = λ q.
            ap (λ ns. slice_index ns q) is.taken
            ∙ (count-at (λ (v : Poller). v.choices.items)
            (all_played crew pollers_of (length i.plan.queues)) q
            ∙ ap (λ ls. length (list_at ls q)) (sym is.choices));
      }

  -- ---- the hint words

  abbrev words : List (SeatView HintStep)
  words = hint_seats s

  abbrev hint : Seated → SeatView HintStep
  hint x = x.seats.hint

  abbrev end_words : List (SeatView HintStep)
  end_words = s.controller.seats.hint ∷ s.wire.seat ∷ []

  hints-end : HintsEnd crew words s.controller.seats.hint s.wire.seat
  hints-end =
      record {
        workers = λ w x there.
            Contains-append_left (map hint crew) end_words x.seats.hint
            (crew-has hint crew w x there);
        each = λ seat has. by-part seat (Contains-append_cases (map hint crew) end_words seat has);
        ended = is.words;
      }
    where
      by-part : (seat : SeatView HintStep) → Contains (map hint crew) seat ⊎ Contains end_words seat
          → ((w : ℕ) × (x : Seated) × (slice_get crew w ≡ Some x) × (x.seats.hint ≡ seat))
          ⊎ (s.controller.seats.hint ≡ seat) ⊎ (s.wire.seat ≡ seat)
      by-part seat (inl has) = inl (of-crew hint crew seat has)
      by-part seat (inr (zero, less, at)) = inr (inl at)
      by-part seat (inr (suc zero, less, at)) = inr (inr at)
      by-part seat (inr (suc (suc k), less, at)) = absurd (omega (arith, less))

  wire-has : Contains words s.wire.seat
  wire-has = Contains-append_right (map hint crew) end_words s.wire.seat (1, omega arith, refl)

  -- ---- fronts

  module _ (q : ℕ) where
    abbrev IsFront : List Chosen → List Arrival → Type 0
    IsFront choices arrivals =
        IsPrefix (map (λ (c : Chosen). c.id) choices) (arrivals_at arrivals q)

    front-at : q < length i.plan.queues → IsFront (list_at h.choices q) h.arrivals
    front-at less =
        let p = over.back.work.pollers q less in
        let k = keeps q less p in
        let count = over.back.wire.count in
        let ring = item-at s.wire.wire.rings.items q (omega (arith, less, count)) in
        let queue = queue-is q less p in
        let came = is.received q ring.0 p.actor (poller-at q less p) in
        let all : arrivals_at s.stage.late.items p.actor.queue ≡ received p.actor.ring ++ came.0 =
        ap (arrivals_at s.stage.late.items) queue
        ∙ (sym (over.back.wire.sent_are q ring.0 less) ∙ sym came.1) in
        let room : p.actor.choices.room ≡ length i.packets =
        k.3.room ∙ ap (λ (z : BoardSizes). z.room) rx-sizes in
        let few =
        subst (λ n. All (λ x. x < n) (arrivals_at s.stage.late.items p.actor.queue)) (sym room)
        (arrived-below (length i.packets) s.stage.late.items p.actor.queue over.back.wire.all) in
        let front =
        laws.fronts s.stage.shared.given (k.0 p.actor.queue) s.stage.rx.sizes.start p.actor k.1 k.2
        p.by.seats.rx.steps p.by.seats.hint.steps s.stage.late.items came.0 k.3.keeps
        (poller-hand crew over.free (q % length crew) p.by p.worker (q / length crew) p.actor p.is)
        all few in
        subst (IsFront (list_at h.choices q)) (sym is.arrivals)
        (subst (λ cs. IsFront cs s.stage.late.items) (sym (choices-at q less p))
        (subst (λ n. IsPrefix (map (λ (c : Chosen). c.id) p.actor.choices.items)
        (arrivals_at s.stage.late.items n)) queue front))

    front-past : length i.plan.queues ≤ q → IsFront (list_at h.choices q) h.arrivals
    front-past more =
        let count = queue-count in
        subst (λ cs. IsFront cs h.arrivals)
        (sym (list-at-past h.choices q (omega (arith, more, count))))
        (arrivals_at h.arrivals q, refl)

    front : IsFront (list_at h.choices q) h.arrivals
    front = elim (cases_lt q (length i.plan.queues)) [
      | inl less ↦ front-at less
      | inr more ↦ front-past more
    ]

  -- ---- the controller and the wire

  lanes-left : {A : Type 0} (f : ℕ → A) (n : ℕ) → length (map f (range_with_len 0 n)) ≡ n
  lanes-left f n = length-map (range_with_len 0 n) f ∙ length-range_with_len 0 n

  are-boards : AreBoards i h s.stage.rx.sizes s.stage.tx.sizes
  are-boards =
      let rx = over.back.work.rx_count in
      let tx = over.back.work.tx_count in
      let count = over.back.count in
      record {
        rx_lanes = rx-board.lane_count;
        tx_lanes = tx-board.lane_count;
        rx_left = ap (λ (ls : BoardLists). length ls.lanes) is.rx.leaves ∙ lanes-left _ _;
        tx_left = ap (λ (ls : BoardLists). length ls.lanes) is.tx.leaves ∙ lanes-left _ _;
        rx_seats = omega (arith, rx, count);
        tx_seats = omega (arith, tx, count);
        settings = rx-board.settings;
      }

  run-ends : RunEnds i h
  run-ends =
      let turns = laws.turns (stage_of s) crew (length i.plan.queues) (length i.plan.apps)
      over.back.work in
      let codes = laws.codes in
      let commands = laws.controller i h (stage s.stage.shared s.stage.rx s.stage.tx) rx_own tx_own
      codes.0 over.back.controller.last over.back.controller.old s.controller.seats codes.1
      are-boards
      over.back.boards.given over.back.boards.filters over.back.controller.rx_fresh
      over.back.controller.tx_fresh
      over.back.controller.hint_fresh
      (ap rx_own rx-closer
      ∙ seats-last (λ (x : Seated). x.seats.rx) crew last over.back.work.rx_numbers rx-end)
      (ap tx_own tx-closer
      ∙ seats-last (λ (x : Seated). x.seats.tx) crew tx_last over.back.work.tx_numbers tx-end)
      (subst (AreGiven i.plan.tries (commands_of i.plan.steps)) (sym is.commands)
      over.back.controller.given)
      (subst (λ (cs : List Commanded). Attempted (stage s.stage.shared s.stage.rx s.stage.tx) [] cs
      (first_known i.plan) over.back.controller.last over.back.controller.old s.controller.seats)
      (sym is.commands) over.back.controller.attempted) in
      let ends = subst (λ (all : List Arrival). Ends (setup_in i) i.plan.filters
      (record { queues = length i.plan.queues; entries = i.plan.reta }) all over.back.wire.old
      s.wire.seat)
      (sym is.arrivals) over.back.wire.ends in
      record {
        t = stage_of s;
        crew = crew;
        turns = turns.0;
        rx_seats = rx_seats s;
        tx_seats = tx_seats s;
        rx_lists = left.rx;
        tx_lists = left.tx;
        rx_ended = is.rx;
        tx_ended = is.tx;
        received = receive-ends turns.0 turns.1;
        sent = transmit-ends turns.0 turns.1;
        drains = drained;
        ships = shipped;
        filters = over.back.boards.filters;
        copied = copied;
        codes = codes.0;
        shared = codes.1;
        hint_seats = words;
        controller = s.controller.seats.hint;
        wire = s.wire.seat;
        hints = hints-end;
        tries = commands.0;
        commands = commands.1;
        arrivals = laws.wire i h codes.0 words over.back.wire.old s.wire.seat codes.1 wire-has
            over.back.wire.fresh (transmit-ends turns.0 turns.1).arrived ends;
        within = laws.within i h.arrivals over.back.wire.old s.wire.seat ends;
        fronts = front;
        full = over.full;
      }

-- the transmit board leaves one list of the port
pub one-port : OneListIsLeft
one-port i s left over is =
    ap (λ (ls : BoardLists). length ls.outs) is.tx.leaves
    ∙ (length-map (range_with_len 0 s.stage.tx.sizes.outs) _
    ∙ (length-range_with_len 0 s.stage.tx.sizes.outs
    ∙ ap (λ (z : BoardSizes). z.outs) over.back.boards.tx))

pub run_ends : Laws → LeftListsMakeHistories
run_ends laws i s left over is = run-ends i s left over is laws
