-- Why workers with the first actors of a plan, at the first seats of its boards, begin as a worker
-- of a run has to.
use Rattle.std.proofs.Common.{max}
use native.Mathlib.Nat as nat
use Rattle.steer_base.specs.declared.choice.Chosen.{Chosen}
use Rattle.dev_flow_table.specs.Tables.{cleared}
use Rattle.history.specs.declared.sent.Sent.{Sent}
use Rattle.history.specs.declared.sock_write.SockWrite.{SockWrite}
use Rattle.board_api.specs.Calls.Rights.{Pulls}
use Rattle.steer_model.proofs.Capture.FlowLemmas.{below_count}
use Rattle.steer_model.specs.Capture.FlowCounts.{flow_count}
use Rattle.run_words.specs.Codes.{ReadBack}
use Rattle.run_words.specs.Values.{flows_in, flows_word}
use Rattle.run_coupling.proofs.Tries.RangeLemmas.{fit_first}
use Rattle.run_workers.specs.Hands.Servers.{HasFlowsBelow}
use Rattle.run_workers.specs.declared.drain.Exit.{Exit}
use Rattle.run_workers.specs.declared.drain.Exit.TheVariants.{Inboxes, Port}
use Rattle.run_workers.specs.Laws.{IsNew, IsNewDrain, IsNewPoller, IsNewServer, WorkersBegin}
use Rattle.run_workers.specs.Stages.{HasSizes, StageView, stage_view}
use Rattle.workers.specs.Boards.{AreBoardsOf}
use Rattle.run_crew.specs.Crews.{AreWorking}
use Rattle.workers.specs.Actors.{AreFirst, IsFirstDrain, first_count}
use Rattle.workers.specs.Crews.{IsCrewOf}
use Rattle.workers.specs.StartLaws.{CrewsBegin}
use Rattle.workers.specs.Starts.{HaveRings, IsFirstCrew}
use Rattle.workers.specs.declared.actors.Actors.{Actors}
use Rattle.workers.proofs.Names.{◌≡◌, ℕ, zero, suc, ◌+◌, ◌*◌, ◌-◌, ◌%◌, ◌<◌, false, true, List, []}
use Rattle.workers.proofs.Names.{◌∷◌, Option, Some, length, map, sym, ap, ◌∙◌, arith, slice_get}
use Rattle.workers.proofs.Names.{slice_index_or, length-map, slice_get-get_or, slice_get_within}
use Rattle.workers.proofs.Names.{rounded_up, Journal, Packet, none-some, some-is, BoardSizes}
use Rattle.workers.proofs.Names.{AreDealt, Plan, QueuePlan, Drain, Each, actor_at, AreSeatsOf}
use Rattle.workers.proofs.Names.{BoardsHaveSettings, AllSeats, RunBoards, drains_of, pollers_of}
use Rattle.workers.proofs.Names.{servers_of, ships_of, Seated, Seats, ArePaired, RingEnd, AreSeated}
use Rattle.workers.proofs.Names.{first_seats, RunSeats}
use Rattle.workers.proofs.DealtLemmas.{are_played, dealt_at, played_is}
use Rattle.workers.proofs.DrainLemmas.{drain_is}
use Rattle.workers.proofs.FirstSeatLemmas.{workers_seats}

seats_there : (xs : List Seated) (w : ℕ) (x : Seated) → slice_get xs w ≡ Some x
    → slice_get (map (λ (y : Seated). y.seats) xs) w ≡ Some x.seats
seats_there [] w x got = none-some x got
seats_there (y ∷ xs) zero x got = ap (λ (z : Seated). Some z.seats) (some-is y x got)
seats_there (y ∷ xs) (suc w) x got = seats_there xs w x got

module _ (settings : BoardsHaveSettings) (back : ReadBack) (begins : WorkersBegin) (plan : Plan)
    (packets : List Packet) (cut : Option ℕ) (s : RunBoards) (all : AllSeats) (seats : RunSeats)
    (rings : List RingEnd) (actors : Actors) (crew : List Seated)
    (boards : AreBoardsOf plan packets cut s) (are : AreSeatsOf plan s all)
    (seated : AreSeated all plan.workers seats) (first : AreFirst plan packets actors)
    (paired : ArePaired (length packets) rings actors.pollers.items)
    (crewed : IsCrewOf actors seats.workers.items crew) where
  abbrev t : StageView
  t = stage_view s.rx s.tx s.shared []

  -- ---- the stage

  sizes : HasSizes t
  sizes =
      let has = settings plan packets cut s boards in
      let apps = has.apps in
      let rooms = has.rooms in
      let replies = has.reply_rooms in
      let words = boards.words in
      let filters = boards.filters in
      let few = plan.within.filters_within in
      let outs = ap (λ (b : BoardSizes). b.outs) boards.tx in
      let room = ap (λ (b : BoardSizes). b.room) boards.rx in
      record {
        queue_settings = has.queues;
        cpus = has.cpus;
        apps = omega (arith, apps);
        maps = has.maps;
        port = omega (arith, outs);
        room = omega (arith, rooms, replies);
        words = omega (arith, words, room);
        filters = omega (arith, filters, few);
      }

  queues : length t.shared.given.homes ≡ length plan.queues
  queues =
      ap (λ g. length g.homes) boards.given
      ∙ length-map plan.queues (λ (queue : QueuePlan). queue.home)

  -- ---- the workers

  count : length crew ≡ plan.workers
  count =
      sym (length-map crew (λ (x : Seated). x.seats))
      ∙ (ap length crewed.seats_are ∙ seated.count)

  some : 0 < length crew
  some = let many = plan.within.some_worker in let same = count in omega (arith, many, same)

  at_seats : Each (λ w x. x.seats ≡ first_seats s w) crew
  at_seats w x got =
      workers_seats plan s all seats are seated w x.seats
      (ap (λ xs. slice_get xs w) (sym crewed.seats_are) ∙ seats_there crew w x got)

  rx_seats : t.rx.sizes.seats ≡ plan.workers + 1
  rx_seats = ap (λ (b : BoardSizes). b.seats) boards.rx

  tx_seats : t.tx.sizes.seats ≡ plan.workers + 1
  tx_seats = ap (λ (b : BoardSizes). b.seats) boards.tx

  module _ (about : BoardSizes) (many : about.seats ≡ plan.workers + 1) where
    size : max 1 (about.seats - 1) ≡ length crew
    size = let more = some in let same = count in omega (arith, many, more, same)

    -- the actors of a worker
    own_of : (w k n number : ℕ) → n ≡ w + length crew * k → number ≡ w
        → n ≡ actor_at about number k
    own_of w k n number is same =
        is ∙ (ap (λ m. w + m * k) (sym size) ∙ ap (λ m. actor_at about m k) (sym same))

    pulls : (w k n number : ℕ) → w < length crew → n ≡ w + length crew * k → number ≡ w
        → Pulls about number n
    pulls w k n number less is same =
        ap (λ m. n % m) size
        ∙ (ap (λ j. j % length crew) is
        ∙ (nat.add-mul-mod_self_left w (length crew) k ∙ (nat.mod-eq_of_lt less ∙ sym same)))

    new_drains : (exit : Exit) (kind : Seated → List Drain) (flat : List Drain)
        → AreDealt flat (map kind crew) → Each (IsFirstDrain exit plan.start) flat
        → length flat ≡ about.lanes → about.start ≡ plan.start
        → (w : ℕ) (x : Seated) → slice_get crew w ≡ Some x
        → (number : ℕ) → number ≡ w → Each (IsNewDrain about t.shared.given exit number) (kind x)
    new_drains exit kind flat dealt each lanes starts w x got number same k d has =
        let less = slice_get_within crew w x got in
        let there = dealt_at kind flat crew some dealt w k x d got less has in
        let f = each (w + length crew * k) d there in
        let lane = f.lane in
        let below = slice_get_within flat (w + length crew * k) d there in
        record {
          own = own_of w k d.lane number lane same;
          within = omega (arith, below, lane, lanes);
          mine = pulls w k d.lane number less lane same;
          exit_is = f.exit_is;
          start = f.start ∙ sym starts;
          is = drain_is exit plan.start (w + length crew * k) d t.shared.given f;
        }

  -- ---- pollers

  abbrev first_word : ℕ → ℕ
  first_word q = flows_word (first_count plan q) 0

  count_back : (q : ℕ) → rounded_up (flows_in (first_word q)) ≡ first_count plan q
  count_back q =
      ap rounded_up (back.flows (first_count plan q) 0 ((fit_first plan).counts q))
      ∙ (fit_first plan).rounded q

  room : t.rx.sizes.room ≡ length packets
  room = ap (λ (b : BoardSizes). b.room) boards.rx

  start : t.rx.sizes.start ≡ plan.start
  start = ap (λ (b : BoardSizes). b.start) boards.rx

  new_pollers : (w : ℕ) (x : Seated) → slice_get crew w ≡ Some x
      → Each (IsNewPoller t x.seats.rx.number first_word) (pollers_of x)
  new_pollers w x got k p has =
      let flat = actors.pollers.items in
      let less = slice_get_within crew w x got in
      let there = dealt_at pollers_of flat crew some crewed.pollers w k x p got less has in
      let f = first.pollers (w + length crew * k) p there in
      let queue = f.queue in
      let below = slice_get_within flat (w + length crew * k) p there in
      let many = first.queues in
      let homes = queues in
      record {
        own =
            own_of t.rx.sizes rx_seats w k p.queue x.seats.rx.number queue
            (ap (λ (q : Seats). q.rx.number) (at_seats w x got));
        within = omega (arith, below, queue, many, homes);
        room = ap (λ (j : Journal Chosen). j.room) f.choices ∙ sym room;
        is = f.is t.shared.given.cpus;
        hand = f.hand;
        flows = f.flows ∙ ap first_word (sym queue);
        choices = ap (λ (j : Journal Chosen). j.items) f.choices;
        accepted = f.accepted;
        kept = f.kept;
        table =
            f.table
            ∙ (ap (λ q. cleared (first_count plan q) plan.start false) (sym queue)
            ∙ (ap (λ n. cleared n plan.start false) (sym (count_back p.queue))
            ∙ ap (λ n. cleared (rounded_up (flows_in (first_word p.queue))) n false) (sym start)));
        ring = f.ring;
      }

  -- ---- applications

  flows_below : HasFlowsBelow t.shared.given (length packets) (flow_count packets)
  flows_below id less = rw boards.given (below_count packets id less)

  flows : HasFlowsBelow t.shared.given t.rx.sizes.room (flow_count packets)
  flows id less = let all = room in flows_below id (omega (arith, less, all))

  new_servers : (w : ℕ) (x : Seated) → slice_get crew w ≡ Some x
      → Each (IsNewServer t x.seats.tx.number (flow_count packets)) (servers_of x)
  new_servers w x got k v has =
      let flat = actors.servers.items in
      let less = slice_get_within crew w x got in
      let there = dealt_at servers_of flat crew some crewed.servers w k x v got less has in
      let f = first.servers (w + length crew * k) v there in
      let app = f.app in
      let below = slice_get_within flat (w + length crew * k) v there in
      let many = first.apps in
      let outs = ap (λ (b : BoardSizes). b.outs) boards.rx in
      record {
        own =
            own_of t.tx.sizes tx_seats w k v.app x.seats.tx.number app
            (ap (λ (q : Seats). q.tx.number) (at_seats w x got));
        within = omega (arith, below, app, many, outs);
        room = ap (λ (j : Journal Sent). j.room) f.sent ∙ sym room;
        start = f.start ∙ sym start;
        is = f.is t.shared.given flows_below;
        hand = f.hand;
        table =
            f.table
            ∙ ap (λ n. cleared (flow_count packets) n true)
            (sym (ap (λ (b : BoardSizes). b.start) boards.tx));
        sent = ap (λ (j : Journal Sent). j.items) f.sent;
        choices = ap (λ (j : Journal Chosen). j.items) f.choices;
        writes = ap (λ (j : Journal SockWrite). j.items) f.writes;
        kept = f.kept;
      }

  -- ---- all workers

  rx_lanes : length actors.drains.items ≡ t.rx.sizes.lanes
  rx_lanes = first.cpus ∙ sym (ap (λ (b : BoardSizes). b.lanes) boards.rx)

  tx_lanes : length actors.ships.items ≡ t.tx.sizes.lanes
  tx_lanes = first.txs ∙ sym (ap (λ (b : BoardSizes). b.lanes) boards.tx)

  is_new : (w : ℕ) (x : Seated) → slice_get crew w ≡ Some x → IsNew t x.worker x.seats
  is_new w x got =
      let at = at_seats w x got in
      record {
        sizes = sizes;
        rx_table = ap (λ (q : Seats). q.rx.table) at;
        tx_table = ap (λ (q : Seats). q.tx.table) at;
        hint_table = ap (λ (q : Seats). q.hint.table) at;
        rx_steps = ap (λ (q : Seats). q.rx.steps) at;
        tx_steps = ap (λ (q : Seats). q.tx.steps) at;
        hint_steps = ap (λ (q : Seats). q.hint.steps) at;
        first = first_word;
        rows = flow_count packets;
        flows = flows;
        pollers = new_pollers w x got;
        drains =
            new_drains t.rx.sizes rx_seats Inboxes drains_of actors.drains.items crewed.drains
            first.drains rx_lanes start w x got x.seats.rx.number
            (ap (λ (q : Seats). q.rx.number) at);
        servers = new_servers w x got;
        ships =
            new_drains t.tx.sizes tx_seats Port ships_of actors.ships.items crewed.ships
            first.ships tx_lanes (ap (λ (b : BoardSizes). b.start) boards.tx) w x got
            x.seats.tx.number (ap (λ (q : Seats). q.tx.number) at);
      }

  all_work : AreWorking t crew (length plan.queues) (length plan.apps)
  all_work =
      let same = count in
      record {
        some = some;
        rx_count = let seats = rx_seats in omega (arith, seats, same);
        tx_count = let seats = tx_seats in omega (arith, seats, same);
        rx_numbers = λ w x got. ap (λ (q : Seats). q.rx.number) (at_seats w x got);
        tx_numbers = λ w x got. ap (λ (q : Seats). q.tx.number) (at_seats w x got);
        work = λ w x got. begins t x.worker x.seats (is_new w x got);
        pollers = λ q less.
            are_played pollers_of actors.pollers.items crew some crewed.pollers q
            (let many = first.queues in omega (arith, less, many));
        servers = λ a less.
            are_played servers_of actors.servers.items crew some crewed.servers a
            (let many = first.apps in omega (arith, less, many));
        drains = λ l less.
            are_played drains_of actors.drains.items crew some crewed.drains l
            (let many = rx_lanes in omega (arith, less, many));
        ships = λ l less.
            are_played ships_of actors.ships.items crew some crewed.ships l
            (let many = tx_lanes in omega (arith, less, many));
      }

  pub first_crew : IsFirstCrew plan s crew
  first_crew =
      record {
        count = count;
        seats = at_seats;
        work = all_work;
        homes = λ a p.
            (first.servers a p.actor
            (played_is servers_of actors.servers.items crew some crewed.servers a p)).home;
      }

  pub own_rings : HaveRings rings crew
  own_rings q less p d =
      paired.pairs q (slice_index_or rings q d) (slice_get-get_or rings q d less) p.actor
      (played_is pollers_of actors.pollers.items crew some crewed.pollers q p)

pub crews_begin : BoardsHaveSettings → ReadBack → WorkersBegin → CrewsBegin
crews_begin settings back begins plan packets cut s all seats rings actors crew boards are seated
    first paired crewed = (
      first_crew settings back begins plan packets cut s all seats rings actors crew boards are
          seated first paired crewed,
      own_rings settings back begins plan packets cut s all seats rings actors crew boards are
          seated first paired crewed,
    )
