-- A worker after a poll of one of its pollers.
use Rattle.rtrb.specs.Ring.{SameConsumer}
use Rattle.run_workers.specs.Hands.Laws.{Stays}
use Rattle.run_workers.specs.Hands.Pollers.{KeepsReading}
use Rattle.run_workers.proofs.Names.{◌≡◌, ◌≢◌, ℕ, ◌<◌, ◌≤◌, All, Some, sym, ap, subst, ◌∙◌, length}
use Rattle.run_workers.proofs.Names.{length-set, slice_get, slice_set, slice_get_within, HasOpen}
use Rattle.run_workers.proofs.Names.{IsOutside, BoardSeatView, Setup, IsPoller, Polls, Inboxes}
use Rattle.run_workers.proofs.Names.{Poller, Grows, IsTurnOfOne, KeepsPoller, actor_at, StageView}
use Rattle.run_workers.proofs.Names.{dropped_by, GoesOn, IsWorking, Seats, Worker}
use Rattle.run_workers.proofs.Hands.StayLemmas.{polls_drop, polls_stay}
use Rattle.run_workers.proofs.Hands.VisitLemmas.{polls_leave}
use Rattle.run_workers.specs.Records.Polling.{IsPolling}
use Rattle.run_workers.specs.Records.PollingLaws.{PollsOn}
use Rattle.run_workers.proofs.Records.AddedLemmas.{calls_add_steps}
use Rattle.run_workers.proofs.Records.ListLemmas.{others_stay}
use Rattle.run_workers.proofs.Records.PollingLemmas.{pollers_go_on}
use Rattle.run_workers.specs.Workers.{HasDrops, HasRings}
use Rattle.run_workers.proofs.EachLemmas.{actors_differ, each_same, each_set, turns_of_ones}
use Rattle.run_workers.proofs.EachLemmas.{turns_stay}
use Rattle.run_workers.proofs.KeepLemmas.{KeepsReceive, board_calls, notes_stay, received}
use Rattle.run_workers.proofs.KeepLemmas.{transmit_stays, works}
use Rattle.run_workers.proofs.SameLemmas.{drops_set, homes_stay, is_same, rings_set, seat_stays}
use Rattle.run_workers.proofs.SeatLemmas.{polls_move}
use Rattle.run_workers.proofs.StayLemmas.{poller_stays}

-- the poller p at index i of a worker has become q, and its seats r
module _ (t : StageView) (w v : Worker) (s r : Seats) (i : ℕ) (p q : Poller)
    (pollers : v.pollers.items ≡ slice_set w.pollers.items i q)
    (drains : v.drains.items ≡ w.drains.items) (servers : v.servers.items ≡ w.servers.items)
    (ships : v.ships.items ≡ w.ships.items) (tx : r.tx ≡ s.tx)
    (there : slice_get w.pollers.items i ≡ Some p) (x : IsWorking t w s)
    (polls : Polls t.shared.given t.shared.filters p q s.rx r.rx s.hint r.hint)
    (is : IsPoller t.shared.given.cpus q)
    (reads : KeepsReading (length t.shared.given.homes) q r.rx.steps)
    (ring : SameConsumer p.ring q.ring)
    (outside : IsOutside r.rx.steps) (gate : HasOpen r.rx.steps) where
  abbrev given : Setup
  given = t.shared.given

  stay : Stays p q s.rx r.rx s.hint r.hint
  stay = polls_stay given t.shared.filters p q s.rx r.rx s.hint r.hint polls

  was : KeepsPoller t s x.first x.turns x.marks i p
  was = x.pollers i p there

  on : PollsOn given t.shared.filters (x.first p.queue) t.rx.sizes.start p q x.turns x.marks r.rx
      s.hint r.hint
  on = pollers_go_on given given.cpus t.shared.filters (x.first p.queue) t.rx.sizes.start p q
      x.turns x.marks s.rx r.rx s.hint r.hint polls was.is x.steered was.keeps

  grow : Grows s.rx.steps r.rx.steps × Grows s.hint.steps r.hint.steps
  grow = calls_add_steps.polls given t.shared.filters p q s.rx r.rx s.hint r.hint polls

  drops : dropped_by p ≤ dropped_by q
  drops = polls_drop given t.shared.filters p q s.rx r.rx s.hint r.hint polls

  many : length v.pollers.items ≡ length w.pollers.items
  many = ap length pollers ∙ length-set w.pollers.items i q

  this_poller : KeepsPoller t r x.first on.more on.more_marks i q
  this_poller =
      record {
        own = stay.queue ∙ (was.own ∙ ap (λ n. actor_at t.rx.sizes n i) (sym stay.number));
        within = subst (λ n. n < length given.homes) (sym stay.queue) was.within;
        room = stay.room ∙ was.room;
        is = is;
        kept = reads;
        keeps = subst (λ n. IsPolling given (x.first n) t.rx.sizes.start q on.more on.more_marks
            r.rx.steps r.hint.steps) (sym stay.queue) on.keeps;
      }

  other_poller : (k : ℕ) (y : Poller) → k ≢ i → KeepsPoller t s x.first x.turns x.marks k y
      → KeepsPoller t r x.first on.more on.more_marks k y
  other_poller k y apart kept =
      let differ =
      actors_differ t.rx.sizes s.rx.number i k p.queue y.queue was.own kept.own apart in
      poller_stays t s r x.first x.turns on.more x.marks on.more_marks k y stay.number
      (others_stay p.queue y.queue x.turns on.more differ on.grow)
      (others_stay p.queue y.queue x.marks on.more_marks differ on.marks_grow)
      grow.0 grow.1 kept

  polled : KeepsReceive t v r x.first on.more on.more_marks
  polled =
      board_calls t.rx given Inboxes s.rx r.rx w.drains.items v.drains.items w.pollers.items
      v.pollers.items (KeepsPoller t s x.first x.turns x.marks)
      (KeepsPoller t r x.first on.more on.more_marks) x.turns drains many
      (each_same (KeepsPoller t r x.first on.more on.more_marks) (slice_set w.pollers.items i q)
      v.pollers.items pollers
      (each_set (KeepsPoller t r x.first on.more on.more_marks)
      (KeepsPoller t s x.first x.turns x.marks) w.pollers.items i q this_poller other_poller
      x.pollers))
      (received t w v s r x) on.more stay.number
      (polls_move given t.shared.filters p q s.rx r.rx s.hint r.hint polls) outside gate
      on.explained
      (turns_of_ones t.rx.sizes s.rx.number (length w.pollers.items) p.queue i x.turns on.more
      (slice_get_within w.pollers.items i p there) was.own on.grow x.by_pollers)
      (λ d. polls_leave given d t.shared.filters p q s.rx r.rx s.hint r.hint polls)

  marked : All (IsTurnOfOne t.rx.sizes r.rx.number (length v.pollers.items)) on.more_marks
  marked =
      turns_stay t.rx.sizes r.rx.number s.rx.number (length v.pollers.items)
      (length w.pollers.items) on.more_marks stay.number many
      (turns_of_ones t.rx.sizes s.rx.number (length w.pollers.items) p.queue i x.marks
      on.more_marks (slice_get_within w.pollers.items i p there) was.own on.marks_grow
      x.marked_by)

  pub poll_goes_on : GoesOn t w v s r
  poll_goes_on =
      record {
        is = works t w v s r x on.more x.replies on.more_marks x.noted polled
            (transmit_stays t w v s r x grow.1 servers ships tx grow.0)
            (record {
              table = stay.hint_table ∙ x.hint_table;
              marked_by = marked;
              noted_by = notes_stay t w v s r x (ap length servers)
                  (ap (λ (z : BoardSeatView). z.number) tx);
              stores = on.stores x.noted x.stores;
            });
        same = is_same w v s r many (ap length drains) (ap length servers) (ap length ships)
            (subst (HasRings w.pollers.items) (sym pollers)
            (rings_set w.pollers.items i p q there ring))
            (subst (HasDrops w.pollers.items) (sym pollers)
            (drops_set w.pollers.items i p q there drops))
            (homes_stay w.servers.items v.servers.items servers)
            (record { table = stay.table; number = stay.number; steps = grow.0 })
            (seat_stays s.tx r.tx tx) stay.hint_table grow.1;
      }
