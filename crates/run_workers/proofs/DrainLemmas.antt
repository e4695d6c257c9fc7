-- A worker after one of its drains went on, at the receive board or at the transmit board.
use Rattle.run_workers.proofs.Names.{◌≡◌, ℕ, Some, ap, ◌∙◌, length, length-set, slice_get}
use Rattle.run_workers.proofs.Names.{slice_set, SeatView, HintStep, BoardSeatView, Setup, Serves}
use Rattle.run_workers.proofs.Names.{this_lane, IsDrain, Drain, Inboxes, Port, Grows, KeepsPoller}
use Rattle.run_workers.proofs.Names.{KeepsServer, StageView, GoesOn, IsWorking, Seats, Worker}
use Rattle.run_workers.proofs.Records.HintLemmas.{steps_same}
use Rattle.run_workers.proofs.KeepLemmas.{KeepsReceive, KeepsTransmit, pollers_stay, receive_stays}
use Rattle.run_workers.proofs.KeepLemmas.{received, servers_stay, stores_stay, transmit_stays}
use Rattle.run_workers.proofs.KeepLemmas.{transmitted, works}
use Rattle.run_workers.proofs.LaneLemmas.{lane_goes_on, same_seat}
use Rattle.run_workers.proofs.SameLemmas.{SameSeat, drops_stay, homes_stay, is_same}
use Rattle.run_workers.proofs.SameLemmas.{rings_stay, seat_stays}

abbrev Hint : Type 0
Hint = SeatView HintStep

-- the worker w has become v, and its seats r, with the same pollers, applications and hint words
module _ (t : StageView) (w v : Worker) (s r : Seats)
    (pollers : v.pollers.items ≡ w.pollers.items) (servers : v.servers.items ≡ w.servers.items)
    (hint : r.hint ≡ s.hint) (x : IsWorking t w s) where
  abbrev given : Setup
  given = t.shared.given

  hint_table : r.hint.table ≡ s.hint.table
  hint_table = ap (λ (z : Hint). z.table) hint

  hint_grow : Grows s.hint.steps r.hint.steps
  hint_grow = steps_same s.hint r.hint hint

  -- the drain d of a processor has become e
  module _ (i : ℕ) (d e : Drain) (drains : v.drains.items ≡ slice_set w.drains.items i e)
      (ships : v.ships.items ≡ w.ships.items) (tx : r.tx ≡ s.tx)
      (there : slice_get w.drains.items i ≡ Some d) (serves : Serves (this_lane d.lane) s.rx r.rx)
      (is : IsDrain given e r.rx.steps) (lane : e.lane ≡ d.lane) (exit : e.exit ≡ d.exit)
      (start : e.start ≡ d.start) where
    rx : SameSeat s.rx r.rx
    rx = same_seat s.rx r.rx d.lane serves

    drained : KeepsReceive t v r x.first x.turns x.marks
    drained =
        lane_goes_on t.rx given Inboxes s.rx r.rx w.drains.items v.drains.items w.pollers.items
        v.pollers.items (KeepsPoller t s x.first x.turns x.marks)
        (KeepsPoller t r x.first x.turns x.marks) x.turns i d e drains there serves is lane exit
        start (received t w v s r x) (ap length pollers)
        (pollers_stay t w v s r x hint_grow pollers rx.number rx.steps)

    pub drain_goes_on : GoesOn t w v s r
    drain_goes_on =
        record {
          is = works t w v s r x x.turns x.replies x.marks x.noted drained
              (transmit_stays t w v s r x hint_grow servers ships tx rx.steps)
              (stores_stay t w v s r x pollers servers rx.number
              (ap (λ (z : BoardSeatView). z.number) tx) hint);
          same = is_same w v s r (ap length pollers)
              (ap length drains ∙ length-set w.drains.items i e) (ap length servers)
              (ap length ships) (rings_stay w.pollers.items v.pollers.items pollers)
              (drops_stay w.pollers.items v.pollers.items pollers)
              (homes_stay w.servers.items v.servers.items servers) rx (seat_stays s.tx r.tx tx)
              hint_table hint_grow;
        }

  -- the drain d of a transmit queue has become e
  module _ (i : ℕ) (d e : Drain) (drains : v.drains.items ≡ w.drains.items)
      (ships : v.ships.items ≡ slice_set w.ships.items i e) (rx : r.rx ≡ s.rx)
      (there : slice_get w.ships.items i ≡ Some d) (serves : Serves (this_lane d.lane) s.tx r.tx)
      (is : IsDrain given e r.tx.steps) (lane : e.lane ≡ d.lane) (exit : e.exit ≡ d.exit)
      (start : e.start ≡ d.start) where
    tx : SameSeat s.tx r.tx
    tx = same_seat s.tx r.tx d.lane serves

    shipped : KeepsTransmit t v r x.rows x.replies x.noted
    shipped =
        lane_goes_on t.tx given Port s.tx r.tx w.ships.items v.ships.items w.servers.items
        v.servers.items (KeepsServer t s x.rows x.replies x.noted)
        (KeepsServer t r x.rows x.replies x.noted) x.replies i d e ships there serves is lane exit
        start (transmitted t w v s r x) (ap length servers)
        (servers_stay t w v s r x hint_grow servers tx.number (seat_stays s.rx r.rx rx).steps
        tx.steps)

    pub ship_goes_on : GoesOn t w v s r
    ship_goes_on =
        record {
          is = works t w v s r x x.turns x.replies x.marks x.noted
              (receive_stays t w v s r x hint_grow pollers drains rx) shipped
              (stores_stay t w v s r x pollers servers
              (ap (λ (z : BoardSeatView). z.number) rx) tx.number hint);
          same = is_same w v s r (ap length pollers) (ap length drains) (ap length servers)
              (ap length ships ∙ length-set w.ships.items i e)
              (rings_stay w.pollers.items v.pollers.items pollers)
              (drops_stay w.pollers.items v.pollers.items pollers)
              (homes_stay w.servers.items v.servers.items servers) (seat_stays s.rx r.rx rx) tx
              hint_table hint_grow;
        }
