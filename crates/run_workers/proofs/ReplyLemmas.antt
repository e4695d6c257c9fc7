-- A worker after one of its applications replied or kept its packet.
use Rattle.run_workers.proofs.Names.{◌≡◌, ◌≢◌, ℕ, ◌<◌, inr, Bool, [], Some, refl, sym, ap, subst}
use Rattle.run_workers.proofs.Names.{◌∙◌, length, length-set, slice_get, slice_set}
use Rattle.run_workers.proofs.Names.{slice_get_within, HasOpen, IsOutside, BoardSeatView, Setup}
use Rattle.run_workers.proofs.Names.{StaysApplication, IsServer, RepliesOrKeeps, Port, Server}
use Rattle.run_workers.proofs.Names.{Grows, KeepsServer, actor_at, StageView, GoesOn, HasHomes}
use Rattle.run_workers.proofs.Names.{IsWorking, Seats, Worker}
use Rattle.run_workers.proofs.Hands.ServerLaws.{applications_leave_drains, applications_stay}
use Rattle.run_workers.specs.Hands.Servers.{KeepsMaps}
use Rattle.run_workers.specs.Records.Replying.{IsReplying}
use Rattle.run_workers.specs.Records.ReplyingLaws.{RepliesOn}
use Rattle.run_workers.proofs.Records.AddedLemmas.{calls_add_steps}
use Rattle.run_workers.proofs.Records.ListLemmas.{others_stay}
use Rattle.run_workers.proofs.Records.ReplyingLemmas.{replies_go_on}
use Rattle.run_workers.proofs.Records.StoringLemmas.{applications_store}
use Rattle.run_workers.proofs.EachLemmas.{actors_differ, each_same, each_set, turns_of_ones}
use Rattle.run_workers.proofs.KeepLemmas.{KeepsTransmit, board_calls, marks_stay, notes_stay}
use Rattle.run_workers.proofs.KeepLemmas.{receive_stays, transmitted, works}
use Rattle.run_workers.proofs.SameLemmas.{drops_stay, homes_set, is_same, rings_stay, seat_stays}
use Rattle.run_workers.proofs.SeatLemmas.{replies_move}
use Rattle.run_workers.proofs.StayLemmas.{server_stays}

-- the application y at index i of a worker has become u, and its seats r
module _ (t : StageView) (w v : Worker) (s r : Seats) (i : ℕ) (y u : Server) (sent : Bool)
    (pollers : v.pollers.items ≡ w.pollers.items) (drains : v.drains.items ≡ w.drains.items)
    (servers : v.servers.items ≡ slice_set w.servers.items i u)
    (ships : v.ships.items ≡ w.ships.items) (rx : r.rx ≡ s.rx)
    (there : slice_get w.servers.items i ≡ Some y) (x : IsWorking t w s)
    (replies : RepliesOrKeeps t.shared.given t.late y u s.tx r.tx s.hint r.hint sent)
    (is : IsServer t.shared.given u) (maps : KeepsMaps t.shared.given u.kept r.tx.steps)
    (outside : IsOutside r.tx.steps) (gate : HasOpen r.tx.steps)
  where
    abbrev given : Setup
    given = t.shared.given

    was : KeepsServer t s x.rows x.replies x.noted i y
    was = x.servers i y there

    stay : StaysApplication y u s.tx r.tx s.hint r.hint
    stay = applications_stay.replies given t.late y u sent s.tx r.tx s.hint r.hint replies

    on : RepliesOn given x.rows t.tx.sizes.start t.late y u x.replies x.noted s.rx.steps r.tx
        r.hint
    on = replies_go_on given x.rows t.tx.sizes.start t.late t.late y u sent x.replies x.noted
        s.rx.steps s.tx r.tx s.hint r.hint replies was.is (inr refl) x.replied was.keeps

    tx_grow : Grows s.tx.steps r.tx.steps
    tx_grow = (calls_add_steps.replies given t.late y u sent s.tx r.tx s.hint r.hint replies).0

    hint_grow : Grows s.hint.steps r.hint.steps
    hint_grow = (calls_add_steps.replies given t.late y u sent s.tx r.tx s.hint r.hint replies).1

    rx_grow : Grows s.rx.steps r.rx.steps
    rx_grow = ([], ap (λ (z : BoardSeatView). z.steps) rx)

    many : length v.servers.items ≡ length w.servers.items
    many = ap length servers ∙ length-set w.servers.items i u

    this_server : KeepsServer t r x.rows on.more x.noted i u
    this_server =
        record {
          own = stay.app ∙ (was.own ∙ ap (λ n. actor_at t.tx.sizes n i) (sym stay.number));
          within = subst (λ n. n < t.rx.sizes.outs) (sym stay.app) was.within;
          room = stay.room ∙ was.room;
          start = stay.start ∙ was.start;
          is = is;
          maps = maps;
          keeps = subst (λ (z : BoardSeatView). IsReplying given x.rows t.tx.sizes.start t.late u
              on.more x.noted z.steps r.tx.steps r.hint.steps) (sym rx) on.keeps;
        }

    other_server : (k : ℕ) (z : Server) → k ≢ i → KeepsServer t s x.rows x.replies x.noted k z
        → KeepsServer t r x.rows on.more x.noted k z
    other_server k z apart kept =
        server_stays t s r x.rows x.replies on.more x.noted x.noted k z stay.number
        (others_stay y.app z.app x.replies on.more
        (actors_differ t.tx.sizes s.tx.number i k y.app z.app was.own kept.own apart) on.grow)
        refl rx_grow tx_grow hint_grow kept

    answered : KeepsTransmit t v r x.rows on.more x.noted
    answered =
        board_calls t.tx given Port s.tx r.tx w.ships.items v.ships.items w.servers.items
        v.servers.items (KeepsServer t s x.rows x.replies x.noted)
        (KeepsServer t r x.rows on.more x.noted) x.replies ships many
        (each_same (KeepsServer t r x.rows on.more x.noted) (slice_set w.servers.items i u)
        v.servers.items servers
        (each_set (KeepsServer t r x.rows on.more x.noted)
        (KeepsServer t s x.rows x.replies x.noted) w.servers.items i u this_server other_server
        x.servers))
        (transmitted t w v s r x) on.more stay.number
        (replies_move given t.late y u sent s.tx r.tx s.hint r.hint replies) outside gate
        on.explained
        (turns_of_ones t.tx.sizes s.tx.number (length w.servers.items) y.app i x.replies on.more
        (slice_get_within w.servers.items i y there) was.own on.grow x.by_servers)
        (λ d. applications_leave_drains.replies given t.late d y u sent s.tx r.tx s.hint r.hint
        replies)

    pub reply_goes_on : GoesOn t w v s r
    reply_goes_on =
        record {
          is = works t w v s r x x.turns on.more x.marks x.noted
              (receive_stays t w v s r x hint_grow pollers drains rx) answered
              (record {
                table = stay.hint_table ∙ x.hint_table;
                marked_by = marks_stay t w v s r x pollers
                    (ap (λ (z : BoardSeatView). z.number) rx);
                noted_by = notes_stay t w v s r x many stay.number;
                stores = applications_store.replies given t.shared.filters t.late y u sent x.turns
                    x.marks x.noted s.tx r.tx s.hint r.hint replies x.stores;
              });
          same = is_same w v s r (ap length pollers) (ap length drains) many (ap length ships)
              (rings_stay w.pollers.items v.pollers.items pollers)
              (drops_stay w.pollers.items v.pollers.items pollers)
              (subst (HasHomes w.servers.items) (sym servers)
              (homes_set w.servers.items i y u there stay.home))
              (seat_stays s.rx r.rx rx)
              (record { table = stay.table; number = stay.number; steps = tx_grow })
              stay.hint_table hint_grow;
        }
