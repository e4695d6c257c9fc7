-- A worker after one of its applications took a packet or none.
use Rattle.run_workers.proofs.Names.{◌≡◌, ◌≢◌, ℕ, ◌<◌, inl, inr, All, Bool, List, Some, refl, sym}
use Rattle.run_workers.proofs.Names.{ap, subst, ◌∙◌, length, length-set, slice_get, slice_set}
use Rattle.run_workers.proofs.Names.{slice_get_within, StepBy, HasOpen, IsOutside, BoardSeatView}
use Rattle.run_workers.proofs.Names.{BoardStep, []}
use Rattle.run_workers.specs.Hands.KeptMaps.{Kept}
use Rattle.run_workers.specs.Hands.Servers.{KeepsMaps}
use Rattle.run_workers.specs.Records.Replying.{IsReplying}
use Rattle.run_workers.proofs.Names.{Setup, StaysApplication, IsServer, TakesOrLeaves, Inboxes}
use Rattle.run_workers.proofs.Names.{Port, Server, Grows, TurnsGrow, NotesGrow, Note, IsTurnOfOne}
use Rattle.run_workers.proofs.Names.{KeepsPoller, KeepsServer, actor_at, StageView, GoesOn}
use Rattle.run_workers.proofs.Names.{HasHomes, IsWorking, Seats, Worker}
use Rattle.run_workers.proofs.Hands.ServerLaws.{applications_explain, applications_leave_drains}
use Rattle.run_workers.proofs.Hands.ServerLaws.{applications_stay}
use Rattle.run_workers.specs.Records.ReplyingLaws.{TakesOn}
use Rattle.run_workers.proofs.Records.AddedLemmas.{calls_add_steps}
use Rattle.run_workers.proofs.Records.ListLemmas.{others_stay}
use Rattle.run_workers.proofs.Records.ReplyingLemmas.{takes_go_on}
use Rattle.run_workers.proofs.Records.StoringLemmas.{applications_store}
use Rattle.run_workers.proofs.EachLemmas.{actors_differ, each_same, each_set, turns_of_ones}
use Rattle.run_workers.proofs.EachLemmas.{turns_stay}
use Rattle.run_workers.proofs.KeepLemmas.{KeepsReceive, KeepsTransmit, board_calls, board_stays}
use Rattle.run_workers.proofs.KeepLemmas.{marks_stay, pollers_stay, received, transmitted, works}
use Rattle.run_workers.proofs.SameLemmas.{drops_stay, homes_set, is_same, rings_stay, seat_stays}
use Rattle.run_workers.proofs.SeatLemmas.{takes_move}
use Rattle.run_workers.proofs.StayLemmas.{server_stays}

-- the notes have at most one more of the application
notes_grow : (y u : Server) (noted more : List (StepBy Note)) → NotesGrow y u noted more
    → TurnsGrow y.app noted more
notes_grow y u noted more (inl same) = inl same.0
notes_grow y u noted more (inr (n, hand, writes, grown)) = inr (n, grown)

-- the application y at index i of a worker has become u, and its seats r
module _ (t : StageView) (w v : Worker) (s r : Seats) (i : ℕ) (y u : Server) (took : Bool)
    (pollers : v.pollers.items ≡ w.pollers.items) (drains : v.drains.items ≡ w.drains.items)
    (servers : v.servers.items ≡ slice_set w.servers.items i u)
    (ships : v.ships.items ≡ w.ships.items) (tx : r.tx ≡ s.tx)
    (there : slice_get w.servers.items i ≡ Some y) (x : IsWorking t w s)
    (takes : TakesOrLeaves t.rx.sizes t.shared.given y u s.rx r.rx s.hint r.hint took)
    (is : IsServer t.shared.given u) (outside : IsOutside r.rx.steps) (gate : HasOpen r.rx.steps)
  where
    abbrev given : Setup
    given = t.shared.given

    was : KeepsServer t s x.rows x.replies x.noted i y
    was = x.servers i y there

    stay : StaysApplication y u s.rx r.rx s.hint r.hint
    stay = applications_stay.takes t.rx.sizes given y u took s.rx r.rx s.hint r.hint takes

    grow : Grows s.rx.steps r.rx.steps × Grows s.hint.steps r.hint.steps
    grow = calls_add_steps.takes t.rx.sizes given y u took s.rx r.rx s.hint r.hint takes

    on : TakesOn given x.rows t.tx.sizes.start t.late y u x.replies x.noted r.rx s.tx.steps r.hint
    on = takes_go_on t.rx.sizes given x.rows t.tx.sizes.start t.late y u took x.replies x.noted
        s.rx r.rx s.tx.steps s.hint r.hint takes was.keeps

    on_grow : TurnsGrow y.app x.noted on.more
    on_grow = notes_grow y u x.noted on.more on.grow

    many : length v.servers.items ≡ length w.servers.items
    many = ap length servers ∙ length-set w.servers.items i u

    tx_number : r.tx.number ≡ s.tx.number
    tx_number = ap (λ (z : BoardSeatView). z.number) tx

    tx_steps : r.tx.steps ≡ s.tx.steps
    tx_steps = ap (λ (z : BoardSeatView). z.steps) tx

    kept : u.kept ≡ y.kept
    kept = applications_stay.maps t.rx.sizes given y u took s.rx r.rx s.hint r.hint takes

    this_server : KeepsServer t r x.rows x.replies on.more i u
    this_server =
        record {
          own = stay.app ∙ (was.own ∙ ap (λ n. actor_at t.tx.sizes n i) (sym tx_number));
          within = subst (λ n. n < t.rx.sizes.outs) (sym stay.app) was.within;
          room = stay.room ∙ was.room;
          start = stay.start ∙ was.start;
          is = is;
          maps = subst (λ (z : Kept × List BoardStep). KeepsMaps given z.0 z.1)
              (λ j. (sym kept j, sym tx_steps j)) was.maps;
          keeps = subst (λ (ds : List BoardStep). IsReplying given x.rows t.tx.sizes.start t.late
              u x.replies on.more r.rx.steps ds r.hint.steps) (sym tx_steps) on.keeps;
        }

    other_server : (k : ℕ) (z : Server) → k ≢ i → KeepsServer t s x.rows x.replies x.noted k z
        → KeepsServer t r x.rows x.replies on.more k z
    other_server k z apart kept =
        server_stays t s r x.rows x.replies x.replies x.noted on.more k z tx_number refl
        (others_stay y.app z.app x.noted on.more
        (actors_differ t.tx.sizes s.tx.number i k y.app z.app was.own kept.own apart) on_grow)
        grow.0 ([], tx_steps) grow.1 kept

    noted_by : All (IsTurnOfOne t.tx.sizes r.tx.number (length v.servers.items)) on.more
    noted_by =
        turns_stay t.tx.sizes r.tx.number s.tx.number (length v.servers.items)
        (length w.servers.items) on.more tx_number many
        (turns_of_ones t.tx.sizes s.tx.number (length w.servers.items) y.app i x.noted on.more
        (slice_get_within w.servers.items i y there) was.own on_grow x.noted_by)

    looked : KeepsReceive t v r x.first x.turns x.marks
    looked =
        board_calls t.rx given Inboxes s.rx r.rx w.drains.items v.drains.items w.pollers.items
        v.pollers.items (KeepsPoller t s x.first x.turns x.marks)
        (KeepsPoller t r x.first x.turns x.marks) x.turns drains (ap length pollers)
        (pollers_stay t w v s r x grow.1 pollers stay.number grow.0) (received t w v s r x)
        x.turns stay.number
        (takes_move t.rx.sizes given y u took s.rx r.rx s.hint r.hint takes) outside gate
        (applications_explain.takes t.rx.sizes given y u took s.rx r.rx s.hint r.hint takes x.turns
        x.steered) x.by_pollers
        (λ d. applications_leave_drains.takes t.rx.sizes given d y u took s.rx r.rx s.hint r.hint
        takes)

    waits : KeepsTransmit t v r x.rows x.replies on.more
    waits =
        board_stays t.tx given Port s.tx r.tx w.ships.items v.ships.items w.servers.items
        v.servers.items (KeepsServer t s x.rows x.replies x.noted)
        (KeepsServer t r x.rows x.replies on.more) x.replies ships many
        (each_same (KeepsServer t r x.rows x.replies on.more) (slice_set w.servers.items i u)
        v.servers.items servers
        (each_set (KeepsServer t r x.rows x.replies on.more)
        (KeepsServer t s x.rows x.replies x.noted) w.servers.items i u this_server other_server
        x.servers))
        (transmitted t w v s r x) tx

    pub take_goes_on : GoesOn t w v s r
    take_goes_on =
        record {
          is = works t w v s r x x.turns x.replies x.marks on.more looked waits
              (record {
                table = stay.hint_table ∙ x.hint_table;
                marked_by = marks_stay t w v s r x pollers stay.number;
                noted_by = noted_by;
                stores = applications_store.takes t.rx.sizes given t.shared.filters y u took
                    x.turns x.marks x.noted on.more s.rx r.rx s.hint r.hint takes on.grow
                    x.stores;
              });
          same = is_same w v s r (ap length pollers) (ap length drains) many (ap length ships)
              (rings_stay w.pollers.items v.pollers.items pollers)
              (drops_stay w.pollers.items v.pollers.items pollers)
              (subst (HasHomes w.servers.items) (sym servers)
              (homes_set w.servers.items i y u there stay.home))
              (record { table = stay.table; number = stay.number; steps = grow.0 })
              (seat_stays s.tx r.tx tx) stay.hint_table grow.1;
        }
