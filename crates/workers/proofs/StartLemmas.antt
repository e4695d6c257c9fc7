-- The wire and the controller at their seats, and all that a run begins with.
use Rattle.rtrb.specs.Ring.{known_free}
use Rattle.plan_reader.specs.Ranges.{commands_of}
use Rattle.workers.specs.Boards.{AreBoardsOf}
use Rattle.run_controller.specs.Settings.{first_known}
use Rattle.run_controller.specs.Stages.{AreSeated as AreControllers, stage}
use Rattle.run_controller.specs.declared.controller.Controller.{Controller}
use Rattle.workers.specs.Actors.{AreFirst}
use Rattle.workers.specs.Crews.{IsCrewOf}
use Rattle.workers.specs.StartLaws.{CrewsBegin}
use Rattle.workers.specs.Starts.{HaveRings, IsFirstController, IsFirstCrew, IsFirstWire, boards_in}
use Rattle.workers.specs.declared.actors.Actors.{Actors}
use Rattle.workers.proofs.Names.{◌≡◌, ℕ, ◌+◌, ◌*◌, ◌-◌, ◌<◌, List, [], Option, Some, length, refl}
use Rattle.workers.proofs.Names.{sym, ap, ◌∙◌, subst, arith, slice_get, slice_index_or, length-map}
use Rattle.workers.proofs.Names.{slice_get-get_or, sent, Journal, journal, Packet, arrivals_at}
use Rattle.workers.proofs.Names.{Arrival, BoardSizes, Plan, QueuePlan, ArePushed, Wire, AreSeatsOf}
use Rattle.workers.proofs.Names.{AllSeats, RunBoards, Seated, ArePaired, RingEnd, AreSeated}
use Rattle.workers.proofs.Names.{first_seats, IsStart, RunSeats, Run}
use Rattle.workers.proofs.FirstSeatLemmas.{controller_seats, wire_seat}

-- ---- the wire

pushed_at_first : (packets : ℕ) (w : Wire) (rings : List RingEnd) → w.rings.items ≡ rings
    → w.arrivals ≡ journal [] packets → ((q : ℕ) (r : RingEnd) → slice_get rings q ≡ Some r
    → (sent r ≡ []) × (known_free r ≡ packets)) → ArePushed packets w
pushed_at_first packets w rings are none empty =
    record {
      sent_are = λ q d less.
          (empty q (slice_index_or w.rings.items q d) (at q d less)).0
          ∙ ap (λ (j : Journal Arrival). arrivals_at j.items q) (sym none);
      room = λ q d less.
          let free = (empty q (slice_index_or w.rings.items q d) (at q d less)).1 in
          omega (arith, free);
    }
  where
    at : (q : ℕ) (d : RingEnd) → q < length w.rings.items
        → slice_get rings q ≡ Some (slice_index_or w.rings.items q d)
    at q d less =
        ap (λ rs. slice_get rs q) (sym are) ∙ slice_get-get_or w.rings.items q d less

module _ (plan : Plan) (packets : List Packet) (cut : Option ℕ) (s : RunBoards) (all : AllSeats)
    (seats : RunSeats) (rings : List RingEnd) (actors : Actors) (crew : List Seated)
    (boards : AreBoardsOf plan packets cut s) (are : AreSeatsOf plan s all)
    (seated : AreSeated all plan.workers seats) (first : AreFirst plan packets actors)
    (paired : ArePaired (length packets) rings actors.pollers.items)
    (crewed : IsCrewOf actors seats.workers.items crew) (begin : CrewsBegin) where
  first_wire : (w : Wire) → w.rings.items ≡ rings → w.arrivals ≡ journal [] (length packets)
      → w.reta ≡ record { queues = length plan.queues; entries = plan.reta }
      → IsFirstWire plan packets s (record { wire = w; seat = seats.wire })
  first_wire w ends none reta =
      record {
        arrivals = none;
        rings =
            ap length ends
            ∙ (paired.count
            ∙ (first.queues
            ∙ (sym (length-map plan.queues (λ (q : QueuePlan). q.home))
            ∙ ap (λ g. length g.homes) (sym boards.given))));
        pushed =
            pushed_at_first (length packets) w rings ends none
            (λ q r got. (paired.empty q r got, paired.free q r got));
        reta = reta;
        seat = wire_seat plan s all seats are seated;
      }

  -- ---- the controller

  first_controller : (c : Controller) → c.known ≡ first_known plan
      → c.commands ≡ journal [] (length (commands_of plan.steps) * plan.tries)
      → IsFirstController plan s (record { controller = c; seats = seats.controller })
  first_controller c known commands =
      let own = controller_seats plan s all seats are seated in
      record {
        known = known;
        commands = commands;
        seats = own;
        seated = subst (AreControllers (stage s.shared s.rx s.tx) 0) (sym own) at_first;
      }
    where
      closes : (about : BoardSizes) → about.seats ≡ plan.workers + 1
          → plan.workers ≡ about.seats - 1
      closes about many = omega (arith, many)

      at_first : AreControllers (stage s.shared s.rx s.tx) 0 (first_seats s plan.workers)
      at_first =
          record {
            rx = record {
              table = refl;
              closer = closes s.rx.sizes (ap (λ (b : BoardSizes). b.seats) boards.rx);
              outside = refl;
              is_open = refl;
            };
            tx = record {
              table = refl;
              closer = closes s.tx.sizes (ap (λ (b : BoardSizes). b.seats) boards.tx);
              outside = refl;
              is_open = refl;
            };
            hint = refl;
            rx_opened = omega arith;
            tx_opened = omega arith;
          }

  -- ---- all

  begun : IsFirstCrew plan s crew × HaveRings rings crew
  begun = begin plan packets cut s all seats rings actors crew boards are seated first paired crewed

  pub is_start : (r : Run) → r.stage.rx ≡ s.rx → r.stage.tx ≡ s.tx
      → r.stage.shared ≡ s.shared → r.stage.late.items ≡ [] → r.crew.items ≡ crew
      → r.wire.seat ≡ seats.wire → r.wire.wire.rings.items ≡ rings
      → r.wire.wire.arrivals ≡ journal [] (length packets)
      → r.wire.wire.reta ≡ record { queues = length plan.queues; entries = plan.reta }
      → r.controller.seats ≡ seats.controller → r.controller.controller.known ≡ first_known plan
      → r.controller.controller.commands
      ≡ journal [] (length (commands_of plan.steps) * plan.tries) → IsStart plan packets cut r
  is_start r rx tx shared late workers seat ends none reta own known commands =
      let same : s ≡ boards_in r.stage =
      λ i. record { rx = sym rx i; tx = sym tx i; shared = sym shared i } in
      record {
        boards = subst (AreBoardsOf plan packets cut) same boards;
        late = late;
        crew =
            subst (λ b. IsFirstCrew plan b r.crew.items) same
            (subst (IsFirstCrew plan s) (sym workers) begun.0);
        wire =
            subst (λ b. IsFirstWire plan packets b r.wire) same
            (subst (λ x. IsFirstWire plan packets s (record { wire = r.wire.wire; seat = x }))
            (sym seat) (first_wire r.wire.wire ends none reta));
        paired =
            subst (λ rs. HaveRings rs r.crew.items) (sym ends)
            (subst (HaveRings rings) (sym workers) begun.1);
        controller =
            subst (λ b. IsFirstController plan b r.controller) same
            (subst
            (λ x. IsFirstController plan s
            (record { controller = r.controller.controller; seats = x })) (sym own)
            (first_controller r.controller.controller known commands));
      }
