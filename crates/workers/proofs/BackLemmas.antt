-- A run from its start to the time when its threads are back, and on to its end.
use Rattle.plan_reader.specs.declared.limits.TheConstants.{MAX_PLAN_FILTERS}
use Rattle.steer_model.specs.Good.Inputs.{setup_in}
use Rattle.steer_model.specs.State.Start.{setup_of}
use Rattle.run_words.specs.Numbers.{word_count}
use Rattle.rss_table.specs.Redirection.{Redirection}
use Rattle.run_crew.specs.Routes.{Ends}
use Rattle.workers.specs.BoardLaws.{HasItsSettings}
use Rattle.run_workers.specs.Stages.{stage_view}
use Rattle.run_crew.specs.CountLaws.{IsFull}
use Rattle.run_crew.specs.Crews.{AreWorking}
use Rattle.run_crew.specs.Finished.{FinishedCrewsAreFull, finished_by_all}
use Rattle.run_crew.specs.Sweeps.{CrewsGoOn, CrewsLearnArrivals, CrewsPlayOn, PlayOn}
use Rattle.workers.specs.Starts.{boards_in}
use Rattle.workers.specs.Overs.{AreAtHome, ArePaired, ControllerIsOver, IsBack, WireIsOver}
use Rattle.workers.specs.Threads.{ControllerCan, ControllerRan, WireCan, WireRan}
use Rattle.workers.proofs.Names.{◌≡◌, ℕ, ◌≤◌, List, [], Some, true, length, map, sym, ap, ◌∙◌}
use Rattle.workers.proofs.Names.{subst, arith, range_with_len, length-map, arrivals_at, Arrival}
use Rattle.workers.proofs.Names.{Plan, BoardSizes, Input, AreOfFlows, Setup, ArePushed, Seats}
use Rattle.workers.proofs.Names.{BoardsHaveSettings, stage, GoOn, all_free, Seated, IsStart, Run}
use Rattle.workers.proofs.Names.{IsOver, stage_of}

-- ---- what is played on

homes-after : (homes : List ℕ) (before after : List Seated) → PlayOn before after
    → AreAtHome homes before → AreAtHome homes after
homes-after homes before after play were a less p =
    let o = play.homes a p in were a less o.0 ∙ ap Some (sym o.1)

-- ---- the start

module _ (i : Input) (s : Run) (start : IsStart i.plan i.packets i.cut s)
    (settings : BoardsHaveSettings) where
  has : HasItsSettings (boards_in s.stage)
  has = settings i.plan i.packets i.cut (boards_in s.stage) start.boards

  given-is : s.stage.shared.given ≡ setup_in i
  given-is = start.boards.given

  pub packets-are : length s.stage.shared.given.packets ≡ length i.packets
  packets-are = ap (λ (g : Setup). length g.packets) given-is

  homes-are : length s.stage.shared.given.homes ≡ length i.plan.queues
  homes-are = ap (λ (g : Setup). length g.homes) given-is ∙ length-map i.plan.queues _

  words-are : s.stage.shared.hints.words ≡ word_count (length s.stage.shared.given.packets)
  words-are = start.boards.words ∙ ap word_count (sym packets-are)

  few-filters : s.stage.shared.filters ≤ MAX_PLAN_FILTERS
  few-filters =
      let same = start.boards.filters in
      let few = i.plan.within.filters_within in omega (arith, same, few)

  pub wire-can : WireCan s.stage.shared s.wire
  wire-can =
      let n = packets-are in
      let room = ap (λ j. j.room) start.wire.arrivals in
      record {
        table = ap (λ w. w.table) start.wire.seat;
        words = words-are;
        filters = few-filters;
        queues = ap (λ (r : Redirection). r.queues) start.wire.reta ∙ sym homes-are;
        none = ap (λ j. j.items) start.wire.arrivals;
        room = omega (arith, n, room);
        rings = start.wire.rings;
        pushed = subst (λ (k : ℕ). ArePushed k s.wire.wire) (sym packets-are) start.wire.pushed;
      }

  pub controller-can : ControllerCan i.plan (stage s.stage.shared s.stage.rx s.stage.tx)
      s.controller
  controller-can =
      record {
        is_stage = record {
          rx_settings = has.queues;
          rx_lanes = has.cpus;
          tx_settings = has.maps.settings;
          words = words-are;
          filters = few-filters;
        };
        setup = given-is
            ∙ ap (λ (g : Setup). setup_of i.plan g.packets g.cut) (sym given-is);
        seated = start.controller.seated;
        known = start.controller.known;
        commands = start.controller.commands;
      }

  pub first-work : AreWorking (stage_of s) s.crew.items (length i.plan.queues) (length i.plan.apps)
  first-work =
      subst (λ (late : List Arrival). AreWorking (stage_view s.stage.rx s.stage.tx s.stage.shared
      late)
      s.crew.items (length i.plan.queues) (length i.plan.apps)) (sym start.late) start.crew.work

  -- ---- the threads are back

  module _ (flows : AreOfFlows i.packets) (keep : CrewsGoOn) (play : CrewsPlayOn) (t : Run)
      (go : GoOn (stage_of s) s.crew.items t.crew.items)
      (wire : WireRan s.stage.shared s.wire t.wire)
      (controller : ControllerRan i.plan (stage s.stage.shared s.stage.rx s.stage.tx)
      s.controller t.controller) where
    abbrev back : Run
    back = record s { crew = t.crew; wire = t.wire; controller = t.controller }

    played : PlayOn s.crew.items t.crew.items
    played = play (stage_of s) s.crew.items t.crew.items go

    rings-count : length s.wire.wire.rings.items ≡ length i.plan.queues
    rings-count = start.wire.rings ∙ homes-are

    paired : ArePaired t.wire.wire t.crew.items (length i.plan.queues)
    paired q d less p =
        let count = rings-count in
        let o = played.rings q p in
        let a = wire.rings.same q d (omega (arith, less, count)) in
        let b = start.paired q (omega (arith, less, count)) o.0 d in
        let e = o.1 in (
          e.0.0 ∙ (b.0 ∙ sym a.0.0),
          e.0.1 ∙ (b.1 ∙ sym a.0.1),
          e.0.2 ∙ (b.2 ∙ sym a.0.2),
          e.0.3 ∙ (b.3 ∙ sym a.0.3),
        )

    wire-is-over : WireIsOver i back t.wire.wire.arrivals.items
    wire-is-over =
        let ends : Ends (setup_in i) s.stage.shared.filters s.wire.wire.reta
        t.wire.wire.arrivals.items s.wire.seat t.wire.seat =
        subst (λ (g : Setup). Ends g s.stage.shared.filters s.wire.wire.reta
        t.wire.wire.arrivals.items s.wire.seat t.wire.seat) given-is wire.ends in
        let by_plan : Ends (setup_in i) i.plan.filters s.wire.wire.reta
        t.wire.wire.arrivals.items s.wire.seat t.wire.seat =
        subst (λ (n : ℕ). Ends (setup_in i) n s.wire.wire.reta t.wire.wire.arrivals.items
        s.wire.seat t.wire.seat) start.boards.filters ends in
        let count = rings-count in
        let kept = wire.rings.count in
        record {
          all = wire.all ∙ ap (range_with_len 0) packets-are;
          old = s.wire.seat;
          fresh = ap (λ w. w.steps) start.wire.seat;
          ends = subst (λ (r : Redirection). Ends (setup_in i) i.plan.filters r
              t.wire.wire.arrivals.items s.wire.seat t.wire.seat) start.wire.reta by_plan;
          table = wire.table ∙ ap (λ w. w.table) start.wire.seat;
          count = kept ∙ count;
          sent_are = λ q d less. wire.pushed.sent_are q d (omega (arith, less, count, kept));
          paired = paired;
        }

    controller-is-over : ControllerIsOver i back
    controller-is-over =
        record {
          given = controller.given;
          old = s.controller.seats;
          rx_fresh = ap (λ (z : Seats). z.rx.steps) start.controller.seats;
          tx_fresh = ap (λ (z : Seats). z.tx.steps) start.controller.seats;
          hint_fresh = ap (λ (z : Seats). z.hint.steps) start.controller.seats;
          last = t.controller.controller.known;
          attempted = controller.attempted;
          most = length t.controller.controller.commands.items;
          seated = controller.seated;
        }

    pub is-back : IsBack i back t.wire.wire.arrivals.items
    is-back =
        record {
          boards = start.boards;
          flows = flows;
          count = go.count ∙ start.crew.count;
          work = keep (stage_of s) s.crew.items t.crew.items (length i.plan.queues)
              (length i.plan.apps) first-work go;
          homes = homes-after i.plan.apps s.crew.items t.crew.items played
              (λ a less p. start.crew.homes a p);
          wire = wire-is-over;
          controller = controller-is-over;
        }

-- ---- the sweep

-- a run with all arrivals known, and with these workers
abbrev swept : Run → Run → Run
swept s t =
    record s {
      stage = record s.stage { late = t.stage.late };
      crew = t.crew;
      wire = record s.wire { wire = record s.wire.wire { arrivals = t.wire.wire.arrivals } };
    }

module _ (i : Input) (s : Run) (back : IsBack i s s.wire.wire.arrivals.items)
    (none : s.stage.late.items ≡ []) (learn : CrewsLearnArrivals) (late : List Arrival) where
  pub late-work : AreWorking (stage_view s.stage.rx s.stage.tx s.stage.shared late) s.crew.items
      (length i.plan.queues) (length i.plan.apps)
  late-work =
      learn s.stage.rx s.stage.tx s.stage.shared late s.crew.items (length i.plan.queues)
      (length i.plan.apps)
      (subst (λ (l : List Arrival). AreWorking (stage_view s.stage.rx s.stage.tx s.stage.shared l)
      s.crew.items (length i.plan.queues) (length i.plan.apps)) none back.work)

  -- workers that have finished all packets have a full count
  pub crew-full : FinishedCrewsAreFull → length i.packets ≤ finished_by_all s.crew.items
      → IsFull s.crew.items (length s.stage.shared.given.homes) s.stage.shared.given.txs
      (length s.stage.shared.given.packets)
  crew-full full all =
      let packets = ap (λ (g : Setup). length g.packets) back.boards.given in
      full (stage_view s.stage.rx s.stage.tx s.stage.shared late) s.crew.items
      (length i.plan.queues) (length i.plan.apps) (length s.stage.shared.given.packets) late-work
      (subst (λ n. n ≤ finished_by_all s.crew.items) (sym packets) all)

  module _ (keep : CrewsGoOn) (play : CrewsPlayOn) (t : Run)
      (late-is : t.stage.late.items ≡ late) (known : late ≡ s.wire.wire.arrivals.items)
      (go : GoOn (stage_view s.stage.rx s.stage.tx s.stage.shared late) s.crew.items t.crew.items)
      (free : all_free t.crew.items ≡ true)
      (full : IsFull t.crew.items (length s.stage.shared.given.homes) s.stage.shared.given.txs
      (length s.stage.shared.given.packets)) where
    abbrev over : Run
    over = swept s t

    now : t.stage.late.items ≡ s.wire.wire.arrivals.items
    now = late-is ∙ known

    played-on : PlayOn s.crew.items t.crew.items
    played-on =
        play (stage_view s.stage.rx s.stage.tx s.stage.shared late) s.crew.items t.crew.items go

    wire-after : WireIsOver i over t.stage.late.items
    wire-after =
        let w = back.wire in
        record {
          all = ap (map (λ (a : Arrival). a.id)) now ∙ w.all;
          old = w.old;
          fresh = w.fresh;
          ends = subst (λ (all : List Arrival). Ends (setup_in i) i.plan.filters
              (record { queues = length i.plan.queues; entries = i.plan.reta }) all w.old
              s.wire.seat) (sym now) w.ends;
          table = w.table;
          count = w.count;
          sent_are = λ q d less. w.sent_are q d less ∙ ap (λ all. arrivals_at all q) (sym now);
          paired = λ q d less p.
              let o = played-on.rings q p in
              let b = w.paired q d less o.0 in
              let e = o.1 in
              (e.0.0 ∙ b.0, e.0.1 ∙ b.1, e.0.2 ∙ b.2, e.0.3 ∙ b.3);
        }

    pub is-over : IsOver i over
    is-over =
        let given = back.boards.given in
        let homes = ap (λ (g : Setup). length g.homes) given ∙ length-map i.plan.queues _ in
        let txs : s.stage.shared.given.txs ≡ s.stage.tx.sizes.lanes =
        ap (λ (g : Setup). g.txs) given ∙ sym (ap (λ (z : BoardSizes). z.lanes) back.boards.tx) in
        let packets = ap (λ (g : Setup). length g.packets) given in
        record {
          back = record {
            boards = back.boards;
            flows = back.flows;
            count = go.count ∙ back.count;
            work = subst (λ (l : List Arrival). AreWorking (stage_view s.stage.rx s.stage.tx
                s.stage.shared l) t.crew.items (length i.plan.queues) (length i.plan.apps))
                (sym late-is)
                (keep (stage_view s.stage.rx s.stage.tx s.stage.shared late) s.crew.items
                t.crew.items (length i.plan.queues) (length i.plan.apps) late-work go);
            homes = homes-after i.plan.apps s.crew.items t.crew.items played-on back.homes;
            wire = wire-after;
            controller = record {
              given = back.controller.given;
              old = back.controller.old;
              rx_fresh = back.controller.rx_fresh;
              tx_fresh = back.controller.tx_fresh;
              hint_fresh = back.controller.hint_fresh;
              last = back.controller.last;
              attempted = back.controller.attempted;
              most = back.controller.most;
              seated = back.controller.seated;
            };
          };
          free = free;
          full = subst (λ n. IsFull t.crew.items n s.stage.tx.sizes.lanes (length i.packets)) homes
              (subst (λ n. IsFull t.crew.items (length s.stage.shared.given.homes) n
              (length i.packets)) txs
              (subst (λ n. IsFull t.crew.items (length s.stage.shared.given.homes)
              s.stage.shared.given.txs n) packets full));
        }

-- ---- the input

-- what a run was made for, as it has it
abbrev pub input_of : Plan → Run → Input
input_of plan s =
    record {
      plan = plan;
      packets = s.stage.shared.given.packets;
      cut = s.stage.shared.given.cut;
    }

pub same-input : (i : Input) (s : Run) → IsStart i.plan i.packets i.cut s → input_of i.plan s ≡ i
same-input i s start =
    ap (λ (g : Setup). record { plan = i.plan; packets = g.packets; cut = g.cut })
    start.boards.given

pub own-start : (i : Input) (s : Run) → IsStart i.plan i.packets i.cut s
    → IsStart i.plan s.stage.shared.given.packets s.stage.shared.given.cut s
own-start i s start =
    subst (λ (j : Input). IsStart j.plan j.packets j.cut s) (sym (same-input i s start)) start

pub own-flows : (i : Input) (s : Run) → IsStart i.plan i.packets i.cut s → AreOfFlows i.packets
    → AreOfFlows s.stage.shared.given.packets
own-flows i s start flows =
    subst (λ (j : Input). AreOfFlows j.packets) (sym (same-input i s start)) flows
