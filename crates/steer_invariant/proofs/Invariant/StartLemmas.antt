-- The machine that a plan starts is held.
use Rattle.std.proofs.Common.{ℕ, max, ◌+◌, ◌≤◌, ◌<◌, ◌≡◌, get_or, Bool, true, false, List, []}
use Rattle.std.proofs.Common.{Option, Some, None, IsSome, length, refl, ap, ◌∙◌, sym, subst, arith}
use Rattle.std.proofs.Common.{map, replicate}
use Rattle.std.specs.Prelude.{◌&&◌, nat_lt, slice_index, slice_index_or}
use Rattle.std.specs.List.{All}
use Rattle.std.proofs.Math.ListN.{length-map, length-replicate}
use Rattle.std.proofs.lemmas.Bool.{lt-ltb, ltb-true}
use Rattle.std.proofs.lemmas.List.Elements.{All-map, All-nil}
use Rattle.std.proofs.lemmas.Nat.Bits.{bit_at-zero}
use Rattle.steer_base.specs.Counters.{rounded_up}
use Rattle.steer_base.specs.Orders.{IsPrefix}
use Rattle.steer_base.specs.Sets.{has}
use Rattle.steer_base.specs.declared.choice.Chosen.{Chosen}
use Rattle.steer_base.specs.declared.filter.Filter.{Filter}
use Rattle.steer_base.specs.declared.packet.Packet.{Packet}
use Rattle.steer_base.proofs.MasksLemmas.{has-first_cpus}
use Rattle.hop_model.specs.Hop.{HopState, choices_of, out_at, placed_of}
use Rattle.hop_core.proofs.Drops.{fresh_is_ample}
use Rattle.hop_core.proofs.New.{Sound-fresh, at_new}
use Rattle.hop_core.proofs.NothingLost.{fresh_loses_nothing}
use Rattle.hop_core.proofs.Settled.{fresh_is_settled}
use Rattle.accel_filter.specs.Table as table
use Rattle.sock_flow_table.specs.Sockets as sockets
use Rattle.history.specs.Lists.{app_at, arrival_of, list_at, packet_at}
use Rattle.history.specs.declared.arrival.Arrival.{Arrival}
use Rattle.history.specs.declared.commanded.Commanded.{Commanded}
use Rattle.history.specs.declared.sent.Sent.{Sent}
use Rattle.history.specs.declared.sock_write.SockWrite.{SockWrite}
use Rattle.plan_reader.specs.declared.plan.Plan.{Plan}
use Rattle.steer_model.specs.Capture.FlowCounts.{flow_count}
use Rattle.steer_model.specs.State.Ranges.{IsGiven}
use Rattle.steer_model.specs.State.Settings.{Settings, class_at, plain_lane}
use Rattle.steer_model.specs.State.Setup.{Setup}
use Rattle.steer_model.specs.State.Start.{fresh_rx, fresh_tx, new_machine, initial_settings}
use Rattle.steer_model.specs.State.Start.{setup_of}
use Rattle.steer_model.specs.declared.note.Note.{Note}
use Rattle.steer_model.specs.declared.note.Note.TheVariants as note
use Rattle.step_laws.proofs.Origins.TableWriteLemmas.{no-filters}
use Rattle.steer_invariant.specs.Invariant.{Invariant}
use Rattle.steer_invariant.specs.InvariantLaws.{MayStart}
use Rattle.steer_invariant.specs.StepInvariant.{StepInvariant}
use Rattle.steer_invariant.specs.HopInvariants.{BySettings, IsNoted, RxInvariant, TxInvariant}
use Rattle.steer_invariant.specs.HopInvariants.{Manned}
use Rattle.steer_invariant.specs.ListInvariants.{ListSizes, Routes, SettingSizes}
use Rattle.steer_invariant.specs.Ranges.{IsRanged}
use Rattle.steer_invariant.specs.RecordedLists.{IsRecorded}
use Rattle.steer_invariant.proofs.Ranges.RangeLemmas.{rounded-within}

both-false : (b : Bool) → (b && false) ≡ false
both-false true = refl
both-false false = refl

-- the empty set has nobody
nobody-in : (cpu : ℕ) → has (record { 0 = 0 }) cpu ≡ false
nobody-in cpu = let e = bit_at-zero cpu in rw e (both-false (nat_lt cpu 32))

none-chosen : {P : Type 0} (i : ℕ) (cs : List Chosen) → cs ≡ [] → i < length cs → P
none-chosen i cs e lt =
    absurd (let z = ap (λ (l : List Chosen). length l) e in omega (arith, lt, z))

module _ (plan : Plan) (packets : List Packet) (cut : Option ℕ) (may : MayStart plan packets) where
  abbrev setup : Setup
  setup = setup_of plan packets cut

  abbrev now : Settings
  now = initial_settings plan

  queues-many : length now.counts ≡ length setup.homes
  queues-many =
      length-map plan.queues (λ queue. rounded_up queue.flows)
      ∙ sym (length-map plan.queues (λ queue. queue.home))

  homes-many : length setup.homes ≡ length plan.queues
  homes-many = length-map plan.queues (λ queue. queue.home)

  homes-below : All (λ home. home < plan.cpus) setup.homes
  homes-below =
      let w = plan.within in
      All-map (λ home. home < plan.cpus) (λ queue. queue.home) plan.queues
      (λ k d lt. (w.queues_within k d lt).home)

  given-new : IsGiven setup
  given-new =
      let w = plan.within in
      record {
        some_queue = omega (arith, homes-many, w.queues_length.at_least);
        few_queues = omega (arith, homes-many, w.queues_length.at_most);
        homes = homes-below;
        some_cpu = w.some_cpu;
        few_cpus = w.cpus_within;
        some_tx = w.tx_length.at_least;
        few_txs = w.tx_length.at_most;
        some_app = w.apps_length.at_least;
        few_apps = w.apps_length.at_most;
        few_packets = may.few;
        flows = may.flows;
      }

  -- ---- the receive hop

  abbrev rx : HopState
  rx = fresh_rx plan packets

  no-choices : (q : ℕ) → choices_of rx q ≡ []
  no-choices q = at_new (length now.counts) q []

  rx-new : RxInvariant setup rx
  rx-new =
      let many : ℕ = length plan.apps + 1 in
      record {
        sound = Sound-fresh rx.fixed now.counts many plan.cpus (length plan.apps) may.few
            may.start;
        lossless = fresh_loses_nothing rx.fixed now.counts many plan.cpus (length plan.apps);
        opened = refl;
        sizes = record {
          queues = length-replicate (length now.counts) [] ∙ queues-many;
          cpus = length-replicate plan.cpus [];
          apps = length-replicate (length plan.apps) [];
          visits = length-replicate (length now.counts + many) false
              ∙ omega (arith, queues-many);
          room = refl;
          rounded = refl;
        };
      }

  manned-new : Manned setup now rx
  manned-new =
      let w = plan.within in
      record {
        homes = λ q lt.
            has-first_cpus plan.cpus (slice_index setup.homes q) w.cpus_within
            ∙ lt-ltb (slice_index setup.homes q) plan.cpus (homes-below q 0 lt);
        within = λ c on.
            ltb-true c plan.cpus (sym (has-first_cpus plan.cpus c w.cpus_within) ∙ on);
        empty = λ c lt off.
            at_new {X = ℕ} plan.cpus c 0
            ∙ sym (ap (λ (l : List ℕ). length l) (at_new {X = List ℕ} plan.cpus c []));
        hand = λ q lt. none-chosen (placed_of rx q) (choices_of rx q) (no-choices q) lt;
      }

  by-new : BySettings setup now rx
  by-new =
      record {
        counts = refl;
        settled = fresh_is_settled (class_at setup now) (plain_lane setup now) rx.fixed now.counts
            (length plan.apps + 1) plan.cpus (length plan.apps);
        manned = manned-new;
      }

  -- ---- the transmit hop

  abbrev tx : HopState
  tx = fresh_tx plan packets

  abbrev classes : List ℕ
  classes = replicate (length plan.apps) (max 1 (flow_count packets))

  classes-many : length classes ≡ length plan.apps
  classes-many = length-replicate (length plan.apps) (max 1 (flow_count packets))

  tx-new : TxInvariant setup tx
  tx-new =
      record {
        sound = Sound-fresh tx.fixed classes 0 (length plan.tx) 1 may.few may.start;
        lossless = fresh_loses_nothing tx.fixed classes 0 (length plan.tx) 1;
        ample = fresh_is_ample tx.fixed classes 0 (length plan.tx) 1 may.few
            (λ c lt. nobody-in c);
        opened = refl;
        sizes = record {
          apps = length-replicate (length classes) [] ∙ classes-many;
          visits = length-replicate (length classes + 0) false ∙ omega (arith, classes-many);
          txs = length-replicate (length plan.tx) [];
          port = refl;
          room = refl;
          classes = refl;
        };
      }

  -- ---- the machine's own lists

  abbrev none-sent : List (List Sent)
  none-sent = replicate (length plan.apps) []

  no-sent : (a : ℕ) → list_at none-sent a ≡ []
  no-sent a = at_new {X = List Sent} (length plan.apps) a []

  lists-new : ListSizes setup (replicate (length plan.queues) note.Nothing)
      (replicate (length plan.apps) []) (replicate (length plan.apps) [])
  lists-new =
      record {
        notes_long = length-replicate (length plan.queues) note.Nothing ∙ sym homes-many;
        sent_long = length-replicate (length plan.apps) [];
        writes_long = length-replicate (length plan.apps) [];
      }

  sizes-new : SettingSizes setup now (sockets.unset now.sock)
  sizes-new =
      record {
        masks = length-map plan.queues (λ queue. queue.mask) ∙ sym homes-many;
        stands = refl;
        maps = refl;
        sock = sym (length-replicate now.sock None);
      }

  not-set : (f : Filter) → None ≡ Some f → ⊥
  not-set f e = cc

  not-asked : (f : Filter) → note.Nothing ≡ note.Asking f → ⊥
  not-asked f e = cc

  no-notes : (q : ℕ)
      → slice_index_or (replicate (length plan.queues) note.Nothing) q note.Nothing ≡ note.Nothing
  no-notes q = at_new {X = Note} (length plan.queues) q note.Nothing

  routes-new : Routes setup.homes now.reta (table.unset plan.filters)
      (replicate (length plan.queues) note.Nothing)
  routes-new =
      let w = plan.within in
      record {
        table = record {
          some = omega (arith, w.queues_length.at_least);
          few = w.queues_length.at_most;
          size = omega (arith, w.reta_length.at_least, w.reta_length.at_most);
          below = w.reta_within;
        };
        queues = sym homes-many;
        set = λ i f e. absurd (not-set f (sym (no-filters plan.filters i) ∙ e));
        asked = λ q f e. absurd (not-asked f (sym (no-notes q) ∙ e));
      }

  kept-new : StepInvariant (new_machine plan packets cut)
  kept-new =
      record {
        given = given-new;
        rx = rx-new;
        tx = tx-new;
        taken = λ a.
            at_new {X = ℕ} (length classes) a 0
            ∙ sym (ap length (at_new {X = List ℕ} (length classes) a []));
        by = by-new;
        noted = λ q. subst (IsNoted rx q) (sym (no-notes q)) tt;
        lists = lists-new;
        sizes = sizes-new;
        routes = routes-new;
        came = record {
          numbered = refl;
          of_the_capture = omega arith;
          own = λ q. at_new {X = List ℕ} (length now.counts) q [];
        };
        replied = record {
          first = λ a. subst (λ (l : List Sent). IsPrefix (map (λ s. s.id) l) (out_at rx.bare a))
              (sym (no-sent a)) (out_at rx.bare a, refl);
          came = λ a.
              at_new {X = List ℕ} (length classes) a []
              ∙ sym (ap (λ (l : List Sent). map (λ s. s.id) l) (no-sent a));
        };
      }

  all-none : {A : Type 0} (P : A → Type 0) (xs : List A) → xs ≡ [] → All P xs
  all-none P xs e = subst (All P) (sym e) (All-nil P)

  no-tx_choices : (a : ℕ) → choices_of tx a ≡ []
  no-tx_choices a = at_new {X = List Chosen} (length classes) a []

  recorded-new : IsRecorded (new_machine plan packets cut)
  recorded-new =
      record {
        routed = λ i d lt. absurd (omega (arith, lt));
        own = λ a. all-none (λ x. app_at packets (length plan.apps) x ≡ a) (out_at rx.bare a)
            (at_new {X = List ℕ} (length plan.apps) a []);
        queues = λ a. all-none (λ s. s.rxq ≡ (arrival_of [] s.id).queue) (list_at none-sent a)
            (no-sent a);
        weighed = record {
          class = λ a. all-none
              (λ c. c.choice.class ≡ Some (packet_at packets c.id).flow_number) (choices_of tx a)
              (no-tx_choices a);
          want = λ a. all-none (λ c. IsSome c.choice.want) (choices_of tx a) (no-tx_choices a);
        };
        told = λ i d lt. absurd (omega (arith, lt));
      }

  ranged-new : IsRanged (new_machine plan packets cut)
  ranged-new =
      let w = plan.within in
      record {
        flows = All-map (λ count. count ≤ 32768) (λ queue. rounded_up queue.flows) plan.queues
            (λ k d lt. (
            let flows = (w.queues_within k d lt).flows in
            rounded-within (get_or plan.queues k d).flows flows));
        set = λ i f e. absurd (not-set f (sym (no-filters plan.filters i) ∙ e));
        asked = λ q f e. absurd (not-asked f (sym (no-notes q) ∙ e));
      }

  pub held-new : Invariant (new_machine plan packets cut)
  held-new = record { kept = kept-new; ranged = ranged-new; recorded = recorded-new }

  -- the same of parts that are those of the plan's machine
  pub held_made : (given : Setup) (settings : Settings) (socket : List (Option ℕ))
      (filters : List (Option Filter)) (notes : List Note) (s t : HopState)
      (arrivals : List Arrival) (sent : List (List Sent)) (writes : List (List SockWrite))
      (commands : List Commanded)
      → given ≡ setup_of plan packets cut → settings ≡ initial_settings plan
      → socket ≡ sockets.unset (initial_settings plan).sock → filters ≡ table.unset plan.filters
      → notes ≡ replicate (length plan.queues) note.Nothing → s ≡ fresh_rx plan packets
      → t ≡ fresh_tx plan packets → arrivals ≡ [] → sent ≡ replicate (length plan.apps) []
      → writes ≡ replicate (length plan.apps) [] → commands ≡ []
      → Invariant
      (record {
        setup = given;
        settings = settings;
        socket = socket;
        filters = filters;
        notes = notes;
        rx = s;
        tx = t;
        arrivals = arrivals;
        sent = sent;
        writes = writes;
        commands = commands;
      })
  held_made given settings socket filters notes s t arrivals sent writes commands
      a b c d e f g h i j k =
      subst Invariant
      (λ x. record {
        setup = sym a x;
        settings = sym b x;
        socket = sym c x;
        filters = sym d x;
        notes = sym e x;
        rx = sym f x;
        tx = sym g x;
        arrivals = sym h x;
        sent = sym i x;
        writes = sym j x;
        commands = sym k x;
      }) held-new
