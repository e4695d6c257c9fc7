-- The boards that a plan begins with have its settings.
use Rattle.std.proofs.Common.{◌^◌}
use Rattle.std.specs.Prelude.{slice_get, slice_index_or, unwrap_or}
use Rattle.std.specs.Option.{option_map}
use Rattle.steer_base.specs.Sets.{first_cpus}
use Rattle.plan_reader.specs.declared.plan.TxPlan.{TxPlan}
use Rattle.xps_map.specs.Maps.{no_cpus}
use Rattle.steer_model.specs.State.Start.{initial_settings}
use Rattle.run_words.specs.First.{FirstValuesStand, first_receive_settings, first_transmit_settings}
use Rattle.run_words.specs.Numbers.{word_count}
use Rattle.run_words.specs.declared.setting.ReceiveSetting.TheVariants as receive
use Rattle.run_words.specs.declared.setting.TransmitSetting.TheVariants as transmit
use Rattle.run_coupling.specs.Coupling.Inputs.{AreReceiveWords, AreTransmitWords, receive_queues}
use Rattle.run_coupling.proofs.Tries.RangeLemmas.{fit_first}
use Rattle.workers.specs.BoardLaws.{PlansFitBoards}
use Rattle.workers.proofs.Names.{◌≡◌, ℕ, zero, suc, ◌+◌, ◌*◌, ◌<◌, List, [], ◌∷◌, Option, length}
use Rattle.workers.proofs.Names.{map, sym, refl, ap, ◌∙◌, arith, ◌++◌, slice_index, length-append}
use Rattle.workers.proofs.Names.{length-map, rounded_up, Plan, QueuePlan, Input, BoardsHaveSettings}

-- ---- values of lists

index-of : (ks : List ℕ) (k : ℕ) → slice_index ks k ≡ unwrap_or (slice_get ks k) 0
index-of [] k = refl
index-of (x ∷ ks) zero = refl
index-of (x ∷ ks) (suc k) = index-of ks k

mask-of : (qs : List QueuePlan) (p : ℕ)
    → unwrap_or (option_map (λ (q : QueuePlan). q.mask.0) (slice_get qs p)) 0
    ≡ (slice_index_or (map (λ (q : QueuePlan). q.mask) qs) p (record { 0 = 0 })).0
mask-of [] p = refl
mask-of (q ∷ qs) zero = refl
mask-of (q ∷ qs) (suc p) = mask-of qs p

count-of : (qs : List QueuePlan) (p : ℕ)
    → unwrap_or (option_map (λ (q : QueuePlan). rounded_up q.flows + 0 * 2 ^ 32) (slice_get qs p)) 0
    ≡ slice_index (map (λ (q : QueuePlan). rounded_up q.flows) qs) p + 2 ^ 32 * 0
count-of [] p = refl
count-of (q ∷ qs) zero = omega arith
count-of (q ∷ qs) (suc p) = count-of qs p

cpus-of : (ts : List TxPlan) (p : ℕ)
    → unwrap_or (option_map (λ (t : TxPlan). t.cpus.0) (slice_get ts p)) 0
    ≡ (slice_index_or (map (λ (t : TxPlan). t.cpus) ts) p no_cpus).0
cpus-of [] p = refl
cpus-of (t ∷ ts) zero = refl
cpus-of (t ∷ ts) (suc p) = cpus-of ts p

queues-of : (ts : List TxPlan) (p : ℕ)
    → unwrap_or (option_map (λ (t : TxPlan). t.queues) (slice_get ts p)) 0
    ≡ slice_index (map (λ (t : TxPlan). t.queues) ts) p
queues-of [] p = refl
queues-of (t ∷ ts) zero = refl
queues-of (t ∷ ts) (suc p) = queues-of ts p

small-counts : (plan : Plan) (p : ℕ) → slice_index (initial_settings plan).counts p < 2 ^ 32
small-counts plan p = let few = (fit_first plan).counts p in omega arith

-- ---- the settings of a plan

module _ (i : Input) (stand : FirstValuesStand i.plan) where
  abbrev words : List ℕ
  words = first_receive_settings i.plan

  abbrev maps : List ℕ
  maps = first_transmit_settings i.plan

  abbrev count : ℕ
  count = length i.plan.queues

  homes-count : length (map (λ (q : QueuePlan). q.home) i.plan.queues) ≡ count
  homes-count = length-map i.plan.queues (λ (q : QueuePlan). q.home)

  -- the value at a number, by the value of the setting
  value-at : (n m v : ℕ) (o : Option ℕ) → n ≡ m → slice_get words m ≡ o → unwrap_or o 0 ≡ v
      → slice_index words n ≡ v
  value-at n m v o same there is =
      ap (slice_index words) same ∙ (index-of words m ∙ (ap (λ x. unwrap_or x 0) there ∙ is))

  map-at : (n v : ℕ) (o : Option ℕ) → slice_get maps n ≡ o → unwrap_or o 0 ≡ v
      → slice_index maps n ≡ v
  map-at n v o there is = index-of maps n ∙ (ap (λ x. unwrap_or x 0) there ∙ is)

  receive-words : AreReceiveWords (receive_queues i) (initial_settings i.plan) (λ p. 0)
      (λ k. slice_index words k)
  receive-words =
      let n = homes-count in
      record {
        masks = length-map i.plan.queues (λ (q : QueuePlan). q.mask) ∙ sym homes-count;
        counts =
            length-map i.plan.queues (λ (q : QueuePlan). rounded_up q.flows) ∙ sym homes-count;
        mask = λ p less.
            value-at p p _ _ refl (stand.receive (receive.Cpus p) (omega (arith, n)))
            (mask-of i.plan.queues p);
        flows = λ p less.
            value-at _ (count + p) _ _ (omega (arith, n))
            (stand.receive (receive.Flows p) (omega (arith, n))) (count-of i.plan.queues p);
        small = λ p less. small-counts i.plan p;
        sock =
            value-at _ (2 * count) _ _ (omega (arith, n)) (stand.receive receive.SocketSize tt)
            refl;
        online =
            value-at _ (2 * count + 1) _ _ (omega (arith, n)) (stand.receive receive.Online tt)
            refl;
      }

  transmit-words : AreTransmitWords (length i.plan.tx) (initial_settings i.plan)
      (λ k. slice_index maps k)
  transmit-words =
      record {
        many = refl;
        cpu_maps = length-map i.plan.tx (λ (t : TxPlan). t.cpus);
        queue_maps = length-map i.plan.tx (λ (t : TxPlan). t.queues);
        cpus = λ tx less.
            map-at tx _ _ (stand.transmit (transmit.Cpus tx) less) (cpus-of i.plan.tx tx);
        queues = λ tx less.
            map-at _ _ _ (stand.transmit (transmit.Queues tx) less) (queues-of i.plan.tx tx);
      }

pub plans_fit_boards : ((plan : Plan) → FirstValuesStand plan) → PlansFitBoards
plans_fit_boards stand =
    record {
      receives = λ i h lists start lanes outs. record {
        start = sym start;
        lane_count = refl;
        out_count = refl;
        limit = refl;
        room = refl;
        limited = refl;
        settings = receive-words i (stand i.plan);
        lanes = lanes;
        inboxes = outs;
      };
      transmits = λ i h lists start lanes port. record {
        start = sym start;
        lane_count = refl;
        out_count = refl;
        limit = refl;
        limited = refl;
        settings = transmit-words i (stand i.plan);
        lanes = lanes;
        port = port;
      };
    }

-- ---- what calls ask for

receive-count : (plan : Plan) → length (first_receive_settings plan)
    ≡ 2 * length (map (λ (q : QueuePlan). q.home) plan.queues) + 2
receive-count plan =
    let masks = length-map plan.queues (λ (q : QueuePlan). q.mask.0) in
    let counts = length-map plan.queues (λ (q : QueuePlan). rounded_up q.flows + 0 * 2 ^ 32) in
    let homes = length-map plan.queues (λ (q : QueuePlan). q.home) in
    let whole =
    length-append (map (λ (q : QueuePlan). q.mask.0) plan.queues)
    (map (λ (q : QueuePlan). rounded_up q.flows + 0 * 2 ^ 32) plan.queues
    ++ rounded_up plan.sock ∷ (first_cpus plan.cpus).0 ∷ []) in
    let rest =
    length-append (map (λ (q : QueuePlan). rounded_up q.flows + 0 * 2 ^ 32) plan.queues)
    (rounded_up plan.sock ∷ (first_cpus plan.cpus).0 ∷ []) in
    omega (arith, masks, counts, homes, whole, rest)

transmit-count : (plan : Plan) → length (first_transmit_settings plan) ≡ 2 * length plan.tx
transmit-count plan =
    let cpus = length-map plan.tx (λ (t : TxPlan). t.cpus.0) in
    let queues = length-map plan.tx (λ (t : TxPlan). t.queues) in
    let whole =
    length-append (map (λ (t : TxPlan). t.cpus.0) plan.tx)
    (map (λ (t : TxPlan). t.queues) plan.tx) in
    omega (arith, cpus, queues, whole)

pub boards_have_settings : BoardsHaveSettings
boards_have_settings plan packets cut s is =
    record {
      queues =
          ap (λ b. length b.settings) is.rx
          ∙ (receive-count plan ∙ ap (λ g. 2 * length g.homes + 2) (sym is.given));
      cpus = ap (λ b. b.lanes) is.rx ∙ ap (λ g. g.cpus) (sym is.given);
      apps = ap (λ b. b.outs) is.rx ∙ ap (λ g. g.apps) (sym is.given);
      maps = record {
        settings =
            ap (λ b. length b.settings) is.tx
            ∙ (transmit-count plan ∙ ap (λ g. 2 * g.txs) (sym is.given));
        lanes = ap (λ b. b.lanes) is.tx ∙ ap (λ g. g.txs) (sym is.given);
      };
      rooms = ap (λ b. b.room) is.rx ∙ ap (λ g. length g.packets) (sym is.given);
      reply_rooms = ap (λ b. b.room) is.tx ∙ ap (λ g. length g.packets) (sym is.given);
      words = is.words ∙ ap (λ g. word_count (length g.packets)) (sym is.given);
    }
