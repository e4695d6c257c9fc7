-- What the workers of a run that is over play: all its queues and all its applications.
use Rattle.std.proofs.Common.{max, Global, Vec}
use Rattle.workers.specs.Lists.{ArePairs}
use Rattle.workers.specs.GatheredHands.{HaveAll}
use Rattle.workers.proofs.Names.{◌≡◌, ℕ, ◌+◌, ◌-◌, ◌*◌, ◌<◌, Some, List, [], length, map, slice_get}
use Rattle.workers.proofs.Names.{slice_index_or, sym, ap, ◌∙◌, subst, arith, length-map}
use Rattle.workers.proofs.Names.{slice_get_within, IsPair, Journal, journal, BoardSizes, Plan}
use Rattle.workers.proofs.Names.{Input, Poller, Server, actor_at, IsPlayed, pollers_of, servers_of}
use Rattle.workers.proofs.Names.{Seated, Run, all_played, IsOver, dealt_items}
use Rattle.workers.proofs.PlayedLemmas.{all-at, all-count, all-dealt, all-taken, have-all}

some-same : {X : Type 0} {x y : X} → Some x ≡ Some y → x ≡ y
some-same e = cc

-- the number of an actor, by its worker and its place there
place : (about : BoardSizes) (workers number w k : ℕ) → 0 < workers
    → about.seats ≡ workers + 1 → number ≡ w → actor_at about number k ≡ w + workers * k
place about workers number w k some seats same =
    let step : max 1 (about.seats - 1) ≡ workers = omega (arith, some, seats) in
    ap (λ m. number + m * k) step ∙ ap (λ n. n + workers * k) same

module _ (i : Input) (plan : Plan) (same : i.plan ≡ plan) (s : Run) (over : IsOver i s) where
  abbrev crew : List Seated
  crew = s.crew.items

  abbrev queues : ℕ
  queues = length plan.queues

  abbrev apps : ℕ
  apps = length plan.apps

  queues-are : length i.plan.queues ≡ queues
  queues-are = ap (λ (p : Plan). length p.queues) same

  apps-are : length i.plan.apps ≡ apps
  apps-are = ap (λ (p : Plan). length p.apps) same

  polled : (q : ℕ) → q < queues → IsPlayed crew pollers_of q
  polled q less = let e = queues-are in over.back.work.pollers q (omega (arith, less, e))

  served : (a : ℕ) → a < apps → IsPlayed crew servers_of a
  served a less = let e = apps-are in over.back.work.servers a (omega (arith, less, e))

  polled-within : (w k : ℕ) (x : Seated) (p : Poller) → slice_get crew w ≡ Some x
      → slice_get (pollers_of x) k ≡ Some p → w + length crew * k < queues
  polled-within w k x p there is =
      let keeps = (over.back.work.work w x there).pollers k p is in
      let own = keeps.own
      ∙ place s.stage.rx.sizes (length crew) x.seats.rx.number w k over.back.work.some
      over.back.work.rx_count (over.back.work.rx_numbers w x there) in
      let low = keeps.within in
      let homes = ap (λ given. length given.homes) over.back.boards.given
      ∙ (length-map i.plan.queues (λ queue. queue.home) ∙ queues-are) in
      omega (arith, own, low, homes)

  served-within : (w k : ℕ) (x : Seated) (v : Server) → slice_get crew w ≡ Some x
      → slice_get (servers_of x) k ≡ Some v → w + length crew * k < apps
  served-within w k x v there is =
      let keeps = (over.back.work.work w x there).servers k v is in
      let own = keeps.own
      ∙ place s.stage.tx.sizes (length crew) x.seats.tx.number w k over.back.work.some
      over.back.work.tx_count (over.back.work.tx_numbers w x there) in
      let low = keeps.within in
      let outs = ap (λ sizes. sizes.outs) over.back.boards.rx ∙ apps-are in
      omega (arith, own, low, outs)

  all-polled : length (all_played crew pollers_of queues) ≡ queues
  all-polled = all-count crew pollers_of queues polled

  all-served : length (all_played crew servers_of apps) ≡ apps
  all-served = all-count crew servers_of apps served

  all-paired : ArePairs s.wire.wire (all_played crew pollers_of queues)
  all-paired =
      record {
        count = over.back.wire.count ∙ (queues-are ∙ sym all-polled);
        pair = λ q d p there.
            let size = all-polled in
            let e = queues-are in
            let within = slice_get_within (all_played crew pollers_of queues) q p there in
            let less : q < queues = omega (arith, within, size) in
            let played = polled q less in
            let is = sym (all-at crew pollers_of queues polled q less played) ∙ there in
            subst (λ (p : Poller). IsPair (slice_index_or s.wire.wire.rings.items q d) p.ring)
            (some-same is) (over.back.wire.paired q d (omega (arith, less, e)) played);
      }

  -- ---- the pollers taken back

  module _ (hands : List (Vec Poller Global))
      (are : hands ≡ map (λ (x : Seated). x.worker.pollers) crew) (count : ℕ)
      (is : count ≡ queues) where
    pub have-pollers : HaveAll hands count
    have-pollers =
        subst (HaveAll hands) (sym is)
        (have-all crew (λ x. x.worker.pollers) hands are queues over.back.work.some all-polled
        (all-dealt crew pollers_of queues polled over.back.work.some polled-within))

    module _ (items : List Poller) (taken : items ≡ dealt_items hands count) where
      pub pollers-are : items ≡ all_played crew pollers_of queues
      pollers-are =
          all-taken crew (λ x. x.worker.pollers) hands are count items queues taken is

      pub pollers-room : {Y : Type 0} (j : Journal Y) → j ≡ journal [] queues
          → j ≡ journal [] (length items)
      pollers-room j room = room ∙ ap (journal []) (sym (ap length pollers-are ∙ all-polled))

      pub pollers-paired : ArePairs s.wire.wire items
      pollers-paired = subst (ArePairs s.wire.wire) (sym pollers-are) all-paired

  -- ---- the applications taken back

  module _ (hands : List (Vec Server Global))
      (are : hands ≡ map (λ (x : Seated). x.worker.servers) crew) (count : ℕ)
      (is : count ≡ apps) where
    pub have-servers : HaveAll hands count
    have-servers =
        subst (HaveAll hands) (sym is)
        (have-all crew (λ x. x.worker.servers) hands are apps over.back.work.some all-served
        (all-dealt crew servers_of apps served over.back.work.some served-within))

    module _ (items : List Server) (taken : items ≡ dealt_items hands count) where
      pub servers-are : items ≡ all_played crew servers_of apps
      servers-are = all-taken crew (λ x. x.worker.servers) hands are count items apps taken is

      pub servers-room : {Y : Type 0} (j : Journal Y) → j ≡ journal [] apps
          → j ≡ journal [] (length items)
      servers-room j room = room ∙ ap (journal []) (sym (ap length servers-are ∙ all-served))
