-- A machine that is held may ask its hops for the events of its steps, and what an expiry reads is
-- there.
use Rattle.std.proofs.Common.{ℕ, ◌+◌, ◌<◌, ◌≡◌, List, length, ap, ◌∙◌, arith}
use Rattle.hop_model.specs.declared.event.HopEvent.TheVariants as event
use Rattle.hop_core.proofs.Sizes.{Sizes-happens}
use Rattle.steer_model.specs.State.Machine.{Machine}
use Rattle.steer_invariant.specs.EventPremises.{AsksRx, AsksTx}
use Rattle.steer_invariant.specs.InvariantLaws.{RxPremisesHold, TxPremisesHold, FiltersAreSeated}
use Rattle.steer_invariant.specs.StepInvariant.{StepInvariant}
use Rattle.steer_invariant.proofs.StepInvariant.ArrivalLemmas.{may_arrive, next_queue}
use Rattle.steer_invariant.proofs.StepInvariant.FlowCountLemmas.{may_flows}
use Rattle.steer_invariant.proofs.StepInvariant.PollerLemmas.{may_deliver}
use Rattle.steer_invariant.proofs.StepInvariant.RecordLemmas.{guest_below}
use Rattle.steer_invariant.proofs.StepInvariant.ReplyLemmas.{may_send, may_tdeliver, may_tweigh}
use Rattle.steer_invariant.proofs.StepInvariant.WeighLemmas.{may_weigh}

pub asks_rx : (m : Machine) → StepInvariant m → AsksRx m
asks_rx m k =
    let z = k.rx.sizes in
    record {
      arrive = λ few. may_arrive m _ (next_queue m k) few k;
      take = λ q lt. omega (arith, lt, z.queues);
      enter = λ q lt. omega (arith, lt, z.visits);
      weigh = λ q want lt. may_weigh m q want lt k;
      put = λ q hash lt. omega (arith, lt, z.queues);
      leave = λ q lt. omega (arith, lt, z.visits);
      pull = λ c lt. omega (arith, lt, z.cpus);
      deliver = λ c x lt. may_deliver m c x lt k;
      retire = λ c lt. omega (arith, lt, z.cpus);
      visit = λ a lt. (
          let g : ℕ = length m.setup.homes + a in
          let same = Sizes-happens m.rx (event.Enter g) in
          let in' = guest_below m a lt k in
          (in', (omega (arith, in', same.actors), tt)));
      flows = λ q count lt within done. may_flows m q count lt within done k;
    }

pub asks_tx : (m : Machine) → StepInvariant m → AsksTx m
asks_tx m k =
    let z = k.tx.sizes in
    record {
      send = λ a x lt next. (
          let same = Sizes-happens m.tx (event.Arrive a x) in
          (may_send m a x lt next k, (omega (arith, lt, z.apps, same.producers), tt)));
      enter = λ a lt. omega (arith, lt, z.visits);
      weigh = λ a reply lt. may_tweigh m a reply lt k;
      put = λ a hash lt. omega (arith, lt, z.apps);
      leave = λ a lt. omega (arith, lt, z.visits);
      pull = λ t lt. omega (arith, lt, z.txs);
      deliver = λ t lt. may_tdeliver m t lt k;
      retire = λ t lt. omega (arith, lt, z.txs);
    }

pub held_asks_rx : RxPremisesHold
held_asks_rx m h = asks_rx m h.kept

pub held_asks_tx : TxPremisesHold
held_asks_tx m h = asks_tx m h.kept

pub held_is_seated : FiltersAreSeated
held_is_seated m h i filter is =
    let k = h.kept in let z = k.rx.sizes in let w = k.rx.sound.wide in
    let cpu = h.ranged.set i filter is in
    let queue = k.routes.set i filter is in
    let many : length m.settings.counts ≡ length m.setup.homes =
    ap (λ (l : List ℕ). length l) k.by.counts ∙ w.counts ∙ z.queues in
    let there : filter.queue < length m.settings.counts = omega (arith, queue, many) in
    record {
      processor = omega (arith, cpu, z.cpus);
      queue = there;
      flows = h.ranged.flows filter.queue 0 there;
    }
