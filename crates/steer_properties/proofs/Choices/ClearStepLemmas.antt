-- Every step keeps moves clear in both hops.
use Rattle.std.proofs.Common.{ℕ, ◌+◌, ◌≡◌, List, [], Some, length, max, ap, arith}
use Rattle.std.proofs.Common.{replicate}
use Rattle.hop_model.specs.Hop.{Fixed, HopState, choices_of, next_of}
use Rattle.hop_model.specs.Shape.{fresh_hop}
use Rattle.steer_base.specs.Choices.{desired_cpu}
use Rattle.steer_base.specs.declared.step.Step.{Step}
use Rattle.steer_model.specs.Steps.Applications.{everyone, in_reply, pick_for}
use Rattle.steer_model.specs.Good.Inputs.{Input}
use Rattle.steer_model.specs.Capture.FlowCounts.{flow_count}
use Rattle.steer_model.specs.State.Machine.{Machine}
use Rattle.steer_model.specs.State.Settings.{class_at, plain_lane}
use Rattle.steer_model.specs.State.Setup.{flow_number_of}
use Rattle.steer_model.specs.State.Start.{fresh_rx, fresh_tx, new_machine, initial_settings}
use Rattle.steer_model.specs.Steps.SingleSteps.{simple}
use Rattle.steer_invariant.specs.Invariant.{Invariant}
use Rattle.steer_invariant.specs.StepInvariant.{IsNamed}
use Rattle.steer_invariant.proofs.Invariant.EventPremiseLemmas.{asks_rx, asks_tx}
use Rattle.steer_properties.proofs.Choices.ClearLemmas.{ClearIn, clear-chose, clear-stays}
use Rattle.steer_properties.proofs.Histories.ExtendLemmas.{blank-at}
use Rattle.steer_properties.proofs.Histories.LastingLemmas.{Still}
use Rattle.steer_properties.proofs.Histories.StepKindLemmas.{walk}

pub record Clear (m : Machine) : Type 0 where
  pub rx : ClearIn m.rx
  pub tx : ClearIn m.tx

still-clear : (m n : Machine) → Still m n → Clear m → Clear n
still-clear m n s old =
    record {
      rx = clear-stays m.rx n.rx s.lasts.rx s.rx.choices old.rx;
      tx = clear-stays m.tx n.tx s.lasts.tx s.tx.choices old.tx;
    }

pub clear-simple : (m : Machine) (s : Step) → Invariant m → IsNamed m.setup s → Clear m
    → Clear (simple m s).0
clear-simple m s h named old =
    walk m h Clear s
    (record {
      quiet = λ n k. still-clear m n k.still old;
      arrive = λ few k. still-clear m _ k old;
      look = λ q in' inside more. record { rx = old.rx; tx = old.tx };
      weigh = λ q want in' is more l. (
          let k = h.kept in let z = k.rx.sizes in let w = k.rx.sound.wide in
          let may = (asks_rx m k).weigh q want in' in
          let x = next_of m.rx q in
          let class = class_at m.setup m.settings q x in
          record {
            rx = clear-chose m.rx q class want
                (desired_cpu class want m.settings.online (plain_lane m.setup m.settings q x))
                m.settings.online k.rx.sound may.drained (omega (arith, in', z.queues, w.choices))
                old.rx;
            tx = old.tx;
          });
      write = λ flow hash is some k. still-clear m _ k old;
      send = λ a x in' is k. still-clear m _ k old;
      tx_weigh = λ a in' more l. (
          let k = h.kept in let z = k.tx.sizes in let w = k.tx.sound.wide in
          let r = in_reply m a in
          let may = (asks_tx m k).weigh a r in' in
          record {
            rx = old.rx;
            tx = clear-chose m.tx a (Some (flow_number_of m.setup r.id)) (Some (pick_for m r))
                (pick_for m r) everyone k.tx.sound may.drained
                (omega (arith, in', z.apps, w.choices)) old.tx;
          });
      give = λ c is in' d. record {
        rx = clear-stays m.rx _ d.lasts.rx d.choices old.rx;
        tx = clear-stays m.tx _ d.lasts.tx d.tx.choices old.tx;
      };
    }) named

-- ---- a new machine

clear-fresh : (fixed : Fixed) (counts : List ℕ) (guests lanes outs : ℕ)
    → ClearIn (fresh_hop fixed counts guests lanes outs)
clear-fresh fixed counts guests lanes outs p j k class n less lt =
    let s : HopState = fresh_hop fixed counts guests lanes outs in
    let none : choices_of s p ≡ [] = blank-at (length counts) p [] in
    let long : length (choices_of s p) ≡ 0 = ap length none in
    absurd (omega (arith, lt, long))

pub clear-new_machine : (i : Input) → Clear (new_machine i.plan i.packets i.cut)
clear-new_machine i =
    record {
      rx = clear-fresh (fresh_rx i.plan i.packets).fixed (initial_settings i.plan).counts
          (length i.plan.apps + 1) i.plan.cpus (length i.plan.apps);
      tx = clear-fresh (fresh_tx i.plan i.packets).fixed
          (replicate (length i.plan.apps) (max 1 (flow_count i.packets))) 0 (length i.plan.tx) 1;
    }
