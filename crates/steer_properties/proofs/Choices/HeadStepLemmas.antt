-- Every step keeps the heads of both hops rising.
use Rattle.std.proofs.Common.{ℕ, ◌+◌, ◌≡◌, List, [], Some, length, max, sym, subst, arith}
use Rattle.std.proofs.Common.{replicate}
use Rattle.hop_model.specs.Hop.{Fixed, HopState, choices_of}
use Rattle.hop_model.specs.Shape.{fresh_hop}
use Rattle.steer_base.specs.declared.choice.Chosen.{Chosen}
use Rattle.steer_base.specs.declared.step.Step.{Step}
use Rattle.steer_model.specs.Steps.Applications.{everyone, in_reply, pick_for}
use Rattle.steer_model.specs.Good.Choices.{HeadsRise}
use Rattle.steer_model.specs.Good.Inputs.{Input}
use Rattle.steer_model.specs.Capture.FlowCounts.{flow_count}
use Rattle.steer_model.specs.State.Machine.{Machine, history_lanes}
use Rattle.steer_model.specs.State.Setup.{flow_number_of}
use Rattle.steer_model.specs.State.Start.{fresh_rx, fresh_tx, new_machine, initial_settings}
use Rattle.steer_model.specs.Steps.SingleSteps.{simple}
use Rattle.steer_invariant.specs.Invariant.{Invariant}
use Rattle.steer_invariant.specs.StepInvariant.{IsNamed}
use Rattle.steer_properties.proofs.Histories.ExtendLemmas.{blank-at}
use Rattle.steer_properties.proofs.Choices.HeadLemmas.{HeadsIn, heads-chose, heads-stay}
use Rattle.steer_properties.proofs.Histories.LastingLemmas.{Still}
use Rattle.steer_properties.proofs.Histories.StepKindLemmas.{walk}

pub record Heads (m : Machine) : Type 0 where
  pub rx : HeadsIn m.rx
  pub tx : HeadsIn m.tx

still-heads : (m n : Machine) → Invariant m → Invariant n → Still m n → Heads m → Heads n
still-heads m n h g s old =
    let k = h.kept in let l = g.kept in
    record {
      rx = heads-stay m.rx n.rx k.rx.sound l.rx.sound s.lasts.rx s.rx.choices old.rx;
      tx = heads-stay m.tx n.tx k.tx.sound l.tx.sound s.lasts.tx s.tx.choices old.tx;
    }

pub heads-simple : (m : Machine) (s : Step) → Invariant m → Invariant (simple m s).0
    → IsNamed m.setup s → Heads m → Heads (simple m s).0
heads-simple m s h g named old =
    walk m h (λ n. Invariant n → Heads n) s
    (record {
      quiet = λ n k g. still-heads m n h g k.still old;
      arrive = λ few k g. still-heads m _ h g k old;
      look = λ q in' inside more g. record { rx = old.rx; tx = old.tx };
      weigh = λ q want in' is more l g. (
          let k = h.kept in let z = k.rx.sizes in let w = k.rx.sound.wide in
          record {
            rx = heads-chose m.rx q _ want _ m.settings.online k.rx.sound
                (omega (arith, in', z.queues, w.choices)) old.rx;
            tx = old.tx;
          });
      write = λ flow hash is some k g. still-heads m _ h g k old;
      send = λ a x in' is k g. still-heads m _ h g k old;
      tx_weigh = λ a in' more l g. (
          let k = h.kept in let z = k.tx.sizes in let w = k.tx.sound.wide in
          let r = in_reply m a in
          record {
            rx = old.rx;
            tx = heads-chose m.tx a (Some (flow_number_of m.setup r.id)) (Some (pick_for m r))
                (pick_for m r) everyone k.tx.sound (omega (arith, in', z.apps, w.choices)) old.tx;
          });
      give = λ c is in' d g. (
          let k = h.kept in let l = g.kept in
          record {
            rx = heads-stay m.rx _ k.rx.sound l.rx.sound d.lasts.rx d.choices old.rx;
            tx = heads-stay m.tx _ k.tx.sound l.tx.sound d.lasts.tx d.tx.choices old.tx;
          });
    }) named g

-- ---- a new machine

-- a hop in which nothing has happened made no choice
heads-fresh : (fixed : Fixed) (counts : List ℕ) (guests lanes outs : ℕ)
    → HeadsIn (fresh_hop fixed counts guests lanes outs)
heads-fresh fixed counts guests lanes outs p =
    let s : HopState = fresh_hop fixed counts guests lanes outs in
    let none : choices_of s p ≡ [] = blank-at (length counts) p [] in
    subst (λ (cs : List Chosen). HeadsRise fixed.start (history_lanes s.bare) cs) (sym none)
    (record {
      within = λ k seen lane lt. absurd (omega (arith, lt));
      rise = λ j k earlier seen lane less lt. absurd (omega (arith, lt));
    })

pub heads-new : (i : Input) → Heads (new_machine i.plan i.packets i.cut)
heads-new i =
    record {
      rx = heads-fresh (fresh_rx i.plan i.packets).fixed (initial_settings i.plan).counts
          (length i.plan.apps + 1) i.plan.cpus (length i.plan.apps);
      tx = heads-fresh (fresh_tx i.plan i.packets).fixed
          (replicate (length i.plan.apps) (max 1 (flow_count i.packets))) 0 (length i.plan.tx) 1;
    }
