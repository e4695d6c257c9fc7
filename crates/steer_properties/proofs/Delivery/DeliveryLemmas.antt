-- Every history of a plan delivers its flows in order and explains its drops.
use Rattle.std.proofs.Common.{ℕ, ◌≡◌, refl, ◌∙◌, sym, subst}
use Rattle.steer_base.specs.declared.step.Step.{Step}
use Rattle.backlog.specs.Offers.{AllExplained}
use Rattle.hop_model.specs.Hop.{Fixed}
use Rattle.history.specs.Lists.{lane_at}
use Rattle.history.specs.Regular.{Regular}
use Rattle.history.specs.declared.history.History.{History}
use Rattle.steer_model.specs.Good.Inputs.{Input, setup_in}
use Rattle.steer_model.specs.State.Machine.{Machine, history_of, history_lanes}
use Rattle.steer_model.specs.State.Setup.{Setup, packet_hash}
use Rattle.steer_model.specs.State.Start.{fresh_rx, new_machine, steps_of}
use Rattle.steer_model.specs.Steps.SingleSteps.{simple}
use Rattle.steer_model.specs.Steps.CompoundSteps.{after}
use Rattle.steer_properties.proofs.Delivery.HopDelivery.{Delivers}
use Rattle.steer_properties.specs.Delivery.DeliveryLaws.{DeliversInOrder, ReplaysDeliverInOrder}
use Rattle.steer_properties.specs.Delivery.DeliveryLaws.{RunsDeliverInOrder}
use Rattle.steer_invariant.specs.Invariant.{Invariant}
use Rattle.steer_invariant.specs.StepInvariant.{IsNamed}
use Rattle.steer_properties.proofs.Delivery.HistoryLemmas.{Orders, drop-causes, drop-counts}
use Rattle.steer_properties.proofs.Delivery.HistoryLemmas.{lane_in, orders}
use Rattle.steer_properties.proofs.Delivery.HistoryLemmas.{tx-places}
use Rattle.steer_properties.proofs.Delivery.StepLemmas.{delivers-new, delivers-simple}
use Rattle.steer_invariant.proofs.Invariant.StartLemmas.{held-new}
use Rattle.steer_invariant.proofs.Invariant.StepLemmas.{held-simple, named-in, plan_steps_within}
use Rattle.steer_invariant.proofs.StepInvariant.StepLemmas.{flow_small}
use Rattle.steer_invariant.proofs.StepInvariant.SingleStepLemmas.{goes-simple}
use Rattle.steer_invariant.proofs.NamedLiftLemmas.{after-keeps}
use Rattle.steer_invariant.proofs.RegularLemmas.{Places-of, Regular-of}

-- a machine of this setup that is held and delivers in order
record Delivering (p : Setup) (f : Fixed) (m : Machine) : Type 0 where
  setup : m.setup ≡ p
  held : Invariant m
  delivers : Delivers f m

delivering-simple : (p : Setup) (f : Fixed) (m : Machine) (s : Step) → IsNamed p s
    → Delivering p f m → Delivering p f (simple m s).0
delivering-simple p f m s named d =
    let here : IsNamed m.setup s = subst (λ (q : Setup). IsNamed q s) (sym d.setup) named in
    let h = d.held in
    record {
      setup = (goes-simple m h.kept s here).setup ∙ d.setup;
      held = held-simple m s here h;
      delivers = delivers-simple f m h d.delivers s here;
    }

-- what the history says of the setup
record Said (p : Setup) (h : History) : Type 0 where
  regular : Regular p.packets p.apps h
  orders : Orders p h

said : (f : Fixed) (m : Machine) (p : Setup) → Delivering p f m → Said p (history_of m)
said f m p d =
    let h = d.held in
    subst (λ (q : Setup). Said q (history_of m)) d.setup
    (record { regular = Regular-of m h.kept h.recorded; orders = orders f m h d.delivers })

history-is : (i : Input) (m : Machine) → Delivering (setup_in i) (fresh_rx i.plan i.packets).fixed m
    → DeliversInOrder i (history_of m)
history-is i m d =
    let f : Fixed = (fresh_rx i.plan i.packets).fixed in
    let h = d.held in let k = h.kept in
    let w = said f m (setup_in i) d in let o = w.orders in
    let start : ℕ = m.rx.fixed.start in
    record {
      steered = assumption (Places-of m k.rx.sound);
      drops = record {
        causes = λ c.
            subst
            (λ (q : Setup). AllExplained (packet_hash q)
            (lane_in f start c (lane_at (history_lanes m.rx.bare) c)))
            d.setup (drop-causes f m h d.delivers start c);
        counts = drop-counts f m h d.delivers;
      };
      places = tx-places f m h d.delivers;
      leave = record { order = o.port; end_to_end = o.through };
    }

pub runs_deliver : RunsDeliverInOrder
runs_deliver i ss may named =
    let p : Setup = setup_in i in
    let f : Fixed = (fresh_rx i.plan i.packets).fixed in
    let m : Machine = new_machine i.plan i.packets i.cut in
    let held : Invariant m = held-new i.plan i.packets i.cut may in
    let d : Delivering p f m =
    record { setup = refl; held = held; delivers = delivers-new i.plan i.packets i.cut } in
    let k = held.kept in
    history-is i (after ss m)
    (after-keeps p (Delivering p f) (λ n w. w.setup) (λ x. flow_small p x k.given)
    (delivering-simple p f) ss m
    (named-in i.plan i.packets i.cut ss named) d)

pub replays_deliver : ReplaysDeliverInOrder
replays_deliver i may =
    runs_deliver i (steps_of i.plan) may (plan_steps_within i.plan)
