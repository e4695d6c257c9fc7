-- The history of a machine is regular, and each packet in it is in one place.
use Rattle.std.proofs.Common.{◌≤◌, ◌≡◌, map, length, ap, ◌∙◌, sym, subst}
use Rattle.steer_base.specs.Orders.{IsPrefix}
use Rattle.hop_model.specs.Hop.{choices_of, out_at, taken_of}
use Rattle.hop_model.specs.Sound.{Sound}
use Rattle.history.specs.Places.{AreInOnePlace, InboxesAreDelivered}
use Rattle.history.specs.Regular.{AreDelivered, AreMatched, AreQueued, AreReplies, AreShipped}
use Rattle.history.specs.Regular.{AreSteered, HaveArrived, Regular}
use Rattle.history.proofs.SamePlaces.{place-index}
use Rattle.steer_model.specs.State.Machine.{Machine, history_of}
use Rattle.steer_model.specs.State.Setup.{app_for}
use Rattle.steer_invariant.specs.StepInvariant.{StepInvariant}
use Rattle.steer_invariant.specs.RecordedLists.{IsRecorded}
use Rattle.steer_invariant.proofs.LaneLemmas.{accepted-apart, accepted-by, accepted-choice}
use Rattle.steer_invariant.proofs.LaneLemmas.{all-apart}
use Rattle.steer_invariant.proofs.LaneLemmas.{chosen-first, delivered-at, delivered-by}
use Rattle.steer_invariant.proofs.LaneLemmas.{fallen-choice}
use Rattle.steer_invariant.proofs.LaneLemmas.{lane-is, outs-apart}

matched-of : (m : Machine) → StepInvariant m → AreMatched m.setup.apps (history_of m)
matched-of m k =
    let r = k.rx.sizes in let t = k.tx.sizes in
    let w = k.rx.sound.wide in let v = k.tx.sound.wide in
    assumption (w.choices ∙ sym w.taken, v.choices ∙ t.apps)

arrived-of : (m : Machine) → StepInvariant m → HaveArrived m.setup.packets (history_of m)
arrived-of m k =
    let s = k.rx.sound in
    record {
      numbered = k.came.numbered;
      of_the_capture = k.came.of_the_capture;
      taken = λ q. subst (λ xs. taken_of m.rx q ≤ length xs) (k.came.own q) (s.hands.arrived q);
      chosen = λ q. subst (IsPrefix (map (λ c. c.id) (choices_of m.rx q))) (k.came.own q)
          (chosen-first m.rx s q);
      chosen_taken = s.hands.chosen;
    }

steered-of : (m : Machine) → Sound m.rx → AreSteered (history_of m)
steered-of m h =
    record {
      accepted = accepted-choice m.rx h;
      dropped = fallen-choice m.rx h;
      once = all-apart m.rx h;
    }

delivered-of : (m : Machine) → Sound m.rx → IsRecorded m
    → AreDelivered m.setup.packets m.setup.apps (history_of m)
delivered-of m h r =
    record {
      accepted = accepted-by m.rx h;
      own = λ a x is. (
          let at = place-index x (out_at m.rx.bare a) is in
          subst (λ y. app_for m.setup y ≡ a) at.2 (r.own a at.0 0 at.1));
      once = λ a i j l n e. (h.places.out_once a a i j l n e).1;
    }

replies-of : (m : Machine) → StepInvariant m → IsRecorded m → AreReplies m.setup.packets
    (history_of m)
replies-of m k r =
    record {
      sent = k.replied.first;
      queue = r.queues;
      chosen = λ a. subst (IsPrefix (map (λ c. c.id) (choices_of m.tx a))) (k.replied.came a)
          (chosen-first m.tx k.tx.sound a);
      class = r.weighed.class;
      want = r.weighed.want;
    }

shipped-of : (m : Machine) → StepInvariant m → AreShipped (history_of m)
shipped-of m k =
    let s = k.tx.sound in
    record {
      accepted = accepted-choice m.tx s;
      once = accepted-apart m.tx s;
      no_drops = λ t. ap (λ lane. lane.drops) (lane-is m.tx s t) ∙ k.tx.ample.none t;
      port = accepted-by m.tx s 0;
      port_once = λ i j l n e. (s.places.out_once 0 0 i j l n e).1;
    }

pub Regular-of : (m : Machine) → StepInvariant m → IsRecorded m
    → Regular m.setup.packets m.setup.apps (history_of m)
Regular-of m k r =
    record {
      matched = matched-of m k;
      arrived = arrived-of m k;
      steered = steered-of m k.rx.sound;
      delivered = delivered-of m k.rx.sound r;
      replies = replies-of m k r;
      shipped = shipped-of m k;
      answers = r.told;
    }

pub Queued-of : (m : Machine) → IsRecorded m → AreQueued m.setup.packets (history_of m)
Queued-of m r = r.routed

pub Delivered-of : (m : Machine) → Sound m.rx → InboxesAreDelivered (history_of m)
Delivered-of m h = delivered-at m.rx h

pub Places-of : (m : Machine) → Sound m.rx → AreInOnePlace (history_of m)
Places-of m h =
    record {
      lanes = all-apart m.rx h;
      inboxes = outs-apart m.rx h;
      delivered = delivered-by m.rx h;
    }
