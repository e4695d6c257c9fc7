-- The history of a machine at rest is swept, and so is that of each plan after a sweep.
use Rattle.std.proofs.Common.{ℕ, ◌+◌, ◌<◌, ◌≡◌, ◌⊎◌, Bool, true, List, [], ◌∷◌, ◌++◌, Option, Some}
use Rattle.std.proofs.Common.{length, map, refl, ap, ◌∙◌, sym, subst, arith, inl, inr, get_or}
use Rattle.std.specs.List.{All, AllPass, Contains, cons_option, filter_map, range_with_len}
use Rattle.std.proofs.Math.ListN.{length-map}
use Rattle.std.proofs.lemmas.Bool.{eq-eqb, le-ltb}
use Rattle.std.proofs.lemmas.List.{get_or-map, get_or_append_left, get_or_default, length-append}
use Rattle.std.proofs.lemmas.List.Elements.{filter_map-append}
use Rattle.steer_base.specs.declared.packet.Packet.{Packet}
use Rattle.steer_base.specs.declared.step.Step.{Step}
use Rattle.steer_base.specs.declared.step.Step.TheVariants as act
use Rattle.hop_model.specs.Events.{IsEmptied}
use Rattle.hop_model.specs.Hop.{HopState, fell_at, out_at}
use Rattle.hop_model.specs.Sound.{Sound}
use Rattle.history.specs.Finding.{is_in}
use Rattle.history.specs.Lists.{no_arrival, no_lane}
use Rattle.history.proofs.FoundAgain.Arrivals.{arrival-id}
use Rattle.history.proofs.BoundLemmas.{in-index}
use Rattle.history.proofs.SamePlaces.{place-index}
use Rattle.plan_reader.specs.Plans.{count_of, nth_of, sizes_of}
use Rattle.plan_reader.specs.Ranges.{step_is_within}
use Rattle.plan_reader.specs.declared.plan.Plan.{Plan}
use Rattle.plan_reader.specs.declared.plan.Steps.{Steps}
use Rattle.plan_reader.specs.declared.plan.Steps.TheVariants as steps
use Rattle.plan_reader.specs.declared.settings.sizes.Sizes.{Sizes}
use Rattle.steer_model.specs.Steps.Applications.{sent_of}
use Rattle.steer_model.specs.Good.Deliveries.{IsDone, IsSwept}
use Rattle.steer_model.specs.State.Machine.{Machine, history_of, lane_list, history_lanes}
use Rattle.steer_model.specs.State.Start.{new_machine, steps_of}
use Rattle.steer_model.specs.Steps.CompoundSteps.{after, step}
use Rattle.steer_invariant.specs.InvariantLaws.{MayStart}
use Rattle.steer_invariant.specs.StepInvariant.{StepInvariant}
use Rattle.steer_properties.specs.Sweep.Rest.{AtRest}
use Rattle.steer_properties.specs.Sweep.SweepLaws.{RestIsSwept, SeededReplaysAreSwept, SweepSweeps}
use Rattle.steer_properties.specs.Sweep.SweepLaws.{SweptRunsAreSwept}
use Rattle.steer_invariant.proofs.Invariant.StepLemmas.{plan_steps_within, runs_are_held}
use Rattle.steer_invariant.proofs.StepInvariant.ArrivalLemmas.{range-more}
use Rattle.steer_invariant.proofs.StepInvariant.StepLemmas.{step_keeps_kept}
use Rattle.steer_invariant.proofs.LaneLemmas.{fallen-is, lane-is, lists-long}
use Rattle.steer_invariant.proofs.PrefixLemmas.{prefix-all}
use Rattle.steer_properties.proofs.Sweep.SweepLemmas.{sweep_ends_at_rest}
use Rattle.steer_properties.proofs.Sweep.ThroughLemmas.{full-below, place-of, ported}
use Rattle.steer_properties.proofs.Sweep.ThroughLemmas.{rest_is_through}

-- ---- lanes

-- a lane whose packets are all retired is done
lane-done : (s : HopState) (c : ℕ) → Sound s → IsEmptied s.bare c → IsDone (lane_list s.bare c)
lane-done s c h dry =
    let a = h.counts.retired_first c in
    let b = h.counts.delivered_first c in
    let d = h.counts.pulled_first c in
    record {
      pulled = omega (arith, dry, a, b, d);
      delivered = omega (arith, dry, a, b, d);
      retired = dry;
    }

lanes-done : (s : HopState) → Sound s → ((c : ℕ) → c < length s.bare.accepted → IsEmptied s.bare c)
    → All IsDone (history_lanes s.bare)
lanes-done s h empty c d lt =
    let below : c < length s.bare.accepted = (let n = lists-long s h in omega (arith, lt, n)) in
    subst IsDone (sym (get_or_default (history_lanes s.bare) c d no_lane lt ∙ lane-is s h c))
    (lane-done s c h (empty c below))

-- ---- what is in a list

is-in : (xs : List ℕ) (x : ℕ) → Contains xs x → is_in x xs ≡ true
is-in xs x c =
    let w = place-of xs x c in ap (λ y. is_in y xs) (sym w.2) ∙ in-index xs w.0 w.1

-- ---- the machine

module _ (m : Machine) (k : StepInvariant m) (r : AtRest m) where
  -- an arrival is a packet of the capture
  arrival-below : (x : ℕ) → is_in x (map (λ a. a.id) m.arrivals) ≡ true → x < length m.setup.packets
  arrival-below x in' =
      let at = place-index x (map (λ a. a.id) m.arrivals) in' in
      let long = length-map m.arrivals (λ a. a.id) in
      let lt : at.0 < length m.arrivals = (let b = at.1 in omega (arith, b, long)) in
      let id = arrival-id 0 at.0 m.arrivals k.came.numbered lt in
      let same : get_or
      (map (λ a. a.id) m.arrivals) at.0 0 ≡ (get_or m.arrivals at.0 no_arrival).id =
      get_or-map (λ a. a.id) m.arrivals at.0 no_arrival 0 lt in
      let is = at.2 in let few = k.came.of_the_capture in omega (arith, lt, id, same, is, few)

  -- where a packet of the capture ended
  ended : (x : ℕ) → x < length m.setup.packets
      → ((a : ℕ) × (is_in x (out_at m.rx.bare a) ≡ true))
      ⊎ ((c : ℕ) × (is_in x (fell_at m.rx.bare c) ≡ true))
  ended x lt =
      elim (rest_is_through m k r x lt) [
        | inl fell ↦ inr (fell.0, is-in (fell_at m.rx.bare fell.0) x fell.1)
        | inr both ↦ (let w = both.0 in inl (w.0, is-in (out_at m.rx.bare w.0) x w.1))
      ]

  -- an inbox is all replied to
  replied-all : (a i : ℕ) → i < length (out_at m.rx.bare a)
      → map (λ s. s.id) (sent_of m a) ≡ out_at m.rx.bare a
  replied-all a i lt =
      let z = k.rx.sizes in
      let app = full-below m.rx.bare.outs a i lt in
      let begun = (r.senders a (omega (arith, app, z.apps))).begun in
      let long = length-map (sent_of m a) (λ s. s.id) in
      prefix-all (map (λ s. s.id) (sent_of m a)) (out_at m.rx.bare a) (k.replied.first a)
      (omega (arith, begun, long))

  pub rest-is-swept : IsSwept (history_of m)
  rest-is-swept =
      let h = k.rx.sound in
      record {
        ended = λ x arrived. (
            elim (ended x (arrival-below x arrived)) [
              | inl inbox ↦ inl inbox
              | inr fell ↦ inr (fell.0, ap (is_in x) (fallen-is m.rx h fell.0) ∙ fell.1)
            ]);
        lanes = lanes-done m.rx h (λ c lt. (let z = k.rx.sizes in
            r.cpus c (omega (arith, lt, z.cpus))));
        tx_lanes = lanes-done m.tx k.tx.sound (λ t lt. (let z = k.tx.sizes in
            r.txs t (omega (arith, lt, z.txs))));
        sent = λ a x in'. (
            let at = place-index x (out_at m.rx.bare a) in' in
            ap (is_in x) (replied-all a at.0 at.1) ∙ in');
        shipped = λ a x in'. (
            let at = place-index x (out_at m.rx.bare a) in' in
            is-in (out_at m.tx.bare 0) x (ported m a at.0 x k r at.1 at.2));
      }

pub rest_is_swept : RestIsSwept
rest_is_swept m k r = rest-is-swept m k r

pub sweep_sweeps : SweepSweeps
sweep_sweeps m k =
    rest-is-swept (step m act.Sweep).0 (step_keeps_kept m act.Sweep refl k) (sweep_ends_at_rest m k)

-- ---- plans

after-push : (ss : List Step) (s : Step) (m : Machine)
    → after (ss ++ s ∷ []) m ≡ (step (after ss m) s).0
after-push [] s m = refl
after-push (x ∷ ss) s m = after-push ss s (step m x).0

pub swept_runs_are_swept : SweptRunsAreSwept
swept_runs_are_swept plan packets cut ss may named =
    let m : Machine = new_machine plan packets cut in
    let h = runs_are_held plan packets cut ss may named in
    subst (λ (n : Machine). IsSwept (history_of n)) (sym (after-push ss act.Sweep m))
    (sweep_sweeps (after ss m) h.kept)

-- the steps of a seed end with a sweep
seeded-steps : (sizes : Sizes) (seed count : ℕ)
    → filter_map (nth_of sizes (steps.Seed seed count)) (range_with_len 0 (count + 1))
    ≡ filter_map (nth_of sizes (steps.Seed seed count)) (range_with_len 0 count) ++ act.Sweep ∷ []
seeded-steps sizes seed count =
    let nth : ℕ → Option Step = nth_of sizes (steps.Seed seed count) in
    let last : nth count ≡ Some act.Sweep =
    rw (le-ltb count count (omega arith), eq-eqb count count refl) refl in
    ap (filter_map nth) (range-more 0 count count (omega arith))
    ∙ filter_map-append nth (range_with_len 0 count) (count ∷ [])
    ∙ ap (λ (o : Option Step). filter_map nth (range_with_len 0 count) ++ cons_option o []) last

front-passes : (test : Step → Bool) (xs ys : List Step) → AllPass test (xs ++ ys) → AllPass test xs
front-passes test xs ys all i d lt =
    let long = length-append xs ys in
    ap test (sym (get_or_append_left xs ys d i lt)) ∙ all i d (omega (arith, lt, long))

swept-by : (plan : Plan) (packets : List Packet) (cut : Option ℕ) (all front : List Step)
    → MayStart plan packets → all ≡ front ++ act.Sweep ∷ []
    → AllPass (step_is_within (sizes_of plan)) all
    → IsSwept (history_of (after all (new_machine plan packets cut)))
swept-by plan packets cut all front may is named =
    subst (λ (ss : List Step). IsSwept (history_of (after ss (new_machine plan packets cut))))
    (sym is)
    (swept_runs_are_swept plan packets cut front may
    (front-passes (step_is_within (sizes_of plan)) front (act.Sweep ∷ [])
    (subst (λ (ss : List Step). AllPass (step_is_within (sizes_of plan)) ss) is named)))

pub seeded_replays_are_swept : SeededReplaysAreSwept
seeded_replays_are_swept plan packets cut seed count may is =
    let z : Sizes = sizes_of plan in
    let list : Steps → List Step =
    λ ss. filter_map (nth_of z ss) (range_with_len 0 (count_of ss)) in
    let front : List Step =
    filter_map (nth_of z (steps.Seed seed count)) (range_with_len 0 count) in
    let all : steps_of plan ≡ front ++ act.Sweep ∷ [] = ap list is ∙ seeded-steps z seed count in
    swept-by plan packets cut (steps_of plan) front may all (plan_steps_within plan)
