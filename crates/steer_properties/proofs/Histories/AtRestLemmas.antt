-- The history of a machine at rest meets all clauses of a good history that its steps allow.
use Rattle.std.proofs.Common.{ℕ, ◌+◌, ◌≡◌, Bool, true, List, [], ◌∷◌, ◌++◌, Option, Some}
use Rattle.std.proofs.Common.{length, map, take, refl}
use Rattle.std.proofs.Common.{ap, ◌∙◌, sym, subst, arith, inl, inr}
use Rattle.std.specs.Prelude.{slice_index}
use Rattle.std.specs.List.{AllPass, cons_option, filter_map, range_with_len}
use Rattle.std.proofs.Math.ListN.{get_or-eq_default, length-map}
use Rattle.std.proofs.Math.Seq.{take-append_seam}
use Rattle.std.proofs.lemmas.Bool.{cases_lt, eq-eqb, le-ltb}
use Rattle.std.proofs.lemmas.List.{get_or_append_left, length-append}
use Rattle.std.proofs.lemmas.List.Elements.{All-push, filter_map-append}
use Rattle.history.specs.Lists.{arrivals_at, list_at}
use Rattle.hop_model.specs.Hop.{choices_of, taken_of}
use Rattle.plan_reader.specs.Plans.{count_of, nth_of, sizes_of}
use Rattle.plan_reader.specs.Ranges.{step_is_within}
use Rattle.plan_reader.specs.declared.plan.Plan.{Plan}
use Rattle.plan_reader.specs.declared.plan.Steps.{Steps}
use Rattle.plan_reader.specs.declared.plan.Steps.TheVariants as steps
use Rattle.plan_reader.specs.declared.settings.sizes.Sizes.{Sizes}
use Rattle.steer_base.specs.Orders.{IsPrefix}
use Rattle.steer_base.specs.declared.step.Step.{Step}
use Rattle.steer_base.specs.declared.step.Step.TheVariants as act
use Rattle.steer_model.specs.Good.Arrivals.{HasArrived}
use Rattle.steer_model.specs.Good.Inputs.{Input}
use Rattle.steer_model.specs.State.Machine.{Machine, history_of}
use Rattle.steer_model.specs.State.Start.{new_machine, steps_of}
use Rattle.steer_model.specs.Steps.CompoundSteps.{after, step}
use Rattle.steer_properties.specs.Delivery.DeliveryLaws.{DeliversInOrder}
use Rattle.steer_invariant.specs.InvariantLaws.{MayStart}
use Rattle.steer_invariant.specs.StepInvariant.{StepInvariant}
use Rattle.steer_properties.specs.Sweep.Rest.{AtRest}
use Rattle.steer_properties.proofs.Delivery.DeliveryLemmas.{runs_deliver}
use Rattle.steer_invariant.proofs.Invariant.StepLemmas.{plan_steps_within, runs_are_held}
use Rattle.steer_invariant.proofs.StepInvariant.ArrivalLemmas.{range-more}
use Rattle.steer_invariant.proofs.LaneLemmas.{chosen-first}
use Rattle.steer_properties.proofs.Sweep.SweptHistoryLemmas.{rest_is_swept}
use Rattle.steer_properties.proofs.Sweep.SweepLemmas.{sweep_ends_at_rest}
use Rattle.steer_properties.specs.Histories.GoodAtRest.{GoodAtRest, SeededReplaysAreGood}
use Rattle.steer_properties.specs.Histories.GoodAtRest.{SweptRunsAreGood}
use Rattle.steer_properties.proofs.Histories.HistoryInvariant.{HistoryInvariant, explained-after}
use Rattle.steer_properties.proofs.Histories.HistoryInvariant.{good-so-far, of-its-input}

-- ---- every packet arrived

has-arrived : (i : Input) (m : Machine) → HistoryInvariant i m → AtRest m → HasArrived i
    (history_of m)
has-arrived i m e r =
    let w = of-its-input i m e in let h = e.held in let k = h.kept in
    assumption (k.came.numbered ∙ ap (range_with_len 0) (r.arrived ∙ w.total))

-- ---- every taken packet has a choice

prefix-take : (xs ys : List ℕ) (n : ℕ) → IsPrefix xs ys → n ≡ length xs → take n ys ≡ xs
prefix-take xs ys n p e =
    (λ i. take (e i) ys) ∙ ap (take (length xs)) (sym p.1) ∙ take-append_seam xs p.0

module _ (m : Machine) (k : StepInvariant m) (r : AtRest m) where
  all-weighed : (q : ℕ) → taken_of m.rx q ≡ length (choices_of m.rx q)
  all-weighed q =
      let h = k.rx.sound.hands in let w = k.rx.sound.wide in let z = k.rx.sizes in
      let a = h.arrived q in let b = h.chosen q in let c = h.put q in
      elim (cases_lt q (length m.setup.homes)) [
        | inl lt ↦ (let put = (r.pollers q lt).put in omega (arith, a, b, c, put))
        | inr le ↦ (
            let none : taken_of m.rx q ≡ 0 =
            get_or-eq_default m.rx.taken 0 (omega (arith, le, w.taken, z.queues)) in
            omega (arith, b, none))
      ]

  all-chosen : (q : ℕ)
      → map (λ c. c.id) (list_at m.rx.choices q)
      ≡ take (slice_index m.rx.taken q) (arrivals_at m.arrivals q)
  all-chosen q =
      let ids : List ℕ = map (λ c. c.id) (choices_of m.rx q) in
      let long : length ids ≡ length (choices_of m.rx q) =
      length-map (choices_of m.rx q) (λ c. c.id) in
      sym
      (prefix-take ids (arrivals_at m.arrivals q) (taken_of m.rx q)
      (subst (IsPrefix ids) (k.came.own q) (chosen-first m.rx k.rx.sound q))
      (all-weighed q ∙ sym long))

-- ---- all of it

good-at-rest : (i : Input) (m : Machine) → HistoryInvariant i m → DeliversInOrder i (history_of m)
    → AtRest m → GoodAtRest i (history_of m)
good-at-rest i m e d r =
    let h = e.held in let k = h.kept in
    let g = good-so-far i m e d in
    record {
      at = g.at;
      tx_at = g.tx_at;
      arrived = has-arrived i m e r;
      queues = g.queues;
      choices = record { all = all-chosen m k r; by_rule = g.choices };
      wants = g.wants;
      heads = g.heads;
      drops = g.drops;
      steered = g.steered;
      swept = rest_is_swept m k r;
      writes = g.writes;
      commands = g.commands;
      replies = g.replies;
    }

-- ---- plans

after-push : (ss : List Step) (s : Step) (m : Machine)
    → after (ss ++ s ∷ []) m ≡ (step (after ss m) s).0
after-push [] s m = refl
after-push (x ∷ ss) s m = after-push ss s (step m x).0

-- steps that end with a sweep
swept-good : (i : Input) (all front : List Step) → MayStart i.plan i.packets
    → all ≡ front ++ act.Sweep ∷ [] → AllPass (step_is_within (sizes_of i.plan)) all
    → AllPass (step_is_within (sizes_of i.plan)) front
    → GoodAtRest i (history_of (after all (new_machine i.plan i.packets i.cut)))
swept-good i all front may is named before =
    let m : Machine = new_machine i.plan i.packets i.cut in
    let h = runs_are_held i.plan i.packets i.cut front may before in
    let e : HistoryInvariant i (after all m) = explained-after i all may named in
    let end : (step (after front m) act.Sweep).0 ≡ after all m =
    sym (ap (λ (ss : List Step). after ss m) is ∙ after-push front act.Sweep m) in
    good-at-rest i (after all m) e (runs_deliver i all may named)
    (subst AtRest end (sweep_ends_at_rest (after front m) h.kept))

front-passes : (test : Step → Bool) (xs ys : List Step) → AllPass test (xs ++ ys) → AllPass test xs
front-passes test xs ys all i d lt =
    let long = length-append xs ys in
    ap test (sym (get_or_append_left xs ys d i lt)) ∙ all i d (omega (arith, lt, long))

-- the steps of a seed end with a sweep
seeded-steps : (sizes : Sizes) (seed count : ℕ)
    → filter_map (nth_of sizes (steps.Seed seed count)) (range_with_len 0 (count + 1))
    ≡ filter_map (nth_of sizes (steps.Seed seed count)) (range_with_len 0 count) ++ act.Sweep ∷ []
seeded-steps sizes seed count =
    let nth : ℕ → Option Step = nth_of sizes (steps.Seed seed count) in
    let last : nth count ≡ Some act.Sweep =
    rw (le-ltb count count (omega arith), eq-eqb count count refl) refl in
    ap (filter_map nth) (range-more 0 count count (omega arith))
    ∙ filter_map-append nth (range_with_len 0 count) (count ∷ [])
    ∙ ap (λ (o : Option Step). filter_map nth (range_with_len 0 count) ++ cons_option o []) last

seeded-front : (plan : Plan) (seed count : ℕ) → plan.steps ≡ steps.Seed seed count
    → (front : List Step) × (steps_of plan ≡ front ++ act.Sweep ∷ [])
seeded-front plan seed count is =
    let z : Sizes = sizes_of plan in
    let list : Steps → List Step =
    λ ss. filter_map (nth_of z ss) (range_with_len 0 (count_of ss)) in (
      filter_map (nth_of z (steps.Seed seed count)) (range_with_len 0 count),
      ap list is ∙ seeded-steps z seed count,
    )

push-passes : (test : Step → Bool) (ss : List Step) (s : Step) → AllPass test ss → test s ≡ true
    → AllPass test (ss ++ s ∷ [])
push-passes test ss s all one = All-push (λ x. test x ≡ true) ss s all one

pub swept_runs_are_good : SweptRunsAreGood
swept_runs_are_good i ss may named =
    swept-good i (ss ++ act.Sweep ∷ []) ss may refl
    (push-passes (step_is_within (sizes_of i.plan)) ss act.Sweep named refl) named

pub seeded_replays_are_good : SeededReplaysAreGood
seeded_replays_are_good i seed count may is =
    let w = seeded-front i.plan seed count is in
    swept-good i (steps_of i.plan) w.0 may w.1 (plan_steps_within i.plan)
    (front-passes (step_is_within (sizes_of i.plan)) w.0 (act.Sweep ∷ [])
    (subst (AllPass (step_is_within (sizes_of i.plan))) w.1 (plan_steps_within i.plan)))
