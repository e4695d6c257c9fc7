-- The history of every replay has its moments in the run.
use Rattle.std.proofs.Common.{ℕ, ◌<◌, ◌≡◌, false, cond, Option, Some, None, length, List, [], ◌∷◌}
use Rattle.std.proofs.Common.{◌++◌, refl, ap, ◌∙◌, sym, subst, arith, suc, zero}
use Rattle.std.specs.Prelude.{slice_get}
use Rattle.std.proofs.lemmas.Bool.{lt-ltb, ltb-true}
use Rattle.std.proofs.lemmas.List.{append-nil, append_assoc}
use Rattle.history.specs.declared.lane_list.LaneList.{LaneList}
use Rattle.steer_base.specs.declared.step.Step.{Step}
use Rattle.steer_base.specs.declared.step.Step.TheVariants as act
use Rattle.steer_invariant.specs.Invariant.{Invariant}
use Rattle.steer_invariant.specs.InvariantLaws.{MayStart}
use Rattle.steer_invariant.specs.StepInvariant.{AreNamed, IsNamed}
use Rattle.steer_invariant.proofs.EitherLemmas.{either}
use Rattle.steer_invariant.proofs.Invariant.StartLemmas.{held-new}
use Rattle.steer_invariant.proofs.Invariant.StepLemmas.{held-simple, named-in, plan_steps_within}
use Rattle.steer_invariant.proofs.LaneLemmas.{lane-is}
use Rattle.steer_invariant.proofs.StepInvariant.StepLemmas.{flow_small}
use Rattle.steer_invariant.proofs.TurnLiftLemmas.{AreTried, drain-tried, is_tried, poll-tried}
use Rattle.steer_invariant.proofs.TurnLiftLemmas.{reply-tried, ship-tried}
use Rattle.steer_model.specs.Good.Inputs.{Input, setup_in}
use Rattle.step_laws.specs.Origins.TableWrites.{after_events}
use Rattle.steer_model.specs.State.Machine.{Machine}
use Rattle.steer_model.specs.State.Setup.{Setup, flow_number_of}
use Rattle.steer_model.specs.State.Start.{replayed, steps_of}
use Rattle.steer_model.specs.Steps.CompoundSteps.{after, drain_one, most_rounds, one_round}
use Rattle.steer_model.specs.Steps.CompoundSteps.{replying, ship_one, step, unretired}
use Rattle.steer_model.specs.Steps.SingleSteps.{simple}
use Rattle.steer_properties.proofs.Choices.ClearStepLemmas.{Clear, clear-new_machine, clear-simple}
use Rattle.steer_properties.proofs.Histories.StepKindLemmas.{lasts-simple}
use Rattle.headline.specs.Events.{all_events, and_then, drain_events, each_events, events_of}
use Rattle.headline.specs.Events.{poll_events, record_events, repeated, reply_events, round_events}
use Rattle.headline.specs.Events.{rounds_events, serve_events, ship_events}
use Rattle.headline.specs.Moments.{HaveMomentsOfTheRun, start_of}
use Rattle.headline.proofs.EventLemmas.{step-comes}
use Rattle.headline.proofs.MomentLemmas.{Moments, moments-new, moments-simple}
use Rattle.headline.proofs.PutMomentLemmas.{IsOfPlan, PutMoments, puts-new, puts-simple}
use Rattle.headline.proofs.RunLemmas.{comes-to, goes-on}

-- a state of a run, with the events that led to it and the moments before it
record Passing (i : Input) (es : List Step) (m : Machine) : Type 0 where
  of : IsOfPlan i m
  held : Invariant m
  clear : Clear m
  to : after_events es (start_of i) ≡ m
  moments : Moments i es m
  puts : PutMoments i es m

passing-simple : (i : Input) (es : List Step) (m : Machine) (s : Step) → IsNamed (setup_in i) s
    → Passing i es m → Passing i (es ++ s ∷ []) (simple m s).0
passing-simple i es m s named e =
    let h = e.held in let of = e.of in
    let here : IsNamed m.setup s = subst (λ (p : Setup). IsNamed p s) (sym of.setup) named in
    let fs : List Step = es ++ s ∷ [] in
    let go = goes-on i es s m e.to in
    let held : Invariant (simple m s).0 = held-simple m s here h in
    let clear : Clear (simple m s).0 = clear-simple m s h here e.clear in
    let l = lasts-simple m s h here in
    record {
      of = record {
        setup = l.setup ∙ of.setup;
        rx = l.rx.fixed ∙ of.rx;
        tx = l.tx.fixed ∙ of.tx;
      };
      held = held;
      clear = clear;
      to = comes-to i es s m e.to;
      moments = moments-simple i es fs m s h here go held clear e.moments;
      puts = puts-simple i es fs m h of e.puts s go;
    }

passing-new : (i : Input) → MayStart i.plan i.packets → Passing i [] (start_of i)
passing-new i may =
    record {
      of = record { setup = refl; rx = refl; tx = refl };
      held = held-new i.plan i.packets i.cut may;
      clear = clear-new_machine i;
      to = refl;
      moments = moments-new i;
      puts = puts-new i;
    }

-- ---- some events that name what the plan has

tried-join : (p : Setup) (es fs : List Step) → AreTried p es → AreTried p fs → AreTried p (es ++ fs)
tried-join p [] fs a b = b
tried-join p (e ∷ es) fs a b = (a.0, tried-join p es fs a.1 b)

tried-repeated : (p : Setup) (n : ℕ) (es : List Step) → AreTried p es
    → AreTried p (repeated n es)
tried-repeated p zero es a = tt
tried-repeated p (suc n) es a = tried-join p es (repeated n es) a (tried-repeated p n es a)

-- the run goes on by these events
passing-events : (i : Input) (es : List Step) (m : Machine) (fs : List Step)
    → AreTried (setup_in i) fs → Passing i es m → Passing i (es ++ fs) (after_events fs m)
passing-events i es m [] all e = subst (λ l. Passing i l m) (sym (append-nil es)) e
passing-events i es m (f ∷ fs) all e =
    subst (λ l. Passing i l (after_events fs (simple m f).0)) (append_assoc es (f ∷ []) fs)
    (passing-events i (es ++ f ∷ []) (simple m f).0 fs all.1
    (passing-simple i es m f all.0.named e))

-- ---- the events of a step name what the plan has

module _ (i : Input) (small : (x : ℕ) → flow_number_of (setup_in i) x < 262144) where
  abbrev p : Setup
  p = setup_in i

  -- what others then try names what the plan has, wherever the run is
  abbrev Named : (Machine → List Step) → Type 0
  Named others = (es : List Step) (u : Machine) → Passing i es u → AreTried p (others u)

  and-then : (es : List Step) (m : Machine) (fs : List Step) (others : Machine → List Step)
      → Passing i es m → AreTried p fs → Named others → AreTried p (and_then fs others m)
  and-then es m fs others e a b =
      tried-join p fs (others (after_events fs m)) a
      (b (es ++ fs) (after_events fs m) (passing-events i es m fs a e))

  each-named : (n : ℕ) (turn : Machine → ℕ → List Step)
      → ((k : ℕ) → k < n → Named (λ u. turn u k)) → Named (each_events n turn)
  each-named zero turn one es m e = tt
  each-named (suc n) turn one es m e =
      and-then es m (each_events n turn m) (λ u. turn u n) e
      (each-named n turn (λ k lt. one k (omega (arith, lt))) es m e) (one n (omega arith))

  record-named : (x : Option ℕ) → Named (λ u. record_events u x)
  record-named None es u e = tt
  record-named (Some x) es u e =
      let lt : flow_number_of u.setup x < 262144 =
      subst (λ (q : Setup). flow_number_of q x < 262144) (sym e.of.setup) (small x) in (
        is_tried p (act.Record (flow_number_of u.setup x)) refl
            (lt-ltb (flow_number_of u.setup x) 262144 lt),
        tt,
      )

  drain-named : (c : ℕ) → c < p.cpus → Named (λ u. drain_events u c)
  drain-named c lt es u e =
      tried-repeated p (unretired u.rx.bare c) (drain_one c) (drain-tried p c lt)

  ship-named : (t : ℕ) → t < p.txs → Named (λ u. ship_events u t)
  ship-named t lt es u e =
      tried-repeated p (unretired u.tx.bare t) (ship_one t) (ship-tried p t lt)

  serve-named : (a : ℕ) → a < p.apps → Named (λ u. serve_events u a)
  serve-named a lt es u e =
      tried-join p (record_events u (replying u a)) (reply_events a)
      (record-named (replying u a) es u e) (reply-tried p a lt)

  round-named : Named round_events
  round-named es m e =
      let same : m.setup ≡ p = e.of.setup in
      let homes : length m.setup.homes ≡ length p.homes =
      ap (λ (q : Setup). length q.homes) same in
      let cpus : m.setup.cpus ≡ p.cpus = ap (λ (q : Setup). q.cpus) same in
      let apps : m.setup.apps ≡ p.apps = ap (λ (q : Setup). q.apps) same in
      let txs : m.setup.txs ≡ p.txs = ap (λ (q : Setup). q.txs) same in
      let a : List Step = act.Arrive ∷ [] in
      let polls : Machine → List Step =
      each_events (length m.setup.homes) (λ u q. poll_events q) in
      let drains : Machine → List Step = each_events m.setup.cpus drain_events in
      let serves : Machine → List Step = each_events m.setup.apps serve_events in
      let ships : Machine → List Step = each_events m.setup.txs ship_events in
      let b : List Step = and_then a polls m in
      let c : List Step = and_then b drains m in
      let one : AreTried p b =
      and-then es m a polls e (is_tried p act.Arrive refl refl, tt)
      (each-named (length m.setup.homes) (λ u q. poll_events q)
      (λ k lt fs u w. poll-tried p k (omega (arith, lt, homes)))) in
      let two : AreTried p c =
      and-then es m b drains e one
      (each-named m.setup.cpus drain_events (λ k lt. drain-named k (omega (arith, lt, cpus)))) in
      let three : AreTried p (and_then c serves m) =
      and-then es m c serves e two
      (each-named m.setup.apps serve_events (λ k lt. serve-named k (omega (arith, lt, apps)))) in
      and-then es m (and_then c serves m) ships e three
      (each-named m.setup.txs ship_events (λ k lt. ship-named k (omega (arith, lt, txs))))

  rounds-named : (n : ℕ) → Named (rounds_events n)
  rounds-named zero es m e = tt
  rounds-named (suc n) es m e =
      and-then es m (round_events m)
      (λ u. cond (one_round (m, false)).1 (rounds_events n u) []) e (round-named es m e)
      (λ fs u w. either (AreTried p) (one_round (m, false)).1 (rounds_events n u) []
      (λ _. rounds-named n fs u w) (λ _. tt))

  -- ---- a step of the plan

  turn-passed : (es : List Step) (m : Machine) (s : Step) → AreTried p (events_of m s)
      → Passing i es m → Passing i (es ++ events_of m s) (step m s).0
  turn-passed es m s all e =
      subst (Passing i (es ++ events_of m s)) (step-comes m s)
      (passing-events i es m (events_of m s) all e)

  step-passed : (es : List Step) (m : Machine) (s : Step) → IsNamed p s → Passing i es m
      → Passing i (es ++ events_of m s) (step m s).0
  step-passed es m (act.Poll q) named e =
      turn-passed es m (act.Poll q) (poll-tried p q (ltb-true _ _ named)) e
  step-passed es m (act.Drain c) named e =
      turn-passed es m (act.Drain c) (drain-named c (ltb-true _ _ named) es m e) e
  step-passed es m (act.Reply a) named e =
      turn-passed es m (act.Reply a) (reply-tried p a (ltb-true _ _ named)) e
  step-passed es m (act.Serve a) named e =
      turn-passed es m (act.Serve a) (serve-named a (ltb-true _ _ named) es m e) e
  step-passed es m (act.Ship t) named e =
      turn-passed es m (act.Ship t) (ship-named t (ltb-true _ _ named) es m e) e
  step-passed es m act.Sweep named e =
      turn-passed es m act.Sweep
      (rounds-named (most_rounds (length m.setup.packets)) es m e) e
  step-passed es m act.Arrive named e = passing-simple i es m act.Arrive named e
  step-passed es m (act.Take q) named e = passing-simple i es m (act.Take q) named e
  step-passed es m (act.Enter q) named e = passing-simple i es m (act.Enter q) named e
  step-passed es m (act.Look q) named e = passing-simple i es m (act.Look q) named e
  step-passed es m (act.Weigh q) named e = passing-simple i es m (act.Weigh q) named e
  step-passed es m (act.Put q) named e = passing-simple i es m (act.Put q) named e
  step-passed es m (act.Ask q) named e = passing-simple i es m (act.Ask q) named e
  step-passed es m (act.Leave q) named e = passing-simple i es m (act.Leave q) named e
  step-passed es m (act.Pull c) named e = passing-simple i es m (act.Pull c) named e
  step-passed es m (act.Deliver c) named e = passing-simple i es m (act.Deliver c) named e
  step-passed es m (act.Retire c) named e = passing-simple i es m (act.Retire c) named e
  step-passed es m (act.Record flow) named e = passing-simple i es m (act.Record flow) named e
  step-passed es m (act.Send a) named e = passing-simple i es m (act.Send a) named e
  step-passed es m (act.TEnter a) named e = passing-simple i es m (act.TEnter a) named e
  step-passed es m (act.TLeave a) named e = passing-simple i es m (act.TLeave a) named e
  step-passed es m (act.TWeigh a) named e = passing-simple i es m (act.TWeigh a) named e
  step-passed es m (act.TPut a) named e = passing-simple i es m (act.TPut a) named e
  step-passed es m (act.TPull t) named e = passing-simple i es m (act.TPull t) named e
  step-passed es m (act.TDeliver t) named e = passing-simple i es m (act.TDeliver t) named e
  step-passed es m (act.TRetire t) named e = passing-simple i es m (act.TRetire t) named e
  step-passed es m (act.Give c) named e = passing-simple i es m (act.Give c) named e

  steps-passed : (es : List Step) (m : Machine) (ss : List Step) → AreNamed p ss → Passing i es m
      → Passing i (es ++ all_events m ss) (after ss m)
  steps-passed es m [] named e = subst (λ l. Passing i l m) (sym (append-nil es)) e
  steps-passed es m (s ∷ ss) named e =
      subst (λ l. Passing i l (after ss (step m s).0))
      (append_assoc es (events_of m s) (all_events (step m s).0 ss))
      (steps-passed (es ++ events_of m s) (step m s).0 ss
      (λ k d lt. named (suc k) d (omega (arith, lt)))
      (step-passed es m s (named 0 s (omega arith)) e))

pub replays-have-moments : (i : Input) → MayStart i.plan i.packets
    → HaveMomentsOfTheRun i (replayed i.plan i.packets i.cut)
replays-have-moments i may =
    let m : Machine = start_of i in
    let start : Passing i [] m = passing-new i may in
    let k = start.held.kept in
    let e = steps-passed i (λ x. flow_small (setup_in i) x k.given) [] m (steps_of i.plan)
    (named-in i.plan i.packets i.cut (steps_of i.plan) (plan_steps_within i.plan)) start in
    let last : Machine = after (steps_of i.plan) m in
    let w = e.moments in let u = e.puts in
    let kept = e.held.kept in
    let rx = lane-is last.rx kept.rx.sound in
    let tx = lane-is last.tx kept.tx.sound in
    record {
      arrivals = w.arrivals;
      choices = w.choices;
      replies = w.replies;
      drops = λ c j d is. u.drops c j d
          (sym (ap (λ (l : LaneList). slice_get l.drops j) (rx c)) ∙ is);
      accepted = λ c k x is. u.accepted c k x
          (sym (ap (λ (l : LaneList). slice_get l.accepted k) (rx c)) ∙ is);
      queued = λ t k x is. u.queued t k x
          (sym (ap (λ (l : LaneList). slice_get l.accepted k) (tx t)) ∙ is);
    }
