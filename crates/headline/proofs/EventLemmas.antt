-- The events of a step lead to the state that the step leaves.
use Rattle.std.proofs.Common.{ℕ, zero, suc, ◌≡◌, true, false, Bool, cond, List, [], ◌∷◌, ◌++◌}
use Rattle.std.proofs.Common.{Option, Some, None, length, refl, ap, ◌∙◌, sym}
use Rattle.steer_base.specs.declared.step.Step.{Step}
use Rattle.steer_base.specs.declared.step.Step.TheVariants as act
use Rattle.step_laws.specs.Origins.TableWrites.{after_events}
use Rattle.steer_model.specs.State.Machine.{Machine}
use Rattle.steer_model.specs.Steps.CompoundSteps.{Progress, after, again, drain, drain_one}
use Rattle.steer_model.specs.Steps.CompoundSteps.{for_each, most_rounds, one_round, poll, reply}
use Rattle.steer_model.specs.Steps.CompoundSteps.{replying, rounds, serve, ship, ship_one, step}
use Rattle.steer_model.specs.Steps.CompoundSteps.{tried, tries, unretired, with_record}
use Rattle.steer_model.specs.Steps.SingleSteps.{simple}
use Rattle.headline.specs.Events.{EventsAreTheSteps, all_events, and_then, drain_events}
use Rattle.headline.specs.Events.{each_events, events_of, poll_events, record_events, repeated}
use Rattle.headline.specs.Events.{reply_events, round_events, rounds_events, serve_events}
use Rattle.headline.specs.Events.{ship_events}

pub events-join : (es fs : List Step) (m : Machine)
    → after_events (es ++ fs) m ≡ after_events fs (after_events es m)
events-join [] fs m = refl
events-join (e ∷ es) fs m = events-join es fs (simple m e).0

-- a progress comes from a machine by these events
abbrev pub Comes : Machine → List Step → Progress → Type 0
Comes m es t = t.0 ≡ after_events es m

-- some events, and those that others then try
comes-then : (m : Machine) (es : List Step) (others : Machine → List Step) (t u : Progress)
    → Comes m es t → u.0 ≡ after_events (others t.0) t.0 → Comes m (and_then es others m) u
comes-then m es others t u first rest =
    rest ∙ ap (λ n. after_events (others n) n) first
    ∙ sym (events-join es (others (after_events es m)) m)

tries-come : (ss : List Step) (t : Progress) → Comes t.0 ss (tries t ss)
tries-come [] t = refl
tries-come (s ∷ ss) t = tries-come ss (tried t s)

again-comes : (n : ℕ) (ss : List Step) (t : Progress) → Comes t.0 (repeated n ss) (again n ss t)
unfolding again
again-comes zero ss t = refl
again-comes (suc n) ss t =
    again-comes n ss (tries t ss) ∙ ap (after_events (repeated n ss)) (tries-come ss t)
    ∙ sym (events-join ss (repeated n ss) t.0)

for_each-comes : (n : ℕ) (f : ℕ → Progress → Progress) (turn : Machine → ℕ → List Step)
    → ((k : ℕ) (u : Progress) → Comes u.0 (turn u.0 k) (f k u)) → (t : Progress)
    → Comes t.0 (each_events n turn t.0) (for_each n f t)
unfolding for_each
for_each-comes zero f turn one t = refl
for_each-comes (suc n) f turn one t =
    comes-then t.0 (each_events n turn t.0) (λ u. turn u n) (for_each n f t)
    (f n (for_each n f t)) (for_each-comes n f turn one t) (one n (for_each n f t))

poll-comes : (q : ℕ) (t : Progress) → Comes t.0 (poll_events q) (poll q t)
poll-comes q t = tries-come (poll_events q) t

drain-comes : (c : ℕ) (t : Progress) → Comes t.0 (drain_events t.0 c) (drain c t)
drain-comes c t = again-comes (unretired t.0.rx.bare c) (drain_one c) t

ship-comes : (x : ℕ) (t : Progress) → Comes t.0 (ship_events t.0 x) (ship x t)
ship-comes x t = again-comes (unretired t.0.tx.bare x) (ship_one x) t

reply-comes : (a : ℕ) (t : Progress) → Comes t.0 (reply_events a) (reply a t)
reply-comes a t = tries-come (reply_events a) t

record-comes : (x : Option ℕ) (t : Progress) → Comes t.0 (record_events t.0 x) (with_record x t)
record-comes None t = refl
record-comes (Some x) t = refl

serve-comes : (a : ℕ) (t : Progress) → Comes t.0 (serve_events t.0 a) (serve a t)
serve-comes a t =
    comes-then t.0 (record_events t.0 (replying t.0 a)) (λ u. reply_events a)
    (with_record (replying t.0 a) t) (serve a t) (record-comes (replying t.0 a) t)
    (reply-comes a (with_record (replying t.0 a) t))

round-comes : (t : Progress) → Comes t.0 (round_events t.0) (one_round t)
round-comes t =
    let m : Machine = t.0 in
    let p = m.setup in
    let arrived : Progress = tried t act.Arrive in
    let polled : Progress = for_each (length p.homes) poll arrived in
    let drained : Progress = for_each p.cpus drain polled in
    let served : Progress = for_each p.apps serve drained in
    let a : List Step = act.Arrive ∷ [] in
    let b : List Step = and_then a (each_events (length p.homes) (λ u q. poll_events q)) m in
    let c : List Step = and_then b (each_events p.cpus drain_events) m in
    let d : List Step = and_then c (each_events p.apps serve_events) m in
    let one : Comes m b polled =
    comes-then m a (each_events (length p.homes) (λ u q. poll_events q)) arrived polled refl
    (for_each-comes (length p.homes) poll (λ u q. poll_events q) poll-comes arrived) in
    let two : Comes m c drained =
    comes-then m b (each_events p.cpus drain_events) polled drained one
    (for_each-comes p.cpus drain drain_events drain-comes polled) in
    let three : Comes m d served =
    comes-then m c (each_events p.apps serve_events) drained served two
    (for_each-comes p.apps serve serve_events serve-comes drained) in
    comes-then m d (each_events p.txs ship_events) served (one_round t) three
    (for_each-comes p.txs ship ship_events ship-comes served)

-- the rounds after the first one, if there are any
rounds-last : (n : ℕ) (t : Progress)
    → ((u : Progress) → Comes u.0 (rounds_events n u.0) (rounds n u)) → (more : Bool)
    → Comes t.0 (and_then (round_events t.0) (λ u. cond more (rounds_events n u) []) t.0)
    (cond more (rounds n ((one_round (t.0, false)).0, true)) ((one_round (t.0, false)).0, t.1))
rounds-last n t rest true =
    let next : Progress = one_round (t.0, false) in
    comes-then t.0 (round_events t.0) (λ u. rounds_events n u) next (rounds n (next.0, true))
    (round-comes (t.0, false)) (rest (next.0, true))
rounds-last n t rest false =
    let next : Progress = one_round (t.0, false) in
    comes-then t.0 (round_events t.0) (λ u. []) next (next.0, t.1) (round-comes (t.0, false)) refl

rounds-come : (n : ℕ) (t : Progress) → Comes t.0 (rounds_events n t.0) (rounds n t)
unfolding rounds
rounds-come zero t = refl
rounds-come (suc n) t =
    rounds-last n t (λ u. rounds-come n u) (one_round (t.0, false)).1

-- ---- a step, and steps in a row

pub step-comes : (m : Machine) (s : Step) → after_events (events_of m s) m ≡ (step m s).0
step-comes m (act.Poll q) = sym (poll-comes q (m, false))
step-comes m (act.Drain c) = sym (drain-comes c (m, false))
step-comes m (act.Reply a) = sym (reply-comes a (m, false))
step-comes m (act.Serve a) = sym (serve-comes a (m, false))
step-comes m (act.Ship t) = sym (ship-comes t (m, false))
step-comes m act.Sweep = sym (rounds-come (most_rounds (length m.setup.packets)) (m, false))
step-comes m act.Arrive = refl
step-comes m (act.Take q) = refl
step-comes m (act.Enter q) = refl
step-comes m (act.Look q) = refl
step-comes m (act.Weigh q) = refl
step-comes m (act.Put q) = refl
step-comes m (act.Ask q) = refl
step-comes m (act.Leave q) = refl
step-comes m (act.Pull c) = refl
step-comes m (act.Deliver c) = refl
step-comes m (act.Retire c) = refl
step-comes m (act.Record flow) = refl
step-comes m (act.Send a) = refl
step-comes m (act.TEnter a) = refl
step-comes m (act.TLeave a) = refl
step-comes m (act.TWeigh a) = refl
step-comes m (act.TPut a) = refl
step-comes m (act.TPull t) = refl
step-comes m (act.TDeliver t) = refl
step-comes m (act.TRetire t) = refl
step-comes m (act.Give c) = refl

pub steps-come : (ss : List Step) (m : Machine) → after_events (all_events m ss) m ≡ after ss m
steps-come [] m = refl
steps-come (s ∷ ss) m =
    events-join (events_of m s) (all_events (step m s).0 ss) m
    ∙ ap (after_events (all_events (step m s).0 ss)) (step-comes m s) ∙ steps-come ss (step m s).0

pub events-are-the-steps : EventsAreTheSteps
events-are-the-steps = record { one = step-comes; all = steps-come }
