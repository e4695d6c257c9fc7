-- Forged histories are none of the run, on the examples of two packets.
use Rattle.std.proofs.Common.{ℕ, ◌-◌, ◌≡◌, List, [], Option, Some, None, length, drop, refl, ap}
use Rattle.std.proofs.Common.{◌∙◌, sym, subst, arith, inl, inr, zero, suc}
use Rattle.std.specs.Prelude.{slice_get}
use Rattle.std.specs.List.{All}
use Rattle.std.proofs.lemmas.Bool.{eq-eqb}
use Rattle.std.proofs.lemmas.List.Elements.{All-get_or}
use Rattle.std.proofs.lemmas.Option.{get_or_from_slice_get, slice_get_within}
use Rattle.history.specs.Lists.{list_at, packet_at}
use Rattle.history.specs.declared.arrival.Arrival.{Arrival}
use Rattle.history.specs.declared.history.History.{History}
use Rattle.history.specs.declared.sock_write.SockWrite.{SockWrite}
use Rattle.hop_model.specs.Hop.{Bare, Fixed, accepted_at, lane_of, pulled_at}
use Rattle.plan_reader.specs.Settings.{IsWithin}
use Rattle.steer_base.specs.Arrivals.{Route}
use Rattle.steer_base.specs.Counters as counters
use Rattle.steer_base.specs.Drops.{lane_drop_cause}
use Rattle.steer_base.specs.Sets as sets
use Rattle.steer_base.specs.declared.choice.Chosen.{Chosen}
use Rattle.steer_base.specs.declared.choice.Why.{Why}
use Rattle.steer_base.specs.declared.choice.Why.TheVariants.{Kept, Passed}
use Rattle.steer_base.specs.declared.command.Command.{Command}
use Rattle.steer_base.specs.declared.put.DropCause.{DropCause}
use Rattle.steer_base.specs.declared.put.DropCause.TheVariants.{Full}
use Rattle.steer_base.specs.declared.step.Step.{Step}
use Rattle.steer_model.specs.Good.Arrivals.{SeenBy}
use Rattle.steer_model.specs.Good.Inputs.{Input, WasDone, setup_in}
use Rattle.steer_model.specs.Good.Writes.{StoodAt}
use Rattle.step_laws.specs.Origins.TableWrites.{after_events}
use Rattle.steer_model.specs.State.Machine.{Machine}
use Rattle.steer_model.specs.State.Setup.{packet_hash}
use Rattle.steer_model.specs.State.Start.{fresh_rx, replayed, steps_of}
use Rattle.steer_model.specs.Steps.CompoundSteps.{after}
use Rattle.steer_properties.specs.Commands.Answered.{IsWriteFor}
use Rattle.headline.specs.Forged.{drained_steps, example_of, example_settings, full_settings}
use Rattle.headline.specs.Forged.{input_with, waiting_steps}
use Rattle.headline.specs.Forged.{AcceptingAtFullIsForged, AnotherCommandIsForged}
use Rattle.headline.specs.Forged.{AnotherDropIsForged, AnotherQueueIsForged}
use Rattle.headline.specs.Forged.{AnotherWriteIsForged, EmptyIsForged, MovingAtOnceIsForged}
use Rattle.headline.specs.Forged.{NeverMovingIsForged, NoWantIsForged}
use Rattle.headline.specs.Headline.{IsOfTheRun}
use Rattle.headline.specs.Moments.{run_events, start_of, state_at}
use Rattle.headline.proofs.EventLemmas.{steps-come}
use Rattle.headline.proofs.RunLemmas.{events-split, pulled-after}

-- what two ways of reading one element give is one
same_element : {A : Type 0} (a b : A) (found : Option A) → found ≡ Some a → found ≡ Some b → a ≡ b
same_element a b found is other = let f : Some a ≡ Some b = sym is ∙ other in cc

-- what holds of each element holds of this one
element-has : {A : Type 0} (P : A → Type 0) (list : List A) (k : ℕ) (a : A)
    → slice_get list k ≡ Some a → All P list → P a
element-has P list k a is all =
    subst P (get_or_from_slice_get list k a a is)
    (All-get_or P list k a (slice_get_within list k a is) all)

-- ---- the choice for the second packet

abbrev run_of : (list : List Step) → IsWithin (example_settings list) → History
run_of list within =
    replayed (example_of list within).plan (example_of list within).packets None

drained-choice : (within : IsWithin (example_settings drained_steps))
    → slice_get (list_at (run_of drained_steps within).choices 0) 1 ≡ Some (record {
      id = 1;
      choice = record {
        class = Some 0;
        want = Some 0;
        head = Some 1;
        tail = Some 1;
        lane = 0;
        why = Passed;
      };
    })
unfolding counters.first_power sets.those_below
drained-choice within = refl

waiting-choice : (within : IsWithin (example_settings waiting_steps))
    → slice_get (list_at (run_of waiting_steps within).choices 0) 1 ≡ Some (record {
      id = 1;
      choice = record {
        class = Some 0;
        want = Some 0;
        head = Some 0;
        tail = Some 1;
        lane = 1;
        why = Kept;
      };
    })
unfolding counters.first_power sets.those_below
waiting-choice within = refl

-- in the history of the run it is that of the run
second-is : (h k : History) (c d : Chosen) → slice_get (list_at h.choices 0) 1 ≡ Some c → h ≡ k
    → slice_get (list_at k.choices 0) 1 ≡ Some d → c ≡ d
second-is h k c d is same other =
    same_element c d (slice_get (list_at h.choices 0) 1) is
    (ap (λ (r : History). slice_get (list_at r.choices 0) 1) same ∙ other)

kept≢passed : (why : Why) → why ≡ Kept → why ≡ Passed → ⊥
kept≢passed why kept passed = let f : Kept ≡ Passed = sym kept ∙ passed in absurd (cc)

pub never-moving-forged : NeverMovingIsForged
never-moving-forged within h c is kept run =
    kept≢passed c.choice.why kept
    (ap (λ (d : Chosen). d.choice.why)
    (second-is h (run_of drained_steps within) c _ is run.made (drained-choice within)))

pub moving-at-once-forged : MovingAtOnceIsForged
moving-at-once-forged within h c is passed run =
    kept≢passed c.choice.why
    (ap (λ (d : Chosen). d.choice.why)
    (second-is h (run_of waiting_steps within) c _ is run.made (waiting-choice within))) passed

pub no-want-forged : NoWantIsForged
no-want-forged within h c is none run =
    let want : c.choice.want ≡ Some 0 = ap (λ (d : Chosen). d.choice.want)
    (second-is h (run_of drained_steps within) c _ is run.made (drained-choice within)) in
    let f : ◌≡◌ {A = Option ℕ} None (Some 0) = sym none ∙ want in absurd (cc)

-- ---- sizes and commands

pub empty-forged : EmptyIsForged
empty-forged within h none run =
    let f : 0 ≡ 2 = sym none ∙ run.of_input.total in
    absurd (omega (arith, f))

pub another-command-forged : AnotherCommandIsForged
another-command-forged within h some run = some run.given

nothing-done : (h : History) (c : Command) → h.commands ≡ [] → WasDone h c → ⊥
nothing-done h c none (j, is) =
    let f : slice_get h.commands j ≡ None = rw none refl in
    let g : None ≡ Some _ = sym f ∙ is in absurd (cc)

-- ---- queues and writes

queue-1 : (within : IsWithin (example_settings drained_steps)) (h : History) (x : ℕ) (a : Arrival)
    → a.queue ≡ 1 → h.commands ≡ []
    → SeenBy (example_of drained_steps within) h
    (packet_at (example_of drained_steps within).packets x).hash a → ⊥
queue-1 within h (suc (suc x)) a one none seen =
    let f : a.queue ≡ 0 = ap (λ (r : Route). r.queue) seen in absurd (omega (arith, f, one))
queue-1 within h zero a one none (inl (q, is, inl at)) =
    let f : a.queue ≡ q = ap (λ (r : Route). r.queue) is in absurd (omega (arith, f, at, one))
queue-1 within h zero a one none (inl (q, is, inr done)) = nothing-done h _ none done
queue-1 within h zero a one none (inr (f, is, from)) =
    let g = from.here in absurd (cc)
queue-1 within h (suc zero) a one none (inl (q, is, inl at)) =
    let f : a.queue ≡ q = ap (λ (r : Route). r.queue) is in absurd (omega (arith, f, at, one))
queue-1 within h (suc zero) a one none (inl (q, is, inr done)) = nothing-done h _ none done
queue-1 within h (suc zero) a one none (inr (f, is, from)) =
    let g = from.here in absurd (cc)

pub another-queue-forged : AnotherQueueIsForged
another-queue-forged within h k a is one run =
    queue-1 within h a.id a one run.given
    (element-has
    (λ b. SeenBy (example_of drained_steps within) h
    (packet_at (example_of drained_steps within).packets b.id).hash b)
    h.arrivals k a is run.good.queues)

module _ (within : IsWithin (example_settings drained_steps)) (h : History) (k : ℕ)
    (w : SockWrite) where
  write-of : (a : ℕ) → slice_get (list_at h.writes a) k ≡ Some w
      → IsOfTheRun (example_of drained_steps within) h
      → IsWriteFor (example_of drained_steps within) h a w
  write-of a is run =
      element-has (IsWriteFor (example_of drained_steps within) h a) (list_at h.writes a) k w is
      (run.good.writes a)

  stood-on-1 : (a : ℕ) → h.commands ≡ [] → StoodAt (example_of drained_steps within) h a w.cpu
      → w.cpu ≡ 1 → ⊥
  stood-on-1 a none (inr done) one = nothing-done h _ none done
  stood-on-1 zero none (inl at) one =
      let f : ◌≡◌ {A = Option ℕ} (Some 0) (Some w.cpu) = at in
      let g : 0 ≡ w.cpu = cc in absurd (omega (arith, g, one))
  stood-on-1 (suc a) none (inl at) one =
      let f : ◌≡◌ {A = Option ℕ} None (Some w.cpu) = at in absurd (cc)

pub another-write-forged : AnotherWriteIsForged
another-write-forged within h a k w is one run =
    stood-on-1 within h k w a run.given (write-of within h k w a is run).write.stood one

-- ---- a full backlog

module _ (within : IsWithin full_settings) where
  abbrev full : Input
  full = input_with full_settings within

  -- at the end processor 1 has pulled nothing
  nothing-pulled : pulled_at (after (steps_of full.plan) (start_of full)).rx.bare 1 ≡ 0
  unfolding counters.first_power sets.those_below
  nothing-pulled = refl

  -- so it had at any state of the run
  none-yet : (n : ℕ) → pulled_at (state_at full (run_events full) n).rx.bare 1 ≡ 0
  none-yet n =
      let events : List Step = run_events full in
      let all : after_events (drop n events) (state_at full events n)
      ≡ after (steps_of full.plan) (start_of full) =
      sym (events-split n events (start_of full))
      ∙ steps-come (steps_of full.plan) (start_of full) in
      let last : pulled_at (after_events (drop n events) (state_at full events n)).rx.bare 1 ≡ 0 =
      ap (λ (m : Machine). pulled_at m.rx.bare 1) all ∙ nothing-pulled in
      let up = pulled-after (drop n events) (state_at full events n) 1 in
      omega (arith, last, up)

-- a lane of one packet, of which one waits, is full
full-then : (f : Fixed) (b : Bare) (c : ℕ) (hash : Option ℕ) → f.limit ≡ 1
    → length (accepted_at b c) ≡ 1 → pulled_at b c ≡ 0
    → lane_drop_cause (lane_of f b c) hash ≡ None → ⊥
full-then f b c hash limit one none free =
    let waiting : length (accepted_at b c) - pulled_at b c ≡ f.limit =
    omega (arith, limit, one, none) in
    let is : lane_drop_cause (lane_of f b c) hash ≡ Some Full =
    rw (eq-eqb _ _ waiting) refl in
    let bad : ◌≡◌ {A = Option DropCause} None (Some Full) = sym free ∙ is in absurd (cc)

pub accepting-at-full-forged : AcceptingAtFullIsForged
accepting-at-full-forged within h x is run =
    let w = run.accepted 1 1 x is in
    let did = w.did in
    let s : Machine = state_at (full within) (run_events (full within)) w.before in
    full-then (fresh_rx (full within).plan (full within).packets).fixed s.rx.bare 1
    (packet_hash (setup_in (full within)) x) refl (sym did.next)
    (none-yet within w.before) did.no_drop

pub another-drop-forged : AnotherDropIsForged
another-drop-forged within h j d is other run =
    let w = run.drops 1 j d is in
    let did = w.did in
    other (did.pulled ∙ none-yet within w.before)
