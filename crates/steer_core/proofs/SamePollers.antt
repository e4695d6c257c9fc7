-- What a poller has to do stays the same through the turns of all other actors.
use Rattle.std.proofs.Common.{ℕ, ◌+◌, ◌<◌, ◌≡◌, ◌≢◌, Bool, true, false, not, List, [], ◌∷◌, Option}
use Rattle.std.proofs.Common.{Some, None, length, refl, ap, ◌∙◌, sym, arith, suc, zero}
use Rattle.std.proofs.Common.{cond}
use Rattle.std.specs.Prelude.{◌-◌, ◌%◌, nat_lt, slice_index_or, slice_set}
use Rattle.std.proofs.lemmas.List.{get_or-set_other}
use Rattle.steer_base.specs.declared.command.Answer.TheVariants as says
use Rattle.steer_base.specs.declared.idle.Idle.TheVariants as idle
use Rattle.steer_base.specs.declared.step.Step.{Step}
use Rattle.steer_base.specs.declared.step.Step.TheVariants as act
use Rattle.hop_model.specs.declared.event.HopEvent.{HopEvent}
use Rattle.hop_model.specs.declared.event.HopEvent.TheVariants as event
use Rattle.hop_model.specs.Events.{Outcome, happens, idles}
use Rattle.hop_model.specs.declared.event.HopAnswer.TheVariants as answer
use Rattle.hop_model.specs.Hop.{HopState, arrivals_of, choices_of, inside_of, placed_of, taken_of}
use Rattle.hop_model.specs.Hop.{with_visit}
use Rattle.hop_core.specs.Leaves.{Field, changes}
use Rattle.hop_core.specs.Others.{producer_of}
use Rattle.hop_model.specs.Reads.{to_weigh}
use Rattle.hop_core.proofs.Leaves.{each_leaves}
use Rattle.hop_core.proofs.Others.{each_leaves_producers}
use Rattle.steer_model.specs.State.Machine.{Machine, note_of}
use Rattle.steer_model.specs.State.Notes.{is_asking, is_nothing}
use Rattle.steer_model.specs.State.Setup.{app_for, flow_hash, flow_number_of, packet_hash}
use Rattle.steer_model.specs.Steps.Applications.{in_lane, next_in, record_by, send_by, visited}
use Rattle.steer_model.specs.Steps.Applications.{wrote}
use Rattle.steer_model.specs.Steps.CompoundSteps.{Progress, again, drain, drain_one, poll}
use Rattle.steer_model.specs.Steps.CompoundSteps.{replying, serve, ship, ship_one, tried}
use Rattle.steer_model.specs.Steps.CompoundSteps.{tries, with_record}
use Rattle.steer_model.specs.Steps.Outcomes.{StepOutcome, by_rx, idle_step}
use Rattle.steer_model.specs.Steps.Pollers.{arrival_by, arrive, arrives, ask_by, look_by}
use Rattle.steer_model.specs.Steps.Pollers.{poller_after_put, put_position, putting, route_by}
use Rattle.steer_model.specs.Steps.Pollers.{weigh_by, weighing}
use Rattle.steer_model.specs.Steps.SingleSteps.{simple}
use Rattle.steer_model.specs.declared.note.Note.{Note}
use Rattle.steer_model.specs.declared.note.Note.TheVariants as note
use Rattle.steer_invariant.proofs.EitherLemmas.{either}
use Rattle.history.specs.declared.arrival.Arrival.{Arrival}
use Rattle.steer_core.specs.Resting.{PollerIsDone, next_queue}

-- a poller has the same in two machines
pub record SamePoller (q : ℕ) (m n : Machine) : Type 0 where
  pub setup : n.setup ≡ m.setup
  pub arrivals : arrivals_of n.rx q ≡ arrivals_of m.rx q
  pub placed : placed_of n.rx q ≡ placed_of m.rx q
  pub noted : note_of n q ≡ note_of m q
  pub inside : inside_of n.rx q ≡ inside_of m.rx q

pub same-refl : (q : ℕ) (m : Machine) → SamePoller q m m
same-refl q m = record { setup = refl; arrivals = refl; placed = refl; noted = refl; inside = refl }

pub same-trans : (q : ℕ) (m n o : Machine) → SamePoller q m n → SamePoller q n o → SamePoller q m o
same-trans q m n o a b =
    record {
      setup = b.setup ∙ a.setup;
      arrivals = b.arrivals ∙ a.arrivals;
      placed = b.placed ∙ a.placed;
      noted = b.noted ∙ a.noted;
      inside = b.inside ∙ a.inside;
    }

-- a poller that is done stays done
pub stays-done : (q : ℕ) (m n : Machine) → SamePoller q m n → PollerIsDone q m → PollerIsDone q n
stays-done q m n s d =
    record {
      rests = record {
        put = s.placed ∙ d.rests.put ∙ ap (λ (xs : List ℕ). length xs) (sym s.arrivals);
        quiet = s.noted ∙ d.rests.quiet;
      };
      outside = s.inside ∙ d.outside;
    }

-- ---- events of a hop

-- an event of another producer, and of one who goes through the gate if it is one
pub record SameIn (q : ℕ) (s t : HopState) : Type 0 where
  pub arrivals : arrivals_of t q ≡ arrivals_of s q
  pub placed : placed_of t q ≡ placed_of s q
  pub inside : inside_of t q ≡ inside_of s q

-- an event of another producer that leaves who is inside
pub beside : (q : ℕ) (s : HopState) (e : HopEvent) → producer_of e ≢ Some q
    → changes e Field.visits ≡ false → SameIn q s (happens s e).0
beside q s e other still =
    let p = each_leaves_producers s e q other in
    record {
      arrivals = p.arrivals;
      placed = p.placed;
      inside =
          ap (λ (v : List Bool). slice_index_or v q false) (each_leaves s e Field.visits still);
    }

-- someone else enters or leaves
visit-other : (q a : ℕ) (s : HopState) (b : Bool) (n : ℕ) → q ≢ a
    → inside_of (with_visit s a b n) q ≡ inside_of s q
visit-other q a s b n other = get_or-set_other s.visits a q b false other

pub enter-other : (q a : ℕ) (s : HopState) → q ≢ a → SameIn q s (happens s (event.Enter a)).0
enter-other q a s other =
    let Q : Outcome → Type 0 = λ o. inside_of o.0 q ≡ inside_of s q in
    let n : ℕ = s.bare.inside + 1 in
    let p = each_leaves_producers s (event.Enter a) q (λ e. absurd (cc)) in
    record {
      arrivals = p.arrivals;
      placed = p.placed;
      inside = either Q (inside_of s a) (idles s idle.AlreadyInside)
          (cond s.bare.closed (s, answer.Closed) (with_visit s a true n, answer.Done)) (λ e. refl)
          (λ e. either Q s.bare.closed (s, answer.Closed) (with_visit s a true n, answer.Done)
          (λ f. refl) (λ f. visit-other q a s true n other));
    }

pub leave-other : (q a : ℕ) (s : HopState) → q ≢ a → SameIn q s (happens s (event.Leave a)).0
leave-other q a s other =
    let Q : Outcome → Type 0 = λ o. inside_of o.0 q ≡ inside_of s q in
    let n : ℕ = s.bare.inside - 1 in
    let p = each_leaves_producers s (event.Leave a) q (λ e. absurd (cc)) in
    let mid : Bool = nat_lt (placed_of s a) (length (choices_of s a)) in
    record {
      arrivals = p.arrivals;
      placed = p.placed;
      inside = either Q (not (inside_of s a)) (idles s idle.NotInside)
          (cond mid (idles s idle.MidPacket) (with_visit s a false n, answer.Done)) (λ e. refl)
          (λ e. either Q mid (idles s idle.MidPacket) (with_visit s a false n, answer.Done)
          (λ f. refl) (λ f. visit-other q a s false n other));
    }

-- ---- events of the machine

module _ (q : ℕ) (m : Machine) where
  abbrev Keeps : StepOutcome → Type 0
  Keeps o = SamePoller q m o.0

  by-hop : (t : HopState) → SameIn q m.rx t → SamePoller q m (record m { rx = t })
  by-hop t s =
      record {
        setup = refl;
        arrivals = s.arrivals;
        placed = s.placed;
        noted = refl;
        inside = s.inside;
      }

  in-lanes : (e : HopEvent) → producer_of e ≢ Some q → changes e Field.visits ≡ false
      → Keeps (by_rx m e)
  in-lanes e other still = by-hop (happens m.rx e).0 (beside q m.rx e other still)

  sends : (a : ℕ) (x : Option ℕ) → Keeps (send_by m a x)
  sends a None = same-refl q m
  sends a (Some x) =
      record { setup = refl; arrivals = refl; placed = refl; noted = refl; inside = refl }

  records : q < length m.setup.homes → (hash : Option (Option ℕ)) → Keeps (record_by m hash)
  records lt None = same-refl q m
  records lt (Some None) = same-refl q m
  records lt (Some (Some hash)) =
      let a : ℕ = hash % m.setup.apps in
      let g : ℕ = length m.setup.homes + a in
      let other : q ≢ g = λ e. absurd (omega (arith, lt, e)) in
      let t : HopState = (happens m.rx (event.Enter g)).0 in
      let one = enter-other q g m.rx other in
      let two = leave-other q g t other in
      let n : Machine = visited m a in
      either Keeps (nat_lt 0 (length m.socket)) (wrote n a hash, says.Done)
      (idle_step m idle.NoTable)
      (λ full. record {
        setup = refl;
        arrivals = two.arrivals ∙ one.arrivals;
        placed = two.placed ∙ one.placed;
        noted = refl;
        inside = two.inside ∙ one.inside;
      })
      (λ empty. same-refl q m)

-- whether a step is one event of a processor, of an application or of a transmit queue, and no
-- record
abbrev is_beyond : Step → Bool
is_beyond (act.Pull c) = true
is_beyond (act.Deliver c) = true
is_beyond (act.Retire c) = true
is_beyond (act.Send a) = true
is_beyond (act.TEnter a) = true
is_beyond (act.TLeave a) = true
is_beyond (act.TWeigh a) = true
is_beyond (act.TPut a) = true
is_beyond (act.TPull t) = true
is_beyond (act.TDeliver t) = true
is_beyond (act.TRetire t) = true
is_beyond _ = false

same-beyond : (q : ℕ) (m : Machine) (s : Step) → is_beyond s ≡ true
    → SamePoller q m (simple m s).0
same-beyond q m (act.Pull c) is = in-lanes q m (event.Pull c) (λ e. absurd (cc)) refl
same-beyond q m (act.Deliver c) is =
    in-lanes q m (event.Deliver c (app_for m.setup (in_lane m.rx c))) (λ e. absurd (cc)) refl
same-beyond q m (act.Retire c) is = in-lanes q m (event.Retire c) (λ e. absurd (cc)) refl
same-beyond q m (act.Send a) is =
    either (Keeps q m) (nat_lt (placed_of m.tx a) (taken_of m.tx a)) (idle_step m idle.HandFull)
    (send_by m a (next_in m a)) (λ full. same-refl q m) (λ free. sends q m a (next_in m a))
same-beyond q m (act.TEnter a) is =
    record { setup = refl; arrivals = refl; placed = refl; noted = refl; inside = refl }
same-beyond q m (act.TLeave a) is =
    record { setup = refl; arrivals = refl; placed = refl; noted = refl; inside = refl }
same-beyond q m (act.TWeigh a) is =
    record { setup = refl; arrivals = refl; placed = refl; noted = refl; inside = refl }
same-beyond q m (act.TPut a) is =
    record { setup = refl; arrivals = refl; placed = refl; noted = refl; inside = refl }
same-beyond q m (act.TPull t) is =
    record { setup = refl; arrivals = refl; placed = refl; noted = refl; inside = refl }
same-beyond q m (act.TDeliver t) is =
    record { setup = refl; arrivals = refl; placed = refl; noted = refl; inside = refl }
same-beyond q m (act.TRetire t) is =
    record { setup = refl; arrivals = refl; placed = refl; noted = refl; inside = refl }
same-beyond q m _ is = absurd (cc)

-- ---- the events of another poller

some-same : (p q : ℕ) → ◌≡◌ {A = Option ℕ} (Some p) (Some q) → p ≡ q
some-same p q e = cc

module _ (q p : ℕ) (other : q ≢ p) (m : Machine) where
  not-same : Some p ≢ Some q
  not-same e = other (sym (some-same p q e))

  note-other : (n : Note) → note_of (record m { notes = slice_set m.notes p n }) q ≡ note_of m q
  note-other n = get_or-set_other m.notes p q n note.Nothing other

  -- with another hop and another note
  by-note : (n : Note) (t : HopState) → SameIn q m.rx t
      → SamePoller q m (record m { rx = t; notes = slice_set m.notes p n })
  by-note n t s =
      record {
        setup = refl;
        arrivals = s.arrivals;
        placed = s.placed;
        noted = note-other n;
        inside = s.inside;
      }

  by-look : (x : Option ℕ) → Keeps q m (look_by m p x)
  by-look None = same-refl q m
  by-look (Some x) =
      record {
        setup = refl;
        arrivals = refl;
        placed = refl;
        noted = note-other _;
        inside = refl;
      }

  by-weigh : (n : Note) (x : Option ℕ) → Keeps q m (weigh_by m p n x)
  by-weigh note.Nothing x = same-refl q m
  by-weigh (note.Asking filter) x = same-refl q m
  by-weigh (note.Looked want) None = same-refl q m
  by-weigh (note.Looked want) (Some x) =
      by-note note.Nothing _ (beside q m.rx (weighing m p x want) not-same refl)

  by-put : (position : Option ℕ)
      → Keeps q m (poller_after_put (by_rx m (putting m p)).0 p position
      (happens m.rx (putting m p)).1)
  by-put None = in-lanes q m (putting m p) not-same refl
  by-put (Some position) = by-note _ _ (beside q m.rx (putting m p) not-same refl)

  by-ask : (n : Note) → Keeps q m (ask_by m p n)
  by-ask note.Nothing = same-refl q m
  by-ask (note.Looked want) = same-refl q m
  by-ask (note.Asking filter) =
      record {
        setup = refl;
        arrivals = refl;
        placed = refl;
        noted = note-other _;
        inside = refl;
      }

  outside-or : (o : StepOutcome) → Keeps q m o
      → Keeps q m (cond (not (inside_of m.rx p)) (idle_step m idle.NotInside) o)
  outside-or o s =
      either (Keeps q m) (not (inside_of m.rx p)) (idle_step m idle.NotInside) o
      (λ out'. same-refl q m) (λ in'. s)

  of-enter : SamePoller q m (simple m (act.Enter p)).0
  of-enter = by-hop q m _ (enter-other q p m.rx other)

  of-take : SamePoller q m (simple m (act.Take p)).0
  of-take =
      either (Keeps q m) (is_asking (note_of m p)) (idle_step m idle.HandFull)
      (by_rx m (event.Take p)) (λ asks. same-refl q m)
      (λ quiet. in-lanes q m (event.Take p) not-same refl)

  of-look : SamePoller q m (simple m (act.Look p)).0
  of-look =
      outside-or _
      (either (Keeps q m) (is_nothing (note_of m p)) (look_by m p (to_weigh m.rx p))
      (idle_step m idle.WrongStage) (λ free. by-look (to_weigh m.rx p)) (λ busy. same-refl q m))

  of-weigh : SamePoller q m (simple m (act.Weigh p)).0
  of-weigh = outside-or _ (by-weigh (note_of m p) (to_weigh m.rx p))

  of-put : SamePoller q m (simple m (act.Put p)).0
  of-put = by-put (put_position (happens m.rx (putting m p)).1)

  of-ask : SamePoller q m (simple m (act.Ask p)).0
  of-ask = outside-or _ (by-ask (note_of m p))

  of-leave : SamePoller q m (simple m (act.Leave p)).0
  of-leave =
      outside-or _
      (either (Keeps q m) (is_nothing (note_of m p)) (by_rx m (event.Leave p))
      (idle_step m idle.MidPacket) (λ free. by-hop q m _ (leave-other q p m.rx other))
      (λ busy. same-refl q m))

-- the turn of another poller
pub same-poll : (q p : ℕ) (t : Progress) → q ≢ p → SamePoller q t.0 (poll p t).0
same-poll q p t other =
    let a : Progress = tried t (act.Enter p) in
    let b : Progress = tried a (act.Take p) in
    let c : Progress = tried b (act.Look p) in
    let d : Progress = tried c (act.Weigh p) in
    let e : Progress = tried d (act.Put p) in
    let f : Progress = tried e (act.Ask p) in
    let on : (m n : Machine) → SamePoller q t.0 m → SamePoller q m n → SamePoller q t.0 n =
    λ m n one two. same-trans q t.0 m n one two in
    on f.0 (poll p t).0
    (on e.0 f.0
    (on d.0 e.0
    (on c.0 d.0
    (on b.0 c.0 (on a.0 b.0 (of-enter q p other t.0) (of-take q p other a.0))
    (of-look q p other b.0))
    (of-weigh q p other c.0))
    (of-put q p other d.0))
    (of-ask q p other e.0))
    (of-leave q p other f.0)

-- ---- the turns of the other actors

abbrev AreBeyond : List Step → Type 0
AreBeyond [] = Unit {0}
AreBeyond (s ∷ ss) = (is_beyond s ≡ true) × AreBeyond ss

same-tries : (q : ℕ) (ss : List Step) (t : Progress) → AreBeyond ss
    → SamePoller q t.0 (tries t ss).0
same-tries q [] t all = same-refl q t.0
same-tries q (s ∷ ss) t all =
    same-trans q t.0 (tried t s).0 (tries (tried t s) ss).0 (same-beyond q t.0 s all.0)
    (same-tries q ss (tried t s) all.1)

same-again : (q n : ℕ) (ss : List Step) (t : Progress) → AreBeyond ss
    → SamePoller q t.0 (again n ss t).0
unfolding again
same-again q zero ss t all = same-refl q t.0
same-again q (suc n) ss t all =
    same-trans q t.0 (tries t ss).0 (again n ss (tries t ss)).0 (same-tries q ss t all)
    (same-again q n ss (tries t ss) all)

pub same-drain : (q c : ℕ) (t : Progress) → SamePoller q t.0 (drain c t).0
same-drain q c t = same-again q _ (drain_one c) t (refl, (refl, (refl, tt)))

pub same-ship : (q x : ℕ) (t : Progress) → SamePoller q t.0 (ship x t).0
same-ship q x t = same-again q _ (ship_one x) t (refl, (refl, (refl, tt)))

same-recorded : (q : ℕ) (o : Option ℕ) (t : Progress) → q < length t.0.setup.homes
    → SamePoller q t.0 (with_record o t).0
same-recorded q None t lt = same-refl q t.0
same-recorded q (Some x) t lt =
    records q t.0 lt (flow_hash t.0.setup (flow_number_of t.0.setup x))

pub same-serve : (q a : ℕ) (t : Progress) → q < length t.0.setup.homes
    → SamePoller q t.0 (serve a t).0
same-serve q a t lt =
    let u : Progress = with_record (replying t.0 a) t in
    same-trans q t.0 u.0 (serve a t).0 (same-recorded q (replying t.0 a) t lt)
    (same-tries q (act.TEnter a ∷ act.Send a ∷ act.TWeigh a ∷ act.TPut a ∷ act.TLeave a ∷ []) u
    (refl, (refl, (refl, (refl, (refl, tt))))))

-- the wire: a packet arrives at another queue
by-some : (p : ℕ) (b : Bool) → b ≡ true → cond b (Some p) None ≡ Some p
by-some p b is = rw is refl

pub same-arrive : (q : ℕ) (m : Machine) → next_queue m ≢ Some q → SamePoller q m (arrive m).0
same-arrive q m other =
    let next : ℕ = length m.arrivals in
    let a : Arrival = arrival_by next (route_by m (packet_hash m.setup next)) in
    let some : Bool = nat_lt next (length m.setup.packets) in
    either (Keeps q m) some (arrives m a, says.Done) (idle_step m idle.NothingLeft)
    (λ is. (
    let s = beside q m.rx (event.Arrive a.queue next) (λ e. other (by-some a.queue some is ∙ e))
    refl in
    record {
      setup = refl;
      arrivals = s.arrivals;
      placed = s.placed;
      noted = refl;
      inside = s.inside;
    }))
    (λ none. same-refl q m)
