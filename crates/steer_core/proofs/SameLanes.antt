-- What the turn of an actor leaves of the lanes and of the other applications.
use Rattle.std.proofs.Common.{ℕ, ◌≡◌, ◌≢◌, Bool, true, false, not, List, [], Option}
use Rattle.std.proofs.Common.{Some, None, length, refl, ap, ◌∙◌, sym, cond}
use Rattle.std.proofs.Common.{inl, inr}
use Rattle.std.specs.Prelude.{nat_lt, slice_index, slice_index_or}
use Rattle.std.proofs.lemmas.Bool.{cases_Bool}
use Rattle.steer_base.specs.declared.command.Answer.TheVariants as says
use Rattle.steer_base.specs.declared.idle.Idle.TheVariants as idle
use Rattle.steer_base.specs.declared.step.Step.{Step}
use Rattle.steer_base.specs.declared.step.Step.TheVariants as act
use Rattle.hop_model.specs.declared.event.HopEvent.{HopEvent}
use Rattle.hop_model.specs.declared.event.HopEvent.TheVariants as event
use Rattle.hop_model.specs.Events.{happens}
use Rattle.hop_model.specs.Hop.{HopState, accepted_at, choices_of, in_hand, inside_of}
use Rattle.hop_model.specs.Hop.{placed_of, retired_at}
use Rattle.hop_core.specs.Leaves.{Field, changes}
use Rattle.hop_core.specs.Others.{changed_lane}
use Rattle.hop_model.specs.Reads.{to_put, to_weigh}
use Rattle.hop_core.proofs.Leaves.{each_leaves}
use Rattle.hop_core.proofs.Others.{each_leaves_lanes}
use Rattle.history.specs.declared.arrival.Arrival.{Arrival}
use Rattle.steer_model.specs.State.Machine.{Machine, last_chosen, note_of}
use Rattle.steer_model.specs.State.Notes.{is_asking, is_nothing}
use Rattle.steer_model.specs.State.Setup.{packet_hash}
use Rattle.steer_model.specs.Steps.CompoundSteps.{Progress, poll, tried}
use Rattle.steer_model.specs.Steps.Outcomes.{StepOutcome, by_rx, idle_step}
use Rattle.steer_model.specs.Steps.Pollers.{arrival_by, arrives, ask_by, look_by, poller_after_put}
use Rattle.steer_model.specs.Steps.Pollers.{put_position, putting, route_by, weigh_by, weighing}
use Rattle.steer_model.specs.Steps.SingleSteps.{simple}
use Rattle.steer_model.specs.declared.note.Note.{Note}
use Rattle.steer_model.specs.declared.note.Note.TheVariants as note
use Rattle.steer_invariant.proofs.EitherLemmas.{either}
use Rattle.steer_core.specs.Resting.{PutsBeside, SameCpu}

-- ---- a put to another lane

not-put : (s : HopState) (p : ℕ) (hash : Option ℕ)
    → nat_lt (placed_of s p) (length (choices_of s p)) ≡ false
    → (happens s (event.Put p hash)).0 ≡ s
not-put s p hash none =
    elim (cases_Bool (inside_of s p)) [
      | inl here ↦ rw (here, none) refl
      | inr out' ↦ rw out' refl
    ]

pub put-beside : (s : HopState) (p c : ℕ) (hash : Option ℕ) → PutsBeside s p c
    → accepted_at (happens s (event.Put p hash)).0.bare c ≡ accepted_at s.bare c
put-beside s p c hash other =
    elim (cases_Bool (nat_lt (placed_of s p) (length (choices_of s p)))) [
      | inl some ↦ (
          let to : to_put s p ≡ Some (in_hand s p) = rw some refl in
          let ne : changed_lane s (event.Put p hash) ≢ Some c =
          λ e. other (in_hand s p) to (some-same _ _ (sym e)) in
          (each_leaves_lanes s (event.Put p hash) c ne).accepted)
      | inr none ↦ ap (λ (t : HopState). accepted_at t.bare c) (not-put s p hash none)
    ]
  where
    some-same : (a b : ℕ) → ◌≡◌ {A = Option ℕ} (Some a) (Some b) → a ≡ b
    some-same a b e = cc

-- ---- the wire and the pollers

-- what they leave
pub record Upstream (m n : Machine) : Type 0 where
  pub tx : n.tx ≡ m.tx
  pub sent : n.sent ≡ m.sent
  pub outs : n.rx.bare.outs ≡ m.rx.bare.outs
  pub retired : n.rx.bare.retired ≡ m.rx.bare.retired

pub up-refl : (m : Machine) → Upstream m m
up-refl m = record { tx = refl; sent = refl; outs = refl; retired = refl }

pub up-trans : (m n o : Machine) → Upstream m n → Upstream n o → Upstream m o
up-trans m n o a b =
    record {
      tx = b.tx ∙ a.tx;
      sent = b.sent ∙ a.sent;
      outs = b.outs ∙ a.outs;
      retired = b.retired ∙ a.retired;
    }

-- what those of their events leave that put no packet
pub record Steady (m n : Machine) : Type 0 where
  pub up : Upstream m n
  pub accepted : n.rx.bare.accepted ≡ m.rx.bare.accepted

module _ (m : Machine) where
  abbrev Is : StepOutcome → Type 0
  Is o = Steady m o.0

  steady-refl : Steady m m
  steady-refl = record { up = up-refl m; accepted = refl }

  -- an event of the receive hop, with whatever notes, arrivals and filters
  up-by : (n : Machine) (e : HopEvent) → n.rx ≡ (happens m.rx e).0 → n.tx ≡ m.tx
      → n.sent ≡ m.sent → changes e Field.outs ≡ false → changes e Field.retired ≡ false
      → Upstream m n
  up-by n e rx tx sent o r =
      record {
        tx = tx;
        sent = sent;
        outs = ap (λ (s : HopState). s.bare.outs) rx ∙ each_leaves m.rx e Field.outs o;
        retired = ap (λ (s : HopState). s.bare.retired) rx
            ∙ each_leaves m.rx e Field.retired r;
      }

  steady-by : (n : Machine) (e : HopEvent) → n.rx ≡ (happens m.rx e).0 → n.tx ≡ m.tx
      → n.sent ≡ m.sent → changes e Field.outs ≡ false → changes e Field.retired ≡ false
      → changes e Field.accepted ≡ false → Steady m n
  steady-by n e rx tx sent o r a =
      record {
        up = up-by n e rx tx sent o r;
        accepted = ap (λ (s : HopState). s.bare.accepted) rx
            ∙ each_leaves m.rx e Field.accepted a;
      }

  -- nothing of the hops
  steady-same : (n : Machine) → n.rx ≡ m.rx → n.tx ≡ m.tx → n.sent ≡ m.sent → Steady m n
  steady-same n rx tx sent =
      record {
        up = record {
          tx = tx;
          sent = sent;
          outs = ap (λ (s : HopState). s.bare.outs) rx;
          retired = ap (λ (s : HopState). s.bare.retired) rx;
        };
        accepted = ap (λ (s : HopState). s.bare.accepted) rx;
      }

  outside-or : (q : ℕ) (o : StepOutcome) → Is o
      → Is (cond (not (inside_of m.rx q)) (idle_step m idle.NotInside) o)
  outside-or q o s =
      either Is (not (inside_of m.rx q)) (idle_step m idle.NotInside) o
      (λ out'. steady-refl) (λ in'. s)

  by-look : (q : ℕ) (x : Option ℕ) → Is (look_by m q x)
  by-look q None = steady-refl
  by-look q (Some x) = steady-same _ refl refl refl

  by-weigh : (q : ℕ) (n : Note) (x : Option ℕ) → Is (weigh_by m q n x)
  by-weigh q note.Nothing x = steady-refl
  by-weigh q (note.Asking filter) x = steady-refl
  by-weigh q (note.Looked want) None = steady-refl
  by-weigh q (note.Looked want) (Some x) =
      steady-by _ (weighing m q x want) refl refl refl refl refl refl

  by-ask : (q : ℕ) (n : Note) → Is (ask_by m q n)
  by-ask q note.Nothing = steady-refl
  by-ask q (note.Looked want) = steady-refl
  by-ask q (note.Asking filter) = steady-same _ refl refl refl

  by-put : (q : ℕ) (position : Option ℕ)
      → Upstream m (poller_after_put (by_rx m (putting m q)).0 q position
      (happens m.rx (putting m q)).1).0
  by-put q None = up-by _ (putting m q) refl refl refl refl refl
  by-put q (Some position) = up-by _ (putting m q) refl refl refl refl refl

  put-rx : (q : ℕ) (position : Option ℕ)
      → (poller_after_put (by_rx m (putting m q)).0 q position
      (happens m.rx (putting m q)).1).0.rx ≡ (happens m.rx (putting m q)).0
  put-rx q None = refl
  put-rx q (Some position) = refl

-- whether a step is one of the wire or of a poller that puts no packet
abbrev pub is_steady : Step → Bool
is_steady act.Arrive = true
is_steady (act.Take q) = true
is_steady (act.Enter q) = true
is_steady (act.Look q) = true
is_steady (act.Weigh q) = true
is_steady (act.Ask q) = true
is_steady (act.Leave q) = true
is_steady _ = false

pub steady : (m : Machine) (s : Step) → is_steady s ≡ true → Steady m (simple m s).0
steady m act.Arrive is =
    let next : ℕ = length m.arrivals in
    let a : Arrival = arrival_by next (route_by m (packet_hash m.setup next)) in
    either (Is m) (nat_lt next (length m.setup.packets)) (arrives m a, says.Done)
    (idle_step m idle.NothingLeft)
    (λ some. steady-by m _ (event.Arrive a.queue next) refl refl refl refl refl refl)
    (λ none. steady-refl m)
steady m (act.Take q) is =
    either (Is m) (is_asking (note_of m q)) (idle_step m idle.HandFull) (by_rx m (event.Take q))
    (λ asks. steady-refl m)
    (λ quiet. steady-by m _ (event.Take q) refl refl refl refl refl refl)
steady m (act.Enter q) is = steady-by m _ (event.Enter q) refl refl refl refl refl refl
steady m (act.Look q) is =
    outside-or m q _
    (either (Is m) (is_nothing (note_of m q)) (look_by m q (to_weigh m.rx q))
    (idle_step m idle.WrongStage) (λ free. by-look m q (to_weigh m.rx q))
    (λ busy. steady-refl m))
steady m (act.Weigh q) is =
    outside-or m q _ (by-weigh m q (note_of m q) (to_weigh m.rx q))
steady m (act.Ask q) is = outside-or m q _ (by-ask m q (note_of m q))
steady m (act.Leave q) is =
    outside-or m q _
    (either (Is m) (is_nothing (note_of m q)) (by_rx m (event.Leave q))
    (idle_step m idle.MidPacket)
    (λ free. steady-by m _ (event.Leave q) refl refl refl refl refl refl)
    (λ busy. steady-refl m))
steady m _ is = absurd (cc)

put-up : (m : Machine) (q : ℕ) → Upstream m (simple m (act.Put q)).0
put-up m q = by-put m q (put_position (happens m.rx (putting m q)).1)

-- the turn of a poller
pub poll-up : (q : ℕ) (t : Progress) → Upstream t.0 (poll q t).0
poll-up q t =
    let a : Progress = tried t (act.Enter q) in
    let b : Progress = tried a (act.Take q) in
    let c : Progress = tried b (act.Look q) in
    let d : Progress = tried c (act.Weigh q) in
    let e : Progress = tried d (act.Put q) in
    let f : Progress = tried e (act.Ask q) in
    let on : (m n : Machine) → Upstream t.0 m → Upstream m n → Upstream t.0 n =
    λ m n one two. up-trans t.0 m n one two in
    on f.0 (poll q t).0
    (on e.0 f.0
    (on d.0 e.0
    (on c.0 d.0
    (on b.0 c.0 (on a.0 b.0 (steady t.0 (act.Enter q) refl).up (steady a.0 (act.Take q) refl).up)
    (steady b.0 (act.Look q) refl).up)
    (steady c.0 (act.Weigh q) refl).up)
    (put-up d.0 q))
    (steady e.0 (act.Ask q) refl).up)
    (steady f.0 (act.Leave q) refl).up

-- ---- what the code knows of each event, and the processors that a poll leaves

abbrev pub Same : ℕ → Machine → Machine → Type 0
Same c m n = accepted_at n.rx.bare c ≡ accepted_at m.rx.bare c

pub accepts-by : (c : ℕ) (m n : Machine) (s : Step) → is_steady s ≡ true
    → n ≡ (simple m s).0 → Same c m n
accepts-by c m n s is to =
    ap (λ (o : Machine). accepted_at o.rx.bare c) to
    ∙ ap (λ (ls : List (List ℕ)). slice_index_or ls c []) (steady m s is).accepted

pub accepts-put : (c q : ℕ) (m n : Machine) → PutsBeside m.rx q c
    → n ≡ (simple m (act.Put q)).0 → Same c m n
accepts-put c q m n other to =
    ap (λ (o : Machine). accepted_at o.rx.bare c) to
    ∙ ap (λ (s : HopState). accepted_at s.bare c)
    (put-rx m q (put_position (happens m.rx (putting m q)).1))
    ∙ put-beside m.rx q c (packet_hash m.setup (last_chosen m.rx q).id) other

pub same-cpu : (c q : ℕ) (m n : Machine) (w x : Bool)
    → ◌≡◌ {A = Progress} (n, x) (poll q (m, w)) → Same c m n → SameCpu c m n
same-cpu c q m n w x turn accepted =
    record {
      accepted = accepted;
      retired =
          ap (λ (t : Progress). retired_at t.0.rx.bare c) turn
          ∙ ap (λ (xs : List ℕ). slice_index xs c) (poll-up q (m, w)).retired;
    }
