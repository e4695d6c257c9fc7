-- Steps of one event that are neither a record nor a command write nothing to the socket flow table
-- and list no command, and no put is undone.
use Rattle.std.proofs.Common.{ℕ, ◌+◌, ◌≤◌, ◌≡◌, Bool, true, false, not, cond, List}
use Rattle.std.proofs.Common.{Option, Some, None, length}
use Rattle.std.proofs.Common.{refl, ap, ◌∙◌, arith, inl, inr, get_or}
use Rattle.std.specs.Prelude.{nat_lt, slice_set}
use Rattle.std.proofs.Math.ListN.{get_or-eq_default}
use Rattle.std.proofs.lemmas.Bool.{cases_eq, cases_lt}
use Rattle.std.proofs.lemmas.List.{get_or-set_other, get_or-set_same}
use Rattle.steer_base.specs.declared.command.Answer.TheVariants as says
use Rattle.steer_base.specs.declared.idle.Idle.TheVariants as idle
use Rattle.steer_base.specs.declared.step.Step.{Step}
use Rattle.steer_base.specs.declared.step.Step.TheVariants as act
use Rattle.hop_model.specs.declared.event.HopEvent.{HopEvent}
use Rattle.hop_model.specs.declared.event.HopEvent.TheVariants as event
use Rattle.hop_model.specs.Events.{happens}
use Rattle.hop_model.specs.Hop.{HopState, inside_of, placed_of, taken_of}
use Rattle.hop_core.specs.Leaves.{Field, changes}
use Rattle.hop_model.specs.Reads.{to_weigh}
use Rattle.hop_core.proofs.Cases.{by_cases}
use Rattle.hop_core.proofs.Leaves.{each_leaves}
use Rattle.steer_model.specs.Steps.Applications.{in_reply, next_in, send_by, sending}
use Rattle.steer_model.specs.State.Machine.{Machine, last_chosen, note_of}
use Rattle.steer_model.specs.State.Notes.{is_asking, is_nothing}
use Rattle.steer_model.specs.Steps.Outcomes.{StepOutcome, by_rx, idle_step}
use Rattle.steer_model.specs.Steps.Pollers.{arrival_by, arrives, ask_by, look_by, put_position}
use Rattle.steer_model.specs.Steps.Pollers.{poller_after_put, putting}
use Rattle.steer_model.specs.Steps.Pollers.{route_by, weigh_by}
use Rattle.steer_model.specs.State.Setup.{packet_hash}
use Rattle.steer_model.specs.Steps.SingleSteps.{simple}
use Rattle.steer_model.specs.declared.note.Note.{Note}
use Rattle.steer_model.specs.declared.note.Note.TheVariants as note
use Rattle.steer_invariant.proofs.EitherLemmas.{either}

-- ---- puts of a hop

set-grows : (xs : List ℕ) (p a : ℕ) → get_or xs a 0 ≤ get_or (slice_set xs p (get_or xs p 0 + 1)) a
    0
set-grows xs p a =
    let v : ℕ = get_or xs p 0 + 1 in
    elim (cases_eq a p) [
      | inr other ↦ (
          let e : get_or (slice_set xs p v) a 0 ≡ get_or xs a 0 =
          get_or-set_other xs p a v 0 other in omega (arith, e))
      | inl same ↦ elim (cases_lt p (length xs)) [
        | inl within ↦ (
            let e : get_or (slice_set xs p v) p 0 ≡ v = get_or-set_same xs p v 0 within in
            rw same (omega (arith, e)))
        | inr past ↦ (
            let e : get_or xs p 0 ≡ 0 = get_or-eq_default xs 0 past in rw same (omega (arith, e)))
      ]
    ]

placed-same : (s t : HopState) (a : ℕ) → t.placed ≡ s.placed → placed_of s a ≤ placed_of t a
placed-same s t a same = let e : placed_of t a ≡ placed_of s a =
    ap (λ (l : List ℕ). get_or l a 0) same in omega (arith, e)

same-event : (s : HopState) (e : HopEvent) (a : ℕ) → changes e Field.placed ≡ false
    → placed_of s a ≤ placed_of (happens s e).0 a
same-event s e a quiet = placed-same s (happens s e).0 a (each_leaves s e Field.placed quiet)

-- no event undoes a put
pub placed-grows : (s : HopState) (e : HopEvent) (a : ℕ) → placed_of s a ≤ placed_of
    (happens s e).0 a
placed-grows s (event.Put p hash) a =
    by_cases (λ t. placed_of s a ≤ placed_of t a) s (event.Put p hash) (omega arith)
    (λ inside more. set-grows s.placed p a)
placed-grows s (event.Arrive p id) a = same-event s (event.Arrive p id) a refl
placed-grows s (event.Take p) a = same-event s (event.Take p) a refl
placed-grows s (event.Enter p) a = same-event s (event.Enter p) a refl
placed-grows s (event.Leave p) a = same-event s (event.Leave p) a refl
placed-grows s (event.Weigh p class want desired online) a =
    same-event s (event.Weigh p class want desired online) a refl
placed-grows s (event.Pull c) a = same-event s (event.Pull c) a refl
placed-grows s (event.Deliver c o) a = same-event s (event.Deliver c o) a refl
placed-grows s (event.Retire c) a = same-event s (event.Retire c) a refl
placed-grows s (event.Resize p count) a = same-event s (event.Resize p count) a refl
placed-grows s event.Close a = same-event s event.Close a refl
placed-grows s event.Reopen a = same-event s event.Reopen a refl

-- ---- quiet steps

pub record Quiet (m n : Machine) : Type 0 where
  pub setup : n.setup ≡ m.setup
  pub writes : n.writes ≡ m.writes
  pub commands : n.commands ≡ m.commands
  pub placed : (a : ℕ) → placed_of m.tx a ≤ placed_of n.tx a

abbrev Stays : Machine → StepOutcome → Type 0
Stays m o = Quiet m o.0

pub quiet-refl : (m : Machine) → Quiet m m
quiet-refl m = record { setup = refl; writes = refl; commands = refl; placed = λ a. omega arith }

pub quiet-trans : (m n o : Machine) → Quiet m n → Quiet n o → Quiet m o
quiet-trans m n o a b =
    record {
      setup = b.setup ∙ a.setup;
      writes = b.writes ∙ a.writes;
      commands = b.commands ∙ a.commands;
      placed = λ p. let x = a.placed p in let y = b.placed p in omega (arith, x, y);
    }

-- a step that leaves the transmit hop, the writes and the commands
module _ (m : Machine) where
  beside : (n : Machine) → n.setup ≡ m.setup → n.writes ≡ m.writes → n.commands ≡ m.commands
      → n.tx ≡ m.tx
      → Quiet m n
  beside n p w c t =
      record {
        setup = p;
        writes = w;
        commands = c;
        placed = λ a. let e : placed_of n.tx a ≡ placed_of m.tx a =
            ap (λ (s : HopState). placed_of s a) t in omega (arith, e);
      }

  idle-stays : (o : StepOutcome) → o.0 ≡ m → Stays m o
  idle-stays o e =
      beside o.0 (ap (λ (n : Machine). n.setup) e) (ap (λ (n : Machine). n.writes) e)
      (ap (λ (n : Machine). n.commands) e) (ap (λ (n : Machine). n.tx) e)

  by-tx : (e : HopEvent) → Quiet m (record m { tx = (happens m.tx e).0 })
  by-tx e = record { setup = refl; writes = refl; commands = refl; placed = placed-grows m.tx e }

  quiet-look : (q : ℕ) (x : Option ℕ) → Stays m (look_by m q x)
  quiet-look q None = quiet-refl m
  quiet-look q (Some x) = beside (look_by m q (Some x)).0 refl refl refl refl

  quiet-weigh : (q : ℕ) (n : Note) (x : Option ℕ) → Stays m (weigh_by m q n x)
  quiet-weigh q note.Nothing x = quiet-refl m
  quiet-weigh q (note.Asking filter) x = quiet-refl m
  quiet-weigh q (note.Looked want) None = quiet-refl m
  quiet-weigh q (note.Looked want) (Some x) =
      beside (weigh_by m q (note.Looked want) (Some x)).0 refl refl refl refl

  quiet-put : (q : ℕ) (position : Option ℕ)
      → Stays m (poller_after_put (by_rx m (putting m q)).0 q position
      (happens m.rx (putting m q)).1)
  quiet-put q None = beside (by_rx m (putting m q)).0 refl refl refl refl
  quiet-put q (Some position) =
      beside (poller_after_put (by_rx m (putting m q)).0 q (Some position)
      (happens m.rx (putting m q)).1).0
      refl refl refl refl

  quiet-ask : (q : ℕ) (n : Note) → Stays m (ask_by m q n)
  quiet-ask q note.Nothing = quiet-refl m
  quiet-ask q (note.Looked want) = quiet-refl m
  quiet-ask q (note.Asking filter) = beside (ask_by m q (note.Asking filter)).0 refl refl refl refl

  quiet-send : (a : ℕ) (x : Option ℕ) → Stays m (send_by m a x)
  quiet-send a None = quiet-refl m
  quiet-send a (Some x) =
      let t : HopState = (happens m.tx (event.Arrive a x)).0 in
      record {
        setup = refl;
        writes = refl;
        commands = refl;
        placed = λ b. (
            let f = placed-grows m.tx (event.Arrive a x) b in
            let g = placed-grows t (event.Take a) b in
            omega (arith, f, g));
      }

  -- the poller is outside, or a further test decides
  outside-or : (q : ℕ) (o : StepOutcome) → Stays m o → Stays m (cond (not (inside_of m.rx q))
      (idle_step m idle.NotInside) o)
  outside-or q o s =
      either (Stays m) (not (inside_of m.rx q)) (idle_step m idle.NotInside) o (λ out. quiet-refl m)
      (λ in'. s)

-- whether a step is one event, and no record
abbrev pub is_quiet : Step → Bool
is_quiet (act.Record flow) = false
is_quiet (act.Give c) = false
is_quiet _ = true

pub quiet-simple : (m : Machine) (s : Step) → is_quiet s ≡ true → Quiet m (simple m s).0
quiet-simple m act.Arrive is =
    either (Stays m) (nat_lt (length m.arrivals) (length m.setup.packets)) (
      arrives m (arrival_by (length m.arrivals)
          (route_by m (packet_hash m.setup (length m.arrivals)))),
      says.Done,
    )
    (idle_step m idle.NothingLeft)
    (λ some. beside m _ refl refl refl refl) (λ none. quiet-refl m)
quiet-simple m (act.Take q) is =
    either (Stays m) (is_asking (note_of m q)) (idle_step m idle.HandFull) (by_rx m (event.Take q))
    (λ asks. quiet-refl m) (λ quiet. beside m _ refl refl refl refl)
quiet-simple m (act.Enter q) is = beside m _ refl refl refl refl
quiet-simple m (act.Look q) is =
    outside-or m q _
    (either (Stays m) (is_nothing (note_of m q)) (look_by m q (to_weigh m.rx q))
    (idle_step m idle.WrongStage)
    (λ free. quiet-look m q (to_weigh m.rx q)) (λ busy. quiet-refl m))
quiet-simple m (act.Weigh q) is = outside-or m q _ (quiet-weigh m q (note_of m q) (to_weigh m.rx q))
quiet-simple m (act.Put q) is = quiet-put m q (put_position (happens m.rx (putting m q)).1)
quiet-simple m (act.Ask q) is = outside-or m q _ (quiet-ask m q (note_of m q))
quiet-simple m (act.Leave q) is =
    outside-or m q _
    (either (Stays m) (is_nothing (note_of m q)) (by_rx m (event.Leave q))
    (idle_step m idle.MidPacket)
    (λ free. beside m _ refl refl refl refl) (λ busy. quiet-refl m))
quiet-simple m (act.Pull c) is = beside m _ refl refl refl refl
quiet-simple m (act.Deliver c) is = beside m _ refl refl refl refl
quiet-simple m (act.Retire c) is = beside m _ refl refl refl refl
quiet-simple m (act.Record flow) is = absurd (cc)
quiet-simple m (act.Send a) is =
    either (Stays m) (nat_lt (placed_of m.tx a) (taken_of m.tx a)) (idle_step m idle.HandFull)
    (send_by m a (next_in m a))
    (λ full. quiet-refl m) (λ free. quiet-send m a (next_in m a))
quiet-simple m (act.TEnter a) is = by-tx m (event.Enter a)
quiet-simple m (act.TLeave a) is = by-tx m (event.Leave a)
quiet-simple m (act.TWeigh a) is = by-tx m (sending m a (in_reply m a))
quiet-simple m (act.TPut a) is = by-tx m (event.Put a (packet_hash m.setup (last_chosen m.tx a).id))
quiet-simple m (act.TPull t) is = by-tx m (event.Pull t)
quiet-simple m (act.TDeliver t) is = by-tx m (event.Deliver t 0)
quiet-simple m (act.TRetire t) is = by-tx m (event.Retire t)
quiet-simple m (act.Give c) is = absurd (cc)
quiet-simple m (act.Poll q) is = quiet-refl m
quiet-simple m (act.Drain c) is = quiet-refl m
quiet-simple m (act.Reply a) is = quiet-refl m
quiet-simple m (act.Serve a) is = quiet-refl m
quiet-simple m (act.Ship t) is = quiet-refl m
quiet-simple m act.Sweep is = quiet-refl m
