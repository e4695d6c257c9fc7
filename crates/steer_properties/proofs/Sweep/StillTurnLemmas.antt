-- What stands still in a turn in which no work was done.
use Rattle.std.proofs.Common.{ℕ, ◌+◌, ◌≡◌, false, Option, Some, None, length, refl, ◌∙◌, cond, sym}
use Rattle.std.proofs.Common.{subst, inl, inr}
use Rattle.std.specs.Prelude.{◌%◌, nat_lt, not}
use Rattle.std.proofs.lemmas.Bool.{cases_Bool}
use Rattle.steer_base.specs.declared.command.Answer.TheVariants as says
use Rattle.steer_base.specs.declared.idle.Idle.TheVariants as idle
use Rattle.steer_base.specs.declared.step.Step.{Step}
use Rattle.steer_base.specs.declared.step.Step.TheVariants as act
use Rattle.hop_model.specs.declared.event.HopEvent.{HopEvent}
use Rattle.hop_model.specs.declared.event.HopEvent.TheVariants as event
use Rattle.hop_model.specs.Events.{happens}
use Rattle.hop_model.specs.Hop.{HopState, inside_of}
use Rattle.hop_core.specs.Leaves.{Field, changes}
use Rattle.hop_core.proofs.Leaves.{each_leaves}
use Rattle.steer_model.specs.Steps.Applications.{record_by, visited, wrote}
use Rattle.steer_model.specs.State.Machine.{Machine, note_of}
use Rattle.steer_model.specs.State.Notes.{is_nothing}
use Rattle.steer_model.specs.Steps.Outcomes.{StepOutcome, by_rx, idle_step}
use Rattle.steer_model.specs.State.Setup.{Setup, flow_hash}
use Rattle.steer_model.specs.Steps.SingleSteps.{is_work, simple}
use Rattle.steer_model.specs.Steps.CompoundSteps.{Progress, tried}
use Rattle.steer_invariant.specs.StepInvariant.{IsNamed, StepInvariant}
use Rattle.steer_invariant.proofs.EitherLemmas.{either}
use Rattle.steer_properties.proofs.Sweep.IdleTurnLemmas.{idle-leaves, tried-before, tried-idle}
use Rattle.steer_invariant.proofs.StepInvariant.SingleStepLemmas.{goes-simple}
use Rattle.steer_invariant.proofs.TurnLiftLemmas.{IsTried}

-- ---- what entering, leaving and recording leave

-- the lists of a hop but for who is inside
pub record StillHop (s t : HopState) : Type 0 where
  pub arrivals : t.arrivals ≡ s.arrivals
  pub placed : t.placed ≡ s.placed
  pub accepted : t.bare.accepted ≡ s.bare.accepted
  pub retired : t.bare.retired ≡ s.bare.retired
  pub outs : t.bare.outs ≡ s.bare.outs

pub record Still (m n : Machine) : Type 0 where
  pub setup : n.setup ≡ m.setup
  pub arrivals : n.arrivals ≡ m.arrivals
  pub notes : n.notes ≡ m.notes
  pub sent : n.sent ≡ m.sent
  pub rx : StillHop m.rx n.rx
  pub tx : StillHop m.tx n.tx

still-hop : (s : HopState) → StillHop s s
still-hop s =
    record { arrivals = refl; placed = refl; accepted = refl; retired = refl; outs = refl }

hop-then : (s t u : HopState) → StillHop s t → StillHop t u → StillHop s u
hop-then s t u a b =
    record {
      arrivals = b.arrivals ∙ a.arrivals;
      placed = b.placed ∙ a.placed;
      accepted = b.accepted ∙ a.accepted;
      retired = b.retired ∙ a.retired;
      outs = b.outs ∙ a.outs;
    }

pub still : (m : Machine) → Still m m
still m =
    record {
      setup = refl;
      arrivals = refl;
      notes = refl;
      sent = refl;
      rx = still-hop m.rx;
      tx =
          still-hop m.tx;
    }

pub still-then : (m n o : Machine) → Still m n → Still n o → Still m o
still-then m n o a b =
    record {
      setup = b.setup ∙ a.setup;
      arrivals = b.arrivals ∙ a.arrivals;
      notes = b.notes ∙ a.notes;
      sent = b.sent ∙ a.sent;
      rx = hop-then m.rx n.rx o.rx a.rx b.rx;
      tx = hop-then m.tx n.tx o.tx a.tx b.tx;
    }

pub still-same : (m n : Machine) → n ≡ m → Still m n
still-same m n e = subst (λ (x : Machine). Still m x) (sym e) (still m)

hop-leaves : (s : HopState) (e : HopEvent) → changes e Field.arrivals ≡ false
    → changes e Field.placed ≡ false → changes e Field.accepted ≡ false
    → changes e Field.retired ≡ false → changes e Field.outs ≡ false → StillHop s (happens s e).0
hop-leaves s e a p c r o =
    record {
      arrivals = each_leaves s e Field.arrivals a;
      placed = each_leaves s e Field.placed p;
      accepted = each_leaves s e Field.accepted c;
      retired = each_leaves s e Field.retired r;
      outs = each_leaves s e Field.outs o;
    }

hop-enters : (s : HopState) (a : ℕ) → StillHop s (happens s (event.Enter a)).0
hop-enters s a = hop-leaves s (event.Enter a) refl refl refl refl refl

hop-left : (s : HopState) (a : ℕ) → StillHop s (happens s (event.Leave a)).0
hop-left s a = hop-leaves s (event.Leave a) refl refl refl refl refl

still-rx : (m : Machine) (t : HopState) → StillHop m.rx t → Still m (record m { rx = t })
still-rx m t h =
    record { setup = refl; arrivals = refl; notes = refl; sent = refl; rx = h; tx = still-hop m.tx }

still-tx : (m : Machine) (t : HopState) → StillHop m.tx t → Still m (record m { tx = t })
still-tx m t h =
    record { setup = refl; arrivals = refl; notes = refl; sent = refl; rx = still-hop m.rx; tx = h }

-- ---- an event that is no work

record-stays : (m : Machine) (hash : Option (Option ℕ)) → Still m (record_by m hash).0
record-stays m None = still m
record-stays m (Some None) = still m
record-stays m (Some (Some hash)) =
    let a : ℕ = hash % m.setup.apps in
    let g : ℕ = length m.setup.homes + a in
    let t : HopState = (happens m.rx (event.Enter g)).0 in
    let u : HopState = (happens t (event.Leave g)).0 in
    let n : Machine = visited m a in
    either (λ (o : StepOutcome). Still m o.0) (nat_lt 0 (length m.socket))
    (wrote n a hash, says.Done)
    (idle_step m idle.NoTable)
    (λ full. record {
      setup = refl;
      arrivals = refl;
      notes = refl;
      sent = refl;
      rx = hop-then m.rx t u (hop-enters m.rx g) (hop-left t g);
      tx = still-hop m.tx;
    })
    (λ empty. still m)

pub leave-stays : (m : Machine) (q : ℕ) → Still m (simple m (act.Leave q)).0
leave-stays m q =
    let out' : StepOutcome = by_rx m (event.Leave q) in
    let rest : StepOutcome = cond (is_nothing (note_of m q)) out' (idle_step m idle.MidPacket) in
    either (λ (o : StepOutcome). Still m o.0) (not (inside_of m.rx q))
    (idle_step m idle.NotInside) rest
    (λ e. still m)
    (λ e. either (λ (o : StepOutcome). Still m o.0) (is_nothing (note_of m q)) out'
    (idle_step m idle.MidPacket)
    (λ f. still-rx m (happens m.rx (event.Leave q)).0 (hop-left m.rx q)) (λ f. still m))

-- what is no work and no command leaves all but who is inside, and the socket flow table
pub still-event : (m : Machine) (s : Step) → is_work s ≡ false → Still m (simple m s).0
still-event m (act.Enter q) e = still-rx m (happens m.rx (event.Enter q)).0 (hop-enters m.rx q)
still-event m (act.Leave q) e = leave-stays m q
still-event m (act.TEnter a) e = still-tx m (happens m.tx (event.Enter a)).0 (hop-enters m.tx a)
still-event m (act.TLeave a) e = still-tx m (happens m.tx (event.Leave a)).0 (hop-left m.tx a)
still-event m (act.Record flow) e = record-stays m (flow_hash m.setup flow)
still-event m _ e = absurd (cc)

-- ---- a turn in which no work was done

-- from a turn on: the invariant, and if no work was done until then all stands still
pub record Quiet (p : Setup) (t u : Progress) : Type 0 where
  pub setup : u.0.setup ≡ p
  pub kept : StepInvariant u.0
  pub still : u.1 ≡ false → (t.1 ≡ false) × Still t.0 u.0

pub quiet-start : (p : Setup) (t : Progress) → t.0.setup ≡ p → StepInvariant t.0 → Quiet p t t
quiet-start p t is k = record { setup = is; kept = k; still = λ none. (none, still t.0) }

pub quiet-tried : (p : Setup) (t u : Progress) (s : Step) → IsTried p s → Quiet p t u
    → Quiet p t (tried u s)
quiet-tried p t u s is q =
    let g = goes-simple u.0 q.kept s (subst (λ (r : Setup). IsNamed r s) (sym q.setup) is.named) in
    record {
      setup = g.setup ∙ q.setup;
      kept = g.kept;
      still = λ none. (
          let before = q.still (tried-before u s none) in (
            before.0,
            elim (cases_Bool (is_work s)) [
              | inl work ↦
                  still-then t.0 u.0 (tried u s).0 before.1
                  (still-same u.0 (tried u s).0
                  (idle-leaves u.0 s is.event (tried-idle u s work none)))
              | inr rest ↦ still-then t.0 u.0 (tried u s).0 before.1 (still-event u.0 s rest)
            ],
          ));
    }

pub quiet-then : (p : Setup) (t u v : Progress) → Quiet p t u → Quiet p u v → Quiet p t v
quiet-then p t u v a b =
    record {
      setup = b.setup;
      kept = b.kept;
      still = λ none. (
          let last = b.still none in let first = a.still last.0 in
          (first.0, still-then t.0 u.0 v.0 first.1 last.1));
    }
