-- An event that is idle leaves a hop as it was, and a step that is idle the machine.
use Rattle.std.proofs.Common.{ℕ, ◌%◌, ◌≡◌, ◌∙◌, sym, Bool, true, false, Option, Some, None, refl}
use Rattle.std.proofs.Common.{ap, length}
use Rattle.std.specs.Prelude.{if◌then◌else◌, ◌==◌, nat_lt, not}
use Rattle.steer_base.specs.declared.cpu_mask.CpuMask.{CpuMask}
use Rattle.steer_base.specs.Choices.{desired_cpu}
use Rattle.steer_base.specs.declared.command.Answer.TheVariants as says
use Rattle.steer_base.specs.declared.idle.Idle.{Idle}
use Rattle.steer_base.specs.declared.idle.Idle.TheVariants as idle
use Rattle.steer_base.specs.declared.put.Put.TheVariants as went
use Rattle.steer_base.specs.declared.step.Step.{Step}
use Rattle.steer_base.specs.declared.step.Step.TheVariants as act
use Rattle.hop_model.specs.declared.event.HopAnswer.{HopAnswer}
use Rattle.hop_model.specs.declared.event.HopAnswer.TheVariants as answer
use Rattle.hop_model.specs.declared.event.HopEvent.{HopEvent}
use Rattle.hop_model.specs.declared.event.HopEvent.TheVariants as event
use Rattle.hop_model.specs.Events.{Outcome as HopOutcome, happens}
use Rattle.hop_model.specs.Hop.{HopState, accepted_at, arrivals_of, choices_of, delivered_at}
use Rattle.hop_model.specs.Hop.{inside_of, placed_of}
use Rattle.hop_model.specs.Hop.{next_of, pulled_at, retired_at, taken_of}
use Rattle.hop_model.specs.Reads.{to_weigh}
use Rattle.steer_model.specs.Steps.Applications.{in_lane, in_reply, next_in, record_by, send_by}
use Rattle.steer_model.specs.Steps.Applications.{sending}
use Rattle.steer_model.specs.Steps.Applications.{visited, wrote}
use Rattle.steer_model.specs.State.Machine.{Machine, last_chosen, note_of}
use Rattle.steer_model.specs.State.Notes.{is_asking, is_nothing}
use Rattle.steer_model.specs.Steps.Outcomes.{StepOutcome, told}
use Rattle.steer_model.specs.Steps.Pollers.{ask_by, look_by, put_position, poller_after_put}
use Rattle.steer_model.specs.Steps.Pollers.{putting, weigh_by}
use Rattle.steer_model.specs.State.Settings.{class_at, plain_lane}
use Rattle.steer_model.specs.State.Setup.{app_for, flow_hash, packet_hash}
use Rattle.steer_model.specs.Steps.SingleSteps.{is_command, simple}
use Rattle.steer_model.specs.declared.note.Note.{Note}
use Rattle.steer_model.specs.declared.note.Note.TheVariants as note

-- ---- a hop

-- an outcome that is idle leaves the hop
pub record HopLeaves (s : HopState) (o : HopOutcome) : Type 0 where
  pub same : (why : Idle) → told o.1 ≡ says.Idle why → o.0 ≡ s

hop-if : (s : HopState) (b : Bool) (x y : HopOutcome) → HopLeaves s x → HopLeaves s y
    → HopLeaves s (if b then x else y)
hop-if s true x y p q = p
hop-if s false x y p q = q

hop-idle : (s : HopState) (why : Idle) → HopLeaves s (s, answer.Idle why)
hop-idle s why = record { same = λ again e. refl }

hop-done : (s t : HopState) (a : HopAnswer) → told a ≡ says.Done → HopLeaves s (t, a)
hop-done s t a done = record { same = λ why e. cc }

pub happens-idle : (s : HopState) (e : HopEvent) → HopLeaves s (happens s e)
happens-idle s (event.Arrive p id) = hop-done s _ _ refl
happens-idle s (event.Take p) =
    hop-if s (nat_lt (placed_of s p) (taken_of s p)) _ _ (hop-idle s _)
    (hop-if s (nat_lt (taken_of s p) (length (arrivals_of s p))) _ _ (hop-done s _ _ refl)
    (hop-idle s _))
happens-idle s (event.Enter a) =
    hop-if s (inside_of s a) _ _ (hop-idle s _)
    (hop-if s s.bare.closed _ _ (hop-done s _ _ refl) (hop-done s _ _ refl))
happens-idle s (event.Leave a) =
    hop-if s (not (inside_of s a)) _ _ (hop-idle s _)
    (hop-if s (nat_lt (placed_of s a) (length (choices_of s a))) _ _ (hop-idle s _)
    (hop-done s _ _ refl))
happens-idle s (event.Weigh p class want desired online) =
    hop-if s (not (inside_of s p)) _ _ (hop-idle s _)
    (hop-if s (nat_lt (length (choices_of s p)) (taken_of s p)) _ _ (hop-done s _ _ refl)
    (hop-idle s _))
happens-idle s (event.Put p hash) =
    hop-if s (not (inside_of s p)) _ _ (hop-idle s _)
    (hop-if s (nat_lt (placed_of s p) (length (choices_of s p))) _ _ (hop-done s _ _ refl)
    (hop-idle s _))
happens-idle s (event.Pull c) =
    hop-if s (nat_lt (retired_at s.bare c) (pulled_at s.bare c)) _ _ (hop-idle s _)
    (hop-if s (nat_lt (pulled_at s.bare c) (length (accepted_at s.bare c))) _ _
    (hop-done s _ _ refl) (hop-idle s _))
happens-idle s (event.Deliver c o) =
    hop-if s (nat_lt (delivered_at s.bare c) (pulled_at s.bare c)) _ _ (hop-done s _ _ refl)
    (hop-if s (nat_lt (retired_at s.bare c) (delivered_at s.bare c)) _ _ (hop-idle s _)
    (hop-idle s _))
happens-idle s (event.Retire c) =
    hop-if s (nat_lt (retired_at s.bare c) (delivered_at s.bare c)) _ _ (hop-done s _ _ refl)
    (hop-if s (nat_lt (delivered_at s.bare c) (pulled_at s.bare c)) _ _ (hop-idle s _)
    (hop-idle s _))
happens-idle s (event.Resize p count) = hop-done s _ _ refl
happens-idle s event.Close =
    hop-if s (s.bare.inside == 0) _ _ (hop-done s _ _ refl) (hop-done s _ _ refl)
happens-idle s event.Reopen = hop-done s _ _ refl

-- ---- the machine

record Leaves (m : Machine) (o : StepOutcome) : Type 0 where
  same : (why : Idle) → o.1 ≡ says.Idle why → o.0 ≡ m

leaves-if : (m : Machine) (b : Bool) (x y : StepOutcome) → Leaves m x → Leaves m y
    → Leaves m (if b then x else y)
leaves-if m true x y p q = p
leaves-if m false x y p q = q

leaves-idle : (m : Machine) (why : Idle) → Leaves m (m, says.Idle why)
leaves-idle m why = record { same = λ again e. refl }

leaves-done : (m n : Machine) → Leaves m (n, says.Done)
leaves-done m n = record { same = λ why e. cc }

leaves-rx : (m : Machine) (e : HopEvent)
    → Leaves m (record m { rx = (happens m.rx e).0 }, told (happens m.rx e).1)
leaves-rx m e = record {
  same = λ why idle. ap (λ s. record m { rx = s })
      ((happens-idle m.rx e).same why idle);
}

leaves-tx : (m : Machine) (e : HopEvent)
    → Leaves m (record m { tx = (happens m.tx e).0 }, told (happens m.tx e).1)
leaves-tx m e = record {
  same = λ why idle. ap (λ s. record m { tx = s })
      ((happens-idle m.tx e).same why idle);
}

leaves-look : (m : Machine) (q : ℕ) (x : Option ℕ) → Leaves m (look_by m q x)
leaves-look m q (Some x) = leaves-done m _
leaves-look m q None = leaves-idle m _

leaves-put : (m n : Machine) (q : ℕ) (a : HopAnswer) → Leaves m (n, told a)
    → Leaves m (poller_after_put n q (put_position a) a)
leaves-put m n q (answer.Went (went.At position)) same = leaves-done m _
leaves-put m n q (answer.Went (went.Dropped number accepted pulled cause)) same = same
leaves-put m n q answer.Done same = same
leaves-put m n q (answer.Chose c) same = same
leaves-put m n q (answer.Took x) same = same
leaves-put m n q (answer.Position x) same = same
leaves-put m n q (answer.Idle why) same = same
leaves-put m n q (answer.Inside x) same = same
leaves-put m n q answer.Closed same = same

leaves-ask : (m : Machine) (q : ℕ) (n : Note) → Leaves m (ask_by m q n)
leaves-ask m q note.Nothing = leaves-idle m _
leaves-ask m q (note.Looked want) = leaves-idle m _
leaves-ask m q (note.Asking filter) = leaves-done m _

leaves-record : (m : Machine) (hash : Option (Option ℕ)) → Leaves m (record_by m hash)
leaves-record m None = leaves-idle m _
leaves-record m (Some None) = leaves-idle m _
leaves-record m (Some (Some hash)) =
    leaves-if m (nat_lt 0 (length m.socket)) (
      wrote (visited m (hash % m.setup.apps))
          (hash % m.setup.apps) hash,
      says.Done,
    ) _
    (leaves-done m _) (leaves-idle m idle.NoTable)

leaves-send : (m : Machine) (a : ℕ) (x : Option ℕ) → Leaves m (send_by m a x)
leaves-send m a (Some x) = leaves-done m _
leaves-send m a None = leaves-idle m _

leaves-inside : (m : Machine) (b : Bool) (why : Idle) (y : StepOutcome) → (b ≡ true → Leaves m y)
    → Leaves m (if not b then (m, says.Idle why) else y)
leaves-inside m true why y p = p refl
leaves-inside m false why y p = leaves-idle m why

-- a weighing inside the gate with a packet to weigh is done
pub weighs : (s : HopState) (p : ℕ) (class want : Option ℕ) (desired : ℕ) (online : CpuMask)
    → inside_of s p ≡ true → nat_lt (length (choices_of s p)) (taken_of s p) ≡ true
    → told (happens s (event.Weigh p class want desired online)).1 ≡ says.Done
weighs s p class want desired online inside taken = rw (inside, taken) refl

done-idle : (why : Idle) → says.Done ≡ says.Idle why → ⊥
done-idle why e = cc

leaves-weigh : (m : Machine) (q x : ℕ) (n : Note) (b : Bool) → inside_of m.rx q ≡ true
    → nat_lt (length (choices_of m.rx q)) (taken_of m.rx q) ≡ b
    → Leaves m (weigh_by m q n (if b then Some x else None))
leaves-weigh m q x (note.Looked want) true inside taken =
    let class : Option ℕ = class_at m.setup m.settings q x in
    let desired : ℕ = desired_cpu class want m.settings.online
    (plain_lane m.setup m.settings q x) in
    let done = weighs m.rx q class want desired m.settings.online inside taken in
    record { same = λ why e. absurd (done-idle why (sym done ∙ e)) }
leaves-weigh m q x (note.Looked want) false inside taken = leaves-idle m _
leaves-weigh m q x note.Nothing b inside taken = leaves-idle m _
leaves-weigh m q x (note.Asking filter) b inside taken = leaves-idle m _

simple-idle : (m : Machine) (s : Step) → is_command s ≡ false → Leaves m (simple m s)
simple-idle m act.Arrive event_alone =
    leaves-if m (nat_lt (length m.arrivals) (length m.setup.packets)) _ _ (leaves-done m _)
    (leaves-idle m _)
simple-idle m (act.Take q) event_alone =
    leaves-if m (is_asking (note_of m q)) _ _ (leaves-idle m _) (leaves-rx m (event.Take q))
simple-idle m (act.Enter q) event_alone = leaves-rx m (event.Enter q)
simple-idle m (act.Look q) event_alone =
    leaves-if m (not (inside_of m.rx q)) _ _ (leaves-idle m _)
    (leaves-if m (is_nothing (note_of m q)) _ _ (leaves-look m q (to_weigh m.rx q))
    (leaves-idle m _))
simple-idle m (act.Weigh q) event_alone =
    leaves-inside m (inside_of m.rx q) _ _
    (λ inside. leaves-weigh m q (next_of m.rx q) (note_of m q) _ inside refl)
simple-idle m (act.Put q) event_alone = leaves-put m _ q _ (leaves-rx m (putting m q))
simple-idle m (act.Ask q) event_alone =
    leaves-if m (not (inside_of m.rx q)) _ _ (leaves-idle m _) (leaves-ask m q (note_of m q))
simple-idle m (act.Leave q) event_alone =
    leaves-if m (not (inside_of m.rx q)) _ _ (leaves-idle m _)
    (leaves-if m (is_nothing (note_of m q)) _ _ (leaves-rx m (event.Leave q)) (leaves-idle m _))
simple-idle m (act.Pull c) event_alone = leaves-rx m (event.Pull c)
simple-idle m (act.Deliver c) event_alone =
    leaves-rx m (event.Deliver c (app_for m.setup (in_lane m.rx c)))
simple-idle m (act.Retire c) event_alone = leaves-rx m (event.Retire c)
simple-idle m (act.Record flow) event_alone = leaves-record m (flow_hash m.setup flow)
simple-idle m (act.Send a) event_alone =
    leaves-if m (nat_lt (placed_of m.tx a) (taken_of m.tx a)) _ _ (leaves-idle m _)
    (leaves-send m a (next_in m a))
simple-idle m (act.TEnter a) event_alone = leaves-tx m (event.Enter a)
simple-idle m (act.TLeave a) event_alone = leaves-tx m (event.Leave a)
simple-idle m (act.TWeigh a) event_alone = leaves-tx m (sending m a (in_reply m a))
simple-idle m (act.TPut a) event_alone =
    leaves-tx m (event.Put a (packet_hash m.setup (last_chosen m.tx a).id))
simple-idle m (act.TPull t) event_alone = leaves-tx m (event.Pull t)
simple-idle m (act.TDeliver t) event_alone = leaves-tx m (event.Deliver t 0)
simple-idle m (act.TRetire t) event_alone = leaves-tx m (event.Retire t)
simple-idle m (act.Give c) event_alone = cc
simple-idle m (act.Poll q) event_alone = leaves-idle m _
simple-idle m (act.Drain c) event_alone = leaves-idle m _
simple-idle m (act.Reply a) event_alone = leaves-idle m _
simple-idle m (act.Serve a) event_alone = leaves-idle m _
simple-idle m (act.Ship t) event_alone = leaves-idle m _
simple-idle m act.Sweep event_alone = leaves-idle m _

pub idle_leaves_all : (m : Machine) (s : Step) (why : Idle) → is_command s ≡ false
    → (simple m s).1 ≡ says.Idle why → (simple m s).0 ≡ m
idle_leaves_all m s why alone idle = (simple-idle m s alone).same why idle
