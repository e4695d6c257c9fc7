-- A command keeps what the machine's lists say of each other: its answer has a text in a report.
use Rattle.std.proofs.Common.{◌≡◌, true, cond, List, [], ◌∷◌, Option, Some, None, Result, Ok, Err}
use Rattle.std.proofs.Common.{refl}
use Rattle.std.specs.Prelude.{◌==◌}
use Rattle.std.proofs.lemmas.List.Elements.{All-push}
use Rattle.steer_base.specs.Commands.{refusal}
use Rattle.steer_base.specs.declared.command.Answer.{Answer}
use Rattle.steer_base.specs.declared.command.Answer.TheVariants as says
use Rattle.steer_base.specs.declared.command.Busy.{Busy}
use Rattle.steer_base.specs.declared.command.Busy.TheVariants as busy
use Rattle.steer_base.specs.declared.command.Command.{Command}
use Rattle.steer_base.specs.declared.command.Command.TheVariants as give
use Rattle.steer_base.specs.declared.command.Refused.{Refused}
use Rattle.steer_base.specs.declared.command.Refused.TheVariants as refused
use Rattle.hop_model.specs.declared.event.HopEvent.{HopEvent}
use Rattle.hop_model.specs.declared.event.HopEvent.TheVariants as event
use Rattle.hop_model.specs.Emptied.{emptied_of}
use Rattle.hop_model.specs.Events.{run}
use Rattle.hop_model.specs.Hop.{HopState}
use Rattle.history.specs.Regular.{has_text}
use Rattle.steer_model.specs.Steps.Commands.{affects, answer_to, by_gate, gate_answer, given}
use Rattle.steer_model.specs.Steps.Commands.{is_done}
use Rattle.steer_model.specs.Steps.Commands.{listed, refused_answer, refused_or, set_by}
use Rattle.steer_model.specs.State.Machine.{Machine}
use Rattle.steer_invariant.specs.RecordedLists.{IsRecorded}
use Rattle.steer_invariant.proofs.EitherLemmas.{either}
use Rattle.steer_invariant.proofs.Recorded.RowLemmas.{outs-run, recorded-outs}

-- ---- every answer to a command has a text

text-gate : (s : HopState) (empty : Result (Unit {0}) Busy)
    → has_text (gate_answer s empty) ≡ true
text-gate s (Ok nothing) =
    either (λ a. has_text a ≡ true) (s.bare.inside == 0) says.Done
    (says.Busy (busy.Inside s.bare.inside)) (λ _. refl) (λ _. refl)
text-gate s (Err why) =
    either (λ a. has_text a ≡ true) (s.bare.inside == 0) (says.Busy why)
    (says.Busy (busy.Inside s.bare.inside)) (λ _. refl) (λ _. refl)

module _ (m : Machine) where
  text-rx : (c : Command)
      → has_text (gate_answer m.rx (emptied_of m.rx (affects m.setup c))) ≡ true
  text-rx c = text-gate m.rx (emptied_of m.rx (affects m.setup c))

  text-tx : (c : Command)
      → has_text (gate_answer m.tx (emptied_of m.tx (affects m.setup c))) ≡ true
  text-tx c = text-gate m.tx (emptied_of m.tx (affects m.setup c))

  text-by_gate : (c : Command) → has_text (by_gate m c) ≡ true
  text-by_gate (give.Mask q mask) = text-rx (give.Mask q mask)
  text-by_gate (give.Flows q count) = text-rx (give.Flows q count)
  text-by_gate (give.Sock size) = text-rx (give.Sock size)
  text-by_gate (give.Offline cpu) = text-rx (give.Offline cpu)
  text-by_gate (give.Online cpu) = text-rx (give.Online cpu)
  text-by_gate (give.XCpus tx mask) = text-tx (give.XCpus tx mask)
  text-by_gate (give.XQueues tx queues) = text-tx (give.XQueues tx queues)
  text-by_gate (give.Reta place q) = refl
  text-by_gate (give.Stand app cpu) = refl
  text-by_gate give.Expire = refl

text-refused : (why : Refused) → has_text (refused_answer why) ≡ true
text-refused (refused.CpuInUse user) = refl
text-refused refused.CpuOffline = refl
text-refused refused.AlreadyOnline = refl

text-refused_or : (why : Option Refused) (a : Answer) → has_text a ≡ true
    → has_text (refused_or why a) ≡ true
text-refused_or None a h = h
text-refused_or (Some why) a h = text-refused why

pub text-answer : (m : Machine) (c : Command) → has_text (answer_to m c) ≡ true
text-answer m c =
    text-refused_or (refusal m.settings.online c m.setup.homes m.settings.stands) (by_gate m c)
    (text-by_gate m c)

-- ---- commands

pub recorded-set : (m : Machine) (c : Command) → IsRecorded m → IsRecorded (set_by m c)
recorded-set m (give.Mask q mask) r = r
recorded-set m (give.Flows q count) r =
    let es : List HopEvent = event.Close ∷ event.Resize q count ∷ event.Reopen ∷ [] in
    recorded-outs m (run es m.rx) (outs-run es m.rx (refl, (refl, (refl, tt)))) r
recorded-set m (give.Sock size) r = r
recorded-set m (give.Offline cpu) r = r
recorded-set m (give.Online cpu) r = r
recorded-set m (give.XCpus tx mask) r = r
recorded-set m (give.XQueues tx queues) r = r
recorded-set m (give.Reta place q) r = r
recorded-set m (give.Stand app cpu) r = r
recorded-set m give.Expire r = r

pub recorded-listed : (m : Machine) (c : Command) (a : Answer) → has_text a ≡ true → IsRecorded m
    → IsRecorded (listed m c a)
recorded-listed m c a text r =
    assumption (
    All-push (λ d. has_text d.answer ≡ true) m.commands (record { command = c; answer = a })
    r.told text)

pub recorded-give : (m : Machine) (c : Command) → IsRecorded m → IsRecorded (given m c).0
recorded-give m c r =
    recorded-listed (cond (is_done (answer_to m c)) (set_by m c) m) c (answer_to m c)
    (text-answer m c)
    (either IsRecorded (is_done (answer_to m c)) (set_by m c) m (λ _. recorded-set m c r) (λ _. r))
