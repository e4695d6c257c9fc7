-- Every step of one event and every command keeps the ranges of what filters and flow counts name.
use Rattle.std.proofs.Common.{ℕ, ◌<◌, ◌≡◌, not, Option, Some, None, length, refl}
use Rattle.std.specs.Prelude.{nat_lt}
use Rattle.std.proofs.lemmas.Bool.{ltb-true}
use Rattle.steer_base.specs.declared.step.Step.{Step}
use Rattle.steer_base.specs.declared.step.Step.TheVariants as act
use Rattle.hop_model.specs.Events.{happens}
use Rattle.hop_model.specs.Hop.{inside_of, placed_of, taken_of}
use Rattle.hop_model.specs.Reads.{to_weigh}
use Rattle.steer_model.specs.Steps.Applications.{next_in, record_by, send_by}
use Rattle.steer_model.specs.Steps.Commands.{answer_to, is_done, set_by}
use Rattle.steer_model.specs.State.Machine.{Machine, last_chosen, note_of}
use Rattle.steer_model.specs.State.Notes.{is_asking, is_nothing}
use Rattle.steer_model.specs.Steps.Outcomes.{StepOutcome, by_rx}
use Rattle.steer_model.specs.Steps.Pollers.{ask_by, look_by, poller_after_put, putting, weigh_by}
use Rattle.steer_model.specs.State.Setup.{flow_hash, packet_hash}
use Rattle.steer_model.specs.Steps.SingleSteps.{simple}
use Rattle.steer_model.specs.declared.note.Note.{Note}
use Rattle.steer_model.specs.declared.note.Note.TheVariants as note
use Rattle.steer_invariant.specs.StepInvariant.{IsNamed, StepInvariant}
use Rattle.steer_invariant.specs.Ranges.{IsRanged}
use Rattle.steer_invariant.proofs.EitherLemmas.{either}
use Rattle.steer_invariant.proofs.StepInvariant.PutLemmas.{kept_put}
use Rattle.steer_invariant.proofs.Ranges.RangeLemmas.{last_below, ranged-ask, ranged-asking}
use Rattle.steer_invariant.proofs.Ranges.RangeLemmas.{ranged-noted}
use Rattle.steer_invariant.proofs.Ranges.RangeLemmas.{ranged-set}

-- an outcome with a machine in which the ranges are kept
abbrev Then : StepOutcome → Type 0
Then o = IsRanged o.0

module _ (m : Machine) (r : IsRanged m) where
  ranged-look : (q : ℕ) (x : Option ℕ) → Then (look_by m q x)
  ranged-look q None = r
  ranged-look q (Some x) = ranged-noted m q (note.Looked _) (λ f e. absurd (cc)) r

  ranged-weigh : (q : ℕ) (n : Note) (x : Option ℕ) → Then (weigh_by m q n x)
  ranged-weigh q note.Nothing x = r
  ranged-weigh q (note.Looked want) None = r
  ranged-weigh q (note.Looked want) (Some x) =
      ranged-noted m q note.Nothing (λ f e. absurd (cc)) r
  ranged-weigh q (note.Asking filter) x = r

  ranged-put : (q : ℕ) (position : Option ℕ) → q < length m.setup.homes → StepInvariant m
      → Then (poller_after_put (by_rx m (putting m q)).0 q position (happens m.rx (putting m q)).1)
  ranged-put q None named k = r
  ranged-put q (Some position) named k =
      let n : Machine = (by_rx m (putting m q)).0 in
      let hash : Option ℕ = packet_hash m.setup (last_chosen m.rx q).id in
      ranged-asking n q (length m.filters) position (last_chosen n.rx q).choice
      (last_below n q (kept_put m q hash n.rx named refl k)) r

  ranged-ask-by : (q : ℕ) (n : Note) → note_of m q ≡ n → Then (ask_by m q n)
  ranged-ask-by q note.Nothing is = r
  ranged-ask-by q (note.Looked want) is = r
  ranged-ask-by q (note.Asking filter) is =
      ranged-ask m q filter (packet_hash m.setup (last_chosen m.rx q).id) is r

  ranged-record : (hash : Option (Option ℕ)) → Then (record_by m hash)
  ranged-record None = r
  ranged-record (Some None) = r
  ranged-record (Some (Some hash)) =
      either Then (nat_lt 0 (length m.socket)) _ _ (λ _. r) (λ _. r)

  ranged-send : (a : ℕ) (x : Option ℕ) → Then (send_by m a x)
  ranged-send a None = r
  ranged-send a (Some x) = r

  pub ranged-simple : (s : Step) → IsNamed m.setup s → StepInvariant m → IsRanged (simple m s).0
  ranged-simple act.Arrive named k =
      either Then (nat_lt (length m.arrivals) (length m.setup.packets)) _ _ (λ _. r) (λ _. r)
  ranged-simple (act.Take q) named k =
      either Then (is_asking (note_of m q)) _ _ (λ _. r) (λ _. r)
  ranged-simple (act.Enter q) named k = r
  ranged-simple (act.Look q) named k =
      either Then (not (inside_of m.rx q)) _ _ (λ _. r)
      (λ _. either Then (is_nothing (note_of m q)) _ _
      (λ _. ranged-look q (to_weigh m.rx q)) (λ _. r))
  ranged-simple (act.Weigh q) named k =
      either Then (not (inside_of m.rx q)) _ _ (λ _. r)
      (λ _. ranged-weigh q (note_of m q) (to_weigh m.rx q))
  ranged-simple (act.Put q) named k = ranged-put q _ (ltb-true _ _ named) k
  ranged-simple (act.Ask q) named k =
      either Then (not (inside_of m.rx q)) _ _ (λ _. r) (λ _. ranged-ask-by q (note_of m q) refl)
  ranged-simple (act.Leave q) named k =
      either Then (not (inside_of m.rx q)) _ _ (λ _. r)
      (λ _. either Then (is_nothing (note_of m q)) _ _ (λ _. r) (λ _. r))
  ranged-simple (act.Pull c) named k = r
  ranged-simple (act.Deliver c) named k = r
  ranged-simple (act.Retire c) named k = r
  ranged-simple (act.Record flow) named k = ranged-record (flow_hash m.setup flow)
  ranged-simple (act.Send a) named k =
      either Then (nat_lt (placed_of m.tx a) (taken_of m.tx a)) _ _ (λ _. r)
      (λ _. ranged-send a (next_in m a))
  ranged-simple (act.TEnter a) named k = r
  ranged-simple (act.TLeave a) named k = r
  ranged-simple (act.TWeigh a) named k = r
  ranged-simple (act.TPut a) named k = r
  ranged-simple (act.TPull t) named k = r
  ranged-simple (act.TDeliver t) named k = r
  ranged-simple (act.TRetire t) named k = r
  ranged-simple (act.Give c) named k =
      either IsRanged (is_done (answer_to m c)) (set_by m c) m (λ _. ranged-set m c named r)
      (λ _. r)
  ranged-simple (act.Poll q) named k = r
  ranged-simple (act.Drain c) named k = r
  ranged-simple (act.Reply a) named k = r
  ranged-simple (act.Serve a) named k = r
  ranged-simple (act.Ship t) named k = r
  ranged-simple act.Sweep named k = r
