-- Each reply keeps a processor where its application stood.
use Rattle.std.proofs.Common.{ℕ, ◌<◌, ◌≡◌, List, [], length, refl, sym, subst, get_or}
use Rattle.std.specs.List.{All}
use Rattle.std.proofs.lemmas.List.Elements.{All-nil}
use Rattle.history.specs.Lists.{list_at}
use Rattle.hop_model.specs.Hop.{next_of}
use Rattle.history.specs.declared.sent.Sent.{Sent}
use Rattle.steer_base.specs.declared.step.Step.{Step}
use Rattle.steer_model.specs.Steps.Applications.{reply_to, sends}
use Rattle.steer_model.specs.Good.Writes.{StoodAt}
use Rattle.steer_model.specs.Good.Inputs.{Input, setup_in}
use Rattle.steer_model.specs.State.Machine.{Machine, history_of}
use Rattle.steer_model.specs.Steps.Pollers.{with_note, seen_by}
use Rattle.steer_model.specs.State.Setup.{Setup}
use Rattle.steer_model.specs.State.Start.{new_machine}
use Rattle.steer_model.specs.Steps.SingleSteps.{simple}
use Rattle.steer_model.specs.declared.note.Note.{Note}
use Rattle.steer_model.specs.declared.note.Note.TheVariants as note
use Rattle.steer_invariant.specs.Invariant.{Invariant}
use Rattle.steer_invariant.specs.StepInvariant.{IsNamed}
use Rattle.steer_invariant.proofs.Recorded.RowLemmas.{all-pushed}
use Rattle.steer_properties.proofs.Commands.StepLemmas.{Commanding}
use Rattle.steer_properties.proofs.Histories.ExtendLemmas.{blank-at}
use Rattle.steer_properties.proofs.Histories.LastingLemmas.{Lasts}
use Rattle.steer_properties.proofs.Writes.OriginLemmas.{stood-at, stood-lasts}
use Rattle.steer_properties.proofs.Choices.RuleStepLemmas.{Follows}
use Rattle.steer_properties.proofs.Histories.StepKindLemmas.{lasts-noted, walk}

abbrev pub AllStood : Input → Machine → Type 0
AllStood i m = (a : ℕ) → All (λ s. StoodAt i (history_of m) a s.cpu) (list_at m.sent a)

all-lasts : (i : Input) (m n : Machine) → Lasts m n → (a : ℕ) (ss : List Sent)
    → All (λ s. StoodAt i (history_of m) a s.cpu) ss
    → All (λ s. StoodAt i (history_of n) a s.cpu) ss
all-lasts i m n l a ss old k d lt =
    stood-lasts i (history_of m) (history_of n) a (get_or ss k d).cpu l.commands (old k d lt)

-- no reply is begun
all-stay : (i : Input) (m n : Machine) → Lasts m n → n.sent ≡ m.sent → AllStood i m
    → AllStood i n
all-stay i m n l same old a =
    subst (λ (ls : List (List Sent)). All (λ s. StoodAt i (history_of n) a s.cpu) (list_at ls a))
    (sym same) (all-lasts i m n l a (list_at m.sent a) (old a))

all-sent : (i : Input) (m : Machine) (a x : ℕ) → m.setup ≡ setup_in i → Follows i m
    → Commanding i m → a < m.setup.apps → Lasts m (sends m a x) → AllStood i m
    → AllStood i (sends m a x)
all-sent i m a x setup follows w lt l old =
    let below : a < length i.plan.apps =
    subst (λ (p : Setup). a < p.apps) setup lt in
    all-pushed (λ b (s : Sent). StoodAt i (history_of (sends m a x)) b s.cpu) m.sent a
    (reply_to m a x) (stood-at i m w a follows below)
    (λ b. all-lasts i m (sends m a x) l b (list_at m.sent b) (old b))

pub stood-simple : (i : Input) (m : Machine) (s : Step) → m.setup ≡ setup_in i → Follows i m
    → Commanding i m → Invariant m → IsNamed m.setup s → AllStood i m → AllStood i (simple m s).0
stood-simple i m s setup follows w h named old =
    walk m h (AllStood i) s
    (record {
      quiet = λ n k. all-stay i m n k.still.lasts k.sent old;
      arrive = λ few k. all-stay i m _ k.lasts refl old;
      look = λ q in' inside more. (
          let x : Note = note.Looked (seen_by m q (next_of m.rx q)) in
          all-stay i m (with_note m q x) (lasts-noted m q x) refl old);
      weigh = λ q want in' is more l. all-stay i m _ l refl old;
      write = λ flow hash is some k. all-stay i m _ k.lasts refl old;
      send = λ a x in' is k. all-sent i m a x setup follows w in' k.lasts old;
      tx_weigh = λ a in' more l. all-stay i m _ l refl old;
      give = λ c is in' d. all-stay i m _ d.lasts d.sent old;
    }) named

pub stood-new : (i : Input) → AllStood i (new_machine i.plan i.packets i.cut)
stood-new i a =
    let m : Machine = new_machine i.plan i.packets i.cut in
    let none : list_at m.sent a ≡ [] = blank-at (length i.plan.apps) a [] in
    subst (All (λ (s : Sent). StoodAt i (history_of m) a s.cpu)) (sym none)
    (All-nil (λ (s : Sent). StoodAt i (history_of m) a s.cpu))
