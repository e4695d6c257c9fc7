-- Each size of the socket flow table in force is the plan's or that of a done command.
use Rattle.std.proofs.lemmas.List.{map-append}
use Rattle.steer_base.specs.declared.command.Answer.TheVariants as says
use Rattle.steer_base.specs.declared.command.Command.TheVariants as give
use Rattle.steer_base.specs.declared.command.Refused.TheVariants as refused
use Rattle.steer_model.specs.Good.Inputs.{WasDone}
use Rattle.steer_model.specs.Good.Writes.{IsSize}
use Rattle.steer_model.specs.State.Settings.{changed}
use Rattle.steer_model.specs.Steps.Commands.{is_done}
use Rattle.run_coupling.specs.Coupling.Answers.{IsBusyAt}
use Rattle.run_words.specs.Lists.{oldest_first}
use Rattle.run_coupling.proofs.Runs.TurnListLemmas.{nth-oldest}
use Rattle.run_goodness.proofs.Names.{◌≡◌, inl, inr, ℕ, Bool, true, false, List, [], ◌∷◌, ◌++◌}
use Rattle.run_goodness.proofs.Names.{Option, Some, None, length, map, if◌then◌else◌, sym, refl, ap}
use Rattle.run_goodness.proofs.Names.{◌∙◌, subst, arith, append_assoc, slice_get, length-map}
use Rattle.run_goodness.proofs.Names.{Command, Refused, Commanded, History, LaneList, nth_step}
use Rattle.run_goodness.proofs.Names.{BoardStep, nth-last, nth-old, Input, Settings}
use Rattle.run_goodness.proofs.Names.{initial_settings, refused_with, AllAnswered, IsAnswered, Try}
use Rattle.run_goodness.proofs.Names.{settings_by}

-- a try is among the commands of the history
given-at : (h : History) (tries more older : List Try) (t : Try)
    → h.commands ≡ oldest_first (map (λ (t : Try). t.given) tries) → tries ≡ more ++ t ∷ older
    → slice_get h.commands (length older) ≡ Some t.given
given-at h tries more older t commands parts =
    let f : Try → Commanded = λ t. t.given in
    let here : nth_step (map f tries) (length older) ≡ Some t.given =
    ap (λ ts. nth_step (map f ts) (length older)) parts
    ∙ (ap (λ cs. nth_step cs (length older)) (map-append f more (t ∷ older))
    ∙ (ap (nth_step (map f more ++ t.given ∷ map f older)) (sym (length-map older f))
    ∙ (nth-old (map f more) (t.given ∷ map f older) (length (map f older)) (omega arith)
    ∙ nth-last t.given (map f older)))) in
    ap (λ cs. slice_get cs (length older)) commands
    ∙ (nth-oldest (map f tries) (length older) ∙ here)

-- a command that met a busy board was not done
unfinished : (i : Input) (lanes : List LaneList) (steps : List BoardStep) (g : Commanded)
    → IsBusyAt i lanes steps g → is_done g.answer ≡ false
unfinished i lanes steps g (inl b) = ap is_done b.1
unfinished i lanes steps g (inr b) = ap is_done b.3

apart : {A : Type 0} → false ≡ true → A
apart e = absurd (cc)

-- a done command for the size was answered done
done-answer : (i : Input) (h : History) (t : Try) (n : ℕ) (o : Option Refused)
    → t.given.command ≡ give.Sock n → is_done t.given.answer ≡ true → IsAnswered i h t o
    → t.given.answer ≡ says.Done
done-answer i h t n (Some (refused.CpuInUse user)) is done answer =
    apart (sym (ap is_done answer) ∙ done)
done-answer i h t n (Some refused.CpuOffline) is done answer =
    apart (sym (ap is_done answer) ∙ done)
done-answer i h t n (Some refused.AlreadyOnline) is done answer =
    apart (sym (ap is_done answer) ∙ done)
done-answer i h t n None is done (inl end) =
    subst (λ c. Rattle.steer_model.specs.Good.Commands.IsEnd i c t.given.answer) is end
done-answer i h t n None is done (inr (inl (gate, at))) =
    apart (sym (unfinished i h.lanes t.rx_steps t.given at) ∙ done)
done-answer i h t n None is done (inr (inr (gate, at))) =
    apart (sym (unfinished i h.tx_lanes t.tx_steps t.given at) ∙ done)

module _ (i : Input) (h : History) (tries : List Try)
    (commands : h.commands ≡ oldest_first (map (λ (t : Try). t.given) tries)) where
  abbrev first : Settings
  first = initial_settings i.plan

  size-changed : (s : Settings) (c : Command) → IsSize i h s.sock
      → ((n : ℕ) → c ≡ give.Sock n → WasDone h (give.Sock n)) → IsSize i h (changed s c).sock
  size-changed s (give.Sock n) old was = inr (n, refl, was n refl)
  size-changed s (give.Mask q mask) old was = old
  size-changed s (give.Flows q count) old was = old
  size-changed s (give.Offline cpu) old was = old
  size-changed s (give.Online cpu) old was = old
  size-changed s (give.XCpus tx mask) old was = old
  size-changed s (give.XQueues tx queues) old was = old
  size-changed s (give.Reta place q) old was = old
  size-changed s (give.Stand app cpu) old was = old
  size-changed s give.Expire old was = old

  pub size_by : (more ts : List Try) → tries ≡ more ++ ts → AllAnswered i h ts
      → IsSize i h (settings_by first ts).sock
  size_by more [] parts answered = inl refl
  size_by more (t ∷ ts) parts answered =
      by_done (is_done t.given.answer) refl
      (size_by (more ++ t ∷ []) ts (parts ∙ sym (append_assoc more (t ∷ []) ts)) answered.1)
    where
      by_done : (b : Bool) → is_done t.given.answer ≡ b → IsSize i h (settings_by first ts).sock
          → IsSize i h
          (if b then changed (settings_by first ts) t.given.command else settings_by first ts).sock
      by_done false done old = old
      by_done true done old =
          size-changed (settings_by first ts) t.given.command old
          (λ n is.
          (let answer = done-answer i h t n
          (refused_with i (settings_by first ts) t.given.command) is done answered.0 in (
            length ts,
            given-at h tries more ts t commands parts
                ∙ (λ j. Some (record { command = is j; answer = answer j })),
          )))
