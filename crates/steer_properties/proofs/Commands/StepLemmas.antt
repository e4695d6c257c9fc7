-- Every step keeps the answers of the commands.
use Rattle.std.proofs.Common.{ℕ, ◌≤◌, ◌≡◌, List, [], ◌∷◌, ◌++◌, None, Some, length, take, refl}
use Rattle.std.proofs.Common.{ap, ◌∙◌, sym, subst, arith, inl, inr}
use Rattle.std.specs.Prelude.{slice_get}
use Rattle.std.specs.List.{All}
use Rattle.std.proofs.lemmas.Bool.{ltb-true}
use Rattle.std.proofs.lemmas.List.Elements.{All-nil, All-push}
use Rattle.std.proofs.lemmas.Option.{slice_get_within}
use Rattle.history.specs.declared.commanded.Commanded.{Commanded}
use Rattle.steer_base.specs.declared.command.Command.{Command}
use Rattle.steer_base.specs.declared.command.Command.TheVariants as give
use Rattle.steer_base.specs.declared.step.Step.{Step}
use Rattle.steer_model.specs.Steps.Commands.{answer_to, given}
use Rattle.steer_model.specs.Good.Commands.{refused_with}
use Rattle.steer_model.specs.Good.Inputs.{Input, settings_after, setup_in}
use Rattle.step_laws.specs.Origins.SettingWrites.{NamesCpu}
use Rattle.steer_model.specs.State.Machine.{Machine}
use Rattle.steer_model.specs.State.Settings.{Settings}
use Rattle.steer_model.specs.State.Setup.{Setup}
use Rattle.steer_model.specs.State.Start.{new_machine, initial_settings}
use Rattle.steer_model.specs.Steps.SingleSteps.{simple}
use Rattle.steer_invariant.specs.Invariant.{Invariant}
use Rattle.steer_invariant.specs.StepInvariant.{IsCommandNamed, IsNamed}
use Rattle.steer_properties.proofs.Commands.AnswerLemmas.{AnswersBy, answers-last, answers-new}
use Rattle.steer_properties.proofs.Histories.ExtendLemmas.{get-either}
use Rattle.steer_properties.proofs.Histories.LastingLemmas.{Given, Lasts}
use Rattle.steer_properties.proofs.Histories.MomentLemmas.{settings-all, settings-longer}
use Rattle.steer_properties.proofs.Choices.RuleStepLemmas.{Follows}
use Rattle.steer_properties.proofs.Histories.StepKindLemmas.{lasts-noted, walk}

-- the settings after the first k commands
abbrev pub settings_by : Input → Machine → ℕ → Settings
settings_by i m k = settings_after (initial_settings i.plan) (take k m.commands)

-- Each command is answered by the settings after those before it, and names a processor that there
-- can be.
pub record Commanding (i : Input) (m : Machine) : Type 0 where
  pub answered : (k : ℕ) (x : Commanded) → slice_get m.commands k ≡ Some x
      → AnswersBy m x.command (refused_with i (settings_by i m k) x.command) x.answer
  pub named : All (λ x. NamesCpu x.command) m.commands

-- an answer that was given
answered-old : (i : Input) (m n : Machine) (k : ℕ) (x : Commanded) → Lasts m n
    → slice_get m.commands k ≡ Some x
    → AnswersBy m x.command (refused_with i (settings_by i m k) x.command) x.answer
    → AnswersBy n x.command (refused_with i (settings_by i n k) x.command) x.answer
answered-old i m n k x l is old =
    let lt = slice_get_within m.commands k x is in
    let same : settings_by i m k ≡ settings_by i n k =
    sym (settings-longer (initial_settings i.plan) m.commands n.commands k l.commands
    (omega (arith, lt))) in
    subst (λ (s : Settings). AnswersBy n x.command (refused_with i s x.command) x.answer) same
    (answers-last m n x.command (refused_with i (settings_by i m k) x.command) x.answer l old)

-- no command is given
commanding-stays : (i : Input) (m n : Machine) → Lasts m n → n.commands ≡ m.commands
    → Commanding i m → Commanding i n
commanding-stays i m n l same old =
    record {
      answered = λ k x is. (
          let there = ap (λ (cs : List Commanded). slice_get cs k) (sym same) ∙ is in
          answered-old i m n k x l there (old.answered k x there));
      named = subst (All (λ (x : Commanded). NamesCpu x.command)) (sym same) old.named;
    }

names-cpu : (p : Setup) (c : Command) → p.cpus ≤ 32 → IsCommandNamed p c → NamesCpu c
names-cpu p (give.Offline cpu) few named =
    let lt = ltb-true cpu p.cpus named in omega (arith, lt, few)
names-cpu p (give.Online cpu) few named =
    let lt = ltb-true cpu p.cpus named in omega (arith, lt, few)
names-cpu p (give.Mask q mask) few named = tt
names-cpu p (give.Flows q count) few named = tt
names-cpu p (give.Sock size) few named = tt
names-cpu p (give.XCpus tx mask) few named = tt
names-cpu p (give.XQueues tx queues) few named = tt
names-cpu p (give.Reta place q) few named = tt
names-cpu p (give.Stand app cpu) few named = tt
names-cpu p give.Expire few named = tt

-- a command is given
commanding-given : (i : Input) (m n : Machine) (c : Command) → m.setup ≡ setup_in i → Follows i m
    → Invariant m → IsCommandNamed m.setup c → Given m c (answer_to m c) n → Commanding i m
    → Commanding i n
commanding-given i m n c setup follows h named d old =
    record { answered = answered; named = names }
  where
    new : Commanded
    new = record { command = c; answer = answer_to m c }

    grown : n.commands ≡ m.commands ++ record { command = c; answer = answer_to m c } ∷ []
    grown = d.commands

    -- before it the settings in force are those after all commands
    settings : m.settings ≡ settings_by i n (length m.commands)
    settings =
        follows ∙ sym (settings-all (initial_settings i.plan) m.commands)
        ∙ sym (settings-longer (initial_settings i.plan) m.commands n.commands (length m.commands)
        d.lasts.commands (omega arith))

    answered : (k : ℕ) (x : Commanded) → slice_get n.commands k ≡ Some x
        → AnswersBy n x.command (refused_with i (settings_by i n k) x.command) x.answer
    answered k x is =
        elim (get-either m.commands (record { command = c; answer = answer_to m c }) x k
        (ap (λ cs. slice_get cs k) (sym grown) ∙ is)) [
          | inl there ↦ answered-old i m n k x d.lasts there (old.answered k x there)
          | inr last ↦
              subst
              (λ (y : Commanded). AnswersBy n y.command
              (refused_with i (settings_by i n k) y.command) y.answer) last.1
              (subst
              (λ j. AnswersBy n c (refused_with i (settings_by i n j) c) (answer_to m c))
              (sym last.0)
              (answers-last m n c (refused_with i (settings_by i n (length m.commands)) c)
              (answer_to m c) d.lasts
              (answers-new i m (settings_by i n (length m.commands)) c h.kept setup settings)))
        ]

    names : All (λ (x : Commanded). NamesCpu x.command) n.commands
    names =
        let k = h.kept in
        subst (All (λ (x : Commanded). NamesCpu x.command)) (sym grown)
        (All-push (λ (x : Commanded). NamesCpu x.command) m.commands
        (record { command = c; answer = answer_to m c }) old.named
        (names-cpu m.setup c k.given.few_cpus named))

pub commanding-simple : (i : Input) (m : Machine) (s : Step) → m.setup ≡ setup_in i
    → Follows i m → Invariant m → IsNamed m.setup s → Commanding i m → Commanding i (simple m s).0
commanding-simple i m s setup follows h named old =
    walk m h (Commanding i) s
    (record {
      quiet = λ n k. commanding-stays i m n k.still.lasts k.still.commands old;
      arrive = λ few k. commanding-stays i m _ k.lasts refl old;
      look = λ q in' inside more. commanding-stays i m _ (lasts-noted m q _) refl old;
      weigh = λ q want in' is more l. commanding-stays i m _ l refl old;
      write = λ flow hash is some k. commanding-stays i m _ k.lasts refl old;
      send = λ a x in' is k. commanding-stays i m _ k.lasts refl old;
      tx_weigh = λ a in' more l. commanding-stays i m _ l refl old;
      give = λ c is in' d. commanding-given i m (given m c).0 c setup follows h in' d old;
    }) named

pub commanding-new : (i : Input) → Commanding i (new_machine i.plan i.packets i.cut)
commanding-new i =
    record {
      answered = λ k x is. absurd (let f : None ≡ Some x = is in cc);
      named = All-nil (λ (x : Commanded). NamesCpu x.command);
    }
