-- No step of one event changes the settings, and a command changes them as it says.
use Rattle.std.proofs.Common.{ℕ, ◌%◌, ◌≡◌, ◌∙◌, sym, ap, refl, Bool, true, false, List, [], ◌∷◌}
use Rattle.std.proofs.Common.{◌++◌}
use Rattle.std.proofs.Common.{Option, Some, None, length}
use Rattle.std.specs.Prelude.{if◌then◌else◌, nat_lt, not}
use Rattle.steer_base.specs.declared.command.Answer.TheVariants as says
use Rattle.steer_base.specs.declared.command.Command.{Command}
use Rattle.steer_base.specs.declared.command.Command.TheVariants as give
use Rattle.steer_base.specs.declared.step.Step.{Step}
use Rattle.steer_base.specs.declared.step.Step.TheVariants as act
use Rattle.history.specs.declared.commanded.Commanded.{Commanded}
use Rattle.hop_model.specs.declared.event.HopAnswer.{HopAnswer}
use Rattle.hop_model.specs.Hop.{inside_of, placed_of, taken_of}
use Rattle.hop_model.specs.Reads.{to_weigh}
use Rattle.steer_model.specs.Steps.Applications.{next_in, record_by, send_by, visited, wrote}
use Rattle.steer_model.specs.Steps.Commands.{answer_to, given, is_done, set_by}
use Rattle.steer_model.specs.Good.Inputs.{settings_after}
use Rattle.steer_model.specs.State.Machine.{Machine, note_of}
use Rattle.steer_model.specs.State.Notes.{is_asking, is_nothing}
use Rattle.steer_model.specs.Steps.Outcomes.{StepOutcome, by_rx}
use Rattle.steer_model.specs.Steps.Pollers.{ask_by, look_by, poller_after_put, putting, weigh_by}
use Rattle.steer_model.specs.State.Settings.{Settings, changed}
use Rattle.steer_model.specs.State.Setup.{flow_hash}
use Rattle.steer_model.specs.Steps.SingleSteps.{simple}
use Rattle.steer_model.specs.Steps.CompoundSteps.{after}
use Rattle.steer_model.specs.declared.note.Note.{Note}
use Rattle.steer_model.specs.declared.note.Note.TheVariants as note
use Rattle.step_laws.proofs.LiftLemmas.{after-keeps}

-- the settings and the commands stay
record Same (m : Machine) (n : Machine) : Type 0 where
  settings : n.settings ≡ m.settings
  commands : n.commands ≡ m.commands

stays : (m : Machine) → Same m m
stays m = record { settings = refl; commands = refl }

same-if : (m : Machine) (b : Bool) (x y : StepOutcome) → Same m x.0 → Same m y.0
    → Same m (if b then x else y).0
same-if m true x y p q = p
same-if m false x y p q = q

same-look : (m : Machine) (q : ℕ) (x : Option ℕ) → Same m (look_by m q x).0
same-look m q (Some x) = record { settings = refl; commands = refl }
same-look m q None = stays m

same-weigh : (m : Machine) (q : ℕ) (n : Note) (x : Option ℕ) → Same m (weigh_by m q n x).0
same-weigh m q (note.Looked want) (Some x) = record { settings = refl; commands = refl }
same-weigh m q (note.Looked want) None = stays m
same-weigh m q note.Nothing x = stays m
same-weigh m q (note.Asking filter) x = stays m

same-put : (m n : Machine) (q : ℕ) (x : Option ℕ) (a : HopAnswer) → Same m n
    → Same m (poller_after_put n q x a).0
same-put m n q (Some x) a same = record { settings = same.settings; commands = same.commands }
same-put m n q None a same = same

same-ask : (m : Machine) (q : ℕ) (n : Note) → Same m (ask_by m q n).0
same-ask m q note.Nothing = stays m
same-ask m q (note.Looked want) = stays m
same-ask m q (note.Asking filter) = record { settings = refl; commands = refl }

same-record : (m : Machine) (hash : Option (Option ℕ)) → Same m (record_by m hash).0
same-record m None = stays m
same-record m (Some None) = stays m
same-record m (Some (Some hash)) =
    same-if m (nat_lt 0 (length m.socket)) (
      wrote (visited m (hash % m.setup.apps))
          (hash % m.setup.apps) hash,
      says.Done,
    )
    _ (record { settings = refl; commands = refl }) (stays m)

same-send : (m : Machine) (a : ℕ) (x : Option ℕ) → Same m (send_by m a x).0
same-send m a (Some x) = record { settings = refl; commands = refl }
same-send m a None = stays m

-- ---- a command

settings-set_by : (m : Machine) (c : Command) → (set_by m c).settings ≡ changed m.settings c
settings-set_by m (give.Mask q mask) = refl
settings-set_by m (give.Flows q count) = refl
settings-set_by m (give.Sock size) = refl
settings-set_by m (give.Offline cpu) = refl
settings-set_by m (give.Online cpu) = refl
settings-set_by m (give.XCpus tx mask) = refl
settings-set_by m (give.XQueues tx queues) = refl
settings-set_by m (give.Reta place q) = refl
settings-set_by m (give.Stand app cpu) = refl
settings-set_by m give.Expire = refl

commands-set_by : (m : Machine) (c : Command) → (set_by m c).commands ≡ m.commands
commands-set_by m (give.Mask q mask) = refl
commands-set_by m (give.Flows q count) = refl
commands-set_by m (give.Sock size) = refl
commands-set_by m (give.Offline cpu) = refl
commands-set_by m (give.Online cpu) = refl
commands-set_by m (give.XCpus tx mask) = refl
commands-set_by m (give.XQueues tx queues) = refl
commands-set_by m (give.Reta place q) = refl
commands-set_by m (give.Stand app cpu) = refl
commands-set_by m give.Expire = refl

settings_after-append : (cs : List Commanded) (s : Settings) (c : Commanded)
    → settings_after s (cs ++ c ∷ [])
    ≡ (if is_done c.answer then changed (settings_after s cs) c.command else settings_after s cs)
settings_after-append [] s c = refl
settings_after-append (d ∷ ds) s c =
    settings_after-append ds (if is_done d.answer then changed s d.command else s) c

-- the settings are those that the commands leave of the first ones
abbrev Follows : Settings → Machine → Type 0
Follows s m = m.settings ≡ settings_after s m.commands

follows-same : (s : Settings) (m n : Machine) → Same m n → Follows s m → Follows s n
follows-same s m n same f = same.settings ∙ f ∙ ap (settings_after s) (sym same.commands)

follows-given : (s : Settings) (m : Machine) (c : Command) → Follows s m → Follows s (given m c).0
follows-given s m c f =
    after-set (is_done (answer_to m c))
    ∙ ap (λ t. if is_done (answer_to m c) then changed t c else t) f
    ∙ sym (settings_after-append m.commands s (record { command = c; answer = answer_to m c }))
    ∙ ap (λ cs. settings_after s (cs ++ record { command = c; answer = answer_to m c } ∷ []))
    (sym (commands-set (is_done (answer_to m c))))
  where
    after-set : (b : Bool) → (if b then set_by m c else m).settings ≡ (if b then changed m.settings
        c else m.settings)
    after-set true = settings-set_by m c
    after-set false = refl

    commands-set : (b : Bool) → (if b then set_by m c else m).commands ≡ m.commands
    commands-set true = commands-set_by m c
    commands-set false = refl

follows-simple : (s : Settings) (m : Machine) (x : Step) → Follows s m → Follows s (simple m x).0
follows-simple s m act.Arrive =
    follows-same s m _
    (same-if m (nat_lt (length m.arrivals) (length m.setup.packets)) _ _
    (record { settings = refl; commands = refl }) (stays m))
follows-simple s m (act.Take q) =
    follows-same s m _
    (same-if m (is_asking (note_of m q)) _ _ (stays m)
    (record { settings = refl; commands = refl }))
follows-simple s m (act.Enter q) = λ f. f
follows-simple s m (act.Look q) =
    follows-same s m _
    (same-if m (not (inside_of m.rx q)) _ _ (stays m)
    (same-if m (is_nothing (note_of m q)) _ _ (same-look m q (to_weigh m.rx q)) (stays m)))
follows-simple s m (act.Weigh q) =
    follows-same s m _
    (same-if m (not (inside_of m.rx q)) _ _ (stays m) (same-weigh m q (note_of m q)
    (to_weigh m.rx q)))
follows-simple s m (act.Put q) =
    follows-same s m _
    (same-put m (by_rx m (putting m q)).0 q _ _ (record { settings = refl; commands = refl }))
follows-simple s m (act.Ask q) =
    follows-same s m _
    (same-if m (not (inside_of m.rx q)) _ _ (stays m) (same-ask m q (note_of m q)))
follows-simple s m (act.Leave q) =
    follows-same s m _
    (same-if m (not (inside_of m.rx q)) _ _ (stays m)
    (same-if m (is_nothing (note_of m q)) _ _ (record { settings = refl; commands = refl })
    (stays m)))
follows-simple s m (act.Pull c) = λ f. f
follows-simple s m (act.Deliver c) = λ f. f
follows-simple s m (act.Retire c) = λ f. f
follows-simple s m (act.Record flow) = follows-same s m _ (same-record m (flow_hash m.setup flow))
follows-simple s m (act.Send a) =
    follows-same s m _
    (same-if m (nat_lt (placed_of m.tx a) (taken_of m.tx a)) _ _ (stays m)
    (same-send m a (next_in m a)))
follows-simple s m (act.TEnter a) = λ f. f
follows-simple s m (act.TLeave a) = λ f. f
follows-simple s m (act.TWeigh a) = λ f. f
follows-simple s m (act.TPut a) = λ f. f
follows-simple s m (act.TPull t) = λ f. f
follows-simple s m (act.TDeliver t) = λ f. f
follows-simple s m (act.TRetire t) = λ f. f
follows-simple s m (act.Give c) = follows-given s m c
follows-simple s m (act.Poll q) = λ f. f
follows-simple s m (act.Drain c) = λ f. f
follows-simple s m (act.Reply a) = λ f. f
follows-simple s m (act.Serve a) = λ f. f
follows-simple s m (act.Ship t) = λ f. f
follows-simple s m act.Sweep = λ f. f

pub settings_follow : (s : Settings) (m : Machine) (ss : List Step) → Follows s m → Follows s
    (after ss m)
settings_follow s m ss f = after-keeps (Follows s) (follows-simple s) ss m f
