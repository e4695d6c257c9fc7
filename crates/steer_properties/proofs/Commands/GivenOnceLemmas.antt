-- The commands of a history are those among its steps, each given once.
use Rattle.std.proofs.Common.{ℕ, zero, suc, ◌+◌, ◌<◌, ◌≡◌, Bool, true, false, List, []}
use Rattle.std.proofs.Common.{◌∷◌, ◌++◌, Option, Some, None, length, map, refl, ap, ◌∙◌, sym}
use Rattle.std.proofs.Common.{subst, arith}
use Rattle.std.proofs.Common.{append_assoc, append-nil}
use Rattle.std.specs.Prelude.{◌==◌, ◌%◌, ◌/◌, nat_lt, slice_get, if◌then◌else◌}
use Rattle.std.specs.List.{cons_option, filter_map, range_with_len}
use Rattle.std.proofs.lemmas.Bool.{ltb-true}
use Rattle.std.proofs.lemmas.List.{map_push}
use Rattle.std.proofs.lemmas.List.Elements.{All-cons, All-nil}
use Rattle.std.proofs.lemmas.Option.{same_Some}
use Rattle.history.specs.declared.commanded.Commanded.{Commanded}
use Rattle.plan_reader.specs.Plans.{count_of, nth_of, sizes_of}
use Rattle.plan_reader.specs.Ranges.{command_in, commands_of}
use Rattle.plan_reader.specs.Seeds.{event_of, seeded_step, seeded_word}
use Rattle.plan_reader.specs.declared.plan.Steps.{Steps}
use Rattle.plan_reader.specs.declared.plan.Steps.TheVariants as steps
use Rattle.plan_reader.specs.declared.settings.sizes.Sizes.{Sizes}
use Rattle.steer_base.specs.declared.command.Command.{Command}
use Rattle.steer_base.specs.declared.step.Step.{Step}
use Rattle.steer_base.specs.declared.step.Step.TheVariants as act
use Rattle.steer_model.specs.Steps.Commands.{answer_to, given}
use Rattle.steer_model.specs.Good.Commands.{AreGiven}
use Rattle.steer_model.specs.State.Machine.{Machine}
use Rattle.steer_model.specs.State.Setup.{Setup, flow_number_of}
use Rattle.steer_model.specs.State.Start.{new_machine, steps_of}
use Rattle.steer_model.specs.Steps.SingleSteps.{is_command, simple}
use Rattle.steer_model.specs.Steps.CompoundSteps.{Progress, after, one_round, rounds, step, tried}
use Rattle.steer_invariant.specs.Invariant.{Invariant}
use Rattle.steer_invariant.specs.StepInvariant.{AreNamed, IsNamed}
use Rattle.steer_invariant.proofs.Invariant.StartLemmas.{held-new}
use Rattle.steer_invariant.proofs.Invariant.StepLemmas.{held-simple, held-step, named-in}
use Rattle.steer_invariant.proofs.Invariant.StepLemmas.{plan_steps_within}
use Rattle.steer_invariant.proofs.StepInvariant.StepLemmas.{flow_small, step_keeps_setup}
use Rattle.steer_invariant.proofs.TurnLiftLemmas.{IsTried, drain-keeps, poll-keeps, reply-keeps}
use Rattle.steer_invariant.proofs.TurnLiftLemmas.{round-keeps}
use Rattle.steer_invariant.proofs.TurnLiftLemmas.{serve-keeps, ship-keeps}
use Rattle.steer_properties.specs.Commands.GivenOnce.{ReplaysGiveOnce, RunsGiveOnce}
use Rattle.steer_properties.proofs.Commands.GivingLemmas.{given-is}
use Rattle.steer_properties.proofs.Histories.StepKindLemmas.{lasts-simple, walk}

-- ---- events give no command

commands-event : (m : Machine) (s : Step) → Invariant m → IsNamed m.setup s → is_command s ≡ false
    → (simple m s).0.commands ≡ m.commands
commands-event m s h named event =
    walk m h (λ n. n.commands ≡ m.commands) s
    (record {
      quiet = λ n k. k.still.commands;
      arrive = λ few k. refl;
      look = λ q in' inside more. refl;
      weigh = λ q want in' is more l. refl;
      write = λ flow hash is some k. refl;
      send = λ a x in' is k. refl;
      tx_weigh = λ a in' more l. refl;
      give = λ c is in' d. absurd (
          let f : true ≡ false = sym (ap is_command is) ∙ event in cc);
    }) named

-- a machine of this setup that is held and has these commands
record Has (p : Setup) (cs : List Commanded) (t : Progress) : Type 0 where
  setup : t.0.setup ≡ p
  held : Invariant t.0
  commands : t.0.commands ≡ cs

has-tried : (p : Setup) (cs : List Commanded) (t : Progress) (s : Step) → IsTried p s → Has p cs t
    → Has p cs (tried t s)
has-tried p cs t s is h =
    let here : IsNamed t.0.setup s = subst (λ (q : Setup). IsNamed q s) (sym h.setup) is.named in
    let l = lasts-simple t.0 s h.held here in
    record {
      setup = l.setup ∙ h.setup;
      held = held-simple t.0 s here h.held;
      commands = commands-event t.0 s h.held here is.event ∙ h.commands;
    }

module _ (m : Machine) (h : Invariant m) where
  abbrev P : Progress → Type 0
  P = Has m.setup m.commands

  flows : (x : ℕ) → flow_number_of m.setup x < 262144
  flows x = let k = h.kept in flow_small m.setup x k.given

  starts : P (m, false)
  starts = record { setup = refl; held = h; commands = refl }

  keeps : (t : Progress) (s : Step) → IsTried m.setup s → P t → P (tried t s)
  keeps t s is k = has-tried m.setup m.commands t s is k

  same : (t : Progress) → P t → t.0.setup ≡ m.setup
  same t k = k.setup

  has-if : (b : Bool) (x y : Progress) → P x → P y → P (if b then x else y)
  has-if true x y k l = k
  has-if false x y k l = l

  -- whether work was done does not matter
  anyway : (t : Progress) (b : Bool) → P t → P (t.0, b)
  anyway t b k = record { setup = k.setup; held = k.held; commands = k.commands }

  rounds-have : (n : ℕ) (t : Progress) → P t → P (rounds n t)
  unfolding rounds
  rounds-have zero t k = k
  rounds-have (suc n) t k =
      let next : P (one_round (t.0, false)) =
      round-keeps m.setup P same flows keeps (t.0, false) (anyway t false k) in
      has-if (one_round (t.0, false)).1 (rounds n ((one_round (t.0, false)).0, true))
      ((one_round (t.0, false)).0, t.1)
      (rounds-have n ((one_round (t.0, false)).0, true)
      (anyway (one_round (t.0, false)) true next))
      (anyway (one_round (t.0, false)) t.1 next)

  -- a step of many events gives none
  whole : (t : Progress) → P t → t.0.commands ≡ m.commands
  whole t k = k.commands

  abbrev ids : Machine → List Command
  ids n = map (λ c. c.command) n.commands

  none : (n : Machine) → n.commands ≡ m.commands → ids n ≡ ids m ++ []
  none n e = ap (map (λ (c : Commanded). c.command)) e ∙ sym (append-nil (ids m))

  one : (c : Command) → IsNamed m.setup (act.Give c) → ids (given m c).0 ≡ ids m ++ c ∷ []
  one c named =
      let g = given-is m c h.kept named in
      ap (map (λ (d : Commanded). d.command)) g.commands
      ∙ map_push (λ (d : Commanded). d.command) m.commands
      (record { command = c; answer = answer_to m c })

  event : (s : Step) → IsNamed m.setup s → is_command s ≡ false → ids (simple m s).0 ≡ ids m ++ []
  event s named is = none (simple m s).0 (commands-event m s h named is)

  commands-step : (s : Step) → IsNamed m.setup s
      → ids (step m s).0 ≡ ids m ++ cons_option (command_in s) []
  commands-step (act.Poll q) named =
      none (step m (act.Poll q)).0
      (whole _ (poll-keeps m.setup P same flows keeps q (m, false) (ltb-true _ _ named) starts))
  commands-step (act.Drain c) named =
      none (step m (act.Drain c)).0
      (whole _ (drain-keeps m.setup P same flows keeps c (m, false) (ltb-true _ _ named) starts))
  commands-step (act.Reply a) named =
      none (step m (act.Reply a)).0
      (whole _ (reply-keeps m.setup P same flows keeps a (m, false) (ltb-true _ _ named) starts))
  commands-step (act.Serve a) named =
      none (step m (act.Serve a)).0
      (whole _ (serve-keeps m.setup P same flows keeps a (m, false) (ltb-true _ _ named) starts))
  commands-step (act.Ship t) named =
      none (step m (act.Ship t)).0
      (whole _ (ship-keeps m.setup P same flows keeps t (m, false) (ltb-true _ _ named) starts))
  commands-step act.Sweep named =
      none (step m act.Sweep).0 (whole _ (rounds-have _ (m, false) starts))
  commands-step act.Arrive named = event act.Arrive named refl
  commands-step (act.Take q) named = event (act.Take q) named refl
  commands-step (act.Enter q) named = event (act.Enter q) named refl
  commands-step (act.Look q) named = event (act.Look q) named refl
  commands-step (act.Weigh q) named = event (act.Weigh q) named refl
  commands-step (act.Put q) named = event (act.Put q) named refl
  commands-step (act.Ask q) named = event (act.Ask q) named refl
  commands-step (act.Leave q) named = event (act.Leave q) named refl
  commands-step (act.Pull c) named = event (act.Pull c) named refl
  commands-step (act.Deliver c) named = event (act.Deliver c) named refl
  commands-step (act.Retire c) named = event (act.Retire c) named refl
  commands-step (act.Record flow) named = event (act.Record flow) named refl
  commands-step (act.Send a) named = event (act.Send a) named refl
  commands-step (act.TEnter a) named = event (act.TEnter a) named refl
  commands-step (act.TLeave a) named = event (act.TLeave a) named refl
  commands-step (act.TWeigh a) named = event (act.TWeigh a) named refl
  commands-step (act.TPut a) named = event (act.TPut a) named refl
  commands-step (act.TPull t) named = event (act.TPull t) named refl
  commands-step (act.TDeliver t) named = event (act.TDeliver t) named refl
  commands-step (act.TRetire t) named = event (act.TRetire t) named refl
  commands-step (act.Give c) named = one c named

-- ---- steps in a row

front-option : (xs : List Command) (o : Option Command) (ys : List Command)
    → (xs ++ cons_option o []) ++ ys ≡ xs ++ cons_option o ys
front-option xs None ys = ap (λ l. l ++ ys) (append-nil xs)
front-option xs (Some x) ys = append_assoc xs (x ∷ []) ys

commands-after : (ss : List Step) (m : Machine) → Invariant m → AreNamed m.setup ss
    → map (λ c. c.command) (after ss m).commands
    ≡ map (λ c. c.command) m.commands ++ filter_map command_in ss
commands-after [] m h named = sym (append-nil (map (λ (c : Commanded). c.command) m.commands))
commands-after (s ∷ ss) m h named =
    let first : IsNamed m.setup s = named 0 s (omega arith) in
    let n : Machine = (step m s).0 in
    let setup : n.setup ≡ m.setup = step_keeps_setup m s first h.kept in
    let rest : AreNamed n.setup ss =
    subst (λ (p : Setup). AreNamed p ss) (sym setup)
    (λ i d lt. named (suc i) d (omega (arith, lt))) in
    commands-after ss n (held-step m h s first) rest
    ∙ ap (λ l. l ++ filter_map command_in ss) (commands-step m h s first)
    ∙ front-option (map (λ (c : Commanded). c.command) m.commands) (command_in s)
    (filter_map command_in ss)

-- ---- each is given once

once : (xs : List Commanded) → AreGiven 1 (map (λ x. x.command) xs) xs
once [] = refl
once (x ∷ xs) = (
  x ∷ [],
  xs,
  refl,
  record {
    some = omega arith;
    few = omega arith;
    same = All-cons (λ (y : Commanded). y.command ≡ x.command) x [] refl
        (All-nil (λ (y : Commanded). y.command ≡ x.command));
    again = λ k y lt is. absurd (omega (arith, lt));
    last = λ k y lt. absurd (omega (arith, lt));
  },
  once xs,
)

pub runs_give_once : RunsGiveOnce
runs_give_once i ss may named =
    let m : Machine = new_machine i.plan i.packets i.cut in
    let is = commands-after ss m (held-new i.plan i.packets i.cut may)
    (named-in i.plan i.packets i.cut ss named) in
    subst (λ (cs : List Command). AreGiven 1 cs (after ss m).commands) is
    (once (after ss m).commands)

-- ---- the commands of a plan

picked-all : {X : Type 0} (xs : List X) (f : ℕ → Option X) (a : ℕ)
    → ((k : ℕ) → f (a + k) ≡ slice_get xs k) → filter_map f (range_with_len a (length xs)) ≡ xs
picked-all [] f a is = refl
picked-all (x ∷ xs) f a is =
    let here : f a ≡ Some x = ap f (let e : a ≡ a + 0 = omega arith in e) ∙ is 0 in
    let rest = picked-all xs f (a + 1)
    (λ k. ap f (let e : a + 1 + k ≡ a + suc k = omega arith in e) ∙ is (suc k)) in
    (λ j. cons_option (here j) (rest j))

no-command-if : (b : Bool) (x y : Step) → command_in x ≡ None → command_in y ≡ None
    → command_in (if b then x else y) ≡ None
no-command-if true x y p q = p
no-command-if false x y p q = q

event-none : (z : Sizes) (which j : ℕ) → command_in (event_of z which j) ≡ None
event-none z which j =
    no-command-if (which == 0) (act.Take (j % z.queues)) _ refl
    (no-command-if (which == 1) (act.Enter (j % z.queues)) _ refl
    (no-command-if (which == 2) (act.Look (j % z.queues)) (act.Pull (j % z.cpus)) refl refl))

seeded-none : (z : Sizes) (word : ℕ) → command_in (seeded_step z word) ≡ None
unfolding seeded_step
seeded-none z word =
    let k : ℕ = word % 16 in
    let m : ℕ = word / 16 in
    no-command-if (nat_lt k 5) act.Arrive _ refl
    (no-command-if (nat_lt k 9) (act.Poll (m % z.queues)) _ refl
    (no-command-if (nat_lt k 12) (act.Drain (m % z.cpus)) _ refl
    (no-command-if (nat_lt k 14) (act.Serve (m % z.apps)) _ refl
    (no-command-if (k == 14) (act.Ship (m % z.tx)) (event_of z (m % 4) (m / 4)) refl
    (event-none z (m % 4) (m / 4))))))

nth-none : (b c : Bool) (x y s : Step) → command_in x ≡ None → command_in y ≡ None
    → (if b then Some x else (if c then Some y else None)) ≡ Some s → command_in s ≡ None
nth-none true c x y s p q is = ap command_in (sym (same_Some x s is)) ∙ p
nth-none false true x y s p q is = ap command_in (sym (same_Some y s is)) ∙ q
nth-none false false x y s p q is = absurd (cc)

none-more : (o : Option Step) (rest : List Step)
    → ((s : Step) → o ≡ Some s → command_in s ≡ None) → filter_map command_in rest ≡ []
    → filter_map command_in (cons_option o rest) ≡ []
none-more None rest each done = done
none-more (Some s) rest each done = (λ j. cons_option (each s refl j) (done j))

none-picked : (f : ℕ → Option Step) → ((i : ℕ) (s : Step) → f i ≡ Some s → command_in s ≡ None)
    → (is : List ℕ) → filter_map command_in (filter_map f is) ≡ []
none-picked f each [] = refl
none-picked f each (i ∷ is) = none-more (f i) (filter_map f is) (each i) (none-picked f each is)

commands-listed : (z : Sizes) (ss : Steps)
    → filter_map command_in (filter_map (nth_of z ss) (range_with_len 0 (count_of ss)))
    ≡ commands_of ss
commands-listed z (steps.List list) =
    ap (filter_map command_in)
    (picked-all list (slice_get list) 0
    (λ k. ap (slice_get list) (let e : 0 + k ≡ k = omega arith in e)))
commands-listed z (steps.Seed seed count) =
    none-picked (nth_of z (steps.Seed seed count))
    (λ i s is. nth-none (nat_lt i count) (i == count) (seeded_step z (seeded_word seed i)) act.Sweep
    s
    (seeded-none z (seeded_word seed i)) refl is) (range_with_len 0 (count + 1))

pub replays_give_once : ReplaysGiveOnce
replays_give_once i may =
    let m : Machine = new_machine i.plan i.packets i.cut in
    subst (λ (cs : List Command). AreGiven 1 cs (after (steps_of i.plan) m).commands)
    (commands-listed (sizes_of i.plan) i.plan.steps)
    (runs_give_once i (steps_of i.plan) may (plan_steps_within i.plan))
