-- The invariant of the machine together with its history: what every state says of choices, of what
-- they saw, of writes and of commands. Each law of `src/laws.rt` is read off it.
use Rattle.std.proofs.Common.{ℕ, ◌≡◌, List, None, length, refl, ap, ◌∙◌, sym, subst, arith}
use Rattle.std.specs.List.{AllPass}
use Rattle.std.proofs.Math.ListN.{length-map}
use Rattle.std.proofs.lemmas.List.{length-replicate}
use Rattle.history.specs.declared.history.History.{History}
use Rattle.hop_model.specs.Hop.{Fixed, choices_of}
use Rattle.plan_reader.specs.Plans.{sizes_of}
use Rattle.plan_reader.specs.Ranges.{step_is_within}
use Rattle.steer_base.specs.declared.step.Step.{Step}
use Rattle.step_laws.specs.Origins.FilterOrigins.{FiltersAreFrom}
use Rattle.steer_model.specs.Good.Arrivals.{QueuesAreSeen}
use Rattle.steer_model.specs.Good.Choices.{AreByRule, HeadsAreRising, HeadsRise}
use Rattle.steer_model.specs.Good.Inputs.{Input, settings_at, setup_in}
use Rattle.steer_model.specs.State.Machine.{Machine, history_of, history_lanes}
use Rattle.steer_model.specs.State.Setup.{Setup}
use Rattle.steer_model.specs.State.Start.{fresh_rx, fresh_tx, new_machine, steps_of}
use Rattle.steer_model.specs.Steps.SingleSteps.{simple}
use Rattle.step_laws.specs.Origins.SocketOrigins.{SocketIsWritten}
use Rattle.steer_model.specs.Steps.CompoundSteps.{after}
use Rattle.step_laws.proofs.Origins.FilterOriginLemmas.{filters_are_from_choices}
use Rattle.step_laws.proofs.Origins.SocketOriginLemmas.{entries_are_written}
use Rattle.steer_invariant.specs.Invariant.{Invariant}
use Rattle.steer_invariant.specs.InvariantLaws.{MayStart}
use Rattle.steer_invariant.specs.StepInvariant.{IsNamed}
use Rattle.steer_properties.specs.Delivery.DeliveryLaws.{DeliversInOrder}
use Rattle.steer_properties.proofs.Delivery.DeliveryLemmas.{runs_deliver}
use Rattle.steer_invariant.proofs.Invariant.StartLemmas.{held-new}
use Rattle.steer_invariant.proofs.Invariant.StepLemmas.{held-simple, named-in, plan_steps_within}
use Rattle.steer_invariant.proofs.StepInvariant.StepLemmas.{flow_small}
use Rattle.steer_invariant.proofs.LaneLemmas.{lists-long}
use Rattle.steer_invariant.proofs.NamedLiftLemmas.{after-keeps}
use Rattle.steer_properties.specs.Histories.Always.{Always}
use Rattle.steer_properties.specs.Choices.Clear.{NothingIsOutstanding}
use Rattle.steer_properties.specs.Histories.GoodSoFar.{GoodSoFar}
use Rattle.steer_properties.specs.Commands.Answered.{AreAnswered, WritesAreMade}
use Rattle.steer_properties.specs.Choices.ByTheRule.{AreChosen, AreReplied}
use Rattle.steer_properties.specs.Histories.Sizes.{IsOfItsInput}
use Rattle.steer_properties.proofs.Choices.ClearLemmas.{clear-words}
use Rattle.steer_properties.proofs.Choices.ClearStepLemmas.{Clear, clear-new_machine, clear-simple}
use Rattle.steer_properties.proofs.Commands.StepLemmas.{Commanding, commanding-new}
use Rattle.steer_properties.proofs.Commands.StepLemmas.{commanding-simple}
use Rattle.steer_properties.proofs.Commands.WordLemmas.{commands-answered}
use Rattle.steer_properties.proofs.Choices.HeadStepLemmas.{Heads, heads-new, heads-simple}
use Rattle.steer_properties.proofs.Histories.LastingLemmas.{Lasts}
use Rattle.steer_properties.proofs.Choices.LookLemmas.{Looking, looking-new, looking-simple}
use Rattle.steer_properties.proofs.Choices.MoveLemmas.{flows_move, reply-changes}
use Rattle.steer_properties.proofs.Choices.RuleStepLemmas.{Follows, follows-simple, rules-new}
use Rattle.steer_properties.proofs.Choices.RuleStepLemmas.{rules-simple}
use Rattle.steer_properties.proofs.Choices.RuleLemmas.{Rules}
use Rattle.steer_properties.proofs.Writes.SeenLemmas.{AllSeen, seen-new, seen-simple}
use Rattle.steer_properties.proofs.Choices.SingleChoiceLemmas.{single}
use Rattle.steer_properties.proofs.Writes.PlaceLemmas.{AllStood, stood-new, stood-simple}
use Rattle.steer_properties.proofs.Choices.ReplyRuleStepLemmas.{tx-rules-new, tx-rules-simple}
use Rattle.steer_properties.proofs.Choices.ReplyRuleLemmas.{SameStart, TxRules}
use Rattle.steer_properties.proofs.Histories.StepKindLemmas.{lasts-simple}
use Rattle.steer_properties.proofs.Writes.WriteLemmas.{Written, written-new, written-simple}

-- ---- what the plan fixes

pub record Based (i : Input) (m : Machine) : Type 0 where
  pub setup : m.setup ≡ setup_in i
  pub rx : m.rx.fixed ≡ (fresh_rx i.plan i.packets).fixed
  pub tx : m.tx.fixed ≡ (fresh_tx i.plan i.packets).fixed
  pub filters : length m.filters ≡ i.plan.filters

based-lasts : (i : Input) (m n : Machine) → Lasts m n → Based i m → Based i n
based-lasts i m n l b =
    record {
      setup = l.setup ∙ b.setup;
      rx = l.rx.fixed ∙ b.rx;
      tx = l.tx.fixed ∙ b.tx;
      filters = l.filters ∙ b.filters;
    }

-- ---- all of it

-- The invariant of a machine together with its history, a field for each law that it serves.
pub record HistoryInvariant (i : Input) (m : Machine) : Type 0 where
  -- the invariant of `steer_invariant`, which every law needs
  pub held : Invariant m
  -- what the plan fixes: every_history_is_of_its_input
  pub based : Based i m
  -- the settings are the plan's, changed by the done commands: needed by rules, tx_rules,
  -- commanding, stood, seen and written
  pub follows : Follows i m
  -- heads_never_fall
  pub heads : Heads m
  -- each socket entry was written by an application: needed by looking
  pub socket : SocketIsWritten m
  -- what a poller saw in the socket flow table was written: the wants of rules
  pub looking : Looking m
  -- every_choice_is_by_the_rule
  pub rules : Rules i m
  -- every_reply_is_by_the_rule, its choices
  pub tx_rules : TxRules i m
  -- every_command_is_answered
  pub commanding : Commanding i m
  -- each reply keeps a processor where its application stood: every_reply_is_by_the_rule
  pub stood : AllStood i m
  -- each filter is from a choice: needed by seen
  pub from : FiltersAreFrom m
  -- every_queue_was_seen
  pub seen : AllSeen i m
  -- every_write_is_of_a_packet
  pub written : Written i m
  -- a_flow_moves_only_where_nothing_of_it_is_outstanding
  pub clear : Clear m

-- both hops number from one start
same-start : (i : Input) (m : Machine) → Based i m → SameStart m
same-start i m b =
    ap (λ (f : Fixed). f.start) b.tx ∙ sym (ap (λ (f : Fixed). f.start) b.rx)

explained-simple : (i : Input) (m : Machine) (s : Step) → IsNamed (setup_in i) s
    → HistoryInvariant i m → HistoryInvariant i (simple m s).0
explained-simple i m s named e =
    let b = e.based in let h = e.held in
    let here : IsNamed m.setup s = subst (λ (p : Setup). IsNamed p s) (sym b.setup) named in
    let l = lasts-simple m s h here in
    let g = held-simple m s here h in
    record {
      held = g;
      based = based-lasts i m (simple m s).0 l b;
      follows = follows-simple i m s h here e.follows;
      heads = heads-simple m s h g here e.heads;
      socket = single SocketIsWritten entries_are_written.later m s e.socket;
      looking = looking-simple m s h e.socket here e.looking;
      rules = rules-simple i m s b.setup e.follows e.looking h g here e.rules;
      tx_rules = tx-rules-simple i m s b.setup e.follows (same-start i m b) h g here e.tx_rules;
      commanding = commanding-simple i m s b.setup e.follows h here e.commanding;
      stood = stood-simple i m s b.setup e.follows e.commanding h here e.stood;
      from = single FiltersAreFrom filters_are_from_choices.later m s e.from;
      seen = seen-simple i m s b.setup b.filters e.from e.commanding e.follows h g here e.seen;
      written = written-simple i m s b.setup e.follows e.commanding h here e.written;
      clear = clear-simple m s h here e.clear;
    }

explained-new : (i : Input) → MayStart i.plan i.packets
    → HistoryInvariant i (new_machine i.plan i.packets i.cut)
explained-new i may =
    record {
      held = held-new i.plan i.packets i.cut may;
      based = record {
        setup = refl;
        rx = refl;
        tx = refl;
        filters = length-replicate i.plan.filters None;
      };
      follows = refl;
      heads = heads-new i;
      socket = entries_are_written.start i.plan i.packets i.cut
          (let w = i.plan.within in omega (arith, w.apps_length.at_least));
      looking = looking-new i;
      rules = rules-new i;
      tx_rules = tx-rules-new i;
      commanding = commanding-new i;
      stood = stood-new i;
      from = filters_are_from_choices.start i.plan i.packets i.cut;
      seen = seen-new i;
      written = written-new i;
      clear = clear-new_machine i;
    }

pub explained-after : (i : Input) (ss : List Step) → MayStart i.plan i.packets
    → AllPass (step_is_within (sizes_of i.plan)) ss
    → HistoryInvariant i (after ss (new_machine i.plan i.packets i.cut))
explained-after i ss may named =
    let m : Machine = new_machine i.plan i.packets i.cut in
    let e : HistoryInvariant i m = explained-new i may in
    let k = e.held.kept in
    after-keeps (setup_in i) (HistoryInvariant i) (λ n w. w.based.setup)
    (λ x. flow_small (setup_in i) x k.given) (explained-simple i) ss m
    (named-in i.plan i.packets i.cut ss named) e

-- what an explained machine's history says that delivers in order, that of every replay says
pub always-by : (P : Input → History → Type 0)
    → ((i : Input) (m : Machine) → HistoryInvariant i m → DeliversInOrder i (history_of m)
    → P i (history_of m)) → Always P
always-by P says =
    record {
      runs = run;
      replays = λ i may. run i (steps_of i.plan) may (plan_steps_within i.plan);
    }
  where
    run : (i : Input) (ss : List Step) → MayStart i.plan i.packets
        → AllPass (step_is_within (sizes_of i.plan)) ss
        → P i (history_of (after ss (new_machine i.plan i.packets i.cut)))
    run i ss may named =
        says i (after ss (new_machine i.plan i.packets i.cut)) (explained-after i ss may named)
        (runs_deliver i ss may named)

-- ---- what it has of its plan and its capture

pub of-its-input : (i : Input) (m : Machine) → HistoryInvariant i m → IsOfItsInput i (history_of m)
of-its-input i m e =
    let b = e.based in let p = b.setup in let h = e.held in let k = h.kept in
    let z = k.rx.sizes in let y = k.tx.sizes in let w = k.rx.sound.wide in
    let queues : length m.setup.homes ≡ length i.plan.queues =
    ap (λ (q : Setup). length q.homes) p
    ∙ length-map i.plan.queues (λ queue. queue.home) in
    record {
      total = ap (λ (q : Setup). length q.packets) p;
      cut = ap (λ (q : Setup). q.cut) p;
      start = ap (λ (f : Fixed). f.start) b.rx;
      queues = w.taken ∙ z.queues ∙ queues;
      cpus = lists-long m.rx k.rx.sound ∙ z.cpus ∙ ap (λ (q : Setup). q.cpus) p;
      txs = lists-long m.tx k.tx.sound ∙ y.txs ∙ ap (λ (q : Setup). q.txs) p;
    }

pub histories_always_of_input : Always IsOfItsInput
histories_always_of_input = always-by IsOfItsInput (λ i m e d. of-its-input i m e)

-- ---- the heads in the words of a history

heads-rise : (i : Input) (m : Machine) → HistoryInvariant i m → HeadsAreRising (history_of m)
heads-rise i m e =
    let h = e.heads in
    let start = same-start i m e.based in
    record {
      rx = h.rx;
      tx = λ a. subst (λ n. HeadsRise n (history_lanes m.tx.bare) (choices_of m.tx a)) start
          (h.tx a);
    }

pub heads_always_rise : Always (λ i h. HeadsAreRising h)
heads_always_rise = always-by (λ i h. HeadsAreRising h) (λ i m e d. heads-rise i m e)

-- ---- the choices of receive queues

choices-ruled : (i : Input) (m : Machine) → HistoryInvariant i m → AreChosen i (history_of m)
choices-ruled i m e =
    let at : ℕ → ℕ → ℕ = λ q. (e.rules q).0 in
    let by_rule : AreByRule i (history_of m) at =
    record {
      prefixes = λ q. (let r = (e.rules q).1 in r.prefixes);
      each = λ q k lt. (let r = (e.rules q).1 in r.each k lt);
    } in
    record {
      at = at;
      choices = by_rule;
      wants = λ q k want lt is. (let r = (e.rules q).1 in r.wants k want lt is);
      moves = flows_move i (history_of m) at by_rule;
    }

pub choices_always_ruled : Always AreChosen
choices_always_ruled = always-by AreChosen (λ i m e d. choices-ruled i m e)

-- ---- what is left behind

moves-clear : (i : Input) (m : Machine) → HistoryInvariant i m → NothingIsOutstanding (history_of m)
moves-clear i m e =
    let h = e.held in let k = h.kept in let c = e.clear in
    record {
      rx = clear-words m.rx k.rx.sound c.rx;
      tx = clear-words m.tx k.tx.sound c.tx;
    }

pub moves_always_clear : Always (λ i h. NothingIsOutstanding h)
moves_always_clear = always-by (λ i h. NothingIsOutstanding h) (λ i m e d. moves-clear i m e)

-- ---- the queues of arrivals

pub queues_always_seen : Always QueuesAreSeen
queues_always_seen = always-by QueuesAreSeen (λ i m e d. e.seen)

-- ---- the replies

replies-ruled : (i : Input) (m : Machine) → HistoryInvariant i m → DeliversInOrder i (history_of m)
    → AreReplied i (history_of m)
replies-ruled i m e d =
    let h = e.held in let k = h.kept in let r = h.recorded in let t = e.tx_rules in
    let at : ℕ → ℕ → ℕ = λ a. (t.each a).0 in
    record {
      at = at;
      replies = record {
        sent = λ a. record {
          first = k.replied.first a;
          queue = r.queues a;
          stood = e.stood a;
        };
        prefixes = λ a. (let x = (t.each a).1 in x.prefixes);
        each = λ a j lt. (let x = (t.each a).1 in x.each j lt);
        places = d.places;
        leave = d.leave;
      };
      changes = λ a j s lt is. (
          let x = (t.each a).1 in
          reply-changes i m a j (settings_at i (history_of m) (at a j)) s k lt is (x.each j lt));
    }

pub replies_always_ruled : Always AreReplied
replies_always_ruled = always-by AreReplied replies-ruled

-- ---- writes and commands

writes-made : (i : Input) (m : Machine) → HistoryInvariant i m → WritesAreMade i (history_of m)
writes-made i m e = e.written

pub writes_always_made : Always WritesAreMade
writes_always_made = always-by WritesAreMade (λ i m e d. writes-made i m e)

answers-allowed : (i : Input) (m : Machine) → HistoryInvariant i m → AreAnswered i (history_of m)
answers-allowed i m e =
    let b = e.based in let h = e.held in
    commands-answered i m b.setup (same-start i m b) b.filters h.kept e.commanding

pub commands_always_answered : Always AreAnswered
commands_always_answered = always-by AreAnswered (λ i m e d. answers-allowed i m e)

-- ---- all of it

pub good-so-far : (i : Input) (m : Machine) → HistoryInvariant i m → DeliversInOrder i
    (history_of m)
    → GoodSoFar i (history_of m)
good-so-far i m e d =
    let c = choices-ruled i m e in
    let r = replies-ruled i m e d in
    record {
      at = c.at;
      tx_at = r.at;
      queues = e.seen;
      choices = c.choices;
      wants = c.wants;
      heads = heads-rise i m e;
      drops = d.drops;
      steered = d.steered;
      writes = e.written;
      commands = answers-allowed i m e;
      replies = r.replies;
    }

pub always_good_so_far : Always GoodSoFar
always_good_so_far = always-by GoodSoFar good-so-far
