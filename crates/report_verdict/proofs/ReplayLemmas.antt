-- What is said of the report of a replay.
use Rattle.std.proofs.Common.{ℕ, ◌≡◌, ◌≢◌, ◌⊎◌, ◌<◌, zero, suc, Bool, List, [], ◌∷◌, ◌++◌}
use Rattle.std.proofs.Common.{Option, Some, None, get_or, length, refl, ap, ◌∙◌, sym, subst}
use Rattle.std.proofs.Common.{arith, inl, inr}
use Rattle.std.specs.Prelude.{slice_get}
use Rattle.std.specs.List.{AllPass}
use Rattle.std.proofs.lemmas.Bool.{cases_lt}
use Rattle.std.proofs.lemmas.List.{get_or_append_left, length-append}
use Rattle.good_check.specs.Faults.{FirstFault, HasFirstFault}
use Rattle.history.specs.Lists.{list_at}
use Rattle.history.specs.declared.history.History.{History}
use Rattle.history.specs.declared.sock_write.SockWrite.{SockWrite}
use Rattle.plan_reader.specs.Plans.{sizes_of}
use Rattle.plan_reader.specs.Ranges.{step_is_within}
use Rattle.report.specs.Laws.{HasOneHistory}
use Rattle.steer_base.specs.Choices.{class_of}
use Rattle.steer_base.specs.Counters.{rounded_up}
use Rattle.steer_base.specs.declared.step.Step.{Step}
use Rattle.steer_base.specs.declared.step.Step.TheVariants as act
use Rattle.steer_invariant.proofs.Invariant.StepLemmas.{plan_steps_within}
use Rattle.steer_invariant.specs.InvariantLaws.{ReplaysAreReportable}
use Rattle.steer_model.specs.Good.Commands.{AreGiven, CommandsAreGiven}
use Rattle.steer_model.specs.Good.GoodHistory.{Clause}
use Rattle.steer_model.specs.Good.Inputs.{Input, setup_in}
use Rattle.steer_model.specs.Good.Writes.{AreWrites, WritesAreRight}
use Rattle.steer_model.specs.State.Machine.{history_of}
use Rattle.steer_model.specs.State.Setup.{packet_hash}
use Rattle.steer_model.specs.State.Start.{new_machine, replayed}
use Rattle.steer_model.specs.Steps.CompoundSteps.{after}
use Rattle.steer_properties.specs.Commands.Answered.{IsWriteFor, WritesAreMade}
use Rattle.steer_properties.specs.Commands.GivenOnce.{ReplaysGiveOnce}
use Rattle.steer_properties.specs.Histories.Always.{Always}
use Rattle.steer_properties.specs.Histories.GoodAtRest.{GoodAtRest, SweptRunsAreGood}
use Rattle.steer_properties.specs.Histories.GoodSoFar.{GoodSoFar}
use Rattle.steer_properties.specs.Histories.Sizes.{IsOfItsInput}
use Rattle.report_verdict.specs.Replays.{EndsWithSweep, IsReportOfReplay, MayBeSaid}
use Rattle.report_verdict.specs.Replays.{ReplaysAreJudged, SweptReplaysAreGood}
use Rattle.report_verdict.specs.Replays.{SweptReplaysAreJudged, UnrecordedReplaysAreGood}
use Rattle.report_verdict.specs.Verdicts.{IsReportFor, commands_in}
use Rattle.report_verdict.specs.declared.verdict.Verdict.TheVariants as verdict
use Rattle.steer_model.proofs.Good.NoCommand.{by_rule_alone, replies_alone, wants_alone}
use Rattle.report_verdict.proofs.VerdictLemmas.{same_history}

-- ---- the history of a replay of a plan without commands

-- what is known of every replay
pub record EveryReplay : Type 0 where
  pub one : HasOneHistory
  pub reportable : ReplaysAreReportable
  pub sizes : Always IsOfItsInput
  pub given : ReplaysGiveOnce
  pub good : Always GoodSoFar

-- an empty list has nothing at any place
none_at : {A : Type 0} (xs : List A) (k : ℕ) (a : A) → xs ≡ [] → slice_get xs k ≡ Some a → ⊥
none_at {A} [] zero a e is = let no : ◌≡◌ {A = Option A} None (Some a) = is in cc
none_at {A} [] (suc k) a e is = let no : ◌≡◌ {A = Option A} None (Some a) = is in cc
none_at (x ∷ xs) k a e is = cc

-- clause 10 without commands
no_commands : (i : Input) (h : History) → commands_in i ≡ [] → h.commands ≡ []
    → CommandsAreGiven i h
no_commands i h plan none =
    record {
      given = subst (λ cs. AreGiven i.plan.tries cs h.commands) (sym plan) none;
      answers = λ k c is. absurd (none_at h.commands k c none is);
    }

-- the replay of an input
abbrev pub replay : Input → History
replay i = replayed i.plan i.packets i.cut

-- it has no command either
pub replay_none : EveryReplay → (i : Input) (texts : List (List ℕ)) (bytes : List ℕ)
    → commands_in i ≡ [] → IsReportOfReplay i texts bytes → (replay i).commands ≡ []
replay_none law i texts bytes plan r =
    subst (λ cs. AreGiven 1 cs (replay i).commands) plan (law.given i r.start)

-- the bytes are the report of this history
pub report_is : EveryReplay → (i : Input) (texts : List (List ℕ)) (bytes : List ℕ)
    → IsReportOfReplay i texts bytes → IsReportFor i bytes (replay i) texts
report_is law i texts bytes r =
    let can = law.reportable i.plan i.packets i.cut r.start in
    record {
      regular = can.regular;
      queued = can.queued;
      numbers = r.numbers;
      taps = r.taps;
      starts = (law.sizes.replays i r.start).start;
      text = r.text;
    }

-- a history with these bytes as its report is that of the replay
is_replay : EveryReplay → (i : Input) (texts : List (List ℕ)) (bytes : List ℕ)
    → IsReportOfReplay i texts bytes → (k : History) (others : List (List ℕ))
    → IsReportFor i bytes k others → k ≡ replay i
is_replay law i texts bytes r k others is =
    let can = law.reportable i.plan i.packets i.cut r.start in
    same_history law.one i bytes can.few_packets (omega (arith, can.few_apps)) k (replay i) others
    texts is (report_is law i texts bytes r)

-- ---- its clauses

-- a clause of a history in any state that is none of those on all packets
so_far_clause : (i : Input) (h : History) → commands_in i ≡ [] → h.commands ≡ [] → GoodSoFar i h
    → (n : ℕ) → n ≢ 1 → n ≢ 3 → n ≢ 8 → n ≢ 9 → Clause n i h
so_far_clause i h plan none g n one three eight nine =
    record {
      arrived = λ e. absurd (one e);
      queues = λ _. g.queues;
      choices = λ e. absurd (three e);
      wants = λ _. wants_alone i h g.at none g.wants;
      heads = λ _. g.heads;
      drops = λ _. g.drops;
      steered = λ _. g.steered;
      swept = λ e. absurd (eight e);
      writes = λ e. absurd (nine e);
      commands = λ _. no_commands i h plan none;
      replies = λ _. replies_alone i h g.tx_at none g.replies;
    }

-- a clause of a history at rest
rest_clause : (i : Input) (h : History) → commands_in i ≡ [] → h.commands ≡ [] → GoodAtRest i h
    → (n : ℕ) → (n ≡ 9 → WritesAreRight i h) → Clause n i h
rest_clause i h plan none g n writes =
    record {
      arrived = λ _. g.arrived;
      queues = λ _. g.queues;
      choices = λ _. record {
        all = g.choices.all;
        by_rule = by_rule_alone i h g.at none g.choices.by_rule;
      };
      wants = λ _. wants_alone i h g.at none g.wants;
      heads = λ _. g.heads;
      drops = λ _. g.drops;
      steered = λ _. g.steered;
      swept = λ _. g.swept;
      writes = writes;
      commands = λ _. no_commands i h plan none;
      replies = λ _. replies_alone i h g.tx_at none g.replies;
    }

-- ---- verdicts

same_or_not : (m n : ℕ) → (m ≡ n) ⊎ (m ≢ n)
same_or_not m n = elim (cases_lt m n) [
  | inl l ↦ inr (λ e. omega (arith, l, e))
  | inr h ↦ elim (cases_lt n m) [
    | inl l ↦ inr (λ e. omega (arith, l, e))
    | inr k ↦ inl (omega (arith, h, k))
  ]
]

-- a clause that fails first is one of those on all packets
first_fails : (i : Input) (h : History) → commands_in i ≡ [] → h.commands ≡ [] → GoodSoFar i h
    → (n : ℕ) → FirstFault n i h → MayBeSaid (verdict.Bad n)
first_fails i h plan none g n first = elim (same_or_not n 1) [
  | inl e ↦ inr (inl (ap verdict.Bad e))
  | inr one ↦ elim (same_or_not n 3) [
    | inl e ↦ inr (inr (inl (ap verdict.Bad e)))
    | inr three ↦ elim (same_or_not n 8) [
      | inl e ↦ inr (inr (inr (inl (ap verdict.Bad e))))
      | inr eight ↦ elim (same_or_not n 9) [
        | inl e ↦ inr (inr (inr (inr (ap verdict.Bad e))))
        | inr nine ↦ absurd
            (first.fault (so_far_clause i h plan none g n one three eight nine))
      ]
    ]
  ]
]

bad_fails : (i : Input) (h : History) → commands_in i ≡ [] → h.commands ≡ [] → GoodSoFar i h
    → (n : ℕ) → HasFirstFault i h n → MayBeSaid (verdict.Bad n)
bad_fails i h plan none g n (inl given) = absurd (given.0 none)
bad_fails i h plan none g n (inr first) = first_fails i h plan none g n first.1

pub replays_are_judged : EveryReplay → ReplaysAreJudged
replays_are_judged law i texts bytes verdict.NotChecked plan r is = absurd (is plan)
replays_are_judged law i texts bytes verdict.NotReport plan r is =
    absurd (is.1 (replay i) texts (report_is law i texts bytes r))
replays_are_judged law i texts bytes (verdict.Bad n) plan r (also, (k, others, report, fault)) =
    bad_fails i (replay i) plan (replay_none law i texts bytes plan r)
    (law.good.replays i r.start) n
    (subst (λ h. HasFirstFault i h n) (is_replay law i texts bytes r k others report) fault)
replays_are_judged law i texts bytes verdict.Good plan r is = inl refl

-- ---- sweeps

front_passes : (test : Step → Bool) (xs ys : List Step) → AllPass test (xs ++ ys) → AllPass test xs
front_passes test xs ys all i d lt =
    let long = length-append xs ys in
    ap test (sym (get_or_append_left xs ys d i lt)) ∙ all i d (omega (arith, lt, long))

-- the history of a replay whose last step is a sweep is good at rest
at_rest : SweptRunsAreGood → (i : Input) (texts : List (List ℕ)) (bytes : List ℕ)
    → EndsWithSweep i.plan → IsReportOfReplay i texts bytes → GoodAtRest i (replay i)
at_rest swept i texts bytes (ss, ends) r =
    let test : Step → Bool = step_is_within (sizes_of i.plan) in
    let front : AllPass test ss =
    front_passes test ss (act.Sweep ∷ []) (subst (AllPass test) ends (plan_steps_within i.plan)) in
    subst (λ all. GoodAtRest i (history_of (after all (new_machine i.plan i.packets i.cut))))
    (sym ends) (swept i ss r.start front)

pub swept_replays_are_good : EveryReplay → SweptRunsAreGood → SweptReplaysAreGood
swept_replays_are_good law swept i texts bytes plan ends r right =
    let none = replay_none law i texts bytes plan r in
    let rest = at_rest swept i texts bytes ends r in (
      plan,
      (
        replay i,
        texts,
        report_is law i texts bytes r,
        (none, λ n. rest_clause i (replay i) plan none rest n (λ _. right)),
      ),
    )

-- a clause that fails first at rest is that on the writes
nine_fails : (i : Input) (h : History) → commands_in i ≡ [] → h.commands ≡ [] → GoodAtRest i h
    → (n : ℕ) → HasFirstFault i h n → (n ≡ 9) × (WritesAreRight i h → ⊥)
nine_fails i h plan none g n (inl given) = absurd (given.0 none)
nine_fails i h plan none g n (inr first) = elim (same_or_not n 9) [
  | inl e ↦ (
    e,
    λ right. first.1.fault (rest_clause i h plan none g n (λ _. right)),
  )
  | inr nine ↦ absurd
      (first.1.fault (rest_clause i h plan none g n (λ e. absurd (nine e))))
]

pub swept_replays_are_judged : EveryReplay → SweptRunsAreGood → SweptReplaysAreJudged
swept_replays_are_judged law swept i texts bytes verdict.NotChecked plan ends r is =
    absurd (is plan)
swept_replays_are_judged law swept i texts bytes verdict.NotReport plan ends r is =
    absurd (is.1 (replay i) texts (report_is law i texts bytes r))
swept_replays_are_judged law swept i texts bytes (verdict.Bad n) plan ends r
    (also, (k, others, report, fault)) =
    let fails = nine_fails i (replay i) plan (replay_none law i texts bytes plan r)
    (at_rest swept i texts bytes ends r) n
    (subst (λ h. HasFirstFault i h n) (is_replay law i texts bytes r k others report) fault) in
    inr (ap verdict.Bad fails.0, fails.1)
swept_replays_are_judged law swept i texts bytes verdict.Good plan ends r is = inl refl

-- ---- without a socket flow table

-- a table of no entries has no entry for a hash
no_entry : (size hash entry : ℕ) → size ≡ 0 → class_of size (Some hash) ≡ Some entry → ⊥
no_entry zero hash entry e is = absurd (cc)
no_entry (suc size) hash entry e is = omega (arith, e)

-- an application has no writes
no_writes : (i : Input) (h : History) (a : ℕ) → h.commands ≡ [] → i.plan.sock ≡ 0
    → (ws : List SockWrite)
    → ((k : ℕ) (d : SockWrite) → k < length ws → IsWriteFor i h a (get_or ws k d)) → ws ≡ []
no_writes i h a none zero_size [] made = refl
no_writes i h a none zero_size (w ∷ ws) made =
    let write = (made 0 w (omega arith)).write in
    elim write.is_size [
      | inl is ↦ absurd (no_entry write.size (made 0 w (omega arith)).hash w.entry
          (is ∙ ap rounded_up zero_size) write.at)
      | inr (n, is, (j, given)) ↦ absurd (none_at h.commands j _ none given)
    ]

-- without writes an inbox has none, if 0 is a size of the table
none_for : (i : Input) (h : History) (a : ℕ) → i.plan.sock ≡ 0 → (xs : List ℕ)
    → AreWrites i h a xs []
none_for i h a zero_size [] = refl
none_for i h a zero_size (x ∷ xs) =
    by (packet_hash (setup_in i) x) refl (none_for i h a zero_size xs)
  where
    by : (hash : Option ℕ) → packet_hash (setup_in i) x ≡ hash → AreWrites i h a xs []
        → AreWrites i h a (x ∷ xs) []
    by None is rest = inl (is, rest)
    by (Some hash) is rest = inr (inr (hash, is, inl (sym (ap rounded_up zero_size)), rest))

writes_right : (i : Input) (h : History) → h.commands ≡ [] → i.plan.sock ≡ 0 → WritesAreMade i h
    → WritesAreRight i h
writes_right i h none zero_size made a =
    subst (AreWrites i h a (list_at h.inboxes a))
    (sym (no_writes i h a none zero_size (list_at h.writes a) (made a)))
    (none_for i h a zero_size (list_at h.inboxes a))

pub unrecorded_replays_are_good : EveryReplay → SweptRunsAreGood → UnrecordedReplaysAreGood
unrecorded_replays_are_good law swept i texts bytes plan ends zero_size r =
    let none = replay_none law i texts bytes plan r in
    swept_replays_are_good law swept i texts bytes plan ends r
    (writes_right i (replay i) none zero_size (at_rest swept i texts bytes ends r).writes)
