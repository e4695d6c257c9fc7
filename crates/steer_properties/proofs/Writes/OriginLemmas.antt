-- Where the values in force come from: the plan, or a command that was done.
use Rattle.std.proofs.Common.{ℕ, suc, ◌<◌, ◌≡◌, ◌⊎◌, true, false, List}
use Rattle.std.proofs.Common.{[], ◌∷◌, Option, Some, None, length, refl, ap, ◌∙◌, sym, subst}
use Rattle.std.proofs.Common.{inl, inr}
use Rattle.std.specs.Prelude.{slice_get, slice_index}
use Rattle.std.specs.List.{cons_option, filter_map}
use Rattle.std.proofs.lemmas.Bool.{cases_Bool, cases_eq, eq-eqb, ne_eqb}
use Rattle.std.proofs.lemmas.Option.{same_Some, slice_get-get_or}
use Rattle.history.specs.declared.commanded.Commanded.{Commanded}
use Rattle.history.specs.declared.history.History.{History}
use Rattle.steer_base.specs.Counters.{rounded_up}
use Rattle.steer_base.specs.Entries.{last_or}
use Rattle.steer_base.specs.declared.command.Answer.{Answer}
use Rattle.steer_base.specs.declared.command.Answer.TheVariants as says
use Rattle.steer_base.specs.declared.command.Command.{Command}
use Rattle.steer_base.specs.declared.command.Command.TheVariants as give
use Rattle.steer_base.specs.declared.command.Refused.{Refused}
use Rattle.steer_base.specs.declared.command.Refused.TheVariants as refused
use Rattle.steer_model.specs.Steps.Applications.{stand_of}
use Rattle.steer_model.specs.Steps.Commands.{is_done, refused_answer}
use Rattle.steer_model.specs.Good.Arrivals.{EntryFrom}
use Rattle.steer_model.specs.Good.Commands.{refused_with}
use Rattle.steer_model.specs.Good.Writes.{IsSize, StoodAt}
use Rattle.steer_model.specs.Good.Inputs.{Input, WasDone}
use Rattle.step_laws.specs.Origins.SettingWrites.{AreLastWrites, entry_for, if_done, last_write}
use Rattle.step_laws.specs.Origins.SettingWrites.{sock_for}
use Rattle.step_laws.specs.Origins.SettingWrites.{stand_for}
use Rattle.steer_model.specs.State.Machine.{Machine, history_of}
use Rattle.steer_model.specs.State.Settings.{Settings}
use Rattle.steer_model.specs.State.Start.{initial_settings}
use Rattle.step_laws.proofs.Origins.SettingWriteLemmas.{values_are_last_writes}
use Rattle.steer_properties.proofs.Commands.AnswerLemmas.{AnswersBy, Ends}
use Rattle.steer_properties.proofs.Commands.StepLemmas.{Commanding, settings_by}
use Rattle.steer_properties.proofs.Histories.ExtendLemmas.{Extends, extends-slice_get}
use Rattle.steer_properties.proofs.Choices.RuleStepLemmas.{Follows}

-- ---- the last write of a list of commands

-- a done command of the list wrote this value
abbrev Wrote : (Command → Option ℕ) → List Commanded → ℕ → Type 0
Wrote value cs v =
    (j : ℕ) × (x : Commanded) × (slice_get cs j ≡ Some x) × (is_done x.answer ≡ true)
    × (value x.command ≡ Some v)

wrote-further : (value : Command → Option ℕ) (c : Commanded) (cs : List Commanded) (v : ℕ)
    → Wrote value cs v → Wrote value (c ∷ cs) v
wrote-further value c cs v w = (suc w.0, w.1, w.2, w.3, w.4)

done-write : (value : Command → Option ℕ) (c : Commanded) (v : ℕ) → if_done value c ≡ Some v
    → (is_done c.answer ≡ true) × (value c.command ≡ Some v)
done-write value c v is =
    elim (cases_Bool (is_done c.answer)) [
      | inl done ↦ (done, rw done at is)
      | inr refused ↦ absurd (let f : None ≡ Some v = rw refused at is in cc)
    ]

-- by what the first command of a list writes, and what is so of the others
by-write : (value : Command → Option ℕ) (first v : ℕ) (c : Commanded) (cs : List Commanded)
    → ((d : ℕ) → last_write value d cs ≡ v → (v ≡ d) ⊎ Wrote value cs v) → (o : Option ℕ)
    → if_done value c ≡ o → last_or first (cons_option o (filter_map (if_done value) cs)) ≡ v
    → (v ≡ first) ⊎ Wrote value (c ∷ cs) v
by-write value first v c cs rest None e is =
    elim (rest first is) [
      | inl same ↦ inl same
      | inr w ↦ inr (wrote-further value c cs v w)
    ]
by-write value first v c cs rest (Some u) e is =
    elim (rest u is) [
      | inl same ↦
          let d = done-write value c u e in
          inr (0, c, refl, d.0, d.1 ∙ ap (λ n. Some n) (sym same))
      | inr w ↦ inr (wrote-further value c cs v w)
    ]

written-by : (value : Command → Option ℕ) (first v : ℕ) (cs : List Commanded)
    → last_write value first cs ≡ v → (v ≡ first) ⊎ Wrote value cs v
written-by value first v [] is = inl (sym is)
written-by value first v (c ∷ cs) is =
    by-write value first v c cs (λ d. written-by value d v cs) (if_done value c) refl is

-- ---- what a command is that writes a value

stand-is : (a v : ℕ) (c : Command) → stand_for a c ≡ Some v → c ≡ give.Stand a v
stand-is a v (give.Stand other cpu) is =
    elim (cases_eq a other) [
      | inl e ↦
          let f : Some cpu ≡ Some v = rw (eq-eqb a other e) at is in
          ap (λ n. give.Stand n cpu) (sym e) ∙ ap (give.Stand a) (same_Some cpu v f)
      | inr ne ↦ absurd (let f : None ≡ Some v = rw (ne_eqb a other ne) at is in cc)
    ]
stand-is a v (give.Mask q mask) is = absurd (cc)
stand-is a v (give.Flows q count) is = absurd (cc)
stand-is a v (give.Sock size) is = absurd (cc)
stand-is a v (give.Offline cpu) is = absurd (cc)
stand-is a v (give.Online cpu) is = absurd (cc)
stand-is a v (give.XCpus tx mask) is = absurd (cc)
stand-is a v (give.XQueues tx queues) is = absurd (cc)
stand-is a v (give.Reta place q) is = absurd (cc)
stand-is a v give.Expire is = absurd (cc)

entry-is : (place v : ℕ) (c : Command) → entry_for place c ≡ Some v → c ≡ give.Reta place v
entry-is place v (give.Reta other q) is =
    elim (cases_eq place other) [
      | inl e ↦
          let f : Some q ≡ Some v = rw (eq-eqb place other e) at is in
          ap (λ n. give.Reta n q) (sym e) ∙ ap (give.Reta place) (same_Some q v f)
      | inr ne ↦ absurd (let f : None ≡ Some v = rw (ne_eqb place other ne) at is in cc)
    ]
entry-is place v (give.Mask q mask) is = absurd (cc)
entry-is place v (give.Flows q count) is = absurd (cc)
entry-is place v (give.Sock size) is = absurd (cc)
entry-is place v (give.Offline cpu) is = absurd (cc)
entry-is place v (give.Online cpu) is = absurd (cc)
entry-is place v (give.XCpus tx mask) is = absurd (cc)
entry-is place v (give.XQueues tx queues) is = absurd (cc)
entry-is place v (give.Stand app cpu) is = absurd (cc)
entry-is place v give.Expire is = absurd (cc)

sock-is : (v : ℕ) (c : Command) → sock_for c ≡ Some v
    → (n : ℕ) × (c ≡ give.Sock n) × (v ≡ rounded_up n)
sock-is v (give.Sock size) is = (size, refl, sym (same_Some (rounded_up size) v is))
sock-is v (give.Mask q mask) is = absurd (cc)
sock-is v (give.Flows q count) is = absurd (cc)
sock-is v (give.Offline cpu) is = absurd (cc)
sock-is v (give.Online cpu) is = absurd (cc)
sock-is v (give.XCpus tx mask) is = absurd (cc)
sock-is v (give.XQueues tx queues) is = absurd (cc)
sock-is v (give.Reta place q) is = absurd (cc)
sock-is v (give.Stand app cpu) is = absurd (cc)
sock-is v give.Expire is = absurd (cc)

-- ---- a done command that is no expiry has the answer Done

refused-not_done : (why : Refused) → is_done (refused_answer why) ≡ false
refused-not_done (refused.CpuInUse user) = refl
refused-not_done refused.CpuOffline = refl
refused-not_done refused.AlreadyOnline = refl

done-ends : (m : Machine) (c : Command) (why : Option Refused) (a : Answer) → is_done a ≡ true
    → AnswersBy m c why a → Ends m c a
done-ends m c None a done e = e
done-ends m c (Some why) a done e =
    absurd (
    let f : true ≡ false = sym done ∙ ap is_done e ∙ refused-not_done why in cc)

-- so has one at a gate
gated-done : (m : Machine) (size : ℕ) (a : Answer) → is_done a ≡ true → Ends m (give.Sock size) a
    → a ≡ says.Done
gated-done m size a done (inl e) = e
gated-done m size a done (inr b) =
    absurd (let f : true ≡ false = sym done ∙ ap is_done b.1 in cc)

module _ (i : Input) (m : Machine) (w : Commanding i m) where
  -- a command with this value in the list was done, where it ends so
  found-done : (value : Command → Option ℕ) (v : ℕ) (c : Command) (f : Wrote value m.commands v)
      → f.1.command ≡ c → ((a : Answer) → is_done a ≡ true → Ends m c a → a ≡ says.Done)
      → WasDone (history_of m) c
  found-done value v c f same ends =
      let j = f.0 in let x : Commanded = f.1 in
      let by : AnswersBy m x.command (refused_with i (settings_by i m j) x.command) x.answer =
      w.answered j x f.2 in
      let e : Ends m x.command x.answer =
      done-ends m x.command (refused_with i (settings_by i m j) x.command) x.answer f.3 by in
      let answer : x.answer ≡ says.Done =
      ends x.answer f.3 (subst (λ d. Ends m d x.answer) same e) in
      (j, f.2 ∙ (λ k. Some (record { command = same k; answer = answer k })))

  abbrev first : Settings
  first = initial_settings i.plan

  last : AreLastWrites first m.commands
  last = values_are_last_writes first m.commands w.named

  -- where an application stands: by the plan, or by a done command
  pub stood-at : (a : ℕ) → Follows i m → a < length i.plan.apps
      → StoodAt i (history_of m) a (stand_of m a)
  stood-at a follows lt =
      let l = last in
      let v : ℕ = stand_of m a in
      let now : last_write (stand_for a) (slice_index i.plan.apps a) m.commands ≡ v =
      sym (ap (λ (s : Settings). slice_index s.stands a) follows ∙ l.stands a lt) in
      elim (written-by (stand_for a) (slice_index i.plan.apps a) v m.commands now) [
        | inl same ↦
            inl (slice_get-get_or i.plan.apps a 0 lt ∙ ap (λ n. Some n) (sym same))
        | inr f ↦
            inr
            (found-done (stand_for a) v (give.Stand a v) f (stand-is a v f.1.command f.4)
            (λ b done e. e))
      ]

  -- the queue of an entry of the redirection table
  pub entry-from : (place : ℕ) → Follows i m → place < length i.plan.reta
      → EntryFrom i (history_of m) place (slice_index m.settings.reta.entries place)
  entry-from place follows lt =
      let l = last in
      let v : ℕ = slice_index m.settings.reta.entries place in
      let now : last_write (entry_for place) (slice_index i.plan.reta place) m.commands ≡ v =
      sym (ap (λ (s : Settings). slice_index s.reta.entries place) follows ∙ l.entries place lt) in
      elim (written-by (entry_for place) (slice_index i.plan.reta place) v m.commands now) [
        | inl same ↦ inl (sym same)
        | inr f ↦
            inr
            (found-done (entry_for place) v (give.Reta place v) f
            (entry-is place v f.1.command f.4) (λ b done e. e))
      ]

  -- the size of the socket flow table
  pub size-is : Follows i m → IsSize i (history_of m) m.settings.sock
  size-is follows =
      let l = last in
      let v : ℕ = m.settings.sock in
      let now : last_write sock_for (rounded_up i.plan.sock) m.commands ≡ v =
      sym (ap (λ (s : Settings). s.sock) follows ∙ l.sock) in
      elim (written-by sock_for (rounded_up i.plan.sock) v m.commands now) [
        | inl same ↦ inl same
        | inr f ↦
            let n = sock-is v f.1.command f.4 in
            inr (
              n.0,
              n.2,
              found-done sock_for v (give.Sock n.0) f n.1 (λ b done e. gated-done m n.0 b done e),
            )
      ]

-- ---- what was done stays done

pub was-done-lasts : (g h : History) (c : Command) → Extends g.commands h.commands → WasDone g c
    → WasDone h c
was-done-lasts g h c e w = (
  w.0,
  extends-slice_get g.commands h.commands w.0
      (record { command = c; answer = says.Done }) e w.1,
)

pub stood-lasts : (i : Input) (g h : History) (a cpu : ℕ) → Extends g.commands h.commands
    → StoodAt i g a cpu → StoodAt i h a cpu
stood-lasts i g h a cpu e (inl plan) = inl plan
stood-lasts i g h a cpu e (inr w) = inr (was-done-lasts g h (give.Stand a cpu) e w)

pub entry-lasts : (i : Input) (g h : History) (place q : ℕ) → Extends g.commands h.commands
    → EntryFrom i g place q → EntryFrom i h place q
entry-lasts i g h place q e (inl plan) = inl plan
entry-lasts i g h place q e (inr w) = inr (was-done-lasts g h (give.Reta place q) e w)

pub size-lasts : (i : Input) (g h : History) (size : ℕ) → Extends g.commands h.commands
    → IsSize i g size → IsSize i h size
size-lasts i g h size e (inl plan) = inl plan
size-lasts i g h size e (inr w) =
    inr (w.0, w.1, was-done-lasts g h (give.Sock w.0) e w.2)
