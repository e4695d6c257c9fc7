-- The homes of all queues stay online.
use Rattle.std.proofs.Common.{◌||◌, not}
use Rattle.std.specs.Prelude.{position}
use Rattle.std.specs.List.{position_or_len}
use Rattle.std.proofs.lemmas.Bool.{lt-ltb, ltb-false}
use Rattle.std.proofs.lemmas.List.Sums.{fails_before_first}
use Rattle.steer_base.specs.Commands.{queue_or_app, user_of}
use Rattle.steer_base.specs.declared.command.Command.TheVariants as give
use Rattle.steer_base.specs.declared.command.Refused.{Refused}
use Rattle.steer_base.specs.declared.command.Refused.TheVariants as refused
use Rattle.steer_base.proofs.MasksLemmas.{has-first_cpus, has-with_cpu, has-without_cpu}
use Rattle.plan_reader.specs.Ranges.{QueueIsWithin}
use Rattle.steer_model.specs.Good.Commands.{refused_with}
use Rattle.run_coupling.specs.Coupling.Answers.{AllAnswered, IsAnswered}
use Rattle.run_coupling.proofs.Names.{◌≡◌, ◌≢◌, ℕ, zero, suc, ◌<◌, ◌≤◌, ◌==◌, ◌&&◌, Bool, true}
use Rattle.run_coupling.proofs.Names.{false, List, [], ◌∷◌, Option, Some, None, length, map, All}
use Rattle.run_coupling.proofs.Names.{if◌then◌else◌, sym, refl, ap, ◌∙◌, arith, nat_lt, slice_index}
use Rattle.run_coupling.proofs.Names.{option_map, eq-eqb, ne_eqb, ltb-true, All-head, All-tail, has}
use Rattle.run_coupling.proofs.Names.{Command, History, QueuePlan, Input, setup_in, Settings}
use Rattle.run_coupling.proofs.Names.{changed, initial_settings, is_done, Try, settings_by}
use Rattle.run_coupling.proofs.Tries.RangeLemmas.{IsWithinPlan}

-- the homes of these queues are online
abbrev pub HomesOnline : List ℕ → Settings → Type 0
HomesOnline homes s = (p : ℕ) → p < length homes → has s.online (slice_index homes p) ≡ true

-- if no home is the processor, the home at an index is another
none-there : (cpu : ℕ) (homes : List ℕ) → position (λ home. home == cpu) homes ≡ None
    → (p : ℕ) → p < length homes → slice_index homes p ≢ cpu
none-there cpu homes none p less e =
    let first : ℕ = position_or_len (λ home. home == cpu) homes in
    let past = out (nat_lt first (length homes)) first refl none in
    let end : length homes ≤ first = ltb-false first (length homes) past in
    let fails = fails_before_first (λ home. home == cpu) homes p 0 (omega arith) in
    apart (sym (eq-eqb (slice_index homes p) cpu e) ∙ fails)
  where
    out : (b : Bool) (n : ℕ) {c : Bool} → c ≡ b → (if c then Some n else None) ≡ None → c ≡ false
    out true n is none = absurd (some-none (ap (λ c. if c then Some n else None) (sym is) ∙ none))
      where
        some-none : Some n ≡ None → ⊥
        some-none e = absurd (cc)
    out false n is none = is

    apart : true ≡ false → ⊥
    apart e = absurd (cc)

-- a command that may take a processor offline names none of the homes
nobody-uses : (a b : Option ℕ)
    → option_map (λ user. refused.CpuInUse user) (queue_or_app a b) ≡ None → a ≡ None
nobody-uses None b e = refl
nobody-uses (Some n) b e = absurd (cc)

module _ (i : Input) where
  abbrev homes : List ℕ
  homes = (setup_in i).homes

  offline-free : (s : Settings) (cpu : ℕ) → refused_with i s (give.Offline cpu) ≡ None
      → (p : ℕ) → p < length homes → slice_index homes p ≢ cpu
  offline-free s cpu free = by_online (has s.online cpu) free
    where
      by_online : (b : Bool)
          → (if b then option_map (λ user. refused.CpuInUse user)
          (user_of (setup_in i).homes s.stands cpu)
          else Some refused.CpuOffline) ≡ None
          → (p : ℕ) → p < length (setup_in i).homes → slice_index (setup_in i).homes p ≢ cpu
      by_online true free p less =
          none-there cpu (setup_in i).homes
          (nobody-uses (position (λ home. home == cpu) (setup_in i).homes)
          (position (λ stand. stand == cpu) s.stands) free) p less
      by_online false free p less = absurd (cc)

  homes_changed : (s : Settings) (c : Command) → IsWithinPlan i.plan c
      → refused_with i s c ≡ None → HomesOnline homes s → HomesOnline homes (changed s c)
  homes_changed s (give.Offline cpu) within free on p less =
      let few = i.plan.within.cpus_within in
      let named = ltb-true cpu i.plan.cpus within in
      let ne : cpu ≢ slice_index homes p = λ e. offline-free s cpu free p less (sym e) in
      has-without_cpu s.online cpu (slice_index homes p) (omega arith)
      ∙ both (on p less) (ap not (ne_eqb cpu (slice_index homes p) ne))
    where
      both : {a b : Bool} → a ≡ true → b ≡ true → (a && b) ≡ true
      both e f = λ j. e j && f j
  homes_changed s (give.Online cpu) within free on p less =
      let few = i.plan.within.cpus_within in
      let named = ltb-true cpu i.plan.cpus within in
      has-with_cpu s.online cpu (slice_index homes p) (omega arith)
      ∙ ap (λ b. b || (nat_lt (slice_index homes p) 32 && cpu == slice_index homes p)) (on p less)
  homes_changed s c within free on p less = on p less

  first-homes : (qs : List QueuePlan) (p : ℕ) → All (QueueIsWithin i.plan.cpus) qs
      → p < length (map (λ (q : QueuePlan). q.home) qs)
      → slice_index (map (λ (q : QueuePlan). q.home) qs) p < i.plan.cpus
  first-homes [] p all less = absurd (omega arith)
  first-homes (q ∷ qs) zero all less = (All-head (QueueIsWithin i.plan.cpus) q qs all).home
  first-homes (q ∷ qs) (suc p) all less =
      first-homes qs p (All-tail (QueueIsWithin i.plan.cpus) q qs all) (omega arith)

  homes_first : HomesOnline homes (initial_settings i.plan)
  homes_first p less =
      has-first_cpus i.plan.cpus (slice_index homes p) i.plan.within.cpus_within
      ∙ lt-ltb (slice_index homes p) i.plan.cpus
      (first-homes i.plan.queues p i.plan.within.queues_within less)

  -- a done command was not refused
  done-free : (h : History) (t : Try) (o : Option Refused) → is_done t.given.answer ≡ true
      → IsAnswered i h t o → o ≡ None
  done-free h t None done is = refl
  done-free h t (Some (refused.CpuInUse user)) done is = absurd (apart (sym (ap is_done is) ∙ done))
    where
      apart : false ≡ true → ⊥
      apart e = absurd (cc)
  done-free h t (Some refused.CpuOffline) done is = absurd (apart (sym (ap is_done is) ∙ done))
    where
      apart : false ≡ true → ⊥
      apart e = absurd (cc)
  done-free h t (Some refused.AlreadyOnline) done is = absurd (apart (sym (ap is_done is) ∙ done))
    where
      apart : false ≡ true → ⊥
      apart e = absurd (cc)

  pub homes_by : (h : History) (ts : List Try)
      → All (λ (t : Try). IsWithinPlan i.plan t.given.command) ts → AllAnswered i h ts
      → HomesOnline homes (settings_by (initial_settings i.plan) ts)
  homes_by h [] within answered = homes_first
  homes_by h (t ∷ ts) within answered =
      by_done (is_done t.given.answer) refl
      (homes_by h ts (All-tail (λ (t : Try). IsWithinPlan i.plan t.given.command) t ts within)
      answered.1)
      (All-head (λ (t : Try). IsWithinPlan i.plan t.given.command) t ts within) answered.0
    where
      by_done : (b : Bool) → is_done t.given.answer ≡ b
          → HomesOnline (setup_in i).homes (settings_by (initial_settings i.plan) ts)
          → IsWithinPlan i.plan t.given.command → IsAnswered i h t
          (refused_with i (settings_by (initial_settings i.plan) ts) t.given.command)
          → HomesOnline (setup_in i).homes
          (if b then changed (settings_by (initial_settings i.plan) ts) t.given.command
          else settings_by (initial_settings i.plan) ts)
      by_done true done on within answer =
          homes_changed (settings_by (initial_settings i.plan) ts) t.given.command within
          (done-free h t
          (refused_with i (settings_by (initial_settings i.plan) ts) t.given.command) done answer)
          on
      by_done false done on within answer = on
