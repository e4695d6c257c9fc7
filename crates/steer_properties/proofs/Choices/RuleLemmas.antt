-- Each choice of a receive queue is by the rule with the settings after the commands before it.
use Rattle.std.proofs.Common.{ℕ, suc, ◌+◌, ◌≤◌, ◌<◌, ◌≡◌, Bool, true, false, cond, not}
use Rattle.std.proofs.Common.{[], ◌∷◌, ◌++◌, Option, Some, None, length, take, drop, refl, ap, ◌∙◌}
use Rattle.std.proofs.Common.{sym, subst, arith, inl, inr, unwrap_or}
use Rattle.std.specs.Prelude.{◌==◌}
use Rattle.std.proofs.Math.Seq.{take-append_seam}
use Rattle.std.proofs.lemmas.Bool.{cases_lt}
use Rattle.steer_base.specs.Choices.{by_entry, class_of, desired_cpu, migrate}
use Rattle.steer_base.specs.Counters.{has_reached}
use Rattle.steer_base.specs.Entries.{entry}
use Rattle.steer_base.specs.Sets.{has}
use Rattle.steer_base.specs.declared.choice.Choice.{Choice}
use Rattle.steer_base.specs.declared.choice.Chosen.{Chosen}
use Rattle.steer_base.specs.declared.choice.Entry.{Entry}
use Rattle.steer_base.specs.declared.choice.Why.TheVariants.{Kept, Offline, Passed, Same}
use Rattle.steer_base.specs.declared.cpu_mask.CpuMask.{CpuMask}
use Rattle.hop_model.specs.Hop.{HopState, accepted_at, choices_of, chosen_at, head_at}
use Rattle.hop_model.specs.Hop.{next_of, nobody, recent, since_of}
use Rattle.hop_core.specs.Laws.{entries_before}
use Rattle.hop_model.specs.Sound.{Sound}
use Rattle.hop_core.proofs.KeptHeads.{kept_head_decides}
use Rattle.hop_core.proofs.Lists.{Changed-set, chosen-push_last, length-push}
use Rattle.steer_model.specs.Good.Choices.{IsByRule, WasWritten, accepted_in}
use Rattle.steer_model.specs.Good.Inputs.{Input, Prefixes, settings_after, settings_at, setup_in}
use Rattle.steer_model.specs.Good.Inputs.{since_at}
use Rattle.steer_model.specs.State.Machine.{Machine, history_of, history_lanes}
use Rattle.steer_model.specs.State.Settings.{Settings, class_at, plain_lane}
use Rattle.steer_model.specs.State.Setup.{Setup, packet_hash}
use Rattle.steer_model.specs.State.Start.{initial_settings}
use Rattle.steer_invariant.proofs.LaneLemmas.{lane-is}
use Rattle.steer_properties.proofs.Histories.ExtendLemmas.{extends-get, extends-length}
use Rattle.steer_properties.proofs.Histories.LastingLemmas.{Lasts}
use Rattle.steer_properties.proofs.Choices.LookLemmas.{WantFrom, was-written-lasts}
use Rattle.steer_properties.proofs.Histories.MomentLemmas.{settings-all, settings-longer}
use Rattle.steer_properties.proofs.Histories.MomentLemmas.{since-agree, since-chosen}
use Rattle.steer_properties.proofs.Histories.MomentLemmas.{since-longer, then-before, then-from}
use Rattle.steer_properties.proofs.Histories.MomentLemmas.{then_at}
use Rattle.steer_properties.proofs.Histories.HopGrowthLemmas.{Stays}
use Rattle.steer_properties.proofs.Histories.StepKindLemmas.{new_choice, weighed}

-- ---- a choice is by the rule with its own want and its own head

want-by : (k : ℕ) (want : Option ℕ) (desired tail current head : ℕ) (same off reached : Bool)
    → (cond {A = Choice} same
    (record {
      class = Some k;
      want = want;
      head = None;
      tail = Some tail;
      lane = current;
      why = Same;
    })
    (cond {A = Choice} off
    (record {
      class = Some k;
      want = want;
      head = None;
      tail = Some tail;
      lane = desired;
      why = Offline;
    })
    (cond {A = Choice} reached
    (record {
      class = Some k;
      want = want;
      head = Some head;
      tail = Some tail;
      lane = desired;
      why = Passed;
    })
    (record {
      class = Some k;
      want = want;
      head = Some head;
      tail = Some tail;
      lane = current;
      why = Kept;
    })))).want ≡ want
want-by k want desired tail current head true off reached = refl
want-by k want desired tail current head false true reached = refl
want-by k want desired tail current head false false true = refl
want-by k want desired tail current head false false false = refl

pub by_entry-want : (k : ℕ) (want : Option ℕ) (desired tail : ℕ) (head : ℕ → ℕ)
    (online : ℕ → Bool) (current : Option ℕ)
    → (by_entry k want desired tail head online current).want ≡ want
by_entry-want k want desired tail head online None = refl
by_entry-want k want desired tail head online (Some lane) =
    want-by k want desired tail lane (head lane) (lane == desired) (not (online lane))
    (has_reached (head lane) tail 0)

-- a want that is set was seen
migrate-want : (class want : Option ℕ) (desired : ℕ) (entries : ℕ → Entry) (head : ℕ → ℕ)
    (online : ℕ → Bool) (cpu : ℕ)
    → (migrate class want desired entries head online).want ≡ Some cpu → want ≡ Some cpu
migrate-want None want desired entries head online cpu is = absurd (cc)
migrate-want (Some k) want desired entries head online cpu is =
    sym (by_entry-want k want desired (entries k).tail head online (entries k).lane) ∙ is

kept-want : (class want : Option ℕ) (online : CpuMask) (rps : ℕ) (entries : ℕ → Entry)
    (head : ℕ → ℕ) (c : Choice)
    → c ≡ migrate class want (desired_cpu class want online rps) entries head (has online)
    → c
    ≡ migrate class c.want (desired_cpu class c.want online rps) entries
    (λ lane. unwrap_or c.head 0) (has online)
kept-want None want online rps entries head c is = is
kept-want (Some k) want online rps entries head c is =
    let desired : ℕ = desired_cpu (Some k) want online rps in
    let same : c.want ≡ want =
    ap (λ (d : Choice). d.want) is
    ∙ by_entry-want k want desired (entries k).tail head (has online) (entries k).lane in
    kept_head_decides (Some k) want desired entries head (has online) c is
    ∙ ap
    (λ w. migrate (Some k) w (desired_cpu (Some k) w online rps) entries
    (λ lane. unwrap_or c.head 0) (has online))
    (sym same)

-- the rule for a choice of a queue, over these entries
abbrev pub ruled : Setup → Settings → ℕ → Chosen → (ℕ → Entry) → Choice
ruled p s q c entries =
    migrate (class_at p s q c.id) c.choice.want
    (desired_cpu (class_at p s q c.id) c.choice.want s.online (plain_lane p s q c.id)) entries
    (λ lane. unwrap_or c.choice.head 0) (has s.online)

-- ---- the entries of a history

pub entries-are : (s : HopState) → Sound s → (p from k : ℕ)
    → entry s.fixed.start (accepted_in (history_lanes s.bare)) (drop from (take k (choices_of s p)))
    ≡ entries_before s p from k
entries-are s h p from k =
    λ i. entry s.fixed.start (λ c. (lane-is s h c i).accepted)
    (drop from (take k (choices_of s p)))

-- they stay those before a choice
pub entries-stay : (s t : HopState) → Sound s → Sound t → Stays s t → (p from k : ℕ)
    → k < length (choices_of s p)
    → entry t.fixed.start (accepted_in (history_lanes t.bare)) (drop from (take k (choices_of t p)))
    ≡ entry s.fixed.start (accepted_in (history_lanes s.bare)) (drop from (take k (choices_of s p)))
entries-stay s t h g stays p from k lt =
    entries-are t g p from k ∙ (λ i c. stays.entries p k from c lt i)
    ∙ sym (entries-are s h p from k)

-- ---- the choices that were made stay by the rule

rule-stays : (i : Input) (m n : Machine) (q k : ℕ) (st : Settings) (since : ℕ) → Sound m.rx
    → Sound n.rx → Stays m.rx n.rx → k < length (choices_of m.rx q)
    → IsByRule i (history_of m) q k st since → IsByRule i (history_of n) q k st since
rule-stays i m n q k st since h g stays lt old =
    let here : chosen_at (choices_of n.rx q) k ≡ chosen_at (choices_of m.rx q) k =
    extends-get (choices_of m.rx q) (choices_of n.rx q) k nobody (stays.choices q) lt in
    let back : chosen_at (choices_of m.rx q) k ≡ chosen_at (choices_of n.rx q) k = sym here in
    let same = sym (entries-stay m.rx n.rx h g stays q since k lt) in
    ap (λ d. d.choice) here ∙ old ∙ (λ j. ruled (setup_in i) st q (back j) (same j))

-- the want of a choice was written, by the size after so many commands
abbrev pub WantOf : Input → Machine → ℕ → ℕ → ℕ → ℕ → Type 0
WantOf i m q k n want =
    (place : ℕ)
    × (class_of (settings_at i (history_of m) n).sock
    (packet_hash (setup_in i) (chosen_at (choices_of m.rx q) k).id) ≡ Some place)
    × WasWritten (history_of m) (record { entry = place; cpu = want })

-- Of a queue, for each of its choices the number of commands that it was made after; each choice is
-- by the rule, with a want that was written; and what the hop takes for its recent choices begins
-- at the last resize.
pub record Ruled (i : Input) (m : Machine) (q : ℕ) (at : ℕ → ℕ) : Type 0 where
  pub prefixes : Prefixes (length (choices_of m.rx q)) (length m.commands) at
  pub each : (k : ℕ) → k < length (choices_of m.rx q)
      → IsByRule i (history_of m) q k (settings_at i (history_of m) (at k))
      (since_at m.commands q at k)
  pub wants : (k want : ℕ) → k < length (choices_of m.rx q)
      → (chosen_at (choices_of m.rx q) k).choice.want ≡ Some want → WantOf i m q k (at k) want
  pub since : since_of m.rx q
      ≡ since_at m.commands q
      (then_at (length (choices_of m.rx q)) (length m.commands) at)
      (length (choices_of m.rx q))

abbrev pub Rules : Input → Machine → Type 0
Rules i m = (q : ℕ) → (at : ℕ → ℕ) × Ruled i m q at

module _ (i : Input) (m n : Machine) (h : Sound m.rx) (g : Sound n.rx) (l : Lasts m n) (q : ℕ)
    (at : ℕ → ℕ) (r : Ruled i m q at) where
  within : (k j : ℕ) → k < length (choices_of m.rx q) → j ≤ k → at j ≤ length m.commands
  within k j lt le = r.prefixes.within j (omega (arith, lt, le))

  each-stays : (k : ℕ) → k < length (choices_of m.rx q)
      → IsByRule i (history_of n) q k (settings_at i (history_of n) (at k))
      (since_at n.commands q at k)
  each-stays k lt =
      let settings : settings_at i (history_of m) (at k) ≡ settings_at i (history_of n) (at k) =
      sym (settings-longer (initial_settings i.plan) m.commands n.commands (at k) l.commands
      (within k k lt (omega arith))) in
      let since : since_at m.commands q at k ≡ since_at n.commands q at k =
      sym (since-longer m.commands n.commands q at k l.commands (λ j le. within k j lt le)) in
      subst (λ st. IsByRule i (history_of n) q k st (since_at n.commands q at k)) settings
      (subst (λ from. IsByRule i (history_of n) q k (settings_at i (history_of m) (at k)) from)
      since
      (rule-stays i m n q k (settings_at i (history_of m) (at k)) (since_at m.commands q at k) h g
      l.rx lt (r.each k lt)))

  want-stays : (k want : ℕ) → k < length (choices_of m.rx q)
      → (chosen_at (choices_of n.rx q) k).choice.want ≡ Some want → WantOf i n q k (at k) want
  want-stays k want lt is =
      let here : chosen_at (choices_of n.rx q) k ≡ chosen_at (choices_of m.rx q) k =
      extends-get (choices_of m.rx q) (choices_of n.rx q) k nobody (l.rx.choices q) lt in
      let settings : settings_at i (history_of n) (at k) ≡ settings_at i (history_of m) (at k) =
      settings-longer (initial_settings i.plan) m.commands n.commands (at k) l.commands
      (within k k lt (omega arith)) in
      let w = r.wants k want lt (ap (λ c. c.choice.want) (sym here) ∙ is) in (
        w.0,
        (λ j. class_of (settings j).sock (packet_hash (setup_in i) (here j).id)) ∙ w.1,
        was-written-lasts m n (record { entry = w.0; cpu = want }) l w.2,
      )

  -- where no choice is added
  pub ruled-stays : choices_of n.rx q ≡ choices_of m.rx q
      → since_of n.rx q
      ≡ since_at n.commands q
      (then_at (length (choices_of m.rx q)) (length n.commands) at) (length (choices_of m.rx q))
      → Ruled i n q at
  ruled-stays same since =
      let long : length (choices_of n.rx q) ≡ length (choices_of m.rx q) = ap length same in
      let far = extends-length m.commands n.commands l.commands in
      record {
        prefixes = record {
          within = λ k lt. (
              let a = r.prefixes.within k (omega (arith, lt, long)) in omega (arith, a, far));
          grow = λ k lt. r.prefixes.grow k (omega (arith, lt, long));
        };
        each = λ k lt. each-stays k (omega (arith, lt, long));
        wants = λ k want lt. want-stays k want (omega (arith, lt, long));
        since = since
            ∙ ap (λ c. since_at n.commands q (then_at c (length n.commands) at) c) (sym long);
      }

-- ---- a new choice

module _ (i : Input) (m : Machine) (q : ℕ) (want : Option ℕ) (setup : m.setup ≡ setup_in i)
    (follows : m.settings ≡ settings_after (initial_settings i.plan) m.commands) (h : Sound m.rx)
    (g : Sound (weighed m q want).rx) (in' : q < length m.rx.choices)
    (seen : (cpu : ℕ) → want ≡ Some cpu → WantFrom m (next_of m.rx q) cpu) (at : ℕ → ℕ)
    (l : Lasts m (weighed m q want)) (r : Ruled i m q at) where
  abbrev len : ℕ
  len = length (choices_of m.rx q)

  abbrev now : ℕ
  now = length m.commands

  abbrev bt : ℕ → ℕ
  bt = then_at len now at

  abbrev newest : Chosen
  newest = record { id = next_of m.rx q; choice = new_choice m q want }

  grown : choices_of (weighed m q want).rx q ≡ choices_of m.rx q ++ newest ∷ []
  grown = (Changed-set m.rx.choices q (choices_of m.rx q ++ newest ∷ []) [] in').here

  long : length (choices_of (weighed m q want).rx q) ≡ suc len
  long =
      ap length grown
      ∙ (let e = length-push (choices_of m.rx q) newest in
      let f : length (choices_of m.rx q ++ newest ∷ []) ≡ suc len = omega (arith, e) in f)

  mine : chosen_at (choices_of (weighed m q want).rx q) len ≡ newest
  mine = ap (λ cs. chosen_at cs len) grown ∙ chosen-push_last (choices_of m.rx q) newest nobody

  -- it is by the rule with the settings in force
  new-rule : IsByRule i (history_of (weighed m q want)) q len m.settings (since_of m.rx q)
  new-rule =
      let s : HopState = m.rx in
      let t : HopState = (weighed m q want).rx in
      let from : ℕ = since_of s q in
      let x : ℕ = next_of s q in
      let entries : ℕ → Entry = entry s.fixed.start (accepted_at s.bare) (recent s q) in
      let class : Option ℕ = class_at m.setup m.settings q x in
      let back : newest ≡ chosen_at (choices_of t q) len = sym mine in
      let front : take len (choices_of t q) ≡ choices_of s q =
      ap (take len) grown ∙ take-append_seam (choices_of s q) (newest ∷ []) in
      let same : entries
      ≡ entry t.fixed.start (accepted_in (history_lanes t.bare))
      (drop from (take len (choices_of t q))) =
      sym (entries-are t g q from len
      ∙ ap (λ cs. entry s.fixed.start (accepted_at s.bare) (drop from cs)) front) in
      let by_rule : newest.choice ≡ ruled m.setup m.settings q newest entries =
      kept-want class want m.settings.online (plain_lane m.setup m.settings q x) entries
      (head_at s.fixed.start s.bare) newest.choice refl in
      ap (λ d. d.choice) mine ∙ by_rule
      ∙ (λ j. ruled (setup j) m.settings q (back j) (same j))

  last-at : bt len ≡ now
  last-at = then-from len now at len (omega arith)

  -- the settings in force are those after all commands
  last-settings : m.settings ≡ settings_at i (history_of (weighed m q want)) (bt len)
  last-settings =
      follows ∙ sym (settings-all (initial_settings i.plan) m.commands)
      ∙ ap (λ n. settings_after (initial_settings i.plan) (take n m.commands)) (sym last-at)

  -- and its want was written
  new-want : (cpu : ℕ) → newest.choice.want ≡ Some cpu
      → WantOf i (weighed m q want) q len (bt len) cpu
  new-want cpu is =
      let x : ℕ = next_of m.rx q in
      let back : newest ≡ chosen_at (choices_of (weighed m q want).rx q) len = sym mine in
      let e : want ≡ Some cpu = migrate-want (class_at m.setup m.settings q x) want _ _ _ _ cpu
      is in
      let w = seen cpu e in (
        w.0,
        sym (λ j. class_of (last-settings j).sock (packet_hash (setup j) (back j).id)) ∙ w.1,
        was-written-lasts m (weighed m q want) (record { entry = w.0; cpu = cpu }) l w.2,
      )

  old-at : (k : ℕ) → k < len → bt k ≡ at k
  old-at k lt = then-before len now at k lt

  pub ruled-chosen : Ruled i (weighed m q want) q bt
  ruled-chosen =
      record {
        prefixes = record { within = below; grow = grow };
        each = each;
        wants = wants;
        since = r.since ∙ sym (since-chosen m.commands q len now at (omega arith))
            ∙ ap (λ c. since_at m.commands q (then_at c now bt) c) (sym long);
      }
    where
      below : (k : ℕ) → k < length (choices_of (weighed m q want).rx q) → bt k ≤ now
      below k lt =
          elim (cases_lt k len) [
            | inl early ↦ (
                let a = old-at k early in let b = r.prefixes.within k early in omega (arith, a, b))
            | inr late ↦ (let a = then-from len now at k late in omega (arith, a))
          ]

      grow : (k : ℕ) → k + 1 < length (choices_of (weighed m q want).rx q)
          → bt k ≤ bt (k + 1)
      grow k lt =
          let here : k < len = omega (arith, lt, long) in
          let a = old-at k here in
          elim (cases_lt (k + 1) len) [
            | inl early ↦ (
                let b = old-at (k + 1) early in let c = r.prefixes.grow k early in
                omega (arith, a, b, c))
            | inr late ↦ (
                let b = then-from len now at (k + 1) late in
                let c = r.prefixes.within k here in omega (arith, a, b, c))
          ]

      each : (k : ℕ) → k < length (choices_of (weighed m q want).rx q)
          → IsByRule i (history_of (weighed m q want)) q k
          (settings_at i (history_of (weighed m q want)) (bt k)) (since_at m.commands q bt k)
      each k lt =
          elim (cases_lt k len) [
            | inl early ↦
                let a : at k ≡ bt k = sym (old-at k early) in
                let b : since_at m.commands q at k ≡ since_at m.commands q bt k =
                since-agree m.commands q at bt k
                (λ j le. sym (old-at j (omega (arith, early, le)))) in
                subst
                (λ from. IsByRule i (history_of (weighed m q want)) q k
                (settings_at i (history_of (weighed m q want)) (bt k)) from) b
                (subst
                (λ n. IsByRule i (history_of (weighed m q want)) q k
                (settings_at i (history_of (weighed m q want)) n) (since_at m.commands q at k)) a
                (each-stays i m (weighed m q want) h g l q at r k early))
            | inr late ↦
                let e : len ≡ k = omega (arith, lt, late, long) in
                subst
                (λ n. IsByRule i (history_of (weighed m q want)) q n
                (settings_at i (history_of (weighed m q want)) (bt n))
                (since_at m.commands q bt n)) e
                (subst
                (λ st. IsByRule i (history_of (weighed m q want)) q len st
                (since_at m.commands q bt len)) last-settings
                (subst
                (λ from. IsByRule i (history_of (weighed m q want)) q len m.settings from) r.since
                new-rule))
          ]

      wants : (k cpu : ℕ) → k < length (choices_of (weighed m q want).rx q)
          → (chosen_at (choices_of (weighed m q want).rx q) k).choice.want ≡ Some cpu
          → WantOf i (weighed m q want) q k (bt k) cpu
      wants k cpu lt is =
          elim (cases_lt k len) [
            | inl early ↦
                subst (λ n. WantOf i (weighed m q want) q k n cpu) (sym (old-at k early))
                (want-stays i m (weighed m q want) h g l q at r k cpu early is)
            | inr late ↦
                let e : k ≡ len = omega (arith, lt, late, long) in
                subst (λ n. WantOf i (weighed m q want) q n (bt n) cpu) (sym e)
                (new-want cpu
                (ap (λ c. c.choice.want) (sym mine)
                ∙ ap (λ n. (chosen_at (choices_of (weighed m q want).rx q) n).choice.want) (sym e)
                ∙ is))
          ]
