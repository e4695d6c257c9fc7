-- What a choice by the migration rule says of what was wanted and looked at.
use Rattle.std.proofs.Common.{◌&&◌, not}
use Rattle.steer_base.specs.Choices.{by_entry, desired_cpu, looks_from}
use Rattle.steer_base.specs.Counters.{has_reached}
use Rattle.steer_base.specs.declared.choice.Entry.{Entry}
use Rattle.steer_base.specs.declared.choice.Why.{Why}
use Rattle.steer_base.specs.declared.choice.Why.TheVariants.{Kept, Offline, Passed, Same}
use Rattle.steer_base.specs.declared.cpu_mask.CpuMask.{CpuMask}
use Rattle.run_coupling.specs.Coupling.Hints.{LookedUp, entry_of}
use Rattle.run_workers.specs.Hands.Pollers.{socket_entry}
use Rattle.run_workers.specs.Records.Polling.{HasLookedUp}
use Rattle.run_crew.proofs.Names.{◌≡◌, ℕ, ◌==◌, Bool, true, false, List, Option, None, Some}
use Rattle.run_crew.proofs.Names.{if◌then◌else◌, sym, refl, ap, ◌∙◌, subst, SeatView, class_of}
use Rattle.run_crew.proofs.Names.{looks_at_head, migrate, has, Choice, HintStep, Load, none-some}
use Rattle.run_crew.proofs.Names.{socket_size_in, HintCodes, AreShared, word-says}

module _ (class : ℕ) (want : Option ℕ) (desired tail current : ℕ) (seen : ℕ) where
  abbrev a_choice : Option ℕ → ℕ → Why → Choice
  a_choice head lane why = record {
    class = Some class;
    want = want;
    head = head;
    tail = Some tail;
    lane = lane;
    why = why;
  }

  abbrev by_tests : Bool → Bool → Bool → Choice
  by_tests same on reached =
      if same then a_choice None current Same else
      if not on then a_choice None desired Offline else
      if reached then a_choice (Some seen) desired Passed else a_choice (Some seen) current Kept

  tests_want : (same on reached : Bool) → (by_tests same on reached).want ≡ want
  tests_want true on reached = refl
  tests_want false false reached = refl
  tests_want false true true = refl
  tests_want false true false = refl

  tests_class : (same on reached : Bool) → (by_tests same on reached).class ≡ Some class
  tests_class true on reached = refl
  tests_class false false reached = refl
  tests_class false true true = refl
  tests_class false true false = refl

  tests_head : (same on reached : Bool) (x : ℕ) → (by_tests same on reached).head ≡ Some x
      → not same && on ≡ true
  tests_head true on reached x is = none-some x is
  tests_head false false reached x is = none-some x is
  tests_head false true reached x is = refl

entry_want : (class : ℕ) (want : Option ℕ) (desired tail : ℕ) (head : ℕ → ℕ) (online : ℕ → Bool)
    (current : Option ℕ) → (by_entry class want desired tail head online current).want ≡ want
entry_want class want desired tail head online None = refl
entry_want class want desired tail head online (Some c) =
    tests_want class want desired tail c (head c) (c == desired) (online c)
    (has_reached (head c) tail 0)

entry_class : (class : ℕ) (want : Option ℕ) (desired tail : ℕ) (head : ℕ → ℕ) (online : ℕ → Bool)
    (current : Option ℕ)
    → (by_entry class want desired tail head online current).class ≡ Some class
entry_class class want desired tail head online None = refl
entry_class class want desired tail head online (Some c) =
    tests_class class want desired tail c (head c) (c == desired) (online c)
    (has_reached (head c) tail 0)

entry_looks : (class : ℕ) (want : Option ℕ) (desired tail : ℕ) (head : ℕ → ℕ) (online : ℕ → Bool)
    (current : Option ℕ) (x : ℕ)
    → (by_entry class want desired tail head online current).head ≡ Some x
    → looks_from current desired online ≡ true
entry_looks class want desired tail head online None x is = none-some x is
entry_looks class want desired tail head online (Some c) x is =
    tests_head class want desired tail c (head c) (c == desired) (online c)
    (has_reached (head c) tail 0) x is

-- what a choice wanted, which has a class
pub rule_want : (class : ℕ) (want : Option ℕ) (desired : ℕ) (entries : ℕ → Entry) (head : ℕ → ℕ)
    (online : ℕ → Bool) → (migrate (Some class) want desired entries head online).want ≡ want
rule_want class want desired entries head online =
    entry_want class want desired (entries class).tail head online (entries class).lane

-- a choice has the class for which it is
pub rule_class : (class want : Option ℕ) (desired : ℕ) (entries : ℕ → Entry) (head : ℕ → ℕ)
    (online : ℕ → Bool) → (migrate class want desired entries head online).class ≡ class
rule_class None want desired entries head online = refl
rule_class (Some class) want desired entries head online =
    entry_class class want desired (entries class).tail head online (entries class).lane

-- a choice that keeps a head looked at one
pub rule_looks : (class want : Option ℕ) (desired : ℕ) (entries : ℕ → Entry) (head : ℕ → ℕ)
    (online : ℕ → Bool) (x : ℕ) → (migrate class want desired entries head online).head ≡ Some x
    → looks_at_head class entries desired online ≡ true
rule_looks None want desired entries head online x is = none-some x is
rule_looks (Some class) want desired entries head online x is =
    entry_looks class want desired (entries class).tail head online (entries class).lane x is

-- the lane to which a packet is to go, by what its choice wanted
abbrev pub goal : Option ℕ → Option ℕ → CpuMask → ℕ → ℕ
goal None want online plain = plain
goal (Some class) want online plain = desired_cpu (Some 0) want online plain

one_class : (class : ℕ) (want : Option ℕ) (online : CpuMask) (plain : ℕ)
    → desired_cpu (Some class) want online plain ≡ desired_cpu (Some 0) want online plain
one_class class None online plain = refl
one_class class (Some cpu) online plain = refl

-- a choice by what was looked up is one by what it says that it wanted
pub own_want : (class want : Option ℕ) (online : CpuMask) (plain : ℕ) (entries : ℕ → Entry)
    (head : ℕ → ℕ) (c : Choice)
    → c ≡ migrate class want (desired_cpu class want online plain) entries head (has online)
    → c ≡ migrate class c.want (goal class c.want online plain) entries head (has online)
own_want None want online plain entries head c is = is
own_want (Some class) want online plain entries head c is =
    let wanted : want ≡ c.want =
    sym (ap (λ (z : Choice). z.want) is
    ∙ rule_want class want (desired_cpu (Some class) want online plain) entries head (has online))
    in
    is
    ∙ (ap (λ d. migrate (Some class) want d entries head (has online))
    (one_class class want online plain)
    ∙ ap (λ w. migrate (Some class) w (desired_cpu (Some 0) w online plain) entries head
    (has online)) wanted)

-- ---- the processor that was wanted

-- what a choice wants was looked up
pub choice_looked : (cpus size : ℕ) (class want : Option ℕ) (desired : ℕ) (entries : ℕ → Entry)
    (head : ℕ → ℕ) (online : ℕ → Bool) (hash : Option ℕ) (hints : List HintStep) (look : Option ℕ)
    (c : Choice) → c ≡ migrate class want desired entries head online
    → HasLookedUp cpus (socket_entry (socket_size_in size) class hash) hints look want
    → HasLookedUp cpus (entry_of size c.class hash) hints look c.want
choice_looked cpus size class want desired entries head online hash hints look c is looks =
    subst (λ (z : Choice). HasLookedUp cpus (entry_of size z.class hash) hints look z.want) (sym is)
    (subst (λ o. HasLookedUp cpus (entry_of size o hash) hints look
    (migrate class want desired entries head online).want)
    (sym (rule_class class want desired entries head online))
    (by_class class looks))
  where
    by_class : (o : Option ℕ)
        → HasLookedUp cpus (socket_entry (socket_size_in size) o hash) hints look want
        → HasLookedUp cpus (entry_of size o hash) hints look
        (migrate o want desired entries head online).want
    by_class None (none, wanted) = (none, refl)
    by_class (Some k) looked =
        subst (HasLookedUp cpus (class_of (socket_size_in size) hash) hints look)
        (sym (rule_want k want desired entries head online)) looked

-- a look is one by the codes
pub coded_look : (c : HintCodes) → AreShared c → (cpus : ℕ) (seat : SeatView HintStep)
    (entry look want : Option ℕ) → HasLookedUp cpus entry seat.steps look want
    → LookedUp c cpus seat entry look want
coded_look c codes cpus seat None look want is = is
coded_look c codes cpus seat (Some e) look want (n, word, at, loads, wanted) = (
  n,
  word,
  at,
  loads ∙ ap (λ m. Some (Load m word)) (sym (codes.socket e)),
  word-says c codes word cpus want (sym wanted),
)
