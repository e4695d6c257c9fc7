-- A poller's table names processors of the board, and so do its choices.
use Rattle.std.proofs.Common.{nat_lt, ◌&&◌, ◌%◌, true≢false, IsTrue}
use Rattle.std.specs.Option.{IsSome}
use Rattle.std.proofs.Math.Nat.{mod-lt}
use Rattle.std.proofs.lemmas.Bool.Decides.{nat_tests}
use Rattle.std.proofs.lemmas.List.{get_or-replicate, get_or-set_same, get_or-set_other, length-set}
use Rattle.std.proofs.lemmas.List.{length-replicate}
use Rattle.std.proofs.lemmas.List.Elements.{All-get_or}
use Rattle.steer_base.specs.Choices.{desired_cpu, migrate}
use Rattle.steer_base.specs.Counters.{rounded_up}
use Rattle.steer_base.specs.HashTables.{place_in_rows}
use Rattle.steer_base.specs.declared.choice.Entry.{Entry}
use Rattle.steer_base.proofs.RuleLemmas.{by_entry-class, by_entry-lane}
use Rattle.dev_flow_table.specs.Tables.{cleared, entries, entry_after, unset, recorded}
use Rattle.dev_flow_table.proofs.MovesLemmas.{choice_is_recorded}
use Rattle.run_words.specs.Values.{flows_in}
use Rattle.run_workers.proofs.Names.{◌≡◌, ◌≢◌, ◌⊎◌, inl, inr, ℕ, ◌<◌, ◌==◌, Bool, true, false, List}
use Rattle.run_workers.proofs.Names.{Option, None, Some, IfSome, refl, sym, ap, subst, ◌∙◌, length}
use Rattle.run_workers.proofs.Names.{arith, All, if◌then◌else◌, slice_index, eqb_tells, has, Choice}
use Rattle.run_workers.proofs.Names.{CpuMask, Put, At, Dropped, IsClassOf, Table, table_after}
use Rattle.run_workers.proofs.Names.{weighed, HasLanesBelow, refreshed}

-- the class of a hash is one of the table
pub class_is : (table : Table) (hash : Option ℕ) → IsClassOf table (place_in_rows table.rows hash)
class_is table None = tt
class_is table (Some hash) = by_size (nat_lt 0 (length table.rows)) refl
  where
    by_size : (b : Bool) → nat_lt 0 (length table.rows) ≡ b
        → IsClassOf table (if b then Some (hash % length table.rows) else None)
    by_size true is =
        let some : 0 < length table.rows = grind (arith, nat_tests) in mod-lt hash some
    by_size false is = tt

-- ---- the table

pub cleared_below : (cpus count start : ℕ) (exact : Bool)
    → HasLanesBelow cpus (cleared count start exact)
cleared_below cpus count start exact class lt =
    subst (λ (e : Entry). IfSome e.lane (λ l. l < cpus))
    (sym (get_or-replicate count class (unset start) (unset start)
    (subst (λ (n : ℕ). class < n) (length-replicate count (unset start)) lt))) tt

pub refreshed_below : (cpus seen flows : ℕ) (table : Table) → HasLanesBelow cpus table
    → HasLanesBelow cpus (refreshed seen flows table)
refreshed_below cpus seen flows table below = by_word (seen == flows)
  where
    by_word : (b : Bool) → HasLanesBelow cpus
        (if b then table else cleared (rounded_up (flows_in flows)) table.start false)
    by_word true = below
    by_word false = cleared_below cpus (rounded_up (flows_in flows)) table.start false

-- ---- the choice

-- a desired processor is one of the board's if the online ones and the home are
pub desired_below : (cpus : ℕ) (class want : Option ℕ) (online : CpuMask) (rps : ℕ)
    → ((cpu : ℕ) → has online cpu ≡ true → cpu < cpus) → rps < cpus
    → desired_cpu class want online rps < cpus
desired_below cpus None want online rps ok home = home
desired_below cpus (Some class) None online rps ok home = home
desired_below cpus (Some class) (Some cpu) online rps ok home = by_online (has online cpu) refl
  where
    by_online : (b : Bool) → has online cpu ≡ b → (if b then cpu else rps) < cpus
    by_online true is = ok cpu is
    by_online false is = home

pub plain_below : (cpus home chosen : ℕ) (mask online : CpuMask)
    → ((cpu : ℕ) → has online cpu ≡ true → cpu < cpus) → home < cpus
    → (chosen ≡ home) ⊎ IsTrue (has mask chosen && has online chosen) → chosen < cpus
plain_below cpus home chosen mask online ok low (inl is) = subst (λ (n : ℕ). n < cpus) (sym is) low
plain_below cpus home chosen mask online ok low (inr among) =
    ok chosen (second (has mask chosen) (has online chosen) among)
  where
    second : (a b : Bool) → IsTrue (a && b) → b ≡ true
    second true b is = is
    second false b is = absurd (true≢false (sym is))

pub home_below : (cpus : ℕ) (homes : List ℕ) (q : ℕ) → All (λ home. home < cpus) homes
    → q < length homes → slice_index homes q < cpus
home_below cpus homes q all lt = All-get_or (λ home. home < cpus) homes q 0 lt all

-- a choice is of the desired lane or of the current one
pub rule_below : (cpus : ℕ) (class want : Option ℕ) (desired : ℕ) (table : Table) (head : ℕ → ℕ)
    (online : ℕ → Bool) → desired < cpus → HasLanesBelow cpus table → IsClassOf table class
    → (migrate class want desired (entries table) head online).lane < cpus
rule_below cpus None want desired table head online goal below is = goal
rule_below cpus (Some class) want desired table head online goal below is =
    elim (by_entry-lane class want desired (entries table class).tail head online
    (entries table class).lane) [
      | inl e ↦ subst (λ (n : ℕ). n < cpus) (sym e) goal
      | inr e ↦ subst (λ (o : Option ℕ). IfSome o (λ l. l < cpus)) e (below class is)
    ]

-- the class of a choice
pub class_stays : (class want : Option ℕ) (desired : ℕ) (table : Table) (head : ℕ → ℕ)
    (online : ℕ → Bool) → (migrate class want desired (entries table) head online).class ≡ class
class_stays None want desired table head online = refl
class_stays (Some class) want desired table head online =
    by_entry-class class want desired (entries table class).tail head online
    (entries table class).lane

-- ---- the table after a choice

weighed_rows : (table : Table) (class : Option ℕ) (choice : Choice)
    → length (weighed table class choice).rows ≡ length table.rows
weighed_rows table None choice = refl
weighed_rows table (Some class) choice =
    length-set table.rows class (entry_after table.start (entries table class) choice)

pub weighed_class : (table : Table) (class : Option ℕ) (choice : Choice) → IsClassOf table class
    → IsClassOf (weighed table class choice) class
weighed_class table None choice is = tt
weighed_class table (Some class) choice is =
    subst (λ (n : ℕ). class < n) (sym (weighed_rows table (Some class) choice)) is

pub weighed_set : (table : Table) (class : Option ℕ) (choice : Choice) → IsClassOf table class
    → IfSome class (λ k. IsSome (entries (weighed table class choice) k).lane)
weighed_set table None choice is = tt
weighed_set table (Some class) choice is =
    subst IsSome (sym (choice_is_recorded table class choice is)) refl

pub weighed_below : (cpus : ℕ) (table : Table) (class : Option ℕ) (choice : Choice)
    → IsClassOf table class → choice.lane < cpus → HasLanesBelow cpus table
    → HasLanesBelow cpus (weighed table class choice)
weighed_below cpus table None choice is low below other lt = below other lt
weighed_below cpus table (Some class) choice is low below other lt =
    by_class (eqb_tells other class)
  where
    by_class : (((other == class) ≡ true) × (other ≡ class))
        ⊎ (((other == class) ≡ false) × (other ≢ class))
        → IfSome (entries (weighed table (Some class) choice) other).lane (λ l. l < cpus)
    by_class (inl (t, same)) =
        subst (λ (k : ℕ). IfSome (entries (weighed table (Some class) choice) k).lane
        (λ l. l < cpus)) (sym same)
        (subst (λ (o : Option ℕ). IfSome o (λ l. l < cpus))
        (sym (choice_is_recorded table class choice is)) low)
    by_class (inr (t, apart)) =
        subst (λ (e : Entry). IfSome e.lane (λ l. l < cpus))
        (sym (get_or-set_other table.rows class other
        (entry_after table.start (entries table class) choice) (unset table.start) apart))
        (below other (subst (λ (n : ℕ). other < n) (weighed_rows table (Some class) choice) lt))

-- ---- the table after a put

pub recorded_below : (cpus : ℕ) (table : Table) (class position : ℕ) → class < length table.rows
    → HasLanesBelow cpus table → HasLanesBelow cpus (recorded table class position)
recorded_below cpus table class position is below other lt = by_class (eqb_tells other class)
  where
    low : other < length table.rows
    low = subst (λ (n : ℕ). other < n)
        (length-set table.rows class (record (entries table class) { tail = position })) lt

    by_class : (((other == class) ≡ true) × (other ≡ class))
        ⊎ (((other == class) ≡ false) × (other ≢ class))
        → IfSome (entries (recorded table class position) other).lane (λ l. l < cpus)
    by_class (inl (t, same)) =
        subst (λ (k : ℕ). IfSome (entries (recorded table class position) k).lane
        (λ l. l < cpus)) (sym same)
        (subst (λ (e : Entry). IfSome e.lane (λ l. l < cpus))
        (sym (get_or-set_same table.rows class
        (record (entries table class) { tail = position }) (unset table.start) is))
        (below class is))
    by_class (inr (t, apart)) =
        subst (λ (e : Entry). IfSome e.lane (λ l. l < cpus))
        (sym (get_or-set_other table.rows class other
        (record (entries table class) { tail = position }) (unset table.start) apart))
        (below other low)

pub told_below : (cpus : ℕ) (table : Table) (class : Option ℕ) (answer : Put)
    → IsClassOf table class → HasLanesBelow cpus table
    → HasLanesBelow cpus (table_after table class (Some answer))
told_below cpus table None answer is below = below
told_below cpus table (Some class) (At position) is below =
    recorded_below cpus table class position is below
told_below cpus table (Some class) (Dropped number accepted pulled cause) is below = below

-- ---- all of it

pub record ChoiceHolds (cpus : ℕ) (after : Table) (choice : Choice) : Type 0 where
  pub lane : choice.lane < cpus
  pub lanes : HasLanesBelow cpus after
  pub class : IsClassOf after choice.class
  pub set : IfSome choice.class (λ k. IsSome (entries after k).lane)

pub choice_holds : (cpus : ℕ) (class want : Option ℕ) (desired : ℕ) (table after : Table)
    (head : ℕ → ℕ) (online : ℕ → Bool) (choice : Choice) → desired < cpus
    → HasLanesBelow cpus table → IsClassOf table class
    → choice ≡ migrate class want desired (entries table) head online
    → after ≡ weighed table class choice → ChoiceHolds cpus after choice
choice_holds cpus class want desired table after head online choice goal below is rule told =
    let low : choice.lane < cpus =
    subst (λ (x : Choice). x.lane < cpus) (sym rule)
    (rule_below cpus class want desired table head online goal below is) in
    let same : choice.class ≡ class =
    ap (λ (x : Choice). x.class) rule ∙ class_stays class want desired table head online in
    record {
      lane = low;
      lanes = subst (HasLanesBelow cpus) (sym told)
          (weighed_below cpus table class choice is low below);
      class = subst (λ (t : Table). IsClassOf t choice.class) (sym told)
          (subst (IsClassOf (weighed table class choice)) (sym same)
          (weighed_class table class choice is));
      set = subst (λ (t : Table). IfSome choice.class (λ k. IsSome (entries t k).lane)) (sym told)
          (subst (λ (o : Option ℕ). IfSome o
          (λ k. IsSome (entries (weighed table class choice) k).lane)) (sym same)
          (weighed_set table class choice is));
    }
