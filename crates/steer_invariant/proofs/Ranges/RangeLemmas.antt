-- Every step keeps the processors of filters and the flow counts in their ranges.
use Rattle.std.proofs.Common.{ℕ, zero, suc, ◌+◌, ◌-◌, ◌^◌, ◌≤◌, ◌<◌, ◌≡◌, ◌⊎◌, Bool, true, false}
use Rattle.std.proofs.Common.{cond, List, [], ◌∷◌, Option, Some, None, map, length, refl, ap, ◌∙◌}
use Rattle.std.proofs.Common.{sym, subst, arith, inl, inr, get_or, set as set_list, nat_le, lit<}
use Rattle.std.specs.Prelude.{◌==◌, find, nat_lt, slice_get, unwrap_or}
use Rattle.std.specs.List.{range_with_len}
use Rattle.std.specs.Option.{option_map}
use Rattle.std.proofs.Math.ListN.{get_or-eq_default, length-map}
use Rattle.std.proofs.Math.Nat.{pow-le-pow_right}
use Rattle.std.proofs.lemmas.Bool.{cases_Bool, cases_eq, cases_lt, leb-false}
use Rattle.std.proofs.lemmas.List.{get_or-map}
use Rattle.std.proofs.lemmas.List.Elements.{All-set}
use Rattle.steer_base.specs.Choices.{has_moved}
use Rattle.steer_base.specs.Counters.{first_power, rounded_up}
use Rattle.steer_base.specs.Filters.{home_queue}
use Rattle.steer_base.specs.HashTables.{place_in_rows, with_row}
use Rattle.steer_base.specs.declared.choice.Choice.{Choice}
use Rattle.steer_base.specs.declared.choice.Chosen.{Chosen}
use Rattle.steer_base.specs.declared.command.Command.{Command}
use Rattle.steer_base.specs.declared.command.Command.TheVariants as give
use Rattle.steer_base.specs.declared.filter.Filter.{Filter}
use Rattle.hop_model.specs.Hop.{choices_of, chosen_at, nobody}
use Rattle.history.proofs.SamePlaces.{map_some}
use Rattle.steer_model.specs.Steps.Commands.{kept_filter, may_go, set_by}
use Rattle.steer_model.specs.State.Machine.{Machine, last_chosen, note_of}
use Rattle.steer_model.specs.State.Notes.{asking}
use Rattle.steer_model.specs.Steps.Pollers.{filter_for, with_note, with_filter}
use Rattle.steer_model.specs.declared.note.Note.{Note}
use Rattle.steer_model.specs.declared.note.Note.TheVariants as note
use Rattle.steer_invariant.specs.StepInvariant.{IsCommandNamed, StepInvariant}
use Rattle.steer_invariant.specs.Ranges.{IsRanged}
use Rattle.steer_invariant.proofs.BelowLemmas.{both-below}
use Rattle.steer_invariant.proofs.EitherLemmas.{either}

-- ---- flow counts

-- the search through the powers of two finds none over one that is enough
find-within : (n k from len : ℕ) → from ≤ k → n ≤ 2 ^ k
    → unwrap_or (find (λ power. nat_le n power) (map (λ i. 2 ^ i) (range_with_len from len))) 0
    ≤ 2 ^ k
find-within n k from zero low enough = omega arith
find-within n k from (suc len) low enough =
    elim (cases_Bool (nat_le n (2 ^ from))) [
      | inl e ↦
          let up : 2 ^ from ≤ 2 ^ k = pow-le-pow_right {n = 2} (lit< tt) low in
          rw e up
      | inr e ↦ (
          let short : 2 ^ from < n = leb-false n (2 ^ from) e in
          elim (cases_eq from k) [
            | inl same ↦ absurd (
                let s : 2 ^ from ≡ 2 ^ k = ap (λ i. 2 ^ i) same in
                omega (arith, s, short, enough))
            | inr other ↦ rw e (find-within n k (from + 1) len (omega (arith, low, other)) enough)
          ])
    ]

first-within : (n k : ℕ) → n ≤ 2 ^ k → first_power n ≤ 2 ^ k
unfolding first_power
first-within n k enough = find-within n k 0 33 (omega arith) enough

pub rounded-within : (n : ℕ) → n ≤ 32768 → rounded_up n ≤ 32768
rounded-within n few =
    either (λ r. r ≤ 32768) (n == 0) 0 (first_power n) (λ _. omega arith)
    (λ _. first-within n 15 few)

-- ---- filters

-- an item of a list of which one was set is the new one or the old one
set-either : {X : Type 0} (xs : List X) (p i : ℕ) (v d : X)
    → (get_or (set_list xs p v) i d ≡ v) ⊎ (get_or (set_list xs p v) i d ≡ get_or xs i d)
set-either [] p i v d = inr refl
set-either (x ∷ xs) zero zero v d = inl refl
set-either (x ∷ xs) zero (suc i) v d = inr refl
set-either (x ∷ xs) (suc p) zero v d = inr refl
set-either (x ∷ xs) (suc p) (suc i) v d = set-either xs p i v d

-- each filter that is set is below a number of processors
abbrev pub AreBelow : ℕ → List (Option Filter) → Type 0
AreBelow n filters =
    (i : ℕ) (f : Filter) → get_or filters i None ≡ Some f → f.cpu < n

abbrev cpu_or : Option Filter → ℕ → ℕ
cpu_or None d = d
cpu_or (Some f) d = f.cpu

row-below : (n : ℕ) (filters : List (Option Filter)) (place : Option ℕ) (f : Filter) → f.cpu < n
    → AreBelow n filters → AreBelow n (with_row filters place (Some f))
row-below n filters None f lt all i g e = all i g e
row-below n filters (Some p) f lt all i g e =
    elim (set-either filters p i (Some f) None) [
      | inl is ↦ subst (λ (o : Option Filter). cpu_or o 0 < n) (sym is ∙ e) lt
      | inr is ↦ all i g (sym is ∙ e)
    ]

pub filter-below : (n : ℕ) (filters : List (Option Filter)) (hash : Option ℕ) (f : Filter)
    → f.cpu < n → AreBelow n filters → AreBelow n (with_filter filters hash f)
filter-below n filters None f lt all = all
filter-below n filters (Some hash) f lt all =
    row-below n filters (place_in_rows filters (Some hash)) f lt all

stays-set : (goes : Bool) (o : Option Filter) (f : Filter) → cond goes None o ≡ Some f
    → o ≡ Some f
stays-set true o f e = absurd (cc)
stays-set false o f e = e

pub kept-below : (m : Machine) (n : ℕ) → AreBelow n m.filters
    → AreBelow n (map (kept_filter m) m.filters)
kept-below m n all i f e =
    let o : Option Filter = get_or m.filters i None in
    elim (cases_lt i (length m.filters)) [
      | inl lt ↦
          all i f (stays-set (may_go m o) o f
          (sym (get_or-map (kept_filter m) m.filters i None None lt) ∙ e))
      | inr le ↦ absurd (
          let g : get_or (map (kept_filter m) m.filters) i None ≡ None =
          get_or-eq_default (map (kept_filter m) m.filters) None
          (omega (arith, le, length-map m.filters (kept_filter m))) in
          cc)
    ]

-- ---- the filter that is asked for

-- it is of the processor of the choice
written-cpu : (homes : List ℕ) (moved : Bool) (cpu mark : ℕ) (f : Filter)
    → cond moved
    (option_map (λ queue. record { queue = queue; cpu = cpu; mark = mark }) (home_queue homes cpu))
    None
    ≡ Some f → f.cpu ≡ cpu
written-cpu homes false cpu mark f e = absurd (cc)
written-cpu homes true cpu mark f e =
    let w = map_some (λ queue. record { queue = queue; cpu = cpu; mark = mark })
    (home_queue homes cpu) f e in
    ap (λ (g : Filter). g.cpu) w.2

for-cpu : (homes : List ℕ) (filters : ℕ) (c : Choice) (position : ℕ) (f : Filter)
    → filter_for homes filters c position ≡ Some f → f.cpu ≡ c.lane
for-cpu homes filters c position f =
    either (λ o. o ≡ Some f → f.cpu ≡ c.lane) (nat_lt 0 filters)
    (cond (has_moved c.why)
    (option_map (λ queue. record { queue = queue; cpu = c.lane; mark = position })
    (home_queue homes c.lane))
    None)
    None (λ _ e. written-cpu homes (has_moved c.why) c.lane position f e) (λ _ e. absurd (cc))

abbrev asked_of : Note → Option Filter
asked_of note.Nothing = None
asked_of (note.Looked want) = None
asked_of (note.Asking filter) = Some filter

asking-is : (filter : Option Filter) (f : Filter) → asking filter ≡ note.Asking f
    → filter ≡ Some f
asking-is None f e = absurd (cc)
asking-is (Some g) f e = ap (λ (n : Note). asked_of n) e

-- the choice that a poller made last is of a processor that there is
read-or : (cs : List Chosen) (i : ℕ) → unwrap_or (slice_get cs i) nobody ≡ chosen_at cs i
read-or [] i = refl
read-or (c ∷ cs) zero = refl
read-or (c ∷ cs) (suc i) = read-or cs i

pub last_below : (m : Machine) (q : ℕ) → StepInvariant m
    → (last_chosen m.rx q).choice.lane < m.setup.cpus
last_below m q k =
    let cs : List Chosen = choices_of m.rx q in
    let at : ℕ = length cs - 1 in
    let s = k.rx.sound in let z = k.rx.sizes in let g = k.given in
    let is : last_chosen m.rx q ≡ chosen_at cs at = read-or cs at in
    elim (cases_lt at (length cs)) [
      | inl lt ↦
          let lane = s.lanes q at lt in
          rw is (omega (arith, lane, z.cpus))
      | inr le ↦
          let none : chosen_at cs at ≡ nobody = get_or-eq_default cs nobody le in
          rw (is, none) (omega (arith, g.some_cpu))
    ]

-- ---- the machine

pub ranged-noted : (m : Machine) (q : ℕ) (n : Note)
    → ((f : Filter) → n ≡ note.Asking f → f.cpu < m.setup.cpus) → IsRanged m
    → IsRanged (with_note m q n)
ranged-noted m q n new r =
    record {
      flows = r.flows;
      set = r.set;
      asked = λ p f e. elim (set-either m.notes q p n note.Nothing) [
        | inl i ↦ new f (sym i ∙ e)
        | inr i ↦ r.asked p f (sym i ∙ e)
      ];
    }

pub ranged-asking : (m : Machine) (q filters position : ℕ) (c : Choice)
    → c.lane < m.setup.cpus → IsRanged m
    → IsRanged (with_note m q (asking (filter_for m.setup.homes filters c position)))
ranged-asking m q filters position c lt r =
    let filter : Option Filter = filter_for m.setup.homes filters c position in
    ranged-noted m q (asking filter)
    (λ f e. (
    let is = for-cpu m.setup.homes filters c position f (asking-is filter f e) in
    omega (arith, is, lt))) r

pub ranged-ask : (m : Machine) (q : ℕ) (filter : Filter) (hash : Option ℕ)
    → note_of m q ≡ note.Asking filter → IsRanged m
    → IsRanged
    (record (with_note m q note.Nothing) { filters = with_filter m.filters hash filter })
ranged-ask m q filter hash asked r =
    let quiet = ranged-noted m q note.Nothing (λ f e. absurd (cc)) r in
    assumption (filter-below m.setup.cpus m.filters hash filter (r.asked q filter asked) r.set)

pub ranged-set : (m : Machine) (c : Command) → IsCommandNamed m.setup c → IsRanged m
    → IsRanged (set_by m c)
ranged-set m (give.Mask q mask) named r = r
ranged-set m (give.Flows q count) named r =
    let w = both-below q (length m.setup.homes) count 32769 named in
    let few = w.1 in
    assumption (
    All-set (λ count. count ≤ 32768) m.settings.counts q (rounded_up count) (rounded-within
    count (omega (arith, few))) r.flows)
ranged-set m (give.Sock size) named r = r
ranged-set m (give.Offline cpu) named r = r
ranged-set m (give.Online cpu) named r = r
ranged-set m (give.XCpus tx mask) named r = r
ranged-set m (give.XQueues tx queues) named r = r
ranged-set m (give.Reta place q) named r = r
ranged-set m (give.Stand app cpu) named r = r
ranged-set m give.Expire named r =
    record { flows = r.flows; set = kept-below m m.setup.cpus r.set; asked = r.asked }
