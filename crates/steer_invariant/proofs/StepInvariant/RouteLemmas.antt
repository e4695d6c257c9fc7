-- Every queue that an arrival may go to is one of the machine's.
use Rattle.std.proofs.Common.{ℕ, ◌<◌, ◌≡◌, Bool, true, false, cond, List, Option, Some, None, map}
use Rattle.std.proofs.Common.{length, refl, ap, ◌∙◌, sym, subst, arith, inl, inr, get_or}
use Rattle.std.specs.Prelude.{◌%◌, ◌==◌, nat_lt, slice_index_or, slice_set}
use Rattle.std.specs.Option.{option_map}
use Rattle.std.proofs.Math.ListN.{get_or-eq_default, length-map}
use Rattle.std.proofs.lemmas.Bool.{cases_eq, cases_lt}
use Rattle.std.proofs.lemmas.List.{get_or-map, get_or-set_other, get_or-set_same}
use Rattle.std.proofs.Math.ListN.{length-set}
use Rattle.std.proofs.lemmas.List.Quantifiers.{position-Some}
use Rattle.std.proofs.lemmas.Nat.{mod_below}
use Rattle.steer_base.specs.Arrivals.{route, table_place}
use Rattle.steer_base.specs.Choices.{has_moved}
use Rattle.steer_base.specs.Filters.{filter_written, home_queue}
use Rattle.steer_base.specs.HashTables.{place_in_rows, row_at, with_row}
use Rattle.steer_base.specs.declared.choice.Choice.{Choice}
use Rattle.steer_base.specs.declared.filter.Filter.{Filter}
use Rattle.accel_filter.specs.Table.{filter_of}
use Rattle.rss_table.specs.Redirection.{IsRedirection, Redirection, queue_of}
use Rattle.history.proofs.SamePlaces.{map_some}
use Rattle.steer_model.specs.Steps.Commands.{kept_filter, may_go}
use Rattle.steer_model.specs.State.Machine.{Machine}
use Rattle.steer_model.specs.State.Notes.{asking}
use Rattle.steer_model.specs.Steps.Pollers.{filter_for, filter_seen, route_by, with_filter}
use Rattle.steer_model.specs.declared.note.Note.{Note}
use Rattle.steer_model.specs.declared.note.Note.TheVariants as note
use Rattle.steer_invariant.specs.ListInvariants.{Routes}
use Rattle.steer_invariant.proofs.EitherLemmas.{either}

-- all filters that are set name a queue below n
abbrev pub FiltersBelow : ℕ → List (Option Filter) → Type 0
FiltersBelow n filters = (i : ℕ) (f : Filter) → slice_index_or filters i None ≡ Some f → f.queue < n

-- ---- an arrival

row-below : (n : ℕ) (filters : List (Option Filter)) (place : Option ℕ) (f : Filter)
    → FiltersBelow n filters → row_at None filters place ≡ Some f → f.queue < n
row-below n filters None f all e = absurd (cc)
row-below n filters (Some i) f all e = all i f e

seen-below : (n : ℕ) (filters : List (Option Filter)) (hash q : ℕ) → FiltersBelow n filters
    → filter_seen filters (Some hash) ≡ Some q → q < n
seen-below n filters hash q all e =
    let w = map_some (λ (f : Filter). f.queue) (filter_of filters hash) q e in
    subst (λ k. k < n) (sym w.2)
    (row-below n filters (place_in_rows filters (Some hash)) w.0 all w.1)

route-of-seen : (n hash : ℕ) (seen : Option ℕ) (entry : ℕ) → ((q : ℕ) → seen ≡ Some q → q < n)
    → entry < n → (route (Some hash) seen entry).queue < n
route-of-seen n hash None entry all lt = lt
route-of-seen n hash (Some q) entry all lt = all q refl

entry-below : (reta : Redirection) (hash : ℕ) → IsRedirection reta
    → queue_of reta (Some hash) < reta.queues
entry-below reta hash is =
    let place : hash % 128 < 128 = mod_below hash 128 (omega arith) in
    let size = is.size in
    let lt : table_place hash < length reta.entries = omega (arith, place, size) in
    is.below (table_place hash) 0 lt

-- the queue of an arriving packet is there
pub route-below : (m : Machine) (hash : Option ℕ)
    → Routes m.setup.homes m.settings.reta m.filters m.notes
    → (route_by m hash).queue < length m.setup.homes
route-below m None r = let t = r.table in omega (arith, t.some, r.queues)
route-below m (Some hash) r =
    route-of-seen (length m.setup.homes) hash (filter_seen m.filters (Some hash))
    (queue_of m.settings.reta (Some hash))
    (λ q e. seen-below (length m.setup.homes) m.filters hash q r.set e)
    (let below = entry-below m.settings.reta hash r.table in omega (arith, below, r.queues))

-- ---- filters that are asked for

written-below : (homes : List ℕ) (moved : Bool) (cpu mark : ℕ) (f : Filter)
    → cond moved
    (option_map (λ queue. record { queue = queue; cpu = cpu; mark = mark })
    (home_queue homes cpu)) None ≡ Some f
    → f.queue < length homes
written-below homes false cpu mark f e = absurd (cc)
written-below homes true cpu mark f e =
    let w =
    map_some (λ queue. record { queue = queue; cpu = cpu; mark = mark })
    (home_queue homes cpu) f e in
    let at = position-Some (λ home. home == cpu) homes w.0 0 w.1 in
    subst (λ (g : Filter). g.queue < length homes) (sym w.2) at.0

for-below : (homes : List ℕ) (filters : ℕ) (c : Choice) (position : ℕ) (f : Filter)
    → filter_for homes filters c position ≡ Some f → f.queue < length homes
for-below homes filters c position f =
    either (λ o. o ≡ Some f → f.queue < length homes) (nat_lt 0 filters)
    (filter_written homes c.why c.lane position) None
    (λ some e. written-below homes (has_moved c.why) c.lane position f e) (λ none e. absurd (cc))

asked-below : (n : ℕ) (filter : Option Filter) → ((f : Filter) → filter ≡ Some f → f.queue < n)
    → (f : Filter) → asking filter ≡ note.Asking f → f.queue < n
asked-below n None all f e = absurd (cc)
asked-below n (Some g) all f e = all f (ap (λ (x : Note). asked_of x) e)
  where
    asked_of : Note → Option Filter
    asked_of note.Nothing = None
    asked_of (note.Looked want) = None
    asked_of (note.Asking filter) = Some filter

-- a filter that is asked for after a put names a queue that there is
pub asking-below : (homes : List ℕ) (filters : ℕ) (c : Choice) (position : ℕ) (f : Filter)
    → asking (filter_for homes filters c position) ≡ note.Asking f → f.queue < length homes
asking-below homes filters c position f e =
    asked-below (length homes) (filter_for homes filters c position)
    (λ g some. for-below homes filters c position g some) f e

-- ---- filters that are written, and filters that go

abbrev queue_or : Option Filter → ℕ → ℕ
queue_or None d = d
queue_or (Some f) d = f.queue

set-below : (n : ℕ) (filters : List (Option Filter)) (p : ℕ) (f : Filter) → f.queue < n
    → FiltersBelow n filters → FiltersBelow n (slice_set filters p (Some f))
set-below n filters p f lt all i g e =
    elim (cases_eq i p) [
      | inr other ↦ all i g (sym (get_or-set_other filters p i (Some f) None other) ∙ e)
      | inl same ↦ elim (cases_lt p (length filters)) [
        | inl within ↦ (
            let is : Some f ≡ Some g =
            sym (get_or-set_same filters p (Some f) None within)
            ∙ ap (λ j. get_or (slice_set filters p (Some f)) j None) (sym same) ∙ e in
            let q : f.queue ≡ g.queue = ap (λ (o : Option Filter). queue_or o 0) is in
            omega (arith, lt, q))
        | inr past ↦ absurd (
            let long = length-set filters p (Some f) in
            let none : get_or (slice_set filters p (Some f)) i None ≡ None =
            get_or-eq_default (slice_set filters p (Some f)) None
            (omega (arith, past, long, same)) in
            let f : None ≡ Some g = sym none ∙ e in cc)
      ]
    ]

place-below : (n : ℕ) (filters : List (Option Filter)) (place : Option ℕ) (f : Filter) → f.queue < n
    → FiltersBelow n filters → FiltersBelow n (with_row filters place (Some f))
place-below n filters None f lt all i g e = all i g e
place-below n filters (Some p) f lt all i g e = set-below n filters p f lt all i g e

pub with-below : (n : ℕ) (filters : List (Option Filter)) (hash : Option ℕ) (f : Filter)
    → f.queue < n → FiltersBelow n filters → FiltersBelow n (with_filter filters hash f)
with-below n filters None f lt all = all
with-below n filters (Some hash) f lt all =
    place-below n filters (place_in_rows filters (Some hash)) f lt all

stays-below : (goes : Bool) (o : Option Filter) (f : Filter) → cond goes None o ≡ Some f
    → o ≡ Some f
stays-below true o f e = absurd (cc)
stays-below false o f e = e

pub expired-below : (m : Machine) (n : ℕ) → FiltersBelow n m.filters
    → FiltersBelow n (map (kept_filter m) m.filters)
expired-below m n all i f e =
    elim (cases_lt i (length m.filters)) [
      | inl lt ↦
          all i f (stays-below (may_go m (get_or m.filters i None)) (get_or m.filters i None) f
          (sym (get_or-map (kept_filter m) m.filters i None None lt) ∙ e))
      | inr le ↦ absurd (
          let long = length-map m.filters (kept_filter m) in
          let none : get_or (map (kept_filter m) m.filters) i None ≡ None =
          get_or-eq_default (map (kept_filter m) m.filters) None (omega (arith, le, long)) in
          let g : None ≡ Some f = sym none ∙ e in cc)
    ]
