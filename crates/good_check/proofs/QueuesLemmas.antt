-- Arrivals at the queues of values of the run, as a set of filters decides it.
use Rattle.std.proofs.Common.{ℕ, ◌≡◌, ◌<◌, Bool, true, List, [], Option, Some, None, length}
use Rattle.std.proofs.Common.{refl, ap, ◌∙◌, sym, inl, inr, get_or, subst}
use Rattle.std.specs.Prelude.{is_some, slice_index}
use Rattle.std.specs.List.{list_any}
use Rattle.std.specs.Option.{option_map}
use Rattle.std.proofs.lemmas.Bool.{and_parts, eq-eqb, eqb-true}
use Rattle.std.proofs.lemmas.List.Folds.{list_any_at}
use Rattle.std.proofs.lemmas.Option.{get_or_from_slice_get, slice_get-get_or, slice_get_within}
use Rattle.steer_base.specs.Arrivals.{filter_place, route, table_place}
use Rattle.steer_base.specs.Filters.{home_queue}
use Rattle.steer_base.specs.declared.choice.Chosen.{Chosen}
use Rattle.hop_model.specs.Hop.{nobody}
use Rattle.history.specs.Lists.{list_at}
use Rattle.history.specs.Regular.{route_of}
use Rattle.history.specs.declared.arrival.Arrival.{Arrival}
use Rattle.history.specs.declared.history.History.{History}
use Rattle.steer_model.specs.Good.Arrivals.{EntryFrom, FilterFrom, SeenBy}
use Rattle.steer_model.specs.Good.Inputs.{Input, setup_in}
use Rattle.steer_model.specs.State.Setup.{packet_hash}
use Rattle.good_check.specs.Choices.{rx_position}
use Rattle.good_check.specs.Queues.{IsSeenIn, asks_for, filter_is_in, is_asked_for, is_number}
use Rattle.good_check.proofs.WantsLemmas.{any-at, within-lists}
use Rattle.good_check.proofs.WritesLemmas.{none-done}

number-to : (o : Option ℕ) (n : ℕ) → is_number o n ≡ true → o ≡ Some n
number-to None n e = absurd (cc)
number-to (Some m) n e = ap (λ k. Some k) (eqb-true m n e)

number-from : (o : Option ℕ) (n : ℕ) → o ≡ Some n → is_number o n ≡ true
number-from o n e = ap (λ p. is_number p n) e ∙ eq-eqb n n refl

is_some-map : (f : ℕ → ℕ) (o : Option ℕ) → is_some (option_map f o) ≡ is_some o
is_some-map f None = refl
is_some-map f (Some n) = refl

-- an arrival with a hash that is not at the queue of the entry is at that of a filter
pub by-filter : (set : ℕ → ℕ → Bool) (reta : List ℕ) (filters hash : ℕ) (a : Arrival)
    → IsSeenIn set reta filters (Some hash) a
    → (route_of a ≡ route (Some hash) None (slice_index reta (table_place hash)) → ⊥)
    → (route_of a ≡ route (Some hash) (Some a.queue) 0)
    × (filter_is_in set (filter_place filters (Some hash)) a.queue ≡ true)
by-filter set reta filters hash a (inl e) other = absurd (other e)
by-filter set reta filters hash a (inr w) other =
    let q : a.queue ≡ w.0 = ap (λ r. r.queue) w.1 in
    subst (λ n. (route_of a ≡ route (Some hash) (Some n) 0)
    × (filter_is_in set (filter_place filters (Some hash)) n ≡ true)) (sym q) (w.1, w.2)

module _ (i : Input) (h : History) (none : h.commands ≡ []) (set : ℕ → ℕ → Bool)
    (is : (n m : ℕ) → set n m
    ≡ is_asked_for (setup_in i) h i.plan.filters n m h.choices) where
  abbrev asks : ℕ → ℕ → Chosen → Bool
  asks place f c = asks_for (setup_in i) h i.plan.filters place f c

  at-place : (hash f : ℕ) (o : Option ℕ) → filter_place i.plan.filters (Some hash) ≡ o
      → filter_is_in set o f ≡ true → FilterFrom i h hash f
  at-place hash f None e t = absurd (cc)
  at-place hash f (Some place) e t =
      let some = any-at (λ cs. list_any (asks place f) cs) [] h.choices (sym (is place f) ∙ t) in
      let one = any-at (asks place f) nobody (list_at h.choices some.0) some.2 in
      let c : Chosen = get_or (list_at h.choices some.0) one.0 nobody in
      let both = and_parts _ _ one.2 in
      let first = and_parts _ _ both.0 in
      let second = and_parts _ _ both.1 in
      record {
        queue = some.0;
        choice = c;
        chosen = (one.0, slice_get-get_or (list_at h.choices some.0) one.0 nobody one.1);
        moved = first.0;
        home = number-to (home_queue (setup_in i).homes c.choice.lane) f second.0;
        accepted = sym (is_some-map _ _) ∙ first.1;
        place = place;
        there = number-to (filter_place i.plan.filters (packet_hash (setup_in i) c.id)) place
            second.1;
        here = e;
      }

  filter-to : (hash f : ℕ) → filter_is_in set (filter_place i.plan.filters (Some hash)) f ≡ true
      → FilterFrom i h hash f
  filter-to hash f t = at-place hash f (filter_place i.plan.filters (Some hash)) refl t

  filter-from : (hash f : ℕ) → FilterFrom i h hash f
      → filter_is_in set (filter_place i.plan.filters (Some hash)) f ≡ true
  filter-from hash f w =
      let c = w.choice in
      let cs = list_at h.choices w.queue in
      let l : w.chosen.0 < length cs = slice_get_within cs w.chosen.0 c w.chosen.1 in
      let same : get_or cs w.chosen.0 nobody ≡ c =
      get_or_from_slice_get cs w.chosen.0 c nobody w.chosen.1 in
      let position : is_some (rx_position h c) ≡ true = is_some-map _ _ ∙ w.accepted in
      let t : asks w.place f c ≡ true =
      rw (
        w.moved,
        position,
        number-from (home_queue (setup_in i).homes c.choice.lane) f w.home,
        number-from (filter_place i.plan.filters (packet_hash (setup_in i) c.id)) w.place w.there,
      )
      refl in
      let found : is_asked_for (setup_in i) h i.plan.filters w.place f h.choices ≡ true =
      list_any_at (λ cs. list_any (asks w.place f) cs) h.choices w.queue []
      (within-lists h.choices w.queue w.chosen.0 l)
      (list_any_at (asks w.place f) cs w.chosen.0 nobody l (ap (asks w.place f) same ∙ t)) in
      ap (λ o. filter_is_in set o f) w.here ∙ is w.place f ∙ found

  pub seen-to : (o : Option ℕ) (a : Arrival) → IsSeenIn set i.plan.reta i.plan.filters o a
      → SeenBy i h o a
  seen-to None a e = e
  seen-to (Some hash) a (inl e) =
      inl (slice_index i.plan.reta (table_place hash), e, inl refl)
  seen-to (Some hash) a (inr w) = inr (w.0, w.1, filter-to hash w.0 w.2)

  pub seen-from : (o : Option ℕ) (a : Arrival) → SeenBy i h o a
      → IsSeenIn set i.plan.reta i.plan.filters o a
  seen-from None a e = e
  seen-from (Some hash) a (inl w) = inl (from-entry w.2)
    where
      from-entry : EntryFrom i h (table_place hash) w.0
          → route_of a ≡ route (Some hash) None (slice_index i.plan.reta (table_place hash))
      from-entry (inl r) = w.1 ∙ ap (λ n. route (Some hash) None n) (sym r)
      from-entry (inr done) = absurd (none-done h _ none done)
  seen-from (Some hash) a (inr w) = inr (w.0, w.1, filter-from hash w.0 w.2)
