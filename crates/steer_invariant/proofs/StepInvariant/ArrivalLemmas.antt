-- What an arrival keeps.
use Rattle.std.proofs.Common.{ℕ, ◌+◌, ◌<◌, ◌≡◌, ◌≢◌, true, List, [], ◌∷◌, ◌++◌, map, length, refl}
use Rattle.std.proofs.Common.{ap, ◌∙◌, sym, subst, arith, inl, inr, append-nil}
use Rattle.std.specs.Prelude.{◌==◌, slice_index}
use Rattle.std.specs.List.{filter, range_with_len}
use Rattle.std.proofs.lemmas.Bool.{cases_eq, eq-eqb, ne_eqb}
use Rattle.std.proofs.lemmas.List.{get_or_append_left, length_push, map_push}
use Rattle.std.proofs.lemmas.List.Elements.{filter-append}
use Rattle.std.proofs.lemmas.List.FromFn.{map-range_with_len_more}
use Rattle.steer_base.specs.declared.packet.Packet.{Packet}
use Rattle.hop_model.specs.declared.event.HopEvent.{HopEvent}
use Rattle.hop_model.specs.declared.event.HopEvent.TheVariants as event
use Rattle.hop_model.specs.Events.{MayAsk, happens}
use Rattle.hop_model.specs.Hop.{HopState, arrivals_of}
use Rattle.hop_core.proofs.Lists.{Changed, Changed-set}
use Rattle.history.specs.Finding.{is_in}
use Rattle.history.specs.Lists.{arrival_of, arrivals_at, list_at, no_arrival}
use Rattle.history.specs.declared.arrival.Arrival.{Arrival}
use Rattle.history.proofs.BoundLemmas.{in-index}
use Rattle.history.proofs.FindingLemmas.{map-same}
use Rattle.history.proofs.RegularLemmas.{AreNumbered, arrival-at, queue-of}
use Rattle.steer_model.specs.State.Machine.{Machine}
use Rattle.steer_model.specs.Steps.Pollers.{arrival_by, route_by}
use Rattle.steer_model.specs.State.Setup.{packet_hash}
use Rattle.steer_invariant.specs.StepInvariant.{StepInvariant}
use Rattle.steer_invariant.specs.ListInvariants.{Came}
use Rattle.steer_invariant.proofs.StepInvariant.FrameLemmas.{manned-leaves, noted-leaves}
use Rattle.steer_invariant.proofs.StepInvariant.FrameLemmas.{replied-inbox}
use Rattle.steer_invariant.proofs.StepInvariant.PollerLemmas.{StepInvariant-rx}
use Rattle.steer_invariant.proofs.StepInvariant.RouteLemmas.{route-below}

pub range-more : (a n j : ℕ) → a + n ≡ j → range_with_len a (n + 1) ≡ range_with_len a n ++ j ∷ []
range-more a n j e =
    sym (map-same (range_with_len a (n + 1))) ∙ map-range_with_len_more (λ x. x) a n j e
    ∙ ap (λ l. l ++ j ∷ []) (map-same (range_with_len a n))

-- ---- one arrival more

module _ (arrivals : List Arrival) (a : Arrival) where
  numbered-pushed : a.id ≡ length arrivals → AreNumbered 0 arrivals
      → AreNumbered 0 (arrivals ++ a ∷ [])
  numbered-pushed is k =
      map_push (λ a. a.id) arrivals a ∙ (λ i. k i ++ is i ∷ [])
      ∙ sym (ap (range_with_len 0) (length_push arrivals a)
      ∙ range-more 0 (length arrivals) (length arrivals) (omega arith))

  queue-here : (q : ℕ) → a.queue ≡ q
      → arrivals_at (arrivals ++ a ∷ []) q ≡ arrivals_at arrivals q ++ a.id ∷ []
  queue-here q e =
      let one : filter (λ b. b.queue == q) (a ∷ []) ≡ a ∷ [] = rw (eq-eqb a.queue q e) refl in
      ap (map (λ b. b.id)) (filter-append (λ b. b.queue == q) arrivals (a ∷ [])
      ∙ ap (λ l. filter (λ b. b.queue == q) arrivals ++ l) one)
      ∙ map_push (λ b. b.id) (filter (λ b. b.queue == q) arrivals) a

  queue-there : (q : ℕ) → a.queue ≢ q → arrivals_at (arrivals ++ a ∷ []) q ≡ arrivals_at arrivals q
  queue-there q ne =
      let none : filter (λ b. b.queue == q) (a ∷ []) ≡ [] = rw (ne_eqb a.queue q ne) refl in
      ap (map (λ b. b.id)) (filter-append (λ b. b.queue == q) arrivals (a ∷ [])
      ∙ ap (λ l. filter (λ b. b.queue == q) arrivals ++ l) none
      ∙ append-nil (filter (λ b. b.queue == q) arrivals))

  -- an arrival stays what it is
  pub arrival-stays : (x : ℕ) → a.id ≡ length arrivals → AreNumbered 0 arrivals
      → x < length arrivals → arrival_of (arrivals ++ a ∷ []) x ≡ arrival_of arrivals x
  arrival-stays x is k lt =
      arrival-at x (arrivals ++ a ∷ []) (numbered-pushed is k) (let l = length_push arrivals a in
      omega (arith, lt, l))
      ∙ get_or_append_left arrivals (a ∷ []) no_arrival x lt ∙ sym (arrival-at x arrivals k lt)

  came-pushed : (packets : List Packet) (old new : ℕ → List ℕ) → a.id ≡ length arrivals
      → length arrivals < length packets → Changed old new a.queue (old a.queue ++ a.id ∷ [])
      → Came packets arrivals old → Came packets (arrivals ++ a ∷ []) new
  came-pushed packets old new is few ch k =
      record {
        numbered = numbered-pushed is k.numbered;
        of_the_capture = (let l = length_push arrivals a in omega (arith, few, l));
        own = λ q. elim (cases_eq q a.queue) [
          | inl e ↦ ap new e ∙ ch.here ∙ ap (λ l. l ++ a.id ∷ []) (k.own a.queue)
              ∙ sym (ap (arrivals_at (arrivals ++ a ∷ [])) e ∙ queue-here a.queue refl)
          | inr ne ↦ ch.there q ne ∙ k.own q ∙ sym (queue-there q (λ e. ne (sym e)))
        ];
      }

-- ---- the next packet arrives

-- what arrived at a queue are numbers below those of later packets
pub arrived-below : (m : Machine) (q i : ℕ) → StepInvariant m → i < length (arrivals_of m.rx q)
    → slice_index (arrivals_of m.rx q) i < length m.arrivals
arrived-below m q i k lt =
    let x : ℕ = slice_index (arrivals_of m.rx q) i in
    let here : is_in x (arrivals_at m.arrivals q) ≡ true =
    subst (λ xs. is_in x xs ≡ true) (k.came.own q) (in-index (arrivals_of m.rx q) i lt) in
    (queue-of q x m.arrivals k.came.numbered here).0

-- the next packet may arrive at any queue
pub may_arrive : (m : Machine) (q : ℕ) → q < length m.setup.homes
    → length m.arrivals < length m.setup.packets → StepInvariant m
    → MayAsk m.rx (event.Arrive q (length m.arrivals))
may_arrive m q named few k =
    let z = k.rx.sizes in
    record {
      producer = omega (arith, named, z.queues);
      below = omega (arith, few, z.room);
      fresh = λ p i lt e. (let below = arrived-below m p i k lt in omega (arith, below, e));
    }

-- the next packet, on its way
abbrev pub next_arrival : Machine → Arrival
next_arrival m = arrival_by (length m.arrivals)
    (route_by m (packet_hash m.setup (length m.arrivals)))

pub next_queue : (m : Machine) → StepInvariant m → (next_arrival m).queue < length m.setup.homes
next_queue m k = route-below m (packet_hash m.setup (length m.arrivals)) k.routes

kept-arrived : (m : Machine) (a : Arrival) → a.id ≡ length m.arrivals
    → a.queue < length m.setup.homes → length m.arrivals < length m.setup.packets → StepInvariant m
    → StepInvariant
    (record m {
      rx =
          (happens m.rx (event.Arrive a.queue a.id)).0;
      arrivals = m.arrivals ++ a ∷ [];
    })
kept-arrived m a is named few k =
    let e : HopEvent = event.Arrive a.queue a.id in
    let z = k.rx.sizes in
    let may : MayAsk m.rx e =
    subst (λ x. MayAsk m.rx (event.Arrive a.queue x)) (sym is) (may_arrive m a.queue named few k) in
    let ch =
    Changed-set m.rx.arrivals a.queue (arrivals_of m.rx a.queue ++ a.id ∷ []) []
    (omega (arith, named, z.queues)) in
    StepInvariant-rx m e (m.arrivals ++ a ∷ []) may refl refl tt
    (manned-leaves m.setup m.settings m.rx e refl refl refl refl k.by.manned)
    (noted-leaves m.notes m.rx e refl refl refl k.noted)
    (came-pushed m.arrivals a m.setup.packets (arrivals_of m.rx) _ is few ch k.came)
    (replied-inbox (list_at m.sent) (arrivals_of m.tx) m.rx e refl k.replied) k

-- the code knows the arrival by its value, and the hop by its step
pub kept_arrive : (m : Machine) (a : Arrival) (t : HopState) → a ≡ next_arrival m
    → length m.arrivals < length m.setup.packets → t ≡ (happens m.rx (event.Arrive a.queue a.id)).0
    → StepInvariant m → StepInvariant (record m { rx = t; arrivals = m.arrivals ++ a ∷ [] })
kept_arrive m a t which few is k =
    let id : a.id ≡ length m.arrivals = ap (λ (b : Arrival). b.id) which in
    let below : a.queue < length m.setup.homes =
    subst (λ (b : Arrival). b.queue < length m.setup.homes) (sym which) (next_queue m k) in
    subst (λ (s : HopState). StepInvariant (record m { rx = s; arrivals = m.arrivals ++ a ∷ [] }))
    (sym is)
    (kept-arrived m a id below few k)
