-- What the steps of producers keep: an arrival, a packet taken up, and a choice.
use Rattle.std.proofs.Common.{ℕ, ◌+◌, ◌≤◌, ◌<◌, ◌≡◌, ◌≢◌, true, false, List, [], ◌∷◌, ◌++◌, Option}
use Rattle.std.proofs.Common.{Some, None, length, refl, ap, ◌∙◌, sym, arith, inl, inr, get_or, drop}
use Rattle.std.specs.Prelude.{slice_index}
use Rattle.std.proofs.Math.ListN.{length-set}
use Rattle.std.proofs.lemmas.Bool.{cases_eq, cases_lt}
use Rattle.std.proofs.lemmas.List.{get_or_past}
use Rattle.std.proofs.lemmas.List.Elements.{All-filter, All-drop, All-from_get_or}
use Rattle.steer_base.specs.Counters.{number}
use Rattle.steer_base.specs.Entries.{position, of_class, is_class, current_lane, recorded_count}
use Rattle.steer_base.specs.Sets.{has}
use Rattle.steer_base.specs.declared.choice.Chosen.{Chosen}
use Rattle.steer_base.specs.declared.cpu_mask.CpuMask.{CpuMask}
use Rattle.hop_model.specs.Hop.{nobody, HopState, accepted_at, fell_at, next_of, retired_at}
use Rattle.hop_model.specs.Hop.{head_at}
use Rattle.hop_model.specs.Hop.{arrivals_of, choices_of, chosen_at, taken_of, placed_of, since_of}
use Rattle.hop_model.specs.Hop.{inside_of, arrived, took, chose, choice_of}
use Rattle.hop_model.specs.Events.{IsEmptied}
use Rattle.hop_model.specs.Sound.{Puts, Sound}
use Rattle.hop_core.proofs.Lists.{Changed, Changed-set, place_in-none, chosen-push_front}
use Rattle.hop_core.proofs.Lists.{chosen-push_last, length-push}
use Rattle.hop_core.proofs.Rooms.{room_all}
use Rattle.hop_core.proofs.Sound.{in_hand_not_put, Hands-arrive, Hands-take, Hands-weigh}
use Rattle.hop_core.proofs.Sound.{Distinct-arrive}
use Rattle.hop_core.proofs.Standing.{current_lane-in}
use Rattle.steer_base.proofs.RuleLemmas.{by_entry-lane}
use Rattle.hop_core.proofs.Puts.{Puts-weigh}
use Rattle.hop_core.proofs.Stands.{Stands-weigh, Past-weigh}

-- what arrived stays below the room
below-arrive : (arrivals later : ℕ → List ℕ) (room p x : ℕ) → Changed arrivals later p
    (arrivals p ++ x ∷ []) → x < room
    → ((q i : ℕ) → i < length (arrivals q) → get_or (arrivals q) i 0 < room) → (q i : ℕ)
    → i < length (later q) → get_or (later q) i 0 < room
below-arrive arrivals later room p x ch lt h q i in' =
    elim (cases_eq q p) [
      | inl e ↦ (
          let f : later q ≡ arrivals p ++ x ∷ [] = rw e ch.here in
          let l : i < length (arrivals p) + 1 = rw (f, length-push) at in' in
          rw f (elim (cases_eq i (length (arrivals p))) [
            | inl last ↦ rw (last, chosen-push_last (arrivals p) x 0) lt
            | inr ne ↦ (let less : i < length (arrivals p) = omega arith in
                rw (chosen-push_front (arrivals p) x 0 i less) (h p i less))
          ]))
      | inr ne ↦ rw (ch.there q ne) (h q i (rw (ch.there q ne) at in'))
    ]

pub Sound-arrive : (s : HopState) (p x : ℕ) → p < length s.arrivals → x < s.fixed.room
    → ((q i : ℕ) → i < length (arrivals_of s q) → slice_index (arrivals_of s q) i ≢ x) → Sound s
    → Sound (arrived s p x)
Sound-arrive s p x in' less fresh h =
    let ch = Changed-set s.arrivals p (arrivals_of s p ++ x ∷ []) [] in' in
    let w = h.wide in
    record {
      wide = record {
        counts = rw length-set w.counts;
        taken = rw length-set w.taken;
        choices = rw length-set w.choices;
        placed = rw length-set w.placed;
        since = rw length-set w.since;
        visits = rw length-set w.visits;
        offers = w.offers;
        drops = w.drops;
        pulled = w.pulled;
        delivered = w.delivered;
        retired = w.retired;
      };
      small = record {
        below = below-arrive (arrivals_of s)
            (arrivals_of (arrived s p x)) s.fixed.room p x ch less h.small.below;
        room = h.small.room;
        start = h.small.start;
      };
      hands = Hands-arrive (arrivals_of s) (arrivals_of (arrived s p x)) (taken_of s) (choices_of s)
          (placed_of s) (since_of s) p x ch h.hands;
      once = Distinct-arrive (arrivals_of s) (arrivals_of (arrived s p x)) p x ch fresh h.once;
      counts = h.counts;
      puts = h.puts;
      falls = h.falls;
      places = h.places;
      stands = h.stands;
      past = h.past;
      lanes = h.lanes;
      gate = record { inside = h.gate.inside; shut = h.gate.shut; weighed = h.gate.weighed };
    }

pub Sound-take : (s : HopState) (p : ℕ) → p < length s.arrivals → taken_of s p ≤ placed_of s p
    → taken_of s p < length (arrivals_of s p)
    → Sound s → Sound (took s p)
Sound-take s p in' free more h =
    let w = h.wide in
    let ch = Changed-set s.taken p (taken_of s p + 1) 0 (omega arith) in
    record {
      wide = record {
        counts = w.counts;
        taken = rw length-set w.taken;
        choices = w.choices;
        placed = w.placed;
        since = w.since;
        visits = w.visits;
        offers = w.offers;
        drops = w.drops;
        pulled = w.pulled;
        delivered = w.delivered;
        retired = w.retired;
      };
      small = record { below = h.small.below; room = h.small.room; start = h.small.start };
      hands = Hands-take (arrivals_of s) (taken_of s) (taken_of (took s p)) (choices_of s)
          (placed_of s) (since_of s) p ch free more h.hands;
      once = h.once;
      counts = h.counts;
      puts = h.puts;
      falls = h.falls;
      places = h.places;
      stands = h.stands;
      past = h.past;
      lanes = h.lanes;
      gate = record { inside = h.gate.inside; shut = h.gate.shut; weighed = h.gate.weighed };
    }

-- where the packet in hand stands: nowhere
pub in_hand_absent : (s : HopState) (lists : ℕ → List ℕ) → Sound s → Puts lists (choices_of s)
    (placed_of s)
    → (p i : ℕ) → placed_of s p ≤ i → i < length (choices_of s p)
    → (c : ℕ) → (j : ℕ) → j < length (lists c) → slice_index (lists c) j ≢
    (chosen_at (choices_of s p) i).id
in_hand_absent s lists h puts p i late in' c j jn e =
    in_hand_not_put (arrivals_of s) (taken_of s) (choices_of s) (placed_of s)
    (since_of s) h.hands h.once p i c in' late
    (rw e at (puts c j jn))

-- and where the packet stands that is to be weighed: nowhere
pub new_absent : (s : HopState) → Sound s → (p : ℕ) → length (choices_of s p) < taken_of s p
    → (c : ℕ) (j : ℕ) → j < length (accepted_at s.bare c) → slice_index
    (accepted_at s.bare c) j ≢ slice_index (arrivals_of s p) (length (choices_of s p))
new_absent s h p more c j jn e =
    let w = h.puts c j jn in
    let a = h.hands.arrived p in let b = h.hands.put w.0 in let d = h.hands.chosen w.0 in
    let f = h.hands.arrived w.0 in let i = w.2 in
    let g = h.once w.0 p w.1 (length (choices_of s p)) (omega arith) (omega arith)
    (sym (h.hands.of_arrivals w.0 w.1 (omega arith)) ∙ w.3 ∙ e) in
    let same : length (choices_of s w.0) ≡ length (choices_of s p) =
    ap (λ q. length (choices_of s q)) g.0 in
    omega (arith, g.1)

choice_lane : (s : HopState) → Sound s → (p : ℕ) (class want : Option ℕ) (desired : ℕ)
    (online : CpuMask)
    → desired < length s.bare.accepted → (choice_of s p class want desired online).lane < length
    s.bare.accepted
choice_lane s h p None want desired online d = d
choice_lane s h p (Some k) want desired online d =
    let P : ℕ → Type 0 = λ l. l < length s.bare.accepted in
    let cs : List Chosen = of_class k (drop (since_of s p) (choices_of s p)) in
    elim (by_entry-lane k want desired
    (number s.fixed.start (recorded_count (accepted_at s.bare) cs))
    (head_at s.fixed.start s.bare) (has online) (current_lane cs)) [
      | inl e ↦ rw e d
      | inr e ↦ current_lane-in P cs
          (All-filter (λ c. is_class k c.choice.class) (λ c. P c.choice.lane)
          (drop (since_of s p) (choices_of s p))
          (All-drop (λ c. P c.choice.lane) (since_of s p) (choices_of s p)
          (All-from_get_or (λ c. P c.choice.lane) (choices_of s p) nobody
          (λ i in'. h.lanes p i in'))))
          _ e
    ]

-- the accepted packets of each lane fit the room
pub accepted-fit : (s : HopState) → Sound s → (d : ℕ) → length (accepted_at s.bare d) ≤ s.fixed.room
accepted-fit s h d =
    room_all s.fixed.room (accepted_at s.bare d)
    (λ j jn. let w = h.puts d j jn in let a = h.hands.put w.0 in let b = h.hands.chosen w.0 in
    let e = h.hands.arrived w.0 in let lt = w.2 in
    let i : w.1 < length (choices_of s w.0) = omega arith in
    let same : slice_index (arrivals_of s w.0) w.1 ≡ slice_index (accepted_at s.bare d) j =
    sym (h.hands.of_arrivals w.0 w.1 i) ∙ w.3 in
    rw same at (h.small.below w.0 w.1 (omega arith)))
    (λ i j a b e. (h.places.once d d i j a b e).1)

-- A lane beyond the last has nothing in it: so the lanes that are emptied are all that a list of
-- lanes names.
pub emptied-all : (s : HopState) → Sound s → (P : ℕ → Type 0)
    → ((c : ℕ) → c < length s.bare.accepted → P c → IsEmptied s.bare c) → (c : ℕ) → P c
    → IsEmptied s.bare c
emptied-all s h P all c holds =
    elim (cases_lt c (length s.bare.accepted)) [
      | inl lt ↦ all c lt holds
      | inr le ↦ (
          let w = h.wide in
          let a : accepted_at s.bare c ≡ [] = get_or_past s.bare.accepted c [] le in
          let b : retired_at s.bare c ≡ 0 = get_or_past s.bare.retired c 0 (omega arith) in
          rw (a, b) refl)
    ]

pub Sound-weigh : (s : HopState) (p : ℕ) (class want : Option ℕ) (desired : ℕ) (online : CpuMask)
    → p < length s.arrivals → desired < length s.bare.accepted → ((d : ℕ) → has online d ≡ false
    → IsEmptied s.bare d)
    → inside_of s p ≡ true → length (choices_of s p) < taken_of s p
    → Sound s → Sound (chose s p (choice_of s p class want desired online))
Sound-weigh s p class want desired online in' within drained inside more h =
    let w = h.wide in
    let c : Chosen =
    record { id = next_of s p; choice = choice_of s p class want desired online } in
    let t : HopState = chose s p (choice_of s p class want desired online) in
    let ch : Changed (choices_of s) (choices_of t) p (choices_of s p ++ c ∷ []) =
    Changed-set s.choices p (choices_of s p ++ c ∷ []) [] (omega arith) in
    let a = h.hands.put p in let b = h.hands.past p in
    let absent : position (accepted_at s.bare) c ≡ None =
    place_in-none c.id (accepted_at s.bare c.choice.lane)
    (new_absent s h p more c.choice.lane) in
    record {
      wide = record {
        counts = w.counts;
        taken = w.taken;
        choices = rw length-set w.choices;
        placed = w.placed;
        since = w.since;
        visits = w.visits;
        offers = w.offers;
        drops = w.drops;
        pulled = w.pulled;
        delivered = w.delivered;
        retired = w.retired;
      };
      small = record { below = h.small.below; room = h.small.room; start = h.small.start };
      hands = Hands-weigh (arrivals_of s) (taken_of s) (choices_of s) (choices_of t) (placed_of s)
          (since_of s) p c ch more refl h.hands;
      once = h.once;
      counts = h.counts;
      puts = Puts-weigh (accepted_at s.bare) (choices_of s) (choices_of t)
          (placed_of s) p c ch h.hands.put h.puts;
      falls = Puts-weigh (fell_at s.bare) (choices_of s) (choices_of t)
          (placed_of s) p c ch h.hands.put h.falls;
      places = h.places;
      stands = Stands-weigh s.fixed.start (accepted_at s.bare) (retired_at s.bare) (choices_of s)
          (choices_of t) (since_of s) p c class want desired (has online)
          h.small.start (λ d. let a = accepted-fit s h d in let b = h.small.room in omega arith)
          (λ d. let a = h.counts.retired_first d in let b = h.counts.delivered_first d in
          let e = h.counts.pulled_first d in omega arith)
          ch (omega arith) refl absent drained h.stands;
      past = Past-weigh (accepted_at s.bare) (retired_at s.bare) (choices_of s) (choices_of t)
          (since_of s) p c ch (omega arith) h.past;
      lanes = λ q i iq. elim (cases_eq q p) [
        | inl e ↦ (
            let f : choices_of t q ≡ choices_of s p ++ c ∷ [] = rw e ch.here in
            let l : i < length (choices_of s p) + 1 = rw (f, length-push) at iq in
            rw f (elim (cases_eq i (length (choices_of s p))) [
              | inl last ↦ rw (last, chosen-push_last (choices_of s p) c nobody)
                  (choice_lane s h p class want desired online within)
              | inr ne ↦ (let lt : i < length (choices_of s p) = omega arith in
                  rw (chosen-push_front (choices_of s p) c nobody i lt) (h.lanes p i lt))
            ]))
        | inr ne ↦ rw (ch.there q ne) (h.lanes q i (rw (ch.there q ne) at iq))
      ];
      gate = record {
        inside = h.gate.inside;
        shut = h.gate.shut;
        weighed = λ q lt. elim (cases_eq q p) [
          | inl e ↦ rw e inside
          | inr ne ↦ h.gate.weighed q
              (rw (ch.there q ne) at lt)
        ];
      };
    }
