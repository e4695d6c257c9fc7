-- What a put keeps: the packet in hand is dropped for a cause, or accepted at the end of the lane's
-- list.
use Rattle.std.proofs.Common.{ℕ, ◌+◌, ◌<◌, ◌≡◌, ◌≢◌, true, List, [], ◌∷◌, ◌++◌, Option, Some, None}
use Rattle.std.proofs.Common.{length, refl, ap, arith, inl, inr, get_or, set, take, map}
use Rattle.std.specs.Prelude.{slice_index, slice_set}
use Rattle.std.proofs.Math.ListN.{length-set}
use Rattle.std.proofs.lemmas.Bool.{cases_eq}
use Rattle.std.proofs.lemmas.List.{get_or-take, length-take-le, map-append}
use Rattle.steer_base.specs.Drops.{bucket_of, lane_drop_cause}
use Rattle.steer_base.specs.Entries.{position}
use Rattle.steer_base.specs.declared.choice.Chosen.{Chosen}
use Rattle.steer_base.specs.declared.put.DropCause.{DropCause}
use Rattle.steer_base.specs.declared.put.LaneDrop.{LaneDrop}
use Rattle.hop_model.specs.Hop.{nobody, HopState, accepted_at, drops_at, fell_at, out_at, pulled_at}
use Rattle.hop_model.specs.Hop.{delivered_at, retired_at, arrivals_of, choices_of, chosen_at}
use Rattle.hop_model.specs.Hop.{taken_of, placed_of, since_of, inside_of, in_hand, lane_of, put_one}
use Rattle.hop_model.specs.Hop.{landed}
use Rattle.hop_model.specs.Sound.{Hands, Sound}
use Rattle.hop_core.proofs.Lists.{Changed, Changed-set, place_in-none, front_and_last}
use Rattle.hop_core.proofs.Gathered.{Added}
use Rattle.hop_core.proofs.Sound.{same_choice, position-added, Hands-put, Counts-accept}
use Rattle.hop_core.proofs.Puts.{Puts-put, Puts-add, Places-accept, Places-fall}
use Rattle.hop_core.proofs.Stands.{Stands-accept, Past-same}
use Rattle.hop_core.proofs.ProducerSteps.{in_hand_absent}

-- the state after a put, whatever the cause of a drop
abbrev pub put_as : HopState → ℕ → Option DropCause → Option ℕ → HopState
put_as s p cause bucket =
    record s {
      bare = landed cause s.bare (in_hand s p).choice.lane (in_hand s p).id bucket;
      placed = slice_set s.placed p (placed_of s p + 1);
    }

-- what a put finds of the packet in hand
record Handed (s : HopState) (p : ℕ) : Type 0 where
  more : placed_of s p < length (choices_of s p)
  lane : (in_hand s p).choice.lane < length s.bare.accepted
  not_accepted : (c j : ℕ) → j < length (accepted_at s.bare c) → slice_index
      (accepted_at s.bare c) j ≢ (in_hand s p).id
  not_fell : (c j : ℕ) → j < length (fell_at s.bare c) → slice_index (fell_at s.bare c) j ≢
      (in_hand s p).id
  placed : Changed (placed_of s) (λ q. get_or (set s.placed p (placed_of s p + 1)) q 0) p
      (placed_of s p + 1)
  hands : Hands (arrivals_of s) (taken_of s) (choices_of s)
      (λ q. get_or (set s.placed p (placed_of s p + 1)) q 0) (since_of s)
  weighed : (q : ℕ) → get_or (set s.placed p (placed_of s p + 1)) q 0 < length (choices_of s q)
      → inside_of s q ≡ true

handed : (s : HopState) (p : ℕ) → p < length s.arrivals → inside_of s p ≡ true
    → placed_of s p < length (choices_of s p) → Sound s → Handed s p
handed s p in' inside more h =
    let w = h.wide in
    let ch : Changed (placed_of s) (λ q. get_or (set s.placed p (placed_of s p + 1)) q 0) p
    (placed_of s p + 1) = Changed-set s.placed p (placed_of s p + 1) 0 (omega arith) in
    record {
      more = more;
      lane = h.lanes p (placed_of s p) more;
      not_accepted = in_hand_absent s (accepted_at s.bare) h h.puts p (placed_of s p)
          (omega arith) more;
      not_fell = in_hand_absent s (fell_at s.bare) h h.falls p (placed_of s p) (omega arith) more;
      placed = ch;
      hands = Hands-put (arrivals_of s) (taken_of s) (choices_of s) (placed_of s)
          (λ q. get_or (set s.placed p (placed_of s p + 1)) q 0) (since_of s) p ch more h.hands;
      weighed = λ q lt. elim (cases_eq q p) [
        | inl e ↦ rw e inside
        | inr ne ↦ h.gate.weighed q
            (rw (ch.there q ne) at lt)
      ];
    }

Sound-dropped : (s : HopState) (p : ℕ) (cause : DropCause) (bucket : Option ℕ) → Handed s p
    → Sound s → Sound (put_as s p (Some cause) bucket)
Sound-dropped s p cause bucket a h =
    let w = h.wide in
    let c : Chosen = in_hand s p in
    let lane : c.choice.lane < length s.bare.accepted = a.lane in
    let placed : ℕ → ℕ = λ q. get_or (set s.placed p (placed_of s p + 1)) q 0 in
    let r : LaneDrop = record {
      id = c.id;
      accepted = length (accepted_at s.bare c.choice.lane);
      pulled = pulled_at s.bare c.choice.lane;
      cause = cause;
    } in
    let ch = Changed-set s.bare.drops c.choice.lane (drops_at s.bare c.choice.lane ++ r ∷ []) []
    (omega arith) in
    let new : ℕ → List ℕ =
    λ d. map (λ d. d.id) (get_or (set s.bare.drops c.choice.lane (drops_at s.bare c.choice.lane
    ++ r ∷ [])) d []) in
    let added : Added (fell_at s.bare) new c.choice.lane c.id = record {
      here = rw ch.here (map-append (λ d. d.id) (drops_at s.bare c.choice.lane) (r ∷ []));
      there = λ d ne. rw (ch.there d ne) refl;
    } in
    record {
      small = record { below = h.small.below; room = h.small.room; start = h.small.start };
      wide = record {
        counts = w.counts;
        taken = w.taken;
        choices = w.choices;
        placed = rw length-set w.placed;
        since = w.since;
        visits = w.visits;
        offers = rw length-set w.offers;
        drops = rw length-set w.drops;
        pulled = w.pulled;
        delivered = w.delivered;
        retired = w.retired;
      };
      hands = a.hands;
      once = h.once;
      counts = h.counts;
      puts = Puts-put (accepted_at s.bare) (choices_of s) (placed_of s) placed p a.placed h.puts;
      falls = Puts-add (fell_at s.bare) new (choices_of s) (placed_of s) placed p a.placed added
          h.falls;
      places = Places-fall (accepted_at s.bare) (fell_at s.bare) new (delivered_at s.bare)
          (out_at s.bare) c.choice.lane c.id added a.not_fell a.not_accepted h.places;
      stands = h.stands;
      past = h.past;
      lanes = h.lanes;
      gate = record { inside = h.gate.inside; shut = h.gate.shut; weighed = a.weighed };
    }

Sound-accepted : (s : HopState) (p : ℕ) (bucket : Option ℕ) → Handed s p → Sound s
    → Sound (put_as s p None bucket)
Sound-accepted s p bucket a h =
    let w = h.wide in
    let c : Chosen = in_hand s p in
    let more : placed_of s p < length (choices_of s p) = a.more in
    let lane : c.choice.lane < length s.bare.accepted = a.lane in
    let placed : ℕ → ℕ = λ q. get_or (set s.placed p (placed_of s p + 1)) q 0 in
    let new : ℕ → List ℕ =
    λ d. get_or (set s.bare.accepted c.choice.lane (accepted_at s.bare c.choice.lane ++ c.id
    ∷ [])) d [] in
    let cha : Changed (accepted_at s.bare) new c.choice.lane (accepted_at s.bare c.choice.lane
    ++ c.id ∷ []) =
    Changed-set s.bare.accepted c.choice.lane (accepted_at s.bare c.choice.lane ++ c.id
    ∷ []) [] lane in
    let added : Added (accepted_at s.bare) new c.choice.lane c.id =
    record { here = cha.here; there = cha.there } in
    let absent : position (accepted_at s.bare) c ≡ None =
    place_in-none c.id (accepted_at s.bare c.choice.lane) (a.not_accepted c.choice.lane) in
    let others : (q i : ℕ) → i < length (choices_of s q) → ((q ≡ p) → i ≢ placed_of s p)
    → position new (chosen_at (choices_of s q) i) ≡ position (accepted_at s.bare)
    (chosen_at (choices_of s q) i) =
    λ q i iq ne. position-added (accepted_at s.bare) new c.choice.lane c.id
    (chosen_at (choices_of s q) i) added
    (λ e. let g = same_choice (arrivals_of s) (taken_of s) (choices_of s) (placed_of s)
    (since_of s) h.hands h.once q p i (placed_of s p) iq more e in ne g.0 g.1) in
    let one = h.hands.one p in let chosen = h.hands.chosen p in let past = h.hands.past p in
    let front : List Chosen = take (placed_of s p) (choices_of s p) in
    let is : choices_of s p ≡ front ++ c ∷ [] = front_and_last (choices_of s p)
    (placed_of s p) nobody (omega arith) in
    let len : length front ≡ placed_of s p = length-take-le (placed_of s p) (choices_of s p)
    (omega arith) in
    record {
      small = record { below = h.small.below; room = h.small.room; start = h.small.start };
      wide = record {
        counts = w.counts;
        taken = w.taken;
        choices = w.choices;
        placed = rw length-set w.placed;
        since = w.since;
        visits = w.visits;
        offers = rw (length-set, length-set) w.offers;
        drops = rw length-set w.drops;
        pulled = rw length-set w.pulled;
        delivered = rw length-set w.delivered;
        retired = rw length-set w.retired;
      };
      hands = a.hands;
      once = h.once;
      counts = Counts-accept (accepted_at s.bare) new (pulled_at s.bare) (delivered_at s.bare)
          (retired_at s.bare) c.choice.lane c.id added h.counts;
      puts = Puts-add (accepted_at s.bare) new (choices_of s) (placed_of s) placed p a.placed added
          h.puts;
      falls = Puts-put (fell_at s.bare) (choices_of s) (placed_of s) placed p a.placed h.falls;
      places = Places-accept (accepted_at s.bare) new (fell_at s.bare) (delivered_at s.bare)
          (out_at s.bare) c.choice.lane c.id added a.not_accepted a.not_fell
          (λ d. let a = h.counts.delivered_first d in let b = h.counts.pulled_first d in
          omega arith) h.places;
      stands = Stands-accept (accepted_at s.bare) new (retired_at s.bare) (choices_of s)
          (since_of s) p front c is (omega arith) added absent
          (λ i lt. rw (get_or-take (placed_of s p) (choices_of s p) i nobody (omega arith))
          (others p i (omega arith) (λ e f. omega arith)))
          (λ q i ne iq. others q i iq (λ e. absurd (ne e))) h.stands;
      past = Past-same (accepted_at s.bare) new (retired_at s.bare) (choices_of s) (since_of s)
          (λ q i lt. let a = h.hands.past q in let b = h.hands.put q in others q i (omega arith)
          (λ e f. let g : since_of s q ≡ since_of s p = ap (λ q. since_of s q) e in
          omega arith)) h.past;
      lanes = λ q i iq. rw length-set (h.lanes q i iq);
      gate = record { inside = h.gate.inside; shut = h.gate.shut; weighed = a.weighed };
    }

Sound-landed : (s : HopState) (p : ℕ) (cause : Option DropCause) (bucket : Option ℕ) → Handed s p
    → Sound s → Sound (put_as s p cause bucket)
Sound-landed s p None bucket a h = Sound-accepted s p bucket a h
Sound-landed s p (Some cause) bucket a h = Sound-dropped s p cause bucket a h

pub Sound-put : (s : HopState) (p : ℕ) (hash : Option ℕ) → p < length s.arrivals
    → inside_of s p ≡ true → placed_of s p < length (choices_of s p)
    → Sound s → Sound (put_one s p hash)
Sound-put s p hash in' inside more h =
    Sound-landed s p (lane_drop_cause (lane_of s.fixed s.bare (in_hand s p).choice.lane) hash)
    (bucket_of hash) (handed s p in' inside more h) h
