-- A hop's lists fit its room, since distinct packets below the room are at most as many.
use Rattle.std.proofs.Common.{ℕ, ◌+◌, ◌-◌, ◌≤◌, ◌<◌, ◌≡◌, ◌≢◌, ◌⊎◌, List, [], ◌∷◌, ◌++◌, length}
use Rattle.std.proofs.Common.{◌∙◌, sym, arith, inl, inr, get_or}
use Rattle.std.specs.Prelude.{slice_index}
use Rattle.std.proofs.Math.ListN.{get_or-append}
use Rattle.std.proofs.Math.Seq.{get_or-append_right}
use Rattle.std.proofs.lemmas.Bool.{cases_lt}
use Rattle.std.proofs.lemmas.List.{length-append, length-map}
use Rattle.hop_model.specs.Hop.{HopState, accepted_at, arrivals_of, arrived, choices_of, deliver_at}
use Rattle.hop_model.specs.Hop.{delivered_at, fell_at, out_at, placed_of, pulled_at, taken_of}
use Rattle.hop_model.specs.Hop.{with_bare}
use Rattle.hop_model.specs.Reads.{FitsRoom}
use Rattle.hop_model.specs.Sound.{Puts, Sound}
use Rattle.hop_core.proofs.LaneSteps.{Sound-deliver}
use Rattle.hop_core.proofs.Lists.{Changed-set, length-push}
use Rattle.hop_core.proofs.ProducerSteps.{Sound-arrive}
use Rattle.hop_core.proofs.Rooms.{room_all}

-- a place of two lists together is one of the first or one of the second
in_either : (xs ys : List ℕ) (i : ℕ) → i < length (xs ++ ys)
    → ((i < length xs) × (get_or (xs ++ ys) i 0 ≡ get_or xs i 0))
    ⊎ ((length xs ≤ i) × (i - length xs < length ys) × (get_or (xs ++ ys) i 0 ≡ get_or ys
    (i - length xs) 0))
in_either xs ys i h =
    let n : length (xs ++ ys) ≡ length xs + length ys = length-append xs ys in
    elim (cases_lt i (length xs)) [
      | inl lt ↦ inl (lt, get_or-append xs ys 0 i lt)
      | inr le ↦ inr (le, omega arith, get_or-append_right xs ys i 0 le)
    ]

-- distinct numbers below n in two lists are at most n
room_both : (n : ℕ) (xs ys : List ℕ) → ((i : ℕ) → i < length xs → get_or xs i 0 < n)
    → ((i : ℕ) → i < length ys → get_or ys i 0 < n)
    → ((i j : ℕ) → i < length xs → j < length xs → get_or xs i 0 ≡ get_or xs j 0 → i ≡ j)
    → ((i j : ℕ) → i < length ys → j < length ys → get_or ys i 0 ≡ get_or ys j 0 → i ≡ j)
    → ((i j : ℕ) → i < length xs → j < length ys → get_or xs i 0 ≢ get_or ys j 0)
    → length xs + length ys ≤ n
room_both n xs ys xn yn onex oney apart =
    rw length-append at (room_all n (xs ++ ys)
    (λ i h. elim (in_either xs ys i h) [
      | inl a ↦ rw a.1 (xn i a.0)
      | inr b ↦ rw b.2 (yn (i - length xs) b.1)
    ])
    (λ i j hi hj e. elim (in_either xs ys i hi) [
      | inl a ↦ elim (in_either xs ys j hj) [
        | inl c ↦ onex i j a.0 c.0 (sym a.1 ∙ e ∙ c.1)
        | inr d ↦ absurd (apart i (j - length xs) a.0 d.1 (sym a.1 ∙ e ∙ d.2))
      ]
      | inr b ↦ elim (in_either xs ys j hj) [
        | inl c ↦ absurd (apart j (i - length xs) c.0 b.1 (sym c.1 ∙ sym e ∙ b.2))
        | inr d ↦ (let f = oney (i - length xs) (j - length xs) b.1 d.1 (sym b.2 ∙ e ∙ d.2) in
            let p = b.0 in let q = d.0 in omega arith)
      ]
    ]))

-- what was put somewhere is below the room
pub put_below : (s : HopState) → Sound s → (lists : ℕ → List ℕ) → Puts lists (choices_of s)
    (placed_of s)
    → (c j : ℕ) → j < length (lists c) → slice_index (lists c) j < s.fixed.room
put_below s h lists puts c j lt =
    let w = puts c j lt in
    let a = h.hands.put w.0 in let b = h.hands.chosen w.0 in let d = h.hands.arrived w.0 in
    let early = w.2 in
    let i : w.1 < length (choices_of s w.0) = omega arith in
    let same : slice_index (arrivals_of s w.0) w.1 ≡ slice_index (lists c) j =
    sym (h.hands.of_arrivals w.0 w.1 i) ∙ w.3 in
    rw same at (h.small.below w.0 w.1 (omega arith))

pub fits_room : (s : HopState) → Sound s → FitsRoom s
fits_room s h =
    let arrivals : (p : ℕ) → length (arrivals_of s p) ≤ s.fixed.room =
    λ p. room_all s.fixed.room (arrivals_of s p) (h.small.below p)
    (λ i j a b e. (h.once p p i j a b e).1) in
    let accepted = put_below s h (accepted_at s.bare) h.puts in
    record {
      arrivals = arrivals;
      choices = λ p. (let a = arrivals p in let b = h.hands.chosen p in
          let d = h.hands.arrived p in omega arith);
      puts = λ c. rw length-map at (room_both s.fixed.room (accepted_at s.bare c) (fell_at s.bare c)
          (accepted c) (put_below s h (fell_at s.bare) h.falls c)
          (λ i j a b e. (h.places.once c c i j a b e).1)
          (λ i j a b e. (h.places.fell_once c c i j a b e).1)
          (λ i j. h.places.never_both c c i j));
      outs = λ o. room_all s.fixed.room (out_at s.bare o)
          (λ j lt. let f = h.places.from o j lt in let a = h.counts.delivered_first f.0 in
          let b = h.counts.pulled_first f.0 in let early = f.2 in
          rw f.3 at (accepted f.0 f.1 (omega arith)))
          (λ i j a b e. (h.places.out_once o o i j a b e).1);
    }

-- room for one packet more among the arrivals, the choices and the packets of an out lane

pub room-arrive : (s : HopState) (p x : ℕ) → p < length s.arrivals → x < s.fixed.room
    → ((q i : ℕ) → i < length (arrivals_of s q) → slice_index (arrivals_of s q) i ≢ x) → Sound s
    → length (arrivals_of s p) < s.fixed.room
room-arrive s p x named below fresh h =
    let ch = Changed-set s.arrivals p (arrivals_of s p ++ x ∷ []) [] named in
    let f = rw (ch.here, length-push) at
    ((fits_room (arrived s p x) (Sound-arrive s p x named below fresh h)).arrivals p) in
    omega arith

pub room-weigh : (s : HopState) (p : ℕ) → length (choices_of s p) < taken_of s p → Sound s
    → length (choices_of s p) < s.fixed.room
room-weigh s p more h = let a = (fits_room s h).arrivals p in
    let b = h.hands.arrived p in omega arith

pub room-deliver : (s : HopState) (c o : ℕ) → c < length s.bare.accepted → o < length s.bare.outs
    → delivered_at s.bare c < pulled_at s.bare c
    → Sound s → length (out_at s.bare o) < s.fixed.room
room-deliver s c o lane out more h =
    let ch = Changed-set s.bare.outs o (out_at s.bare o ++ slice_index (accepted_at s.bare c)
    (delivered_at s.bare c) ∷ []) [] out in
    let f = rw (ch.here, length-push) at ((fits_room (with_bare s (deliver_at s.bare c o))
    (Sound-deliver s c o lane out more h)).outs o) in
    omega arith
