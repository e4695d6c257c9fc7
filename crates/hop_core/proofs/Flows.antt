-- Every event keeps each flow of each producer in order, where its puts and deliveries are allowed
-- for the flow.
use Rattle.std.proofs.Common.{ℕ, ◌+◌, ◌≤◌, ◌<◌, ◌≡◌, Bool, true, List, [], ◌∷◌, ◌++◌, Option, Some}
use Rattle.std.proofs.Common.{None, length, refl, ◌∙◌, sym, arith, suc, inl, inr, get_or, drop}
use Rattle.std.specs.Prelude.{◌==◌, slice_index}
use Rattle.std.specs.List.{list_any}
use Rattle.std.proofs.lemmas.List.{get_or-drop, length-drop}
use Rattle.std.proofs.lemmas.Bool.{cases_eq, eqb-true, or_cases, and_parts}
use Rattle.hop_model.specs.declared.event.HopEvent.{HopEvent}
use Rattle.hop_model.specs.declared.event.HopEvent.TheVariants as event
use Rattle.hop_model.specs.Hop.{HopState, accepted_at, retired_at, arrivals_of, choices_of}
use Rattle.hop_model.specs.Hop.{chosen_at, placed_of, recent, in_hand, next_out, lane_of, arrived}
use Rattle.hop_model.specs.Events.{happens, MayAsk}
use Rattle.hop_model.specs.Sound.{Sound}
use Rattle.hop_core.specs.Order.{IsInOrder, OnlyAt, Tight}
use Rattle.hop_core.specs.Flows.{ArrivesAt, FlowOrdered, FlowAllowed, arrived_by}
use Rattle.steer_base.specs.Drops.{bucket_of, lane_drop_cause}
use Rattle.steer_base.specs.declared.put.DropCause.{DropCause}
use Rattle.hop_core.proofs.Lists.{Changed-set, chosen-push_last, length-push}
use Rattle.hop_core.proofs.Alone.{filter-none}
use Rattle.hop_core.proofs.Puts.{kept_at}
use Rattle.hop_core.proofs.PutSteps.{put_as}
use Rattle.hop_core.proofs.Cases.{Enabled, by_cases}
use Rattle.hop_core.proofs.Order.{Ordered-happens, InOrder-from}

-- Where each unretired packet of producer p that passes the test stands at one lane, a set of such
-- packets is only there.
pub OnlyAt-from_flow : (test set : ℕ → Bool) (p lane : ℕ) (s : HopState) → Sound s
    → ((x : ℕ) → set x ≡ true → test x ≡ true)
    → ((q i : ℕ) → i < length (arrivals_of s q) → set (slice_index (arrivals_of s q) i) ≡ true
    → q ≡ p)
    → ((d j i : ℕ) → retired_at s.bare d ≤ j → j < length (accepted_at s.bare d) → i < placed_of s p
    → (chosen_at (choices_of s p) i).id ≡ slice_index (accepted_at s.bare d) j
    → test (slice_index (accepted_at s.bare d) j) ≡ true → d ≡ lane)
    → OnlyAt set s.bare lane
OnlyAt-from_flow test set p lane s h within mine at d ne =
    filter-none set (drop (retired_at s.bare d) (accepted_at s.bare d)) (λ j jn t.
    let n : ℕ = retired_at s.bare d + j in
    let l = length-drop (retired_at s.bare d) (accepted_at s.bare d) in
    let nl : n < length (accepted_at s.bare d) = omega arith in
    let x : ℕ = slice_index (accepted_at s.bare d) n in
    let tx : set x ≡ true = rw (get_or-drop (retired_at s.bare d) (accepted_at s.bare d) j 0) at
    t in
    let w = h.puts d n nl in
    let a = h.hands.arrived w.0 in let b = h.hands.put w.0 in let c = h.hands.chosen w.0 in
    let lt = w.2 in
    let from : slice_index (arrivals_of s w.0) w.1 ≡ x =
    sym (h.hands.of_arrivals w.0 w.1 (omega arith)) ∙ w.3 in
    let q : w.0 ≡ p = mine w.0 w.1 (omega arith) (rw from tx) in
    ne (at d n w.1 (omega arith) nl (rw q at w.2) (rw q at w.3) (within x tx)))

longer : (s : HopState) (q x : ℕ) → q < length s.arrivals → (r i : ℕ) → i < length (arrivals_of s r)
    → i < length (arrivals_of (arrived s q x) r)
longer s q x in' r i ir =
    let ch = Changed-set s.arrivals q (arrivals_of s q ++ x ∷ []) [] in' in
    elim (cases_eq r q) [
      | inl e ↦ (let f : arrivals_of (arrived s q x) r ≡ arrivals_of s r ++ x ∷ [] = rw e ch.here in
          rw (f, length-push) (omega arith))
      | inr ne ↦ rw (ch.there r ne) ir
    ]

arrives_before : (set : ℕ → Bool) (p q x : ℕ) (s : HopState) → q < length s.arrivals
    → ArrivesAt set p (arrived s q x) → ArrivesAt set p s
arrives_before set p q x s in' h r i ir m =
    let ch = Changed-set s.arrivals q (arrivals_of s q ++ x ∷ []) [] in' in
    let e : slice_index (arrivals_of (arrived s q x) r) i ≡ slice_index (arrivals_of s r) i =
    kept_at (arrivals_of s) (arrivals_of (arrived s q x)) q x
    (record { here = ch.here; there = ch.there }) r i ir in
    h r i (longer s q x in' r i ir) (rw e m)

-- an arrival asks nothing of the machine
pub FlowOrdered-arrive : (test : ℕ → Bool) (p o q x : ℕ) (s : HopState)
    → MayAsk s (event.Arrive q x) → Sound s → FlowOrdered test p o s → FlowOrdered test p o
    (arrived s q x)
FlowOrdered-arrive test p o q x s may h all set within mine =
    let ch = Changed-set s.arrivals q (arrivals_of s q ++ x ∷ []) [] may.producer in
    Ordered-happens set p o s (event.Arrive q x) may
    (λ m. mine q (length (arrivals_of s q)) (rw (ch.here, length-push) (omega arith))
    (rw (ch.here, chosen-push_last (arrivals_of s q) x 0) m))
    h (all set within (arrives_before set p q x s may.producer mine))

-- ---- only an arrival changes what arrived

-- an event that is no arrival
abbrev pub IsQuiet : HopEvent → Type 0
IsQuiet (event.Arrive q x) = ⊥
IsQuiet (event.Take q) = Unit {0}
IsQuiet (event.Enter a) = Unit {0}
IsQuiet (event.Leave a) = Unit {0}
IsQuiet (event.Weigh q class want desired online) = Unit {0}
IsQuiet (event.Put q hash) = Unit {0}
IsQuiet (event.Pull c) = Unit {0}
IsQuiet (event.Deliver c o) = Unit {0}
IsQuiet (event.Retire c) = Unit {0}
IsQuiet (event.Resize q count) = Unit {0}
IsQuiet event.Close = Unit {0}
IsQuiet event.Reopen = Unit {0}

record SameArrivals (s t : HopState) : Type 0 where
  same : t.arrivals ≡ s.arrivals

arrivals-landed : (s : HopState) (p : ℕ) (cause : Option DropCause) (bucket : Option ℕ)
    → SameArrivals s (put_as s p cause bucket)
arrivals-landed s p None bucket = record { same = refl }
arrivals-landed s p (Some cause) bucket = record { same = refl }

quiet-enabled : (s : HopState) (e : HopEvent) → IsQuiet e → Enabled (SameArrivals s) s e
quiet-enabled s (event.Arrive q x) quiet = absurd quiet
quiet-enabled s (event.Take q) quiet = λ _ _. record { same = refl }
quiet-enabled s (event.Enter a) quiet = λ _ _. record { same = refl }
quiet-enabled s (event.Leave a) quiet = λ _ _. record { same = refl }
quiet-enabled s (event.Weigh q class want desired online) quiet = λ _ _. record { same = refl }
quiet-enabled s (event.Pull c) quiet = λ _ _. record { same = refl }
quiet-enabled s (event.Deliver c o) quiet = λ _. record { same = refl }
quiet-enabled s (event.Retire c) quiet = λ _. record { same = refl }
quiet-enabled s (event.Resize q n) quiet = record { same = refl }
quiet-enabled s event.Close quiet = λ _. record { same = refl }
quiet-enabled s event.Reopen quiet = record { same = refl }
quiet-enabled s (event.Put q hash) quiet = λ _ _. arrivals-landed s q
    (lane_drop_cause (lane_of s.fixed s.bare (in_hand s q).choice.lane) hash) (bucket_of hash)

pub arrivals_same : (s : HopState) (e : HopEvent) → IsQuiet e
    → (happens s e).0.arrivals ≡ s.arrivals
arrivals_same s e quiet =
    (by_cases (SameArrivals s) s e (record { same = refl }) (quiet-enabled s e quiet)).same

-- a quiet event, where each set of the flow is tight
quietly : (test : ℕ → Bool) (p o : ℕ) (s : HopState) (e : HopEvent) → IsQuiet e → MayAsk s e
    → Sound s
    → ((set : ℕ → Bool) → ((x : ℕ) → set x ≡ true → test x ≡ true) → ArrivesAt set p s
    → Tight set p o s e)
    → FlowOrdered test p o s → FlowOrdered test p o (happens s e).0
quietly test p o s e quiet may h tight all set within mine =
    let before : ArrivesAt set p s = rw (arrivals_same s e quiet) at mine in
    Ordered-happens set p o s e may (tight set within before) h (all set within before)

-- Any event of any actor keeps the flow of a producer in order.
pub FlowOrdered-happens : (test : ℕ → Bool) (p o : ℕ) (s : HopState) (e : HopEvent) → MayAsk s e
    → Sound s → FlowAllowed test p o s e
    → FlowOrdered test p o s → FlowOrdered test p o (happens s e).0
FlowOrdered-happens test p o s (event.Arrive q x) may h allowed all =
    FlowOrdered-arrive test p o q x s may h all
FlowOrdered-happens test p o s (event.Put q hash) may h allowed all =
    quietly test p o s (event.Put q hash) tt may h (λ set within before more member.
    let own : q ≡ p = (
    let a = h.hands.arrived q in let b = h.hands.chosen q in
    before q (placed_of s q) (omega arith)
    (rw (← h.hands.of_arrivals q (placed_of s q) more) member)) in
    elim (allowed own (rw own at more) (rw own at (within (in_hand s q).id member))) [
      | inl c ↦ inl (c.0, λ i d in' m. c.1 i d in' (within (get_or (recent s p) i d).id m))
      | inr at ↦ inr
          (rw own (OnlyAt-from_flow test set p (in_hand s p).choice.lane s h within before at))
    ]) all
FlowOrdered-happens test p o s (event.Deliver c to) may h allowed all =
    quietly test p o s (event.Deliver c to) tt may h (λ set within before more member. allowed more
    (within (next_out s.bare c) member)) all
FlowOrdered-happens test p o s (event.Take q) may h allowed all =
    quietly test p o s (event.Take q) tt may h (λ _ _ _. tt) all
FlowOrdered-happens test p o s (event.Enter a) may h allowed all =
    quietly test p o s (event.Enter a) tt may h (λ _ _ _. tt) all
FlowOrdered-happens test p o s (event.Leave a) may h allowed all =
    quietly test p o s (event.Leave a) tt may h (λ _ _ _. tt) all
FlowOrdered-happens test p o s (event.Weigh q class want desired online) may h allowed all =
    quietly test p o s (event.Weigh q class want desired online) tt may h (λ _ _ _. tt) all
FlowOrdered-happens test p o s (event.Pull c) may h allowed all =
    quietly test p o s (event.Pull c) tt may h (λ _ _ _. tt) all
FlowOrdered-happens test p o s (event.Retire c) may h allowed all =
    quietly test p o s (event.Retire c) tt may h (λ _ _ _. tt) all
FlowOrdered-happens test p o s (event.Resize q n) may h allowed all =
    quietly test p o s (event.Resize q n) tt may h (λ _ _ _. tt) all
FlowOrdered-happens test p o s event.Close may h allowed all =
    quietly test p o s event.Close tt may h (λ _ _ _. tt) all
FlowOrdered-happens test p o s event.Reopen may h allowed all =
    quietly test p o s event.Reopen tt may h (λ _ _ _. tt) all

-- what the flow's order says of its packets that came by the producer
came-arrived : (xs : List ℕ) (x : ℕ) → list_any (λ y. y == x) xs ≡ true → (i : ℕ) × (i < length xs)
    × (get_or xs i 0 ≡ x)
came-arrived [] x h = absurd cc
came-arrived (y ∷ ys) x h =
    elim (or_cases (y == x) (list_any (λ y. y == x) ys) h) [
      | inl e ↦ (0, omega arith, eqb-true y x e)
      | inr e ↦ (let f = came-arrived ys x e in let lt = f.1 in (suc f.0, omega arith, f.2))
    ]

pub FlowInOrder-from : (test : ℕ → Bool) (p o : ℕ) (s : HopState) → Sound s → FlowOrdered test p o s
    → IsInOrder (arrived_by test p s) p o s
FlowInOrder-from test p o s h all =
    InOrder-from (arrived_by test p s) p o s (all (arrived_by test p s)
    (λ x m. (and_parts (list_any (λ y. y == x) (arrivals_of s p)) (test x) m).1)
    (λ q i iq m.
    let at = came-arrived (arrivals_of s p) (slice_index (arrivals_of s q) i) (and_parts _ _ m).0 in
    (h.once q p i at.0 iq at.1 (sym at.2)).0))
