-- What holds of a state and of the state of an enabled event holds after the event.
use Rattle.std.proofs.Common.{◌+◌, ◌-◌, ◌≤◌, ◌<◌, ◌≡◌, Bool, true, false, not, cond, length, refl}
use Rattle.std.specs.Prelude.{◌==◌, nat_lt, slice_index}
use Rattle.std.proofs.lemmas.Bool.{ltb-true, ltb-false, eqb-true, not-false}
use Rattle.steer_base.specs.Counters.{rounded_up}
use Rattle.steer_base.specs.declared.idle.Idle.{Idle}
use Rattle.steer_base.specs.declared.idle.Idle.TheVariants as idle
use Rattle.backlog.specs.Puts.{put_answer}
use Rattle.hop_model.specs.declared.event.HopEvent.{HopEvent}
use Rattle.hop_model.specs.declared.event.HopEvent.TheVariants as event
use Rattle.hop_model.specs.declared.event.HopAnswer.TheVariants as answer
use Rattle.hop_model.specs.Hop.{HopState, accepted_at, pulled_at, delivered_at, retired_at, out_at}
use Rattle.hop_model.specs.Hop.{arrivals_of, choices_of, taken_of, placed_of, inside_of, in_hand}
use Rattle.hop_model.specs.Hop.{lane_of, pull_at, deliver_at, retire_at, with_closed, arrived, took}
use Rattle.hop_model.specs.Hop.{choice_of, chose, put_one, with_bare, with_visit, resized}
use Rattle.hop_model.specs.Events.{Outcome, happens, idles}

-- what holds on both sides of a test
choose : (Q : Outcome → Type 0) (b : Bool) (x y : Outcome) → (b ≡ true → Q x) → (b ≡ false → Q y)
    → Q (cond b x y)
choose Q true x y f g = f refl
choose Q false x y f g = g refl

-- Q holds of the state and the answer of an event that is not idle
abbrev pub Answered : (Outcome → Type 0) → HopState → HopEvent → Type 0
Answered Q s (event.Arrive p id) = Q (arrived s p id, answer.Done)
Answered Q s (event.Take p) =
    taken_of s p ≤ placed_of s p → taken_of s p < length (arrivals_of s p)
    → Q (took s p, answer.Took (slice_index (arrivals_of s p) (taken_of s p)))
Answered Q s (event.Enter a) =
    (s.bare.closed ≡ true → Q (s, answer.Closed))
    × (inside_of s a ≡ false → s.bare.closed ≡ false → Q (
      with_visit s a true (s.bare.inside + 1),
      answer.Done,
    ))
Answered Q s (event.Leave a) = inside_of s a ≡ true → length (choices_of s a) ≤ placed_of s a
    → Q (with_visit s a false (s.bare.inside - 1), answer.Done)
Answered Q s (event.Weigh p class want desired online) =
    inside_of s p ≡ true → length (choices_of s p) < taken_of s p
    → Q (
      chose s p (choice_of s p class want desired online),
      answer.Chose
          (choice_of s p class want desired online),
    )
Answered Q s (event.Put p hash) =
    inside_of s p ≡ true → placed_of s p < length (choices_of s p)
    → Q (
      put_one s p hash,
      answer.Went
          (put_answer (lane_of s.fixed s.bare (in_hand s p).choice.lane) hash),
    )
Answered Q s (event.Pull c) =
    pulled_at s.bare c ≤ retired_at s.bare c → pulled_at s.bare c < length (accepted_at s.bare c)
    → Q (
      with_bare s (pull_at s.bare c),
      answer.Took (slice_index (accepted_at s.bare c)
          (pulled_at s.bare c)),
    )
Answered Q s (event.Deliver c o) =
    delivered_at s.bare c < pulled_at s.bare c → Q (
      with_bare s (deliver_at s.bare c o),
      answer.Position (length (out_at s.bare o) + 1),
    )
Answered Q s (event.Retire c) = retired_at s.bare c < delivered_at s.bare c
    → Q (with_bare s (retire_at s.bare c), answer.Done)
Answered Q s (event.Resize p count) = Q (resized s p (rounded_up count), answer.Done)
Answered Q s event.Close =
    Q (s, answer.Inside s.bare.inside)
    × (s.bare.inside ≡ 0 → Q (with_bare s (with_closed s.bare true), answer.Done))
Answered Q s event.Reopen = Q (with_bare s (with_closed s.bare false), answer.Done)

-- What holds of the state with every reason to be idle, and of what an enabled event gives, holds
-- of what happens.
pub by_outcomes : (Q : Outcome → Type 0) (s : HopState) (e : HopEvent)
    → ((why : Idle) → Q (idles s why)) → Answered Q s e → Q (happens s e)
by_outcomes Q s (event.Arrive p id) same new = new
by_outcomes Q s (event.Take p) same new =
    let more : Outcome = (took s p, answer.Took (slice_index (arrivals_of s p) (taken_of s p))) in
    choose Q (nat_lt (placed_of s p) (taken_of s p)) (idles s idle.HandFull)
    (cond (nat_lt (taken_of s p) (length (arrivals_of s p))) more (idles s idle.RingEmpty))
    (λ _. same idle.HandFull)
    (λ e. choose Q (nat_lt (taken_of s p) (length (arrivals_of s p))) more (idles s idle.RingEmpty)
    (λ f. new (ltb-false _ _ e) (ltb-true _ _ f)) (λ _. same idle.RingEmpty))
by_outcomes Q s (event.Enter a) same new =
    let in' : Outcome = (with_visit s a true (s.bare.inside + 1), answer.Done) in
    choose Q (inside_of s a) (idles s idle.AlreadyInside)
    (cond s.bare.closed (s, answer.Closed) in') (λ _. same idle.AlreadyInside)
    (λ e. choose Q s.bare.closed (s, answer.Closed) in' (λ f. new.0 f) (λ f. new.1 e f))
by_outcomes Q s (event.Leave a) same new =
    let out' : Outcome = (with_visit s a false (s.bare.inside - 1), answer.Done) in
    choose Q (not (inside_of s a)) (idles s idle.NotInside)
    (cond (nat_lt (placed_of s a) (length (choices_of s a))) (idles s idle.MidPacket) out')
    (λ _. same idle.NotInside)
    (λ e. choose Q (nat_lt (placed_of s a) (length (choices_of s a))) (idles s idle.MidPacket) out'
    (λ _. same idle.MidPacket) (λ f. new (not-false _ e) (ltb-false _ _ f)))
by_outcomes Q s (event.Weigh p class want desired online) same new =
    let more : Outcome = (
      chose s p (choice_of s p class want desired online),
      answer.Chose
          (choice_of s p class want desired online),
    ) in
    choose Q (not (inside_of s p)) (idles s idle.NotInside)
    (cond (nat_lt (length (choices_of s p)) (taken_of s p)) more (idles s idle.WrongStage))
    (λ _. same idle.NotInside)
    (λ e. choose Q (nat_lt (length (choices_of s p)) (taken_of s p)) more (idles s idle.WrongStage)
    (λ f. new (not-false _ e) (ltb-true _ _ f)) (λ _. same idle.WrongStage))
by_outcomes Q s (event.Put p hash) same new =
    let more : Outcome = (
      put_one s p hash,
      answer.Went
          (put_answer (lane_of s.fixed s.bare (in_hand s p).choice.lane) hash),
    ) in
    choose Q (not (inside_of s p)) (idles s idle.NotInside)
    (cond (nat_lt (placed_of s p) (length (choices_of s p))) more (idles s idle.WrongStage))
    (λ _. same idle.NotInside)
    (λ e. choose Q (nat_lt (placed_of s p) (length (choices_of s p))) more (idles s idle.WrongStage)
    (λ f. new (not-false _ e) (ltb-true _ _ f)) (λ _. same idle.WrongStage))
by_outcomes Q s (event.Pull c) same new =
    let more : Outcome = (
      with_bare s (pull_at s.bare c),
      answer.Took (slice_index (accepted_at s.bare c)
          (pulled_at s.bare c)),
    ) in
    choose Q (nat_lt (retired_at s.bare c) (pulled_at s.bare c)) (idles s idle.HandFull)
    (cond (nat_lt (pulled_at s.bare c) (length (accepted_at s.bare c))) more
    (idles s idle.NothingWaiting)) (λ _. same idle.HandFull)
    (λ e. choose Q (nat_lt (pulled_at s.bare c) (length (accepted_at s.bare c))) more
    (idles s idle.NothingWaiting) (λ f. new (ltb-false _ _ e) (ltb-true _ _ f))
    (λ _. same idle.NothingWaiting))
by_outcomes Q s (event.Deliver c o) same new =
    let more : Outcome =
    (with_bare s (deliver_at s.bare c o), answer.Position (length (out_at s.bare o) + 1)) in
    choose Q (nat_lt (delivered_at s.bare c) (pulled_at s.bare c)) more
    (cond (nat_lt (retired_at s.bare c) (delivered_at s.bare c)) (idles s idle.AlreadyDelivered)
    (idles s idle.HandEmpty))
    (λ e. new (ltb-true _ _ e))
    (λ _. choose Q (nat_lt (retired_at s.bare c) (delivered_at s.bare c))
    (idles s idle.AlreadyDelivered) (idles s idle.HandEmpty) (λ _. same idle.AlreadyDelivered)
    (λ _. same idle.HandEmpty))
by_outcomes Q s (event.Retire c) same new =
    let more : Outcome = (with_bare s (retire_at s.bare c), answer.Done) in
    choose Q (nat_lt (retired_at s.bare c) (delivered_at s.bare c)) more
    (cond (nat_lt (delivered_at s.bare c) (pulled_at s.bare c)) (idles s idle.NotDelivered)
    (idles s idle.HandEmpty))
    (λ e. new (ltb-true _ _ e))
    (λ _. choose Q (nat_lt (delivered_at s.bare c) (pulled_at s.bare c)) (idles s idle.NotDelivered)
    (idles s idle.HandEmpty) (λ _. same idle.NotDelivered) (λ _. same idle.HandEmpty))
by_outcomes Q s (event.Resize p count) same new = new
by_outcomes Q s event.Close same new =
    choose Q (s.bare.inside == 0) (with_bare s (with_closed s.bare true), answer.Done)
    (s, answer.Inside s.bare.inside) (λ e. new.1 (eqb-true _ _ e)) (λ _. new.0)
by_outcomes Q s event.Reopen same new = new

-- P holds of the state that an enabled event leaves
abbrev pub Enabled : (HopState → Type 0) → HopState → HopEvent → Type 0
Enabled P s (event.Arrive p id) = P (arrived s p id)
Enabled P s (event.Take p) = taken_of s p ≤ placed_of s p → taken_of s p < length (arrivals_of s p)
    → P (took s p)
Enabled P s (event.Enter a) = inside_of s a ≡ false → s.bare.closed ≡ false
    → P (with_visit s a true (s.bare.inside + 1))
Enabled P s (event.Leave a) = inside_of s a ≡ true → length (choices_of s a) ≤ placed_of s a
    → P (with_visit s a false (s.bare.inside - 1))
Enabled P s (event.Weigh p class want desired online) =
    inside_of s p ≡ true → length (choices_of s p) < taken_of s p
    → P (chose s p (choice_of s p class want desired online))
Enabled P s (event.Put p hash) = inside_of s p ≡ true → placed_of s p < length (choices_of s p)
    → P (put_one s p hash)
Enabled P s (event.Pull c) =
    pulled_at s.bare c ≤ retired_at s.bare c → pulled_at s.bare c < length (accepted_at s.bare c)
    → P (with_bare s (pull_at s.bare c))
Enabled P s (event.Deliver c o) = delivered_at s.bare c < pulled_at s.bare c
    → P (with_bare s (deliver_at s.bare c o))
Enabled P s (event.Retire c) = retired_at s.bare c < delivered_at s.bare c
    → P (with_bare s (retire_at s.bare c))
Enabled P s (event.Resize p count) = P (resized s p (rounded_up count))
Enabled P s event.Close = s.bare.inside ≡ 0 → P (with_bare s (with_closed s.bare true))
Enabled P s event.Reopen = P (with_bare s (with_closed s.bare false))

answered : (P : HopState → Type 0) (s : HopState) (e : HopEvent) → P s → Enabled P s e
    → Answered (λ o. P o.0) s e
answered P s (event.Arrive p id) same new = new
answered P s (event.Take p) same new = new
answered P s (event.Enter a) same new = (λ _. same, new)
answered P s (event.Leave a) same new = new
answered P s (event.Weigh p class want desired online) same new = new
answered P s (event.Put p hash) same new = new
answered P s (event.Pull c) same new = new
answered P s (event.Deliver c o) same new = new
answered P s (event.Retire c) same new = new
answered P s (event.Resize p count) same new = new
answered P s event.Close same new = (same, new)
answered P s event.Reopen same new = new

-- What holds of the state and of what an enabled event leaves holds after what happens.
pub by_cases : (P : HopState → Type 0) (s : HopState) (e : HopEvent) → P s → Enabled P s e
    → P (happens s e).0
by_cases P s e same new = by_outcomes (λ o. P o.0) s e (λ _. same) (answered P s e same new)
