-- How much was done in a hop: the packets that arrived, and how many of them were taken up,
-- weighed, put, pulled, delivered and retired.
use Rattle.std.specs.Prelude.{ℕ, ◌+◌, ◌*◌, ◌≤◌, ◌≡◌, ◌⊎◌, Bool, true, false, List, [], ◌∷◌, length}
use Rattle.steer_base.specs.declared.idle.Idle.{Idle}
use Rattle.hop_model.specs.declared.event.HopEvent.{HopEvent}
use Rattle.hop_model.specs.declared.event.HopEvent.TheVariants as event
use Rattle.hop_model.specs.declared.event.HopAnswer.TheVariants as answer
use Rattle.hop_model.specs.Hop.{HopState}
use Rattle.hop_model.specs.Events.{happens, MayAsk}
use Rattle.hop_model.specs.Sound.{Sound}

-- how many members a list of lists has together
unfoldable pub total : {X : Type 0} → List (List X) → ℕ
total [] = 0
total (list ∷ lists) = length list + total lists

-- the sum of a list of numbers
unfoldable pub sum_of : List ℕ → ℕ
sum_of [] = 0
sum_of (n ∷ ns) = n + sum_of ns

-- how much work was done in a hop: the packets that arrived, and each step that took one of them on
abbrev pub work : HopState → ℕ
work s =
    total s.arrivals + sum_of s.taken + total s.choices + sum_of s.placed
    + sum_of s.bare.pulled + sum_of s.bare.delivered + sum_of s.bare.retired

-- whether an event takes a packet on
abbrev pub event_is_work : HopEvent → Bool
event_is_work (event.Arrive p id) = true
event_is_work (event.Take p) = true
event_is_work (event.Enter a) = false
event_is_work (event.Leave a) = false
event_is_work (event.Weigh p class want desired online) = true
event_is_work (event.Put p hash) = true
event_is_work (event.Pull c) = true
event_is_work (event.Deliver c to) = true
event_is_work (event.Retire c) = true
event_is_work (event.Resize p count) = false
event_is_work event.Close = false
event_is_work event.Reopen = false

-- The event was idle, and the state is as it was.
abbrev pub WasIdle : HopState → HopEvent → Type 0
WasIdle s e = (why : Idle) × ((happens s e).1 ≡ answer.Idle why) × ((happens s e).0 ≡ s)

-- An event that takes a packet on adds one to the work, or is idle.
abbrev pub WorkGoesOn : Type 0
WorkGoesOn =
    (s : HopState) (e : HopEvent) → MayAsk s e → Sound s → event_is_work e ≡ true
    → (work (happens s e).0 ≡ work s + 1) ⊎ WasIdle s e

-- No other event changes the work.
abbrev pub WorkStays : Type 0
WorkStays = (s : HopState) (e : HopEvent) → event_is_work e ≡ false → work (happens s e).0 ≡ work s

-- There are at most seven steps of work for each packet.
abbrev pub WorkIsBounded : Type 0
WorkIsBounded = (s : HopState) → Sound s → work s ≤ 7 * s.fixed.room
