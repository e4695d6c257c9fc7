-- The events of a hop, each the step of one actor: the first reason for which it is idle, else what
-- it does and answers.
use Rattle.std.specs.Prelude.{ℕ, ◌+◌, ◌-◌, ◌<◌, ◌≤◌, ◌≡◌, ◌≢◌, true, false, not, ◌==◌, nat_lt, List}
use Rattle.std.specs.Prelude.{[], ◌∷◌, Option, Some, None, length, slice_index, if◌then◌else◌}
use Rattle.steer_base.specs.Counters.{rounded_up}
use Rattle.steer_base.specs.Sets.{has}
use Rattle.steer_base.specs.declared.cpu_mask.CpuMask.{CpuMask}
use Rattle.steer_base.specs.declared.idle.Idle.{Idle}
use Rattle.steer_base.specs.declared.idle.Idle.TheVariants as idle
use Rattle.steer_base.specs.declared.limits.TheConstants.{MAX_FLOW_COUNT}
use Rattle.backlog.specs.Puts.{put_answer}
use Rattle.hop_model.specs.declared.event.HopEvent.{HopEvent}
use Rattle.hop_model.specs.declared.event.HopEvent.TheVariants as event
use Rattle.hop_model.specs.declared.event.HopAnswer.{HopAnswer}
use Rattle.hop_model.specs.declared.event.HopAnswer.TheVariants as answer
use Rattle.hop_model.specs.Hop.{Bare, HopState, accepted_at, pulled_at, delivered_at, retired_at}
use Rattle.hop_model.specs.Hop.{out_at, arrivals_of, choices_of, taken_of, placed_of, inside_of}
use Rattle.hop_model.specs.Hop.{in_hand, lane_of, pull_at, deliver_at, retire_at, with_closed}
use Rattle.hop_model.specs.Hop.{arrived, took, choice_of, chose, put_one, with_bare, with_visit}
use Rattle.hop_model.specs.Hop.{resized}

-- the result of an event: the state after it, and its answer
abbrev pub Outcome : Type 0
Outcome = HopState × HopAnswer

-- the outcome of an event that is idle for this reason
abbrev pub idles : HopState → Idle → Outcome
idles s why = (s, answer.Idle why)

-- A producer with an empty hand takes the first packet that arrived and was not taken yet.
abbrev pub take : HopState → ℕ → Outcome
take s p =
    if nat_lt (placed_of s p) (taken_of s p) then idles s idle.HandFull else
    if nat_lt (taken_of s p) (length (arrivals_of s p))
    then (took s p, answer.Took (slice_index (arrivals_of s p) (taken_of s p))) else
    idles s idle.RingEmpty

-- An actor outside goes through the gate if it is open.
abbrev pub enter : HopState → ℕ → Outcome
enter s a =
    if inside_of s a then idles s idle.AlreadyInside else
    if s.bare.closed then (s, answer.Closed) else
    (with_visit s a true (s.bare.inside + 1), answer.Done)

-- An actor inside leaves, but not between its choice and its put.
abbrev pub leave : HopState → ℕ → Outcome
leave s a =
    if not (inside_of s a) then idles s idle.NotInside else
    if nat_lt (placed_of s a) (length (choices_of s a)) then idles s idle.MidPacket else
    (with_visit s a false (s.bare.inside - 1), answer.Done)

-- The lane of the packet in hand is chosen by the migration rule.
abbrev pub weigh : HopState → ℕ → Option ℕ → Option ℕ → ℕ → CpuMask → Outcome
weigh s p class want desired online =
    if not (inside_of s p) then idles s idle.NotInside else
    if nat_lt (length (choices_of s p)) (taken_of s p)
    then (
      chose s p (choice_of s p class want desired online),
      answer.Chose (choice_of s p class want desired online),
    )
    else idles s idle.WrongStage

-- The packet in hand is offered to the chosen lane.
abbrev pub put : HopState → ℕ → Option ℕ → Outcome
put s p hash =
    if not (inside_of s p) then idles s idle.NotInside else
    if nat_lt (placed_of s p) (length (choices_of s p))
    then (
      put_one s p hash,
      answer.Went (put_answer (lane_of s.fixed s.bare (in_hand s p).choice.lane) hash),
    )
    else idles s idle.WrongStage

-- A lane with an empty hand pulls the oldest packet that waits.
abbrev pub pull : HopState → ℕ → Outcome
pull s c =
    if nat_lt (retired_at s.bare c) (pulled_at s.bare c) then idles s idle.HandFull else
    if nat_lt (pulled_at s.bare c) (length (accepted_at s.bare c))
    then (
      with_bare s (pull_at s.bare c),
      answer.Took (slice_index (accepted_at s.bare c) (pulled_at s.bare c)),
    )
    else idles s idle.NothingWaiting

-- The packet in a lane's hand goes to an out lane; the answer is its place there, from 1.
abbrev pub deliver : HopState → ℕ → ℕ → Outcome
deliver s c o =
    if nat_lt (delivered_at s.bare c) (pulled_at s.bare c)
    then (with_bare s (deliver_at s.bare c o), answer.Position (length (out_at s.bare o) + 1)) else
    if nat_lt (retired_at s.bare c) (delivered_at s.bare c) then idles s idle.AlreadyDelivered else
    idles s idle.HandEmpty

-- The head of a lane rises past the packet that was delivered.
abbrev pub retire : HopState → ℕ → Outcome
retire s c =
    if nat_lt (retired_at s.bare c) (delivered_at s.bare c)
    then (with_bare s (retire_at s.bare c), answer.Done) else
    if nat_lt (delivered_at s.bare c) (pulled_at s.bare c) then idles s idle.NotDelivered else
    idles s idle.HandEmpty

-- The gate closes if nobody is inside.
abbrev pub close : HopState → Outcome
close s =
    if s.bare.inside == 0 then (with_bare s (with_closed s.bare true), answer.Done)
    else (s, answer.Inside s.bare.inside)

-- the outcome of an event in a state: the step of a hop
abbrev pub happens : HopState → HopEvent → Outcome
happens s (event.Arrive p id) = (arrived s p id, answer.Done)
happens s (event.Take p) = take s p
happens s (event.Enter a) = enter s a
happens s (event.Leave a) = leave s a
happens s (event.Weigh p class want desired online) = weigh s p class want desired online
happens s (event.Put p hash) = put s p hash
happens s (event.Pull c) = pull s c
happens s (event.Deliver c o) = deliver s c o
happens s (event.Retire c) = retire s c
happens s (event.Resize p count) = (resized s p (rounded_up count), answer.Done)
happens s event.Close = close s
happens s event.Reopen = (with_bare s (with_closed s.bare false), answer.Done)

-- ---- what may be asked in a state

-- A lane's head is its tail: all that it accepted is retired.
abbrev pub IsEmptied : Bare → ℕ → Type 0
IsEmptied b c = retired_at b c ≡ length (accepted_at b c)

-- The class, if there is one, is one of the producer's.
abbrev pub IsClassBelow : ℕ → Option ℕ → Type 0
IsClassBelow count None = Unit {0}
IsClassBelow count (Some class) = class < count

-- A packet may arrive once, at one producer, and is a number below the room.
pub record MayArrive (s : HopState) (p id : ℕ) : Type 0 where
  pub producer : p < length s.arrivals
  pub below : id < s.fixed.room
  pub fresh : (q i : ℕ) → i < length (arrivals_of s q) → slice_index (arrivals_of s q) i ≢ id

-- A weigh may name a class of the producer and an online lane as the desired one, if no offline
-- lane has a packet that waits or is in hand.
pub record MayWeigh (s : HopState) (p : ℕ) (class : Option ℕ) (desired : ℕ) (online : CpuMask)
    : Type 0 where
  pub producer : p < length s.arrivals
  pub lane : desired < length s.bare.accepted
  pub in_range : IsClassBelow (slice_index s.counts p) class
  pub is_online : has online desired ≡ true
  pub drained : (c : ℕ) → c < length s.bare.accepted → has online c ≡ false → IsEmptied s.bare c

-- A delivery may name a lane and an out lane that exist.
pub record MayDeliver (s : HopState) (c o : ℕ) : Type 0 where
  pub lane : c < length s.bare.accepted
  pub out : o < length s.bare.outs

-- The number of classes may change behind a closed gate with all lanes empty, unless it is exact.
pub record MayResize (s : HopState) (p count : ℕ) : Type 0 where
  pub producer : p < length s.arrivals
  pub within : count ≤ MAX_FLOW_COUNT
  pub rounded : s.fixed.exact ≡ false
  pub closed : s.bare.closed ≡ true
  pub drained : (c : ℕ) → c < length s.bare.accepted → IsEmptied s.bare c

-- The precondition of each event: it names actors and lanes that exist; only an open gate closes,
-- and only a closed one opens.
abbrev pub MayAsk : HopState → HopEvent → Type 0
MayAsk s (event.Arrive p id) = MayArrive s p id
MayAsk s (event.Take p) = p < length s.arrivals
MayAsk s (event.Enter a) = a < length s.visits
MayAsk s (event.Leave a) = a < length s.visits
MayAsk s (event.Weigh p class want desired online) = MayWeigh s p class desired online
MayAsk s (event.Put p hash) = p < length s.arrivals
MayAsk s (event.Pull c) = c < length s.bare.accepted
MayAsk s (event.Deliver c o) = MayDeliver s c o
MayAsk s (event.Retire c) = c < length s.bare.accepted
MayAsk s (event.Resize p count) = MayResize s p count
MayAsk s event.Close = s.bare.closed ≡ false
MayAsk s event.Reopen = s.bare.closed ≡ true

-- ---- lists of events

-- the state after a list of events
abbrev pub run : List HopEvent → HopState → HopState
run [] s = s
run (e ∷ es) s = run es (happens s e).0

-- Each event of a list may be asked in the state that it finds.
abbrev pub AllMayAsk : List HopEvent → HopState → Type 0
AllMayAsk [] s = Unit {0}
AllMayAsk (e ∷ es) s = MayAsk s e × AllMayAsk es (happens s e).0
