-- The state of a hop as lists: producers with a hand, middle lanes with a hand and a head each, out
-- lanes, and a gate (kernel scaling chapter, sections RPS, RFS and XPS: receive queues, backlogs
-- and sockets, or sockets and transmit queues).
use Rattle.std.specs.Prelude.{ℕ, ◌+◌, Bool, false, List, [], ◌∷◌, ◌++◌, Option, Some, None, length}
use Rattle.std.specs.Prelude.{drop, slice_index, slice_index_or, slice_set, map}
use Rattle.steer_base.specs.Choices.{migrate}
use Rattle.steer_base.specs.Counters.{number}
use Rattle.steer_base.specs.Drops.{bucket_of, lane_drop_cause}
use Rattle.steer_base.specs.Entries.{entry}
use Rattle.steer_base.specs.Lanes.{LaneLists}
use Rattle.steer_base.specs.Sets.{has}
use Rattle.steer_base.specs.declared.choice.Choice.{Choice}
use Rattle.steer_base.specs.declared.choice.Chosen.{Chosen}
use Rattle.steer_base.specs.declared.choice.Why.TheVariants.{Plain}
use Rattle.steer_base.specs.declared.cpu_mask.CpuMask.{CpuMask}
use Rattle.steer_base.specs.declared.put.DropCause.{DropCause}
use Rattle.steer_base.specs.declared.put.LaneDrop.{LaneDrop}

-- What never changes in a hop: the limit of waiting packets in a lane, the bound of packet numbers,
-- the first counter number, whether the numbers of classes are exact, and the lanes with the flow
-- limit.
pub record Fixed : Type 0 where
  pub limit : ℕ
  pub room : ℕ
  pub start : ℕ
  pub exact : Bool
  pub limited : CpuMask

-- The bare part of a hop's state: its lanes, its out lanes and its gate, without the producers.
pub record Bare : Type 0 where
  pub accepted : List (List ℕ)  -- of each lane, the packets that it accepted
  pub offers : List (List (Option ℕ))  -- of each lane, the bucket of each packet that was put to it
  pub drops : List (List LaneDrop)  -- of each lane, the packets that it dropped
  pub pulled : List ℕ  -- of each lane, how many packets were pulled
  pub delivered : List ℕ  -- of each lane, how many packets were delivered
  pub retired : List ℕ  -- of each lane, how many packets were retired
  pub outs : List (List ℕ)  -- of each out lane, the packets delivered to it
  pub inside : ℕ  -- how many actors are inside the gate
  pub closed : Bool

-- The state of a hop: its fixed part, its bare part, and its producers.
pub record HopState : Type 0 where
  pub fixed : Fixed
  pub bare : Bare
  pub counts : List ℕ  -- of each producer, its number of classes
  pub arrivals : List (List ℕ)  -- of each producer, the packets that arrived
  pub taken : List ℕ  -- of each producer, how many of these it took
  pub choices : List (List Chosen)  -- of each producer, the choices for the first of these
  pub placed : List ℕ  -- of each producer, how many choices were put
  pub since : List ℕ  -- of each producer, how many choices there were at the last resize
  pub visits : List Bool  -- of each producer and then each guest, whether it is inside

-- ---- each list at a number, with nothing beyond the end

-- the packets that a lane accepted
abbrev pub accepted_at : Bare → ℕ → List ℕ
accepted_at b c = slice_index_or b.accepted c []

-- the bucket of each packet that was put to a lane
abbrev pub offers_at : Bare → ℕ → List (Option ℕ)
offers_at b c = slice_index_or b.offers c []

-- the drops of a lane
abbrev pub drops_at : Bare → ℕ → List LaneDrop
drops_at b c = slice_index_or b.drops c []

-- the packets that a lane dropped
abbrev pub fell_at : Bare → ℕ → List ℕ
fell_at b c = map (λ d. d.id) (drops_at b c)

-- how many packets of a lane were pulled
abbrev pub pulled_at : Bare → ℕ → ℕ
pulled_at b c = slice_index b.pulled c

-- how many packets of a lane were delivered
abbrev pub delivered_at : Bare → ℕ → ℕ
delivered_at b c = slice_index b.delivered c

-- how many packets of a lane were retired
abbrev pub retired_at : Bare → ℕ → ℕ
retired_at b c = slice_index b.retired c

-- the packets that were delivered to an out lane
abbrev pub out_at : Bare → ℕ → List ℕ
out_at b o = slice_index_or b.outs o []

-- the packets that arrived at a producer
abbrev pub arrivals_of : HopState → ℕ → List ℕ
arrivals_of s p = slice_index_or s.arrivals p []

-- the choices of a producer
abbrev pub choices_of : HopState → ℕ → List Chosen
choices_of s p = slice_index_or s.choices p []

-- how many packets a producer has taken
abbrev pub taken_of : HopState → ℕ → ℕ
taken_of s p = slice_index s.taken p

-- how many choices of a producer were put
abbrev pub placed_of : HopState → ℕ → ℕ
placed_of s p = slice_index s.placed p

-- how many choices a producer had made at its last resize
abbrev pub since_of : HopState → ℕ → ℕ
since_of s p = slice_index s.since p

-- whether an actor is inside the gate
abbrev pub inside_of : HopState → ℕ → Bool
inside_of s a = slice_index_or s.visits a false

-- the placeholder for a choice that a list does not have
abbrev pub nobody : Chosen
nobody =
    record {
      id = 0;
      choice = record {
        class = None;
        want = None;
        head = None;
        tail = None;
        lane = 0;
        why = Plain;
      };
    }

-- the choice at an index of a list
abbrev pub chosen_at : List Chosen → ℕ → Chosen
chosen_at cs i = slice_index_or cs i nobody

-- the choice of a producer that was made and not put yet
abbrev pub in_hand : HopState → ℕ → Chosen
in_hand s p = chosen_at (choices_of s p) (placed_of s p)

-- the packet that a producer weighs next
abbrev pub next_of : HopState → ℕ → ℕ
next_of s p = slice_index (arrivals_of s p) (length (choices_of s p))

-- the choices of a producer since its last resize
abbrev pub recent : HopState → ℕ → List Chosen
recent s p = drop (since_of s p) (choices_of s p)

-- the packet that a lane delivers next
abbrev pub next_out : Bare → ℕ → ℕ
next_out b c = slice_index (accepted_at b c) (delivered_at b c)

-- the counter number of a lane's head
abbrev pub head_at : ℕ → Bare → ℕ → ℕ
head_at start b c = number start (retired_at b c)

-- the counter number of a lane's tail
abbrev pub tail_at : ℕ → Bare → ℕ → ℕ
tail_at start b c = number start (length (accepted_at b c))

-- a lane with its limits, as its own crate sees it
abbrev pub lane_of : Fixed → Bare → ℕ → LaneLists
lane_of f b c =
    record {
      accepted = accepted_at b c;
      offers = offers_at b c;
      drops = drops_at b c;
      pulled = pulled_at b c;
      limit = f.limit;
      room = f.room;
      start = f.start;
      limited = has f.limited c;
    }

-- ---- what the events do to the bare part

-- the drop of a packet by a lane, with its cause and the counts of that moment
abbrev pub dropped : Bare → ℕ → ℕ → DropCause → LaneDrop
dropped b c x cause =
    record { id = x; accepted = length (accepted_at b c); pulled = pulled_at b c; cause = cause }

-- the bare part after a lane dropped a packet for a cause, or accepted it if there is none; either
-- is an offer
abbrev pub landed : Option DropCause → Bare → ℕ → ℕ → Option ℕ → Bare
landed None b c x bucket =
    record b {
      accepted = slice_set b.accepted c (accepted_at b c ++ x ∷ []);
      offers = slice_set b.offers c (offers_at b c ++ bucket ∷ []);
    }
landed (Some cause) b c x bucket =
    record b {
      drops = slice_set b.drops c (drops_at b c ++ dropped b c x cause ∷ []);
      offers = slice_set b.offers c (offers_at b c ++ bucket ∷ []);
    }

-- the bare part after a packet was put to a lane
abbrev pub put_at : Fixed → Bare → ℕ → ℕ → Option ℕ → Bare
put_at f b c x hash = landed (lane_drop_cause (lane_of f b c) hash) b c x (bucket_of hash)

-- the bare part after a lane pulled a packet
abbrev pub pull_at : Bare → ℕ → Bare
pull_at b c = record b { pulled = slice_set b.pulled c (pulled_at b c + 1) }

-- the bare part after a lane delivered a packet to an out lane
abbrev pub deliver_at : Bare → ℕ → ℕ → Bare
deliver_at b c o =
    record b {
      delivered = slice_set b.delivered c (delivered_at b c + 1);
      outs = slice_set b.outs o (out_at b o ++ next_out b c ∷ []);
    }

-- the bare part after a lane's head rose by one
abbrev pub retire_at : Bare → ℕ → Bare
retire_at b c = record b { retired = slice_set b.retired c (retired_at b c + 1) }

-- the bare part with another number of actors inside the gate
abbrev pub with_inside : Bare → ℕ → Bare
with_inside b n = record b { inside = n }

-- the bare part with the gate closed or open
abbrev pub with_closed : Bare → Bool → Bare
with_closed b c = record b { closed = c }

-- ---- what the events do to the whole state, where they are enabled

-- the state after a packet arrived at a producer
abbrev pub arrived : HopState → ℕ → ℕ → HopState
arrived s p x = record s { arrivals = slice_set s.arrivals p (arrivals_of s p ++ x ∷ []) }

-- the state after a producer took a packet
abbrev pub took : HopState → ℕ → HopState
took s p = record s { taken = slice_set s.taken p (taken_of s p + 1) }

-- the choice by the migration rule over the entries of the classes and the heads of the lanes
abbrev pub choice_of : HopState → ℕ → Option ℕ → Option ℕ → ℕ → CpuMask → Choice
choice_of s p class want desired online =
    migrate class want desired (entry s.fixed.start (accepted_at s.bare) (recent s p))
    (head_at s.fixed.start s.bare) (has online)

-- the state after a producer made a choice
abbrev pub chose : HopState → ℕ → Choice → HopState
chose s p c =
    record s {
      choices = slice_set s.choices p
          (choices_of s p ++ record { id = next_of s p; choice = c } ∷ []);
    }

-- the state after a producer put its packet in hand
abbrev pub put_one : HopState → ℕ → Option ℕ → HopState
put_one s p hash =
    record s {
      bare = put_at s.fixed s.bare (in_hand s p).choice.lane (in_hand s p).id hash;
      placed = slice_set s.placed p (placed_of s p + 1);
    }

-- the state with another bare part
abbrev pub with_bare : HopState → Bare → HopState
with_bare s b = record s { bare = b }

-- the state after an actor went in or out
abbrev pub with_visit : HopState → ℕ → Bool → ℕ → HopState
with_visit s a here inside =
    record s { bare = with_inside s.bare inside; visits = slice_set s.visits a here }

-- the state after a producer's number of classes changed
abbrev pub resized : HopState → ℕ → ℕ → HopState
resized s p count =
    record s {
      since = slice_set s.since p (length (choices_of s p));
      counts = slice_set s.counts p count;
    }
