-- The numbers in the lines of a regular history are within the types of the lines' fields.
use Rattle.std.proofs.Common.{ℕ, suc, ◌≤◌, ◌<◌, ◌^◌, ◌≡◌, List, [], ◌∷◌, Option, Some, None, length}
use Rattle.std.proofs.Common.{refl, arith, get_or}
use Rattle.std.specs.List.{All}
use Rattle.std.specs.Option.{option_map, option_or, option_and_then, unwrap_or, IfSome}
use Rattle.std.proofs.lemmas.List.{length-map}
use Rattle.steer_base.specs.Counters.{number}
use Rattle.steer_base.specs.Entries.{place_in}
use Rattle.steer_base.specs.declared.choice.Chosen.{Chosen}
use Rattle.steer_base.specs.declared.packet.Packet.{Packet}
use Rattle.steer_base.specs.declared.put.LaneDrop.{LaneDrop}
use Rattle.steer_base.specs.declared.put.Put.TheVariants.{At}
use Rattle.history.specs.Finding.{found, first_some}
use Rattle.history.specs.Lines.{choice_in, accepted_place, position_of, dropped_as, drop_in, put_of}
use Rattle.history.specs.Lines.{inbox_place_of, first_reply_to, line_of_sent}
use Rattle.history.specs.Lists.{list_at, lane_at, no_lane, no_arrival, drop_ids}
use Rattle.history.specs.Ranges.{FitsIn, ArrivalFits, ChoiceFits, ChosenFits, DropFits, SentFits}
use Rattle.history.specs.Ranges.{HistoryFits, PutFits, ReplyFits, HaveLinesThatFit}
use Rattle.history.specs.Regular.{Regular}
use Rattle.history.specs.declared.arrival.Arrival.{Arrival}
use Rattle.history.specs.declared.history.History.{History}
use Rattle.history.proofs.BoundLemmas.{short-lists}
use Rattle.history.proofs.SamePlaces.{place-bounds, found-all}

-- an option, by what each value of it has
if_some : {A : Type 0} (P : A → Type 0) (o : Option A) → ((a : A) → o ≡ Some a → P a) → IfSome o P
if_some P None h = tt
if_some P (Some a) h = h a refl

map-fits : {A B : Type 0} (f : A → B) (P : A → Type 0) (Q : B → Type 0) (o : Option A) → IfSome o P
    → ((a : A) → P a → Q (f a)) → IfSome (option_map f o) Q
map-fits f P Q None h g = tt
map-fits f P Q (Some a) h g = g a h

or-fits : {A : Type 0} (P : A → Type 0) (o p : Option A) → IfSome o P → IfSome p P
    → IfSome (option_or o p) P
or-fits P None p a b = b
or-fits P (Some x) p a b = a

found-fits : {A : Type 0} (P : A → Type 0) (key : A → ℕ) (x : ℕ) (xs : List A) → All P xs
    → IfSome (found key x xs) P
found-fits P key x xs h = if_some P (found key x xs) (λ a e. found-all P key x xs a h e)

first_some-fits : {A B : Type 0} (look : A → Option B) (d : A) (P : B → Type 0) (xs : List A)
    → ((i : ℕ) → i < length xs → IfSome (look (get_or xs i d)) P) → IfSome (first_some look xs) P
first_some-fits look d P [] h = tt
first_some-fits look d P (x ∷ xs) h =
    or-fits P (look x) (first_some look xs) (h 0 (omega arith)) (first_some-fits look d P xs
    (λ i l. h (suc i) (omega (arith, l))))

-- the queue of an arrival
queue-fits : (o : Option Arrival) → IfSome o ArrivalFits → (unwrap_or o no_arrival).queue < 2 ^ 8
queue-fits None h = omega arith
queue-fits (Some a) h = h.queue

choice_in-fits : (x : ℕ) (choices : List Chosen) → All ChosenFits choices
    → IfSome (choice_in x choices) ChoiceFits
choice_in-fits x choices h =
    map-fits (λ c. c.choice) ChosenFits ChoiceFits (found (λ c. c.id) x choices)
    (found-fits ChosenFits (λ c. c.id) x choices h) (λ c f. f.choice)

choices-fit : (x : ℕ) (choices : List (List Chosen)) → All (All ChosenFits) choices
    → IfSome (first_some (choice_in x) choices) ChoiceFits
choices-fit x choices h = first_some-fits (choice_in x) [] ChoiceFits choices
    (λ i l. choice_in-fits x (list_at choices i) (h i [] l))

-- a counter number
position-fits : (start : ℕ) (o : Option ℕ) → FitsIn 32 (option_map (number start) o)
position-fits start None = tt
position-fits start (Some n) = omega arith

-- a drop, whose number is at most the number of drops
fall-fits : (o : Option LaneDrop) (p : Option ℕ) → IfSome o DropFits → FitsIn 32 p
    → IfSome (option_and_then (λ d. option_map (dropped_as d) p) o) PutFits
fall-fits None p a b = tt
fall-fits (Some d) None a b = tt
fall-fits (Some d) (Some n) a b = (b, a.accepted, a.pulled, a.cause)

place-fits : (x : ℕ) (xs : List ℕ) → length xs < 2 ^ 32 → FitsIn 32 (place_in x xs)
place-fits x xs few = if_some (λ n. n < 2 ^ 32) (place_in x xs) (λ n e.
    let b = (place-bounds x xs n e).1 in omega (arith, b, few))

drops-fit : (packets : List Packet) (apps : ℕ) (h : History) → length packets ≤ 262144
    → Regular packets apps h → HistoryFits h
    → (x : ℕ) → IfSome (first_some (drop_in x) h.lanes) PutFits
drops-fit packets apps h small r f x = first_some-fits (drop_in x) no_lane PutFits h.lanes (λ c l.
    let lane = lane_at h.lanes c in
    fall-fits (found (λ d. d.id) x lane.drops) (place_in x (drop_ids lane))
    (found-fits DropFits (λ d. d.id) x lane.drops (f.lanes c no_lane l).drops)
    (place-fits x (drop_ids lane) (omega (
      arith,
      (short-lists packets apps h r small).dropped c,
      length-map lane.drops (λ d. d.id),
    ))))

put-fits : (packets : List Packet) (apps : ℕ) (h : History) → length packets ≤ 262144
    → Regular packets apps h → HistoryFits h
    → (x : ℕ) → IfSome (put_of h x) PutFits
put-fits packets apps h small r f x =
    or-fits PutFits (option_map (λ n. At n) (position_of h x)) (first_some (drop_in x) h.lanes)
    (map-fits (λ n. At n) (λ n. n < 2 ^ 32) PutFits (position_of h x)
    (position-fits h.start (accepted_place h.lanes x)) (λ n l. l))
    (drops-fit packets apps h small r f x)

inbox-fits : (packets : List Packet) (apps : ℕ) (h : History) → length packets ≤ 262144
    → Regular packets apps h → (x : ℕ) → FitsIn 32 (inbox_place_of h x)
inbox-fits packets apps h small r x =
    first_some-fits (place_in x) [] (λ n. n < 2 ^ 32) h.inboxes
    (λ a l. place-fits x (list_at h.inboxes a) ((short-lists packets apps h r small).inboxes a))

sent-fits : (h : History) → HistoryFits h → (x : ℕ) → IfSome (first_reply_to h x) SentFits
sent-fits h f x = first_some-fits (found (λ s. s.id) x) [] SentFits h.sent
    (λ a l. found-fits SentFits (λ s. s.id) x (list_at h.sent a) (f.sent a [] l))

pub lines_fit : HaveLinesThatFit
lines_fit packets apps h small r f x = (
  record {
    queue = queue-fits (found (λ a. a.id) x h.arrivals)
        (found-fits ArrivalFits (λ a. a.id) x h.arrivals f.arrivals);
    choice = choices-fit x h.choices f.choices;
    put = put-fits packets apps h small r f x;
    inbox = inbox-fits packets apps h small r x;
  },
  map-fits (line_of_sent packets apps h x) SentFits ReplyFits (first_reply_to h x) (sent-fits h f x)
      (λ s g. record {
        rxq = g.rxq;
        cpu = g.cpu;
        choice = choices-fit x h.tx_choices f.tx_choices;
        put = position-fits h.start (accepted_place h.tx_lanes x);
        port = place-fits x h.port (short-lists packets apps h r small).port;
      }),
)
