-- The test of a history, item by item. It passes if and only if the history is regular.
use Rattle.std.specs.Prelude.{ℕ, ◌+◌, Bool, true, false, ◌==◌, ◌&&◌, not, List, [], ◌∷◌, Option}
use Rattle.std.specs.Prelude.{Some, None, is_some, length, map, nat_lt, nat_le, slice_index}
use Rattle.std.specs.List.{list_all, enumerate_from, range_with_len}
use Rattle.std.specs.Option.{option_map}
use Rattle.steer_base.specs.Entries.{place_in}
use Rattle.steer_base.specs.declared.choice.Chosen.{Chosen}
use Rattle.steer_base.specs.declared.packet.Packet.{Packet}
use Rattle.steer_base.specs.declared.put.Put.{Put}
use Rattle.steer_base.specs.declared.put.Put.TheVariants.{At, Dropped}
use Rattle.history.specs.Finding.{first_some}
use Rattle.history.specs.Lines.{accepted_place, choice_of, drop_in, inbox_place_of, tx_choice_of}
use Rattle.history.specs.Lists.{packet_at, app_at, list_at, arrival_of, arrivals_at}
use Rattle.history.specs.Regular.{has_text}
use Rattle.history.specs.declared.history.History.{History}
use Rattle.history.specs.declared.lane_list.LaneList.{LaneList}
use Rattle.history.specs.declared.sent.Sent.{Sent}

-- whether each item of a list passes a test, given its index
abbrev pub each : {A : Type 0} → (ℕ → A → Bool) → List A → Bool
each test xs = list_all (λ p. test p.0 p.1) (enumerate_from 0 xs)

-- whether an optional number is this one
abbrev pub is_number : Option ℕ → ℕ → Bool
is_number None n = false
is_number (Some k) n = k == n

-- whether an optional place, counted from 1, is that of an index
abbrev pub is_place : Option ℕ → ℕ → Bool
is_place None i = false
is_place (Some n) i = n == i + 1

-- whether a list begins with another
abbrev pub begins : List ℕ → List ℕ → Bool
begins [] ys = true
begins (x ∷ xs) [] = false
begins (x ∷ xs) (y ∷ ys) = (x == y) && begins xs ys

-- whether a packet arrived, in a history whose arrivals are numbered
abbrev pub is_arrived : History → ℕ → Bool
is_arrived h x = nat_lt x (length h.arrivals)

-- whether the lists are as many as they must be, and the arrivals are numbered and of the capture
abbrev pub has_shape : List Packet → ℕ → History → Bool
has_shape packets apps h =
    (length h.choices == length h.taken) && (length h.inboxes == apps) && (length h.sent == apps)
    && (length h.tx_choices == apps)
    && (length h.writes == apps) && nat_le (length h.arrivals) (length packets)
    && each (λ i a. a.id == i) h.arrivals

-- whether no list of packets of some lanes is longer than the list of arrivals
abbrev pub has_short_lanes : ℕ → List LaneList → Bool
has_short_lanes n =
    list_all (λ lane. nat_le (length lane.accepted) n && nat_le (length lane.drops) n)

-- no list of packets is longer than the list of arrivals
abbrev pub has_short_lists : History → Bool
has_short_lists h =
    let n = length h.arrivals in
    has_short_lanes n h.lanes && has_short_lanes n h.tx_lanes
    && list_all (λ inbox. nat_le (length inbox) n) h.inboxes && nat_le (length h.port) n

-- whether no more packets were taken from a queue than arrived, and its choices are for its first
-- arrivals and no more than were taken
abbrev pub is_polled : History → ℕ → Bool
is_polled h q =
    nat_le (slice_index h.taken q) (length (arrivals_at h.arrivals q))
    && nat_le (length (list_at h.choices q)) (slice_index h.taken q)
    && begins (map (λ c. c.id) (list_at h.choices q)) (arrivals_at h.arrivals q)

-- each receive queue passes the test of its poller
abbrev pub are_polled : History → Bool
are_polled h = list_all (is_polled h) (range_with_len 0 (length h.taken))

-- the number of a drop
abbrev pub drop_number : Put → ℕ
drop_number (At position) = 0
drop_number (Dropped number accepted pulled cause) = number

-- the test of packet x at index i of the packets that processor c accepted: its choice is this
-- processor, this is its first place, and no processor dropped it
abbrev pub is_accepted : History → (cpu index packet : ℕ) → Bool
is_accepted h c i x =
    is_arrived h x && is_number (option_map (λ d. d.lane) (choice_of h x)) c
    && is_place (accepted_place h.lanes x) i
    && not (is_some (first_some (drop_in x) h.lanes))

-- the test of packet x at index i of the packets that processor c dropped
abbrev pub is_fallen : History → (cpu index packet : ℕ) → Bool
is_fallen h c i x =
    is_arrived h x && is_number (option_map (λ d. d.lane) (choice_of h x)) c
    && is_place (option_map drop_number (first_some (drop_in x) h.lanes)) i

-- each packet that a processor accepted or dropped passes its test
abbrev pub are_steered : History → Bool
are_steered h =
    each
    (λ c lane.
    each (is_accepted h c) lane.accepted && each (λ i d. is_fallen h c i d.id) lane.drops)
    h.lanes

-- the test of packet x at index i of the inbox of application a: this is its first place, it is of
-- this application, and some processor accepted it
abbrev pub is_delivered : List Packet → (apps : ℕ) → History → (app index packet : ℕ) → Bool
is_delivered packets apps h a i x =
    is_arrived h x && is_place (inbox_place_of h x) i && (app_at packets apps x == a)
    && is_some (accepted_place h.lanes x)

-- each packet in an inbox passes its test
abbrev pub are_delivered : List Packet → ℕ → History → Bool
are_delivered packets apps h =
    each (λ a inbox. each (is_delivered packets apps h a) inbox) h.inboxes

-- whether a reply has the receive queue at which its packet arrived
abbrev pub is_from_queue : History → Sent → Bool
is_from_queue h s = is_arrived h s.id && ((arrival_of h.arrivals s.id).queue == s.rxq)

-- whether a transmit choice has the flow number as class, and a desired queue
abbrev pub is_of_flow : List Packet → History → Chosen → Bool
is_of_flow packets h c =
    is_arrived h c.id && is_number c.choice.class (packet_at packets c.id).flow_number
    && is_some c.choice.want

-- whether an application replied to the first packets of its inbox, and its transmit choices are
-- for its first replies
abbrev pub has_replies : List Packet → History → ℕ → Bool
has_replies packets h a =
    begins (map (λ s. s.id) (list_at h.sent a)) (list_at h.inboxes a)
    && list_all (is_from_queue h) (list_at h.sent a)
    && begins (map (λ c. c.id) (list_at h.tx_choices a)) (map (λ s. s.id) (list_at h.sent a))
    && list_all (is_of_flow packets h) (list_at h.tx_choices a)

-- the replies of each application pass their test
abbrev pub have_replies : List Packet → ℕ → History → Bool
have_replies packets apps h = list_all (has_replies packets h) (range_with_len 0 apps)

-- the test of packet x at index i of the replies that transmit queue t accepted: its choice is this
-- queue, and this is its first place
abbrev pub is_queued : History → (tx index packet : ℕ) → Bool
is_queued h t i x =
    is_arrived h x && is_number (option_map (λ d. d.lane) (tx_choice_of h x)) t
    && is_place (accepted_place h.tx_lanes x) i

-- the test of packet x at index i of the port: this is its first place, and some transmit queue
-- accepted it
abbrev pub is_shipped : History → ℕ → ℕ → Bool
is_shipped h i x =
    is_arrived h x && is_place (place_in x h.port) i && is_some (accepted_place h.tx_lanes x)

-- each reply at a transmit queue and at the port passes its test
abbrev pub are_shipped : History → Bool
are_shipped h =
    each (λ t lane. (length lane.drops == 0) && each (is_queued h t) lane.accepted) h.tx_lanes
    && each (is_shipped h) h.port

-- each command has an answer with a text in a report
abbrev pub have_texts : History → Bool
have_texts h = list_all (λ c. has_text c.answer) h.commands

-- the whole test, after that of the shape and the lengths of the lists
abbrev pub passes : List Packet → ℕ → History → Bool
passes packets apps h =
    has_shape packets apps h && has_short_lists h && are_polled h && are_steered h
    && are_delivered packets apps h
    && have_replies packets apps h && are_shipped h && have_texts h
