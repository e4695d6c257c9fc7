-- When an arrival is at the queue of values of the run.
use Rattle.std.specs.Prelude.{ℕ, ◌≡◌, ◌⊎◌, Bool, true, false, ◌&&◌, ◌==◌, List, Option, Some, None}
use Rattle.std.specs.Prelude.{is_some, slice_index}
use Rattle.std.specs.List.{list_any}
use Rattle.steer_base.specs.Arrivals.{filter_place, route, table_place}
use Rattle.steer_base.specs.Choices.{has_moved}
use Rattle.steer_base.specs.Filters.{home_queue}
use Rattle.steer_base.specs.declared.choice.Chosen.{Chosen}
use Rattle.history.specs.Regular.{route_of}
use Rattle.history.specs.declared.arrival.Arrival.{Arrival}
use Rattle.history.specs.declared.history.History.{History}
use Rattle.steer_model.specs.State.Setup.{Setup, packet_hash}
use Rattle.good_check.specs.Choices.{rx_position}

-- whether a number is there, and is this one
abbrev pub is_number : Option ℕ → ℕ → Bool
is_number None n = false
is_number (Some m) n = m == n

-- whether a choice asks for a filter at a place that sends to a queue: it moved to a processor
-- whose lowest queue this is, its packet was accepted there, and the packet's hash finds this place
abbrev pub asks_for : Setup → History → (filters place queue : ℕ) → Chosen → Bool
asks_for p h filters place queue c =
    (has_moved c.choice.why && is_some (rx_position h c))
    && (is_number (home_queue p.homes c.choice.lane) queue
    && is_number (filter_place filters (packet_hash p c.id)) place)

-- whether some choice does
abbrev pub is_asked_for : Setup → History → (filters place queue : ℕ) → List (List Chosen) → Bool
is_asked_for p h filters place queue choices =
    list_any (λ cs. list_any (asks_for p h filters place queue) cs) choices

-- whether a set of filters has one at a place, if there is a place, that sends to a queue
abbrev pub filter_is_in : (ℕ → ℕ → Bool) → Option ℕ → ℕ → Bool
filter_is_in set None queue = false
filter_is_in set (Some place) queue = set place queue

-- An arrival with this hash is at the queue of the table's entry, or at that of a filter of a set.
abbrev pub IsSeenIn : (ℕ → ℕ → Bool) → List ℕ → ℕ → Option ℕ → Arrival → Type 0
IsSeenIn set reta filters None a = route_of a ≡ route None None 0
IsSeenIn set reta filters (Some hash) a =
    (route_of a ≡ route (Some hash) None (slice_index reta (table_place hash)))
    ⊎ ((f : ℕ) × (route_of a ≡ route (Some hash) (Some f) 0)
    × (filter_is_in set (filter_place filters (Some hash)) f ≡ true))
