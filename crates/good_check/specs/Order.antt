-- The packets that came and those that left, class by class.
use Rattle.std.specs.Prelude.{ℕ, ◌*◌, ◌+◌, Bool, List, Option, Some, None, filter, is_some}
use Rattle.std.specs.Prelude.{map, not, slice_index_or}
use Rattle.std.specs.List.{concat}
use Rattle.steer_base.specs.Orders.{IsPrefix}
use Rattle.history.specs.declared.arrival.Arrival.{Arrival}
use Rattle.history.specs.declared.known.Known.{Known}
use Rattle.history.specs.declared.sent.Sent.{Sent}
use Rattle.rule_check.specs.Chains.{in_class}
use Rattle.steer_model.specs.State.Setup.{Setup, flow_number_of}

-- Of each class, the packets that left are the first ones of those that came, in their order.
abbrev pub LeftInOrder : List (Option ℕ) → List ℕ → List ℕ → Type 0
LeftInOrder classes came left =
    (class : ℕ) → IsPrefix (in_class classes class left) (in_class classes class came)

-- a receive queue and a flow as one class, where there are `flows` flow numbers
abbrev pub queue_and_flow : (flows queue flow : ℕ) → ℕ
queue_and_flow flows queue flow = queue * flows + flow

-- the class of each packet that arrived, by its receive queue and its flow, where there are so many
-- flow numbers
abbrev pub arrival_classes : (flows : ℕ) → Setup → List Arrival → List (Option ℕ)
arrival_classes flows p arrivals =
    map (λ a. Some (queue_and_flow flows a.queue (flow_number_of p a.id))) arrivals

-- the class of each packet that arrived, by its flow alone
abbrev pub reply_classes : Setup → List Arrival → List (Option ℕ)
reply_classes p arrivals = map (λ a. Some (flow_number_of p a.id)) arrivals

-- whether no processor dropped a packet, by what is known of it
abbrev pub was_kept : Known → ℕ → Bool
was_kept known x = not (is_some (slice_index_or known.drops x None))

-- the packets that arrived and were not dropped, in their order
abbrev pub kept_arrivals : Known → List Arrival → List ℕ
kept_arrivals known arrivals = filter (was_kept known) (map (λ a. a.id) arrivals)

-- the packets of all replies, application after application
abbrev pub all_replies : List (List Sent) → List ℕ
all_replies sent = concat (map (λ list. map (λ s. s.id) list) sent)
