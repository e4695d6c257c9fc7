-- Where the packets of a report stand in the lists of its history.
use Rattle.std.specs.Prelude.{ℕ, ◌≡◌, ◌≤◌, ◌<◌, ◌==◌, List, [], Option, Some, None, length}
use Rattle.std.specs.Prelude.{if◌then◌else◌, slice_index_or}
use Rattle.steer_base.specs.Counters.{distance}
use Rattle.steer_base.specs.Entries.{place_in}
use Rattle.steer_base.specs.declared.choice.Choice.{Choice}
use Rattle.steer_base.specs.declared.put.Put.{Put}
use Rattle.steer_base.specs.declared.put.Put.TheVariants.{At, Dropped as FellAs}
use Rattle.history.specs.Finding.{Once}
use Rattle.report_reader.specs.declared.packets.SeenReply.{SeenReply}
use Rattle.report_reader.specs.declared.slots.Kind.{Kind}
use Rattle.report_reader.specs.declared.slots.Kind.TheVariants.{Accepted, Dropped, Inbox, Shipped}
use Rattle.report_reader.specs.declared.slots.Kind.TheVariants.{Port}
use Rattle.report_reader.specs.declared.slots.Seen.{Seen}
use Rattle.report_reader.specs.declared.slots.Slot.{Slot}

-- the list of the lane of a choice
abbrev pub at_lane : Option Choice → ℕ → Option Slot
at_lane None place = None
at_lane (Some choice) place = Some (record { list = choice.lane; place = place })

-- at the lane where it was accepted: the place is how far the position is past the start
abbrev pub accepted_slot : ℕ → Option Choice → Option Put → Option Slot
accepted_slot start choice None = None
accepted_slot start choice (Some (At position)) = at_lane choice (distance position start)
accepted_slot start choice (Some (FellAs number accepted pulled cause)) = None

-- at the lane that dropped it, by the number of the drop
abbrev pub dropped_slot : Option Choice → Option Put → Option Slot
dropped_slot choice None = None
dropped_slot choice (Some (At position)) = None
dropped_slot choice (Some (FellAs number accepted pulled cause)) = at_lane choice number

-- in the list with this number
abbrev pub in_list : ℕ → Option ℕ → Option Slot
in_list list None = None
in_list list (Some place) = Some (record { list = list; place = place })

-- at the transmit queue of a reply
abbrev pub shipped_slot : ℕ → Option Choice → Option ℕ → Option Slot
shipped_slot start choice None = None
shipped_slot start choice (Some position) = at_lane choice (distance position start)

-- of a reply, if there is one
abbrev pub reply_slot : (SeenReply → Option Slot) → Option SeenReply → Option Slot
reply_slot slot None = None
reply_slot slot (Some reply) = slot reply

-- where a packet stands among the lists of a kind
abbrev pub slot_of : ℕ → Kind → Seen → Option Slot
slot_of start Accepted s = accepted_slot start s.packet.choice s.packet.put
slot_of start Dropped s = dropped_slot s.packet.choice s.packet.put
slot_of start Inbox s = in_list s.packet.app s.packet.inbox
slot_of start Shipped s = reply_slot (λ r. shipped_slot start r.choice r.put) s.reply
slot_of start Port s = reply_slot (λ r. in_list 0 r.port) s.reply

-- the place in the list with this number
abbrev pub place_for : ℕ → Option Slot → Option ℕ
place_for list None = None
place_for list (Some slot) = if slot.list == list then Some slot.place else None

-- 1 for a packet that stands there
abbrev pub one_at : Option ℕ → ℕ
one_at None = 0
one_at (Some place) = 1

-- The list with this number of a kind has each packet at the place that the report shows, and none
-- beyond those that arrived.
pub record IsShelved (start : ℕ) (kind : Kind) (seen : List Seen) (number : ℕ) (list : List ℕ)
    : Type 0 where
  pub once : Once list
  pub places : (x : ℕ) (d : Seen) → x < length seen
      → place_in x list ≡ place_for number (slot_of start kind (slice_index_or seen x d))
  pub within : (x : ℕ) → length seen ≤ x → place_in x list ≡ None
  pub low : 256 ≤ number → list ≡ []
