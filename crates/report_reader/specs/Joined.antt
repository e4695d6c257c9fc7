-- The lines of packets and of replies, put together.
use Rattle.std.specs.Prelude.{ℕ, zero, suc, ◌≡◌, ◌<◌, ◌==◌, List, [], ◌∷◌, Option, Some, None}
use Rattle.std.specs.Prelude.{length, map, if◌then◌else◌, slice_index_or}
use Rattle.std.specs.List.{filter_map, slice_get}
use Rattle.report_reader.specs.declared.packets.SeenPacket.{SeenPacket}
use Rattle.report_reader.specs.declared.packets.SeenReply.{SeenReply}
use Rattle.report_reader.specs.declared.slots.Seen.{Seen}

-- The lines of packets and of replies are those of these packets, in order; and each reply names
-- the packet that it stands with by its place.
pub record AreJoined (packets : List SeenPacket) (replies : List SeenReply) (seen : List Seen)
    : Type 0 where
  pub of_packets : packets ≡ map (λ s. s.packet) seen
  pub of_replies : replies ≡ filter_map (λ s. s.reply) seen
  pub own : (x : ℕ) (d : Seen) (r : SeenReply) → x < length seen
      → (slice_index_or seen x d).reply ≡ Some r → r.id ≡ x

-- the first of these replies, if it is to this packet
abbrev pub first_of : ℕ → List SeenReply → Option SeenReply
first_of x [] = None
first_of x (r ∷ rest) = if r.id == x then Some r else None

-- the reply with this number, from 1
abbrev pub reply_by : List SeenReply → ℕ → Option SeenReply
reply_by replies zero = None
reply_by replies (suc n) = slice_get replies n

-- the lines of packets, each with the reply that has its number
abbrev pub seen_lines : List SeenReply → List SeenPacket → List ℕ → List Seen
seen_lines replies [] numbers = []
seen_lines replies (p ∷ packets) [] = []
seen_lines replies (p ∷ packets) (n ∷ numbers) =
    record { packet = p; reply = reply_by replies n } ∷ seen_lines replies packets numbers
