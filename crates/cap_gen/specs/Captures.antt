-- The capture of generated packets.
use Rattle.std.specs.Prelude.{◌≡◌, ◌≤◌, ℕ, map}
use Rattle.pcap_reader.specs.Captures.{HasCapture, frame_of}
use Rattle.pcap_reader.specs.Writing.{capture_bytes, capture_of}
use Rattle.steer_base.specs.declared.limits.TheConstants.{MAX_PACKETS}
use Rattle.cap_gen.specs.Packets.{frames_of, packets_of}

-- the bytes of the packets of a seed have a capture, whose records have their frames
abbrev pub HasItsFrames : Type 0
HasItsFrames =
    (seed flows n : ℕ) → n ≤ MAX_PACKETS
    → HasCapture (capture_bytes (packets_of seed flows n)) (capture_of (packets_of seed flows n))
    × (map (frame_of (capture_bytes (packets_of seed flows n)))
    (capture_of (packets_of seed flows n)).records ≡ frames_of seed flows n)
