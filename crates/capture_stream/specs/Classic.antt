-- What the walker of a classic pcap file has passed.
use Rattle.std.specs.Prelude.{◌≡◌, ◌≤◌, ℕ, List, length, take, drop, map}
use Rattle.steer_base.specs.declared.limits.TheConstants.{MAX_PACKETS}
use Rattle.pcap_reader.specs.declared.record.PcapRecord.{PcapRecord}
use Rattle.pcap_reader.specs.Numbers.{number_of, HasMagic}
use Rattle.pcap_reader.specs.Captures.{IsEthernet, Joins, frame_of}
use Rattle.pcapng_reader.specs.Captures.{BeginsNg}
use Rattle.capture_stream.specs.declared.classic.ClassicWalker.{ClassicWalker}

-- The bytes begin with the header of a classic pcap file, as the walker has read it. After it come
-- complete records with these frames, which the walker has passed, and then this rest.
pub record PassedClassic (walker : ClassicWalker) (bytes : List ℕ) (frames : List (List ℕ))
    (rest : List ℕ) : Type 0 where
  pub classic : BeginsNg bytes → ⊥
  pub whole : 24 ≤ length bytes
  pub magic : HasMagic walker.format.big walker.format.nano bytes
  pub ethernet : IsEthernet (number_of walker.format.big) (take 24 bytes)
  pub records : List PcapRecord
  pub joined : Joins (number_of walker.format.big) 24 (drop 24 bytes) records rest
  pub frames_are : frames ≡ map (frame_of bytes) records
  pub packets_are : walker.packets ≡ length records
  pub few : length records ≤ MAX_PACKETS
  pub within : walker.place ≤ length bytes
  pub rest_is : rest ≡ drop walker.place bytes
