-- What the reader finds at one place of a file.
use Rattle.std.specs.Prelude.{◌≤◌, ℕ, ◌+◌, List, length, take, drop}
use Rattle.pcap_reader.specs.declared.front.Front.{Front}
use Rattle.pcap_reader.specs.declared.front.Front.TheVariants as front
use Rattle.pcap_reader.specs.Captures.{IsRecord, IsCut}
use Rattle.pcap_reader.specs.Faults.{TellsTooLong}

-- what the bytes from offset `place` of the file on begin with
abbrev pub IsFront : (ℕ → List ℕ → ℕ) → ℕ → List ℕ → Front → Type 0
IsFront number place rest (front.Whole r) =
    (16 + r.len ≤ length rest) × IsRecord number place (take 16 rest) (take r.len (drop 16 rest)) r
IsFront number place rest (front.TooLong len) = TellsTooLong number rest len
IsFront number place rest front.Cut = IsCut number rest
