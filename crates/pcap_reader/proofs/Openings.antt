-- A file's header, by its place.
use Rattle.std.proofs.Common.{◌≡◌, ◌≤◌, ℕ, Bool, List, ◌++◌, length, take, drop, length-append}
use Rattle.std.proofs.Common.{length-take, sym, ap, ◌∙◌, arith, inl, inr}
use Rattle.std.proofs.lemmas.List.{take_at, drop_at, take-take, take-append-drop, append_assoc}
use Rattle.pcap_reader.specs.declared.fault.CaptureFault.{CaptureFault}
use Rattle.pcap_reader.specs.declared.fault.CaptureFault.TheVariants as fault
use Rattle.pcap_reader.specs.Numbers.{HasMagic}
use Rattle.pcap_reader.specs.Captures.{Opens}
use Rattle.pcap_reader.specs.Faults.{OpensWithFault, HasFault}

-- the first 24 bytes are the header
pub opens_here : (bytes : List ℕ) (big nano : Bool) → 24 ≤ length bytes → HasMagic big nano bytes
    → Opens bytes big nano (take 24 bytes) (drop 24 bytes)
opens_here bytes big nano whole magic = record {
  joined = sym (take-append-drop 24 bytes);
  whole = omega (arith, length-take 24 bytes);
  magic = take-take 4 24 bytes (omega arith) ∙ magic;
}

-- they are that of all files that begin with these bytes
pub opens_before : (bytes more : List ℕ) (big nano : Bool) → 24 ≤ length bytes
    → HasMagic big nano bytes
    → Opens (bytes ++ more) big nano (take 24 bytes) (drop 24 bytes ++ more)
opens_before bytes more big nano whole magic =
    let here = opens_here bytes big nano whole magic in
    record {
      joined = ap (λ all. all ++ more) here.joined
          ∙ append_assoc (take 24 bytes) (drop 24 bytes) more;
      whole = here.whole;
      magic = here.magic;
    }

-- and nothing else is
pub opens_are : (bytes : List ℕ) (big nano : Bool) (header body : List ℕ)
    → Opens bytes big nano header body
    → (header ≡ take 24 bytes) × (body ≡ drop 24 bytes) × (24 ≤ length bytes)
    × HasMagic big nano bytes
opens_are bytes big nano header body opens =
    let head : header ≡ take 24 bytes =
    sym (ap (take 24) opens.joined ∙ take_at header body 24 opens.whole) in (
      head,
      sym (ap (drop 24) opens.joined ∙ drop_at header body 24 opens.whole),
      omega (arith, ap length opens.joined, length-append header body, opens.whole),
      sym (take-take 4 24 bytes (omega arith)) ∙ ap (take 4) (sym head) ∙ opens.magic,
    )

-- a fault behind the magic number is the file's
pub later_fault : (bytes : List ℕ) (f : CaptureFault) → OpensWithFault bytes f → HasFault bytes f
later_fault bytes (fault.ShortHeader len) h = elim h.parts [
  | inl no_fault ↦ absurd no_fault
  | inr none ↦ absurd none.1
]
later_fault bytes (fault.BadMagic magic) h = elim h.parts [
  | inl no_fault ↦ absurd no_fault
  | inr none ↦ absurd none.1
]
later_fault bytes (fault.BadVersion major minor) h = h
later_fault bytes (fault.BadLink link) h = h
later_fault bytes (fault.RecordTooLong at len) h = h
later_fault bytes fault.TooManyPackets h = h
later_fault bytes fault.OutOfMemory h = elim h.parts [
  | inl no_fault ↦ absurd no_fault
  | inr none ↦ absurd none.1
]
