-- Two blocks written out by hand, field by field, from the figures of the format's description.
use Rattle.std.specs.Prelude.{ℕ, List, [], ◌∷◌, true, false}
use Rattle.pcap_reader.specs.declared.record.PcapRecord.{PcapRecord}
use Rattle.pcapng_reader.specs.declared.section.Section.{Section}
use Rattle.pcapng_reader.specs.declared.place.Place.{Place}

-- the place of each example: after three blocks of 100 bytes together
abbrev pub example_place : Place
example_place = record { block = 3; packets = 0; start = 100 }

-- a big-endian section with an interface of another link type, and then an Ethernet interface
abbrev pub big_section : Section
big_section = record {
  big = true;
  interfaces = record { link = 113; snap = 0 } ∷ record { link = 1; snap = 0 } ∷ [];
}

-- an enhanced packet of interface 1: 5 of 1,500 bytes, 3 bytes of padding, a comment "hi", and the
-- end of the options
abbrev pub enhanced_example : List ℕ
enhanced_example =
    0 ∷ 0 ∷ 0 ∷ 6 ∷ 0 ∷ 0 ∷ 0 ∷ 0x34
    ∷ 0 ∷ 0 ∷ 0 ∷ 1
    ∷ 0 ∷ 5 ∷ 0x1a ∷ 0x2b ∷ 0x3c ∷ 0x4d ∷ 0x5e ∷ 0x6f
    ∷ 0 ∷ 0 ∷ 0 ∷ 5 ∷ 0 ∷ 0 ∷ 5 ∷ 0xdc
    ∷ 0xde ∷ 0xad ∷ 0xbe ∷ 0xef ∷ 1 ∷ 0 ∷ 0 ∷ 0
    ∷ 0 ∷ 1 ∷ 0 ∷ 2 ∷ 0x68 ∷ 0x69 ∷ 0 ∷ 0 ∷ 0 ∷ 0 ∷ 0 ∷ 0
    ∷ 0 ∷ 0 ∷ 0 ∷ 0x34 ∷ []

-- the packet of the enhanced example
abbrev pub enhanced_packet : PcapRecord
enhanced_packet =
    record { sec = 0x00051a2b; frac = 0x3c4d5e6f; start = 128; len = 5; orig = 1500 }

-- a little-endian section with an Ethernet interface that keeps 6 bytes of a frame
abbrev pub little_section : Section
little_section = record { big = false; interfaces = record { link = 1; snap = 6 } ∷ [] }

-- a simple packet: 6 of 9 bytes, 2 bytes of padding
abbrev pub simple_example : List ℕ
simple_example =
    3 ∷ 0 ∷ 0 ∷ 0 ∷ 24 ∷ 0 ∷ 0 ∷ 0
    ∷ 9 ∷ 0 ∷ 0 ∷ 0
    ∷ 0xde ∷ 0xad ∷ 0xbe ∷ 0xef ∷ 1 ∷ 2 ∷ 0 ∷ 0
    ∷ 24 ∷ 0 ∷ 0 ∷ 0 ∷ []

-- the packet of the simple example
abbrev pub simple_packet : PcapRecord
simple_packet = record { sec = 0; frac = 0; start = 112; len = 6; orig = 9 }
