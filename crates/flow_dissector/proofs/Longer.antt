-- More bytes behind the ports change nothing.
use Rattle.std.proofs.Common.{◌≡◌, ◌≤◌, ◌<◌, ◌+◌, ℕ, zero, suc, true, inl, inr, List, ◌++◌, length}
use Rattle.std.proofs.Common.{drop, slice_index, Option, None, Some, refl, ap, arith}
use Rattle.std.proofs.lemmas.List.{length-append, length-drop, drop-append-le}
use Rattle.std.proofs.Math.ListN.{get_or-append}
use Rattle.std.proofs.lemmas.Bool.{cases_Bool, and_parts, and_from, ltb-false, leb-true, le-leb}
use Rattle.std.proofs.lemmas.Bool.{le-ltb, eqb-true, eq-eqb}
use Rattle.std.specs.Prelude.{nat_lt, nat_le, ◌&&◌, ◌==◌, ◌/◌}
use Rattle.std.specs.Option.{option_map, option_and_then}
use Rattle.byteorder.specs.Endian.{big_number}
use Rattle.byteorder.specs.Numbers.{big_from-append}
use Rattle.steer_base.specs.declared.flow.Pair.{Pair}
use Rattle.steer_base.specs.declared.flow.Proto.{Proto}
use Rattle.steer_base.specs.declared.flow.Flow.TheVariants.{Four}
use Rattle.steer_base.specs.declared.flow.Proto.TheVariants.{Tcp, Udp}
use Rattle.flow_dissector.specs.Ipv4.{is_ipv4, is_ipv4_fragment, ipv4_header_len, ipv4_pair}
use Rattle.flow_dissector.specs.Ipv4.{ipv4_payload, ipv4_flow}
use Rattle.flow_dissector.specs.Frame.{flow_of, ip_flow, carried_flow}
use Rattle.flow_dissector.specs.Carried.{Carried}
use Rattle.flow_dissector.specs.Ethernet.{is_tag, is_ip, after_tags, only_ip, packet_in}
use Rattle.flow_dissector.specs.Ipv6.{is_ipv6, ipv6_address, ipv6_pair, is_extension, extension_len}
use Rattle.flow_dissector.specs.Ipv6.{after_extensions, unfragmented, ipv6_payload, ipv6_flow}
use Rattle.flow_dissector.specs.Ports.{flow_with_ports, flow_between}

-- the same with more bytes behind
abbrev pub longer : List ℕ → Carried → Carried
longer more carried = record carried { bytes = carried.bytes ++ more }

-- a number is read from the bytes that are there
number-append : (n k : ℕ) (bytes more : List ℕ) → k + n ≤ length bytes → big_number n
    (drop k (bytes ++ more)) ≡ big_number n (drop k bytes)
number-append n k bytes more there =
    let before : k ≤ length bytes = omega arith in
    let enough : n ≤ length (drop k bytes) = rw length-drop (omega arith) in
    rw (drop-append-le k bytes more before) (big_from-append n (drop k bytes) more enough)

-- so is a byte
byte-append : (k : ℕ) (bytes more : List ℕ) → k < length bytes → slice_index
    (bytes ++ more) k ≡ slice_index bytes k
byte-append k bytes more there = get_or-append bytes more 0 k there

-- the list is no shorter
length-append-le : (n : ℕ) (bytes more : List ℕ) → n ≤ length bytes → n ≤ length (bytes ++ more)
length-append-le n bytes more there = rw length-append (omega arith)

pub after_tags-append : (left kind : ℕ) (bytes more : List ℕ) (found : Carried)
    → after_tags left kind bytes ≡ Some found
    → after_tags left kind (bytes ++ more) ≡ Some (longer more found)
unfolding after_tags
after_tags-append zero kind bytes more found is = ap (option_map (longer more)) is
after_tags-append (suc left) kind bytes more found is =
    elim (cases_Bool (is_tag kind)) [
      | inr other ↦ let here = rw other at is in rw other (ap (option_map (longer more)) here)
      | inl tag ↦
          let here = rw tag at is in
          elim (cases_Bool (nat_lt (length bytes) 4)) [
            | inl cut ↦ let none = rw cut at here in absurd (cc)
            | inr whole ↦
                let four : 4 ≤ length bytes = ltb-false (length bytes) 4 whole in
                let behind = rw whole at here in
                rw (
                  tag,
                  le-ltb (length (bytes ++ more)) 4 (length-append-le 4 bytes more four),
                  number-append 2 2 bytes more four,
                  drop-append-le 4 bytes more four,
                )
                (after_tags-append left (big_number 2 (drop 2 bytes))
                (drop 4 bytes) more found behind)
          ]
    ]

pub after_extensions-append : (left next : ℕ) (bytes more : List ℕ) (found : Carried)
    → after_extensions left next bytes ≡ Some found
    → after_extensions left next (bytes ++ more) ≡ Some (longer more found)
unfolding after_extensions
after_extensions-append zero next bytes more found is =
    elim (cases_Bool (is_extension next)) [
      | inr other ↦ let here = rw other at is in rw other (ap (option_map (longer more)) here)
      | inl walked ↦ let none = rw walked at is in absurd (cc)
    ]
after_extensions-append (suc left) next bytes more found is =
    elim (cases_Bool (is_extension next)) [
      | inr other ↦ let here = rw other at is in rw other (ap (option_map (longer more)) here)
      | inl walked ↦
          let here = rw walked at is in
          elim (cases_Bool (nat_lt (length bytes) 2)) [
            | inl cut ↦ let none = rw cut at here in absurd (cc)
            | inr begun ↦
                let two : 2 ≤ length bytes = ltb-false (length bytes) 2 begun in
                let then = rw begun at here in
                elim (cases_Bool (nat_lt (length bytes) (extension_len bytes))) [
                  | inl cut ↦ let none = rw cut at then in absurd (cc)
                  | inr whole ↦
                      let all : extension_len bytes ≤ length bytes =
                      ltb-false (length bytes) (extension_len bytes) whole in
                      let behind = rw whole at then in
                      rw (
                        walked,
                        le-ltb (length (bytes ++ more)) 2 (length-append-le 2 bytes more two),
                        byte-append 1 bytes more (omega arith),
                        byte-append 0 bytes more (omega arith),
                        le-ltb (length (bytes ++ more)) (extension_len bytes)
                            (length-append-le (extension_len bytes) bytes more all),
                        drop-append-le (extension_len bytes) bytes more all,
                      )
                      (after_extensions-append left (slice_index bytes 0)
                      (drop (extension_len bytes) bytes) more found behind)
                ]
          ]
    ]

flow_with_ports-append : (pair ends : Pair) (proto kind : Proto) (segment more : List ℕ)
    (source destination : ℕ)
    → flow_with_ports pair proto segment ≡ Four ends kind source destination
    → flow_with_ports pair proto (segment ++ more) ≡ Four ends kind source destination
unfolding flow_with_ports
flow_with_ports-append pair ends proto kind segment more source destination is =
    elim (cases_Bool (nat_lt (length segment) 4)) [
      | inl cut ↦ let none = rw cut at is in absurd (cc)
      | inr whole ↦
          let four : 4 ≤ length segment = ltb-false (length segment) 4 whole in
          let there = rw whole at is in
          rw (
            le-ltb (length (segment ++ more)) 4 (length-append-le 4 segment more four),
            big_from-append 2 segment more (omega arith),
            number-append 2 2 segment more four,
          )
          there
    ]

pub flow_between-append : (pair ends : Pair) (kind : Proto) (payload grown : Option Carried)
    (more : List ℕ) (source destination : ℕ)
    → ((found : Carried) → payload ≡ Some found → grown ≡ Some (longer more found))
    → flow_between pair payload ≡ Four ends kind source destination
    → flow_between pair grown ≡ Four ends kind source destination
unfolding flow_between
flow_between-append pair ends kind None grown more source destination grows is = absurd (cc)
flow_between-append pair ends kind (Some payload) grown more source destination grows is =
    rw (grows payload refl)
    (elim (cases_Bool (payload.kind == 6)) [
      | inl tcp ↦ let here = rw tcp at is in
          rw tcp (flow_with_ports-append pair ends Tcp kind payload.bytes more source destination
          here)
      | inr other ↦
          let here = rw other at is in
          elim (cases_Bool (payload.kind == 17)) [
            | inl udp ↦ let there = rw udp at here in
                rw (other, udp) (flow_with_ports-append pair ends Udp kind payload.bytes more source
                destination there)
            | inr neither ↦ let none = rw neither at here in absurd (cc)
          ]
    ])

-- a step that keeps what stands behind
and_then-append : (step : Carried → Option Carried) (carried grown : Option Carried) (more : List ℕ)
    (found : Carried)
    → ((first last : Carried) → step first ≡ Some last → step (longer more first) ≡ Some
    (longer more last))
    → ((first : Carried) → carried ≡ Some first → grown ≡ Some (longer more first))
    → option_and_then step carried ≡ Some found → option_and_then step grown ≡ Some
    (longer more found)
and_then-append step None grown more found keeps grows is = absurd (cc)
and_then-append step (Some first) grown more found keeps grows is =
    rw (grows first refl) (keeps first found is)

-- the parts of the test for a whole header
is_ipv4-parts : (packet : List ℕ) → is_ipv4 packet ≡ true → (20 ≤ length packet)
    × (slice_index packet 0 / 16 ≡ 4)
    × (20 ≤ ipv4_header_len packet) × (ipv4_header_len packet ≤ length packet)
unfolding is_ipv4
is_ipv4-parts packet whole =
    let three = and_parts (nat_le 20 (length packet) && slice_index packet 0 / 16 == 4 && nat_le 20
    (ipv4_header_len packet))
    (nat_le (ipv4_header_len packet) (length packet)) whole in
    let two = and_parts (nat_le 20 (length packet) && slice_index packet 0 / 16 == 4)
    (nat_le 20 (ipv4_header_len packet)) three.0 in
    let one = and_parts (nat_le 20 (length packet)) (slice_index packet 0 / 16 == 4) two.0 in
    (leb-true _ _ one.0, eqb-true _ _ one.1, leb-true _ _ two.1, leb-true _ _ three.1)

is_ipv4-append : (packet more : List ℕ) → is_ipv4 packet ≡ true → is_ipv4 (packet ++ more) ≡ true
unfolding is_ipv4
is_ipv4-append packet more whole =
    let parts = is_ipv4-parts packet whole in
    let first : 0 < length packet = omega (arith, parts.0) in
    rw (byte-append 0 packet more first)
    (and_from _ _
    (and_from _ _
    (and_from _ _ (le-leb 20 (length (packet ++ more)) (length-append-le 20 packet more parts.0))
    (eq-eqb (slice_index packet 0 / 16) 4 parts.1))
    (le-leb 20 (ipv4_header_len packet) parts.2))
    (le-leb (ipv4_header_len packet) (length (packet ++ more))
    (length-append-le (ipv4_header_len packet) packet more parts.3)))

ipv4_payload-append : (packet more : List ℕ) (found : Carried) → is_ipv4 packet ≡ true
    → ipv4_payload packet ≡ Some found
    → ipv4_payload (packet ++ more) ≡ Some (longer more found)
unfolding ipv4_payload
ipv4_payload-append packet more found whole is =
    let parts = is_ipv4-parts packet whole in
    let first : 0 < length packet = omega (arith, parts.0) in
    let tenth : 9 < length packet = omega (arith, parts.0) in
    let eight : 8 ≤ length packet = omega (arith, parts.0) in
    elim (cases_Bool (is_ipv4_fragment packet)) [
      | inl fragment ↦ let none = rw fragment at is in absurd (cc)
      | inr other ↦
          let here = rw other at is in
          rw (
            number-append 2 6 packet more eight,
            other,
            byte-append 9 packet more tenth,
            byte-append 0 packet more first,
            drop-append-le (ipv4_header_len packet) packet more parts.3,
          )
          (ap (option_map (longer more)) here)
    ]

ipv4_flow-append : (packet more : List ℕ) (ends : Pair) (proto : Proto) (source destination : ℕ)
    → ipv4_flow packet ≡ Four ends proto source destination → ipv4_flow
    (packet ++ more) ≡ Four ends proto source destination
unfolding ipv4_flow
ipv4_flow-append packet more ends proto source destination is =
    elim (cases_Bool (is_ipv4 packet)) [
      | inr other ↦ let none = rw other at is in absurd (cc)
      | inl whole ↦
          let here = rw whole at is in
          let parts = is_ipv4-parts packet whole in
          let sixteen : 16 ≤ length packet = omega (arith, parts.0) in
          let grows = λ (found : Carried) (payload : ipv4_payload packet ≡ Some found).
          ipv4_payload-append packet more found whole payload in
          rw (
            is_ipv4-append packet more whole,
            number-append 4 12 packet more sixteen,
            number-append 4 16 packet more parts.0,
          )
          (flow_between-append (ipv4_pair packet) ends proto (ipv4_payload packet)
          (ipv4_payload (packet ++ more)) more source destination grows here)
    ]

is_ipv6-parts : (packet : List ℕ) → is_ipv6 packet ≡ true → (40 ≤ length packet)
    × (slice_index packet 0 / 16 ≡ 6)
unfolding is_ipv6
is_ipv6-parts packet whole =
    let parts = and_parts (nat_le 40 (length packet)) (slice_index packet 0 / 16 == 6) whole in
    (leb-true _ _ parts.0, eqb-true _ _ parts.1)

is_ipv6-append : (packet more : List ℕ) → is_ipv6 packet ≡ true → is_ipv6 (packet ++ more) ≡ true
unfolding is_ipv6
is_ipv6-append packet more whole =
    let parts = is_ipv6-parts packet whole in
    let first : 0 < length packet = omega (arith, parts.0) in
    rw (byte-append 0 packet more first)
    (and_from _ _ (le-leb 40 (length (packet ++ more)) (length-append-le 40 packet more parts.0))
    (eq-eqb (slice_index packet 0 / 16) 6 parts.1))

ipv6_address-append : (k : ℕ) (packet more : List ℕ) → k + 16 ≤ length packet → ipv6_address
    (drop k (packet ++ more)) ≡ ipv6_address (drop k packet)
unfolding ipv6_address
ipv6_address-append k packet more there = number-append 16 k packet more there

unfragmented-append : (more : List ℕ) (first last : Carried) → unfragmented first ≡ Some last
    → unfragmented (longer more first) ≡ Some (longer more last)
unfragmented-append more first last is =
    elim (cases_Bool (first.kind == 44)) [
      | inl fragment ↦ let none = rw fragment at is in absurd (cc)
      | inr other ↦ let here = rw other at is in rw other (ap (option_map (longer more)) here)
    ]

ipv6_payload-append : (packet more : List ℕ) (found : Carried) → is_ipv6 packet ≡ true
    → ipv6_payload packet ≡ Some found
    → ipv6_payload (packet ++ more) ≡ Some (longer more found)
unfolding ipv6_payload
ipv6_payload-append packet more found whole is =
    let parts = is_ipv6-parts packet whole in
    let seventh : 6 < length packet = omega (arith, parts.0) in
    let grows = λ (first : Carried) (behind : after_extensions 8 (slice_index packet 6)
    (drop 40 packet) ≡ Some first).
    after_extensions-append 8 (slice_index packet 6) (drop 40 packet) more first behind in
    rw (byte-append 6 packet more seventh, drop-append-le 40 packet more parts.0)
    (and_then-append unfragmented (after_extensions 8 (slice_index packet 6) (drop 40 packet))
    (after_extensions 8 (slice_index packet 6) (drop 40 packet ++ more)) more found
    (unfragmented-append more) grows is)

ipv6_flow-append : (packet more : List ℕ) (ends : Pair) (proto : Proto) (source destination : ℕ)
    → ipv6_flow packet ≡ Four ends proto source destination → ipv6_flow
    (packet ++ more) ≡ Four ends proto source destination
unfolding ipv6_flow
ipv6_flow-append packet more ends proto source destination is =
    elim (cases_Bool (is_ipv6 packet)) [
      | inr other ↦ let none = rw other at is in absurd (cc)
      | inl whole ↦
          let here = rw whole at is in
          let parts = is_ipv6-parts packet whole in
          let first : 24 ≤ length packet = omega (arith, parts.0) in
          let grows = λ (found : Carried) (payload : ipv6_payload packet ≡ Some found).
          ipv6_payload-append packet more found whole payload in
          rw (
            is_ipv6-append packet more whole,
            ipv6_address-append 8 packet more first,
            ipv6_address-append 24 packet more parts.0,
          )
          (flow_between-append (ipv6_pair packet) ends proto (ipv6_payload packet)
          (ipv6_payload (packet ++ more)) more source destination grows here)
    ]

ip_flow-append : (kind : ℕ) (packet more : List ℕ) (ends : Pair) (proto : Proto)
    (source destination : ℕ)
    → ip_flow kind packet ≡ Four ends proto source destination → ip_flow kind
    (packet ++ more) ≡ Four ends proto source destination
unfolding ip_flow
ip_flow-append kind packet more ends proto source destination is =
    elim (cases_Bool (kind == 0x0800)) [
      | inl ipv4 ↦
          let here = rw ipv4 at is in
          rw ipv4 (ipv4_flow-append packet more ends proto source destination here)
      | inr other ↦
          let here = rw other at is in
          elim (cases_Bool (kind == 0x86dd)) [
            | inl ipv6 ↦
                let there = rw ipv6 at here in rw (other, ipv6)
                (ipv6_flow-append packet more ends proto source destination there)
            | inr neither ↦ let none = rw neither at here in absurd (cc)
          ]
    ]

only_ip-append : (more : List ℕ) (first last : Carried) → only_ip first ≡ Some last
    → only_ip (longer more first) ≡ Some (longer more last)
only_ip-append more first last is =
    elim (cases_Bool (is_ip first.kind)) [
      | inl ip ↦ let here = rw ip at is in rw ip (ap (option_map (longer more)) here)
      | inr other ↦ let none = rw other at is in absurd (cc)
    ]

packet_in-append : (frame more : List ℕ) (found : Carried) → packet_in frame ≡ Some found
    → packet_in (frame ++ more) ≡ Some (longer more found)
unfolding packet_in
packet_in-append frame more found is =
    elim (cases_Bool (nat_lt (length frame) 14)) [
      | inl cut ↦ let none = rw cut at is in absurd (cc)
      | inr whole ↦
          let fourteen : 14 ≤ length frame = ltb-false (length frame) 14 whole in
          let here = rw whole at is in
          let tags = after_tags 2 (big_number 2 (drop 12 frame)) (drop 14 frame) in
          let grows = λ (first : Carried) (behind : after_tags 2 (big_number 2 (drop 12 frame))
          (drop 14 frame) ≡ Some first).
          after_tags-append 2 (big_number 2 (drop 12 frame)) (drop 14 frame) more first behind in
          rw (
            le-ltb (length (frame ++ more)) 14 (length-append-le 14 frame more fourteen),
            number-append 2 12 frame more fourteen,
            drop-append-le 14 frame more fourteen,
          )
          (and_then-append only_ip tags (after_tags 2 (big_number 2 (drop 12 frame)) (drop 14 frame
          ++ more)) more found (only_ip-append more) grows here)
    ]

carried_flow-append : (carried grown : Option Carried) (more : List ℕ) (ends : Pair) (proto : Proto)
    (source destination : ℕ)
    → ((first : Carried) → carried ≡ Some first → grown ≡ Some (longer more first))
    → carried_flow carried ≡ Four ends proto source destination
    → carried_flow grown ≡ Four ends proto source destination
carried_flow-append None grown more ends proto source destination grows is = absurd (cc)
carried_flow-append (Some first) grown more ends proto source destination grows is =
    rw (grows first refl) (ip_flow-append first.kind first.bytes more ends proto source destination
    is)

-- so a flow that has ports stays
pub flow_of-append : (frame more : List ℕ) (ends : Pair) (proto : Proto) (source destination : ℕ)
    → flow_of frame ≡ Four ends proto source destination
    → flow_of (frame ++ more) ≡ Four ends proto source destination
unfolding flow_of
flow_of-append frame more ends proto source destination is =
    carried_flow-append (packet_in frame) (packet_in (frame ++ more)) more ends proto source
    destination
    (λ (first : Carried) (found : packet_in frame ≡ Some first). packet_in-append frame more first
    found) is
