-- A frame in a VXLAN has the inner flow of that frame.
use Rattle.std.proofs.Common.{◌≡◌, ◌≢◌, ◌≤◌, ◌<◌, ℕ, zero, suc, ◌+◌, Bool, true, false, cond, leb}
use Rattle.std.proofs.Common.{ltb, eqb, List, length, drop, Option, Some, None, length-append}
use Rattle.std.proofs.Common.{length-drop, refl, sym, ap, ◌∙◌, arith, inl, inr}
use Rattle.std.proofs.lemmas.Bool.{le-ltb, le-leb}
use Rattle.std.proofs.lemmas.Bool.Decides.{eqb_tells}
use Rattle.std.specs.Option.{option_map, option_and_then}
use Rattle.steer_base.specs.declared.flow.Flow.{Flow}
use Rattle.steer_base.specs.declared.flow.Flow.TheVariants.{Bare, Two, Four}
use Rattle.steer_base.specs.declared.flow.Pair.{Pair}
use Rattle.steer_base.specs.declared.flow.Proto.{Proto}
use Rattle.steer_base.specs.declared.flow.Proto.TheVariants.{Tcp, Udp}
use Rattle.flow_dissector.specs.Carried.{Carried, carries}
use Rattle.flow_dissector.specs.Ethernet.{after_tags, packet_in}
use Rattle.flow_dissector.specs.Ports.{flow_with_ports, flow_between}
use Rattle.flow_dissector.specs.Ipv4.{is_ipv4, ipv4_pair, ipv4_payload, ipv4_flow}
use Rattle.flow_dissector.specs.Ipv6.{is_ipv6, ipv6_pair, ipv6_payload, ipv6_flow}
use Rattle.flow_dissector.specs.Frame.{payload_in, ip_flow}
use Rattle.tunnel_dissector.specs.declared.inner.Inner.{Inner}
use Rattle.tunnel_dissector.specs.Vxlan.{is_vxlan, vxlan_held}
use Rattle.tunnel_dissector.specs.Levels.{held_by, held_in, is_bare, with_flow, entered}
use Rattle.tunnel_dissector.specs.Inner.{above, deepest, deepest_of, inner_of}
use Rattle.tunnel_dissector.specs.Writing.{vxlan_headers, vxlan_bytes}
use Rattle.tunnel_dissector.specs.Laws.{IsOneLevelMore, HasFewLevels}

one_of_two : (t : Bool) (a b : Flow) → is_bare a ≡ false → is_bare b ≡ false
    → is_bare (cond t a b) ≡ false
one_of_two true a b of_a of_b = of_a
one_of_two false a b of_a of_b = of_b

-- addresses make a flow
ports_have_flow : (pair : Pair) (proto : Proto) (segment : List ℕ)
    → is_bare (flow_with_ports pair proto segment) ≡ false
unfolding flow_with_ports
ports_have_flow pair proto segment = one_of_two (ltb (length segment) 4) _ _ refl refl

between_has_flow : (pair : Pair) (payload : Option Carried)
    → is_bare (flow_between pair payload) ≡ false
unfolding flow_between
between_has_flow pair None = refl
between_has_flow pair (Some payload) =
    one_of_two (eqb payload.kind 6) _ _ (ports_have_flow pair Tcp payload.bytes)
    (one_of_two (eqb payload.kind 17) _ _ (ports_have_flow pair Udp payload.bytes) refl)

-- so a packet without a flow has no header, and no payload that is known
ipv4_bare : (packet : List ℕ) (t : Bool)
    → is_bare (cond t (flow_between (ipv4_pair packet) (ipv4_payload packet)) Bare) ≡ true
    → cond t (ipv4_payload packet) None ≡ None
ipv4_bare packet true h =
    absurd (let e = sym (between_has_flow (ipv4_pair packet) (ipv4_payload packet)) ∙ h in cc)
ipv4_bare packet false h = refl

ipv6_bare : (packet : List ℕ) (t : Bool)
    → is_bare (cond t (flow_between (ipv6_pair packet) (ipv6_payload packet)) Bare) ≡ true
    → cond t (ipv6_payload packet) None ≡ None
ipv6_bare packet true h =
    absurd (let e = sym (between_has_flow (ipv6_pair packet) (ipv6_payload packet)) ∙ h in cc)
ipv6_bare packet false h = refl

bare_payload : (kind : ℕ) (packet : List ℕ) → is_bare (ip_flow kind packet) ≡ true
    → payload_in kind packet ≡ None
unfolding ip_flow payload_in ipv4_flow ipv6_flow
bare_payload kind packet h = elim (eqb_tells kind 0x0800) [
  | inl a ↦ rw a.0 (ipv4_bare packet (is_ipv4 packet) (rw a.0 at h))
  | inr a ↦ elim (eqb_tells kind 0x86dd) [
    | inl b ↦ rw (a.0, b.0) (ipv6_bare packet (is_ipv6 packet) (rw (a.0, b.0) at h))
    | inr b ↦ rw (a.0, b.0) refl
  ]
]

bare_is : (flow : Flow) → is_bare flow ≡ true → flow ≡ Bare
bare_is Bare h = refl
bare_is (Two pair) h = absurd (cc)
bare_is (Four pair proto source destination) h = absurd (cc)

-- and no level is entered from it
bare_deepest : (n kind : ℕ) (packet : List ℕ) → is_bare (ip_flow kind packet) ≡ true
    → (deepest n kind packet).flow ≡ Bare
unfolding deepest entered held_in
bare_deepest zero kind packet h = bare_is (ip_flow kind packet) h
bare_deepest (suc n) kind packet h = rw (bare_payload kind packet h)
    (bare_is (ip_flow kind packet) h)

-- what was found is one level more than in the level that was entered
in_level : (n : ℕ) (here : Inner) (o : Option Carried) → here.depth ≡ 0
    → (above here (option_map (λ level. deepest (suc n) level.kind level.bytes) o)).depth ≤ suc n
    → ((level : Carried) → (deepest (suc n) level.kind level.bytes).depth ≤ n
    → deepest n level.kind level.bytes ≡ deepest (suc n) level.kind level.bytes)
    → above here (option_map (λ level. deepest n level.kind level.bytes) o) ≡ above here
    (option_map (λ level. deepest (suc n) level.kind level.bytes) o)
in_level n here None none few same = refl
in_level n here (Some level) none few same =
    ap (λ (i : Inner). above here (Some i)) (same level (omega arith))

no_level : (here : Inner) (o : Option Carried)
    → (above here (option_map (λ level. deepest 0 level.kind level.bytes) o)).depth ≤ 0
    → here ≡ above here (option_map (λ level. deepest 0 level.kind level.bytes) o)
no_level here None few = refl
no_level here (Some level) few = absurd (omega arith)

-- a level that is not reached does not count
shallow : (n kind : ℕ) (packet : List ℕ) → (deepest (suc n) kind packet).depth ≤ n
    → deepest n kind packet ≡ deepest (suc n) kind packet
unfolding deepest
shallow zero kind packet few = no_level (record { flow = ip_flow kind packet; depth = 0 })
    (entered kind packet) few
shallow (suc n) kind packet few =
    in_level n (record { flow = ip_flow kind packet; depth = 0 }) (entered kind packet) refl few
    (λ level fewer. shallow n level.kind level.bytes fewer)

-- no more levels are entered than may be
few_in : (n : ℕ) (here : Inner) (o : Option Carried) → here.depth ≡ 0
    → ((level : Carried) → (deepest n level.kind level.bytes).depth ≤ n)
    → (above here (option_map (λ level. deepest n level.kind level.bytes) o)).depth ≤ suc n
few_in n here None none few = omega (arith, none)
few_in n here (Some level) none few = let less = few level in omega arith

few_levels : (n kind : ℕ) (packet : List ℕ) → (deepest n kind packet).depth ≤ n
unfolding deepest
few_levels zero kind packet = omega arith
few_levels (suc n) kind packet =
    few_in n (record { flow = ip_flow kind packet; depth = 0 }) (entered kind packet) refl
    (λ level. few_levels n level.kind level.bytes)

few_of : (o : Option Carried) → (deepest_of o).depth ≤ 4
few_of None = omega arith
few_of (Some packet) = few_levels 4 packet.kind packet.bytes

pub has_few_levels : HasFewLevels
unfolding inner_of
has_few_levels frame = few_of (packet_in frame)

-- the IPv4 packet of a frame in a VXLAN
outer : ℕ → ℕ → ℕ → List ℕ → List ℕ
outer src dst vni frame = drop 14 (vxlan_bytes src dst vni frame)

length-headers : (src dst vni len : ℕ) → length (vxlan_headers src dst vni len) ≡ 50
unfolding vxlan_headers
length-headers src dst vni len = refl

outer_packet : (src dst vni : ℕ) (frame : List ℕ) → packet_in
    (vxlan_bytes src dst vni frame) ≡ carries 0x0800 (outer src dst vni frame)
unfolding packet_in after_tags outer vxlan_headers
outer_packet src dst vni frame =
    let size = length-append (vxlan_headers src dst vni (length frame)) frame in
    let a : ltb (length (vxlan_bytes src dst vni frame)) 14 ≡ false =
    le-ltb (length (vxlan_bytes src dst vni frame)) 14
    (omega (arith, size, length-headers src dst vni (length frame))) in
    rw a refl

length-outer : (src dst vni : ℕ) (frame : List ℕ) → length (outer src dst vni frame) ≡ 36 + length
    frame
unfolding outer
length-outer src dst vni frame =
    let size = length-append (vxlan_headers src dst vni (length frame)) frame in
    let less = length-drop 14 (vxlan_bytes src dst vni frame) in
    omega (arith, size, less, length-headers src dst vni (length frame))

outer_is : (src dst vni : ℕ) (frame : List ℕ) → is_ipv4 (outer src dst vni frame) ≡ true
unfolding is_ipv4 outer vxlan_headers
outer_is src dst vni frame =
    let size = length-outer src dst vni frame in
    let a : leb 20 (length (outer src dst vni frame)) ≡ true =
    le-leb 20 (length (outer src dst vni frame)) (omega (arith, size)) in
    rw a refl

fragment : (src dst vni : ℕ) (frame : List ℕ) → ipv4_payload (outer src dst vni frame) ≡ carries 17
    (drop 20 (outer src dst vni frame))
unfolding ipv4_payload outer vxlan_headers
fragment src dst vni frame = refl

outer_payload : (src dst vni : ℕ) (frame : List ℕ) → payload_in 0x0800
    (outer src dst vni frame) ≡ carries 17 (drop 20 (outer src dst vni frame))
unfolding payload_in
outer_payload src dst vni frame = rw (outer_is src dst vni frame) (fragment src dst vni frame)

segment_is : (src dst vni : ℕ) (frame : List ℕ)
    → is_vxlan (drop 20 (outer src dst vni frame)) ≡ true
unfolding is_vxlan outer vxlan_headers
segment_is src dst vni frame =
    let size = length-outer src dst vni frame in
    let a : leb 16 (length (drop 20 (outer src dst vni frame))) ≡ true =
    le-leb 16 (length (drop 20 (outer src dst vni frame)))
    (omega (arith, size, length-drop 20 (outer src dst vni frame))) in
    rw a refl

segment_holds : (src dst vni : ℕ) (frame : List ℕ)
    → drop 16 (drop 20 (outer src dst vni frame)) ≡ frame
unfolding outer vxlan_headers
segment_holds src dst vni frame = refl

outer_held : (src dst vni : ℕ) (frame : List ℕ) → held_in 0x0800
    (outer src dst vni frame) ≡ packet_in frame
unfolding held_in held_by vxlan_held
outer_held src dst vni frame =
    rw (
      outer_payload src dst vni frame,
      segment_is src dst vni frame,
      segment_holds src dst vni frame,
    ) refl

-- the level of the frame is entered where it has a flow
inner_level : (o : Option Carried) → (deepest_of o).flow ≢ Bare → (deepest_of o).depth < 4
    → (p : Carried) × (o ≡ Some p) × (option_and_then with_flow o ≡ Some p)
    × (deepest_of o ≡ deepest 3 p.kind p.bytes)
inner_level None flow few = absurd (flow refl)
inner_level (Some p) flow few = (
  p,
  refl,
  flows (is_bare (ip_flow p.kind p.bytes)) refl,
  sym (shallow 3 p.kind p.bytes
      (omega arith)),
)
  where
    flows : (t : Bool) → is_bare (ip_flow p.kind p.bytes) ≡ t → with_flow p ≡ Some p
    flows true is = absurd (flow (bare_deepest 4 p.kind p.bytes is))
    flows false is = rw is refl

pub is_one_level_more : IsOneLevelMore
unfolding inner_of deepest entered
is_one_level_more src dst vni frame flow few =
    let (p, is, level, same) = inner_level (packet_in frame) flow few in
    rw (outer_packet src dst vni frame, outer_held src dst vni frame, level, same) refl
