-- The flow of a generated frame.
use Rattle.std.proofs.Common.{ℕ, ◌<◌, List, [], ◌∷◌, ◌++◌, ◌^◌, refl, arith}
use Rattle.byteorder.specs.Numbers.{big_number-reads_back}
use Rattle.flow_dissector.specs.Ethernet.{after_tags, packet_in}
use Rattle.flow_dissector.specs.Frame.{ip_flow, flow_of}
use Rattle.flow_dissector.specs.Ipv4.{is_ipv4, ipv4_payload, ipv4_flow}
use Rattle.flow_dissector.specs.Ports.{flow_with_ports, flow_between}
use Rattle.cap_gen.specs.Packets.{source_of, port_of, tcp_header, generated_frame}
use Rattle.cap_gen.specs.Flows.{FrameIsOfFlow}

pub its_flow : (k : ℕ) → k < 65536 → FrameIsOfFlow k
unfolding generated_frame flow_of packet_in after_tags ip_flow ipv4_flow is_ipv4 ipv4_payload
    flow_between
    flow_with_ports
its_flow k few =
    let source_fits : source_of k < 256 ^ 4 = omega (arith, few) in
    let port_fits : port_of k < 256 ^ 2 = omega arith in
    let rest : List ℕ = (10 ∷ 128 ∷ 0 ∷ 1 ∷ []) ++ tcp_header k in
    let after_port : List ℕ = 0 ∷ 80 ∷ 0 ∷ 0 ∷ 0 ∷ 0 ∷ 0 ∷ 0 ∷ 0 ∷ 0 ∷ 0x50 ∷ 0 ∷ 0 ∷ 0 ∷ 0 ∷ 0 ∷ 0
    ∷ 0 ∷ [] in
    rw (
      big_number-reads_back 4 (source_of k) rest source_fits,
      big_number-reads_back 2
          (port_of k) after_port port_fits,
    ) refl
