-- A place that is found is the place where the layer begins.
use Rattle.std.proofs.Common.{◌≡◌, ◌≤◌, ◌-◌, ℕ, List, length, drop, Option, Some, None, IfSome, ap}
use Rattle.std.proofs.Common.{sym, arith}
use Rattle.std.proofs.lemmas.List.{length-drop}
use Rattle.std.specs.Option.{option_map}
use Rattle.flow_dissector.specs.declared.ethernet.IpAt.{IpAt}
use Rattle.flow_dissector.specs.declared.payload.Payload.{Payload}
use Rattle.flow_dissector.specs.Ethernet.{packet_in}
use Rattle.flow_dissector.specs.Frame.{payload_in}
use Rattle.flow_dissector.specs.Places.{ip_at, payload_at, packet_from, payload_from}

-- what is left behind the first n items tells n
length-before : (n : ℕ) (bytes : List ℕ) → n ≤ length bytes → length bytes - length
    (drop n bytes) ≡ n
length-before n bytes within = rw length-drop (omega arith)

pub ip_at_found : (frame : List ℕ) (found : Option IpAt) → option_map
    (packet_from frame) found ≡ packet_in frame
    → IfSome found (λ at. at.start ≤ length frame) → found ≡ ip_at frame
unfolding ip_at
ip_at_found frame None is within = rw (← is)
ip_at_found frame (Some at) is within =
    rw (← is) (ap (λ (n : ℕ). Some (record at { start = n }))
    (sym (length-before at.start frame within)))

pub payload_at_found : (kind : ℕ) (packet : List ℕ) (found : Option Payload)
    → option_map (payload_from packet) found ≡ payload_in kind packet
    → IfSome found (λ at. at.start ≤ length packet) → found ≡ payload_at kind packet
unfolding payload_at
payload_at_found kind packet None is within = rw (← is)
payload_at_found kind packet (Some at) is within =
    rw (← is) (ap (λ (n : ℕ). Some (record at { start = n }))
    (sym (length-before at.start packet within)))
