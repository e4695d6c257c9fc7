-- The inner flow of a frame: that of the last level that is entered.
use Rattle.std.specs.Prelude.{ℕ, zero, suc, ◌+◌, List, Option, Some, None}
use Rattle.std.specs.Option.{option_map}
use Rattle.steer_base.specs.declared.flow.Flow.TheVariants.{Bare}
use Rattle.flow_dissector.specs.Carried.{Carried}
use Rattle.flow_dissector.specs.Ethernet.{packet_in}
use Rattle.flow_dissector.specs.Frame.{ip_flow}
use Rattle.tunnel_dissector.specs.declared.inner.Inner.{Inner}
use Rattle.tunnel_dissector.specs.Levels.{entered}

-- the flow found one level deeper, or else the flow of this level
abbrev pub above : Inner → Option Inner → Inner
above here None = here
above here (Some inner) = record { flow = inner.flow; depth = inner.depth + 1 }

-- the inner flow of an IP packet, from which at most this many levels are entered
unfoldable pub deepest : ℕ → ℕ → List ℕ → Inner
deepest zero kind packet = record { flow = ip_flow kind packet; depth = 0 }
deepest (suc left) kind packet =
    above (record { flow = ip_flow kind packet; depth = 0 })
    (option_map (λ level. deepest left level.kind level.bytes) (entered kind packet))

-- the inner flow of a frame: at most four levels are entered from its IP packet
abbrev pub deepest_of : Option Carried → Inner
deepest_of None = record { flow = Bare; depth = 0 }
deepest_of (Some packet) = deepest 4 packet.kind packet.bytes

-- the inner flow of a frame and its depth
unfoldable pub inner_of : List ℕ → Inner
inner_of frame = deepest_of (packet_in frame)
