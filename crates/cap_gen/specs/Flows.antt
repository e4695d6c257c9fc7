-- The flow of a generated frame.
use Rattle.std.specs.Prelude.{◌≡◌, ℕ}
use Rattle.steer_base.specs.declared.flow.Flow.{Flow}
use Rattle.steer_base.specs.declared.flow.Flow.TheVariants.{Four}
use Rattle.steer_base.specs.declared.flow.Pair.TheVariants.{V4}
use Rattle.steer_base.specs.declared.flow.Proto.TheVariants.{Tcp}
use Rattle.flow_dissector.specs.Frame.{flow_of}
use Rattle.cap_gen.specs.Packets.{source_of, port_of, generated_frame}

-- the flow of generated packets with number k: TCP from its source to port 80 of 10.128.0.1
abbrev pub generated_flow : ℕ → Flow
generated_flow k = Four (V4 (source_of k) 0x0a800001) Tcp (port_of k) 80

-- the generated frame of flow k is dissected as this flow
abbrev pub FrameIsOfFlow : ℕ → Type 0
FrameIsOfFlow k = flow_of (generated_frame k) ≡ generated_flow k
