-- Lemmas about frames in tunnels.
use Rattle.std.specs.Prelude.{◌≡◌, ◌≢◌, ◌<◌, ◌≤◌, ℕ, ◌+◌, List}
use Rattle.steer_base.specs.declared.flow.Flow.TheVariants.{Bare}
use Rattle.tunnel_dissector.specs.Inner.{inner_of}
use Rattle.tunnel_dissector.specs.Writing.{vxlan_bytes}

-- a frame in a VXLAN has the inner flow of the frame, and a depth greater by one
abbrev pub IsOneLevelMore : Type 0
IsOneLevelMore =
    (src dst vni : ℕ) (frame : List ℕ) → (inner_of frame).flow ≢ Bare → (inner_of frame).depth < 4
    → inner_of (vxlan_bytes src dst vni frame)
    ≡ record { flow = (inner_of frame).flow; depth = (inner_of frame).depth + 1 }

-- no frame has more than four levels
abbrev pub HasFewLevels : Type 0
HasFewLevels = (frame : List ℕ) → (inner_of frame).depth ≤ 4
