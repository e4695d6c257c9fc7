-- Folding a flow, so that both of its directions become equal.
use Rattle.std.specs.Prelude.{bit_xor}
use Rattle.steer_base.specs.declared.flow.Pair.{Pair}
use Rattle.steer_base.specs.declared.flow.Pair.TheVariants.{V4, V6}
use Rattle.steer_base.specs.declared.flow.Flow.{Flow}
use Rattle.steer_base.specs.declared.flow.Flow.TheVariants.{Bare, Two, Four}

-- the folded addresses: both are the XOR of the two
abbrev pub fold_pair : Pair → Pair
fold_pair (V4 src dst) = V4 (bit_xor src dst) (bit_xor src dst)
fold_pair (V6 src dst) = V6 (bit_xor src dst) (bit_xor src dst)

-- the folded flow: both addresses and both ports are the XOR of the two
abbrev pub fold_of : Flow → Flow
fold_of Bare = Bare
fold_of (Two pair) = Two (fold_pair pair)
fold_of (Four pair proto sport dport) =
    Four (fold_pair pair) proto (bit_xor sport dport) (bit_xor sport dport)

-- two addresses in the other order
abbrev pub swapped_pair : Pair → Pair
swapped_pair (V4 src dst) = V4 dst src
swapped_pair (V6 src dst) = V6 dst src

-- the flow in the other direction
abbrev pub swapped : Flow → Flow
swapped Bare = Bare
swapped (Two pair) = Two (swapped_pair pair)
swapped (Four pair proto sport dport) = Four (swapped_pair pair) proto dport sport
