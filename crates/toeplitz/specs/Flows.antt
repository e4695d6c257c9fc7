-- Which bytes of a flow are hashed, after the kinds of hash of the Intel 82599.
use Rattle.std.specs.Prelude.{ℕ, List, ◌++◌, Bool, false, ◌||◌, Option, Some, None, if◌then◌else◌}
use Rattle.std.specs.Prelude.{◌==◌}
use Rattle.std.specs.Int.{bit_at, w16, w32, w128, to_be_bytes}
use Rattle.std.specs.Option.{option_map}
use Rattle.steer_base.specs.declared.flow.Pair.{Pair}
use Rattle.steer_base.specs.declared.flow.Pair.TheVariants.{V4, V6}
use Rattle.steer_base.specs.declared.flow.Proto.{Proto}
use Rattle.steer_base.specs.declared.flow.Proto.TheVariants.{Tcp, Udp}
use Rattle.steer_base.specs.declared.flow.Flow.{Flow}
use Rattle.steer_base.specs.declared.flow.Flow.TheVariants.{Bare, Two, Four}
use Rattle.toeplitz.specs.Toeplitz.{hash_of}

-- whether the kind of hash with number k is enabled
abbrev pub is_on : ℕ → ℕ → Bool
is_on kinds k = bit_at kinds k == 1

-- the number of the kind that hashes the two addresses only
abbrev pub address_kind : Pair → ℕ
address_kind (V4 src dst) = 0
address_kind (V6 src dst) = 3

-- the number of the kind that hashes the addresses and the ports
abbrev pub port_kind : Pair → Proto → ℕ
port_kind (V4 src dst) Tcp = 1
port_kind (V4 src dst) Udp = 2
port_kind (V6 src dst) Tcp = 4
port_kind (V6 src dst) Udp = 5

-- the source address and then the destination address, in network order
abbrev pub addresses : Pair → List ℕ
addresses (V4 src dst) = to_be_bytes w32 src ++ to_be_bytes w32 dst
addresses (V6 src dst) = to_be_bytes w128 src ++ to_be_bytes w128 dst

-- the source port and then the destination port, in network order
abbrev pub ports : ℕ → ℕ → List ℕ
ports sport dport = to_be_bytes w16 sport ++ to_be_bytes w16 dport

-- the two addresses as the input of the hash, if their kind is enabled
abbrev pub input_of_addresses : Pair → ℕ → Option (List ℕ)
input_of_addresses pair kinds = if is_on kinds (address_kind pair) then Some
    (addresses pair) else None

-- The input of the hash for a flow: addresses and ports if their kind is enabled, else only the
-- addresses if theirs is, else none.
abbrev pub input_of : Flow → ℕ → Option (List ℕ)
input_of Bare kinds = None
input_of (Two pair) kinds = input_of_addresses pair kinds
input_of (Four pair proto sport dport) kinds =
    if is_on kinds (port_kind pair proto) then Some (addresses pair ++ ports sport dport) else
    input_of_addresses pair kinds

-- the hash of a flow under a key with the enabled kinds, if one of them applies
abbrev pub hash_of_flow : ℕ → Flow → ℕ → Option ℕ
hash_of_flow key flow kinds = option_map (hash_of key) (input_of flow kinds)

-- whether a kind that applies to this flow is enabled
abbrev pub has_kind : Flow → ℕ → Bool
has_kind Bare kinds = false
has_kind (Two pair) kinds = is_on kinds (address_kind pair)
has_kind (Four pair proto sport dport) kinds = is_on kinds (port_kind pair proto) || is_on kinds
    (address_kind pair)
