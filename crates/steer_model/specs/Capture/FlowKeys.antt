-- The keys by which flows are kept in maps.
use Rattle.std.specs.Prelude.{ℕ, ◌+◌, ◌*◌, ◌<◌}
use Rattle.steer_base.specs.declared.flow.Flow.{Flow}
use Rattle.steer_base.specs.declared.flow.Flow.TheVariants.{Bare, Two, Four}
use Rattle.steer_base.specs.declared.flow.Pair.{Pair}
use Rattle.steer_base.specs.declared.flow.Pair.TheVariants.{V4, V6}
use Rattle.steer_base.specs.declared.flow.Proto.{Proto}
use Rattle.steer_base.specs.declared.flow.Proto.TheVariants.{Tcp, Udp}
use Rattle.steer_model.specs.declared.flow_key.FlowKey.{FlowKey}
use Rattle.steer_model.specs.declared.flow_key.FlowKey.TheVariants.{Short, Long}
use Rattle.steer_model.specs.declared.flow_key.TheConstants.{ADDRESSES, NO_PORTS, PORTS, TCP, UDP}

-- IPv4 addresses are below their number.
abbrev pub PairFits : Pair → Type 0
PairFits (V4 src dst) = (src < ADDRESSES) × (dst < ADDRESSES)
PairFits (V6 src dst) = Unit {0}

-- The ports and the IPv4 addresses of a flow are below their numbers.
abbrev pub FlowFits : Flow → Type 0
FlowFits Bare = Unit {0}
FlowFits (Two pair) = PairFits pair
FlowFits (Four pair proto src dst) = PairFits pair × (src < PORTS) × (dst < PORTS)

-- the kind of a flow with ports
abbrev pub kind_of : Proto → ℕ
kind_of Tcp = TCP
kind_of Udp = UDP

-- the kind of a flow and its ports in one number
abbrev pub head_of : (kind src dst : ℕ) → ℕ
head_of kind src dst = (kind * PORTS + src) * PORTS + dst

-- the key of a flow with these addresses, by its kind and ports
abbrev pub key_with : Pair → ℕ → FlowKey
key_with (V4 src dst) head = Short (record { head = head; addresses = src * ADDRESSES + dst })
key_with (V6 src dst) head = Long (record { head = head; src = src; dst = dst })

-- the key of a flow
abbrev pub key_of : Flow → FlowKey
key_of Bare = Short (record { head = 0; addresses = 0 })
key_of (Two pair) = key_with pair (head_of NO_PORTS 0 0)
key_of (Four pair proto src dst) = key_with pair (head_of (kind_of proto) src dst)
