-- Which flows a rule matches, and which of several rules is the first. The rules are a profile of
-- the n-tuple filters of the kernel's Documentation/networking/scaling, as ethtool sets them.
use Rattle.std.specs.Prelude.{ℕ, List, Bool, true, false, ◌==◌, ◌&&◌, ◌||◌, Option, bit_and}
use Rattle.std.specs.Prelude.{position}
use Rattle.steer_base.specs.declared.flow.Pair.{Pair}
use Rattle.steer_base.specs.declared.flow.Pair.TheVariants.{V4, V6}
use Rattle.steer_base.specs.declared.flow.Proto.{Proto}
use Rattle.steer_base.specs.declared.flow.Proto.TheVariants.{Tcp, Udp}
use Rattle.steer_base.specs.declared.flow.Flow.{Flow}
use Rattle.steer_base.specs.declared.flow.Flow.TheVariants.{Bare, Two, Four}
use Rattle.ntuple_rules.specs.declared.rule.RuleKind.{RuleKind}
use Rattle.ntuple_rules.specs.declared.rule.RuleKind.TheVariants.{Tcp4, Udp4, Tcp6, Udp6, Ip4, Ip6}
use Rattle.ntuple_rules.specs.declared.rule.Rule.{Rule}

-- whether two numbers are equal in the bits of a mask
abbrev pub agree : (mask a b : ℕ) → Bool
agree mask a b = bit_and a mask == bit_and b mask

-- whether a kind is that of all packets of this IP version, whatever they carry
abbrev pub fits_version : RuleKind → Pair → Bool
fits_version Ip4 (V4 src dst) = true
fits_version Ip6 (V6 src dst) = true
fits_version kind pair = false

-- whether a kind is that of this protocol over this IP version
abbrev pub fits_proto : RuleKind → Pair → Proto → Bool
fits_proto Tcp4 (V4 src dst) Tcp = true
fits_proto Udp4 (V4 src dst) Udp = true
fits_proto Tcp6 (V6 src dst) Tcp = true
fits_proto Udp6 (V6 src dst) Udp = true
fits_proto kind pair proto = false

-- whether both addresses agree with a rule under its masks
abbrev pub addresses_agree : Rule → Pair → Bool
addresses_agree rule (V4 src dst) =
    agree rule.srcmask rule.src src && agree rule.dstmask rule.dst dst
addresses_agree rule (V6 src dst) =
    agree rule.srcmask rule.src src && agree rule.dstmask rule.dst dst

-- whether both ports agree with a rule under its masks
abbrev pub ports_agree : Rule → ℕ → ℕ → Bool
ports_agree rule sport dport =
    agree rule.sportmask rule.sport sport && agree rule.dportmask rule.dport dport

-- Whether a rule matches a flow: its kind fits and each field agrees. A kind of a whole IP version
-- fits flows with ports too, and does not compare the ports.
abbrev pub matches : Rule → Flow → Bool
matches rule Bare = false
matches rule (Two pair) = fits_version rule.kind pair && addresses_agree rule pair
matches rule (Four pair proto sport dport) =
    (fits_version rule.kind pair
    || (fits_proto rule.kind pair proto && ports_agree rule sport dport))
    && addresses_agree rule pair

-- the index of the first rule that matches a flow, if one does
abbrev pub first_match : List Rule → Flow → Option ℕ
first_match rules flow = position (λ rule. matches rule flow) rules
