-- Reads the parts of rules from a JSON value, one after another, up to the first that is wrong.
use Rattle.std.specs.Prelude.{ℕ, List, [], ◌∷◌, Bool, true, false, Option, Some, None, Result, Ok}
use Rattle.std.specs.Prelude.{codes, bytes_eq, if◌then◌else◌}
use Rattle.std.specs.Int.{w32, w128, from_be_bytes}
use Rattle.std.specs.Option.{option_map}
use Rattle.std.specs.Result.{result_ok}
use Rattle.hex.specs.Hex.{decode_sized}
use Rattle.serde_json.specs.Data.{Data}
use Rattle.serde_json.specs.Find.{as_bool, as_str}
use Rattle.plan_reader.specs.declared.faults.cause.Cause.{Cause}
use Rattle.plan_reader.specs.declared.faults.fault.Fault.{Fault}
use Rattle.plan_reader.specs.declared.plan_fault.PlanFault.{PlanFault}
use Rattle.plan_reader.specs.Causes.{◌>>=◌, kind}
use Rattle.plan_reader.specs.Faults.{here}
use Rattle.plan_reader.specs.PlanTexts.{json_of, named, value_of}
use Rattle.plan_reader.specs.Readings.{an_object, list_of, number_between, number_below, only}
use Rattle.plan_reader.specs.Readings.{optional}
use Rattle.plan_reader.specs.Readings.{required}
use Rattle.ntuple_rules.specs.declared.rule.RuleKind.{RuleKind}
use Rattle.ntuple_rules.specs.declared.rule.RuleKind.TheVariants.{Tcp4, Udp4, Tcp6, Udp6, Ip4, Ip6}
use Rattle.ntuple_rules.specs.declared.rule.Rule.{Rule}
use Rattle.ntuple_rules.specs.declared.rules.Rules.{Rules}
use Rattle.ntuple_rules.specs.declared.rules.TheConstants.{MAX_RULES}

-- ---- the parts of a rule

-- the kind that a text names
unfoldable pub kind_named : List ℕ → Option RuleKind
kind_named text =
    if bytes_eq text (codes "tcp4") then Some Tcp4 else
    if bytes_eq text (codes "udp4") then Some Udp4 else
    if bytes_eq text (codes "tcp6") then Some Tcp6 else
    if bytes_eq text (codes "udp6") then Some Udp6 else
    if bytes_eq text (codes "ip4") then Some Ip4 else
    if bytes_eq text (codes "ip6") then Some Ip6 else None

-- reads the kind of a rule
unfoldable pub kind_of : Data → Result RuleKind Cause
kind_of d = do
  text ← kind (as_str d)
  kind (kind_named text)

-- whether the addresses of a kind are those of IPv4
abbrev pub is_ipv4 : RuleKind → Bool
is_ipv4 Tcp4 = true
is_ipv4 Udp4 = true
is_ipv4 Ip4 = true
is_ipv4 Tcp6 = false
is_ipv4 Udp6 = false
is_ipv4 Ip6 = false

-- reads an IPv4 address or mask: 8 hexadecimal digits
unfoldable pub ipv4_address : List ℕ → Option ℕ
ipv4_address text = option_map (from_be_bytes w32) (result_ok (decode_sized text 4))

-- reads an IPv6 address or mask: 32 hexadecimal digits
unfoldable pub ipv6_address : List ℕ → Option ℕ
ipv6_address text = option_map (from_be_bytes w128) (result_ok (decode_sized text 16))

-- reads an address or a mask of IPv4 or IPv6
unfoldable pub address_of : Bool → Data → Result ℕ Cause
address_of ipv4 d = do
  text ← kind (as_str d)
  kind (if ipv4 then ipv4_address text else ipv6_address text)

-- reads an address or a mask at a key, 0 if it is absent
abbrev pub address_at : Bool → List ℕ → Data → Result ℕ Fault
address_at ipv4 key d = optional key (λ v. here (address_of ipv4 v)) 0 d

-- reads a port or a mask at a key, 0 if it is absent
abbrev pub port_at : List ℕ → Data → Result ℕ Fault
port_at key d = optional key (λ v. here (number_between 0 65535 v)) 0 d

-- all keys that a rule may have, in the order in which they are read
abbrev pub rule_keys : List (List ℕ)
rule_keys =
    codes "kind" ∷ codes "src" ∷ codes "srcmask" ∷ codes "dst" ∷ codes "dstmask" ∷ codes "sport"
    ∷ codes "sportmask" ∷ codes "dport" ∷ codes "dportmask" ∷ codes "queue" ∷ []

-- reads a rule over this many receive queues
unfoldable pub rule_of : ℕ → Data → Result Rule Fault
rule_of queues d = do
  is ← an_object d
  rule_kind ← required (codes "kind") (λ v. here (kind_of v)) d
  src ← address_at (is_ipv4 rule_kind) (codes "src") d
  srcmask ← address_at (is_ipv4 rule_kind) (codes "srcmask") d
  dst ← address_at (is_ipv4 rule_kind) (codes "dst") d
  dstmask ← address_at (is_ipv4 rule_kind) (codes "dstmask") d
  sport ← port_at (codes "sport") d
  sportmask ← port_at (codes "sportmask") d
  dport ← port_at (codes "dport") d
  dportmask ← port_at (codes "dportmask") d
  queue ← required (codes "queue") (λ v. here (number_below queues v)) d
  none ← only rule_keys d
  Ok (record {
    kind = rule_kind;
    src = src;
    srcmask = srcmask;
    dst = dst;
    dstmask = dstmask;
    sport = sport;
    sportmask = sportmask;
    dport = dport;
    dportmask = dportmask;
    queue = queue;
  })

-- ---- the rules

-- reads `true` or `false`
abbrev pub truth : Data → Result Bool Cause
truth d = kind (as_bool d)

-- all keys that the rules may have, in the order in which they are read
abbrev pub rules_keys : List (List ℕ)
rules_keys =
    codes "queues" ∷ codes "kinds" ∷ codes "symmetric" ∷ codes "inner" ∷ codes "rules" ∷ []

-- the rules of a JSON value, or the first thing that is wrong with it
unfoldable pub rules_in : Data → Result Rules Fault
rules_in d = do
  is ← an_object d
  queues ← required (codes "queues") (λ v. here (number_between 1 16 v)) d
  kinds ← optional (codes "kinds") (λ v. here (number_between 0 63 v)) 63 d
  symmetric ← optional (codes "symmetric") (λ v. here (truth v)) false d
  inner ← optional (codes "inner") (λ v. here (truth v)) false d
  rules ← required (codes "rules") (list_of (rule_of queues) 0 MAX_RULES) d
  none ← only rules_keys d
  Ok (record {
    queues = queues;
    kinds = kinds;
    symmetric = symmetric;
    inner = inner;
    rules = rules;
  })

-- the rules of bytes, or the first thing that is wrong with them
abbrev pub rules_of_bytes : List ℕ → Result Rules Fault
rules_of_bytes bytes = do
  d ← json_of (value_of bytes)
  rules_in d

-- the rules of bytes, or their public fault
unfoldable pub rules_of : List ℕ → Result Rules PlanFault
rules_of bytes = named (rules_of_bytes bytes)
