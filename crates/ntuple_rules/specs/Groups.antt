-- How a classifier finds the first match: rules of the same kind with the same masks form a group,
-- in which the masked bits are looked up at once.
use Rattle.std.specs.Prelude.{◌≡◌, ◌≤◌, ℕ, List, [], ◌∷◌, ◌++◌, length, Bool, true, false}
use Rattle.std.specs.Prelude.{Option, Some, None, option_and_then, bit_and, min, ◌==◌, ◌&&◌}
use Rattle.std.specs.Prelude.{if◌then◌else◌, is_some, ◌⊎◌}
use Rattle.std.specs.List.{slice_get}
use Rattle.std.specs.Option.{option_or}
use Rattle.indexmap.specs.IndexMap.{get}
use Rattle.steer_base.specs.declared.flow.Pair.{Pair}
use Rattle.steer_base.specs.declared.flow.Pair.TheVariants.{V4, V6}
use Rattle.steer_base.specs.declared.flow.Flow.{Flow}
use Rattle.steer_base.specs.declared.flow.Flow.TheVariants.{Bare, Two, Four}
use Rattle.ntuple_rules.specs.declared.rule.RuleKind.{RuleKind}
use Rattle.ntuple_rules.specs.declared.rule.RuleKind.TheVariants.{Tcp4, Udp4, Tcp6, Udp6, Ip4, Ip6}
use Rattle.ntuple_rules.specs.declared.rule.Rule.{Rule}
use Rattle.ntuple_rules.specs.declared.fields.Fields.{Fields}
use Rattle.ntuple_rules.specs.declared.fields.Shape.{Shape}
use Rattle.ntuple_rules.specs.declared.group.Group.{Group}
use Rattle.ntuple_rules.specs.Matches.{first_match, fits_version, fits_proto, matches}

-- the masked bits of some fields
abbrev pub masked : Fields → Fields → Fields
masked mask fields = record {
  src = bit_and fields.src mask.src;
  dst = bit_and fields.dst mask.dst;
  sport = bit_and fields.sport mask.sport;
  dport = bit_and fields.dport mask.dport;
}

-- the fields of two addresses and two ports
abbrev pub fields_with : Pair → ℕ → ℕ → Fields
fields_with (V4 src dst) sport dport = record { src = src; dst = dst; sport = sport; dport = dport }
fields_with (V6 src dst) sport dport = record { src = src; dst = dst; sport = sport; dport = dport }

-- the fields of a flow that a kind compares, if the kind fits
abbrev pub looked_at : RuleKind → Flow → Option Fields
looked_at kind Bare = None
looked_at kind (Two pair) = if fits_version kind pair then Some (fields_with pair 0 0) else None
looked_at kind (Four pair proto sport dport) =
    if fits_version kind pair then Some (fields_with pair 0 0) else
    if fits_proto kind pair proto then Some (fields_with pair sport dport) else None

-- whether a kind compares the ports
abbrev pub has_ports : RuleKind → Bool
has_ports Tcp4 = true
has_ports Udp4 = true
has_ports Tcp6 = true
has_ports Udp6 = true
has_ports Ip4 = false
has_ports Ip6 = false

-- the kind and the masks of a rule
abbrev pub shape_of : Rule → Shape
shape_of rule = record {
  kind = rule.kind;
  mask = record {
    src = rule.srcmask;
    dst = rule.dstmask;
    sport = if has_ports rule.kind then rule.sportmask else 0;
    dport = if has_ports rule.kind then rule.dportmask else 0;
  };
}

-- the masked bits of a rule's fields
abbrev pub significant_bits : Rule → Fields
significant_bits rule =
    masked (shape_of rule).mask
    (record { src = rule.src; dst = rule.dst; sport = rule.sport; dport = rule.dport })

-- whether two sets of fields are equal
abbrev pub same_fields : Fields → Fields → Bool
same_fields a b =
    a.src == b.src && (a.dst == b.dst && (a.sport == b.sport && a.dport == b.dport))

-- the least number of a rule in a group that matches a flow
abbrev pub found_in : Group → Flow → Option ℕ
found_in group flow =
    option_and_then (λ fields. get same_fields group.numbers (masked group.shape.mask fields))
    (looked_at group.shape.kind flow)

-- the lesser of two optional numbers
abbrev pub lesser : Option ℕ → Option ℕ → Option ℕ
lesser None other = other
lesser (Some n) None = Some n
lesser (Some n) (Some m) = Some (min n m)

-- the least number that some groups have for a flow
abbrev pub found_among : List Group → Flow → Option ℕ
found_among [] flow = None
found_among (group ∷ groups) flow = lesser (found_in group flow) (found_among groups flow)

-- these groups find for every flow the first match of these rules
abbrev pub Finds : List Group → List Rule → Type 0
Finds groups rules = (flow : Flow) → found_among groups flow ≡ first_match rules flow

-- no number of a group is less than that of its first rule
abbrev pub StartsAtFirst : Group → Type 0
StartsAtFirst group =
    (key : Fields) (n : ℕ) → get same_fields group.numbers key ≡ Some n → group.first ≤ n

-- groups stand in the order of their first rules, whose numbers are `low` to `high`
abbrev pub InOrder : ℕ → List Group → ℕ → Type 0
InOrder low [] high = low ≤ high
InOrder low (group ∷ groups) high =
    (low ≤ group.first) × StartsAtFirst group × InOrder group.first groups high

-- where those groups stood in the order of their first rules, these stand so
abbrev pub KeepsOrder : List Group → ℕ → List Group → ℕ → Type 0
KeepsOrder old before new now = InOrder 0 old before → InOrder 0 new now

-- the least number that the group at a place has for a flow
abbrev pub found_at : List Group → ℕ → Flow → Option ℕ
found_at groups place flow =
    option_and_then (λ group. found_in group flow) (slice_get groups place)

-- a group that has a rule for a flow is the one at this place, and that rule is this one, or it had
-- a rule for it before
abbrev pub FindsMoreAt : List Group → List Group → ℕ → Rule → Type 0
FindsMoreAt old new place rule = (i : ℕ) (flow : Flow) → is_some (found_at new i flow) ≡ true
    → is_some (found_at old i flow) ≡ true ⊎ ((i ≡ place) × (matches rule flow ≡ true))

-- the groups at each place find nothing that they did not find before
abbrev pub FindsNoMore : List Group → List Group → Type 0
FindsNoMore old new = (i : ℕ) (flow : Flow) → is_some (found_at new i flow) ≡ true
    → is_some (found_at old i flow) ≡ true

-- these groups find for every flow what those did
abbrev pub FindsAsBefore : List Group → List Group → Type 0
FindsAsBefore old new = (flow : Flow) → found_among new flow ≡ found_among old flow

-- the group at an index has this shape
pub record IsAt (groups : List Group) (place : ℕ) (shape : Shape) : Type 0 where
  pub group : Group
  pub stands : slice_get groups place ≡ Some group
  pub shaped : group.shape ≡ shape

-- a group of this shape and with this first rule that finds nothing
pub record IsNew (group : Group) (shape : Shape) (number : ℕ) : Type 0 where
  pub shaped : group.shape ≡ shape
  pub starts : group.first ≡ number
  pub empty : (key : Fields) → get same_fields group.numbers key ≡ None

-- a group after a number was added at a key that had none
pub record Adds (old new : Group) (key : Fields) (number : ℕ) : Type 0 where
  pub shaped : new.shape ≡ old.shape
  pub starts : new.first ≡ old.first
  pub numbers : (other : Fields) → get same_fields new.numbers other
      ≡ option_or (get same_fields old.numbers other)
      (if same_fields key other then Some number else None)

-- groups that found the first match of some rules still find it after one more rule is added at the
-- end
abbrev pub AddsAt : List Group → List Group → ℕ → Rule → Type 0
AddsAt old new number rule =
    (rules : List Rule) → Finds old rules → number ≡ length rules → Finds new (rules ++ rule ∷ [])
