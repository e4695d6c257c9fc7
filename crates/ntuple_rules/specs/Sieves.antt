-- How a classifier passes over groups that have no rule for a flow: by sets of groups, one for each
-- value of each digit of each field.
use Rattle.std.specs.Prelude.{◌≡◌, ℕ, ◌+◌, ◌*◌, ◌/◌, ◌%◌, ◌^◌, ◌<◌, ◌≤◌, List, length, slice_get}
use Rattle.std.specs.Prelude.{IfSome, MatchOption, true, if◌then◌else◌, is_some, drop, Option}
use Rattle.std.specs.Int.{bit_at}
use Rattle.steer_base.specs.declared.flow.Pair.{Pair}
use Rattle.steer_base.specs.declared.flow.Pair.TheVariants.{V4, V6}
use Rattle.steer_base.specs.declared.flow.Flow.{Flow}
use Rattle.steer_base.specs.declared.flow.Flow.TheVariants.{Bare, Two, Four}
use Rattle.ntuple_rules.specs.declared.rule.RuleKind.{RuleKind}
use Rattle.ntuple_rules.specs.declared.rule.Rule.{Rule}
use Rattle.ntuple_rules.specs.declared.fields.Fields.{Fields}
use Rattle.ntuple_rules.specs.declared.group.Group.{Group}
use Rattle.ntuple_rules.specs.declared.sieve.Sieve.{Sieve}
use Rattle.ntuple_rules.specs.declared.sieve.TheConstants.{ALWAYS, DIGIT_BITS, DPORT_ROW, DST_ROW}
use Rattle.ntuple_rules.specs.declared.sieve.TheConstants.{GROUPS, IPV4_DIGITS, IPV6_DIGITS}
use Rattle.ntuple_rules.specs.declared.sieve.TheConstants.{PORT_DIGITS, SPORT_ROW, VALUES}
use Rattle.ntuple_rules.specs.Groups.{fields_with, found_among, found_at, lesser, Finds, InOrder}
use Rattle.ntuple_rules.specs.Matches.{matches}
use Rattle.ntuple_rules.specs.Readings.{is_ipv4}

-- a digit of a number, the lowest first
abbrev pub digit_at : ℕ → ℕ → ℕ
digit_at number k = number / 2 ^ (DIGIT_BITS * k) % VALUES

-- how many digits the addresses of a pair have
abbrev pub digits_of : Pair → ℕ
digits_of (V4 src dst) = IPV4_DIGITS
digits_of (V6 src dst) = IPV6_DIGITS

-- how many digits the addresses of a kind have
abbrev pub digits_of_kind : RuleKind → ℕ
digits_of_kind kind = if is_ipv4 kind then IPV4_DIGITS else IPV6_DIGITS

-- the set at an index, if there is one, has the group at this place
abbrev pub IsIn : List ℕ → ℕ → ℕ → Type 0
IsIn sets index place = IfSome (slice_get sets index) (λ set. bit_at set place ≡ 1)

-- these sets have each group that those had
pub record Keeps (old new : List ℕ) : Type 0 where
  pub size : length new ≡ length old
  pub kept : (index place : ℕ) → IsIn old index place → IsIn new index place

-- the sets of a number's digits have the group at this place; those of the lowest digit are in this
-- row, with a set for each value
abbrev pub AllowsNumber : List ℕ → (row digits place number : ℕ) → Type 0
AllowsNumber sets row digits place number =
    (k : ℕ) → k < digits → IsIn sets (VALUES * (row + k) + digit_at number k) place

-- the sets of all four fields have the group at this place
pub record AllowsFields (sets : List ℕ) (digits place : ℕ) (fields : Fields) : Type 0 where
  pub src : AllowsNumber sets 0 digits place fields.src
  pub dst : AllowsNumber sets DST_ROW digits place fields.dst
  pub sport : AllowsNumber sets SPORT_ROW PORT_DIGITS place fields.sport
  pub dport : AllowsNumber sets DPORT_ROW PORT_DIGITS place fields.dport

-- by its sets, the group at this place may have a rule for a flow
abbrev pub AllowsFlow : List ℕ → ℕ → Flow → Type 0
AllowsFlow sets place Bare = ⊥
AllowsFlow sets place (Two pair) =
    AllowsFields sets (digits_of pair) place (fields_with pair 0 0)
AllowsFlow sets place (Four pair proto sport dport) =
    AllowsFields sets (digits_of pair) place (fields_with pair sport dport)

-- the group at a place of all groups may have a rule for a flow, since its sieve says so or it is
-- one of the first `ALWAYS`, which are in no sieve
abbrev pub AllowsAt : List Sieve → ℕ → Flow → Type 0
AllowsAt sieves place flow =
    ALWAYS ≤ place → MatchOption (slice_get sieves (place / GROUPS)) ⊥
    (λ sieve. AllowsFlow sieve.sets.items (place % GROUPS) flow)

-- where those sieves let a flow through, these let it through
abbrev pub AllowsMore : List Sieve → List Sieve → Type 0
AllowsMore old new = (place : ℕ) (flow : Flow) → AllowsAt old place flow → AllowsAt new place flow

-- each flow that a rule matches is let through at a place
abbrev pub AllowsRule : List Sieve → ℕ → Rule → Type 0
AllowsRule sieves place rule =
    (flow : Flow) → matches rule flow ≡ true → AllowsAt sieves place flow

-- a flow is let through at each group that has a rule for it
abbrev pub Sifts : List Group → List Sieve → Type 0
Sifts groups sieves = (place : ℕ) (flow : Flow) → is_some (found_at groups place flow) ≡ true
    → AllowsAt sieves place flow

-- groups in the order of their first rules, which find for every flow the first match of these
-- rules, and sieves that let it through there
pub record Serves (groups : List Group) (sieves : List Sieve) (rules : List Rule) : Type 0 where
  pub finds : Finds groups rules
  pub order : InOrder 0 groups (length rules)
  pub sifts : Sifts groups sieves

-- what is found now, or less in the groups from a place on, is what was found before, or less in
-- the groups from an earlier place on
abbrev pub GoesOn : List Group → Flow → Option ℕ → ℕ → Option ℕ → ℕ → Type 0
GoesOn groups flow old from new to =
    lesser new (found_among (drop to groups) flow)
    ≡ lesser old (found_among (drop from groups) flow)
