-- What the sieve of a rule's group allows: each flow that the rule matches.
use Rattle.std.proofs.Common.{◌≡◌, ◌<◌, ◌/◌, ◌%◌, ◌≢◌, ℕ, zero, suc, List, [], ◌∷◌, length, set}
use Rattle.std.proofs.Common.{get_or, slice_get, Bool, true, false, Option, Some, ◌&&◌, ◌||◌}
use Rattle.std.proofs.Common.{MatchOption, bit_and, eqb, refl, ap, sym, subst, ◌∙◌, arith}
use Rattle.std.proofs.lemmas.Bool.{and_parts, eqb-true, eqb-false}
use Rattle.std.proofs.lemmas.List.{get_or-set_same, length-set}
use Rattle.std.proofs.lemmas.Option.{slice_get-get_or}
use Rattle.steer_base.specs.declared.flow.Pair.{Pair}
use Rattle.steer_base.specs.declared.flow.Pair.TheVariants.{V4, V6}
use Rattle.steer_base.specs.declared.flow.Proto.{Proto}
use Rattle.steer_base.specs.declared.flow.Flow.{Flow}
use Rattle.steer_base.specs.declared.flow.Flow.TheVariants.{Bare, Two, Four}
use Rattle.ntuple_rules.specs.declared.rule.RuleKind.{RuleKind}
use Rattle.ntuple_rules.specs.declared.rule.RuleKind.TheVariants.{Tcp4, Udp4, Tcp6, Udp6, Ip4, Ip6}
use Rattle.ntuple_rules.specs.declared.rule.Rule.{Rule}
use Rattle.ntuple_rules.specs.declared.fields.Fields.{Fields}
use Rattle.ntuple_rules.specs.declared.sieve.Sieve.{Sieve}
use Rattle.ntuple_rules.specs.Groups.{fields_with, masked, shape_of, significant_bits}
use Rattle.ntuple_rules.specs.Matches.{addresses_agree, fits_proto, fits_version, matches}
use Rattle.ntuple_rules.specs.Matches.{ports_agree}
use Rattle.ntuple_rules.specs.Sieves.{digits_of, digits_of_kind, AllowsFields, AllowsFlow}
use Rattle.ntuple_rules.specs.Sieves.{AllowsMore, AllowsNumber, AllowsRule, Keeps}
use Rattle.ntuple_rules.proofs.Found.{same_key}
use Rattle.ntuple_rules.proofs.Matched.{has_key, no_ports, proto_key, some_ports, version_key}
use Rattle.ntuple_rules.proofs.Sieved.{keeps_number}

-- ---- the flows that a rule matches

-- the addresses of a flow that a kind fits have as many digits as those of the kind
version_digits : (kind : RuleKind) (pair : Pair) → fits_version kind pair ≡ true
    → digits_of_kind kind ≡ digits_of pair
version_digits Ip4 (V4 s d) e = refl
version_digits Ip6 (V6 s d) e = refl
version_digits Ip4 (V6 s d) e = absurd cc
version_digits Ip6 (V4 s d) e = absurd cc
version_digits Tcp4 pair e = absurd cc
version_digits Udp4 pair e = absurd cc
version_digits Tcp6 pair e = absurd cc
version_digits Udp6 pair e = absurd cc

proto_digits : (kind : RuleKind) (pair : Pair) (proto : Proto) → fits_proto kind pair proto ≡ true
    → digits_of_kind kind ≡ digits_of pair
proto_digits Tcp4 (V4 s d) proto e = refl
proto_digits Udp4 (V4 s d) proto e = refl
proto_digits Tcp6 (V6 s d) proto e = refl
proto_digits Udp6 (V6 s d) proto e = refl
proto_digits Tcp4 (V6 s d) proto e = absurd cc
proto_digits Udp4 (V6 s d) proto e = absurd cc
proto_digits Tcp6 (V4 s d) proto e = absurd cc
proto_digits Udp6 (V4 s d) proto e = absurd cc
proto_digits Ip4 pair proto e = absurd cc
proto_digits Ip6 pair proto e = absurd cc

-- the sets have the group at a place for all numbers that agree with a rule
pub record Admits (sets : List ℕ) (place : ℕ) (rule : Rule) : Type 0 where
  pub src : (n : ℕ) → bit_and n (shape_of rule).mask.src ≡ (significant_bits rule).src
      → AllowsNumber sets 0 (digits_of_kind rule.kind) place n
  pub dst : (n : ℕ) → bit_and n (shape_of rule).mask.dst ≡ (significant_bits rule).dst
      → AllowsNumber sets 32 (digits_of_kind rule.kind) place n
  pub sport : (n : ℕ) → bit_and n (shape_of rule).mask.sport ≡ (significant_bits rule).sport
      → AllowsNumber sets 64 4 place n
  pub dport : (n : ℕ) → bit_and n (shape_of rule).mask.dport ≡ (significant_bits rule).dport
      → AllowsNumber sets 68 4 place n

module _ (sets : List ℕ) (place : ℕ) (rule : Rule) (admits : Admits sets place rule) where
  with_fields : (digits : ℕ) (fields : Fields) → digits_of_kind rule.kind ≡ digits
      → has_key rule (Some fields) ≡ true → AllowsFields sets digits place fields
  with_fields digits fields count has =
      let same : significant_bits rule ≡ masked (shape_of rule).mask fields =
      same_key (significant_bits rule) (masked (shape_of rule).mask fields) has in
      subst (λ many. AllowsFields sets many place fields) count
      (record {
        src = admits.src fields.src (sym (ap (λ (f : Fields). f.src) same));
        dst = admits.dst fields.dst (sym (ap (λ (f : Fields). f.dst) same));
        sport = admits.sport fields.sport (sym (ap (λ (f : Fields). f.sport) same));
        dport = admits.dport fields.dport (sym (ap (λ (f : Fields). f.dport) same));
      })

  version_fields : (pair : Pair) (p q : ℕ) → fits_version rule.kind pair ≡ true
      → addresses_agree rule pair ≡ true
      → AllowsFields sets (digits_of pair) place (fields_with pair p q)
  version_fields pair p q fits agree =
      with_fields (digits_of pair) (fields_with pair p q) (version_digits rule.kind pair fits)
      (sym (version_key rule pair p q (no_ports rule.kind pair fits)) ∙ agree)

  four_fields : (pair : Pair) (proto : Proto) (p q : ℕ) (b c : Bool)
      → fits_version rule.kind pair ≡ b → fits_proto rule.kind pair proto ≡ c
      → (b || (c && ports_agree rule p q)) && addresses_agree rule pair ≡ true
      → AllowsFields sets (digits_of pair) place (fields_with pair p q)
  four_fields pair proto p q true c fits fits' e = version_fields pair p q fits e
  four_fields pair proto p q false true fits fits' e =
      with_fields (digits_of pair) (fields_with pair p q)
      (proto_digits rule.kind pair proto fits')
      (sym (proto_key rule pair p q (some_ports rule.kind pair proto fits')) ∙ e)
  four_fields pair proto p q false false fits fits' e = absurd cc

  pub rule_allowed : (flow : Flow) → matches rule flow ≡ true → AllowsFlow sets place flow
  rule_allowed Bare e = absurd cc
  rule_allowed (Two pair) e =
      let parts = and_parts _ _ e in version_fields pair 0 0 parts.0 parts.1
  rule_allowed (Four pair proto p q) e =
      four_fields pair proto p q (fits_version rule.kind pair)
      (fits_proto rule.kind pair proto) refl refl e

-- ---- sieves

keeps_flow : (old new : List ℕ) (place : ℕ) (flow : Flow) → Keeps old new
    → AllowsFlow old place flow → AllowsFlow new place flow
keeps_flow old new place flow keeps = by flow
  where
    fields : (digits : ℕ) (f : Fields) → AllowsFields old digits place f
        → AllowsFields new digits place f
    fields digits f allows = record {
      src = keeps_number old new 0 digits place f.src keeps allows.src;
      dst = keeps_number old new 32 digits place f.dst keeps allows.dst;
      sport = keeps_number old new 64 4 place f.sport keeps allows.sport;
      dport = keeps_number old new 68 4 place f.dport keeps allows.dport;
    }

    by : (flow : Flow) → AllowsFlow old place flow → AllowsFlow new place flow
    by Bare allows = allows
    by (Two pair) allows = fields (digits_of pair) (fields_with pair 0 0) allows
    by (Four pair proto p q) allows = fields (digits_of pair) (fields_with pair p q) allows

pub set_same : {X : Type 0} (xs : List X) (i : ℕ) (y : X) → i < length xs
    → slice_get (set xs i y) i ≡ Some y
set_same xs i y within =
    slice_get-get_or (set xs i y) i y (omega (arith, length-set xs i y, within))
    ∙ ap Some (get_or-set_same xs i y y within)

pub set_other : {X : Type 0} (xs : List X) (i j : ℕ) (y : X) → j ≢ i
    → slice_get (set xs i y) j ≡ slice_get xs j
set_other [] i j y apart = refl
set_other (x ∷ xs) zero zero y apart = absurd (apart refl)
set_other (x ∷ xs) zero (suc j) y apart = refl
set_other (x ∷ xs) (suc i) zero y apart = refl
set_other (x ∷ xs) (suc i) (suc j) y apart = set_other xs i j y (λ e. apart (ap suc e))

module _ (sieves : List Sieve) (index : ℕ) (was now : Sieve) (within : index < length sieves)
    (is : was ≡ get_or sieves index was) where
  -- a sieve that allows more
  pub set_more : Keeps was.sets.items now.sets.items → AllowsMore sieves (set sieves index now)
  set_more keeps place flow allows later = by (eqb (place / 64) index) refl (allows later)
    where
      Allows : Option Sieve → Type 0
      Allows found = MatchOption found ⊥ (λ s. AllowsFlow s.sets.items (place % 64) flow)

      by : (b : Bool) → eqb (place / 64) index ≡ b → Allows (slice_get sieves (place / 64))
          → Allows (slice_get (set sieves index now) (place / 64))
      by true e allows =
          let at : place / 64 ≡ index = eqb-true (place / 64) index e in
          let had : slice_get sieves (place / 64) ≡ Some was =
          ap (slice_get sieves) at ∙ slice_get-get_or sieves index was within ∙ ap Some (sym is) in
          let has : slice_get (set sieves index now) (place / 64) ≡ Some now =
          ap (slice_get (set sieves index now)) at ∙ set_same sieves index now within in
          subst Allows (sym has)
          (keeps_flow was.sets.items now.sets.items (place % 64) flow keeps
          (subst Allows had allows))
      by false e allows =
          subst Allows
          (sym (set_other sieves index (place / 64) now (eqb-false (place / 64) index e))) allows

  pub set_allows : (place : ℕ) (rule : Rule) → place / 64 ≡ index
      → ((flow : Flow) → matches rule flow ≡ true → AllowsFlow now.sets.items (place % 64) flow)
      → AllowsRule (set sieves index now) place rule
  set_allows place rule at allows flow is_match later =
      subst (λ found. MatchOption found ⊥ (λ s. AllowsFlow s.sets.items (place % 64) flow))
      (sym (ap (slice_get (set sieves index now)) at ∙ set_same sieves index now within))
      (allows flow is_match)
