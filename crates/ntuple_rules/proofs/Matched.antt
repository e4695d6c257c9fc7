-- Whether a rule matches a flow, by the fields that its kind looks at, and the first match of a
-- list.
use Rattle.std.proofs.Common.{◌≡◌, ◌<◌, ◌≤◌, ℕ, ◌+◌, List, [], ◌∷◌, ◌++◌, length, get_or, Bool}
use Rattle.std.proofs.Common.{true, false, cond, ltb, eqb, ◌&&◌}
use Rattle.std.proofs.Common.{Option, Some, None, refl, ap, subst, arith}
use Rattle.std.proofs.Common.{length-append}
use Rattle.std.specs.Int.Bits.{and_zero_r}
use Rattle.std.specs.List.{position_or_len}
use Rattle.std.specs.Option.{option_map_or, option_or}
use Rattle.std.proofs.lemmas.Bool.{eq-eqb, ne_eqb, ltb-true, ltb-false, lt-ltb, le-ltb}
use Rattle.std.proofs.lemmas.List.Folds.{position_or_len_push}
use Rattle.std.proofs.lemmas.List.Quantifiers.{position-Some}
use Rattle.std.proofs.lemmas.List.Sums.{fails_before_first, prefix_len-le-length}
use Rattle.std.proofs.lemmas.Nat.{xor_comm}
use Rattle.std.proofs.lemmas.Option.{get_or_from_slice_get, slice_get-get_or}
use Rattle.steer_base.specs.declared.flow.Pair.{Pair}
use Rattle.steer_base.specs.declared.flow.Pair.TheVariants.{V4, V6}
use Rattle.steer_base.specs.declared.flow.Proto.{Proto}
use Rattle.steer_base.specs.declared.flow.Flow.{Flow}
use Rattle.steer_base.specs.declared.flow.Flow.TheVariants.{Bare, Two, Four}
use Rattle.ntuple_rules.specs.declared.rule.RuleKind.{RuleKind}
use Rattle.ntuple_rules.specs.declared.rule.RuleKind.TheVariants.{Tcp4, Udp4, Tcp6, Udp6, Ip4, Ip6}
use Rattle.ntuple_rules.specs.declared.rule.Rule.{Rule}
use Rattle.ntuple_rules.specs.declared.fields.Fields.{Fields}
use Rattle.ntuple_rules.specs.Groups.{fields_with, has_ports, significant_bits, looked_at, masked}
use Rattle.ntuple_rules.specs.Groups.{same_fields, shape_of}
use Rattle.ntuple_rules.specs.Laws.{FindsTheFirst, FindsNoneOfNone, FoldsAlike}
use Rattle.ntuple_rules.specs.Matches.{addresses_agree, first_match, fits_proto, fits_version}
use Rattle.ntuple_rules.specs.Matches.{matches, ports_agree}

pub fold_of-swapped : FoldsAlike
fold_of-swapped Bare = refl
fold_of-swapped (Two (V4 s d)) = rw (xor_comm d s) refl
fold_of-swapped (Two (V6 s d)) = rw (xor_comm d s) refl
fold_of-swapped (Four (V4 s d) proto p q) = rw (xor_comm d s, xor_comm q p) refl
fold_of-swapped (Four (V6 s d) proto p q) = rw (xor_comm d s, xor_comm q p) refl

-- ---- the first match

any_rule : Rule
any_rule = record {
  kind = Ip4;
  src = 0;
  srcmask = 0;
  dst = 0;
  dstmask = 0;
  sport = 0;
  sportmask = 0;
  dport = 0;
  dportmask = 0;
  queue = 0;
}

pub finds_the_first : FindsTheFirst
finds_the_first rules flow number is =
    let found = position-Some (λ rule. matches rule flow) rules number any_rule is in
    record {
      rule = get_or rules number any_rule;
      stands = slice_get-get_or rules number any_rule found.0;
      is = found.1;
      before = λ i other less stands. subst (λ rule. matches rule flow ≡ false)
          (get_or_from_slice_get rules i other any_rule stands) (found.2 i less);
    }

test_of_none : (b : Bool) (n : ℕ) → cond b (Some n) None ≡ None → b ≡ false
test_of_none true n e = absurd cc
test_of_none false n e = refl

pub finds_none : FindsNoneOfNone
finds_none rules flow is k d within =
    let past = ltb-false (position_or_len (λ rule. matches rule flow) rules) (length rules)
    (test_of_none _ _ is) in
    fails_before_first (λ rule. matches rule flow) rules k d (omega (arith, past, within))

-- a match is of a rule in the list
pub first_match-below : (rules : List Rule) (flow : Flow) (n : ℕ) → first_match rules flow ≡ Some n
    → n < length rules
first_match-below rules flow n is =
    (position-Some (λ rule. matches rule flow) rules n any_rule is).0

one_more : (place len : ℕ) (b more : Bool) → ltb place len ≡ b → place ≤ len
    → cond (ltb (cond (eqb place len) (len + cond more 0 1) place) (len + 1))
    (Some (cond (eqb place len) (len + cond more 0 1) place)) None
    ≡ option_or (cond b (Some place) None) (cond more (Some len) None)
one_more place len true more is within =
    let less : place < len = ltb-true place len is in
    rw (
      ne_eqb place len (λ e. omega (arith, e, less)),
      lt-ltb place (len + 1)
          (omega (arith, less)),
    ) refl
one_more place len false true is within =
    let e : place ≡ len = omega (arith, ltb-false place len is, within) in
    let less : len + 0 < len + 1 = omega arith in
    rw (eq-eqb place len e, lt-ltb (len + 0) (len + 1) less) (ap Some (omega arith))
one_more place len false false is within =
    let e : place ≡ len = omega (arith, ltb-false place len is, within) in
    rw (eq-eqb place len e, le-ltb (len + 1) (len + 1) (omega arith)) refl

-- the first match with one rule more behind the others
pub first_match-push : (rules : List Rule) (rule : Rule) (flow : Flow)
    → first_match (rules ++ rule ∷ []) flow
    ≡ option_or (first_match rules flow) (cond (matches rule flow) (Some (length rules)) None)
first_match-push rules rule flow =
    let test : Rule → Bool = λ r. matches r flow in
    let len : length (rules ++ rule ∷ []) ≡ length rules + 1 =
    omega (arith, length-append rules (rule ∷ [])) in
    rw (position_or_len_push test rules rule, len)
    (one_more (position_or_len test rules) (length rules) _ (matches rule flow) refl
    (prefix_len-le-length _ rules))

-- ---- the key of a rule

-- a flow has the key of a rule among what the rule's kind looks at
abbrev pub has_key : Rule → Option Fields → Bool
has_key rule looked =
    option_map_or (λ fields. same_fields (significant_bits rule)
    (masked (shape_of rule).mask fields)) looked
    false

pub no_ports : (kind : RuleKind) (pair : Pair) → fits_version kind pair ≡ true
    → has_ports kind ≡ false
no_ports Tcp4 pair e = cc
no_ports Udp4 pair e = cc
no_ports Tcp6 pair e = cc
no_ports Udp6 pair e = cc
no_ports Ip4 pair e = refl
no_ports Ip6 pair e = refl

pub some_ports : (kind : RuleKind) (pair : Pair) (proto : Proto) → fits_proto kind pair proto ≡ true
    → has_ports kind ≡ true
some_ports Ip4 pair proto e = cc
some_ports Ip6 pair proto e = cc
some_ports Tcp4 pair proto e = refl
some_ports Udp4 pair proto e = refl
some_ports Tcp6 pair proto e = refl
some_ports Udp6 pair proto e = refl

and_true : (a b : Bool) → a && b ≡ a && (b && true)
and_true true true = refl
and_true true false = refl
and_true false b = refl

and_last : (a b c : Bool) → c && (a && b) ≡ a && (b && c)
and_last true true true = refl
and_last true true false = refl
and_last true false true = refl
and_last true false false = refl
and_last false true true = refl
and_last false true false = refl
and_last false false true = refl
and_last false false false = refl

pub version_key : (rule : Rule) (pair : Pair) (p q : ℕ) → has_ports rule.kind ≡ false
    → addresses_agree rule pair ≡ has_key rule (Some (fields_with pair p q))
version_key rule (V4 s d) p q e =
    rw (e, and_zero_r rule.sport, and_zero_r rule.dport, and_zero_r p, and_zero_r q)
    (and_true _ _)
version_key rule (V6 s d) p q e =
    rw (e, and_zero_r rule.sport, and_zero_r rule.dport, and_zero_r p, and_zero_r q)
    (and_true _ _)

pub proto_key : (rule : Rule) (pair : Pair) (p q : ℕ) → has_ports rule.kind ≡ true
    → ports_agree rule p q && addresses_agree rule pair ≡ has_key rule (Some (fields_with pair p q))
proto_key rule (V4 s d) p q e = rw e (and_last _ _ (ports_agree rule p q))
proto_key rule (V6 s d) p q e = rw e (and_last _ _ (ports_agree rule p q))

two_key : (rule : Rule) (pair : Pair) (b : Bool) → fits_version rule.kind pair ≡ b
    → matches rule (Two pair) ≡ has_key rule (looked_at rule.kind (Two pair))
two_key rule pair true e = rw e (version_key rule pair 0 0 (no_ports rule.kind pair e))
two_key rule pair false e = rw e refl

four_key : (rule : Rule) (pair : Pair) (proto : Proto) (p q : ℕ) (b c : Bool)
    → fits_version rule.kind pair ≡ b → fits_proto rule.kind pair proto ≡ c
    → matches rule (Four pair proto p q) ≡ has_key rule (looked_at rule.kind (Four pair proto p q))
four_key rule pair proto p q true c e f =
    rw e (version_key rule pair 0 0 (no_ports rule.kind pair e))
four_key rule pair proto p q false true e f =
    rw (e, f) (proto_key rule pair p q (some_ports rule.kind pair proto f))
four_key rule pair proto p q false false e f = rw (e, f) refl

-- a rule matches where the flow has its key
pub matches-has_key : (rule : Rule) (flow : Flow)
    → matches rule flow ≡ has_key rule (looked_at rule.kind flow)
matches-has_key rule Bare = refl
matches-has_key rule (Two pair) = two_key rule pair (fits_version rule.kind pair) refl
matches-has_key rule (Four pair proto p q) =
    four_key rule pair proto p q (fits_version rule.kind pair)
    (fits_proto rule.kind pair proto) refl refl
