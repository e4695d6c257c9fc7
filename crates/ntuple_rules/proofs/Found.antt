-- What groups find, and what they find with one rule more.
use Rattle.std.proofs.Common.{◌≡◌, ◌<◌, ℕ, zero, suc, List, [], ◌∷◌, ◌++◌, length, get_or, set}
use Rattle.std.proofs.Common.{Bool, true, false, cond, Option, Some, None, min, refl, sym, ap, ◌∙◌}
use Rattle.std.proofs.Common.{arith}
use Rattle.std.proofs.Common.{◌+◌, Bor, Result, Ok, Err, subst, length-append, true≢false}
use Rattle.std.specs.Prelude.{OnOk, is_some}
use Rattle.std.specs.Option.{option_copied}
use Rattle.std.specs.Option.{option_or, option_and_then}
use Rattle.std.proofs.lemmas.Option.{get_or_from_slice_get, slice_get_read, slice_get_within}
use Rattle.std.proofs.Math.Seq.{get_or-append_seam}
use Rattle.std.proofs.lemmas.Bool.{and_parts, eqb-true}
use Rattle.indexmap.specs.IndexMap.{get}
use Rattle.steer_base.specs.declared.flow.Flow.{Flow}
use Rattle.ntuple_rules.specs.declared.fields.Shape.{Shape}
use Rattle.ntuple_rules.specs.Groups.{IsAt}
use Rattle.ntuple_rules.specs.declared.rule.Rule.{Rule}
use Rattle.ntuple_rules.specs.declared.fields.Fields.{Fields}
use Rattle.ntuple_rules.specs.declared.group.Group.{Group}
use Rattle.ntuple_rules.specs.Groups.{Adds, AddsAt, FindsAsBefore, IsNew, lesser, found_in}
use Rattle.ntuple_rules.specs.Groups.{found_among, significant_bits, looked_at, masked, same_fields}
use Rattle.ntuple_rules.specs.Groups.{shape_of}
use Rattle.ntuple_rules.specs.Matches.{first_match, matches}
use Rattle.ntuple_rules.proofs.Matched.{first_match-below, first_match-push, has_key}
use Rattle.ntuple_rules.proofs.Matched.{matches-has_key}

pub lesser-None : (a : Option ℕ) → lesser a None ≡ a
lesser-None None = refl
lesser-None (Some n) = refl

pub lesser-assoc : (a b c : Option ℕ) → lesser (lesser a b) c ≡ lesser a (lesser b c)
lesser-assoc None b c = refl
lesser-assoc (Some n) None c = refl
lesser-assoc (Some n) (Some m) None = refl
lesser-assoc (Some n) (Some m) (Some k) = ap Some (omega arith)

lesser-swap : (a b c : Option ℕ) → lesser (lesser a b) c ≡ lesser (lesser a c) b
lesser-swap None None None = refl
lesser-swap None None (Some k) = refl
lesser-swap None (Some m) None = refl
lesser-swap None (Some m) (Some k) = ap Some (omega arith)
lesser-swap (Some n) None None = refl
lesser-swap (Some n) None (Some k) = refl
lesser-swap (Some n) (Some m) None = refl
lesser-swap (Some n) (Some m) (Some k) = ap Some (omega arith)

-- a greater number is none to find where there is a lesser one
lesser-greater : (a : Option ℕ) (n : ℕ) (b : Bool) → ((m : ℕ) → a ≡ Some m → m < n)
    → lesser a (cond b (Some n) None) ≡ option_or a (cond b (Some n) None)
lesser-greater None n b below = refl
lesser-greater (Some m) n true below = ap Some (omega (arith, below m refl))
lesser-greater (Some m) n false below = refl

module _ (flow : Flow) where
  -- one group finds more
  found_among-set : (groups : List Group) (place : ℕ) (group d : Group) (more : Option ℕ)
      → place < length groups
      → found_in group flow ≡ lesser (found_in (get_or groups place d) flow) more
      → found_among (set groups place group) flow ≡ lesser (found_among groups flow) more
  found_among-set [] place group d more within e = absurd (omega (arith, within))
  found_among-set (g ∷ gs) zero group d more within e =
      ap (λ found. lesser found (found_among gs flow)) e
      ∙ lesser-swap (found_in g flow) more (found_among gs flow)
  found_among-set (g ∷ gs) (suc place) group d more within e =
      ap (lesser (found_in g flow))
      (found_among-set gs place group d more (omega (arith, within)) e)
      ∙ sym (lesser-assoc (found_in g flow) (found_among gs flow) more)

  -- what one group finds, the groups find, or less
  lesser_is : (a b : Option ℕ) (n : ℕ) → a ≡ Some n → (m : ℕ) × (lesser a b ≡ Some m)
  lesser_is a None n e = (n, lesser-None a ∙ e)
  lesser_is None (Some k) n e = (k, refl)
  lesser_is (Some l) (Some k) n e = (min l k, refl)

  lesser_is_too : (a b : Option ℕ) (n : ℕ) → b ≡ Some n → (m : ℕ) × (lesser a b ≡ Some m)
  lesser_is_too None b n e = (n, e)
  lesser_is_too (Some l) None n e = (l, refl)
  lesser_is_too (Some l) (Some k) n e = (min l k, refl)

  found_among-is : (groups : List Group) (place : ℕ) (d : Group) (n : ℕ) → place < length groups
      → found_in (get_or groups place d) flow ≡ Some n
      → (m : ℕ) × (found_among groups flow ≡ Some m)
  found_among-is [] place d n within e = absurd (omega (arith, within))
  found_among-is (g ∷ gs) zero d n within e = lesser_is (found_in g flow) (found_among gs flow) n e
  found_among-is (g ∷ gs) (suc place) d n within e =
      let (m, is) = found_among-is gs place d n (omega (arith, within)) e in lesser_is_too
      (found_in g flow) (found_among gs flow) m is

  -- a group with one rule more finds it too
  pub found_in-adds : (old new : Group) (rule : Rule) (number : ℕ) → old.shape ≡ shape_of rule
      → Adds old new (significant_bits rule) number
      → found_in new flow ≡ option_or (found_in old flow)
      (cond (matches rule flow) (Some number) None)
  found_in-adds old new rule number shaped adds =
      rw (adds.shaped, shaped, matches-has_key rule flow) (by (looked_at rule.kind flow))
    where
      by : (looked : Option Fields)
          → option_and_then (λ fields. get same_fields new.numbers
          (masked (shape_of rule).mask fields)) looked
          ≡ option_or (option_and_then
          (λ fields. get same_fields old.numbers (masked (shape_of rule).mask fields)) looked)
          (cond (has_key rule looked) (Some number) None)
      by None = refl
      by (Some fields) = adds.numbers (masked (shape_of rule).mask fields)

  more_by : (rules : List Rule) (rule : Rule) (groups : List Group) (place : ℕ) (group d : Group)
      (was : Option ℕ) → place < length groups
      → found_in (get_or groups place d) flow ≡ was
      → found_in group flow ≡ option_or was (cond (matches rule flow) (Some (length rules)) None)
      → found_among groups flow ≡ first_match rules flow
      → found_among (set groups place group) flow
      ≡ option_or (first_match rules flow) (cond (matches rule flow) (Some (length rules)) None)
  more_by rules rule groups place group d None within none more finds =
      found_among-set groups place group d
      (cond (matches rule flow) (Some (length rules)) None) within (more ∙ sym (rw none refl))
      ∙ (rw finds (lesser-greater (first_match rules flow) (length rules) (matches rule flow)
      (first_match-below rules flow)))
  more_by rules rule groups place group d (Some n) within some more finds =
      let (m, is) = found_among-is groups place d n within some in
      let first : first_match rules flow ≡ Some m = sym finds ∙ is in
      found_among-set groups place group d None within (more ∙ sym (rw some refl))
      ∙ lesser-None (found_among groups flow) ∙ is ∙ sym (rw first refl)

-- the groups find one rule more, where its group does
pub adds_at : (old groups : List Group) (place : ℕ) (group d : Group) (rule : Rule) (number : ℕ)
    → place < length groups
    → FindsAsBefore old groups → (get_or groups place d).shape ≡ shape_of rule
    → Adds (get_or groups place d) group (significant_bits rule) number
    → AddsAt old (set groups place group) number rule
adds_at old groups place group d rule number within same shaped adds rules finds is flow =
    let more = found_in-adds flow (get_or groups place d) group rule (length rules) shaped
    (rw is at adds) in
    more_by flow rules rule groups place group d
    (found_in (get_or groups place d) flow) within refl more (same flow ∙ finds flow)
    ∙ sym (first_match-push rules rule flow)

-- a new group finds nothing
pub found_in-new : (group : Group) (shape : Shape) (first : ℕ) (flow : Flow)
    → IsNew group shape first
    → found_in group flow ≡ None
found_in-new group shape first flow new = by (looked_at group.shape.kind flow)
  where
    by : (looked : Option Fields)
        → option_and_then
        (λ fields. get same_fields group.numbers (masked group.shape.mask fields)) looked ≡ None
    by None = refl
    by (Some fields) = new.empty (masked group.shape.mask fields)

pub found_among-new : (groups : List Group) (group : Group) (shape : Shape) (first : ℕ)
    → IsNew group shape first → FindsAsBefore groups (groups ++ group ∷ [])
found_among-new [] group shape first new flow =
    lesser-None (found_in group flow) ∙ found_in-new group shape first flow new
found_among-new (g ∷ gs) group shape first new flow =
    ap (lesser (found_in g flow)) (found_among-new gs group shape first new flow)

-- a key that had no number has it
option_or-None : (a : Option ℕ) → option_or a None ≡ a
option_or-None None = refl
option_or-None (Some n) = refl

pub same_key : (a b : Fields) → same_fields a b ≡ true → a ≡ b
same_key a b e =
    let src = and_parts _ _ e in
    let dst = and_parts _ _ src.1 in
    let ports = and_parts _ _ dst.1 in
    let src_is : a.src ≡ b.src = eqb-true _ _ src.0 in
    let dst_is : a.dst ≡ b.dst = eqb-true _ _ dst.0 in
    let sport_is : a.sport ≡ b.sport = eqb-true _ _ ports.0 in
    let dport_is : a.dport ≡ b.dport = eqb-true _ _ ports.1 in
    λ i. record { src = src_is i; dst = dst_is i; sport = sport_is i; dport = dport_is i }

pub number_more : (was : Fields → Option ℕ) (now : Option ℕ) (key other : Fields) (number : ℕ)
    → was key ≡ None
    → now ≡ cond (same_fields key other) (Some number) (was other)
    → now ≡ option_or (was other) (cond (same_fields key other) (Some number) None)
number_more was now key other number none e = by (same_fields key other) refl e
  where
    by : (b : Bool) → same_fields key other ≡ b → now ≡ cond b (Some number) (was other)
        → now ≡ option_or (was other) (cond b (Some number) None)
    by true same h = h ∙ sym (rw (ap was (sym (same_key key other same)) ∙ none) refl)
    by false same h = h ∙ sym (option_or-None (was other))

pub on_ok : {T E : Type 0} (r : Result T E) (P Q : Type 0) → (P → Q) → OnOk r P → OnOk r Q
on_ok (Ok x) P Q f p = f p
on_ok (Err e) P Q f p = tt

-- the same, where the group was found by its shape
pub adds_here : (old groups : List Group) (place : ℕ) (here group : Group) (rule : Rule)
    (number : ℕ) → here ≡ get_or groups place here
    → FindsAsBefore old groups → IsAt groups place (shape_of rule)
    → Adds here group (significant_bits rule) number
    → AddsAt old (set groups place group) number rule
adds_here old groups place here group rule number is same at adds =
    let shaped : (get_or groups place here).shape ≡ shape_of rule =
    ap (λ (g : Group). g.shape) (get_or_from_slice_get groups place at.group here at.stands)
    ∙ at.shaped in
    adds_at old groups place group here rule number
    (slice_get_within groups place at.group at.stands) same shaped
    (subst (λ g. Adds g group (significant_bits rule) number) is adds)

-- a new group stands at the end
pub at_end : (groups : List Group) (group : Group) (place : ℕ) (shape : Shape)
    → place ≡ length groups → group.shape ≡ shape
    → IsAt (groups ++ group ∷ []) place shape
at_end groups group place shape is shaped = record {
  group = group;
  stands = slice_get_read (groups ++ group ∷ []) (length groups + 1) place group
      (omega (arith, length-append groups (group ∷ []))) (omega (arith, is))
      (sym (rw is (get_or-append_seam groups group [] group)));
  shaped = shaped;
}

-- a look-up that found nothing
pub none_of : (found : Option (Bor ℕ)) (value : Option ℕ) (some : Bool) → some ≡ is_some found
    → some ≡ false → option_copied found ≡ value → value ≡ None
none_of None value some is not e = sym e
none_of (Some x) value some is not e = absurd (true≢false (sym is ∙ not))
