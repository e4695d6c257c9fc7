-- Groups in the order of their first rules.
use Rattle.std.proofs.Common.{◌≡◌, ◌<◌, ◌≤◌, ◌+◌, ℕ, zero, suc, List, [], ◌∷◌, ◌++◌, length, get_or}
use Rattle.std.proofs.Common.{set, drop, Bool, true, false, cond, Option, Some, None, min, refl}
use Rattle.std.proofs.Common.{sym, ap, ◌∙◌, arith, subst}
use Rattle.std.specs.Option.{option_or, option_and_then}
use Rattle.std.proofs.lemmas.Option.{slice_get_within}
use Rattle.indexmap.specs.IndexMap.{get}
use Rattle.steer_base.specs.declared.flow.Flow.{Flow}
use Rattle.ntuple_rules.specs.declared.fields.Fields.{Fields}
use Rattle.ntuple_rules.specs.declared.fields.Shape.{Shape}
use Rattle.ntuple_rules.specs.declared.group.Group.{Group}
use Rattle.ntuple_rules.specs.Groups.{Adds, InOrder, IsAt, IsNew, StartsAtFirst, found_in}
use Rattle.ntuple_rules.specs.Groups.{found_among, lesser, looked_at, masked, same_fields}

-- ---- what is found is no less than the first rule

some_is : (n m : ℕ) → Some n ≡ Some m → n ≡ m
some_is n m e = cc

found_in-from : (group : Group) (flow : Flow) (n : ℕ) → StartsAtFirst group
    → found_in group flow ≡ Some n → group.first ≤ n
found_in-from group flow n starts = by (looked_at group.shape.kind flow)
  where
    by : (looked : Option Fields)
        → option_and_then
        (λ fields. get same_fields group.numbers (masked group.shape.mask fields)) looked ≡ Some n
        → group.first ≤ n
    by None e = absurd cc
    by (Some fields) e = starts (masked group.shape.mask fields) n e

lesser-from : (a b : Option ℕ) (low n : ℕ) → ((m : ℕ) → a ≡ Some m → low ≤ m)
    → ((m : ℕ) → b ≡ Some m → low ≤ m) → lesser a b ≡ Some n → low ≤ n
lesser-from None b low n f g e = g n e
lesser-from (Some k) None low n f g e = f n e
lesser-from (Some k) (Some m) low n f g e =
    let is = some_is (min k m) n e in
    omega (arith, is, f k refl, g m refl)

found_among-from : (groups : List Group) (low high : ℕ) (flow : Flow) (n : ℕ)
    → InOrder low groups high → found_among groups flow ≡ Some n → low ≤ n
found_among-from [] low high flow n order e = absurd cc
found_among-from (g ∷ gs) low high flow n order e =
    lesser-from (found_in g flow) (found_among gs flow) low n
    (λ m is. omega (arith, order.0, found_in-from g flow m order.1 is))
    (λ m is. omega (arith, order.0, found_among-from gs g.first high flow m order.2 is))
    e

order-drop : (groups : List Group) (low high place : ℕ) (d : Group) → place < length groups
    → InOrder low groups high → InOrder (get_or groups place d).first (drop place groups) high
order-drop [] low high place d within order = absurd (omega (arith, within))
order-drop (g ∷ gs) low high zero d within order = (omega arith, order.1, order.2)
order-drop (g ∷ gs) low high (suc place) d within order =
    order-drop gs g.first high place d (omega (arith, within)) order.2

lesser-ends : (a b : Option ℕ) (n low : ℕ) → a ≡ Some n → n < low
    → ((m : ℕ) → b ≡ Some m → low ≤ m) → lesser a b ≡ a
lesser-ends None b n low e less from = absurd cc
lesser-ends (Some k) None n low e less from = refl
lesser-ends (Some k) (Some m) n low e less from =
    ap Some (omega (arith, some_is k n e, less, from m refl))

-- a match before the first rule of a group is not found again, or an earlier one, from there on
pub ends_here : (groups : List Group) (high place : ℕ) (d : Group) (found : Option ℕ) (n : ℕ)
    (flow : Flow) → place < length groups → InOrder 0 groups high → found ≡ Some n
    → n < (get_or groups place d).first
    → lesser found (found_among (drop place groups) flow) ≡ found
ends_here groups high place d found n flow within order is less =
    lesser-ends found (found_among (drop place groups) flow) n (get_or groups place d).first is less
    (λ m e. found_among-from (drop place groups) (get_or groups place d).first high flow m
    (order-drop groups 0 high place d within order) e)

-- ---- one rule more

order-later : (groups : List Group) (low high more : ℕ) → high ≤ more
    → InOrder low groups high → InOrder low groups more
order-later [] low high more h order = omega (arith, h, order)
order-later (g ∷ gs) low high more h order =
    (order.0, order.1, order-later gs g.first high more h order.2)

order-high : (groups : List Group) (low high : ℕ) → InOrder low groups high → low ≤ high
order-high [] low high order = order
order-high (g ∷ gs) low high order =
    omega (arith, order.0, order-high gs g.first high order.2)

starts-new : (group : Group) (shape : Shape) (first : ℕ) → IsNew group shape first
    → StartsAtFirst group
starts-new group shape first new key n e = absurd (none_some n (sym (new.empty key) ∙ e))
  where
    none_some : (n : ℕ) → None ≡ Some n → ⊥
    none_some n e = cc

pub order-new : (groups : List Group) (low : ℕ) (group : Group) (shape : Shape) (number : ℕ)
    → IsNew group shape number → InOrder low groups number
    → InOrder low (groups ++ group ∷ []) number
order-new [] low group shape number new order =
    (omega (arith, new.starts, order), starts-new group shape number new, omega (arith, new.starts))
order-new (g ∷ gs) low group shape number new order =
    (order.0, order.1, order-new gs g.first group shape number new order.2)

starts-adds : (old new : Group) (key : Fields) (number : ℕ) → Adds old new key number
    → old.first ≤ number → StartsAtFirst old → StartsAtFirst new
starts-adds old new key number adds below starts other n e =
    by (get same_fields old.numbers other) (same_fields key other) refl
    (sym (adds.numbers other) ∙ e)
  where
    by : (was : Option ℕ) (same : Bool) → get same_fields old.numbers other ≡ was
        → option_or was (cond same (Some number) None) ≡ Some n → new.first ≤ n
    by None true is e = omega (arith, adds.starts, below, some_is number n e)
    by None false is e = absurd cc
    by (Some k) same is e = omega (arith, adds.starts, starts other n (is ∙ e))

order-set : (groups : List Group) (low high place : ℕ) (d group : Group) (key : Fields)
    → place < length groups → Adds (get_or groups place d) group key high
    → InOrder low groups high → InOrder low (set groups place group) high
order-set [] low high place d group key within adds order = absurd (omega (arith, within))
order-set (g ∷ gs) low high zero d group key within adds order =
    let below = order-high gs g.first high order.2 in (
      omega (arith, adds.starts, order.0),
      starts-adds g group key high adds below order.1,
      subst (λ first. InOrder first gs high) (sym adds.starts) order.2,
    )
order-set (g ∷ gs) low high (suc place) d group key within adds order = (
  order.0,
  order.1,
  order-set gs g.first high place d group key (omega (arith, within)) adds order.2,
)

-- a rule more in the group of its shape leaves the order
pub order-here : (groups : List Group) (number place : ℕ) (shape : Shape) (here group : Group)
    (key : Fields) → here ≡ get_or groups place here → IsAt groups place shape
    → Adds here group key number → InOrder 0 groups number
    → InOrder 0 (set groups place group) (number + 1)
order-here groups number place shape here group key is at adds order =
    order-later (set groups place group) 0 number (number + 1) (omega arith)
    (order-set groups 0 number place here group key
    (slice_get_within groups place at.group at.stands)
    (subst (λ g. Adds g group key number) is adds) order)
