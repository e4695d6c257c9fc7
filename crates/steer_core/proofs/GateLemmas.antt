-- Who goes through a gate and out again leaves the hop as it was.
use Rattle.std.proofs.Common.{ℕ, ◌+◌, ◌-◌, ◌<◌, ◌≡◌, Bool, true, false, List, length, refl, ap, ◌∙◌}
use Rattle.std.proofs.Common.{sym, arith}
use Rattle.std.specs.Prelude.{nat_lt, slice_index_or, slice_set}
use Rattle.std.proofs.lemmas.List.{get_or-set_same, set-get_or, set-set}
use Rattle.hop_model.specs.declared.event.HopEvent.TheVariants as event
use Rattle.hop_model.specs.Events.{happens}
use Rattle.hop_model.specs.Hop.{HopState, choices_of, inside_of, placed_of, with_visit}

-- the hop with an actor inside
abbrev pub inside : HopState → ℕ → HopState
inside s a = with_visit s a true (s.bare.inside + 1)

pub enters : (s : HopState) (a : ℕ) → inside_of s a ≡ false → s.bare.closed ≡ false
    → (happens s (event.Enter a)).0 ≡ inside s a
enters s a out' open' = rw (out', open') refl

pub is_inside : (s : HopState) (a : ℕ) → a < length s.visits → inside_of (inside s a) a ≡ true
is_inside s a in' = get_or-set_same s.visits a true false in'

-- out and in again
visits-back : (v : List Bool) (a : ℕ) → slice_index_or v a false ≡ false
    → slice_set (slice_set v a true) a false ≡ v
visits-back v a out' =
    set-set v a true false ∙ ap (λ (b : Bool). slice_set v a b) (sym out') ∙ set-get_or v a false

pub leaves : (s : HopState) (a : ℕ) → a < length s.visits → inside_of s a ≡ false
    → nat_lt (placed_of s a) (length (choices_of s a)) ≡ false
    → (happens (inside s a) (event.Leave a)).0 ≡ s
leaves s a in' out' free =
    let here : inside_of (inside s a) a ≡ true = is_inside s a in' in
    let back = visits-back s.visits a out' in
    let same : (s.bare.inside + 1) - 1 ≡ s.bare.inside = omega arith in
    rw (here, free, back, same) refl
