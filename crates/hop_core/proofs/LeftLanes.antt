-- What the lanes leave, one after the other and by their numbers.
use Rattle.std.proofs.Common.{ℕ, ◌+◌, ◌<◌, ◌≡◌, List, [], ◌∷◌, length, map, refl, ap, ◌∙◌}
use Rattle.std.proofs.Common.{arith, get_or, suc}
use Rattle.std.specs.Prelude.{slice_index}
use Rattle.std.specs.List.{range_with_len, zip}
use Rattle.std.proofs.lemmas.List.{get_or-map, length-map}
use Rattle.steer_base.specs.Lanes.{LaneLists}
use Rattle.steer_base.specs.declared.cpu_mask.CpuMask.{CpuMask}
use Rattle.hop_core.specs.LaneTable.{lane_at}
use Rattle.hop_core.specs.Left.{left_of}
use Rattle.hop_core.specs.declared.left.LeftLane.{LeftLane}
use Rattle.hop_core.proofs.LaneTables.{table_of}

from-number : (ls : List LaneLists) (ds rs : List ℕ) (a : ℕ) (f : ℕ → LeftLane)
    → length ds ≡ length ls → length rs ≡ length ls
    → ((k : ℕ) (l : LaneLists) → k < length ls
    → left_of (get_or ls k l) (slice_index ds k) (slice_index rs k) ≡ f (a + k))
    → map (λ p. left_of p.0.0 p.0.1 p.1) (zip (zip ls ds) rs) ≡ map f (range_with_len a (length ls))
from-number [] ds rs a f d r each = refl
from-number (l ∷ ls) [] rs a f d r each = absurd (omega (arith, d))
from-number (l ∷ ls) (x ∷ ds) [] a f d r each = absurd (omega (arith, r))
from-number (l ∷ ls) (x ∷ ds) (y ∷ rs) a f d r each =
    let here : left_of l x y ≡ f a =
    each 0 l (omega arith) ∙ ap f (omega arith) in
    let rest = from-number ls ds rs (a + 1) f (omega (arith, d)) (omega (arith, r))
    (λ k m lt. each (suc k) m (omega (arith, lt)) ∙ ap f (omega arith)) in
    ap (λ z. z ∷ map (λ p. left_of p.0.0 p.0.1 p.1) (zip (zip ls ds) rs)) here
    ∙ ap (λ zs. f a ∷ zs) rest

pub left-by-number : (ls : List LaneLists) (ds rs : List ℕ) (limit room start : ℕ)
    (limited : CpuMask) → length ds ≡ length ls → length rs ≡ length ls
    → map (λ p. left_of p.0.0 p.0.1 p.1) (zip (zip ls ds) rs)
    ≡ map (λ c. left_of (lane_at (table_of ls limit room start limited) c) (slice_index ds c)
    (slice_index rs c)) (range_with_len 0 (length (map (λ l. l.accepted) ls)))
left-by-number ls ds rs limit room start limited d r =
    let left : ℕ → LeftLane =
    λ c. left_of (lane_at (table_of ls limit room start limited) c) (slice_index ds c)
    (slice_index rs c) in
    rw (length-map ls (λ (l : LaneLists). l.accepted))
    (from-number ls ds rs 0 left d r
    (λ k l lt. (
    let same : left_of (get_or ls k l) (slice_index ds k) (slice_index rs k) ≡ left k =
    rw (
      get_or-map (λ l. l.accepted) ls k l [] lt,
      get_or-map (λ l. l.drops) ls k l [] lt,
      get_or-map (λ l. l.pulled) ls k l 0 lt,
    ) refl in
    same ∙ ap left (omega arith))))
