-- The bytes of a trail in order.
use Rattle.std.specs.Prelude.{ℕ, List, [], ◌∷◌, ◌++◌}
use Rattle.outside_io.specs.declared.ghost_bytes.Trail.{Trail, Start, Byte'}

-- the bytes of a trail, the oldest first
abbrev pub trail_bytes : Trail → List ℕ
trail_bytes Start = []
trail_bytes (Byte' _ so_far byte) = trail_bytes so_far ++ byte ∷ []
