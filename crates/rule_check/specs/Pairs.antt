-- A set of pairs of numbers.
use Rattle.std.specs.Prelude.{ℕ, Bool, ◌&&◌, ◌||◌, nat_eq, slice_index_or}
use Rattle.indexmap.specs.IndexSet.{contains}
use Rattle.steer_base.specs.Sets.{has}
use Rattle.rule_check.specs.declared.pairs.PairSet.{PairSet}

abbrev pub same_pair : ℕ × ℕ → ℕ × ℕ → Bool
same_pair a b = nat_eq a.0 b.0 && nat_eq a.1 b.1

-- whether the mask of an entry has a number; behind the last mask is an empty one
abbrev pub is_marked : PairSet → ℕ → ℕ → Bool
is_marked set n m = has (slice_index_or set.masks.items n (record { 0 = 0 })) m

-- whether a set has the pair of n and m; closed, since `add` promises all that a proof needs
unfoldable pub has_pair : PairSet → ℕ → ℕ → Bool
has_pair set n m = is_marked set n m || contains same_pair set.pairs (n, m)
