-- The entry of a class, found in a list of choices and the accepted lists of the lanes (kernel
-- scaling chapter, section RFS: the current processor and the last queue tail of a flow).
use Rattle.std.specs.Prelude.{ℕ, suc, Bool, false, List, [], ◌∷◌, Option, Some, None, ◌==◌, map}
use Rattle.std.specs.Prelude.{filter, if◌then◌else◌}
use Rattle.std.specs.List.{filter_map, list_any}
use Rattle.std.specs.Option.{option_map}
use Rattle.steer_base.specs.Choices.{has_moved}
use Rattle.steer_base.specs.Counters.{number}
use Rattle.steer_base.specs.declared.choice.Chosen.{Chosen}
use Rattle.steer_base.specs.declared.choice.Entry.{Entry}

-- the last of a list, else d
abbrev pub last_or : {X : Type 0} → X → List X → X
last_or d [] = d
last_or d (x ∷ xs) = last_or x xs

-- the place of a packet in a list, from 1
abbrev pub place_in : ℕ → List ℕ → Option ℕ
place_in x [] = None
place_in x (y ∷ ys) = if x == y then Some 1 else option_map suc (place_in x ys)

abbrev pub is_class : ℕ → Option ℕ → Bool
is_class k None = false
is_class k (Some j) = k == j

-- the choices with this class
abbrev pub of_class : ℕ → List Chosen → List Chosen
of_class k = filter (λ c. is_class k c.choice.class)

-- the choices from the last one that moved on
abbrev pub since_move : List Chosen → List Chosen
since_move [] = []
since_move (c ∷ cs) = if list_any (λ d. has_moved d.choice.why) cs then since_move cs else c ∷ cs

-- the count at which the packet of a choice was accepted by the chosen lane, where it was
abbrev pub position : (ℕ → List ℕ) → Chosen → Option ℕ
position accepted c = place_in c.id (accepted c.choice.lane)

-- the lane of the last choice
abbrev pub current_lane : List Chosen → Option ℕ
current_lane cs = last_or None (map (λ c. Some c.choice.lane) cs)

-- the count of the last accepted packet since the last move, else 0
abbrev pub recorded_count : (ℕ → List ℕ) → List Chosen → ℕ
recorded_count accepted cs = last_or 0 (filter_map (position accepted) (since_move cs))

-- The entry of class k, by the choices of its producer since the last resize; the tail is a counter
-- number.
abbrev pub entry : ℕ → (ℕ → List ℕ) → List Chosen → ℕ → Entry
entry start accepted cs k =
    record {
      lane = current_lane (of_class k cs);
      tail = number start (recorded_count accepted (of_class k cs));
    }
