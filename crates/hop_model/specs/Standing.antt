-- Where the packets of one class stand.
use Rattle.std.specs.Prelude.{ℕ, List, Option, Some, ◌≡◌, ◌<◌, ◌≤◌}
use Rattle.std.specs.List.{All}
use Rattle.steer_base.specs.Entries.{position, current_lane, recorded_count}
use Rattle.steer_base.specs.declared.choice.Chosen.{Chosen}

-- If the packet of a choice is accepted and not retired, it is at this lane, at a count up to this
-- one.
abbrev pub StandsAt : (ℕ → List ℕ) → (ℕ → ℕ) → Option ℕ → ℕ → Chosen → Type 0
StandsAt accepted retired lane tail c =
    (n : ℕ) → position accepted c ≡ Some n → retired c.choice.lane < n
    → (lane ≡ Some c.choice.lane) × (n ≤ tail)

-- Of the choices of one class since the last resize, each packet that is accepted and not retired
-- is at the class's current lane, at a count up to its recorded one.
abbrev pub Standing : (ℕ → List ℕ) → (ℕ → ℕ) → List Chosen → Type 0
Standing accepted retired cs =
    All (StandsAt accepted retired (current_lane cs) (recorded_count accepted cs)) cs
