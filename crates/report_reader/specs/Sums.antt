-- What the fields of a line show of a receive queue, of a lane and of a socket write.
use Rattle.std.specs.Prelude.{ℕ, ◌≡◌, ◌<◌, ◌^◌, List, [], ◌∷◌, decimal}
use Rattle.report_reader.specs.Seen.{field_at}
use Rattle.report_reader.specs.Values.{HasSteps, values_of}
use Rattle.report_reader.specs.declared.sums.AppWrite.{AppWrite}
use Rattle.report_reader.specs.declared.sums.LaneSums.{LaneSums}

-- the number of packets that were taken from a receive queue
pub record ShowsTaken (taken : ℕ) (fs : List (List ℕ)) : Type 0 where
  pub fits : taken < 2 ^ 32
  pub taken_at : field_at fs 5 ≡ decimal taken

-- the sums of a lane
pub record ShowsSums (s : LaneSums) (fs : List (List ℕ)) : Type 0 where
  pub pulled_fits : s.pulled < 2 ^ 32
  pub pulled : field_at fs 5 ≡ decimal s.pulled
  pub delivered_fits : s.delivered < 2 ^ 32
  pub delivered : field_at fs 7 ≡ decimal s.delivered
  pub retired_fits : s.retired < 2 ^ 32
  pub retired : field_at fs 9 ≡ decimal s.retired

-- the words before the first values of a write, each with its space: w, none, entry and cpu; the
-- first value is the word app
abbrev pub write_steps : List ℕ
write_steps = 2 ∷ 0 ∷ 6 ∷ 4 ∷ []

-- the values of a line are a write with its application
pub record GivesWrite (s : AppWrite) (fs : List (List ℕ)) : Type 0 where
  pub app_fits : s.app < 2 ^ 8
  pub app : field_at fs 1 ≡ decimal s.app
  pub entry_fits : s.write.entry < 2 ^ 32
  pub entry : field_at fs 2 ≡ decimal s.write.entry
  pub cpu_fits : s.write.cpu < 2 ^ 8
  pub cpu : field_at fs 3 ≡ decimal s.write.cpu

-- the fields of a line are
pub record ShowsWrite (s : AppWrite) (fs : List (List ℕ)) : Type 0 where
  pub steps : HasSteps write_steps fs
  pub values : GivesWrite s (values_of write_steps fs)
