-- The application of a packet.
use Rattle.std.specs.Prelude.{ℕ, ◌%◌, Option, Some, None}

-- its hash modulo the number of applications, and 0 without a hash
abbrev pub app_of : Option ℕ → ℕ → ℕ
app_of None apps = 0
app_of (Some hash) apps = hash % apps
