-- What callers read of a hop, and how long its lists may be.
use Rattle.std.specs.Prelude.{ℕ, ◌+◌, ◌-◌, ◌≤◌, nat_lt, Option, Some, None, length, slice_get}
use Rattle.std.specs.Prelude.{if◌then◌else◌}
use Rattle.steer_base.specs.declared.choice.Chosen.{Chosen}
use Rattle.hop_model.specs.Hop.{Bare, HopState, accepted_at, arrivals_of, choices_of, delivered_at}
use Rattle.hop_model.specs.Hop.{drops_at}
use Rattle.hop_model.specs.Hop.{in_hand, next_of, next_out, out_at, placed_of, pulled_at, taken_of}

-- the packet that a producer has taken and not weighed, if there is one
abbrev pub to_weigh : HopState → ℕ → Option ℕ
to_weigh s p = if nat_lt (length (choices_of s p)) (taken_of s p) then Some (next_of s p) else None

-- the choice of a producer that was made and not put, if there is one
abbrev pub to_put : HopState → ℕ → Option Chosen
to_put s p = if nat_lt (placed_of s p) (length (choices_of s p)) then Some (in_hand s p) else None

-- the last choice of a producer, if it made one
abbrev pub last_choice : HopState → ℕ → Option Chosen
last_choice s p = slice_get (choices_of s p) (length (choices_of s p) - 1)

-- the packet in a lane's hand that is delivered next, if there is one
abbrev pub to_deliver : Bare → ℕ → Option ℕ
to_deliver b c = if nat_lt (delivered_at b c) (pulled_at b c) then Some (next_out b c) else None

-- No list of a hop is longer than its room.
pub record FitsRoom (s : HopState) : Type 0 where
  pub arrivals : (p : ℕ) → length (arrivals_of s p) ≤ s.fixed.room
  pub choices : (p : ℕ) → length (choices_of s p) ≤ s.fixed.room
  pub puts : (c : ℕ) → length (accepted_at s.bare c) + length (drops_at s.bare c) ≤ s.fixed.room
  pub outs : (o : ℕ) → length (out_at s.bare o) ≤ s.fixed.room
