-- Whether lanes are empty: all that each accepted is retired.
use Rattle.std.specs.Prelude.{ℕ, ◌<◌, ◌≡◌, ◌↔◌, Bool, true, not, ◌&&◌, ◌==◌, List, [], ◌∷◌}
use Rattle.std.specs.Prelude.{Result, Ok, Err, IsOk, length}
use Rattle.steer_base.specs.Sets.{has, those_below}
use Rattle.steer_base.specs.declared.command.Busy.{Busy}
use Rattle.steer_base.specs.declared.command.Busy.TheVariants.{NotEmpty}
use Rattle.steer_base.specs.declared.cpu_mask.CpuMask.{CpuMask}
use Rattle.hop_model.specs.Events.{IsEmptied}
use Rattle.hop_model.specs.Hop.{HopState, accepted_at, head_at, retired_at, tail_at}

-- whether a lane is asked for and its head is not its tail
abbrev pub is_waiting : HopState → (ℕ → Bool) → ℕ → Bool
is_waiting s asked c = asked c && not (retired_at s.bare c == length (accepted_at s.bare c))

-- the lanes that are asked for and not empty, ascending
abbrev pub waiting : HopState → (ℕ → Bool) → List ℕ
waiting s asked = those_below (length s.bare.accepted) (is_waiting s asked)

-- the first of these lanes, which keeps a command from being done
abbrev pub first_busy : HopState → List ℕ → Result (Unit {0}) Busy
first_busy s [] = Ok tt
first_busy s (c ∷ cs) =
    Err (NotEmpty c (head_at s.fixed.start s.bare c) (tail_at s.fixed.start s.bare c))

-- whether all lanes that pass a test are empty; otherwise the first that is not
abbrev pub emptied_of : HopState → (ℕ → Bool) → Result (Unit {0}) Busy
emptied_of s asked = first_busy s (waiting s asked)

-- whether all lanes of a set are empty; otherwise the first that is not
abbrev pub emptied : HopState → CpuMask → Result (Unit {0}) Busy
emptied s lanes = emptied_of s (has lanes)

-- Each lane that passes a test is empty.
abbrev pub AreEmptiedOf : HopState → (ℕ → Bool) → Type 0
AreEmptiedOf s asked = (c : ℕ) → c < length s.bare.accepted → asked c ≡ true → IsEmptied s.bare c

-- Each lane of a set is empty.
abbrev pub AreEmptied : HopState → CpuMask → Type 0
AreEmptied s lanes = AreEmptiedOf s (has lanes)

-- A hop answers that lanes are empty if and only if each of them is.
abbrev pub EmptiedIsExact : Type 0
EmptiedIsExact =
    (s : HopState) (asked : ℕ → Bool) → IsOk (emptied_of s asked) ↔ AreEmptiedOf s asked

-- Asking for a set of lanes is asking for a test that agrees with it.
abbrev pub SetIsAsked : Type 0
SetIsAsked =
    (s : HopState) (lanes : CpuMask) (asked : ℕ → Bool)
    → ((c : ℕ) → c < length s.bare.accepted → has lanes c ≡ asked c)
    → emptied s lanes ≡ emptied_of s asked
