-- Lists of events that are joined, and the round of a lane that gets one packet through.
use Rattle.std.specs.Prelude.{ℕ, ◌+◌, ◌<◌, ◌≡◌, ◌≢◌, ◌↔◌, List, [], ◌∷◌, ◌++◌, length, slice_index}
use Rattle.hop_model.specs.declared.event.HopEvent.{HopEvent}
use Rattle.hop_model.specs.declared.event.HopEvent.TheVariants as event
use Rattle.hop_model.specs.Hop.{HopState, accepted_at, pulled_at, retired_at, out_at}
use Rattle.hop_model.specs.Hop.{pull_at, deliver_at, retire_at, with_bare}
use Rattle.hop_model.specs.Events.{AllMayAsk, run}
use Rattle.hop_model.specs.Sound.{Sound}

-- The state after two lists of events is that of the second after the first.
abbrev pub RunsAreJoined : Type 0
RunsAreJoined = (es fs : List HopEvent) (s : HopState) → run (es ++ fs) s ≡ run fs (run es s)

-- Two lists of events may be asked one after the other if and only if the joined list may be asked.
abbrev pub AsksAreJoined : Type 0
AsksAreJoined =
    (es fs : List HopEvent) (s : HopState)
    → AllMayAsk (es ++ fs) s ↔ (AllMayAsk es s × AllMayAsk fs (run es s))

-- the round of a lane: it pulls a packet, delivers it to an out lane and retires it
abbrev pub round_of : ℕ → ℕ → List HopEvent
round_of c o = event.Pull c ∷ event.Deliver c o ∷ event.Retire c ∷ []

-- A round may be asked of each lane and out lane.
abbrev pub RoundMayBeAsked : Type 0
RoundMayBeAsked =
    (s : HopState) (c o : ℕ) → c < length s.bare.accepted → o < length s.bare.outs
    → AllMayAsk (round_of c o) s

-- One packet went through a lane: the head of this lane only rose by one, its hand is empty, and
-- the packet that waited first is the last one of the out lane.
pub record WentThrough (s t : HopState) (c o : ℕ) : Type 0 where
  pub state : t ≡ with_bare s (retire_at (deliver_at (pull_at s.bare c) c o) c)
  pub retired : retired_at t.bare c ≡ retired_at s.bare c + 1
  pub hand : pulled_at t.bare c ≡ retired_at t.bare c
  pub out : out_at t.bare o
      ≡ out_at s.bare o ++ slice_index (accepted_at s.bare c) (retired_at s.bare c) ∷ []
  pub others : (d : ℕ) → d ≢ c → retired_at t.bare d ≡ retired_at s.bare d

-- A round gets exactly one packet through a lane with an empty hand in which a packet waits.
abbrev pub RoundRetiresOne : Type 0
RoundRetiresOne =
    (s : HopState) (c o : ℕ) → Sound s → c < length s.bare.accepted → o < length s.bare.outs
    → pulled_at s.bare c ≡ retired_at s.bare c → retired_at s.bare c < length (accepted_at s.bare c)
    → WentThrough s (run (round_of c o) s) c o
