-- What no event changes: what a hop keeps for good, and how many actors, lanes and out lanes it
-- has.
use Rattle.std.specs.Prelude.{◌≡◌, length}
use Rattle.hop_model.specs.Hop.{HopState}

-- Two states of a hop have the same fixed part and the same numbers of producers, actors, lanes and
-- out lanes.
pub record SameSizes (s t : HopState) : Type 0 where
  pub fixed : t.fixed ≡ s.fixed
  pub producers : length t.arrivals ≡ length s.arrivals
  pub actors : length t.visits ≡ length s.visits
  pub lanes : length t.bare.accepted ≡ length s.bare.accepted
  pub outs : length t.bare.outs ≡ length s.bare.outs
