-- The packets that a board has are below its room.
use Rattle.hop_rule.specs.Boards.{out}
use Rattle.hop_rule.specs.Deliveries.{delivery}
use Rattle.hop_rule.proofs.Heads.{delivered_as_accepted}
use Rattle.hop_rule.proofs.Members.{out_given}
use Rattle.hop_rule.proofs.Puts.{each_accepted_was_put, each_put_is_right}
use Rattle.hop_board.specs.Releases.{AreBelow}
use Rattle.hop_board.proofs.Names.{ℕ, suc, List, StepBy, BoardSizes, BoardStep, IsLawful, lane_at}
use Rattle.hop_board.proofs.Names.{lanes_of, parts}

module _ (about : BoardSizes) (order : List (StepBy BoardStep))
    (lawful : IsLawful about order) where
  pub accepted_below : (l : ℕ) → AreBelow about.room (lane_at about order l).accepted
  accepted_below l n packet at =
      let w = each_accepted_was_put about order lawful l n packet at in
      (each_put_is_right about order lawful w.moment w.seat l packet w.hash w.answer w.is).id_fits

  pub out_below : (o : ℕ) → AreBelow about.room (out about order o)
  out_below o n packet at =
      let g = out_given about o n packet (lanes_of order) (parts about order lawful).0 at in
      accepted_below g.lane g.index packet
      (delivered_as_accepted about order lawful g.lane g.index (delivery o packet (suc n)) g.at)
