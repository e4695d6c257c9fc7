-- The laws of sums and of drops, by own steps.
use Rattle.backlog.specs.Offers.{IsExplained}
use Rattle.backlog.specs.Rising.{AreRising}
use Rattle.hop_rule.proofs.Drops.{drop_counts_rise, drops_are_explained}
use Rattle.board_api.specs.Lists.{as_lane}
use Rattle.board_api.specs.Laws.Puts.{CountsAreSums, DropsHaveCauses, DropsRise}
use Rattle.board_api.proofs.Names.{◌≡◌, inl, inr, ℕ, ◌<◌, List, [], length, sym, ap, ◌∙◌, subst}
use Rattle.board_api.proofs.Names.{slice_get, cases_lt, LaneLists, StepBy, LaneList, IsLawful}
use Rattle.board_api.proofs.Names.{lane_at, BoardSizes, BoardStep, none-some, lists_of, put_step}
use Rattle.board_api.proofs.Names.{BoardLists}
use Rattle.board_api.proofs.Left.{drop_left, lane_is, lane_past}
use Rattle.board_api.proofs.OwnPuts.{lane_of}
use Rattle.board_api.proofs.OwnTimes.{moments, own}
use Rattle.board_api.proofs.Sums.{accepted_sum, dropped_sum}

-- a lane without its offers
abbrev bare : LaneLists → LaneLists
bare x = record x { offers = [] }

bare-rising : (x : LaneLists) → AreRising x → AreRising (bare x)
bare-rising x t =
    record {
      accepted = t.accepted;
      pulled = t.pulled;
      accepted_within = t.accepted_within;
      pulled_within = t.pulled_within;
    }

module _ (about : BoardSizes) (order : List (StepBy BoardStep))
    (lawful : IsLawful about order) where
  abbrev lists : BoardLists
  lists = lists_of about order

  left_is : (l : ℕ) → l < about.lanes → bare (lane_at about order l) ≡ as_lane about lists l
  left_is l within =
      let t = lane_of about order l within in
      let y = lane_is about order l within in
      λ i. record {
        accepted = (sym y i).accepted;
        offers = [];
        drops = (sym y i).drops;
        pulled = (sym y i).pulled;
        limit = t.limit i;
        room = t.room i;
        start = t.start i;
        limited = t.limited i;
      }

  pub counts_are_sums : CountsAreSums about (own order) lists
  counts_are_sums l within =
      let is = lane_is about order l within in
      record {
        accepted =
            ap (λ (y : LaneList). length y.accepted) is ∙ accepted_sum about l order lawful;
        dropped = ap (λ (y : LaneList). length y.drops) is ∙ dropped_sum about l order lawful;
      }

  pub drops_rise : DropsRise about (own order) lists
  drops_rise l within =
      subst AreRising (left_is l within)
      (bare-rising (lane_at about order l) (drop_counts_rise about order lawful l))

  pub drops_have_causes : DropsHaveCauses about (own order) lists
  drops_have_causes hash_of hashes l k d at =
      elim (cases_lt l about.lanes) [
        | inl within ↦
            subst (λ (x : LaneLists). IsExplained hash_of x k d) (left_is l within)
            ((drops_are_explained about order lawful hash_of
            (λ n q i id hash answer is.
            (let t = (moments order q).own n (put_step i id hash answer) is in
            hashes q t.0 i id hash answer t.1)) l).1 k d (drop_left about order l k d at))
        | inr past ↦
            none-some d (ap (λ (y : LaneList). slice_get y.drops k)
            (sym (lane_past about order l past)) ∙ at)
      ]
