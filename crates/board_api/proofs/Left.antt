-- The lists that an order leaves, read by number.
use Rattle.std.proofs.Common.{map}
use Rattle.std.proofs.lemmas.List.{get_or_past}
use Rattle.std.proofs.lemmas.List.FromFn.{get_or-map-range_with_len, length-map-range_with_len}
use Rattle.steer_base.specs.declared.put.LaneDrop.{LaneDrop}
use Rattle.history.specs.Lists.{lane_at as left_at, list_at, no_lane}
use Rattle.board_api.specs.Closings.Finals.{lane_list}
use Rattle.board_api.proofs.Names.{◌≡◌, ℕ, ◌<◌, ◌≤◌, List, [], Some, ap, ◌∙◌, sym, arith}
use Rattle.board_api.proofs.Names.{range_with_len, slice_get, cases_lt, inl, inr, StepBy, LaneList}
use Rattle.board_api.proofs.Names.{lane_at, out, BoardSizes, BoardStep, none-some, lists_of}

module _ (about : BoardSizes) (order : List (StepBy BoardStep)) where
  pub lane_is : (l : ℕ) → l < about.lanes
      → left_at (lists_of about order).lanes l ≡ lane_list about order l
  lane_is l within =
      get_or-map-range_with_len (lane_list about order) 0 about.lanes l l no_lane within
      (omega arith)

  pub lane_past : (l : ℕ) → about.lanes ≤ l → left_at (lists_of about order).lanes l ≡ no_lane
  lane_past l past =
      let n = length-map-range_with_len (lane_list about order) 0 about.lanes in
      get_or_past (map (lane_list about order) (range_with_len 0 about.lanes)) l no_lane
      (omega arith)

  pub out_is : (o : ℕ) → o < about.outs → list_at (lists_of about order).outs o ≡ out about order o
  out_is o within =
      get_or-map-range_with_len (out about order) 0 about.outs o o [] within (omega arith)

  pub out_past : (o : ℕ) → about.outs ≤ o → list_at (lists_of about order).outs o ≡ []
  out_past o past =
      let n = length-map-range_with_len (out about order) 0 about.outs in
      get_or_past (map (out about order) (range_with_len 0 about.outs)) o [] (omega arith)

  -- where something is left, it is of a lane of the board
  pub accepted_left : (l j id : ℕ)
      → slice_get (left_at (lists_of about order).lanes l).accepted j ≡ Some id
      → slice_get (lane_at about order l).accepted j ≡ Some id
  accepted_left l j id at =
      elim (cases_lt l about.lanes) [
        | inl within ↦ ap (λ (y : LaneList). slice_get y.accepted j) (sym (lane_is l within)) ∙ at
        | inr past ↦
            none-some id (ap (λ (y : LaneList). slice_get y.accepted j) (sym (lane_past l past))
            ∙ at)
      ]

  pub drop_left : (l j : ℕ) (d : LaneDrop)
      → slice_get (left_at (lists_of about order).lanes l).drops j ≡ Some d
      → slice_get (lane_at about order l).drops j ≡ Some d
  drop_left l j d at =
      elim (cases_lt l about.lanes) [
        | inl within ↦ ap (λ (y : LaneList). slice_get y.drops j) (sym (lane_is l within)) ∙ at
        | inr past ↦
            none-some d (ap (λ (y : LaneList). slice_get y.drops j) (sym (lane_past l past)) ∙ at)
      ]

  pub member_left : (o j id : ℕ) → slice_get (list_at (lists_of about order).outs o) j ≡ Some id
      → slice_get (out about order o) j ≡ Some id
  member_left o j id at =
      elim (cases_lt o about.outs) [
        | inl within ↦ ap (λ xs. slice_get xs j) (sym (out_is o within)) ∙ at
        | inr past ↦ none-some id (ap (λ xs. slice_get xs j) (sym (out_past o past)) ∙ at)
      ]
