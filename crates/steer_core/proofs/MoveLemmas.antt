-- What a hop leaves is what the history has of it.
use Rattle.std.proofs.Common.{◌≡◌, ◌∙◌, length, map, refl, ap}
use Rattle.std.specs.List.{range_with_len}
use mathlib.Core.List.{map-map}
use Rattle.hop_model.specs.Hop.{Bare, HopState}
use Rattle.hop_core.specs.Left.{left_lane, left_lanes}
use Rattle.hop_core.specs.declared.left.HopLists.{HopLists}
use Rattle.steer_model.specs.State.Machine.{history_lanes}
use Rattle.steer_core.specs.HistoryParts.{hop_part}
use Rattle.steer_core.specs.Kept.{kept_lane}
use Rattle.steer_core.specs.declared.parts.HopPart.{HopPart}

kept-lanes : (b : Bare) → map kept_lane (left_lanes b) ≡ history_lanes b
kept-lanes b = map-map kept_lane (left_lane b) (range_with_len 0 (length b.accepted))

-- the history's part of what a hop leaves
abbrev pub left_part : HopLists → HopPart
left_part lists =
    record {
      taken = lists.taken.items;
      choices = map (λ list. list.items) lists.choices.items;
      lanes = map kept_lane lists.lanes.items;
      outs = map (λ list. list.items) lists.outs.items;
      start = lists.start;
    }

-- What a hop leaves is what it kept.
pub record AreLeft (s : HopState) (lists : HopLists) : Type 0 where
  pub taken : lists.taken.items ≡ s.taken
  pub choices : map (λ list. list.items) lists.choices.items ≡ s.choices
  pub lanes : lists.lanes.items ≡ left_lanes s.bare
  pub outs : map (λ list. list.items) lists.outs.items ≡ s.bare.outs
  pub start : lists.start ≡ s.fixed.start

-- What a hop leaves is the history's part of it.
pub left-part : (s : HopState) (lists : HopLists) → AreLeft s lists
    → left_part lists ≡ hop_part s
left-part s lists left =
    rw (
      left.taken,
      left.choices,
      ap (map kept_lane) left.lanes ∙ kept-lanes s.bare,
      left.outs,
      left.start,
    ) refl
