-- One packet more, or one reply more, is looked up.
use Rattle.std.proofs.Common.{ℕ, ◌≡◌, ◌+◌, ◌<◌, List, Option, None, length, set, arith}
use Rattle.std.proofs.Common.{sym, get_or, inl, inr, subst}
use Rattle.std.specs.Prelude.{slice_index_or}
use Rattle.std.specs.Option.{option_map}
use Rattle.std.proofs.lemmas.Bool.{cases_eq}
use Rattle.std.proofs.lemmas.List.{get_or-set_other, get_or-set_same}
use Rattle.history.specs.InOrder.{AreBegun, AreLanes, begun_of, lane_at}
use Rattle.history.specs.declared.lines.begun.Begun.{Begun}
use Rattle.history.specs.declared.lines.in_order.TheConstants.{AHEAD}
use Rattle.history.specs.declared.packet_line.PacketLine.{PacketLine}
use Rattle.history.specs.declared.reply_line.ReplyLine.{ReplyLine}

-- what holds of the first items, and of one that is set after them, holds of all these
one-more : {A : Type 0} (P : ℕ → A → Type 0) (items : List A) (k : ℕ) (a d : A) → k < length items
    → ((j : ℕ) → j < k → P j (get_or items j d)) → P k a
    → (j : ℕ) → j < k + 1 → P j (get_or (set items k a) j d)
one-more P items k a d here before at j below =
    elim (cases_eq j k) [
      | inl s ↦ subst (λ i. P i (get_or (set items k a) i d)) (sym s)
          (subst (P k) (sym (get_or-set_same items k a d here)) at)
      | inr ne ↦ subst (P j) (sym (get_or-set_other items k j a d ne))
          (before j (omega (arith, below, ne)))
    ]

pub replies-next : (lines : List (Option ReplyLine)) (first k : ℕ) (replies : List (Option Begun))
    (begun : Option Begun) → length replies ≡ AHEAD → k < AHEAD → first + k < length lines
    → AreBegun lines first k replies
    → begun ≡ option_map begun_of (slice_index_or lines (first + k) None)
    → AreBegun lines first (k + 1) (set replies k begun)
replies-next lines first k replies begun size few within before at = record {
  few = omega (arith, few);
  within = omega (arith, within);
  reply = one-more (λ i o. o ≡ option_map begun_of (slice_index_or lines (first + i) None)) replies
      k begun None (omega (arith, size, few)) before.reply at;
}

pub lanes-next : (lines : List PacketLine) (first k : ℕ) (lanes : List (Option ℕ)) (lane : Option ℕ)
    → length lanes ≡ AHEAD → k < AHEAD → first + k < length lines → AreLanes lines first k lanes
    → lane ≡ lane_at lines (first + k) → AreLanes lines first (k + 1) (set lanes k lane)
lanes-next lines first k lanes lane size few within before at = record {
  few = omega (arith, few);
  within = omega (arith, within);
  lane = one-more (λ i o. o ≡ lane_at lines (first + i)) lanes k lane None
      (omega (arith, size, few)) before.lane at;
}
