-- The laws of loaded tails, by own steps.
use Rattle.hop_rule.specs.Boards.{accepted}
use Rattle.hop_rule.specs.declared.step.BoardStep.TheVariants.{Counted, OutCounted}
use Rattle.hop_rule.proofs.Fronts.{count_later, out_count_later}
use Rattle.hop_rule.proofs.Tails.{loaded_tails_are_accepted, loaded_tails_are_delivered}
use Rattle.board_api.specs.Laws.Heads.{OutTailsRise, TailsRise}
use Rattle.board_api.proofs.Names.{◌≡◌, ℕ, ◌+◌, ◌/◌, ◌<◌, ◌≤◌, List, length, ap, arith, StepBy}
use Rattle.board_api.proofs.Names.{LaneList, IsLawful, out, past, BoardSizes, BoardStep}
use Rattle.board_api.proofs.Names.{step_lawful, lists_of, Has}
use Rattle.board_api.proofs.Left.{lane_is, out_is}
use Rattle.board_api.proofs.OwnTimes.{own, rise, step_is, when}

module _ (about : BoardSizes) (order : List (StepBy BoardStep))
    (lawful : IsLawful about order) where
  -- ---- middle lanes

  tail_is : (q k l word : ℕ) → Has (own order q) k (Counted l word)
      → (word / 2 ≡ about.start + length (accepted about (past (when order q k) order) l))
      × (length (accepted about (past (when order q k) order) l)
      ≤ length (accepted about order l))
  tail_is q k l word does =
      loaded_tails_are_accepted about order lawful (when order q k) q l word
      (step_is order q k (Counted l word) does)

  within : (q k l word : ℕ) → Has (own order q) k (Counted l word) → l < about.lanes
  within q k l word does =
      (step_lawful about order (when order q k) q (Counted l word) lawful
      (step_is order q k (Counted l word) does)).1.0

  pub tails_rise : TailsRise about (own order) (lists_of about order)
  tails_rise =
      record {
        rise = λ q j k l before word less loads loads'. (
            let up = rise order q j k (Counted l word) less loads' in
            let more = count_later about order (when order q j) (when order q k) l
            (omega arith) in
            let a = (tail_is q j l before loads).0 in
            let b = (tail_is q k l word loads').0 in omega arith);
        from_start = λ q k l word loads. (let a = (tail_is q k l word loads).0 in omega arith);
        reached = λ q k l word loads. (
            let t = tail_is q k l word loads in
            let a = t.0 in
            let b = t.1 in
            let c = ap (λ (y : LaneList). length y.accepted)
            (lane_is about order l (within q k l word loads)) in omega arith);
      }

  -- ---- out lanes

  out_tail_is : (q k o word : ℕ) → Has (own order q) k (OutCounted o word)
      → (word / 2 ≡ about.start + length (out about (past (when order q k) order) o))
      × (length (out about (past (when order q k) order) o) ≤ length (out about order o))
  out_tail_is q k o word does =
      loaded_tails_are_delivered about order lawful (when order q k) q o word
      (step_is order q k (OutCounted o word) does)

  out_within : (q k o word : ℕ) → Has (own order q) k (OutCounted o word) → o < about.outs
  out_within q k o word does =
      (step_lawful about order (when order q k) q (OutCounted o word) lawful
      (step_is order q k (OutCounted o word) does)).1.0

  pub out_tails_rise : OutTailsRise about (own order) (lists_of about order)
  out_tails_rise =
      record {
        rise = λ q j k o before word less loads loads'. (
            let up = rise order q j k (OutCounted o word) less loads' in
            let more = out_count_later about order (when order q j) (when order q k) o
            (omega arith) in
            let a = (out_tail_is q j o before loads).0 in
            let b = (out_tail_is q k o word loads').0 in omega arith);
        from_start = λ q k o word loads. (let a = (out_tail_is q k o word loads).0 in omega arith);
        reached = λ q k o word loads. (
            let t = out_tail_is q k o word loads in
            let a = t.0 in
            let b = t.1 in
            let c = ap (λ (xs : List ℕ). length xs)
            (out_is about order o (out_within q k o word loads)) in omega arith);
      }
