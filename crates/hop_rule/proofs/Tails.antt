-- What the loaded word of a lane counts.
use Rattle.hop_rule.specs.Boards.{accepted}
use Rattle.hop_rule.specs.Lanes as lanes
use Rattle.hop_rule.specs.TailLaws.{LoadedTailsAreAccepted, LoadedTailsAreDelivered}
use Rattle.hop_rule.proofs.Names.{ℕ, zero, suc, ◌≤◌, List, length, subst, arith, StepBy, lanes_of}
use Rattle.hop_rule.proofs.Names.{out, past, BoardStep, Counted, OutCounted}
use Rattle.hop_rule.proofs.Boards.{step_lawful}
use Rattle.hop_rule.proofs.Fronts.{count_later, out_count_later}
use Rattle.hop_rule.proofs.Moments.{past-all, step-inside}

-- the mark of a holder is lost in the half of a word
pub bit-small : (h : ℕ) → lanes.bit h ≤ 1
bit-small zero = omega arith
bit-small (suc h) = omega arith

pub loaded_tails_are_accepted : LoadedTailsAreAccepted
loaded_tails_are_accepted about order lawful n q l w is =
    let inside = step-inside order n q (Counted l w) is in
    let word = (step_lawful about order n q (Counted l w) lawful is).1.1 in
    let small = bit-small (lanes.holder l (lanes_of (past n order))) in (
      omega arith,
      subst (λ (z : List (StepBy BoardStep)). length (accepted about (past n order) l)
          ≤ length (accepted about z l))
          (past-all order (length order) (omega arith))
          (count_later about order n (length order) l (omega arith)),
    )

pub loaded_tails_are_delivered : LoadedTailsAreDelivered
loaded_tails_are_delivered about order lawful n q o w is =
    let inside = step-inside order n q (OutCounted o w) is in
    let word = (step_lawful about order n q (OutCounted o w) lawful is).1.1 in
    let small = bit-small (lanes.out_holder o (lanes_of (past n order))) in (
      omega arith,
      subst (λ (z : List (StepBy BoardStep)). length (out about (past n order) o)
          ≤ length (out about z o))
          (past-all order (length order) (omega arith))
          (out_count_later about order n (length order) o (omega arith)),
    )
