-- A close that did not shut, and a lane that was not found empty behind a close.
use Rattle.std.proofs.Common.{◌^◌}
use Rattle.hop_rule.specs.Boards.{accepted}
use Rattle.hop_rule.specs.CloseLaws.{BusyLanesHavePackets, FoundVisitsAreOpen}
use Rattle.hop_rule.specs.Gates as gates
use Rattle.hop_rule.specs.Lanes as lanes
use Rattle.hop_rule.proofs.Names.{◌≡◌, inl, inr, ℕ, suc, ◌/◌, ◌%◌, ◌<◌, ◌≤◌, List, ◌∷◌, length}
use Rattle.hop_rule.proofs.Names.{Option, sym, ap, ◌∙◌, arith, cases_lt, StepBy, step_by, steps_of}
use Rattle.hop_rule.proofs.Names.{Put, IsLawful, gates_of, lane_at, lanes_of, retired, IsStep, past}
use Rattle.hop_rule.proofs.Names.{closers, closer, BoardSizes, BoardStep, Gate, Lane, Weighed}
use Rattle.hop_rule.proofs.Names.{Change, Nothing, Offered, Pulled, GateStep, NotShut, Opened, Shut}
use Rattle.hop_rule.proofs.Names.{Freed}
use Rattle.hop_rule.proofs.Boards.{few, gates_past, lawful_past, retired_later, step_lawful}
use Rattle.hop_rule.proofs.Cases.{lane_case, lane_part_case}
use Rattle.hop_rule.proofs.GateWords.{gate_word_counts_visits}
use Rattle.hop_rule.proofs.Gates.{closes, unshut}
use Rattle.hop_rule.proofs.Moments.{along}
use Rattle.hop_rule.proofs.Owns.{gates_own}
use Rattle.hop_rule.proofs.Tails.{loaded_tails_are_accepted}
use Rattle.hop_rule.proofs.Visits.{closed_at}

pub found_visits_are_open : FoundVisitsAreOpen
found_visits_are_open about order fit lawful n q w is =
    let gs : List (StepBy GateStep) = gates_of (past n order) in
    let may = (step_lawful about order n q (Gate (NotShut w)) lawful is).1 in
    let word = may.1 in
    let some = may.2 in
    let seen = gate_word_counts_visits about (past n order) fit
    (lawful_past about order n lawful) in
    let counted = seen.word in
    let small = seen.few in
    let seats = fit.seats in
    let own : steps_of (closer about) gs ≡ closers about (past n order) =
    gates_own (closer about) (past n order) in
    let unclosed : gates.closed (closers about (past n order)) ≡ 0 =
    ap gates.closed (sym own)
    ∙ (ap (λ z. gates.closed (steps_of z gs)) (sym may.0) ∙ may.3) in
    let c = closes about gs (gates_past about order n lawful) in
    let shut = c.0 ∙ ap gates.closed own in
    let opened = c.1 ∙ ap gates.openings own in
    (omega arith, omega arith)

module _ (about : BoardSizes) (order : List (StepBy BoardStep)) (lawful : IsLawful about order)
    (s n l w : ℕ) (shuts : IsStep order s (closer about) (Gate (Shut w)))
    (stays : (k : ℕ) → s < k → k < n → IsStep order k (closer about) (Gate Opened) → ⊥) where
  no_put : (k p id : ℕ) (hash : Option ℕ) (answer : Put) → s < k → k < n
      → IsStep order k p (Lane (Freed l (Offered id hash answer))) → ⊥
  no_put k p id hash answer after before is =
      let may = step_lawful about order k p (Lane (Freed l (Offered id hash answer))) lawful is in
      let free = unshut about (gates_of (past k order)) (gates_past about order k lawful) p may.0
      may.1.1 in
      let shut = closed_at about order lawful s n w k shuts stays after (omega arith) in
      absurd (omega arith)

  by_change : (k p : ℕ) (c : Change) → s < k → k < n → IsStep order k p (Lane (Freed l c))
      → length (lane_at about (past k order) l).accepted
      ≡ length (lane_at about (past s order) l).accepted
      → length (lanes.lane_changed c (lane_at about (past k order) l)).accepted
      ≡ length (lane_at about (past s order) l).accepted
  by_change k p Nothing after before is here = here
  by_change k p (Pulled id) after before is here = here
  by_change k p (Offered id hash answer) after before is here =
      absurd (no_put k p id hash answer after before is)

  -- a lane accepts nothing behind a close
  same_count : (k : ℕ) → s < k → k ≤ n
      → length (lane_at about (past k order) l).accepted
      ≡ length (lane_at about (past s order) l).accepted
  same_count k after to =
      along (λ es. length (lane_at about es l).accepted
      ≡ length (lane_at about (past s order) l).accepted) order (suc s) k (omega arith)
      (λ j e from less is here.
      lane_part_case (λ ls. length (lanes.lane about l ls).accepted
      ≡ length (lane_at about (past s order) l).accepted) e.by e.step (lanes_of (past j order))
      (λ d lane.
      lane_case (λ x. length x.accepted ≡ length (lane_at about (past s order) l).accepted) l d
      (lane_at about (past j order) l)
      (λ c freed.
      by_change j e.by c (omega arith) (omega arith)
      (is ∙ ap (λ z. step_by e.by z ∷ past j order) (lane ∙ ap (λ z. Lane z) freed)) here) here)
      here)
      (ap (λ (es : List (StepBy BoardStep)). length (lane_at about es l).accepted) shuts)

pub busy_lanes_have_packets : BusyLanesHavePackets
busy_lanes_have_packets about order fit lawful s m n l w head tail first next shuts weighs counts
    stays apart =
    let up = retired_later about order s m l (omega arith) in
    let within = (few about (past m order) l (lawful_past about order m lawful)).0 in
    let between = same_count about order lawful s n l w shuts stays m first (omega arith) in
    let end = same_count about order lawful s n l w shuts stays n (omega arith) (omega arith) in
    let of_head = (step_lawful about order m (closer about) (Weighed l head) lawful weighs).1.1 in
    let of_tail = (loaded_tails_are_accepted about order lawful n (closer about) l tail counts).0
    in
    elim (cases_lt (retired about (past s order) l) (length (accepted about (past s order) l))) [
      | inl less ↦ less
      | inr full ↦
          let same : head ≡ tail / 2 = omega arith in
          absurd (apart (ap (λ z. z % 2 ^ 32) same))
    ]
