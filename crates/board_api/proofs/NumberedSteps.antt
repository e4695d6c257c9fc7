-- The numbers of a seat's own steps, and of the visits in which it read settings.
use Rattle.hop_rule.proofs.Moments.{nth-between, nth-last, nth-member, nth-old, past-all}
use Rattle.hop_rule.proofs.Moments.{past-between, past-old}
use Rattle.board_api.specs.Laws.OwnSteps.{NumberedReadsStay, PlacesAreNumbered, ReadsAreNumbered}
use Rattle.board_api.specs.Laws.OwnSteps.{StepsAreNumbered}
use Rattle.board_api.proofs.Names.{◌≡◌, ◌≤◌, ℕ, suc, ◌+◌, ◌-◌, List, [], ◌∷◌, ◌++◌, length, Some}
use Rattle.board_api.proofs.Names.{refl, ap, ◌∙◌, arith, length-append, gate_steps, visit}
use Rattle.board_api.proofs.Names.{visit_number, nth_step, past, BoardStep, Gate, Read, nth-inside}

pub steps_are_numbered : StepsAreNumbered
steps_are_numbered newer older d = (nth-between newer d older, past-between newer d older)

pub places_are_numbered : PlacesAreNumbered
places_are_numbered own d has =
    let n : length own - (has.0 + 1) ≡ length own - suc has.0 = omega arith in
    ap (λ k. nth_step own k) n
    ∙ (nth-member own has.0 d has.1 ∙ ap Some has.2)

-- what was done before a step is the same after more steps
past-added : (added own : List BoardStep) (k : ℕ) → k ≤ length own
    → past k (added ++ own) ≡ past k own
past-added [] own k le = refl
past-added (d ∷ ds) own k le =
    let n = length-append ds own in
    past-old d (ds ++ own) k (omega arith) ∙ past-added ds own k le

pub reads_are_numbered : ReadsAreNumbered
reads_are_numbered own setting value within =
    let read : BoardStep = Gate (Read setting value) in
    let before : past (length own) (read ∷ own) ≡ own =
    past-old read own (length own) (omega arith) ∙ past-all own (length own) (omega arith) in
    record {
      step = length own;
      reads = nth-last read own;
      visits = ap (λ ds. visit (gate_steps ds)) before ∙ within;
      number_is = ap (λ ds. visit_number (gate_steps ds)) before;
    }

pub numbered_reads_stay : NumberedReadsStay
numbered_reads_stay added own number setting value r =
    let at = nth-inside own r.step (Gate (Read setting value)) r.reads in
    let before = past-added added own r.step (omega arith) in
    record {
      step = r.step;
      reads = nth-old added own r.step at ∙ r.reads;
      visits = ap (λ ds. visit (gate_steps ds)) before ∙ r.visits;
      number_is = ap (λ ds. visit_number (gate_steps ds)) before ∙ r.number_is;
    }
