-- The gate's word by the seats' own lists.
use Rattle.hop_rule.specs.Gates as gates
use Rattle.hop_rule.specs.SettingLaws.{GateWordCountsVisits, open_visits}
use Rattle.hop_rule.proofs.Names.{◌≡◌, List, sym, ap, ◌∙◌, arith, StepBy, steps_of, gates_of}
use Rattle.hop_rule.proofs.Names.{sum_below, closers, closer, GateStep}
use Rattle.hop_rule.proofs.Boards.{parts}
use Rattle.hop_rule.proofs.Gates.{closes, open_small, shut_out, small, sum_most, unshut, word}
use Rattle.hop_rule.proofs.Owns.{gates_own}

pub gate_word_counts_visits : GateWordCountsVisits
gate_word_counts_visits about order fit lawful =
    let gs : List (StepBy GateStep) = gates_of order in
    let legal = (parts about order lawful).1 in
    let c : steps_of (closer about) gs ≡ closers about order = gates_own (closer about) order in
    let sums : sum_below (λ q. gates.is_open (gates.visit (steps_of q gs))) about.seats ≡
    open_visits about order
    = λ i. sum_below (λ q. gates.is_open (gates.visit (gates_own q order i))) about.seats in
    let shut_ = ap gates.closed c in let opened_ = ap gates.openings c in
    let w = word about gs legal in
    let s = small about gs legal in let s0 = s.0 in let s1 = s.1 in
    let most = sum_most (λ q. gates.is_open (gates.visit (steps_of q gs))) about.seats
    (λ q. open_small (gates.visit (steps_of q gs))) in
    record {
      word = omega arith;
      few = omega arith;
      once = omega arith;
      bounded = omega arith;
      nobody_inside = λ is q l inside. (
          let open_ = unshut about gs legal q l (ap gates.visit (gates_own q order) ∙ inside) in
          let all = (closes about gs legal).0 in absurd (omega arith));
      closer_outside = λ is. sym (ap gates.visit c) ∙ shut_out about gs legal (shut_ ∙ is);
    }
