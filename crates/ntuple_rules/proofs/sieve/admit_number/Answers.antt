use Rattle.ntuple_rules.proofs.Sieved.{allows_more, keeps_trans}
use Rattle.ntuple_rules.proofs.sieve.admit_number.Goals as goal

pub loop-digit-preserved : goal.loop-digit-preserved
loop-digit-preserved c =
    let admits = rw (c.digit_of-mask.ensures.value, c.digit_of-key.ensures.value) at
    c.admit_digit.ensures.admits in
    record {
      kept = keeps_trans _ _ _ c.loop-digit.invariant.kept c.admit_digit.ensures.kept;
      admits = λ n agrees. allows_more c.loop-digit.sets.items c.admit_digit.new.sets.items
          c.args.row c.loop-digit.digit c.args.place n c.args.mask c.args.key agrees
          (c.loop-digit.invariant.admits n agrees) c.admit_digit.ensures.kept admits;
    }
