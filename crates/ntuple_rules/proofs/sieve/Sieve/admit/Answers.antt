use Rattle.ntuple_rules.proofs.Allowed.{rule_allowed}
use Rattle.ntuple_rules.proofs.Sieved.{keeps_number}
use Rattle.ntuple_rules.proofs.sieve.Sieve.admit.Goals as goal

pub returns-clause-admits : goal.returns-clause-admits
returns-clause-admits c =
    let rule = c.args.rule.now in
    let src = rw (c.shape_of.ensures, c.key_of-key.ensures, c.digits_of_kind-digits.ensures) at
    c.admit_number.ensures.admits in
    let dst = rw (c.shape_of.ensures, c.key_of-key.ensures, c.digits_of_kind-digits.ensures) at
    c.admit_number-2.ensures.admits in
    let sport = rw (c.shape_of.ensures, c.key_of-key.ensures) at c.admit_port.ensures.admits in
    let dport = rw (c.shape_of.ensures, c.key_of-key.ensures) at c.admit_port-2.ensures.admits in
    let kept = c.admit_port-2.ensures.kept in
    rule_allowed _ c.args.place rule (record {
      src = λ n e. keeps_number _ _ _ _ _ n kept
          (keeps_number _ _ _ _ _ n c.admit_port.ensures.kept
          (keeps_number _ _ _ _ _ n c.admit_number-2.ensures.kept (src n e)));
      dst = λ n e. keeps_number _ _ _ _ _ n kept
          (keeps_number _ _ _ _ _ n c.admit_port.ensures.kept (dst n e));
      sport = λ n e. keeps_number _ _ _ _ _ n kept (sport n e);
      dport = dport;
    })
