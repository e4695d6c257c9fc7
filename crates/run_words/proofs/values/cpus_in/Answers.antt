use Rattle.std.proofs.Common.{ℕ, ◌<◌, arith, subst}
use Rattle.std.proofs.lemmas.Nat.{one_shl}
use Rattle.run_words.proofs.ValueLemmas.{below_bits}
use Rattle.run_words.proofs.values.cpus_in.Goals as goal

pub returns-then-word-cpus-clause-within : goal.returns-then-word-cpus-clause-within
returns-then-word-cpus-clause-within c cpu is =
    let few = c.requires in
    below_bits c.args.word c.args.cpus cpu
    (subst (λ (n : ℕ). c.args.word < n) (one_shl c.args.cpus 64 (omega (arith, few)))
    c.if-word-cpus.true) is
