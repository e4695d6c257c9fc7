use Rattle.std.proofs.Common.{◌≡◌, ◌+◌, None, replicate, length, vec_len, ap, ◌∙◌, arith}
use Rattle.sock_flow_table.proofs.GenerationLemmas.{shown-later, shown-never}
use Rattle.sock_flow_table.specs.Generations.{shown}
use Rattle.sock_flow_table.proofs.noted.Noted.clear_all.Goals as goal

pub returns-then-generation-lt255-clause-unset : goal.returns-then-generation-lt255-clause-unset
returns-then-generation-lt255-clause-unset c =
    let v = c.args.entries.now in
    let counted = v.ok.0 in
    let long : length v.items ≡ vec_len v = omega arith in
    shown-later c.args.generation (c.args.generation + 1) v.items (omega arith) c.requires
    ∙ ap (λ n. replicate n None) long

pub returns-clause-unset : goal.returns-clause-unset
returns-clause-unset c =
    ap (shown 1) c.forget_all.ensures.items ∙ shown-never (vec_len c.args.entries.now)
