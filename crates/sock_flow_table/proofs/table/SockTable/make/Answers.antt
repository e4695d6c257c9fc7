use Rattle.std.proofs.Common.{ℕ, None, arith, ap, ◌∙◌, take}
use Rattle.std.proofs.lemmas.List.{take-replicate}
use Rattle.sock_flow_table.proofs.GenerationLemmas.{shown-never}
use Rattle.sock_flow_table.specs.Generations.{shown}
use Rattle.sock_flow_table.specs.Sockets.{unset}
use Rattle.sock_flow_table.proofs.table.SockTable.make.Goals as goal

pub returns : goal.returns
returns c =
    let n : ℕ = c.round_up.result in
    let full = c.loop-test.false in
    let small = c.round_up.ensures.bounded in
    ap (λ es. take n (shown 1 es)) c.loop.invariant.items
    ∙ ap (take n) (shown-never c.loop.counter)
    ∙ (take-replicate n c.loop.counter None (omega arith) ∙ ap unset c.round_up.ensures.value)
