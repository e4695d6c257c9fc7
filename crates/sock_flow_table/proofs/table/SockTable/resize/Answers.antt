use Rattle.std.proofs.Common.{ℕ, None, take, vec_len, ap, ◌∙◌, arith}
use Rattle.std.proofs.lemmas.List.{take-replicate}
use Rattle.sock_flow_table.specs.Sockets.{unset}
use Rattle.sock_flow_table.proofs.table.SockTable.resize.Goals as goal

pub returns : goal.returns
returns c =
    let n : ℕ = c.round_up-self-inside.result in
    let small = c.round_up-self-inside.ensures.bounded in
    let all : ℕ = vec_len c.self.inside.entries in
    ap (take n) c.clear_all-self-inside.ensures.unset
    ∙ (take-replicate n all None (omega arith) ∙ ap unset c.round_up-self-inside.ensures.value)
