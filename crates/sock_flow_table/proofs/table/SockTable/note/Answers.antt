use Rattle.std.proofs.Common.{◌≡◌, ℕ, ◌<◌, List, Option, Some, arith, ap, ◌∙◌, take, set, length}
use Rattle.std.proofs.Math.Seq.{take-set-lt}
use Rattle.std.proofs.lemmas.List.{length-map, length-take-le}
use Rattle.steer_base.specs.HashTables.{with_row}
use Rattle.sock_flow_table.proofs.GenerationLemmas.{shown-noted}
use Rattle.sock_flow_table.specs.Generations.{current, shown}
use Rattle.sock_flow_table.proofs.table.SockTable.note.Goals as goal

pub returns-clause-table : goal.returns-clause-table
returns-clause-table c =
    let v = c.self.inside.entries in
    let n : ℕ = c.self.inside.size in
    let now : ℕ = c.self.inside.generation in
    let p : ℕ = c.in-Some.place in
    let cpu : ℕ = c.args.cpu in
    let inv = c.self.invariant in
    let counted = v.ok.0 in
    let all : List (Option ℕ) = shown now v.items in
    let wide : length all ≡ length v.items = length-map v.items (current now) in
    let seen : take n all ≡ c.args.self.now = c.self.view_is in
    let long : length (take n all) ≡ n = length-take-le n all (omega arith) in
    let within : p < length c.args.self.now = c.in-Some.ensures.within in
    let same : length (take n all) ≡ length c.args.self.now = ap (λ es. length es) seen in
    ap (λ entry. take n (shown now (set v.items p entry))) c.make.ensures
    ∙ ap (take n) (shown-noted now v.items p cpu) ∙ take-set-lt n all p (Some cpu) (omega arith)
    ∙ (ap (λ es. set es p (Some cpu)) seen
    ∙ ap (λ place. with_row c.args.self.now place (Some cpu)) c.in-Some.ensures.value)
