use Rattle.std.proofs.Common.{ℕ, Option, ap, ◌∙◌, sym}
use Rattle.std.specs.List.{slice_index}
use Rattle.steer_base.specs.Choices.{migrate}
use Rattle.steer_base.specs.Counters.{number}
use Rattle.steer_base.specs.Sets.{has}
use Rattle.dev_flow_table.specs.Tables.{entries}
use Rattle.hop_core.specs.FlowTables.{table_at}
use Rattle.hop_core.proofs.tables.Tables.choose.Goals as goal

pub returns-in_default-clause-choice : goal.returns-in_default-clause-choice
returns-in_default-clause-choice c =
    let a = c.args in
    let heads : ℕ → ℕ = λ lane. number a.self.now.start (slice_index a.retired.now lane) in
    let es = entries (table_at a.self.now a.p) in
    c.plain.ensures a.want es heads (has a.online)
    ∙ ap (λ (class : Option ℕ). migrate class a.want a.desired es heads (has a.online))
    (sym c.in_default.is)
