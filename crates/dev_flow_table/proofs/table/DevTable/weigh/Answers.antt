use Rattle.std.proofs.Common.{◌≡◌, ◌<◌, ℕ, Some, arith, ap, sym, subst, ◌∙◌, set, length}
use Rattle.std.proofs.Common.{slice_index_or}
use Rattle.std.specs.Option.{unwrap_or}
use Rattle.steer_base.specs.Choices.{by_entry, migrate}
use Rattle.steer_base.specs.Moves.{MovesByThree}
use Rattle.steer_base.specs.Sets.{has}
use Rattle.steer_base.specs.declared.choice.Entry.{Entry}
use Rattle.steer_base.proofs.RuleLemmas.{moves-of}
use Rattle.dev_flow_table.specs.Moves.{MovesInTable}
use Rattle.dev_flow_table.specs.Tables.{Table, IsClassOf, entries, entry_after, unset, weighed}
use Rattle.dev_flow_table.specs.Written.{filled}
use Rattle.dev_flow_table.proofs.WrittenLemmas.{filled-at, length-filled}
use Rattle.dev_flow_table.proofs.table.DevTable.weigh.Goals as goal

pub returns-clause-table : goal.returns-clause-table
returns-clause-table c =
    let t = c.self.inside in
    let rows = t.rows.items in
    let n : ℕ = t.size in
    let k : ℕ = c.in-Some.class in
    let inv = c.self.invariant in
    let counted = t.rows.ok.0 in
    let choice = c.choose-choice.result in
    let e : Entry = c.entry_at-entry.result in
    let after : Entry = c.entry_after-after.result in
    let long = length-filled rows n t.start (omega (arith, counted, inv.0)) in
    let same : length (filled rows n t.start) ≡ length c.args.self.now.rows =
    ap (λ (x : Table). length x.rows) c.self.view_is in
    let asked : k < length c.args.self.now.rows =
    subst (λ class. IsClassOf c.args.self.now class) c.in-Some.is c.requires.class in
    let within : k < n = omega arith in
    let found : e ≡ slice_index_or (filled rows n t.start) k (unset t.start) =
    c.entry_at-entry.ensures ∙ sym (filled-at rows n t.start k within) in
    (λ i. record {
      rows = c.write_at.ensures.written n within inv.0 i;
      start = t.start;
      exact = t.exact;
    })
    ∙ ((λ i. record {
      rows = set (filled rows n t.start) k
          ((c.entry_after-after.ensures ∙ ap (λ x. entry_after t.start x choice) found) i);
      start = t.start;
      exact = t.exact;
    })
    ∙ (ap (λ (x : Table). weighed x (Some k) choice) c.self.view_is
    ∙ ap (λ class. weighed c.args.self.now class choice) (sym c.in-Some.is)))

pub returns-clause-choice : goal.returns-clause-choice
returns-clause-choice c =
    let t = c.self.inside in
    let rows = t.rows.items in
    let n : ℕ = t.size in
    let k : ℕ = c.in-Some.class in
    let inv = c.self.invariant in
    let counted = t.rows.ok.0 in
    let table = c.args.self.now in
    let e : Entry = c.entry_at-entry.result in
    let long = length-filled rows n t.start (omega (arith, counted, inv.0)) in
    let same : length (filled rows n t.start) ≡ length table.rows =
    ap (λ (x : Table). length x.rows) c.self.view_is in
    let asked : k < length table.rows =
    subst (λ class. IsClassOf table class) c.in-Some.is c.requires.class in
    let within : k < n = omega arith in
    let found : e ≡ entries table k =
    c.entry_at-entry.ensures ∙ sym (filled-at rows n t.start k within)
    ∙ ap (λ (x : Table). entries x k) c.self.view_is in
    let head : ℕ → ℕ = λ _. unwrap_or c.args.head 0 in
    c.choose-choice.ensures
    ∙ ap (λ (en : Entry). by_entry k c.args.want c.args.desired en.tail head (has c.args.online)
    en.lane) found
    ∙ ap (λ class. migrate class c.args.want c.args.desired (entries table) head
    (has c.args.online)) (sym c.in-Some.is)

pub returns-clause-moves : goal.returns-clause-moves
returns-clause-moves c =
    let t = c.self.inside in
    let rows = t.rows.items in
    let n : ℕ = t.size in
    let k : ℕ = c.in-Some.class in
    let inv = c.self.invariant in
    let counted = t.rows.ok.0 in
    let choice = c.choose-choice.result in
    let table = c.args.self.now in
    let e : Entry = c.entry_at-entry.result in
    let long = length-filled rows n t.start (omega (arith, counted, inv.0)) in
    let same : length (filled rows n t.start) ≡ length table.rows =
    ap (λ (x : Table). length x.rows) c.self.view_is in
    let asked : k < length table.rows =
    subst (λ class. IsClassOf table class) c.in-Some.is c.requires.class in
    let within : k < n = omega arith in
    let found : e ≡ entries table k =
    c.entry_at-entry.ensures ∙ sym (filled-at rows n t.start k within)
    ∙ ap (λ (x : Table). entries x k) c.self.view_is in
    let head : ℕ → ℕ = λ _. unwrap_or c.args.head 0 in
    let moves = moves-of choice k c.args.want c.args.desired e.tail head (has c.args.online) e.lane
    c.choose-choice.ensures in
    subst (λ class. MovesInTable table class choice c.args.desired head (has c.args.online))
    (sym c.in-Some.is)
    (subst (λ (en : Entry). MovesByThree choice c.args.desired en.tail head (has c.args.online)
    en.lane) found moves)
