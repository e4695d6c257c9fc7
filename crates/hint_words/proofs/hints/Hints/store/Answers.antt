use Rattle.std.proofs.Common.{◌≡◌, ap, sym, ◌∙◌, arith}
use Rattle.hint_words.specs.Views.{HintsView}
use Rattle.hint_words.proofs.Keeps.{stores}
use Rattle.hint_words.proofs.hints.Hints.store.Goals as goal

pub store-requires : goal.store-requires
store-requires c = let shared = c.self.inside.table.shared in let sized = c.self.invariant.0 in
    let inside = c.requires.inside in
    let words : shared.key.words ≡ c.args.self.now.words =
    ap (λ (h : HintsView). h.words) c.self.view_is in (
      ap (λ s. s.table) c.seat.view_is
          ∙ (c.requires.table ∙ sym (ap (λ (h : HintsView). h.table) c.self.view_is)),
      omega arith,
      stores shared.key shared.table_id.slots c.seat.inside.seat.id c.seat.inside.seat.me c.args.i
          c.args.v (omega arith) c.seat.invariant,
    )
