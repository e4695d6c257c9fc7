use Rattle.atomic_table.specs.Table.{rest}
use Rattle.board_api.specs.StepWords.{is_odd}
use Rattle.hop_board.specs.declared.places.Word.TheVariants as kind
use Rattle.hop_board.proofs.Names.{◌≡◌, [], ◌∷◌, false, Some, None, sym, refl, ap, ◌∙◌, subst}
use Rattle.hop_board.proofs.Names.{arith, one, number_in, steps_in, seat_view, own_state, FitSizes}
use Rattle.hop_board.proofs.Names.{BoardView, HeldAt, all_slots, home_at, home_of, slot_of, width}
use Rattle.hop_board.proofs.Apart.{home_is_at, place_inside}
use Rattle.hop_board.proofs.Keeps.{holds_in, empties_in, even_is, held_state}
use Rattle.hop_board.proofs.board.Board.take_as.Goals as goal

pub fetch_or-word-requires : goal.fetch_or-word-requires
fetch_or-word-requires g c =
    let shared = c.self.inside.table.shared in
    let board = c.self.invariant in
    let seat = c.seat.inside.seat in
    let about = c.args.self.now.sizes in
    let sizes : c.self.inside.sizes ≡ about = ap (λ (h : BoardView). h.sizes) c.self.view_is in
    let inside = place_inside about (kind.Lane c.args.lane) c.requires.within in
    let here = c.place-place.ensures in
    let words : shared.table_id.words ≡ width about = board.words ∙ ap width sizes in (
      ap (λ s. s.table) c.seat.view_is
          ∙ (c.requires.table ∙ sym (ap (λ (h : BoardView). h.table) c.self.view_is)),
      omega arith,
      holds_in about shared.key (board.told_is ∙ sizes)
          (subst FitSizes sizes board.fit) c.args.seat.now seat.table_id shared.table_id.slots
          seat.id seat.me
          c.seat.view_is c.place-place.result c.args.lane c.requires.within here
          (board.slots ∙ ap all_slots sizes)
          g.J.Taken.lane c.requires.lane c.seat.invariant,
    )

pub exchange-found-requires : goal.exchange-found-requires
exchange-found-requires g c =
    let e = c.fetch_or-word.ensures in
    let odd = c.if-word-eq1.false in
    let even : is_odd c.fetch_or-word.result ≡ false =
    even_is c.self.inside.sizes c.fetch_or-word.result (omega arith) in
    let t = e.2.as_told.0 even in
    let about = c.args.self.now.sizes in
    let slot_is : home_at c.place-place.result ≡ c.home_of-slot.result =
    ap home_at c.place-place.ensures ∙ (sym (home_is_at about c.args.lane)
    ∙ sym c.home_of-slot.ensures) in (
      e.0 ∙ (ap (λ s. s.table) c.seat.view_is
          ∙ (c.requires.table ∙ sym (ap (λ (h : BoardView). h.table) c.self.view_is))),
      (
        Some t.found,
        t.carries ∙ (λ j. (slot_is j, Some t.found) ∷ rest (sym t.carries j)),
      ),
    )

pub load-requires : goal.load-requires
load-requires g c =
    let shared = c.self.inside.table.shared in
    let board = c.self.invariant in
    let about = c.args.self.now.sizes in
    let sizes : c.self.inside.sizes ≡ about = ap (λ (h : BoardView). h.sizes) c.self.view_is in
    let inside = place_inside about (kind.Lane c.args.lane) c.requires.within in
    let here = c.place-place.ensures in
    let words : shared.table_id.words ≡ width about = board.words ∙ ap width sizes in
    let e = c.fetch_or-word.ensures in
    let odd = c.if-word-eq1.false in
    let even : is_odd c.fetch_or-word.result ≡ false = even_is about c.fetch_or-word.result
    (omega arith) in
    let t = e.2.as_told.0 even in
    let x = c.exchange-found.ensures in
    let seat = c.exchange-found.new.seat in
    let p = number_in c.seat.inside.seat.me.0 in
    let ds = steps_in c.seat.inside.seat.me.0 in
    let me_is : seat.me.0 ≡ one p (e.2.added ∷ ds) = ap (λ m. m.0) x.3 ∙ e.2.adds in
    let carried : seat.me.1 ≡ (home_of about c.args.lane, None) ∷ [] =
    ap (λ m. m.1) x.3 ∙ (λ j. (c.home_of-slot.ensures j, None) ∷ rest (t.carries j)) in (
      x.0 ∙ (e.0 ∙ (ap (λ s. s.table) c.seat.view_is
          ∙ (c.requires.table ∙ sym (ap (λ (h : BoardView). h.table) c.self.view_is)))),
      omega arith,
      empties_in about shared.key (board.told_is ∙ sizes) (subst FitSizes sizes board.fit)
          (seat_view seat.table_id (number_in seat.me.0) (steps_in seat.me.0)) seat.table_id
          shared.table_id.slots seat.id seat.me
          refl
          c.place-place.result c.args.lane c.requires.within here (board.slots ∙ ap all_slots sizes)
          (me_is ∙ sym (λ j. one (number_in (me_is j)) (steps_in (me_is j)))) carried
          (ap (λ v. own_state about (slot_of about c.args.lane) (steps_in v)) me_is
          ∙ held_state about c.args.lane c.fetch_or-word.result t.found e.2.added ds
          (subst (λ y. HeldAt y c.fetch_or-word.result t.found e.2.added) c.requires.lane
          t.held)),
    )
