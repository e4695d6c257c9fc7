use Rattle.atomic_table.specs.Table.{rest}
use Rattle.hop_board.specs.Releases.{released_lane, rises_in}
use Rattle.hop_board.specs.Tables.{slot_at}
use Rattle.hop_board.specs.declared.places.Word.TheVariants as kind
use Rattle.hop_board.proofs.Names.{◌≡◌, ◌+◌, ◌-◌, ◌%◌, ◌^◌, [], ◌∷◌, true, false, Some, None, sym}
use Rattle.hop_board.proofs.Names.{refl, ap, ◌∙◌, subst, arith, one, number_in, steps_in, SeatView}
use Rattle.hop_board.proofs.Names.{seat_view, BoardStep, LaneIn, FitSizes, BoardView, MayGive}
use Rattle.hop_board.proofs.Names.{released_word, all_slots, home_at, home_of, place, slot_of}
use Rattle.hop_board.proofs.Names.{width}
use Rattle.hop_board.proofs.Apart.{home_is_at, place_inside, slot_is_at}
use Rattle.hop_board.proofs.Keeps.{fills_in, gives_in}
use Rattle.hop_board.proofs.board.Board.give_as.Goals as goal

pub load-requires : goal.load-requires
load-requires g c =
    let shared = c.self.inside.table.shared in
    let board = c.self.invariant in
    let seat = c.seat.inside.seat in
    let about = c.args.self.now.sizes in
    let lane = released_lane c.args.release in
    let sizes : c.self.inside.sizes ≡ about = ap (λ (h : BoardView). h.sizes) c.self.view_is in
    let inside = place_inside about (kind.Lane lane) c.requires.within in
    let here : c.place-place.result ≡ place about (kind.Lane lane) = c.place-place.ensures
    ∙ ap (λ x. place about (kind.Lane x)) c.lane-id.ensures in
    let words : shared.table_id.words ≡ width about = board.words ∙ ap width sizes in (
      ap (λ s. s.table) c.seat.view_is
          ∙ (c.requires.table ∙ sym (ap (λ (h : BoardView). h.table) c.self.view_is)),
      omega arith,
      fills_in about shared.key (board.told_is ∙ sizes)
          (subst FitSizes sizes board.fit) c.args.seat.now seat.table_id shared.table_id.slots
          seat.id seat.me
          c.seat.view_is c.place-place.result lane c.requires.within here
          (board.slots ∙ ap all_slots sizes)
          c.seat.invariant c.requires.empty,
    )

pub exchange-requires : goal.exchange-requires
exchange-requires g c =
    let about = c.args.self.now.sizes in
    let lane = released_lane c.args.release in
    let e = c.load.ensures in
    let slot_is : home_at c.place-place.result ≡ c.home_of-slot.result =
    ap home_at c.place-place.ensures
    ∙ (sym (home_is_at about c.lane-id.result) ∙ sym c.home_of-slot.ensures) in (
      e.0 ∙ (ap (λ s. s.table) c.seat.view_is
          ∙ (c.requires.table ∙ sym (ap (λ (h : BoardView). h.table) c.self.view_is))),
      (
        None,
        e.2.as_told.1 ∙ (λ j. (slot_is j, None) ∷ rest (sym e.2.as_told.1 j)),
      ),
    )

pub fetch_add-requires : goal.fetch_add-requires
fetch_add-requires g c =
    let shared = c.self.inside.table.shared in
    let board = c.self.invariant in
    let about = c.args.self.now.sizes in
    let lane = released_lane c.args.release in
    let sizes : c.self.inside.sizes ≡ about = ap (λ (h : BoardView). h.sizes) c.self.view_is in
    let inside = place_inside about (kind.Lane lane) c.requires.within in
    let here : c.place-place.result ≡ place about (kind.Lane lane) = c.place-place.ensures
    ∙ ap (λ x. place about (kind.Lane x)) c.lane-id.ensures in
    let slot_is : c.home_of-slot.result ≡ home_of about lane = c.home_of-slot.ensures
    ∙ ap (home_of about) c.lane-id.ensures in
    let found : slot_at c.place-place.result ≡ slot_of about lane = ap slot_at here
    ∙ sym (slot_is_at about lane) in
    let words : shared.table_id.words ≡ width about = board.words ∙ ap width sizes in
    let e = c.load.ensures in
    let x = c.exchange.ensures in
    let seat = c.exchange.new.seat in
    let z = c.seat.inside.seat.table_id in
    let p = number_in c.seat.inside.seat.me.0 in
    let ds = steps_in c.seat.inside.seat.me.0 in
    let me_is : seat.me.0 ≡ one p (LaneIn (slot_of about lane) ∷ ds) =
    ap (λ m. m.0) x.3 ∙ (e.2.adds ∙ ap (λ d. one p (d ∷ ds)) (e.2.as_told.0
    ∙ ap (λ k. LaneIn k) found)) in
    let carried : seat.me.1 ≡ (home_of about lane, Some c.args.lane) ∷ [] =
    ap (λ m. m.1) x.3 ∙ (λ j. (slot_is j, Some c.args.lane)
    ∷ rest ((e.2.as_told.1 ∙ ap (λ cs. (home_at c.place-place.result, None) ∷ cs)
    (ap (λ m. m.1) c.seat.invariant)) j)) in
    let rises : rises_in c.args.release ≡ true = sym c.rises.ensures ∙ c.if-rises.true in (
      x.0 ∙ (e.0 ∙ (ap (λ s. s.table) c.seat.view_is
          ∙ (c.requires.table ∙ sym (ap (λ (h : BoardView). h.table) c.self.view_is)))),
      omega arith,
      gives_in about shared.key (board.told_is ∙ sizes) (subst FitSizes sizes board.fit)
          (seat_view z (number_in seat.me.0) (steps_in seat.me.0)) z shared.table_id.slots seat.id
          seat.me refl
          c.place-place.result lane c.requires.within here (board.slots ∙ ap all_slots sizes)
          (rises_in c.args.release) c.args.lane g.J.Given.step g.J.Given.says ds
          (λ n. (n + 1) % 2 ^ 64) 1 p (ap released_word (sym rises))
          me_is carried
          (subst (λ (v : SeatView BoardStep). MayGive about v lane
          (rises_in c.args.release) c.args.lane g.J.Given.step g.J.Given.says)
          (sym c.seat.view_is) c.requires.give),
    )

pub fetch_sub-requires : goal.fetch_sub-requires
fetch_sub-requires g c =
    let shared = c.self.inside.table.shared in
    let board = c.self.invariant in
    let about = c.args.self.now.sizes in
    let lane = released_lane c.args.release in
    let sizes : c.self.inside.sizes ≡ about = ap (λ (h : BoardView). h.sizes) c.self.view_is in
    let inside = place_inside about (kind.Lane lane) c.requires.within in
    let here : c.place-place.result ≡ place about (kind.Lane lane) = c.place-place.ensures
    ∙ ap (λ x. place about (kind.Lane x)) c.lane-id.ensures in
    let slot_is : c.home_of-slot.result ≡ home_of about lane = c.home_of-slot.ensures
    ∙ ap (home_of about) c.lane-id.ensures in
    let found : slot_at c.place-place.result ≡ slot_of about lane = ap slot_at here
    ∙ sym (slot_is_at about lane) in
    let words : shared.table_id.words ≡ width about = board.words ∙ ap width sizes in
    let e = c.load.ensures in
    let x = c.exchange.ensures in
    let seat = c.exchange.new.seat in
    let z = c.seat.inside.seat.table_id in
    let p = number_in c.seat.inside.seat.me.0 in
    let ds = steps_in c.seat.inside.seat.me.0 in
    let me_is : seat.me.0 ≡ one p (LaneIn (slot_of about lane) ∷ ds) =
    ap (λ m. m.0) x.3 ∙ (e.2.adds ∙ ap (λ d. one p (d ∷ ds)) (e.2.as_told.0
    ∙ ap (λ k. LaneIn k) found)) in
    let carried : seat.me.1 ≡ (home_of about lane, Some c.args.lane) ∷ [] =
    ap (λ m. m.1) x.3 ∙ (λ j. (slot_is j, Some c.args.lane)
    ∷ rest ((e.2.as_told.1 ∙ ap (λ cs. (home_at c.place-place.result, None) ∷ cs)
    (ap (λ m. m.1) c.seat.invariant)) j)) in
    let rises : rises_in c.args.release ≡ false = sym c.rises.ensures ∙ c.if-rises.false in (
      x.0 ∙ (e.0 ∙ (ap (λ s. s.table) c.seat.view_is
          ∙ (c.requires.table ∙ sym (ap (λ (h : BoardView). h.table) c.self.view_is)))),
      omega arith,
      gives_in about shared.key (board.told_is ∙ sizes) (subst FitSizes sizes board.fit)
          (seat_view z (number_in seat.me.0) (steps_in seat.me.0)) z shared.table_id.slots seat.id
          seat.me refl
          c.place-place.result lane c.requires.within here (board.slots ∙ ap all_slots sizes)
          (rises_in c.args.release) c.args.lane g.J.Given.step g.J.Given.says ds
          (λ n. (n + (2 ^ 64 - 1)) % 2 ^ 64) 1 p (ap released_word (sym rises))
          me_is carried
          (subst (λ (v : SeatView BoardStep). MayGive about v lane
          (rises_in c.args.release) c.args.lane g.J.Given.step g.J.Given.says)
          (sym c.seat.view_is) c.requires.give),
    )
