-- What an atomic operation at a word of a board asks, from what its seat may do there.
use mathlib.Core.Option.{none}
use Rattle.atomic_table.specs.Table.{Allows, step}
use Rattle.linearization.specs.Rules.{Made}
use Rattle.hop_board.specs.Closed.{IsBoard}
use Rattle.hop_board.specs.declared.spare.Spare.{Spare}
use Rattle.hop_board.proofs.Names.{◌≡◌, ℕ, ◌<◌, List, ap, sym, ◌∙◌, subst, arith, TableId, Ordered}
use Rattle.hop_board.proofs.Names.{SeatView, seat_view, number_in, steps_in, FitSizes, BoardSizes}
use Rattle.hop_board.proofs.Names.{BoardStep, BoardView, MayAct, HasBoard, IsWord, place, width}
use Rattle.hop_board.proofs.Names.{Word}
use Rattle.hop_board.proofs.Apart.{place_inside}
use Rattle.hop_board.proofs.Keeps.{Alone, Seated, acts_in, stores_in}

-- a board as contracts see it, by its parts
abbrev view_of : TableId → BoardSizes → BoardView
view_of table sizes = record { table = table; sizes = sizes }

sizes_are : {table : TableId} {sizes : BoardSizes} {view : BoardView}
    → view_of table sizes ≡ view → sizes ≡ view.sizes
sizes_are seen = ap (λ (v : BoardView). v.sizes) seen

same_table : {table seat_table : TableId} {sizes : BoardSizes} {view : BoardView} {n : ℕ}
    {steps : List BoardStep} {seat : SeatView BoardStep} → view_of table sizes ≡ view
    → seat_view seat_table n steps ≡ seat → seat.table ≡ view.table → seat_table ≡ table
same_table seen seat_seen at_table =
    ap (λ (s : SeatView BoardStep). s.table) seat_seen
    ∙ (at_table ∙ sym (ap (λ (v : BoardView). v.table) seen))

inside : {key sizes : BoardSizes} {table : TableId} {spare : Spare} {view : BoardView} {i : ℕ}
    (w : Word) → IsBoard key table sizes spare → view_of table sizes ≡ view
    → IsWord view.sizes w → i ≡ place view.sizes w → i < table.words
inside {view = view} w board seen within here =
    let least = place_inside view.sizes w within in
    let words = board.words ∙ ap width (sizes_are seen) in omega arith

-- the board with its view, the seat with its view, and the place of the word
module _ {key sizes : BoardSizes} {table seat_table : TableId} {spare : Spare} {view : BoardView}
    {seat : SeatView BoardStep} {me : Seated} {i : ℕ} (id : ℕ) (w : Word)
    (board : IsBoard key table sizes spare) (seen : view_of table sizes ≡ view)
    (seat_seen : seat_view seat_table (number_in me.0) (steps_in me.0) ≡ seat)
    (at_table : seat.table ≡ view.table) (alone : Alone me) (within : IsWord view.sizes w)
    (here : i ≡ place view.sizes w) where
  pub acts_at : (f : ℕ → ℕ) (makes : ℕ → BoardStep) (says : ℕ → Type 0) (a b : ℕ)
      → MayAct view.sizes seat w f makes says
      → (seat_table ≡ table) × (i < table.words)
      × Allows (Ordered key.seats (HasBoard key)) table.slots id me i f
      (Made (λ st n. makes n) (λ st n order. says n) (step table.slots i a b none) me)
  acts_at f makes says a b may = (
    same_table seen seat_seen at_table,
    inside w board seen within here,
    acts_in view.sizes key (board.told_is ∙ sizes_are seen)
        (subst FitSizes (sizes_are seen) board.fit) seat seat_table table.slots id me seat_seen i w
        f makes says a b within here alone may,
  )

  pub stores_at : (v : ℕ) (makes : ℕ → BoardStep) (says : ℕ → Type 0)
      → MayAct view.sizes seat w (λ _. v) (λ _. makes v) (λ _. says v)
      → (seat_table ≡ table) × (i < table.words)
      × Allows (Ordered key.seats (HasBoard key)) table.slots id me i (λ _. v)
      (λ _. Made (λ st n. makes n) (λ st n order. says n) (step table.slots i v 0 none) me v)
  stores_at v makes says may = (
    same_table seen seat_seen at_table,
    inside w board seen within here,
    stores_in view.sizes key (board.told_is ∙ sizes_are seen)
        (subst FitSizes (sizes_are seen) board.fit) seat seat_table table.slots id me seat_seen i w
        v makes says within here alone may,
  )
