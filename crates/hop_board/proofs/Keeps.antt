-- Steps of seats keep the rule of a board.
use Rattle.std.proofs.Common.{◌/◌, max, length-set, bit_or}
use Rattle.std.proofs.lemmas.Nat.{or_comm}
use mathlib.Core.Option.{Option, none}
use lib.ListN.{get_elem?}
use lib.Bits.{or_step}
use Rattle.atomic_table.specs.Table.{Me, step, Step, keeps, takes, gives, homes_after, Allows}
use Rattle.atomic_table.proofs.Lists.{set_here, set_else}
use Rattle.linearization.specs.declared.hands.Hands.{Hands}
use Rattle.linearization.specs.Rules.{Made, Moved}
use Rattle.linearization.proofs.RuleLemmas.{goes, moves, moves_taking}
use Rattle.hop_rule.specs.declared.step.LaneStep.TheVariants.{Held, OutHeld}
use Rattle.hop_rule.specs.declared.step.Slot.TheVariants as slot
use Rattle.hop_rule.specs.Lanes as lanes
use Rattle.hop_rule.specs.Boards.{MayCome, taken, empty, slot_state, SlotState}
use Rattle.hop_rule.proofs.Slots.{agrees, out_agrees, is_out}
use Rattle.board_api.specs.StepWords.{is_odd}
use Rattle.board_api.specs.Calls.Results.{MissedAt}
use Rattle.board_api.specs.declared.held_lane.LaneId.TheVariants as id
use Rattle.hop_board.specs.declared.places.Word.TheVariants as kind
use Rattle.hop_board.specs.Tables.{lane_value, home_by, HomesAre}
use Rattle.hop_board.specs.Plays.{Carried, HoldsThen, EmptiesThen, FillsThen, GivesThen}
use Rattle.hop_board.proofs.Names.{◌≡◌, ◌≢◌, ℕ, zero, suc, ◌+◌, ◌*◌, ◌%◌, ◌<◌, List, [], ◌∷◌}
use Rattle.hop_board.proofs.Names.{length, get_or, set, slice_index, sym, refl, ap, ◌∙◌, subst}
use Rattle.hop_board.proofs.Names.{arith, get_or-set_same, get_or-set_other, Some, None, Bool, true}
use Rattle.hop_board.proofs.Names.{false, ◌==◌, if◌then◌else◌, dite, some, ℕ_discrete, StepBy}
use Rattle.hop_board.proofs.Names.{step_by, steps_of, one, number_in, steps_in, Ordered, SeatView}
use Rattle.hop_board.proofs.Names.{seat_view, TableId, if_same, if_other, BoardSizes, BoardStep}
use Rattle.hop_board.proofs.Names.{Lane, LaneOut, LaneIn, LaneStep, Slot, IsLawful, lanes_of}
use Rattle.hop_board.proofs.Names.{own_state, FitSizes, FitsLane, LaneId, Word, InSlot, all_slots}
use Rattle.hop_board.proofs.Names.{home_of, slot_of, place, IsWord, content, value, home_after}
use Rattle.hop_board.proofs.Names.{HasBoard, MayAct, MayGive, released_word, HeldAt}
use Rattle.hop_board.proofs.Apart.{home_inside, home_is_at, same_lane, same_word, slot_inside}
use Rattle.hop_board.proofs.Apart.{slot_is_at, place_inside}

abbrev Order : Type 0
Order = List (StepBy BoardStep)

abbrev pub Seated : Type 0
Seated = Me InSlot (Hands BoardStep)

-- the one hand of a seat, which has taken nothing
abbrev pub Alone : Seated → Type 0
Alone me = me ≡ (one (number_in me.0) (steps_in me.0), [])

-- the holder of a lane after an order: 0 for nobody, otherwise the holder's number plus 1
abbrev pub holder_of : List (StepBy LaneStep) → LaneId → ℕ
holder_of ls (id.Middle l) = lanes.holder l ls
holder_of ls (id.Out o) = lanes.out_holder o ls

-- the word is at this place of the table
abbrev pub IsAt : BoardSizes → Word → ℕ → Type 0
IsAt about w i = IsWord about w × (i ≡ place about w)

module _ (about : BoardSizes) where
  -- a step that leaves m in the word w
  kept : (order : Order) (words : List ℕ) (homes after : List (Option InSlot)) (p m : ℕ) (w : Word)
      (d : BoardStep) → p < about.seats → IsWord about w → HasBoard about order words homes
      → MayCome about p order d → m ≡ value about (step_by p d ∷ order) w
      → ((v : Word) → v ≢ w → value about (step_by p d ∷ order) v ≡ value about order v)
      → HomesAre about (step_by p d ∷ order) after
      → HasBoard about (step_by p d ∷ order) (set words (place about w) m) after
  kept order words homes after p m w d few inside h may here others homes_are =
      let count = h.counted in let least = place_inside about w inside in
      record {
        lawful = (few, may, h.lawful);
        counted = length-set words (place about w) m ∙ h.counted;
        words_are = λ v v_fits. dite (ℕ_discrete (place about v) (place about w))
            (λ same. let v_is : v ≡ w = same_word about v w v_fits inside same in
            subst (λ (z : Word). get_or (set words (place about w) m) (place about z) 0
            ≡ value about (step_by p d ∷ order) z) (sym v_is)
            (get_or-set_same words (place about w) m 0 (omega arith) ∙ here))
            (λ apart. get_or-set_other words (place about w) (place about v) m 0 apart
            ∙ (h.words_are v v_fits ∙ sym (others v (λ e. apart (ap (place about) e)))));
        homes_are = homes_are;
      }

  -- ---- steps that leave the slots as they are

  module _ (fit : FitSizes about) (w : Word) (f : ℕ → ℕ) (makes : ℕ → BoardStep)
      (says : ℕ → Type 0) where
    acts : (p : ℕ) (ds : List BoardStep) (z : TableId) (order : Order) (words : List ℕ)
        (homes : List (Option InSlot)) → IsWord about w → MayAct about
        (seat_view z p ds) w f makes says
        → p < about.seats → ds ≡ steps_of p order → HasBoard about order words homes
        → (let n = slice_index words (place about w) in
        HasBoard about (step_by p (makes n) ∷ order) (set words (place about w) (f n)) homes
        × says n)
    acts p ds z order words homes inside may few own h =
        let n_is : value about order w ≡ slice_index words (place about w) =
        sym (h.words_are w inside) in
        let t = may fit order few own h.lawful in
        subst (λ (n : ℕ). HasBoard about (step_by p (makes n) ∷ order) (set words (place about w)
        (f n))
        homes × says n) n_is (
          kept order words homes homes p (f (value about order w)) w (makes (value about order w))
              few inside h t.0.may t.0.here t.0.others
              (λ x fits. h.homes_are x fits ∙ ap some (sym (t.0.homes x))),
          t.1,
        )

    pub steps_at : (z : TableId) (n id : ℕ) (me : Seated) (i a b : ℕ) → IsAt about w i → Alone me
        → MayAct about (seat_view z (number_in me.0) (steps_in me.0)) w f makes says
        → Allows (Ordered about.seats (HasBoard about)) n id me i f
        (Made (λ st n. makes n) (λ st n order. says n) (step n i a b none) me)
    steps_at z n id me i a b at alone may =
        subst (λ (k : ℕ). Allows (Ordered about.seats (HasBoard about)) n id me k f
        (Made (λ st n. makes n) (λ st n order. says n) (step n k a b none) me)) (sym at.1)
        (goes about.seats (HasBoard about) (λ st n. makes n) (λ st n order. says n)
        (step n (place about w) a b none) n id me (place about w) f alone
        (λ order words homes by few own h.
        acts (number_in me.0) (steps_in me.0) z order words homes at.0 may few own h))

  -- a store, which tells the value that was stored
  pub stores_at : FitSizes about → (w : Word) (v : ℕ) (makes : ℕ → BoardStep) (says : ℕ → Type 0)
      (z : TableId) (n id : ℕ)
      (me : Seated) (i : ℕ) → IsAt about w i → Alone me
      → MayAct about (seat_view z (number_in me.0) (steps_in me.0)) w (λ _. v) (λ _. makes v)
      (λ _. says v)
      → Allows (Ordered about.seats (HasBoard about)) n id me i (λ _. v)
      (λ _. Made (λ st n. makes n) (λ st n order. says n) (step n i v 0 none) me v)
  stores_at fit w v makes says z n id me i at alone may =
      subst (λ (k : ℕ). Allows (Ordered about.seats (HasBoard about)) n id me k (λ _. v)
      (λ _. Made (λ st n. makes n) (λ st n order. says n) (step n k v 0 none) me v)) (sym at.1)
      (moves about.seats (HasBoard about) n id me (place about w) (λ _. v)
      (λ _. Made (λ st n. makes n) (λ st n order. says n) (step n (place about w) v 0 none) me v)
      (ap (λ m. m.0) alone)
      (λ order words homes _ _ by few own h.
      let t = acts fit w (λ _. v) (λ _. makes v) (λ _. says v) (number_in me.0)
      (steps_in me.0) z order words
      homes at.0 may few own h in (
        makes v,
        keeps,
        tt,
        t.0,
        record { adds = refl; order = order; part = own; told = t.1 },
      )))

  -- ---- slots

  homes_with : (order : Order) (homes : List (Option InSlot)) (p : ℕ) (x : LaneId) (d : BoardStep)
      (y : Option InSlot) → FitsLane about x → length homes ≡ all_slots about
      → HomesAre about order homes
      → home_after about (step_by p d ∷ order) x ≡ y
      → ((u : LaneId) → FitsLane about u → u ≢ x
      → home_after about (step_by p d ∷ order) u ≡ home_after about order u)
      → HomesAre about (step_by p d ∷ order) (set homes (home_of about x) y)
  homes_with order homes p x d y inside many are here others u fits =
      dite (ℕ_discrete (home_of about u) (home_of about x))
      (λ same. let u_is : u ≡ x = same_lane about u x fits inside (omega arith) in
      subst (λ (z : LaneId). get_elem? (set homes (home_of about x) y) (home_of about z)
      ≡ some (home_after about (step_by p d ∷ order) z)) (sym u_is)
      (set_here homes (home_of about x) y (let least = home_inside about x inside in omega arith)
      ∙ ap some (sym here)))
      (λ apart. set_else homes (home_of about x) (home_of about u) y apart
      ∙ (are u fits ∙ ap some (sym (others u fits (λ e. apart (ap (home_of about) e))))))

  -- who has taken a slot by its own steps has it as they say
  pub slot_is : (x : LaneId) (order : Order) (p : ℕ) (s : SlotState) → FitsLane about x
      → IsLawful about order → own_state about (slot_of about x) (steps_of p order) ≡ s
      → is_out s ≡ 1
      → slot_state about (slot_of about x) order ≡ s
  slot_is (id.Middle l) order p s inside lawful is out =
      ((agrees about l inside order lawful).own p (ap is_out is ∙ out)).1 ∙ is
  slot_is (id.Out o) order p s inside lawful is out =
      ((out_agrees about o order lawful).own p (ap is_out is ∙ out)).1 ∙ is

  -- a free lane is in its slot
  pub home_is : (x : LaneId) (order : Order) → FitsLane about x → IsLawful about order
      → holder_of (lanes_of order) x ≡ 0
      → home_after about order x ≡ some (Some (content about (lanes_of order) x))
  home_is (id.Middle l) order inside lawful free =
      ap (λ s. home_by about s (content about (lanes_of order) (id.Middle l)))
      ((agrees about l inside order lawful).home free)
  home_is (id.Out o) order inside lawful free =
      ap (λ s. home_by about s (content about (lanes_of order) (id.Out o)))
      ((out_agrees about o order lawful).home free)

  -- states and contents of slots that one step changes at one of them
  pub state_else : (x u : LaneId) (a b : SlotState) → FitsLane about x → FitsLane about u → u ≢ x
      → (if slot_of about x == slot_of about u then a else b) ≡ b
  state_else x u a b inside fits ne = if_other (slot_of about x) (slot_of about u) a b
      (λ e. ne (same_lane about u x fits inside (sym e)))

  -- ---- a lane is held, or is not

  abbrev tail_of : List (StepBy LaneStep) → LaneId → ℕ
  tail_of ls (id.Middle l) = about.start + length (lanes.lane about l ls).accepted
  tail_of ls (id.Out o) = about.start + length (lanes.out o ls)

  pub lane_is : (ls : List (StepBy LaneStep)) (x : LaneId)
      → lane_value about ls x ≡ 2 * tail_of ls x + lanes.bit (holder_of ls x)
  lane_is ls (id.Middle l) = refl
  lane_is ls (id.Out o) = refl

  abbrev held_step : LaneId → ℕ → List (StepBy LaneStep) → BoardStep
  held_step (id.Middle l) w ls = Lane (Held l w (lanes.lane about l ls))
  held_step (id.Out o) w ls = Lane (OutHeld o w (lanes.out_content about o ls))

  held_at : (x : LaneId) (w : ℕ) (ls : List (StepBy LaneStep))
      → HeldAt x w (content about ls x) (held_step x w ls)
  held_at (id.Middle l) w ls = refl
  held_at (id.Out o) w ls = refl

  held_may : (x : LaneId) (w p : ℕ) (order : Order) → FitsLane about x
      → w ≡ lane_value about (lanes_of order) x → holder_of (lanes_of order) x ≡ 0
      → MayCome about p order (held_step x w (lanes_of order))
  held_may (id.Middle l) w p order inside is free = ((inside, is, free, refl), tt, tt)
  held_may (id.Out o) w p order inside is free = ((inside, is, free, refl), tt, tt)

  held_value : (x : LaneId) (w p : ℕ) (order : Order)
      → value about (step_by p (held_step x w (lanes_of order)) ∷ order) (kind.Lane x)
      ≡ 2 * tail_of (lanes_of order) x + 1
  held_value (id.Middle l) w p order =
      ap (λ h. 2 * tail_of (lanes_of order) (id.Middle l) + lanes.bit h)
      (if_same l l (suc p) (lanes.holder l (lanes_of order)) refl)
  held_value (id.Out o) w p order = ap (λ h. 2 * tail_of (lanes_of order) (id.Out o) + lanes.bit h)
      (if_same o o (suc p) (lanes.out_holder o (lanes_of order)) refl)

  held_others : (x : LaneId) (w p : ℕ) (order : Order) (v : Word) → v ≢ kind.Lane x
      → value about (step_by p (held_step x w (lanes_of order)) ∷ order) v ≡ value about order v
  held_others (id.Middle l) w p order (kind.Lane (id.Middle j)) ne =
      ap (λ h. 2 * tail_of (lanes_of order) (id.Middle j) + lanes.bit h)
      (if_other l j (suc p) (lanes.holder j (lanes_of order))
      (λ e. ne (ap (λ z. kind.Lane (id.Middle z)) (sym e))))
  held_others (id.Middle l) w p order (kind.Lane (id.Out j)) ne = refl
  held_others (id.Out o) w p order (kind.Lane (id.Middle j)) ne = refl
  held_others (id.Out o) w p order (kind.Lane (id.Out j)) ne =
      ap (λ h. 2 * tail_of (lanes_of order) (id.Out j) + lanes.bit h)
      (if_other o j (suc p) (lanes.out_holder j (lanes_of order))
      (λ e. ne (ap (λ z. kind.Lane (id.Out z)) (sym e))))
  held_others (id.Middle l) w p order (kind.Head j) ne = refl
  held_others (id.Middle l) w p order kind.Gate ne = refl
  held_others (id.Middle l) w p order (kind.Setting i) ne = refl
  held_others (id.Out o) w p order (kind.Head j) ne = refl
  held_others (id.Out o) w p order kind.Gate ne = refl
  held_others (id.Out o) w p order (kind.Setting i) ne = refl

  -- who has just held a lane has taken its slot
  pub held_state : (x : LaneId) (w : ℕ) (found : Slot) (d : BoardStep) (ds : List BoardStep)
      → HeldAt x w found d → own_state about (slot_of about x) (d ∷ ds) ≡ taken
  held_state (id.Middle l) w (slot.Middle y) d ds is =
      ap (λ z. own_state about l (z ∷ ds)) is ∙ if_same l l taken (own_state about l ds) refl
  held_state (id.Out o) w (slot.Out y) d ds is =
      ap (λ z. own_state about (slot_of about (id.Out o)) (z ∷ ds)) is
      ∙ if_same (slot_of about (id.Out o)) (slot_of about (id.Out o)) taken
      (own_state about (slot_of about (id.Out o)) ds) refl
  held_state (id.Middle l) w (slot.Out y) d ds is = absurd is
  held_state (id.Out o) w (slot.Middle y) d ds is = absurd is

  held_home : (x : LaneId) (w p : ℕ) (order : Order)
      → home_after about (step_by p (held_step x w (lanes_of order)) ∷ order) x ≡ none
  held_home (id.Middle l) w p order =
      ap (λ s. home_by about s (content about (lanes_of order) (id.Middle l)))
      (if_same l l taken (slot_state about l order) refl)
  held_home (id.Out o) w p order =
      ap (λ s. home_by about s (content about (lanes_of order) (id.Out o)))
      (if_same (slot_of about (id.Out o)) (slot_of about (id.Out o)) taken
      (slot_state about (slot_of about (id.Out o)) order) refl)

  held_homes : (x : LaneId) (w p : ℕ) (order : Order) → FitsLane about x → (u : LaneId)
      → FitsLane about u → u ≢ x
      → home_after about (step_by p (held_step x w (lanes_of order)) ∷ order) u ≡ home_after about
      order u
  held_homes (id.Middle l) w p order inside u fits ne =
      ap (λ s. home_by about s (content about (lanes_of order) u))
      (state_else (id.Middle l) u taken (slot_state about (slot_of about u) order) inside fits ne)
  held_homes (id.Out o) w p order inside u fits ne =
      ap (λ s. home_by about s (content about (lanes_of order) u))
      (state_else (id.Out o) u taken (slot_state about (slot_of about u) order) inside fits ne)

  missed_may : (x : LaneId) (w p : ℕ) (order : Order) → FitsLane about x
      → w ≡ lane_value about (lanes_of order) x → 0 < holder_of (lanes_of order) x
      → MayCome about p order (MissedAt x w)
  missed_may (id.Middle l) w p order inside is held = ((inside, is, held), tt, tt)
  missed_may (id.Out o) w p order inside is held = ((inside, is, held), tt, tt)

  missed_value : (x : LaneId) (w p : ℕ) (order : Order) (v : Word)
      → value about (step_by p (MissedAt x w) ∷ order) v ≡ value about order v
  missed_value (id.Middle l) w p order (kind.Lane (id.Middle j)) = refl
  missed_value (id.Middle l) w p order (kind.Lane (id.Out j)) = refl
  missed_value (id.Middle l) w p order (kind.Head j) = refl
  missed_value (id.Middle l) w p order kind.Gate = refl
  missed_value (id.Middle l) w p order (kind.Setting i) = refl
  missed_value (id.Out o) w p order (kind.Lane (id.Middle j)) = refl
  missed_value (id.Out o) w p order (kind.Lane (id.Out j)) = refl
  missed_value (id.Out o) w p order (kind.Head j) = refl
  missed_value (id.Out o) w p order kind.Gate = refl
  missed_value (id.Out o) w p order (kind.Setting i) = refl

  missed_home : (x : LaneId) (w p : ℕ) (order : Order) (u : LaneId)
      → home_after about (step_by p (MissedAt x w) ∷ order) u ≡ home_after about order u
  missed_home (id.Middle l) w p order (id.Middle j) = refl
  missed_home (id.Middle l) w p order (id.Out j) = refl
  missed_home (id.Out o) w p order (id.Middle j) = refl
  missed_home (id.Out o) w p order (id.Out j) = refl

  held_word : (n t b : ℕ) → n ≡ 2 * t + b → b < 2 → bit_or n 1 ≡ 2 * t + 1
  held_word n t b is small =
      let s = or_step n 1 in
      let z : bit_or (n / 2) 0 ≡ n / 2 = or_comm (n / 2) 0 in
      let t_is : bit_or n 1 ≡ (n / 2) * 2 + max (n % 2) 1 =
      s ∙ ap (λ (k : ℕ). k * 2 + max (n % 2) 1) z in
      omega arith

  bit-held : (h : ℕ) → h ≢ 0 → lanes.bit h ≡ 1
  bit-held zero ne = absurd (ne refl)
  bit-held (suc h) ne = refl

  -- whether a word is odd, by its remainder
  pub even_is : (n : ℕ) → n % 2 ≡ 0 → is_odd n ≡ false
  even_is n e = ap (λ (k : ℕ). k == 1) e

  pub odd_is : (n : ℕ) → n % 2 ≡ 1 → is_odd n ≡ true
  odd_is n e = ap (λ (k : ℕ). k == 1) e

  -- ---- the steps at slots

  module _ (x : LaneId) (n id : ℕ) (me : Seated) (i : ℕ) (at : IsAt about (kind.Lane x) i)
      (many : n ≡ all_slots about) where
    -- a step that moves a slot, at the word of its lane
    moves_slot : (goes_so : Step InSlot → ℕ → BoardStep → Carried → Carried → Type 0) (f : ℕ → ℕ)
        (a : ℕ)
        → me.0 ≡ one (number_in me.0) (steps_in me.0)
        → ((order : Order) (words : List ℕ) (homes : List (Option InSlot))
        → length homes ≡ all_slots about
        → number_in me.0 < about.seats → steps_in me.0 ≡ steps_of (number_in me.0) order
        → HasBoard about order words homes
        → let k = slice_index words (place about (kind.Lane x)) in
        (k ≡ value about order (kind.Lane x)) → k < 18446744073709551616
        → (d : BoardStep) × (act : Rattle.atomic_table.specs.Table.Act InSlot)
        × Rattle.atomic_table.specs.Table.Valid homes me.1 act
        × HasBoard about (step_by (number_in me.0) d ∷ order) (set words (place about (kind.Lane x))
        (f k))
        (homes_after homes me.1 act)
        × goes_so (step n (place about (kind.Lane x)) a 0 none) k d me.1
        (Rattle.atomic_table.specs.Table.carried_after me.1 act))
        → Allows (Ordered about.seats (HasBoard about)) n id me i f
        (Moved goes_so (step n i a 0 none) me)
    moves_slot goes_so f a alone on =
        subst (λ (k : ℕ). Allows (Ordered about.seats (HasBoard about)) n id me k f
        (Moved goes_so (step n k a 0 none) me))
        (sym at.1)
        (moves_taking about.seats (HasBoard about) goes_so
        (step n (place about (kind.Lane x)) a 0 none) n id me (place about (kind.Lane x)) f alone
        (λ order words homes all wide by few own h.
        on order words homes (all ∙ many) few own h (h.words_are (kind.Lane x) at.0) wide))

    pub holds : Alone me
        → Allows (Ordered about.seats (HasBoard about)) n id me i (λ k. bit_or k 1)
        (Moved (HoldsThen x) (step n i 1 0 none) me)
    holds alone = moves_slot (HoldsThen x) (λ k. bit_or k 1) 1 (ap (λ m. m.0) alone)
        (λ order words homes all few own h word wide.
        let p : ℕ = number_in me.0 in
        let ls : List (StepBy LaneStep) = lanes_of order in
        let k : ℕ = slice_index words (place about (kind.Lane x)) in
        let holder : ℕ = holder_of ls x in
        let t : ℕ = tail_of ls x in
        let is : k ≡ 2 * t + lanes.bit holder = word ∙ lane_is ls x in
        let none_carried : me.1 ≡ [] = ap (λ m. m.1) alone in
        dite (ℕ_discrete holder 0)
        (λ free.
        let d : BoardStep = held_step x k ls in
        let is0 : k ≡ 2 * t + 0 = is ∙ ap (λ (z : ℕ). 2 * t + lanes.bit z) free in
        let now : bit_or k 1 ≡ 2 * t + 1 = held_word k t 0 is0 (omega arith) in
        let even : is_odd k ≡ false = even_is k (omega arith) in (
          d,
          takes (home_of about x) (Some (content about ls x)),
          h.homes_are x at.0 ∙ ap some (home_is x order at.0 h.lawful free),
          kept order words homes (set homes (home_of about x) none) p (bit_or k 1)
              (kind.Lane x) d few at.0 h
              (held_may x k p order at.0 word free) (now ∙ sym (held_value x k p order))
              (held_others x k p order)
              (homes_with order homes p x d none at.0 all h.homes_are (held_home x k p order)
              (held_homes x k p order at.0)),
          (
            (λ e. record {
              found = content about ls x;
              held = held_at x k ls;
              carries = λ j. (home_is_at about x j, Some (content about ls x)) ∷ none_carried j;
            }),
            λ odd. absurd (let z : Rattle.std.proofs.Common.true ≡ false = sym odd ∙ even in cc),
          ),
        ))
        (λ held.
        let d : BoardStep = MissedAt x k in
        let is1 : k ≡ 2 * t + 1 = is ∙ ap (λ (z : ℕ). 2 * t + z) (bit-held holder held) in
        let now : bit_or k 1 ≡ k = held_word k t 1 is1 (omega arith) ∙ sym is1 in
        let odd : is_odd k ≡ true = odd_is k (omega arith) in (
          d,
          keeps,
          tt,
          kept order words homes homes p (bit_or k 1) (kind.Lane x) d few at.0 h
              (missed_may x k p order at.0 word (omega arith))
              (now ∙ (word ∙ sym (missed_value x k p order (kind.Lane x))))
              (λ v ne. missed_value x k p order v)
              (λ u fits. h.homes_are u fits ∙ ap some (sym (missed_home x k p order u))),
          (
            (λ even. absurd (let z : true ≡ false = sym odd ∙ even in cc)),
            λ e. (refl, none_carried),
          ),
        )))

    -- the slot that was just taken is emptied and given back
    pub empties : me.0 ≡ one (number_in me.0) (steps_in me.0) → me.1 ≡ (home_of about x, None) ∷ []
        → own_state about (slot_of about x) (steps_in me.0) ≡ taken
        → Allows (Ordered about.seats (HasBoard about)) n id me i (λ k. k)
        (Moved EmptiesThen (step n i 0 0 none) me)
    empties alone carried state = moves_slot EmptiesThen (λ k. k) 0 alone
        (λ order words homes all few own h word wide.
        let p : ℕ = number_in me.0 in
        let s : ℕ = slot_of about x in
        let at_word : ℕ = place about (kind.Lane x) in
        let k : ℕ = slice_index words at_word in
        let d : BoardStep = LaneOut s in
        let inside = slot_inside about x at.0 in (
          d,
          gives,
          tt,
          subst (λ (cs : Carried). HasBoard about (step_by p d ∷ order) (set words at_word k)
              (homes_after homes cs gives))
              (sym carried)
              (kept order words homes (set homes (home_of about x) (some None)) p k (kind.Lane x) d
              few at.0 h
              (inside, ap (own_state about s) (sym own) ∙ state) word (λ v ne. refl)
              (homes_with order homes p x d (some None) at.0 all h.homes_are
              (ap (λ z. home_by about z (content about (lanes_of order) x))
              (if_same s s empty (slot_state about s order) refl))
              (λ u fits ne. ap (λ z. home_by about z (content about (lanes_of order) u))
              (state_else x u empty (slot_state about (slot_of about u) order) at.0 fits ne)))),
          (ap (λ z. LaneOut z) (slot_is_at about x), refl),
        ))

    -- the emptied slot is taken again
    pub fills : Alone me → own_state about (slot_of about x) (steps_in me.0) ≡ empty
        → Allows (Ordered about.seats (HasBoard about)) n id me i (λ k. k)
        (Moved FillsThen (step n i 0 0 none) me)
    fills alone state = moves_slot FillsThen (λ k. k) 0 (ap (λ m. m.0) alone)
        (λ order words homes all few own h word wide.
        let p : ℕ = number_in me.0 in
        let s : ℕ = slot_of about x in
        let at_word : ℕ = place about (kind.Lane x) in
        let k : ℕ = slice_index words at_word in
        let d : BoardStep = LaneIn s in
        let inside = slot_inside about x at.0 in
        let mine : own_state about s (steps_of p order) ≡ empty = ap (own_state about s) (sym own)
        ∙ state in
        let there : slot_state about s order ≡ empty =
        slot_is x order p empty at.0 h.lawful mine refl in (
          d,
          takes (home_of about x) None,
          h.homes_are x at.0 ∙ ap (λ z. some (home_by about z (content about (lanes_of order) x)))
              there,
          kept order words homes (set homes (home_of about x) none) p k (kind.Lane x) d few at.0 h
              (inside, mine) word (λ v ne. refl)
              (homes_with order homes p x d none at.0 all h.homes_are
              (ap (λ z. home_by about z (content about (lanes_of order) x))
              (if_same s s taken (slot_state about s order) refl))
              (λ u fits ne. ap (λ z. home_by about z (content about (lanes_of order) u))
              (state_else x u taken (slot_state about (slot_of about u) order) at.0 fits ne))),
          (
            ap (λ z. LaneIn z) (slot_is_at about x),
            ap (λ z. (z, None) ∷ me.1) (home_is_at about x),
          ),
        ))

    -- the slot is given back with a lane in it
    pub given_back : FitSizes about → (rises : Bool) (c : Slot) (given : BoardStep) (says : Type 0)
        (z : TableId) (ds : List BoardStep)
        (f : ℕ → ℕ) (a : ℕ) → f ≡ released_word rises
        → me.0 ≡ one (number_in me.0) (LaneIn (slot_of about x) ∷ ds)
        → me.1 ≡ (home_of about x, Some c) ∷ []
        → MayGive about (seat_view z (number_in me.0) ds) x rises c given says
        → Allows (Ordered about.seats (HasBoard about)) n id me i f
        (Moved (GivesThen given says) (step n i a 0 none) me)
    given_back fit rises c given says z ds f a f_is alone carried may =
        moves_slot (GivesThen given says) f a
        (alone ∙ ap (one (number_in me.0)) (sym (ap steps_in alone)))
        (λ order words homes all few own h word wide.
        let p : ℕ = number_in me.0 in
        let s : ℕ = slot_of about x in
        let at_word : ℕ = place about (kind.Lane x) in
        let k : ℕ = slice_index words at_word in
        let t = may fit order few (sym (ap steps_in alone) ∙ own) h.lawful
        (subst (λ (z : ℕ). z < 18446744073709551616) word wide) in
        let here : f k ≡ value about (step_by p given ∷ order) (kind.Lane x) =
        (λ j. f_is j (word j)) ∙ t.0.here in (
          given,
          gives,
          tt,
          subst (λ (cs : Carried). HasBoard about (step_by p given ∷ order)
              (set words at_word (f k)) (homes_after homes cs gives))
              (sym carried)
              (kept order words homes (set homes (home_of about x) (some (Some c))) p (f k)
              (kind.Lane x) given few at.0 h
              t.0.may here t.0.others
              (homes_with order homes p x given (some (Some c)) at.0 all h.homes_are t.0.home
              t.0.homes)),
          (refl, refl, t.1),
        ))

-- ---- the same in a table that was told these sizes, for a seat as contracts see it

module _ (about told : BoardSizes) (told_is : told ≡ about) (fit : FitSizes about)
    (seat : SeatView BoardStep) (z : TableId)
    (n id : ℕ) (me : Seated) (seen : seat_view z (number_in me.0) (steps_in me.0) ≡ seat)
    (i : ℕ) where
  pub acts_in : (w : Word) (f : ℕ → ℕ) (makes : ℕ → BoardStep) (says : ℕ → Type 0) (a b : ℕ)
      → IsWord about w → i ≡ place about w → Alone me → MayAct about seat w f makes says
      → Allows (Ordered told.seats (HasBoard told)) n id me i f
      (Made (λ st n. makes n) (λ st n order. says n) (step n i a b none) me)
  acts_in w f makes says a b inside here alone may =
      subst (λ (k : BoardSizes). Allows (Ordered k.seats (HasBoard k)) n id me i f
      (Made (λ st n. makes n) (λ st n order. says n) (step n i a b none) me)) (sym told_is)
      (steps_at about fit w f makes says z n id me i a b (inside, here) alone
      (subst (λ (s : SeatView BoardStep). MayAct about s w f makes says) (sym seen) may))

  pub stores_in : (w : Word) (v : ℕ) (makes : ℕ → BoardStep) (says : ℕ → Type 0)
      → IsWord about w → i ≡ place about w → Alone me
      → MayAct about seat w (λ _. v) (λ _. makes v) (λ _. says v)
      → Allows (Ordered told.seats (HasBoard told)) n id me i (λ _. v)
      (λ _. Made (λ st n. makes n) (λ st n order. says n) (step n i v 0 none) me v)
  stores_in w v makes says inside here alone may =
      subst (λ (k : BoardSizes). Allows (Ordered k.seats (HasBoard k)) n id me i (λ _. v)
      (λ _. Made (λ st n. makes n) (λ st n order. says n) (step n i v 0 none) me v)) (sym told_is)
      (stores_at about fit w v makes says z n id me i (inside, here) alone
      (subst (λ (s : SeatView BoardStep). MayAct about s w (λ _. v) (λ _. makes v) (λ _. says v))
      (sym seen) may))

  module _ (x : LaneId) (within : FitsLane about x) (here : i ≡ place about (kind.Lane x))
      (many : n ≡ all_slots about) where
    pub holds_in : (y : LaneId) → y ≡ x → Alone me
        → Allows (Ordered told.seats (HasBoard told)) n id me i (λ k. bit_or k 1)
        (Moved (HoldsThen y) (step n i 1 0 none) me)
    holds_in y y_is alone =
        subst (λ (k : BoardSizes × LaneId). Allows (Ordered k.0.seats (HasBoard k.0)) n id me i
        (λ k. bit_or k 1) (Moved (HoldsThen k.1) (step n i 1 0 none) me))
        (λ j. (sym told_is j, sym y_is j))
        (holds about x n id me i (within, here) many alone)

    pub empties_in : me.0 ≡ one (number_in me.0) (steps_in me.0) → me.1 ≡ (home_of about x, None)
        ∷ []
        → own_state about (slot_of about x) (steps_in me.0) ≡ taken
        → Allows (Ordered told.seats (HasBoard told)) n id me i (λ k. k)
        (Moved EmptiesThen (step n i 0 0 none) me)
    empties_in alone carried state =
        subst (λ (k : BoardSizes). Allows (Ordered k.seats (HasBoard k)) n id me i
        (λ k. k) (Moved EmptiesThen (step n i 0 0 none) me)) (sym told_is)
        (empties about x n id me i (within, here) many alone carried state)

    pub fills_in : Alone me → own_state about (slot_of about x) seat.steps ≡ empty
        → Allows (Ordered told.seats (HasBoard told)) n id me i (λ k. k)
        (Moved FillsThen (step n i 0 0 none) me)
    fills_in alone state =
        subst (λ (k : BoardSizes). Allows (Ordered k.seats (HasBoard k)) n id me i
        (λ k. k) (Moved FillsThen (step n i 0 0 none) me)) (sym told_is)
        (fills about x n id me i (within, here) many alone
        (ap (λ (s : SeatView BoardStep). own_state about (slot_of about x) s.steps) seen ∙ state))

    pub gives_in : (rises : Bool) (c : Slot) (given : BoardStep) (says : Type 0)
        (ds : List BoardStep)
        (f : ℕ → ℕ) (a p : ℕ) → f ≡ released_word rises
        → me.0 ≡ one p (LaneIn (slot_of about x) ∷ ds) → me.1 ≡ (home_of about x, Some c) ∷ []
        → MayGive about (seat_view z p ds) x rises c given says
        → Allows (Ordered told.seats (HasBoard told)) n id me i f
        (Moved (GivesThen given says) (step n i a 0 none) me)
    gives_in rises c given says ds f a p f_is alone carried may =
        let p_is : number_in me.0 ≡ p = ap number_in alone in
        subst (λ (k : BoardSizes). Allows (Ordered k.seats (HasBoard k)) n id me i f
        (Moved (GivesThen given says) (step n i a 0 none) me)) (sym told_is)
        (given_back about x n id me i (within, here) many fit rises c given says z ds f a f_is
        (alone ∙ ap (λ q. one q (LaneIn (slot_of about x) ∷ ds)) (sym p_is)) carried
        (subst (λ (q : ℕ). MayGive about (seat_view z q ds) x rises c given says) (sym p_is) may))
