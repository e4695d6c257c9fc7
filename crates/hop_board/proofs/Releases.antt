-- Lanes that are given back.
use Rattle.hop_rule.specs.declared.sizes.TheConstants.{MAX_BOARD_ROOM}
use Rattle.hop_rule.specs.declared.step.Change.{Change}
use Rattle.hop_rule.specs.declared.step.GateStep.{GateStep}
use Rattle.hop_rule.specs.declared.step.LaneStep.TheVariants.{Freed, OutFreed, Given}
use Rattle.hop_rule.specs.declared.step.Slot.TheVariants as slot
use Rattle.hop_rule.specs.Boards.{IsInside, full, taken, slot_state, MayCome}
use Rattle.hop_rule.specs.Gates as gates
use Rattle.hop_rule.specs.Lanes as lanes
use Rattle.hop_rule.proofs.Boards.{few}
use Rattle.hop_rule.proofs.Lanes.{holds, out_holds}
use Rattle.board_api.specs.declared.held_lane.LaneId.TheVariants as id
use Rattle.hop_board.specs.declared.places.Word.TheVariants as kind
use Rattle.hop_board.specs.Tables.{home_by}
use Rattle.hop_board.proofs.Names.{◌≡◌, ◌≢◌, ℕ, ◌+◌, ◌*◌, ◌<◌, ◌≤◌, ◌==◌, List, [], ◌∷◌, ◌++◌, Bool}
use Rattle.hop_board.proofs.Names.{true, false, Some, length, if◌then◌else◌, sym, refl, ap, ◌∙◌}
use Rattle.hop_board.proofs.Names.{subst, arith, length-append, LaneLists, StepBy, step_by}
use Rattle.hop_board.proofs.Names.{steps_of, SeatView, if_same, if_other, BoardSizes, BoardStep}
use Rattle.hop_board.proofs.Names.{Lane, LaneIn, LaneStep, lanes_of, gate_steps, lane_steps}
use Rattle.hop_board.proofs.Names.{IsLawful, lane_at, own_state, OutList, out_list, FitSizes}
use Rattle.hop_board.proofs.Names.{puller, parts, FitsLane, LaneId, Word, MayGive, released_word}
use Rattle.hop_board.proofs.Names.{value, slot_of, home_after, content}
use Rattle.hop_board.proofs.Acts.{seen, lanes_seen}

abbrev Order : Type 0
Order = List (StepBy BoardStep)

-- where a tail goes, and with it the word
abbrev pub risen : Bool → ℕ → ℕ
risen true t = t + 1
risen false t = t

released : (rises : Bool) (n t m : ℕ) → n ≡ 2 * t + 1 → n < 18446744073709551616
    → (rises ≡ true → t < 9223372036854775807) → m ≡ risen rises t
    → released_word rises n ≡ 2 * m + 0
released true n t m is wide small goes = let few_ = small refl in omega arith
released false n t m is wide small goes = omega arith

module _ (about : BoardSizes) where
  -- ---- a middle lane

  -- what a release by the step of a change asks besides the lane that is held
  abbrev pub MayChange : SeatView BoardStep → ℕ → LaneLists → Change → Type 0 → Type 0
  MayChange seat l y c says =
      (order : Order) → IsLawful about order → lane_at about order l ≡ y
      → lanes.FitsChange about l seat.number (lane_steps seat.steps) y c
      × IsInside about (gates.visit (gate_steps seat.steps)) (Freed l c) × says

  module _ (l : ℕ) (c : Change) (p : ℕ) (order : Order) where
    abbrev ls : List (StepBy LaneStep)
    ls = lanes_of order

    middle_else : (v : Word) → v ≢ kind.Lane (id.Middle l)
        → value about (step_by p (Lane (Freed l c)) ∷ order) v ≡ value about order v
    middle_else (kind.Lane (id.Middle j)) ne =
        let apart : l ≢ j = λ e. ne (ap (λ z. kind.Lane (id.Middle z)) (sym e)) in
        λ i. 2 * (about.start + length (if_other l j (lanes.lane_changed c (lanes.lane about j ls))
        (lanes.lane about j ls) apart i).accepted)
        + lanes.bit (if_other l j 0 (lanes.holder j ls) apart i)
    middle_else (kind.Lane (id.Out j)) ne = refl
    middle_else (kind.Head j) ne = refl
    middle_else kind.Gate ne = refl
    middle_else (kind.Setting j) ne = refl

    middle_homes : l < about.lanes → (u : LaneId) → FitsLane about u → u ≢ id.Middle l
        → home_after about (step_by p (Lane (Freed l c)) ∷ order) u ≡ home_after about order u
    middle_homes inside (id.Middle j) fits ne =
        let apart : l ≢ j = λ e. ne (ap (λ z. id.Middle z) (sym e)) in
        λ i. home_by about (if_other l j full (slot_state about j order) apart i)
        (slot.Middle (if_other l j (lanes.lane_changed c (lanes.lane about j ls))
        (lanes.lane about j ls) apart i))
    middle_homes inside (id.Out j) fits ne =
        ap (λ s. home_by about s (content about ls (id.Out j)))
        (if_other l (slot_of about (id.Out j)) full
        (slot_state about (slot_of about (id.Out j)) order) (λ e. absurd (omega arith)))

  pub gives_middle : (seat : SeatView BoardStep) (l : ℕ) (y : LaneLists) (c : Change) (rises : Bool)
      (says : Type 0) → l < about.lanes → lanes.holding l (lane_steps seat.steps) ≡ Some y
      → MayChange seat l y c says
      → length (lanes.lane_changed c y).accepted ≡ risen rises (length y.accepted)
      → MayGive about seat (id.Middle l) rises (slot.Middle (lanes.lane_changed c y))
      (Lane (Freed l c)) says
  gives_middle seat l y c rises says inside held may goes fit order few_ own lawful wide =
      let p : ℕ = seat.number in
      let ls : List (StepBy LaneStep) = lanes_of order in
      let s = lanes_seen order p (LaneIn l ∷ seat.steps) own in
      let g = seen order p (LaneIn l ∷ seat.steps) own in
      let holds_ : lanes.holding l (steps_of p ls) ≡ Some y = ap (lanes.holding l) s ∙ held in
      let found = holds about ls (parts about order lawful).0 l p y holds_ in
      let asked = may order lawful found.1 in
      let most = few about order l lawful in let a = most.0 in let b = most.1 in
      let r = fit.room in let q = fit.start in
      let many : length (lanes.lane about l ls).accepted ≡ length y.accepted =
      ap (λ (x : LaneLists). length x.accepted) found.1 in
      let t : ℕ = about.start + length y.accepted in
      let n : ℕ = value about order (kind.Lane (id.Middle l)) in
      let n_is : n ≡ 2 * t + 1 = λ i. 2 * (about.start + length (found.1 i).accepted) + lanes.bit
      (found.0 i) in
      let m : ℕ = about.start + length (lanes.lane_changed c y).accepted in
      let m_is : m ≡ risen rises t = rise_from rises about.start (length y.accepted)
      (length (lanes.lane_changed c y).accepted) goes in
      let now : lanes.lane about l (step_by p (Freed l c) ∷ ls) ≡ lanes.lane_changed c y =
      if_same l l (lanes.lane_changed c (lanes.lane about l ls)) (lanes.lane about l ls) refl
      ∙ ap (lanes.lane_changed c) found.1 in (
        record {
          may = (
            (
              inside,
              (
                y,
                holds_,
                subst (λ (ds : List LaneStep). lanes.FitsChange about l p ds y c) (sym s) asked.0,
              ),
            ),
            subst (λ (ds : List GateStep). IsInside about (gates.visit ds) (Freed l c))
                (sym g) asked.1,
            ap (own_state about l) (sym own) ∙ if_same l l taken
                (own_state about l seat.steps) refl,
          );
          here = released rises n t m n_is wide (λ _. omega arith) m_is
              ∙ sym (λ i. 2 * (about.start + length (now i).accepted)
              + lanes.bit (if_same l l 0 (lanes.holder l ls) refl i));
          others = middle_else l c p order;
          home = λ i. home_by about (if_same l l full (slot_state about l order) refl i)
              (slot.Middle (now i));
          homes = middle_homes l c p order inside;
        },
        asked.2,
      )
    where
      rise_from : (rises : Bool) (start a b : ℕ) → b ≡ risen rises a → start + b ≡ risen rises
          (start + a)
      rise_from true start a b e = omega arith
      rise_from false start a b e = omega arith

  -- ---- an out lane

  -- a release of the out lane o leaves it so
  pub record LeavesOut (d : LaneStep) (o : ℕ) (xs : List ℕ) (after : List ℕ) : Type 0 where
    pub out : lanes.out_after o d xs ≡ after
    pub same : (j : ℕ) → o ≢ j → (ys : List ℕ) → lanes.out_after j d ys ≡ ys
    pub holder : (p h j : ℕ) → lanes.out_holder_after j p d h ≡ (if o == j then 0 else h)
    pub lane : (l : ℕ) (x : LaneLists) → lanes.lane_after_step l d x ≡ x
    pub held : (p l h : ℕ) → lanes.holder_after l p d h ≡ h
    pub head : (l k : ℕ) → lanes.retired_after l d k ≡ k
    pub state : (k : ℕ) (s : Rattle.hop_rule.specs.Boards.SlotState)
        → Rattle.hop_rule.specs.Boards.state_after_lane about k d s ≡ (if slot_of about
        (id.Out o) == k then full else s)

  module _ (d : LaneStep) (o : ℕ) (p : ℕ) (order : Order) (xs after : List ℕ)
      (leaves : LeavesOut d o xs after) where
    abbrev outs_ : List (StepBy LaneStep)
    outs_ = lanes_of order

    out_else : (v : Word) → v ≢ kind.Lane (id.Out o)
        → value about (step_by p (Lane d) ∷ order) v ≡ value about order v
    out_else (kind.Lane (id.Out j)) ne =
        let apart : o ≢ j = λ e. ne (ap (λ z. kind.Lane (id.Out z)) (sym e)) in
        λ i. 2 * (about.start + length (leaves.same j apart (lanes.out j outs_) i))
        + lanes.bit ((leaves.holder p (lanes.out_holder j outs_) j ∙ if_other o j 0
        (lanes.out_holder j outs_) apart) i)
    out_else (kind.Lane (id.Middle j)) ne =
        λ i. 2 * (about.start + length (leaves.lane j (lanes.lane about j outs_) i).accepted)
        + lanes.bit (leaves.held p j (lanes.holder j outs_) i)
    out_else (kind.Head j) ne = ap (λ k. about.start + k) (leaves.head j (lanes.retired j outs_))
    out_else kind.Gate ne = refl
    out_else (kind.Setting j) ne = refl

    out_homes : (u : LaneId) → FitsLane about u → u ≢ id.Out o
        → home_after about (step_by p (Lane d) ∷ order) u ≡ home_after about order u
    out_homes (id.Out j) fits ne =
        let apart : o ≢ j = λ e. ne (ap (λ z. id.Out z) (sym e)) in
        λ i. home_by about
        ((leaves.state (slot_of about (id.Out j))
        (slot_state about (slot_of about (id.Out j)) order)
        ∙ if_other (slot_of about (id.Out o)) (slot_of about (id.Out j)) full
        (slot_state about (slot_of about (id.Out j)) order) (λ e. apart (omega arith))) i)
        (slot.Out (out_list (leaves.same j apart (lanes.out j outs_) i) about.room))
    out_homes (id.Middle j) fits ne =
        λ i. home_by about ((leaves.state j (slot_state about j order)
        ∙ if_other (slot_of about (id.Out o)) j full (slot_state about j order)
        (λ e. absurd (omega arith))) i)
        (slot.Middle (leaves.lane j (lanes.lane about j outs_) i))

  gives_out_by : (seat : SeatView BoardStep) (o : ℕ) (y : OutList) (d : LaneStep) (after : List ℕ)
      (rises : Bool) (says : Type 0) → o < about.outs
      → lanes.out_holding o (lane_steps seat.steps) ≡ Some y
      → ((xs : List ℕ) → xs ≡ y.items → LeavesOut d o xs after)
      → length after ≡ risen rises (length y.items)
      → (FitSizes about → about.room ≡ y.room → rises ≡ true → length y.items ≤ MAX_BOARD_ROOM)
      → ((order : Order) → IsLawful about order → steps_of seat.number
      (lanes_of order) ≡ lane_steps seat.steps
      → own_state about (slot_of about (id.Out o)) (steps_of seat.number order) ≡ taken
      → out_list (lanes.out o (lanes_of order)) about.room ≡ y
      → MayCome about seat.number order (Lane d) × says)
      → MayGive about seat (id.Out o) rises (slot.Out (out_list after y.room)) (Lane d) says
  gives_out_by seat o y d after rises says inside held leaves_ goes few_items may fit order few_ own
      lawful wide =
      let p : ℕ = seat.number in
      let ls : List (StepBy LaneStep) = lanes_of order in
      let k : ℕ = slot_of about (id.Out o) in
      let s = lanes_seen order p (LaneIn k ∷ seat.steps) own in
      let holds_ : lanes.out_holding o (steps_of p ls) ≡ Some y = ap (lanes.out_holding o) s
      ∙ held in
      let found = out_holds about ls (parts about order lawful).0 o p y holds_ in
      let room_is : about.room ≡ y.room = ap (λ (x : OutList). x.room) found.1 in
      let items_are : lanes.out o ls ≡ y.items = ap (λ (x : OutList). x.items) found.1 in
      let leaves = leaves_ (lanes.out o ls) items_are in
      let q = fit.start in
      let t : ℕ = about.start + length y.items in
      let n : ℕ = value about order (kind.Lane (id.Out o)) in
      let n_is : n ≡ 2 * t + 1 = λ i. 2 * (about.start + length (items_are i)) + lanes.bit
      (found.0 i) in
      let m : ℕ = about.start + length after in
      let m_is : m ≡ risen rises t = rise_from rises about.start (length y.items)
      (length after) goes in
      let state : own_state about k (steps_of p order) ≡ taken =
      ap (own_state about k) (sym own) ∙ if_same k k taken (own_state about k seat.steps) refl in
      let asked = may order lawful s state found.1 in (
        record {
          may = asked.0;
          here = released rises n t m n_is wide (λ up. let few_ = few_items fit room_is up in
              omega arith) m_is
              ∙ sym (λ i. 2 * (about.start + length (leaves.out i))
              + lanes.bit ((leaves.holder p (lanes.out_holder o ls) o ∙ if_same o o 0
              (lanes.out_holder o ls) refl) i));
          others = out_else d o p order (lanes.out o ls) after leaves;
          home = λ i. home_by about ((leaves.state k (slot_state about k order) ∙ if_same k k full
              (slot_state about k order) refl) i)
              (slot.Out (out_list (leaves.out i) (room_is i)));
          homes = out_homes d o p order (lanes.out o ls) after leaves;
        },
        asked.1,
      )
    where
      rise_from : (rises : Bool) (start a b : ℕ) → b ≡ risen rises a → start + b ≡ risen rises
          (start + a)
      rise_from true start a b e = omega arith
      rise_from false start a b e = omega arith

  -- the out lane is given back as it was
  pub gives_out : (seat : SeatView BoardStep) (o : ℕ) (y : OutList) (says : Type 0) → o < about.outs
      → lanes.out_holding o (lane_steps seat.steps) ≡ Some y
      → ((order : Order) → IsLawful about order
      → out_list (lanes.out o (lanes_of order)) about.room ≡ y → says)
      → MayGive about seat (id.Out o) false (slot.Out y) (Lane (OutFreed o)) says
  gives_out seat o y says inside held tells =
      gives_out_by seat o y (OutFreed o) y.items false says inside held
      (λ xs is. record {
        out = is;
        same = λ j ne ys. refl;
        holder = λ p h j. refl;
        lane = λ l x. refl;
        held = λ p l h. refl;
        head = λ l k. refl;
        state = λ k s. refl;
      }) refl (λ fit same up. absurd (let z : false ≡ true = up in cc))
      (λ order lawful s state is. (
        ((inside, (y, ap (lanes.out_holding o) s ∙ held)), tt, state),
        tells order lawful is,
      ))

  -- the out lane is given back with a packet more
  pub gives_packet : (seat : SeatView BoardStep) (o from packet : ℕ) (y : OutList) → o < about.outs
      → from < about.lanes → lanes.out_holding o (lane_steps seat.steps) ≡ Some y
      → length y.items < y.room → puller about from ≡ seat.number
      → lanes.phase from (lane_steps seat.steps) ≡ lanes.has_pulled packet
      → MayGive about seat (id.Out o) true (slot.Out (out_list (y.items ++ packet ∷ []) y.room))
      (Lane (Given o from packet (length y.items + 1))) (Unit {0})
  gives_packet seat o from packet y inside from_inside held some_room mine pulled_ =
      let longer = length-append y.items (packet ∷ []) in
      gives_out_by seat o y (Given o from packet (length y.items + 1)) (y.items ++ packet ∷ []) true
      (Unit {0})
      inside held
      (λ xs is. record {
        out = if_same o o (xs ++ packet ∷ []) xs refl ∙ ap (λ zs. zs ++ packet ∷ []) is;
        same = λ j ne ys. if_other o j (ys ++ packet ∷ []) ys ne;
        holder = λ p h j. refl;
        lane = λ l x. refl;
        held = λ p l h. refl;
        head = λ l k. refl;
        state = λ k s. refl;
      }) (omega arith) (λ fit same up. let r = fit.room in omega arith)
      (λ order lawful s state is. let room_is : about.room ≡ y.room = ap
      (λ (x : OutList). x.room) is in (
        (
          (
            inside,
            from_inside,
            (
              y,
              ap (lanes.out_holding o) s ∙ held,
              omega arith,
              refl,
              mine,
              ap (lanes.phase from) s ∙ pulled_,
            ),
          ),
          tt,
          state,
        ),
        tt,
      ))
