-- Steps at the gate and at settings, and loads of heads and of lanes' words.
use Rattle.std.proofs.Common.{eq-eqb, ne_eqb}
use Rattle.std.specs.Prelude.{◌⊎◌}
use Rattle.std.proofs.lemmas.Bool.{leb-true, leb-false}
use prog.Atomic.{either}
use Rattle.hop_rule.specs.declared.sizes.TheConstants.{MAX_OPENINGS}
use Rattle.hop_rule.specs.declared.step.BoardStep.TheVariants.{Weighed, Counted, OutCounted}
use Rattle.hop_rule.specs.declared.step.GateStep.{GateStep}
use Rattle.hop_rule.specs.declared.step.GateStep.TheVariants.{Entered, Turned, Left, Shut, NotShut}
use Rattle.hop_rule.specs.declared.step.GateStep.TheVariants.{Opened, Set, Read}
use Rattle.hop_rule.specs.declared.step.LaneStep.TheVariants.{Retired}
use Rattle.hop_rule.specs.Boards.{gates_of}
use Rattle.hop_rule.specs.Gates as gates
use Rattle.hop_rule.specs.Lanes as lanes
use Rattle.hop_rule.specs.Sizes.{closer}
use Rattle.hop_rule.proofs.Boards.{few}
use Rattle.hop_rule.proofs.Gates.{enter_finds, enter_word, leave_word, close_finds, closes, small}
use Rattle.hop_rule.proofs.Gates.{word, sum_most, open_small}
use Rattle.hop_rule.proofs.Owns.{gates_own, lanes_own}
use Rattle.board_api.specs.Calls.Rights.{IsOutside, HasOpen, HasClosed, IsCloser, MayRead, Pulls}
use Rattle.board_api.specs.Calls.Rights.{HasDelivered}
use Rattle.board_api.specs.StepWords.{is_marked}
use Rattle.board_api.specs.declared.held_lane.LaneId.TheVariants as id
use Rattle.hop_board.specs.declared.places.Word.TheVariants as kind
use Rattle.hop_board.specs.Makings.{FindsOpen, IsBusy, MayLoad, closing, entering, loaded}
use Rattle.hop_board.specs.Steps.{IsStepAt}
use Rattle.hop_board.specs.Tables.{value_by}
use Rattle.hop_board.proofs.Names.{◌≡◌, ◌≢◌, ℕ, ◌+◌, ◌-◌, ◌*◌, ◌%◌, ◌^◌, ◌<◌, ◌==◌, List, ◌∷◌, Bool}
use Rattle.hop_board.proofs.Names.{true, false, length, if◌then◌else◌, sym, refl, ap, ◌∙◌, subst}
use Rattle.hop_board.proofs.Names.{arith, dite, ℕ_discrete, StepBy, step_by, steps_of, SeatView}
use Rattle.hop_board.proofs.Names.{if_same, if_other, BoardSizes, BoardStep, Lane, Gate, LaneStep}
use Rattle.hop_board.proofs.Names.{lanes_of, gate_steps, lane_steps, IsLawful, FitSizes, parts}
use Rattle.hop_board.proofs.Names.{LaneId, Word, MayAct, IsWord, value, home_after}

abbrev Order : Type 0
Order = List (StepBy BoardStep)

-- a seat's steps at the gate, and at lanes, are those of its own list
pub seen : (order : Order) (p : ℕ) (ds : List BoardStep) → ds ≡ steps_of p order
    → steps_of p (gates_of order) ≡ gate_steps ds
seen order p ds own = gates_own p order ∙ ap gate_steps (sym own)

pub lanes_seen : (order : Order) (p : ℕ) (ds : List BoardStep) → ds ≡ steps_of p order
    → steps_of p (lanes_of order) ≡ lane_steps ds
lanes_seen order p ds own = lanes_own p order ∙ ap lane_steps (sym own)

-- the step that raises a head
abbrev pub raised : Word → ℕ → BoardStep
raised (kind.Head l) word = Lane (Retired l word)
raised _ word = Gate Left

-- the step that changes a setting
abbrev pub setting_step : Word → ℕ → BoardStep
setting_step (kind.Setting i) value = Gate (Set i value)
setting_step _ value = Gate Left

module _ (about : BoardSizes) where
  -- ---- loads

  pub weighs : (seat : SeatView BoardStep) (l : ℕ) → l < about.lanes
      → MayAct about seat (kind.Head l) (λ n. n) (λ n. Weighed l n) (λ n. Unit {0})
  weighs seat l inside fit_ order few_ own lawful =
      (record { may = (inside, refl); here = refl; others = λ v ne. refl; homes = λ x. refl }, tt)

  pub counts : (seat : SeatView BoardStep) (l : ℕ) → l < about.lanes
      → MayAct about seat (kind.Lane (id.Middle l)) (λ n. n) (λ n. Counted l n) (λ n. Unit {0})
  counts seat l inside fit_ order few_ own lawful =
      (record { may = (inside, refl); here = refl; others = λ v ne. refl; homes = λ x. refl }, tt)

  pub out_counts : (seat : SeatView BoardStep) (o : ℕ) → o < about.outs
      → MayAct about seat (kind.Lane (id.Out o)) (λ n. n) (λ n. OutCounted o n) (λ n. Unit {0})
  out_counts seat o inside fit_ order few_ own lawful =
      (record { may = (inside, refl); here = refl; others = λ v ne. refl; homes = λ x. refl }, tt)

  -- ---- steps that change no setting

  -- a step at the gate changes at most the gate's word
  gate_else : (ls : List (StepBy LaneStep)) (gs : List (StepBy GateStep)) (p : ℕ) (d : GateStep)
      → ((s : ℕ → ℕ) → gates.settings_after d s ≡ s) → (v : Word) → v ≢ kind.Gate
      → value_by about ls (step_by p d ∷ gs) v ≡ value_by about ls gs v
  gate_else ls gs p d same (kind.Lane x) ne = refl
  gate_else ls gs p d same (kind.Head l) ne = refl
  gate_else ls gs p d same kind.Gate ne = absurd (ne refl)
  gate_else ls gs p d same (kind.Setting i) ne = ap (λ s. s i) (same (gates.settings about gs))

  read_else : (ls : List (StepBy LaneStep)) (gs : List (StepBy GateStep)) (p i n : ℕ) (v : Word)
      → value_by about ls (step_by p (Read i n) ∷ gs) v ≡ value_by about ls gs v
  read_else ls gs p i n (kind.Lane x) = refl
  read_else ls gs p i n (kind.Head l) = refl
  read_else ls gs p i n kind.Gate = refl
  read_else ls gs p i n (kind.Setting j) = refl

  pub reads : (seat : SeatView BoardStep) (i : ℕ) → MayRead seat.steps
      → MayAct about seat (kind.Setting i) (λ n. n) (λ n. Gate (Read i n)) (λ n. Unit {0})
  reads seat i may fit_ order few_ own lawful =
      let s = seen order seat.number seat.steps own in (
        record {
          may = (
            refl,
            subst (λ (ds : List GateStep). (gates.visit ds ≡ gates.inside) ⊎ (gates.closed ds ≡ 1))
                (sym s) may,
          );
          here = refl;
          others = λ v ne. read_else (lanes_of order) (gates_of order) seat.number i
              (value about order (kind.Setting i)) v;
          homes = λ x. refl;
        },
        tt,
      )

  set_else : (ls : List (StepBy LaneStep)) (gs : List (StepBy GateStep)) (p i n : ℕ) (v : Word)
      → v ≢ kind.Setting i → value_by about ls (step_by p (Set i n) ∷ gs) v ≡ value_by about ls gs v
  set_else ls gs p i n (kind.Lane x) ne = refl
  set_else ls gs p i n (kind.Head l) ne = refl
  set_else ls gs p i n kind.Gate ne = refl
  set_else ls gs p i n (kind.Setting j) ne =
      if_other i j n (gates.settings about gs j) (λ e. ne (ap (λ z. kind.Setting z) (sym e)))

  pub sets : (seat : SeatView BoardStep) (i v : ℕ) → i < length about.settings
      → IsCloser about seat.number → HasClosed seat.steps
      → MayAct about seat (kind.Setting i) (λ _. v) (λ _. Gate (Set i v)) (λ _. Unit {0})
  sets seat i v inside is_closer is_closed fit_ order few_ own lawful =
      let s = seen order seat.number seat.steps own in (
        record {
          may = (is_closer, inside, ap gates.closed s ∙ is_closed);
          here = sym (if_same i i v (gates.settings about (gates_of order) i) refl);
          others = λ w ne. set_else (lanes_of order) (gates_of order) seat.number i v w ne;
          homes = λ x. refl;
        },
        tt,
      )

  -- the word of a lane or of a head is loaded, or a setting by a seat that may read it
  pub loads : (seat : SeatView BoardStep) (w : Word) → IsWord about w → MayLoad seat.steps w
      → MayAct about seat w (λ n. n) (loaded w) (λ n. Unit {0})
  loads seat (kind.Lane (id.Middle l)) inside may = counts seat l inside
  loads seat (kind.Lane (id.Out o)) inside may = out_counts seat o inside
  loads seat (kind.Head l) inside may = weighs seat l inside
  loads seat kind.Gate inside may = absurd may
  loads seat (kind.Setting i) inside may = reads seat i may

  -- ---- heads

  retire_else : (ls : List (StepBy LaneStep)) (gs : List (StepBy GateStep)) (p l n : ℕ) (v : Word)
      → v ≢ kind.Head l → value_by about (step_by p (Retired l n) ∷ ls) gs v ≡ value_by about ls gs
      v
  retire_else ls gs p l n (kind.Lane (id.Middle j)) ne = refl
  retire_else ls gs p l n (kind.Lane (id.Out j)) ne = refl
  retire_else ls gs p l n (kind.Head j) ne = ap (λ k. about.start + k)
      (if_other l j (lanes.retired j ls + 1) (lanes.retired j ls)
      (λ e. ne (ap (λ z. kind.Head z) (sym e))))
  retire_else ls gs p l n kind.Gate ne = refl
  retire_else ls gs p l n (kind.Setting i) ne = refl

  retire_home : (order : Order) (p l n : ℕ) (x : LaneId)
      → home_after about (step_by p (Lane (Retired l n)) ∷ order) x ≡ home_after about order x
  retire_home order p l n (id.Middle j) = refl
  retire_home order p l n (id.Out j) = refl

module _ (about : BoardSizes) where
  pub retires : (seat : SeatView BoardStep) (l : ℕ) → l < about.lanes → Pulls about seat.number l
      → HasDelivered seat.steps l
      → MayAct about seat (kind.Head l) (λ n. (n + 1) % 2 ^ 64) (λ n. Lane (Retired l n))
      (λ n. Unit {0})
  retires seat l inside mine gave_ fit order few_ own lawful =
      let s = lanes_seen order seat.number seat.steps own in
      let n : ℕ = value about order (kind.Head l) in
      let ls : List (StepBy LaneStep) = lanes_of order in
      let most = few about order l lawful in let a = most.0 in let b = most.1 in
      let c = fit.room in let e = fit.start in
      let next : (n + 1) % 18446744073709551616 ≡ about.start + (lanes.retired l ls + 1) =
      omega arith in (
        record {
          may = ((inside, refl, mine, ap (lanes.phase l) s ∙ gave_), tt, tt);
          here = next
              ∙ ap (λ k. about.start + k)
              (sym (if_same l l (lanes.retired l ls + 1) (lanes.retired l ls) refl));
          others = λ v ne. retire_else about ls (gates_of order) seat.number l n v ne;
          homes = λ x. retire_home about order seat.number l n x;
        },
        tt,
      )

  -- ---- visits

  enter_as : FitSizes about → (order : Order) (p : ℕ) (b : Bool) → p < about.seats
      → IsLawful about order
      → gates.visit (steps_of p (gates_of order)) ≡ gates.outside
      → gates.closed (steps_of p (gates_of order)) ≡ 0
      → is_marked (value about order kind.Gate) ≡ b
      → IsStepAt about order p kind.Gate ((value about order kind.Gate + 1) % 2 ^ 64)
      (if b then Gate (Turned (value about order kind.Gate)) else Gate
      (Entered (value about order kind.Gate)))
  enter_as fit order p true few_ lawful out open_ is =
      let gs : List (StepBy GateStep) = gates_of order in
      let n : ℕ = gates.gate_word gs in
      let all = (parts about order lawful).1 in record {
        may = (
          refl,
          (enter_finds about gs all fit.seats).1 (leb-true 2147483648 (n % 4294967296) is),
          out,
          open_,
        );
        here = enter_word about gs p n all fit.seats few_ out;
        others = gate_else about (lanes_of order) gs p (Turned n) (λ s. refl);
        homes = λ x. refl;
      }
  enter_as fit order p false few_ lawful out open_ is =
      let gs : List (StepBy GateStep) = gates_of order in
      let n : ℕ = gates.gate_word gs in
      let all = (parts about order lawful).1 in record {
        may = (
          refl,
          (enter_finds about gs all fit.seats).0 (leb-false 2147483648 (n % 4294967296) is),
          out,
          open_,
        );
        here = enter_word about gs p n all fit.seats few_ out;
        others = gate_else about (lanes_of order) gs p (Entered n) (λ s. refl);
        homes = λ x. refl;
      }

  -- the closer, which has not closed the gate, finds it open
  finds_open : FitSizes about → (order : Order) (p : ℕ) → IsLawful about order
      → gates.closed (steps_of p (gates_of order)) ≡ 0
      → FindsOpen about p (value about order kind.Gate)
  finds_open fit order p lawful open_ is_closer =
      by_mark (is_marked (value about order kind.Gate)) refl
    where
      by_mark : (b : Bool) → is_marked (value about order kind.Gate) ≡ b
          → is_marked (value about order kind.Gate) ≡ false
      by_mark false is = is
      by_mark true is =
          let gs : List (StepBy GateStep) = gates_of order in
          let all = (parts about order lawful).1 in
          let shut = (enter_finds about gs all fit.seats).1
          (leb-true 2147483648 (gates.gate_word gs % 4294967296) is) in
          let own = (closes about gs all).0 in
          let none = ap (λ q. gates.closed (steps_of q gs)) (sym is_closer) ∙ open_ in
          absurd (omega arith)

  pub enters : (seat : SeatView BoardStep) → IsOutside seat.steps → HasOpen seat.steps
      → MayAct about seat kind.Gate (λ n. (n + 1) % 2 ^ 64) entering
      (FindsOpen about seat.number)
  enters seat out open_ fit order few_ own lawful =
      let s = seen order seat.number seat.steps own in (
        enter_as fit order seat.number (is_marked (value about order kind.Gate)) few_ lawful
            (ap gates.visit s ∙ out) (ap gates.closed s ∙ open_) refl,
        finds_open fit order seat.number lawful (ap gates.closed s ∙ open_),
      )

  pub leaves : (seat : SeatView BoardStep) → gates.visit (gate_steps seat.steps) ≢ gates.outside
      → MayAct about seat kind.Gate (λ n. (n + (2 ^ 64 - 1)) % 2 ^ 64) (λ n. Gate Left)
      (λ n. Unit {0})
  leaves seat within fit order few_ own lawful =
      let s = seen order seat.number seat.steps own in
      let gs : List (StepBy GateStep) = gates_of order in
      let not_out : gates.visit (steps_of seat.number gs) ≢ gates.outside =
      λ e. within (sym (ap gates.visit s) ∙ e) in (
        record {
          may = not_out;
          here = leave_word about gs seat.number (parts about order lawful).1 fit.seats few_
              not_out;
          others = gate_else about (lanes_of order) gs seat.number Left (λ s. refl);
          homes = λ x. refl;
        },
        tt,
      )

  -- ---- the closer

  pub shuts : (seat : SeatView BoardStep) (free : ℕ) → IsCloser about seat.number
      → IsOutside seat.steps → HasOpen seat.steps → gates.openings
      (gate_steps seat.steps) < MAX_OPENINGS
      → free ≡ gates.openings (gate_steps seat.steps) * 2 ^ 32
      → MayAct about seat kind.Gate (λ n. either (n == free) (free + 2 ^ 31) n) (closing free)
      (IsBusy about free)
  shuts seat free is_closer out open_ rarely free_is fit order few_ own lawful =
      let p : ℕ = seat.number in
      let s = seen order p seat.steps own in
      let gs : List (StepBy GateStep) = gates_of order in
      let n : ℕ = gates.gate_word gs in
      let k : ℕ = gates.openings (gate_steps seat.steps) in
      let all = (parts about order lawful).1 in
      let mine : steps_of (closer about) gs ≡ gate_steps seat.steps =
      ap (λ q. steps_of q gs) (sym is_closer) ∙ s in
      let some_seat = fit.some_seat in
      let finds = close_finds about gs k all fit.seats (omega arith) (ap gates.openings mine)
      (ap gates.closed mine ∙ open_) (ap gates.visit mine ∙ out) in
      let sums = closes about gs all in let shut_sum = sums.0 in let opened_sum = sums.1 in
      let shut_is : gates.closed (steps_of (closer about) gs) ≡ 0 = ap gates.closed mine ∙ open_ in
      dite (ℕ_discrete n free)
      (λ same.
      let none_in = finds.0 (same ∙ free_is) in
      let by_word : (n == free) ≡ true = eq-eqb n free same in
      subst (λ (b : Bool). IsStepAt about order p kind.Gate (either b (free + 2 ^ 31) n)
      (if b then Gate (Shut n) else Gate (NotShut n)) × IsBusy about free n) (sym by_word) (
        record {
          may = (
            is_closer,
            refl,
            none_in,
            ap gates.closed s ∙ open_,
            subst (λ (z : ℕ). z < MAX_OPENINGS) (sym (ap gates.openings s)) rarely,
          );
          here = (let z : free + 2147483648 ≡ gates.visits
              gs + 2147483648 * 1 + 4294967296 * gates.all_openings gs =
              omega arith in z);
          others = gate_else about (lanes_of order) gs p (Shut n) (λ s. refl);
          homes = λ x. refl;
        },
        λ ne. absurd (ne same),
      ))
      (λ other.
      let busy = finds.1 (λ e. other (e ∙ sym free_is)) in
      let by_word : (n == free) ≡ false = ne_eqb n free other in
      subst (λ (b : Bool). IsStepAt about order p kind.Gate (either b (free + 2 ^ 31) n)
      (if b then Gate (Shut n) else Gate (NotShut n)) × IsBusy about free n) (sym by_word) (
        record {
          may = (is_closer, refl, busy.0, ap gates.closed s ∙ open_);
          here = refl;
          others = gate_else about (lanes_of order) gs p (NotShut n) (λ s. refl);
          homes = λ x. refl;
        },
        λ ne. (let a = busy.0 in let b = busy.1 in let c = busy.2 in (omega arith, omega arith)),
      ))

  pub opens : (seat : SeatView BoardStep) → IsCloser about seat.number → HasClosed seat.steps
      → MayAct about seat kind.Gate (λ n. (n + 2 ^ 31) % 2 ^ 64) (λ n. Gate Opened)
      (λ n. gates.openings (gate_steps seat.steps) < MAX_OPENINGS)
  opens seat is_closer is_closed fit order few_ own lawful =
      let p : ℕ = seat.number in
      let s = seen order p seat.steps own in
      let gs : List (StepBy GateStep) = gates_of order in
      let all = (parts about order lawful).1 in
      let mine : steps_of (closer about) gs ≡ gate_steps seat.steps =
      ap (λ q. steps_of q gs) (sym is_closer) ∙ s in
      let sums = closes about gs all in let shut_sum = sums.0 in let opened_sum = sums.1 in
      let small_ = small about gs all in let s0 = small_.0 in let s1 = small_.1 in
      let shut_is : gates.closed (steps_of (closer about) gs) ≡ 1 = ap gates.closed mine
      ∙ is_closed in
      let opened_is : gates.openings (steps_of (closer about) gs) ≡ gates.openings
      (gate_steps seat.steps) =
      ap gates.openings mine in
      let w = word about gs all in
      let m = sum_most (λ q. gates.is_open (gates.visit (steps_of q gs))) about.seats
      (λ q. open_small (gates.visit (steps_of q gs))) in
      let c = fit.seats in (
        record {
          may = (is_closer, ap gates.closed s ∙ is_closed);
          here = (let z : (gates.gate_word gs + 2147483648) % 18446744073709551616
              ≡ gates.visits gs + 2147483648 * 0 + 4294967296 * (gates.all_openings gs + 1) =
              omega arith in z);
          others = gate_else about (lanes_of order) gs p Opened (λ s. refl);
          homes = λ x. refl;
        },
        omega arith,
      )
