-- Who holds a lane, by the seats' own lists, by the lane's word and by its slot.
use Rattle.std.proofs.Common.{◌*◌}
use Rattle.hop_rule.specs.Boards.{full, taken, empty, SlotState, lane_steps, out_slot, own_state}
use Rattle.hop_rule.specs.Boards.{slot_state}
use Rattle.hop_rule.specs.LaneLaws.{HoldsByOwnSteps, OutHolds, IsHeldByOne, IsOutHeldByOne}
use Rattle.hop_rule.specs.LaneLaws.{MiddleLanesAreHeldByOne, OutLanesAreHeldByOne}
use Rattle.hop_rule.specs.Lanes as lanes
use Rattle.hop_rule.specs.Owns.{own_of}
use Rattle.hop_rule.proofs.Names.{◌≡◌, ◌≢◌, ℕ, zero, suc, ◌+◌, ◌%◌, ◌<◌, List, [], ◌∷◌, length}
use Rattle.hop_rule.proofs.Names.{Some, None, sym, refl, ap, ◌∙◌, arith, dite, ℕ_discrete}
use Rattle.hop_rule.proofs.Names.{LaneLists, StepBy, if_same, if_other, MayCome, IsLawful, lane_at}
use Rattle.hop_rule.proofs.Names.{lanes_of, out, OutList, BoardSizes, BoardStep, Lane, Gate}
use Rattle.hop_rule.proofs.Names.{Weighed, Counted, LaneOut, LaneIn, OutCounted, LaneStep, Held}
use Rattle.hop_rule.proofs.Names.{Missed, Freed, OutHeld, OutMissed, OutFreed, Given, Retired}
use Rattle.hop_rule.proofs.Boards.{parts}
use Rattle.hop_rule.proofs.Cases.{pick}
use Rattle.hop_rule.proofs.Closings.{held_is, out_held_is}
use Rattle.hop_rule.proofs.Lanes.{holds, out_holds}
use Rattle.hop_rule.proofs.Lists.{none-some}
use Rattle.hop_rule.proofs.Owns.{lanes_own}
use Rattle.hop_rule.proofs.Slots.{is_out, agrees, out_agrees}

-- ---- who holds a lane has taken its slot

module _ (about : BoardSizes) (l : ℕ) (inside : l < about.lanes) where
  abbrev Out : List BoardStep → Type 0
  Out ds = (x : LaneLists) → lanes.holding l (lane_steps ds) ≡ Some x
      → is_out (own_state about l ds) ≡ 1

  far : (o : ℕ) → out_slot about o ≢ l
  far o e = absurd (omega arith)

  out_lane : (d : LaneStep) (ds : List BoardStep) → Out ds → Out (Lane d ∷ ds)
  out_lane (Held i w y) ds t x at = dite (ℕ_discrete i l)
      (λ e. ap is_out (if_same i l taken (own_state about l ds) e))
      (λ ne. ap is_out (if_other i l taken (own_state about l ds) ne)
      ∙ t x (sym (if_other i l (Some y) (lanes.holding l (lane_steps ds)) ne) ∙ at))
  out_lane (Freed i c) ds t x at = dite (ℕ_discrete i l)
      (λ e. none-some x (sym (if_same i l None (lanes.holding l (lane_steps ds)) e) ∙ at))
      (λ ne. ap is_out (if_other i l full (own_state about l ds) ne)
      ∙ t x (sym (if_other i l None (lanes.holding l (lane_steps ds)) ne) ∙ at))
  out_lane (OutHeld o w y) ds t x at = ap is_out
      (if_other (out_slot about o) l taken (own_state about l ds) (far o)) ∙ t x at
  out_lane (OutFreed o) ds t x at = ap is_out
      (if_other (out_slot about o) l full (own_state about l ds) (far o)) ∙ t x at
  out_lane (Given o from id place) ds t x at = ap is_out
      (if_other (out_slot about o) l full (own_state about l ds) (far o)) ∙ t x at
  out_lane (Missed i w) ds t x at = t x at
  out_lane (OutMissed o w) ds t x at = t x at
  out_lane (Retired i w) ds t x at = t x at

  pub held_out : (ds : List BoardStep) → Out ds
  held_out [] x at = none-some x at
  held_out (Lane d ∷ ds) x at = out_lane d ds (held_out ds) x at
  held_out (Gate d ∷ ds) x at = held_out ds x at
  held_out (Weighed i w ∷ ds) x at = held_out ds x at
  held_out (Counted i w ∷ ds) x at = held_out ds x at
  held_out (OutCounted i w ∷ ds) x at = held_out ds x at
  held_out (LaneOut k ∷ ds) x at = dite (ℕ_discrete k l)
      (λ e. ap is_out (if_same k l empty (own_state about l ds) e))
      (λ ne. ap is_out (if_other k l empty (own_state about l ds) ne) ∙ held_out ds x at)
  held_out (LaneIn k ∷ ds) x at = dite (ℕ_discrete k l)
      (λ e. ap is_out (if_same k l taken (own_state about l ds) e))
      (λ ne. ap is_out (if_other k l taken (own_state about l ds) ne) ∙ held_out ds x at)

module _ (about : BoardSizes) (o : ℕ) where
  abbrev k : ℕ
  k = out_slot about o

  abbrev OutOut : List BoardStep → Type 0
  OutOut ds = (x : OutList) → lanes.out_holding o (lane_steps ds) ≡ Some x
      → is_out (own_state about k ds) ≡ 1

  near : (i : ℕ) → i ≢ o → out_slot about i ≢ k
  near i ne e = ne (omega arith)

  below : (i : ℕ) → i < about.lanes → i ≢ k
  below i l e = absurd (omega arith)

  out_out_lane : (p : ℕ) (d : LaneStep) (es : List (StepBy BoardStep)) (ds : List BoardStep)
      → MayCome about p es (Lane d) → OutOut ds → OutOut (Lane d ∷ ds)
  out_out_lane p (OutHeld i w y) es ds may t x at = dite (ℕ_discrete i o)
      (λ e. ap is_out (if_same (out_slot about i) k taken (own_state about k ds)
      (ap (out_slot about) e)))
      (λ ne. ap is_out (if_other (out_slot about i) k taken (own_state about k ds) (near i ne))
      ∙ t x (sym (if_other i o (Some y) (lanes.out_holding o (lane_steps ds)) ne) ∙ at))
  out_out_lane p (OutFreed i) es ds may t x at = dite (ℕ_discrete i o)
      (λ e. none-some x (sym (if_same i o None (lanes.out_holding o (lane_steps ds)) e) ∙ at))
      (λ ne. ap is_out (if_other (out_slot about i) k full (own_state about k ds) (near i ne))
      ∙ t x (sym (if_other i o None (lanes.out_holding o (lane_steps ds)) ne) ∙ at))
  out_out_lane p (Given i from id place) es ds may t x at = dite (ℕ_discrete i o)
      (λ e. none-some x (sym (if_same i o None (lanes.out_holding o (lane_steps ds)) e) ∙ at))
      (λ ne. ap is_out (if_other (out_slot about i) k full (own_state about k ds) (near i ne))
      ∙ t x (sym (if_other i o None (lanes.out_holding o (lane_steps ds)) ne) ∙ at))
  out_out_lane p (Held i w y) es ds may t x at = ap is_out
      (if_other i k taken (own_state about k ds) (below i may.0.0)) ∙ t x at
  out_out_lane p (Freed i c) es ds may t x at = ap is_out
      (if_other i k full (own_state about k ds) (below i may.0.0)) ∙ t x at
  out_out_lane p (Missed i w) es ds may t x at = t x at
  out_out_lane p (OutMissed i w) es ds may t x at = t x at
  out_out_lane p (Retired i w) es ds may t x at = t x at

  out_out_step : (p : ℕ) (d : BoardStep) (es : List (StepBy BoardStep)) (ds : List BoardStep)
      → MayCome about p es d → OutOut ds → OutOut (d ∷ ds)
  out_out_step p (Lane d) es ds may t x at = out_out_lane p d es ds may t x at
  out_out_step p (Gate d) es ds may t x at = t x at
  out_out_step p (Weighed i w) es ds may t x at = t x at
  out_out_step p (Counted i w) es ds may t x at = t x at
  out_out_step p (OutCounted i w) es ds may t x at = t x at
  out_out_step p (LaneOut j) es ds may t x at = dite (ℕ_discrete j k)
      (λ e. ap is_out (if_same j k empty (own_state about k ds) e))
      (λ ne. ap is_out (if_other j k empty (own_state about k ds) ne) ∙ t x at)
  out_out_step p (LaneIn j) es ds may t x at = dite (ℕ_discrete j k)
      (λ e. ap is_out (if_same j k taken (own_state about k ds) e))
      (λ ne. ap is_out (if_other j k taken (own_state about k ds) ne) ∙ t x at)

  pub out_held_out : (es : List (StepBy BoardStep)) → IsLawful about es → (q : ℕ)
      → OutOut (own_of es q)
  out_held_out [] lawful q x at = none-some x at
  out_held_out (e ∷ es) lawful q x at = pick e.by q (e.step ∷ own_of es q) (own_of es q) OutOut
      (λ _. out_out_step e.by e.step es (own_of es q) lawful.1 (out_held_out es lawful.2 q))
      (λ _. out_held_out es lawful.2 q) x at

-- ---- the laws

module _ (about : BoardSizes) (order : List (StepBy BoardStep)) (lawful : IsLawful about order)
  where
    abbrev ls : List (StepBy LaneStep)
    ls = lanes_of order

    not_full : (s : SlotState) → is_out s ≡ 1 → s ≢ full
    not_full s on e = let z : is_out s ≡ 0 = ap is_out e in absurd (omega arith)

    module _ (l : ℕ) (inside : l < about.lanes) where
      held_by : (q : ℕ) (x : LaneLists) → HoldsByOwnSteps order l q x → (lanes.holder l ls ≡ suc q)
          × (lane_at about order l ≡ x)
      held_by q x at = holds about ls (parts about order lawful).0 l q x
          (ap (lanes.holding l) (lanes_own q order) ∙ at)

      holder_is : (n : ℕ) → lanes.holder l ls ≡ suc n → HoldsByOwnSteps order l n
          (lane_at about order l)
      holder_is n h = ap (lanes.holding l) (sym (lanes_own n order)) ∙ held_is about ls
          (parts about order lawful).0 l n h

      free : ((q : ℕ) → lanes.holding l (lane_steps (own_of order q)) ≡ None)
          → lanes.holder l ls ≡ 0
      free none = by_holder (lanes.holder l ls) refl
        where
          by_holder : (n : ℕ) → lanes.holder l ls ≡ n → lanes.holder l ls ≡ 0
          by_holder zero e = e
          by_holder (suc n) e = none-some (lane_at about order l) (sym (none n) ∙ holder_is n e)

      abbrev Word : ℕ → ℕ
      Word h = 2 * (about.start + length (lane_at about order l).accepted) + lanes.bit h

      middle : IsHeldByOne about order l
      middle = record {
        one = λ p q x y a b. (let u = (held_by p x a).0 in let v = (held_by q y b).0 in
            omega arith);
        found = λ q x at. (held_by q x at).1;
        marked = λ q x at. ap Word (held_by q x at).0;
        out = λ q x at. (
            let on = held_out about l inside (own_of order q) x at in
            let same = ((agrees about l inside order lawful).own q on).1 in
            (not_full (slot_state about l order) (ap is_out same ∙ on), same));
        unmarked = λ none. (let w : lanes.lane_word about l ls ≡ Word 0 = ap Word (free none) in
            omega arith);
        home = λ none. (agrees about l inside order lawful).home (free none);
        some_holder = λ odd. by_holder odd (lanes.holder l ls) refl;
      }
        where
          by_holder : lanes.lane_word about l ls % 2 ≡ 1 → (n : ℕ) → lanes.holder l ls ≡ n → (q : ℕ)
              × (x : LaneLists) × HoldsByOwnSteps order l q x
          by_holder odd zero e = let w : lanes.lane_word about l ls ≡ Word 0 = ap Word e in
              absurd (omega arith)
          by_holder odd (suc n) e = (n, lane_at about order l, holder_is n e)

    module _ (o : ℕ) where
      out_held_by : (q : ℕ) (x : OutList) → OutHolds order o q x → (lanes.out_holder o ls ≡ suc q)
          × (lanes.out_content about o ls ≡ x)
      out_held_by q x at = out_holds about ls (parts about order lawful).0 o q x
          (ap (lanes.out_holding o) (lanes_own q order) ∙ at)

      out_holder_is : (n : ℕ) → lanes.out_holder o ls ≡ suc n → OutHolds order o n
          (lanes.out_content about o ls)
      out_holder_is n h = ap (lanes.out_holding o) (sym (lanes_own n order)) ∙ out_held_is about ls
          (parts about order lawful).0 o n h

      out_free : ((q : ℕ) → lanes.out_holding o (lane_steps (own_of order q)) ≡ None)
          → lanes.out_holder o ls ≡ 0
      out_free none = by_holder (lanes.out_holder o ls) refl
        where
          by_holder : (n : ℕ) → lanes.out_holder o ls ≡ n → lanes.out_holder o ls ≡ 0
          by_holder zero e = e
          by_holder (suc n) e = none-some (lanes.out_content about o ls)
              (sym (none n) ∙ out_holder_is n e)

      abbrev OutWord : ℕ → ℕ
      OutWord h = 2 * (about.start + length (out about order o)) + lanes.bit h

      outs : IsOutHeldByOne about order o
      outs = record {
        one = λ p q x y a b. (let u = (out_held_by p x a).0 in let v = (out_held_by q y b).0 in
            omega arith);
        found = λ q x at. ap (λ (y : OutList). y.items) (out_held_by q x at).1;
        marked = λ q x at. ap OutWord (out_held_by q x at).0;
        away = λ q x at. (
            let on = out_held_out about o order lawful q x at in
            let same = ((out_agrees about o order lawful).own q on).1 in
            (not_full (slot_state about (out_slot about o) order) (ap is_out same ∙ on), same));
        unmarked = λ none. (let w : lanes.out_word about o ls ≡ OutWord 0 = ap OutWord
            (out_free none) in omega arith);
        home = λ none. (out_agrees about o order lawful).home (out_free none);
        some_holder = λ odd. by_holder odd (lanes.out_holder o ls) refl;
      }
        where
          by_holder : lanes.out_word about o ls % 2 ≡ 1 → (n : ℕ) → lanes.out_holder o ls ≡ n
              → (q : ℕ) × (x : OutList) × OutHolds order o q x
          by_holder odd zero e = let w : lanes.out_word about o ls ≡ OutWord 0 = ap OutWord e in
              absurd (omega arith)
          by_holder odd (suc n) e = (n, lanes.out_content about o ls, out_holder_is n e)

pub middle_lanes_are_held_by_one : MiddleLanesAreHeldByOne
middle_lanes_are_held_by_one about order lawful l inside = middle about order lawful l inside

pub out_lanes_are_held_by_one : OutLanesAreHeldByOne
out_lanes_are_held_by_one about order lawful o = outs about order lawful o
