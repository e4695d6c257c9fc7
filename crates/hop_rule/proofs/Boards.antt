-- One order of lanes and gate: its two parts, and what it was at a moment.
use Rattle.std.proofs.Common.{append_assoc}
use Rattle.hop_rule.specs.Gates as gates
use Rattle.hop_rule.specs.Lanes as lanes
use Rattle.hop_rule.proofs.Names.{◌≡◌, ℕ, zero, suc, ◌-◌, ◌<◌, ◌≤◌, List, [], ◌∷◌, ◌++◌, Option}
use Rattle.hop_rule.proofs.Names.{length, drop, sym, refl, ap, ◌∙◌, subst, arith, Put, after_put}
use Rattle.hop_rule.proofs.Names.{StepBy, step_by, if_same, lane_at, lanes_of, gates_of, MayCome}
use Rattle.hop_rule.proofs.Names.{IsLawful, retired, past, IsStep, IsPut, BoardSizes, BoardStep}
use Rattle.hop_rule.proofs.Names.{Lane, Gate, Weighed, Counted, LaneOut, LaneIn, OutCounted}
use Rattle.hop_rule.proofs.Names.{LaneStep}
use Rattle.hop_rule.proofs.Cases.{lane_part, gate_part, lane_part_case, retired_case}
use Rattle.hop_rule.proofs.Lanes.{counted}
use Rattle.hop_rule.proofs.Moments.{along}

abbrev Order : Type 0
Order = List (StepBy BoardStep)

-- ---- a later moment has more steps at lanes

abbrev More : List (StepBy LaneStep) → List (StepBy LaneStep) → Type 0
More old new = (more : List (StepBy LaneStep)) × (new ≡ more ++ old)

lanes_step : (p : ℕ) (d : BoardStep) (es : Order) → More (lanes_of es) (lane_part p d (lanes_of es))
lanes_step p d es = lane_part_case (More (lanes_of es)) p d (lanes_of es)
    (λ s _. (step_by p s ∷ [], refl)) ([], refl)

pub lanes_more : (order : Order) (m n : ℕ) → m ≤ n → (more : List (StepBy LaneStep))
    × (lanes_of (past n order) ≡ more ++ lanes_of (past m order))
lanes_more order m n le = along (λ es. More (lanes_of (past m order)) (lanes_of es)) order m n le
    (λ k e a b is t. let u = lanes_step e.by e.step (past k order) in (
      u.0 ++ t.0,
      u.1 ∙ (ap (λ x. u.0 ++ x) t.1
          ∙ sym (append_assoc u.0 t.0 (lanes_of (past m order)))),
    )) ([], refl)

-- ---- lawful orders

module _ (about : BoardSizes) where
  pub parts : (es : Order) → IsLawful about es → lanes.AreLawful about (lanes_of es)
      × gates.AreLawful about (gates_of es)
  parts [] lawful = (tt, tt)
  parts (e ∷ es) lawful = by_step e.by e.step lawful.0 lawful.1 (parts es lawful.2)
    where
      by_step : (p : ℕ) (d : BoardStep) → p < about.seats → MayCome about p es d
          → lanes.AreLawful about (lanes_of es) × gates.AreLawful about (gates_of es)
          → lanes.AreLawful about (lane_part p d (lanes_of es)) × gates.AreLawful about
          (gate_part p d (gates_of es))
      by_step p (Lane d) l may t = ((may.0, t.0), t.1)
      by_step p (Gate d) l may t = (t.0, (l, may, t.1))
      by_step p (Weighed i h) l may t = t
      by_step p (Counted i n) l may t = t
      by_step p (OutCounted i n) l may t = t
      by_step p (LaneOut i) l may t = t
      by_step p (LaneIn i) l may t = t

  lawful_drop : (k : ℕ) (es : Order) → IsLawful about es → IsLawful about (drop k es)
  lawful_drop zero es lawful = lawful
  lawful_drop (suc k) [] lawful = tt
  lawful_drop (suc k) (e ∷ es) lawful = lawful_drop k es lawful.2

  pub lawful_past : (order : Order) (n : ℕ) → IsLawful about order → IsLawful about (past n order)
  lawful_past order n lawful = lawful_drop (length order - n) order lawful

  pub lanes_past : (order : Order) (n : ℕ) → IsLawful about order → lanes.AreLawful about
      (lanes_of (past n order))
  lanes_past order n lawful = (parts (past n order) (lawful_past order n lawful)).0

  pub gates_past : (order : Order) (n : ℕ) → IsLawful about order → gates.AreLawful about
      (gates_of (past n order))
  gates_past order n lawful = (parts (past n order) (lawful_past order n lawful)).1

  -- a step by its moment
  pub step_lawful : (order : Order) (n p : ℕ) (d : BoardStep) → IsLawful about order
      → IsStep order n p d → (p < about.seats) × MayCome about p (past n order) d
  step_lawful order n p d lawful is = let t = subst (IsLawful about) is
      (lawful_past order (suc n) lawful) in (t.0, t.1)

  -- the lane right after a put
  pub put_now : (order : Order) (u p l id : ℕ) (hash : Option ℕ) (answer : Put)
      → IsPut about order u p l id hash answer → lane_at about (past (suc u) order) l ≡ after_put
      (lane_at about (past u order) l) id hash
  put_now order u p l id hash answer is = ap (λ (es : Order). lane_at about es l) is
      ∙ if_same l l (after_put (lane_at about (past u order) l) id hash)
      (lane_at about (past u order) l) refl

  -- ---- heads

  retired_grow : (l : ℕ) (new old : List (StepBy LaneStep)) → lanes.retired l old ≤ lanes.retired l
      (new ++ old)
  retired_grow l [] old = omega arith
  retired_grow l (e ∷ es) old = let a = retired_grow l es old in
      retired_case (λ (n : ℕ). lanes.retired l old ≤ n) l e.step (lanes.retired l (es ++ old))
      (omega arith) a

  pub retired_later : (order : Order) (m n l : ℕ) → m ≤ n → retired about (past m order) l ≤ retired
      about (past n order) l
  retired_later order m n l le = let t = lanes_more order m n le in
      subst (λ (z : List (StepBy LaneStep)). retired about (past m order) l ≤ lanes.retired l z)
      (sym t.1) (retired_grow l t.0 (lanes_of (past m order)))

  -- no more are retired than were accepted, and no more accepted than there is room for
  pub few : (es : Order) (l : ℕ) → IsLawful about es
      → (retired about es l ≤ length (lane_at about es l).accepted)
      × (length (lane_at about es l).accepted ≤ about.room)
  few es l lawful = let c = counted about (lanes_of es) (parts es lawful).0 l in let a = c.0 in
      let b = c.1 in let d = c.2 in (omega arith, omega arith)
