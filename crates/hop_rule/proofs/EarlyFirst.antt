-- What lay in a lane that was found empty stands below what is put after the next opening.
use Rattle.std.proofs.Common.{◌^◌}
use Rattle.hop_rule.specs.Emptied.{WasEmptied}
use Rattle.hop_rule.specs.Gates as gates
use Rattle.hop_rule.specs.Lanes as lanes
use Rattle.hop_rule.specs.PutLaws.{WasPut}
use Rattle.hop_rule.specs.SettingLaws.{EarlyStandsFirst, EmptiedLanesStandFirst, HeadsAreBelowTails}
use Rattle.hop_rule.specs.SettingLaws.{put_visit}
use Rattle.hop_rule.specs.Sizes.{FitSizes}
use Rattle.hop_rule.proofs.Names.{◌≡◌, ◌⊎◌, inl, inr, ℕ, suc, ◌+◌, ◌/◌, ◌%◌, ◌<◌, ◌≤◌, List, ◌∷◌}
use Rattle.hop_rule.proofs.Names.{length, sym, ap, ◌∙◌, refl, subst, arith, cases_lt, StepBy}
use Rattle.hop_rule.proofs.Names.{step_by, gates_of, lanes_of, lane_at, IsLawful, retired, Delivery}
use Rattle.hop_rule.proofs.Names.{past, IsStep, lane_then, closer, BoardSizes, BoardStep, Lane}
use Rattle.hop_rule.proofs.Names.{Gate, Weighed, Counted, Offered, GateStep, Entered, Turned, Left}
use Rattle.hop_rule.proofs.Names.{Shut, NotShut, Opened, Set, Read, Freed}
use Rattle.hop_rule.proofs.Boards.{gates_past, lawful_past, step_lawful, retired_later, few}
use Rattle.hop_rule.proofs.Cases.{gate_part_case}
use Rattle.hop_rule.proofs.Fronts.{count_later}
use Rattle.hop_rule.proofs.Gates.{closes, closed_or_opened, entered_word, numbered, unshut}
use Rattle.hop_rule.proofs.Heads.{in_turn, passed_since}
use Rattle.hop_rule.proofs.Lists.{some-is}
use Rattle.hop_rule.proofs.Moments.{past-all, step-inside, along}
use Rattle.hop_rule.proofs.Openings.{openings_later}
use Rattle.hop_rule.proofs.Owns.{gates_own}
use Rattle.hop_rule.proofs.Puts.{put_counts}
use Rattle.hop_rule.proofs.Tails.{bit-small}
use Rattle.hop_rule.proofs.Visits.{closed_at}

module _ (about : BoardSizes) (order : List (StepBy BoardStep)) (fit : FitSizes about)
    (lawful : IsLawful about order) where
  openings_at : ℕ → ℕ
  openings_at n = gates.all_openings (gates_of (past n order))

  -- a lane that was found empty has retired all that it had accepted
  pub emptied : (n l : ℕ) → (e : WasEmptied about order n l) → retired about (past e.weighed order)
      l ≡ length (lane_then about order e.counted l).accepted
  emptied n l e =
      let h = (step_lawful about order e.weighed (closer about) (Weighed l e.head) lawful
      e.weighs).1.1 in
      let k = (step_lawful about order e.counted (closer about) (Counted l e.tail) lawful
      e.counts).1.1 in
      let a = few about (past e.weighed order) l (lawful_past about order e.weighed lawful) in
      let b = few about (past e.counted order) l (lawful_past about order e.counted lawful) in
      let a0 = a.0 in let a1 = a.1 in let b1 = b.1 in
      let room = fit.room in let start = fit.start in
      let small = bit-small (lanes.holder l (lanes_of (past e.counted order))) in
      let x : ℕ = retired about (past e.weighed order) l in
      let y : ℕ = length (lane_then about order e.counted l).accepted in
      let head : e.head ≡ about.start + x = h in
      let tail : e.tail / 2 ≡ about.start + y = omega arith in
      let same : (about.start + x) % 2 ^ 32 ≡ (about.start + y) % 2 ^ 32 = ap (λ z. z % 2 ^ 32)
      (sym head) ∙ (e.equal ∙ ap (λ z. z % 2 ^ 32) tail) in
      omega arith

  -- the number of a put's visit is how often the gate had been opened
  put_number : (l j id : ℕ) (u : WasPut about order l j id)
      → (put_visit about order u.moment u.seat ≡ openings_at u.moment)
      × (gates.all_closed (gates_of (past u.moment order)) ≡ 0)
  unfolding openings_at
  put_number l j id u =
      let may = step_lawful about order u.moment u.seat
      (Lane (Freed l (Offered id u.hash u.answer))) lawful u.is in
      let gs : List (StepBy GateStep) = gates_of (past u.moment order) in
      let legal = gates_past about order u.moment lawful in (
        ap (λ ds. gates.found ds / 4294967296) (sym (gates_own u.seat (past u.moment order)))
            ∙ numbered about gs fit.seats legal u.seat may.0 may.1.1,
        unshut about gs legal u.seat
            may.0 may.1.1,
      )

  -- no opening between two moments
  same_openings : (m n : ℕ) → m ≤ n
      → ((k : ℕ) → m ≤ k → k < n → IsStep order k (closer about) (Gate Opened) → ⊥)
      → openings_at n ≡ openings_at m
  unfolding openings_at
  same_openings m n le none = along (λ es. gates.all_openings (gates_of es) ≡ gates.all_openings
      (gates_of (past m order))) order m n le
      (λ k e from to is here. gate_part_case
      (λ gs. gates.all_openings gs ≡ gates.all_openings (gates_of (past m order))) e.by e.step
      (gates_of (past k order))
      (λ s gate. by_gate k e.by s (is ∙ ap (λ d. step_by e.by d ∷ past k order) gate)
      (none k from to) here) here) refl
    where
      by_gate : (k p : ℕ) (s : GateStep) → IsStep order k p (Gate s)
          → (IsStep order k (closer about) (Gate Opened) → ⊥) → openings_at k ≡ openings_at m
          → gates.openings_after s (openings_at k) ≡ openings_at m
      by_gate k p Opened is no_ here =
          absurd (no_ (subst (λ (z : ℕ). IsStep order k z (Gate Opened))
          (step_lawful about order k p (Gate Opened) lawful is).1.0 is))
      by_gate k p (Entered w) is no_ here = here
      by_gate k p (Turned w) is no_ here = here
      by_gate k p Left is no_ here = here
      by_gate k p (Shut w) is no_ here = here
      by_gate k p (NotShut w) is no_ here = here
      by_gate k p (Set i v) is no_ here = here
      by_gate k p (Read i v) is no_ here = here

  openings_grow : (m n : ℕ) → m ≤ n → openings_at m ≤ openings_at n
  unfolding openings_at
  openings_grow m n le =
      let a = (closes about (gates_of (past m order)) (gates_past about order m lawful)).1 in
      let b = (closes about (gates_of (past n order)) (gates_past about order n lawful)).1 in
      let up = openings_later about order lawful m n le in omega arith

  module _ (n l : ℕ) (e : WasEmptied about order n l) where
    number : ℕ
    number = e.word / 2 ^ 32

    at_shut : e.word / 4294967296 ≡ openings_at e.shut
    unfolding openings_at
    at_shut =
        let may = (step_lawful about order e.shut (closer about) (Gate (Shut e.word)) lawful
        e.shuts).1 in
        let gs : List (StepBy GateStep) = gates_of (past e.shut order) in
        let legal = gates_past about order e.shut lawful in
        ap (λ z. z / 4294967296) may.1 ∙ entered_word about gs legal fit.seats
        ((closes about gs legal).0 ∙ may.3)

    after_shut : openings_at (suc e.shut) ≡ openings_at e.shut
    unfolding openings_at
    after_shut = ap (λ (es : List (StepBy BoardStep)). gates.all_openings (gates_of es)) e.shuts

    at_counted : openings_at e.counted ≡ openings_at e.shut
    at_counted = let a = e.after_shut in let b = e.after_weighed in let d = e.before in
        same_openings (suc e.shut) e.counted (omega arith)
        (λ k from to opens. e.stays k (omega arith) (omega arith) opens) ∙ after_shut

    higher : (m : ℕ) → e.counted ≤ m → gates.all_closed (gates_of (past m order)) ≡ 0
        → openings_at e.shut < openings_at m
    unfolding openings_at
    higher m le open_ =
        let a = e.after_shut in let b = e.after_weighed in let d = e.before in
        let k : ℕ = gates.all_openings (gates_of (past e.shut order)) in
        let same = at_counted in
        let start = closed_at about order lawful e.shut n e.word e.counted e.shuts e.stays
        (omega arith) (omega arith) in
        let t = along (λ es. ((gates.all_closed (gates_of es) ≡ 1)
        × (k ≤ gates.all_openings (gates_of es))) ⊎ (k < gates.all_openings (gates_of es)))
        order e.counted m le
        (λ i s from to is here. gate_part_case
        (λ gs. ((gates.all_closed gs ≡ 1) × (k ≤ gates.all_openings gs)) ⊎
        (k < gates.all_openings gs)) s.by s.step (gates_of (past i order))
        (λ g _. closed_or_opened about k (step_by s.by g) (gates_of (past i order)) here) here)
        (inl (start, omega arith)) in
        elim t [ inl c ↦ (let z = c.0 in absurd (omega arith)) | inr more ↦ more ]

    -- a put before the lane was counted, or after it
    put_before : (to j id : ℕ) (u : WasPut about order to j id)
        → put_visit about order u.moment u.seat ≤ e.word / 4294967296 → u.moment < e.counted
    put_before to j id u le = elim (cases_lt u.moment e.counted) [
      | inl l ↦ l
      | inr ge ↦ (
          let t = put_number to j id u in let num = t.0 in
          let h = higher u.moment ge t.1 in let a = at_shut in absurd (omega arith))
    ]

    number_before : (to j id : ℕ) (u : WasPut about order to j id) → u.moment < e.counted
        → put_visit about order u.moment u.seat ≤ e.word / 4294967296
    number_before to j id u less =
        let num = (put_number to j id u).0 in let a = at_shut in let b = at_counted in
        let up = openings_grow u.moment e.counted (omega arith) in omega arith

    put_after : (to j id : ℕ) (u : WasPut about order to j id) → e.word / 4294967296 < put_visit
        about order u.moment u.seat → e.counted ≤ u.moment
    put_after to j id u more = elim (cases_lt u.moment e.counted)
        [ inl l ↦ (let z = number_before to j id u l in absurd (omega arith)) | inr ge ↦ ge ]

    whole : past (length order) order ≡ order
    whole = past-all order (length order) (omega arith)

    in_time : e.weighed < length order
    in_time = step-inside order e.weighed (closer about) (Weighed l e.head) e.weighs

    pub stands_first : EarlyStandsFirst about order l (e.word / 4294967296)
        (length (lane_then about order e.counted l).accepted)
    stands_first = record {
      early = λ j id u. ((
        λ below. (
            elim (cases_lt u.moment e.counted) [
              | inl less ↦ number_before l j id u less
              | inr ge ↦ (let up = count_later about order e.counted u.moment l ge in let f =
                  u.found in absurd (omega arith))
            ]),
        λ le. (let c = put_counts about order lawful u.moment u.seat l id u.hash u.answer u.is
            e.counted u.cause (put_before l j id u le) in let f = u.found in omega arith),
      ));
      delivered = (
          let a = emptied n l e in let b = in_time in
          let up : retired about (past e.weighed order) l ≤ retired about order l =
          subst (λ (z : List (StepBy BoardStep)). retired about (past e.weighed order) l ≤
          retired about z l) whole (retired_later about order e.weighed (length order) l
          (omega arith)) in
          let c = (in_turn about order lawful l).of_delivered in omega arith);
      first = λ i to j id g late u below at more at' same. (
          let a = emptied n l e in let b = in_time in let d = e.after_weighed in
          let after = put_after to j id u more in
          let up = count_later about order e.weighed u.moment to (omega arith) in let f = u.found in
          let t = passed_since about order lawful e.weighed l i (omega arith) (omega arith) to j
          late (omega arith) at' in
          let is_one : t.0 ≡ g = some-is t.0 g (sym t.1 ∙ at) in
          subst (λ (z : Delivery). z.place < late.place) is_one
          (t.2 (ap (λ (z : Delivery). z.to) is_one ∙ same)));
    }

pub emptied_lanes_stand_first : EmptiedLanesStandFirst
emptied_lanes_stand_first about order fit lawful n l e = stands_first about order fit lawful n l e

pub heads_are_below_tails : HeadsAreBelowTails
heads_are_below_tails about order lawful m n p q l head tail less weighs counts =
    let x = (step_lawful about order m p (Weighed l head) lawful weighs).1.1 in
    let y = (step_lawful about order n q (Counted l tail) lawful counts).1.1 in
    let inside = step-inside order n q (Counted l tail) counts in
    let grow = retired_later about order m n l (omega arith) in
    let within = (few about (past n order) l (lawful_past about order n lawful)).0 in
    let small = bit-small (lanes.holder l (lanes_of (past n order))) in
    let more = count_later about order n (length order) l (omega arith) in
    let end = ap (λ (z : List (StepBy BoardStep)). length (lane_at about z l).accepted)
    (past-all order (length order) (omega arith)) in
    (omega arith, omega arith)
