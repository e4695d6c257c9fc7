-- A count that goes up with the steps of a kind is the sum of all seats' steps of that kind.
use Rattle.std.proofs.Common.{zero}
use Rattle.std.specs.List.{cons_option, filter_map}
use Rattle.steer_base.specs.declared.put.Put.{Put}
use Rattle.steer_base.specs.declared.put.Put.TheVariants.{At, Dropped}
use Rattle.backlog.specs.Puts.{answer_by, put_answer}
use Rattle.linearization.proofs.ViewLemmas.{steps_of_own}
use Rattle.hop_rule.specs.Events.{sum_below}
use Rattle.hop_rule.specs.Lanes as lanes
use Rattle.hop_rule.specs.declared.step.LaneStep.TheVariants.{Freed}
use Rattle.hop_rule.proofs.Boards.{parts}
use Rattle.hop_rule.proofs.Cases.{pick}
use Rattle.hop_rule.proofs.Gates.{sum_one}
use Rattle.hop_rule.proofs.Lanes.{holds}
use Rattle.board_api.specs.OwnSteps.{accepted_by, accepted_in, dropped_by, dropped_in}
use Rattle.board_api.proofs.Names.{◌≡◌, ◌≢◌, ℕ, suc, ◌+◌, ◌<◌, List, [], ◌∷◌, length, length-append}
use Rattle.board_api.proofs.Names.{Option, Some, None, sym, refl, ap, ◌∙◌, subst, arith, bucket_of}
use Rattle.board_api.proofs.Names.{lane_drop_cause, LaneLists, DropCause, after_put, put_by, StepBy}
use Rattle.board_api.proofs.Names.{step_by, steps_of_other, IsLawful, MayCome, lane_at, lanes_of}
use Rattle.board_api.proofs.Names.{own_of, BoardSizes, BoardStep, Lane, Nothing, Offered, Pulled}

abbrev Order : Type 0
Order = List (StepBy BoardStep)

-- one more, if there is something
abbrev pub gained : Option ℕ → ℕ
gained None = 0
gained (Some x) = 1

sum_none : (n : ℕ) → sum_below (λ q. 0) n ≡ 0
sum_none zero = refl
sum_none (suc n) = let rest = sum_none n in omega arith

length-cons : (o : Option ℕ) (xs : List ℕ) → length (cons_option o xs) ≡ gained o + length xs
length-cons None xs = omega arith
length-cons (Some x) xs = omega arith

module _ (about : BoardSizes) (kind : BoardStep → Option ℕ) (count : Order → ℕ)
    (none : count [] ≡ 0)
    (adds : (q : ℕ) (d : BoardStep) (es : Order) → IsLawful about es → MayCome about q es d
    → count (step_by q d ∷ es) ≡ gained (kind d) + count es) where
  abbrev by : Order → ℕ → ℕ
  by es q = length (filter_map kind (own_of es q))

  sum_adds : (q : ℕ) (d : BoardStep) (es : Order) → q < about.seats
      → sum_below (by (step_by q d ∷ es)) about.seats ≡ gained (kind d) + sum_below
      (by es) about.seats
  sum_adds q d es seat =
      let own = ap (λ ds. length (filter_map kind ds)) (steps_of_own q q d es refl) ∙ length-cons
      (kind d) (filter_map kind (own_of es q)) in
      let one = sum_one (by (step_by q d ∷ es)) (by es) about.seats q seat
      (λ p _ ne. ap (λ ds. length (filter_map kind ds)) (steps_of_other p q d es
      (λ h. ne (sym h)))) in omega arith

  pub is_sum : (es : Order) → IsLawful about es → count es ≡ sum_below (by es) about.seats
  is_sum [] lawful = none ∙ sym (sum_none about.seats)
  is_sum (e ∷ es) lawful =
      adds e.by e.step es lawful.2 lawful.1
      ∙ (ap (λ n. gained (kind e.step) + n) (is_sum es lawful.2)
      ∙ sym (sum_adds e.by e.step es lawful.0))

-- ---- accepted and dropped packets of one lane

module _ (about : BoardSizes) (l : ℕ) where
  accepted_put : (i id : ℕ) (hash : Option ℕ) (x : LaneLists) (cause : Option DropCause) → i ≡ l
      → length (put_by cause x id (bucket_of hash)).accepted ≡ gained
      (accepted_in l (Lane (Freed i (Offered id hash (answer_by cause x))))) + length x.accepted
  accepted_put i id hash x None e =
      let more = length-append x.accepted (id ∷ []) in
      let one = pick i l (Some id) None (λ o. gained o ≡ 1) (λ _. refl) (λ ne. absurd (ne e)) in
      omega arith
  accepted_put i id hash x (Some cause) e = omega arith

  dropped_put : (i id : ℕ) (hash : Option ℕ) (x : LaneLists) (cause : Option DropCause) → i ≡ l
      → length (put_by cause x id (bucket_of hash)).drops ≡ gained
      (dropped_in l (Lane (Freed i (Offered id hash (answer_by cause x))))) + length x.drops
  dropped_put i id hash x None e = omega arith
  dropped_put i id hash x (Some cause) e =
      let more = length-append x.drops (record {
        id = id;
        accepted = length x.accepted;
        pulled = x.pulled;
        cause = cause;
      } ∷ []) in
      let one = pick i l (Some id) None (λ o. gained o ≡ 1) (λ _. refl) (λ ne. absurd (ne e)) in
      omega arith

  other_accepted : (i id : ℕ) (hash : Option ℕ) (answer : Put) → i ≢ l
      → gained (accepted_in l (Lane (Freed i (Offered id hash answer)))) ≡ 0
  other_accepted i id hash (At n) ne = pick i l (Some id) None (λ o. gained o ≡ 0)
      (λ e. absurd (ne e)) (λ _. refl)
  other_accepted i id hash (Dropped number accepted pulled cause) ne = refl

  other_dropped : (i id : ℕ) (hash : Option ℕ) (answer : Put) → i ≢ l
      → gained (dropped_in l (Lane (Freed i (Offered id hash answer)))) ≡ 0
  other_dropped i id hash (At n) ne = refl
  other_dropped i id hash (Dropped number accepted pulled cause) ne =
      pick i l (Some id) None (λ o. gained o ≡ 0) (λ e. absurd (ne e)) (λ _. refl)

  abbrev is_put : BoardStep → ℕ
  is_put (Lane (Freed i (Offered id hash answer))) = 1
  is_put _ = 0

  calm_accepted : (d : BoardStep) → is_put d ≡ 0 → gained (accepted_in l d) ≡ 0
  calm_accepted (Lane (Freed i (Offered id hash answer))) none = absurd (omega arith)
  calm_accepted d none = refl

  calm_dropped : (d : BoardStep) → is_put d ≡ 0 → gained (dropped_in l d) ≡ 0
  calm_dropped (Lane (Freed i (Offered id hash answer))) none = absurd (omega arith)
  calm_dropped d none = refl

  -- what is read of the lane goes up by what a put adds
  module _ (read : LaneLists → ℕ) (kind : BoardStep → Option ℕ)
      (here : (i id : ℕ) (hash : Option ℕ) (x : LaneLists) (cause : Option DropCause) → i ≡ l
      → read (put_by cause x id (bucket_of hash)) ≡ gained
      (kind (Lane (Freed i (Offered id hash (answer_by cause x))))) + read x)
      (other : (i id : ℕ) (hash : Option ℕ) (answer : Put) → i ≢ l
      → gained (kind (Lane (Freed i (Offered id hash answer)))) ≡ 0)
      (pulls : (x : LaneLists) (id : ℕ) → read (lanes.lane_changed (Pulled id) x) ≡ read x)
      (calm : (d : BoardStep) → is_put d ≡ 0 → gained (kind d) ≡ 0) where
    reads : (q : ℕ) (d : BoardStep) (es : Order) → IsLawful about es → MayCome about q es d
        → read (lane_at about (step_by q d ∷ es) l) ≡ gained (kind d) + read (lane_at about es l)
    reads q (Lane (Freed i (Offered id hash answer))) es lawful may =
        let x : LaneLists = lane_at about es l in
        pick i l (after_put x id hash) x (λ (y : LaneLists). read y ≡ gained
        (kind (Lane (Freed i (Offered id hash answer)))) + read x)
        (λ e.
        let same : lane_at about es i ≡ may.0.1.0 =
        (holds about (lanes_of es) (parts about es lawful).0 i q may.0.1.0 may.0.1.1).1 in
        let found : may.0.1.0 ≡ x = sym same ∙ ap (lane_at about es) e in
        let said : put_answer x hash ≡ answer =
        sym (may.0.1.2.2 ∙ ap (λ (y : LaneLists). put_answer y hash) found) in
        subst (λ (a : Put). read (after_put x id hash) ≡ gained
        (kind (Lane (Freed i (Offered id hash a)))) + read x) said
        (here i id hash x (lane_drop_cause x hash) e))
        (λ ne. let none = other i id hash answer ne in omega arith)
    reads q (Lane (Freed i Nothing)) es lawful may =
        let x : LaneLists = lane_at about es l in
        let none = calm (Lane (Freed i Nothing)) refl in
        pick i l x x (λ (y : LaneLists). read y ≡ gained (kind (Lane (Freed i Nothing))) + read x)
        (λ _. omega arith) (λ _. omega arith)
    reads q (Lane (Freed i (Pulled id))) es lawful may =
        let x : LaneLists = lane_at about es l in
        let none = calm (Lane (Freed i (Pulled id))) refl in
        pick i l (lanes.lane_changed (Pulled id) x) x (λ (y : LaneLists). read y ≡ gained
        (kind (Lane (Freed i (Pulled id)))) + read x)
        (λ _. let same = pulls x id in omega arith) (λ _. omega arith)
    reads q d es lawful may = let none = calm d refl in omega arith

  pub accepted_sum : (es : Order) → IsLawful about es
      → length (lane_at about es l).accepted ≡ sum_below (λ q. length (accepted_by l (own_of es q)))
      about.seats
  accepted_sum = is_sum about (accepted_in l) (λ es. length (lane_at about es l).accepted) refl
      (reads (λ x. length x.accepted) (accepted_in l) accepted_put other_accepted
      (λ x id. refl) calm_accepted)

  pub dropped_sum : (es : Order) → IsLawful about es
      → length (lane_at about es l).drops ≡ sum_below (λ q. length (dropped_by l (own_of es q)))
      about.seats
  dropped_sum = is_sum about (dropped_in l) (λ es. length (lane_at about es l).drops) refl
      (reads (λ x. length x.drops) (dropped_in l) dropped_put other_dropped
      (λ x id. refl) calm_dropped)
