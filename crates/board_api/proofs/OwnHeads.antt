-- The laws of heads and of lanes that were found empty, by own steps.
use Rattle.hop_rule.specs.Boards.{retired}
use Rattle.hop_rule.specs.Deliveries.{Delivery}
use Rattle.hop_rule.specs.Emptied.{WasEmptied}
use Rattle.hop_rule.specs.Lanes as lanes
use Rattle.hop_rule.specs.Moments.{IsStep}
use Rattle.hop_rule.specs.PutLaws as put
use Rattle.hop_rule.specs.SettingLaws.{put_visit}
use Rattle.hop_rule.specs.Sizes.{closer}
use Rattle.hop_rule.specs.declared.step.BoardStep.TheVariants.{Weighed, Counted}
use Rattle.hop_rule.specs.declared.step.GateStep.TheVariants.{Opened, Shut}
use Rattle.hop_rule.proofs.Boards.{retired_later}
use Rattle.hop_rule.proofs.EarlyFirst.{emptied_lanes_stand_first, heads_are_below_tails}
use Rattle.hop_rule.proofs.Heads.{in_turn, loaded_heads_are_passed, loaded_heads_are_retires}
use Rattle.hop_rule.proofs.Moments.{one-step}
use Rattle.hop_rule.proofs.Numbers.{none_between}
use Rattle.hop_rule.proofs.Tails.{bit-small}
use Rattle.board_api.specs.Laws.Heads.{EmptiedLanesStandFirst, FindsEmpty}
use Rattle.board_api.specs.Laws.Heads.{HeadsAreBelowTails, HeadsArePassed, HeadsRise}
use Rattle.board_api.specs.OwnSteps.{visit_before}
use Rattle.board_api.specs.Laws.Puts.{WasPut}
use Rattle.board_api.proofs.Names.{◌≡◌, inl, inr, ℕ, suc, ◌+◌, ◌<◌, ◌≤◌, List, length, sym, refl}
use Rattle.board_api.proofs.Names.{ap, ◌∙◌, subst, arith, cases_eq, StepBy, LaneList, IsLawful}
use Rattle.board_api.proofs.Names.{gate_steps, lanes_of, delivered_from, visit_number, nth_step}
use Rattle.board_api.proofs.Names.{past, FitSizes, puller, BoardSizes, BoardStep, Gate, step_lawful}
use Rattle.board_api.proofs.Names.{some-is, lists_of, Has, delivered_by, put_step, BoardLists}
use Rattle.board_api.proofs.Left.{lane_is}
use Rattle.board_api.proofs.OwnPuts.{order_put}
use Rattle.board_api.proofs.OwnTimes.{moments, own, rise, step_is, when}
use Rattle.board_api.proofs.Owners.{given_own}

module _ (about : BoardSizes) (order : List (StepBy BoardStep))
    (lawful : IsLawful about order) where
  abbrev lists : BoardLists
  lists = lists_of about order

  -- ---- heads

  within : (q k l word : ℕ) → Has (own order q) k (Weighed l word) → l < about.lanes
  within q k l word does =
      (step_lawful about order (when order q k) q (Weighed l word) lawful
      (step_is order q k (Weighed l word) does)).1.0

  head_is : (q k l word : ℕ) → Has (own order q) k (Weighed l word)
      → (word ≡ about.start + retired about (past (when order q k) order) l)
      × (retired about (past (when order q k) order) l ≤ retired about order l)
  head_is q k l word does =
      loaded_heads_are_retires about order lawful (when order q k) q l word
      (step_is order q k (Weighed l word) does)

  pub heads_rise : HeadsRise about (own order) lists
  heads_rise =
      record {
        rise = λ q j k l before word less loads loads'. (
            let up = rise order q j k (Weighed l word) less loads' in
            let more = retired_later about order (when order q j) (when order q k) l
            (omega arith) in
            let a = (head_is q j l before loads).0 in
            let b = (head_is q k l word loads').0 in omega arith);
        from_start = λ q k l word loads. (let a = (head_is q k l word loads).0 in omega arith);
        reached = λ q k l word loads. (
            let a = (head_is q k l word loads).0 in
            let b = (head_is q k l word loads).1 in
            let c = ap (λ (y : LaneList). y.retired)
            (lane_is about order l (within q k l word loads)) in omega arith);
      }

  pub heads_are_below : HeadsAreBelowTails about (own order) lists
  heads_are_below q j k l head tail less loads counts =
      let t =
      heads_are_below_tails about order lawful (when order q j) (when order q k) q q l head tail
      (rise order q j k (Counted l tail) less counts)
      (step_is order q j (Weighed l head) loads) (step_is order q k (Counted l tail) counts) in
      let c = ap (λ (y : LaneList). length y.accepted)
      (lane_is about order l (within q j l head loads)) in
      let b = t.1 in
      (t.0, omega arith)

  gifts : (l : ℕ) → delivered_from l (lanes_of order) ≡ delivered_by l (own order (puller about l))
  gifts l = given_own about l order lawful

  pub heads_are_passed : HeadsArePassed about (own order) lists
  heads_are_passed q k l count loads =
      let word : ℕ = about.start + count in
      let is = step_is order q k (Weighed l word) loads in
      let a = (head_is q k l word loads).0 in
      let b = (head_is q k l word loads).1 in
      let c = (in_turn about order lawful l).of_delivered in
      let same = ap length (gifts l) in
      record {
        delivered = omega arith;
        below = λ i to j id g late u less seat after at at' out. (
            let t =
            loaded_heads_are_passed about order lawful (when order q k) q l word count i is refl
            less in
            let one : t.0 ≡ g =
            some-is t.0 g (sym t.1 ∙ (ap (λ gs. nth_step gs i) (gifts l) ∙ at)) in
            let v = order_put about order lawful to j id u in
            let does : Has (own order q) u.step (put_step to id u.hash u.answer) =
            subst (λ (z : ℕ). Has (own order z) u.step (put_step to id u.hash u.answer)) seat
            u.does in
            let up : when order q k < when order u.seat u.step =
            subst (λ (z : ℕ). when order q k < when order z u.step) (sym seat)
            (rise order q k u.step (put_step to id u.hash u.answer) after does) in
            subst (λ (z : Delivery). z.place < late.place) one
            (t.2 v.moment u.seat to id j u.hash u.answer late up v.is v.found
            (ap (λ gs. nth_step gs j) (gifts to) ∙ at')
            (ap (λ (z : Delivery). z.to) one ∙ out)));
      }

  -- ---- lanes that were found empty

  abbrev C : ℕ
  C = closer about

  abbrev is_load : BoardStep → ℕ
  is_load (Counted i w) = 1
  is_load _ = 0

  abbrev was_emptied : (shut weighed counted l : ℕ)
      → (e : FindsEmpty about (own order) lists shut weighed counted l)
      → WasEmptied about order (suc (when order C counted)) l
  was_emptied shut weighed counted l e =
      let up = rise order C shut weighed (Weighed l e.head) e.after_shut e.weighs in
      let more = rise order C weighed counted (Counted l e.tail) e.after_weighed e.counts in
      record {
        shut = when order C shut;
        weighed = when order C weighed;
        counted = when order C counted;
        word = e.word;
        head = e.head;
        tail = e.tail;
        after_shut = up;
        after_weighed = more;
        before = omega arith;
        shuts = step_is order C shut (Gate (Shut e.word)) e.shuts;
        weighs = step_is order C weighed (Weighed l e.head) e.weighs;
        counts = step_is order C counted (Counted l e.tail) e.counts;
        equal = e.equal;
        stays = λ m from to opens. (
            elim (cases_eq m (when order C counted)) [
              | inl is ↦
                  (let z = (one-step order (when order C counted) C C (Gate Opened)
                  (Counted l e.tail)
                  (subst (λ (n : ℕ). IsStep order n C (Gate Opened)) is opens)
                  (step_is order C counted (Counted l e.tail) e.counts)).1 in
                  let k = ap is_load z in absurd (omega arith))
              | inr ne ↦
                  none_between about order C shut counted m (Gate (Shut e.word)) (Counted l e.tail)
                  (Gate Opened) e.shuts e.counts e.stays from (omega arith) opens
            ]);
      }

  -- the number of a put's visit by its own list
  number_is : (l j id : ℕ) (u : WasPut about (own order) lists l j id)
      → put_visit about order (when order u.seat u.step) u.seat
      ≡ visit_before (own order u.seat) u.step
  number_is l j id u =
      ap (λ ds. visit_number (gate_steps ds))
      (sym ((moments order u.seat).before u.step (put_step l id u.hash u.answer) u.does))

  pub emptied_stand_first : FitSizes about → EmptiedLanesStandFirst about (own order) lists
  emptied_stand_first fit shut weighed counted l h e tail =
      let w = was_emptied shut weighed counted l e in
      let m : ℕ = when order C counted in
      let t = emptied_lanes_stand_first about order fit lawful (suc m) l w in
      let word = (step_lawful about order m C (Counted l e.tail) lawful
      (step_is order C counted (Counted l e.tail) e.counts)).1.1 in
      let small = bit-small (lanes.holder l (lanes_of (past m order))) in
      let count : length (put.lane_then about order m l).accepted ≡ h = omega arith in
      let same = ap length (gifts l) in
      let all = t.delivered in
      record {
        early = λ j id u. (
            let v = order_put about order lawful l j id u in
            let f = t.early j id v in
            let n = number_is l j id u in (
              λ below. (let le = f.0 (omega arith) in omega arith),
              λ le. (let below = f.1 (omega arith) in omega arith),
            ));
        delivered = omega arith;
        below = λ i to j id g late u less later at at' out. (
            let v = order_put about order lawful to j id u in
            let n = number_is to j id u in
            t.first i to j id g late v (omega arith) (ap (λ gs. nth_step gs i) (gifts l) ∙ at)
            (omega arith) (ap (λ gs. nth_step gs j) (gifts to) ∙ at') out);
      }
