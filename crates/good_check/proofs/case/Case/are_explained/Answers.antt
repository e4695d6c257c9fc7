use Rattle.std.proofs.Common.{◌≡◌, ◌<◌, ◌≤◌, ◌+◌, ◌-◌, ◌++◌, ◌∷◌, ◌∙◌, [], Some, ap, arith}
use Rattle.std.proofs.Common.{false}
use Rattle.std.proofs.Common.{get_or, inl, inr, length, length-append, refl, slice_get, subst, sym}
use Rattle.std.proofs.Common.{take, true}
use Rattle.std.proofs.lemmas.Bool.{cases_lt}
use Rattle.std.proofs.lemmas.Option.{get_or_from_slice_get, slice_get_within}
use Rattle.steer_base.specs.Drops.{bucket_of, drop_cause, offers_of}
use Rattle.steer_base.specs.Sets.{has}
use Rattle.backlog.specs.Offers.{AreOffers, IsExplained, buckets_of}
use Rattle.history.proofs.SamePlaces.{some_same}
use Rattle.steer_model.specs.State.Setup.{packet_hash}
use Rattle.good_check.specs.Drops.{limited_lane, offered}
use Rattle.good_check.proofs.DropsLemmas.{offered-dropped, same-place, taken-count}
use Rattle.good_check.proofs.case.Case.are_explained.Goals as goal

pub returns-then-not-is_explained-clause-no : goal.returns-then-not-is_explained-clause-no
returns-then-not-is_explained-clause-no c = λ all.
    let case = c.args.self.now in
    let hash = packet_hash case.given.now in
    let limited = has case.plan.now.limited c.args.cpu in
    let lane = c.args.lane.now in
    let v = c.loop-fallen.invariant in
    let k = c.loop-fallen.fallen-index in
    let d = c.fallen-item.result in
    let that : slice_get lane.drops k ≡ Some d =
    same-place c.as_slice-fallen-items.result.now lane.drops k d c.as_slice-fallen-items.ensures
    c.loop-fallen-test.true c.fallen-item.is in
    let a = c.note_accepted.ensures.offers (take k lane.drops)
    (subst (λ xs. AreOffers hash (offered (take c.loop-fallen.noted xs) (take k lane.drops)
    c.loop-fallen.offers.items)) (sym c.as_slice.ensures) v.offers) in
    let buckets : c.note_accepted.new.offers.items
    ≡ buckets_of hash (offers_of (take d.accepted lane.accepted) (take k lane.drops)) =
    a.buckets ∙ ap (λ xs. buckets_of hash (offers_of (take d.accepted xs) (take k lane.drops)))
    c.as_slice.ensures in
    let t : c.is_explained.result ≡ true =
    c.is_explained.ensures.no (ap (λ o. drop_cause limited case.plan.now.backlog
    (d.accepted - d.pulled) o (hash d.id)) buckets ∙ all k d that) in
    let f : c.is_explained.result ≡ false = c.if-not-is_explained.true in cc

pub loop-fallen-preserved : goal.loop-fallen-preserved
loop-fallen-preserved c =
    let case = c.args.self.now in
    let hash = packet_hash case.given.now in
    let limited = has case.plan.now.limited c.args.cpu in
    let lane = c.args.lane.now in
    let v = c.loop-fallen.invariant in
    let k = c.loop-fallen.fallen-index in
    let d = c.fallen-item.result in
    let that : slice_get lane.drops k ≡ Some d =
    same-place c.as_slice-fallen-items.result.now lane.drops k d c.as_slice-fallen-items.ensures
    c.loop-fallen-test.true c.fallen-item.is in
    let here : k < length lane.drops = slice_get_within lane.drops k d that in
    let own : get_or lane.drops k d ≡ d = get_or_from_slice_get lane.drops k d d that in
    let within : d.accepted ≤ length lane.accepted =
    subst (λ e. e.accepted ≤ length lane.accepted) own (c.requires.rise.accepted k d here) in
    let more : c.loop-fallen.noted ≤ d.accepted = v.next d that in
    let a : AreOffers hash (offered (take d.accepted lane.accepted) (take k lane.drops)
    c.note_accepted.new.offers.items) =
    subst (λ xs. AreOffers hash (offered (take d.accepted xs) (take k lane.drops)
    c.note_accepted.new.offers.items)) c.as_slice.ensures
    (c.note_accepted.ensures.offers (take k lane.drops)
    (subst (λ xs. AreOffers hash (offered (take c.loop-fallen.noted xs) (take k lane.drops)
    c.loop-fallen.offers.items)) (sym c.as_slice.ensures) v.offers)) in
    let items : c.is_explained.new.offers.items
    ≡ c.note_accepted.new.offers.items ++ bucket_of (hash d.id) ∷ [] =
    ap (λ j. j.items) c.is_explained.ensures.offers in
    let count : length c.is_explained.new.offers.items
    ≡ length c.note_accepted.new.offers.items + 1 =
    ap length items
    ∙ length-append c.note_accepted.new.offers.items (bucket_of (hash d.id) ∷ []) in
    let done : IsExplained hash (limited_lane case.plan.now.backlog limited lane) k d =
    sym (ap (λ o. drop_cause limited case.plan.now.backlog (d.accepted - d.pulled) o (hash d.id))
    a.buckets) ∙ c.is_explained.ensures.yes c.if-not-is_explained.false in
    record {
      noted = within;
      offers = subst (λ o. AreOffers hash (offered (take d.accepted lane.accepted)
          (take (k + 1) lane.drops) o)) (sym items)
          (offered-dropped hash lane.accepted d.accepted lane.drops k (k + 1) d
          c.note_accepted.new.offers.items here refl own
          (taken-count d.accepted lane.accepted within) a);
      count = omega (arith, count, c.note_accepted.ensures.count, v.count, more);
      room = ap (λ j. j.room) c.is_explained.ensures.offers ∙ c.note_accepted.ensures.room ∙ v.room;
      next = λ e s. (c.requires.rise.rise k d e that s).0;
      explained = λ j e l s. elim (cases_lt j k) [
        | inl less ↦ v.explained j e less s
        | inr not ↦
            let same : j ≡ k = omega (arith, l, not) in
            let at : slice_get lane.drops k ≡ Some e =
            ap (λ n. slice_get lane.drops n) (sym same) ∙ s in
            let one : d ≡ e = some_same d e (sym that ∙ at) in
            subst (λ n. IsExplained hash (limited_lane case.plan.now.backlog limited lane) n e)
            (sym same)
            (subst (λ x. IsExplained hash (limited_lane case.plan.now.backlog limited lane) k x) one
            done)
      ];
    }

pub returns-clause-yes : goal.returns-clause-yes
returns-clause-yes c = λ t k d s.
    let l = slice_get_within c.args.lane.now.drops k d s in
    c.loop-fallen.invariant.explained k d
    (omega (arith, l, c.loop-fallen-test.false, ap length c.as_slice-fallen-items.ensures)) s
