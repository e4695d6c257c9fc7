-- The packets of inboxes among the delivered ones of their lanes, by what is known of them.
use Rattle.std.proofs.Common.{ℕ, ◌≡◌, ◌<◌, Bool, true, List, [], Option, Some, None}
use Rattle.std.proofs.Common.{length, refl, ap, ◌∙◌, sym, get_or, subst}
use Rattle.std.specs.Prelude.{nat_le}
use Rattle.std.specs.List.{list_all}
use Rattle.std.specs.Option.{option_and_then, option_map}
use Rattle.std.proofs.lemmas.List.{get_or_default}
use Rattle.std.proofs.lemmas.List.Sums.{AllPass-from_list_all, list_all-from_AllPass}
use Rattle.steer_base.specs.Entries.{place_in}
use Rattle.steer_base.specs.declared.packet.Packet.{Packet}
use Rattle.history.specs.Finding.{is_among, is_in}
use Rattle.history.specs.Known.{IsKnown}
use Rattle.history.specs.Lines.{accepted_place, choice_of}
use Rattle.history.specs.Lists.{lane_at, list_at, no_lane}
use Rattle.history.specs.Places.{AreInOnePlace}
use Rattle.history.specs.Regular.{Regular}
use Rattle.history.specs.declared.history.History.{History}
use Rattle.history.specs.declared.known.Known.{Known}
use Rattle.history.specs.declared.lane_list.LaneList.{LaneList}
use Rattle.history.proofs.BoundLemmas.{in-index, inboxes-apart}
use Rattle.history.proofs.FindingLemmas.{is_in-among}
use Rattle.history.proofs.OwnLemmas.{own-first}
use Rattle.history.proofs.PlaceLemmas.{among-place, within}
use Rattle.history.proofs.RegularLemmas.{arrived-inbox, lane-accepted, some-is}
use Rattle.history.proofs.SamePlaces.{place-index}
use Rattle.good_check.specs.Places.{is_delivered_by, is_delivered_in}
use Rattle.good_check.proofs.WantsLemmas.{within-lists}

-- a packet that is among the delivered ones of a lane, by its place there
among-from : (x n m : ℕ) (xs : List ℕ) → place_in x xs ≡ Some m → nat_le m n ≡ true
    → is_among n x xs ≡ true
among-from x n m xs e l = among-place x n xs ∙ ap (within n) e ∙ l

among-to : (x n m : ℕ) (xs : List ℕ) → place_in x xs ≡ Some m → is_among n x xs ≡ true
    → nat_le m n ≡ true
among-to x n m xs e a = sym (ap (within n) e) ∙ sym (among-place x n xs) ∙ a

-- over the own lane and the places in all lanes
by-own-to : (lanes : List LaneList) (x : ℕ) (own : Option ℕ) (place : Option ℕ)
    → place ≡ option_and_then (λ c. place_in x (lane_at lanes c).accepted) own
    → is_delivered_by lanes own place ≡ true
    → (c : ℕ) × (is_among (lane_at lanes c).delivered x (lane_at lanes c).accepted ≡ true)
by-own-to lanes x None place e t = absurd (cc)
by-own-to lanes x (Some own) None e t = absurd (cc)
by-own-to lanes x (Some own) (Some m) e t = (
  own,
  among-from x (lane_at lanes own).delivered m (lane_at lanes own).accepted (sym e) t,
)

by-own-from : (lanes : List LaneList) (x c m : ℕ) (own : Option ℕ) (place : Option ℕ)
    → place ≡ option_and_then (λ c. place_in x (lane_at lanes c).accepted) own
    → own ≡ Some c
    → place_in x (lane_at lanes c).accepted ≡ Some m
    → is_among (lane_at lanes c).delivered x (lane_at lanes c).accepted ≡ true
    → is_delivered_by lanes own place ≡ true
by-own-from lanes x c m own place e o p a =
    let there : place ≡ Some m =
    e ∙ ap (option_and_then (λ c. place_in x (lane_at lanes c).accepted)) o ∙ p in
    let l : nat_le m (lane_at lanes c).delivered ≡ true =
    among-to x (lane_at lanes c).delivered m (lane_at lanes c).accepted p a in
    ap (λ k. is_delivered_by lanes k place) o ∙ ap (is_delivered_by lanes (Some c)) there ∙ l

module _ (packets : List Packet) (apps : ℕ) (h : History) (regular : Regular packets apps h)
    (known : Known) (is : IsKnown h known) where
  -- the lane of the choice of a packet
  abbrev own_lane : ℕ → Option ℕ
  own_lane x = option_map (λ d. d.lane) (choice_of h x)

  own-place : (x : ℕ) → accepted_place h.lanes x
      ≡ option_and_then (λ c. place_in x (lane_at h.lanes c).accepted) (own_lane x)
  own-place x =
      own-first (λ lane. place_in x lane.accepted) no_lane h.lanes
      (own_lane x) refl
      (λ c s. lane-accepted packets apps h regular c x s)

  known-as : (x : ℕ) → x < length h.arrivals
      → is_delivered_in h.lanes known x
      ≡ is_delivered_by h.lanes (own_lane x) (accepted_place h.lanes x)
  known-as x l =
      ap (λ o. is_delivered_by h.lanes o (get_or known.accepted x None)) (is.lanes.slot x l)
      ∙ ap (is_delivered_by h.lanes (own_lane x)) (is.accepted.slot x l)

  abbrev test : ℕ → Bool
  test x = is_delivered_in h.lanes known x

  one-to : (x : ℕ) → x < length h.arrivals → test x ≡ true
      → (c : ℕ) × (is_among (lane_at h.lanes c).delivered x (lane_at h.lanes c).accepted ≡ true)
  one-to x l t =
      by-own-to h.lanes x (own_lane x) (accepted_place h.lanes x) (own-place x)
      (sym (known-as x l) ∙ t)

  one-from : (x c : ℕ) → x < length h.arrivals
      → is_among (lane_at h.lanes c).delivered x (lane_at h.lanes c).accepted ≡ true
      → test x ≡ true
  one-from x c l a =
      let s : is_in x (lane_at h.lanes c).accepted ≡ true =
      is_in-among (lane_at h.lanes c).delivered x (lane_at h.lanes c).accepted a in
      let p = some-is (place_in x (lane_at h.lanes c).accepted) s in
      known-as x l
      ∙ by-own-from h.lanes x c p.0 (own_lane x) (accepted_place h.lanes x) (own-place x)
      (lane-accepted packets apps h regular c x s) p.1 a

  pub places-to : list_all (list_all test) h.inboxes ≡ true → AreInOnePlace h
  places-to all = record {
    lanes = regular.steered.once;
    inboxes = inboxes-apart packets apps h regular.delivered;
    delivered = λ a x e.
        let w = place-index x (list_at h.inboxes a) e in
        let inbox : list_all test (list_at h.inboxes a) ≡ true =
        AllPass-from_list_all (list_all test) h.inboxes all a []
        (within-lists h.inboxes a w.0 w.1) in
        one-to x (arrived-inbox packets apps h regular a x e)
        (sym (ap test w.2) ∙ AllPass-from_list_all test (list_at h.inboxes a) inbox w.0 0 w.1);
  }

  pub places-from : AreInOnePlace h → list_all (list_all test) h.inboxes ≡ true
  places-from r =
      list_all-from_AllPass (list_all test) h.inboxes (λ a d la.
      subst (λ xs. list_all test xs ≡ true) (get_or_default h.inboxes a [] d la)
      (list_all-from_AllPass test (list_at h.inboxes a) (λ j e lj.
      subst (λ x. test x ≡ true) (get_or_default (list_at h.inboxes a) j 0 e lj)
      (let x = get_or (list_at h.inboxes a) j 0 in
      let s : is_in x (list_at h.inboxes a) ≡ true = in-index (list_at h.inboxes a) j lj in
      let w = r.delivered a x s in
      one-from x w.0 (arrived-inbox packets apps h regular a x s) w.1))))
