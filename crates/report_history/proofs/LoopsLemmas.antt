-- Lists that are built item by item.
use Rattle.std.proofs.Common.{ℕ, ◌+◌, ◌<◌, ◌≡◌, List, [], ◌∷◌, ◌++◌, length, take, ap}
use Rattle.std.proofs.Common.{◌∙◌, sym, get_or, arith, subst}
use Rattle.std.proofs.lemmas.List.{ext_get_or, get_or-map, length-map, length_push, take_more}
use Rattle.history.specs.Lists.{lane_at, list_at, no_lane}
use Rattle.history.specs.declared.lane_list.LaneList.{LaneList}
use Rattle.report_reader.specs.Parts.{lane_sums}
use Rattle.report_reader.specs.declared.sums.LaneSums.{LaneSums}
use Rattle.report_history.specs.Lists.{AreLanes}

-- one item more
pub one-more : {A : Type 0} (all built new : List A) (n : ℕ) (x d : A) → n < length all
    → built ≡ take n all → new ≡ built ++ x ∷ [] → x ≡ get_or all n d → new ≡ take (n + 1) all
one-more all built new n x d l b e is =
    e ∙ ap (λ xs. xs ++ x ∷ []) b ∙ ap (λ y. take n all ++ y ∷ []) is ∙ sym (take_more all n d l)

pub one-longer : {A : Type 0} (built new : List A) (x : A) (n : ℕ) → new ≡ built ++ x ∷ []
    → length built ≡ n → length new ≡ n + 1
one-longer built new x n e l =
    let f : length new ≡ length built + 1 = ap length e ∙ length_push built x in omega (arith, f, l)

-- lists that are the same one by one
pub same-by-number : (built lists : List (List ℕ)) (count : ℕ) → length built ≡ count
    → length lists ≡ count
    → ((n : ℕ) → n < length lists → list_at built n ≡ list_at lists n) → built ≡ lists
same-by-number built lists count b l same =
    ext_get_or [] built lists (b ∙ sym l) (λ i k. same i (omega (arith, k, b, l)))

-- lanes with these sums, one by one
module _ (IsLane : ℕ → LaneSums → LaneList → Type 0) (sums : List LaneSums) (lanes : List LaneList)
    (are : AreLanes IsLane sums lanes) where
  pub as-many : length lanes ≡ length sums
  as-many = sym (length-map lanes lane_sums) ∙ ap length are.of_sums

  pub lane-is : (c : ℕ) (d : LaneSums) → c < length sums
      → IsLane c (get_or sums c d) (lane_at lanes c)
  lane-is c d l =
      let n : c < length lanes = omega (arith, l, as-many) in
      let same : lane_sums (lane_at lanes c) ≡ get_or sums c d =
      sym (get_or-map lane_sums lanes c no_lane d n) ∙ ap (λ xs. get_or xs c d) are.of_sums in
      subst (λ s. IsLane c s (lane_at lanes c)) same (are.each c n)

  pub one-lane : (c : ℕ) (d : LaneSums) (built new : List LaneList) (x : LaneList)
      → c < length sums → built ≡ take c lanes → new ≡ built ++ x ∷ []
      → ((lane : LaneList) → IsLane c (get_or sums c d) lane → x ≡ lane)
      → new ≡ take (c + 1) lanes
  one-lane c d built new x l b push is =
      one-more lanes built new c x no_lane (omega (arith, l, as-many)) b push
      (is (lane_at lanes c) (lane-is c d l))

-- a lane by its lists and its sums
pub lane-same : (l m : LaneList) (s : LaneSums) → l.accepted ≡ m.accepted → l.drops ≡ m.drops
    → l.pulled ≡ s.pulled → l.delivered ≡ s.delivered → l.retired ≡ s.retired
    → lane_sums m ≡ s → l ≡ m
lane-same l m s a d pulled delivered retired e =
    let p : l.pulled ≡ m.pulled = pulled ∙ sym (ap (λ q. q.pulled) e) in
    let v : l.delivered ≡ m.delivered = delivered ∙ sym (ap (λ q. q.delivered) e) in
    let r : l.retired ≡ m.retired = retired ∙ sym (ap (λ q. q.retired) e) in
    λ w. record { accepted = a w; drops = d w; pulled = p w; delivered = v w; retired = r w }
