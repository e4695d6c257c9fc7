-- What a board leaves is what its order of steps leaves.
use Rattle.std.specs.List.{Contains, range_with_len}
use Rattle.linearization.specs.Closings.{Ends}
use Rattle.linearization.specs.Seats.{HasPart, IsByOne, numbers_of}
use Rattle.linearization.proofs.ViewLemmas.{steps_of_other}
use Rattle.hop_rule.specs.Boards.{out, retired}
use Rattle.hop_rule.specs.Deliveries.{delivered_from}
use Rattle.hop_rule.specs.Lanes as lanes
use Rattle.hop_rule.proofs.Closings.{held_is, out_held_is}
use Rattle.hop_rule.proofs.Deliveries.{facts, gone, waiting}
use Rattle.hop_rule.proofs.Lanes.{counted}
use Rattle.hop_rule.proofs.Lists.{none-some}
use Rattle.hop_rule.proofs.Owns.{lanes_own}
use Rattle.board_api.specs.Closings.Closings.{HasEnded, IsAtRest}
use Rattle.board_api.specs.Closings.Finals.{lane_list}
use Rattle.board_api.specs.Seats.{ordered_seat}
use Rattle.board_api.specs.declared.held_lane.LaneId.TheVariants as id
use Rattle.board_api.specs.declared.lists.BoardLists.{BoardLists}
use Rattle.hop_board.specs.Left.{AllLie, LiesIn, lists_left, middle_left, out_left}
use Rattle.hop_board.proofs.Names.{◌≡◌, ◌≢◌, ℕ, zero, suc, ◌+◌, ◌<◌, List, [], ◌∷◌, All, Some, None}
use Rattle.hop_board.proofs.Names.{map, length, slice_index_or, sym, refl, ap, ◌∙◌, subst, arith}
use Rattle.hop_board.proofs.Names.{All-head, All-tail, dite, some, ℕ_discrete, StepBy, steps_of}
use Rattle.hop_board.proofs.Names.{SeatView, BoardSizes, BoardStep, LaneStep, IsLawful, lane_at}
use Rattle.hop_board.proofs.Names.{lanes_of, FitSizes, puller, parts, FitsLane, BoardSeatView}
use Rattle.hop_board.proofs.Names.{LaneId, HasBoard, InSlot, content, home_of}
use Rattle.hop_board.proofs.Keeps.{holder_of, home_is}
use Rattle.hop_board.proofs.Taking.{at_or}

-- ---- lists

map-same : {A : Type 0} (f g : ℕ → A) (a n : ℕ) → ((l : ℕ) → l < a + n → f l ≡ g l)
    → map f (range_with_len a n) ≡ map g (range_with_len a n)
map-same f g a zero same = refl
map-same f g a (suc n) same =
    λ i. same a (omega arith) i ∷ map-same f g (a + 1) n (λ l less. same l (omega arith)) i

-- ---- every number's steps are those of a seat at rest, or none

none_of : (seats : List (SeatView BoardStep)) (q : ℕ) (order : List (StepBy BoardStep))
    → All (IsByOne seats) order → (Contains (numbers_of seats) q → ⊥) → steps_of q order ≡ []
none_of seats q [] all apart = refl
none_of seats q (e ∷ es) all apart =
    steps_of_other q e.by e.step es
    (λ is. apart (subst (Contains (numbers_of seats)) is (All-head (IsByOne seats) e es all)))
    ∙ none_of seats q es (All-tail (IsByOne seats) e es all) apart

elsewhere : (x q : ℕ) (xs : List ℕ) → x ≢ q → (Contains xs q → ⊥) → Contains (x ∷ xs) q → ⊥
elsewhere x q xs ne apart (zero, l, at) = ne at
elsewhere x q xs ne apart (suc k, l, at) = apart (k, omega arith, at)

module _ (about : BoardSizes) where
  abbrev Rests : BoardSeatView → Type 0
  Rests s = IsAtRest about s.steps

  fresh_rests : IsAtRest about []
  fresh_rests = record {
    visit = refl;
    lanes = λ l less. refl;
    hands = λ l less. refl;
    outs = λ o less. refl;
  }

  rests_as : (order : List (StepBy BoardStep)) (q : ℕ) (seats : List BoardSeatView)
      → All (HasPart order) (map ordered_seat seats) → All Rests seats
      → ((Contains (numbers_of (map ordered_seat seats)) q → ⊥) → steps_of q order ≡ [])
      → IsAtRest about (steps_of q order)
  rests_as order q [] each rest none =
      subst (IsAtRest about) (sym (none (λ h. let l = h.1 in absurd (omega arith)))) fresh_rests
  rests_as order q (s ∷ seats) each rest none =
      dite (ℕ_discrete s.number q)
      (λ e. subst (IsAtRest about)
      (All-head (HasPart order) (ordered_seat s) (map ordered_seat seats) each
      ∙ ap (λ n. steps_of n order) e)
      (All-head Rests s seats rest))
      (λ ne. rests_as order q seats
      (All-tail (HasPart order) (ordered_seat s) (map ordered_seat seats) each)
      (All-tail Rests s seats rest)
      (λ apart. none (elsewhere s.number q (numbers_of (map ordered_seat seats)) ne apart)))

  -- ---- the end of a table

  module _ (seats : List BoardSeatView) (rest : All Rests seats) (words : List ℕ)
      (items : List InSlot)
      (e : Ends about.seats (HasBoard about) (map ordered_seat seats) words items) where
    abbrev order : List (StepBy BoardStep)
    order = e.order

    abbrev ls : List (StepBy LaneStep)
    ls = lanes_of order

    lawful : IsLawful about order
    lawful = e.lawfully.lawful

    at_rest : (q : ℕ) → IsAtRest about (steps_of q order)
    at_rest q = rests_as order q seats e.parts.each rest
        (none_of (map ordered_seat seats) q order e.parts.whole)

    free_as : (x : LaneId) (h : ℕ) → FitsLane about x → holder_of ls x ≡ h → h ≡ 0
    free_as x zero fits is = refl
    free_as (id.Middle l) (suc p) fits is =
        none-some (lanes.lane about l ls)
        (sym ((at_rest p).lanes l fits)
        ∙ (ap (lanes.holding l) (sym (lanes_own p order)) ∙ held_is about ls
        (parts about order lawful).0 l p is))
    free_as (id.Out o) (suc p) fits is =
        none-some (lanes.out_content about o ls)
        (sym ((at_rest p).outs o fits)
        ∙ (ap (lanes.out_holding o) (sym (lanes_own p order)) ∙ out_held_is about ls
        (parts about order lawful).0 o p is))

    item : (x : LaneId) → FitsLane about x → slice_index_or items (home_of about x) None ≡ Some
        (content about ls x)
    item x fits =
        at_or items (home_of about x) (Some (content about ls x)) None
        (e.at_home (home_of about x) (Some (content about ls x))
        (e.lawfully.homes_are x fits
        ∙ ap some (home_is about x order fits lawful (free_as x (holder_of ls x) fits refl))))

    pub all_lie : AllLie about items
    all_lie (id.Middle l) fits = subst (LiesIn about (id.Middle l)) (sym (item (id.Middle l) fits))
        (counted about ls (parts about order lawful).0 l).2
    all_lie (id.Out o) fits = subst (LiesIn about (id.Out o)) (sym (item (id.Out o) fits)) tt

    middle_is : (l : ℕ) → l < about.lanes
        → middle_left (slice_index_or items (home_of about (id.Middle l)) None)
        ≡ lane_list about order l
    middle_is l less =
        let p : ℕ = puller about l in
        let f = facts about ls (parts about order lawful).0 l in
        let hand : lanes.phase l (steps_of p ls) ≡ lanes.idle =
        ap (lanes.phase l) (lanes_own p order) ∙ (at_rest p).hands l less in
        let k : ℕ = (lane_at about order l).pulled in
        let pulled_ : k ≡ length (delivered_from l ls) + waiting about lanes.idle =
        f.0 ∙ ap (λ o. length (delivered_from l ls) + waiting about o) hand in
        let given_ : length (delivered_from l ls) ≡ retired about order l + gone about lanes.idle =
        f.1 ∙ ap (λ o. retired about order l + gone about o) hand in
        let delivered_is : k ≡ length (delivered_from l ls) = omega arith in
        let retired_is : k ≡ retired about order l = omega arith in
        ap middle_left (item (id.Middle l) less)
        ∙ (λ i. record {
          accepted = (lane_at about order l).accepted;
          drops = (lane_at about order l).drops;
          pulled = k;
          delivered = delivered_is i;
          retired = retired_is i;
        })

    pub ended : FitSizes about → (lists : BoardLists) → lists ≡ lists_left about items
        → HasEnded about seats lists
    ended fit lists is = record {
      order = order;
      sizes = fit;
      lawful = lawful;
      parts = e.parts;
      leaves = is
          ∙ (λ i. record {
            lanes = map-same
                (λ l. middle_left (slice_index_or items (home_of about (id.Middle l)) None))
                (lane_list about order) 0 about.lanes
                (λ l less. middle_is l (omega arith)) i;
            outs = map-same (λ o. out_left (slice_index_or items (home_of about (id.Out o)) None))
                (out about order) 0 about.outs
                (λ o less. ap out_left (item (id.Out o) (omega arith))) i;
          });
    }
