-- The deliveries, pulls and retires of a lane are those of the one seat that serves it.
use Rattle.std.specs.List.{cons_option, filter_map}
use Rattle.linearization.proofs.ViewLemmas.{steps_of_own}
use Rattle.hop_rule.specs.Boards.{retired}
use Rattle.hop_rule.specs.Deliveries.{delivery}
use Rattle.hop_rule.specs.Lanes.{lane_changed}
use Rattle.hop_rule.specs.declared.step.LaneStep.TheVariants.{Freed, Retired}
use Rattle.hop_rule.proofs.Boards.{parts}
use Rattle.hop_rule.proofs.Cases.{pick}
use Rattle.hop_rule.proofs.Deliveries.{lanes_grow}
use Rattle.hop_rule.proofs.Lanes.{holds}
use Rattle.board_api.specs.OwnSteps.{delivered_in, pulled_by, pulled_in, retired_by, retired_in}
use Rattle.board_api.proofs.Names.{◌≡◌, ◌≢◌, ℕ, ◌+◌, List, [], ◌∷◌, length, Option, Some, None, sym}
use Rattle.board_api.proofs.Names.{refl, ap, ◌∙◌, subst, arith, slice_get, dite, ℕ_discrete}
use Rattle.board_api.proofs.Names.{bucket_of, lane_drop_cause, LaneLists, DropCause, after_put}
use Rattle.board_api.proofs.Names.{put_by, StepBy, step_by, if_same, if_other, steps_of_other}
use Rattle.board_api.proofs.Names.{IsLawful, MayCome, lane_at, lanes_of, delivered_from, nth_step}
use Rattle.board_api.proofs.Names.{own_of, puller, BoardSizes, BoardStep, Lane, Nothing, Offered}
use Rattle.board_api.proofs.Names.{Pulled, Given, none-some, some-is, delivered_by}

abbrev Order : Type 0
Order = List (StepBy BoardStep)

module _ (about : BoardSizes) (l : ℕ) where
  abbrev P : ℕ
  P = puller about l

  -- what only the puller adds to a list stands in its own list
  module _ {X : Type 0} (kind : BoardStep → Option X) (all : Order → List X) (none : all [] ≡ [])
      (adds : (q : ℕ) (d : BoardStep) (es : Order) → MayCome about q es d
      → all (step_by q d ∷ es) ≡ cons_option (kind d) (all es))
      (alone : (q : ℕ) (d : BoardStep) (es : Order) → MayCome about q es d → q ≢ P → kind d ≡ None)
    where
      pub is_own : (es : Order) → IsLawful about es → all es ≡ filter_map kind (own_of es P)
      is_own [] lawful = none
      is_own (e ∷ es) lawful =
          let before = is_own es lawful.2 in
          adds e.by e.step es lawful.1 ∙ dite (ℕ_discrete e.by P)
          (λ mine.
          ap (cons_option (kind e.step)) before
          ∙ sym (ap (filter_map kind) (steps_of_own P e.by e.step es mine)))
          (λ other.
          ap (λ o. cons_option o (all es)) (alone e.by e.step es lawful.1 other)
          ∙ (before ∙ sym (ap (filter_map kind) (steps_of_other P e.by e.step es other))))

  -- ---- deliveries

  given_adds : (q : ℕ) (d : BoardStep) (es : Order) → MayCome about q es d
      → delivered_from l (lanes_of (step_by q d ∷ es))
      ≡ cons_option (delivered_in l d) (delivered_from l (lanes_of es))
  given_adds q (Lane (Given o from id place)) es may =
      pick from l (delivery o id place ∷ delivered_from l (lanes_of es))
      (delivered_from l (lanes_of es))
      (λ gs. gs ≡ cons_option (delivered_in l (Lane (Given o from id place)))
      (delivered_from l (lanes_of es)))
      (λ e. pick from l (Some (delivery o id place)) None
      (λ z. delivery o id place ∷ delivered_from l (lanes_of es) ≡ cons_option z
      (delivered_from l (lanes_of es)))
      (λ _. refl) (λ ne. absurd (ne e)))
      (λ ne. pick from l (Some (delivery o id place)) None
      (λ z. delivered_from l (lanes_of es) ≡ cons_option z (delivered_from l (lanes_of es)))
      (λ e. absurd (ne e)) (λ _. refl))
  given_adds q d es may = refl

  given_alone : (q : ℕ) (d : BoardStep) (es : Order) → MayCome about q es d → q ≢ P
      → delivered_in l d ≡ None
  given_alone q (Lane (Given o from id place)) es may other =
      pick from l (Some (delivery o id place)) None (λ z. z ≡ None)
      (λ e. absurd (other (sym may.0.2.4 ∙ ap (puller about) e))) (λ _. refl)
  given_alone q d es may other = refl

  pub given_own : (es : Order) → IsLawful about es
      → delivered_from l (lanes_of es) ≡ delivered_by l (own_of es P)
  given_own = is_own (delivered_in l) (λ es. delivered_from l (lanes_of es)) refl given_adds
      given_alone

-- ---- steps of one kind, by the whole order

abbrev pub all_of : {X : Type 0} → (BoardStep → Option X) → Order → List X
all_of kind es = filter_map (λ e. kind e.step) es

-- each of a list that has the newest first is the one at its place of another list
abbrev pub AreFirst : List ℕ → List ℕ → Type 0
AreFirst [] ys = Unit {0}
AreFirst (x ∷ xs) ys = (slice_get ys (length xs) ≡ Some x) × AreFirst xs ys

first-more : (xs ys zs : List ℕ)
    → ((i x : ℕ) → slice_get ys i ≡ Some x → slice_get zs i ≡ Some x)
    → AreFirst xs ys → AreFirst xs zs
first-more [] ys zs keeps t = tt
first-more (x ∷ xs) ys zs keeps t = (keeps (length xs) x t.0, first-more xs ys zs keeps t.1)

pub first-nth : (xs ys : List ℕ) (n x : ℕ) → AreFirst xs ys → nth_step xs n ≡ Some x
    → slice_get ys n ≡ Some x
first-nth [] ys n x t at = none-some x at
first-nth (z ∷ xs) ys n x t at =
    dite (ℕ_discrete (length xs) n)
    (λ e.
    ap (slice_get ys) (sym e)
    ∙ (t.0 ∙ (sym (if_same (length xs) n (Some z) (nth_step xs n) e) ∙ at)))
    (λ ne. first-nth xs ys n x t.1 (sym (if_other (length xs) n (Some z) (nth_step xs n) ne) ∙ at))

-- each of a list that has the newest first is a number from s on
abbrev pub AreFrom : ℕ → List ℕ → Type 0
AreFrom s [] = Unit {0}
AreFrom s (x ∷ xs) = (x ≡ s + length xs) × AreFrom s xs

pub from-nth : (s : ℕ) (xs : List ℕ) (n x : ℕ) → AreFrom s xs → nth_step xs n ≡ Some x
    → x ≡ s + n
from-nth s [] n x t at = none-some x at
from-nth s (z ∷ xs) n x t at =
    dite (ℕ_discrete (length xs) n)
    (λ e.
    sym (some-is z x (sym (if_same (length xs) n (Some z) (nth_step xs n) e) ∙ at))
    ∙ (t.0 ∙ ap (λ k. s + k) e))
    (λ ne. from-nth s xs n x t.1 (sym (if_other (length xs) n (Some z) (nth_step xs n) ne) ∙ at))

module _ (about : BoardSizes) (l : ℕ) where
  -- ---- pulls

  pulled_alone : (q : ℕ) (d : BoardStep) (es : Order) → MayCome about q es d → q ≢ puller about l
      → pulled_in l d ≡ None
  pulled_alone q (Lane (Freed i (Pulled id))) es may other =
      pick i l (Some id) None (λ z. z ≡ None)
      (λ e. absurd (other (sym may.0.1.2.0 ∙ ap (puller about) e))) (λ _. refl)
  pulled_alone q d es may other = refl

  pub pulled_own : (es : Order) → IsLawful about es
      → all_of (pulled_in l) es ≡ pulled_by l (own_of es (puller about l))
  pulled_own =
      is_own about l (pulled_in l) (all_of (pulled_in l)) refl (λ q d es may. refl) pulled_alone

  abbrev Pulls : List ℕ → LaneLists → Type 0
  Pulls ids x = (x.pulled ≡ length ids) × AreFirst ids x.accepted

  put_pulled : (x : LaneLists) (id : ℕ) (hash : Option ℕ) → (after_put x id hash).pulled ≡ x.pulled
  put_pulled x id hash = by_cause (lane_drop_cause x hash)
    where
      by_cause : (cause : Option DropCause) → (put_by cause x id (bucket_of hash)).pulled ≡ x.pulled
      by_cause None = refl
      by_cause (Some cause) = refl

  pulls_step : (q : ℕ) (d : BoardStep) (es : Order) → IsLawful about es → MayCome about q es d
      → Pulls (all_of (pulled_in l) es) (lane_at about es l)
      → Pulls (all_of (pulled_in l) (step_by q d ∷ es)) (lane_at about (step_by q d ∷ es) l)
  pulls_step q (Lane (Freed i (Offered id hash answer))) es lawful may t =
      let x : LaneLists = lane_at about es l in
      let d : BoardStep = Lane (Freed i (Offered id hash answer)) in
      let keeps = lanes_grow about (step_by q (Freed i (Offered id hash answer)) ∷ [])
      (lanes_of es) l in
      let same =
      pick i l (after_put x id hash) x (λ (y : LaneLists). y.pulled ≡ x.pulled)
      (λ _. put_pulled x id hash) (λ _. refl) in (
        same ∙ t.0,
        first-more (all_of (pulled_in l) es) x.accepted
            (lane_at about (step_by q d ∷ es) l).accepted
            keeps.1 t.1,
      )
  pulls_step q (Lane (Freed i Nothing)) es lawful may t =
      let x : LaneLists = lane_at about es l in
      pick i l x x (Pulls (all_of (pulled_in l) es)) (λ _. t) (λ _. t)
  pulls_step q (Lane (Freed i (Pulled id))) es lawful may t =
      let x : LaneLists = lane_at about es l in
      let ids : List ℕ = all_of (pulled_in l) es in
      dite (ℕ_discrete i l)
      (λ e.
      let same : lane_at about es i ≡ may.0.1.0 =
      (holds about (lanes_of es) (parts about es lawful).0 i q may.0.1.0 may.0.1.1).1 in
      let found : may.0.1.0 ≡ x = sym same ∙ ap (lane_at about es) e in
      let next : slice_get x.accepted x.pulled ≡ Some id =
      subst (λ (y : LaneLists). slice_get y.accepted y.pulled ≡ Some id) found may.0.1.2.1 in
      let count = t.0 in
      subst (λ (z : List ℕ × LaneLists). Pulls z.0 z.1)
      (λ k. (
        cons_option (sym (if_same i l (Some id) None e) k) ids,
        sym (if_same i l (lane_changed (Pulled id) x) x e) k,
      ))
      (omega arith, (ap (slice_get x.accepted) (sym t.0) ∙ next, t.1)))
      (λ ne.
      subst (λ (z : List ℕ × LaneLists). Pulls z.0 z.1)
      (λ k. (
        cons_option (sym (if_other i l (Some id) None ne) k) ids,
        sym (if_other i l (lane_changed (Pulled id) x) x ne) k,
      )) t)
  pulls_step q d es lawful may t = t

  pub pulls : (es : Order) → IsLawful about es
      → Pulls (all_of (pulled_in l) es) (lane_at about es l)
  pulls [] lawful = (refl, tt)
  pulls (e ∷ es) lawful = pulls_step e.by e.step es lawful.2 lawful.1 (pulls es lawful.2)

  -- ---- retires

  retired_alone : (q : ℕ) (d : BoardStep) (es : Order) → MayCome about q es d → q ≢ puller about l
      → retired_in l d ≡ None
  retired_alone q (Lane (Retired i w)) es may other =
      pick i l (Some w) None (λ z. z ≡ None)
      (λ e. absurd (other (sym may.0.2 ∙ ap (puller about) e))) (λ _. refl)
  retired_alone q d es may other = refl

  pub retired_own : (es : Order) → IsLawful about es
      → all_of (retired_in l) es ≡ retired_by l (own_of es (puller about l))
  retired_own =
      is_own about l (retired_in l) (all_of (retired_in l)) refl (λ q d es may. refl)
      retired_alone

  abbrev Retires : List ℕ → ℕ → Type 0
  Retires words n = (n ≡ length words) × AreFrom about.start words

  retires_step : (q : ℕ) (d : BoardStep) (es : Order) → MayCome about q es d
      → Retires (all_of (retired_in l) es) (retired about es l)
      → Retires (all_of (retired_in l) (step_by q d ∷ es)) (retired about (step_by q d ∷ es) l)
  retires_step q (Lane (Retired i w)) es may t =
      let words : List ℕ = all_of (retired_in l) es in
      let n : ℕ = retired about es l in
      dite (ℕ_discrete i l)
      (λ e.
      let count = t.0 in
      let word : w ≡ about.start + n =
      may.0.1 ∙ ap (λ z. about.start + retired about es z) e in
      subst (λ (z : List ℕ × ℕ). Retires z.0 z.1)
      (λ k. (
        cons_option (sym (if_same i l (Some w) None e) k) words,
        sym (if_same i l (n + 1) n e) k,
      ))
      (omega arith, (omega arith, t.1)))
      (λ ne.
      subst (λ (z : List ℕ × ℕ). Retires z.0 z.1)
      (λ k. (
        cons_option (sym (if_other i l (Some w) None ne) k) words,
        sym (if_other i l (n + 1) n ne) k,
      )) t)
  retires_step q d es may t = t

  pub retires : (es : Order) → IsLawful about es
      → Retires (all_of (retired_in l) es) (retired about es l)
  retires [] lawful = (refl, tt)
  retires (e ∷ es) lawful = retires_step e.by e.step es lawful.1 (retires es lawful.2)
