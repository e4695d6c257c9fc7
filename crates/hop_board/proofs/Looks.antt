-- Lanes that are looked at.
use Rattle.std.proofs.Common.{cond, append-nil, append_assoc}
use Rattle.std.proofs.lemmas.List.Elements.{All-cons, All-nil}
use Rattle.steer_base.specs.Sets.{has, those_below}
use Rattle.steer_base.specs.declared.cpu_mask.CpuMask.{CpuMask}
use Rattle.steer_base.proofs.SetsLemmas.{those_below-more}
use Rattle.board_api.specs.StepWords.{low_half, tail_in}
use Rattle.board_api.specs.Calls.Results.{EmptiedTells, IsEmpty, Looked, looking}
use Rattle.board_api.specs.declared.answers.Emptied.TheVariants as emptied
use Rattle.hop_board.specs.Emptying.{emptied_after}
use Rattle.hop_board.proofs.Names.{◌≡◌, ◌≢◌, ℕ, zero, suc, ◌+◌, ◌-◌, ◌<◌, List, [], ◌∷◌, ◌++◌, Bool}
use Rattle.hop_board.proofs.Names.{true, false, All, map, sym, refl, ap, ◌∙◌, arith, All-head}
use Rattle.hop_board.proofs.Names.{All-tail, SeatView, BoardSizes, BoardStep, board_seat}

-- the lanes of the set below n were looked at, and each was found empty
pub record LooksBelow (mask : CpuMask) (n : ℕ) (old new : SeatView BoardStep) : Type 0 where
  pub looked : List Looked
  pub lanes : map (λ (x : Looked). x.lane) looked ≡ those_below n (has mask)
  pub empty : All IsEmpty looked
  pub step : new ≡ record old { steps = looking looked old.steps }

looking-end : (xs : List Looked) (x : Looked) (ds : List BoardStep)
    → looking (xs ++ x ∷ []) ds ≡ looking (x ∷ []) (looking xs ds)
looking-end [] x ds = refl
looking-end (y ∷ ys) x ds = looking-end ys x (looking (y ∷ []) ds)

map-end : (xs : List Looked) (x : Looked)
    → map (λ (y : Looked). y.lane) (xs ++ x ∷ []) ≡ map (λ (y : Looked). y.lane) xs ++ x.lane ∷ []
map-end [] x = refl
map-end (y ∷ ys) x = ap (λ l. y.lane ∷ l) (map-end ys x)

all-end : (xs : List Looked) (x : Looked) → All IsEmpty xs → IsEmpty x
    → All IsEmpty (xs ++ x ∷ [])
all-end [] x all is = All-cons IsEmpty x [] is (All-nil IsEmpty)
all-end (y ∷ ys) x all is = All-cons IsEmpty y (ys ++ x ∷ [])
    (All-head IsEmpty y ys all)
    (all-end ys x (All-tail IsEmpty y ys all) is)

-- a set up to a greater number begins as it does up to a smaller one
further : (test : ℕ → Bool) (n k : ℕ) → (rest : List ℕ)
    × (those_below (n + k) test ≡ those_below n test ++ rest)
further test n zero = let none : n + 0 ≡ n = omega arith in
    ([], ap (λ z. those_below z test) none ∙ sym (append-nil (those_below n test)))
further test n (suc k) = let t = further test n k in
    let one : List ℕ = cond (test (n + k)) ((n + k) ∷ []) [] in
    let more : n + suc k ≡ n + k + 1 = omega arith in (
      t.0 ++ one,
      ap (λ z. those_below z test) more ∙ those_below-more (n + k) test ∙ (ap (λ l. l ++ one) t.1
          ∙ append_assoc (those_below n test) t.0 one),
    )

-- from a member on
pub from_member : (test : ℕ → Bool) (n m : ℕ) → n < m → test n ≡ true
    → (rest : List ℕ) × (those_below n test ++ n ∷ rest ≡ those_below m test)
from_member test n m less is =
    let t = further test (n + 1) (m - (n + 1)) in
    let m_is : n + 1 + (m - (n + 1)) ≡ m = omega arith in (
      t.0,
      sym (ap (λ z. those_below z test) (sym m_is)
          ∙ (t.1 ∙ (ap (λ l. l ++ t.0) (those_below-more n test ∙ ap (λ b. those_below n test
          ++ cond b (n ∷ []) []) is)
          ∙ append_assoc (those_below n test) (n ∷ []) t.0))),
    )

module _ (about : BoardSizes) (mask : CpuMask) (old : SeatView BoardStep) where
  pub looks_none : LooksBelow mask 0 old old
  unfolding those_below
  looks_none = record { looked = []; lanes = refl; empty = All-nil IsEmpty; step = refl }

  module _ (n : ℕ) (mid new : SeatView BoardStep) (t : LooksBelow mask n old mid) where
    pub looks_past : has mask n ≡ false → LooksBelow mask (n + 1) old mid
    looks_past none = record {
      looked = t.looked;
      lanes = t.lanes
          ∙ sym (those_below-more n (has mask)
          ∙ (ap (λ b. those_below n (has mask) ++ cond b (n ∷ []) []) none ∙ append-nil
          (those_below n (has mask))));
      empty = t.empty;
      step = t.step;
    }

    module _ (x : Looked) (lane_is : x.lane ≡ n)
        (step : new ≡ record mid { steps = looking (x ∷ []) mid.steps }) where
      abbrev steps_are : new ≡ record old { steps = looking (t.looked ++ x ∷ []) old.steps }
      steps_are = step
          ∙ (ap (λ (s : SeatView BoardStep). record s { steps = looking (x ∷ []) s.steps }) t.step
          ∙ ap (λ ds. record old { steps = ds }) (sym (looking-end t.looked x old.steps)))

      pub looks_more : has mask n ≡ true → IsEmpty x → LooksBelow mask (n + 1) old new
      looks_more has_it empty = record {
        looked = t.looked ++ x ∷ [];
        lanes = map-end t.looked x
            ∙ ((λ i. t.lanes i ++ lane_is i ∷ [])
            ∙ sym (those_below-more n (has mask) ∙ ap (λ b. those_below n (has mask)
            ++ cond b (n ∷ []) []) has_it));
        empty = all-end t.looked x t.empty empty;
        step = steps_are;
      }

      pub finds_first : has mask n ≡ true → n < about.lanes → (head tail : ℕ)
          → head ≡ low_half x.head
          → tail ≡ tail_in x.tail → head ≢ tail → (e : Bool)
          → EmptiedTells about mask (board_seat old e)
          (board_seat new (emptied_after e (emptied.NotEmpty n head tail)))
          (emptied.NotEmpty n head tail)
      finds_first has_it less head tail head_is tail_is ne e =
          let rest = from_member (has mask) n about.lanes less has_it in record {
            looked = t.looked;
            last = x;
            rest = rest.0;
            lanes = ap (λ l. l ++ n ∷ rest.0) t.lanes ∙ rest.1;
            empty = t.empty;
            lane_is = lane_is;
            head_is = head_is;
            tail_is = tail_is;
            apart = ne;
            step = ap (λ s. board_seat s e) steps_are;
          }

  pub finds_all : (new : SeatView BoardStep) → LooksBelow mask about.lanes old new → (e : Bool)
      → EmptiedTells about mask (board_seat old e) (board_seat new (emptied_after e emptied.Ok))
      emptied.Ok
  finds_all new t e = record {
    looked = t.looked;
    lanes = t.lanes;
    empty = t.empty;
    step = ap (λ s. board_seat s true) t.step;
  }
