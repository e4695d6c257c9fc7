-- Two packets of one class: the first is retired in lane 0 before the second moves to lane 1.
use Rattle.std.proofs.Common.{ℕ, zero, suc, ◌≤◌, ◌<◌, ◌≡◌, true, false, List, [], ◌∷◌, Some, None}
use Rattle.std.proofs.Common.{length, refl, subst, arith, lit<, get_or, take}
use Rattle.steer_base.specs.Entries.{position}
use Rattle.steer_base.specs.declared.choice.Chosen.{Chosen}
use Rattle.steer_base.specs.declared.choice.Why.TheVariants.{Passed, Unset}
use Rattle.dev_flow_table.specs.Walks.{IsRuled, WalksMove}

abbrev first : Chosen
first = record {
  id = 5;
  choice = record {
    class = Some 0;
    want = None;
    head = None;
    tail = Some 0;
    lane = 0;
    why = Unset;
  };
}

abbrev second : Chosen
second = record {
  id = 6;
  choice = record {
    class = Some 0;
    want = None;
    head = Some 1;
    tail = Some 1;
    lane = 1;
    why = Passed;
  };
}

abbrev accepted : ℕ → List ℕ
accepted zero = 5 ∷ []
accepted (suc zero) = 6 ∷ []
accepted (suc (suc lane)) = []

-- at the put of the second packet the one of lane 0 is retired
abbrev retired : ℕ → ℕ → ℕ
retired zero lane = 0
retired (suc i) zero = 1
retired (suc i) (suc lane) = 0

few : (lane : ℕ) → length (accepted lane) ≤ 262144
few zero = omega arith
few (suc zero) = omega arith
few (suc (suc lane)) = omega arith

few_retired : (i lane : ℕ) → retired i lane ≤ 262144
few_retired zero lane = omega arith
few_retired (suc i) zero = omega arith
few_retired (suc i) (suc lane) = omega arith

rising : (i j lane : ℕ) → i ≤ j → retired i lane ≤ retired j lane
rising zero j lane le = omega arith
rising (suc i) zero lane le = absurd (omega arith)
rising (suc i) (suc j) zero le = omega arith
rising (suc i) (suc j) (suc lane) le = omega arith

abbrev both : List Chosen
both = first ∷ second ∷ []

in_order : (i j n m : ℕ) (d : Chosen) → i < j → j < 2
    → (get_or both i d).choice.lane ≡ (get_or both j d).choice.lane
    → position accepted (get_or both i d) ≡ Some n → position accepted (get_or both j d) ≡ Some m
    → n < m
in_order zero zero n m d lt in' same at at' = absurd (omega arith)
in_order zero (suc zero) n m d lt in' same at at' = absurd (let e : 0 ≡ 1 = same in omega arith)
in_order zero (suc (suc j)) n m d lt in' same at at' = absurd (omega arith)
in_order (suc i) j n m d lt in' same at at' = absurd (omega arith)

first_ruled : IsRuled 0 accepted (retired 0) [] 0 first
first_ruled =
    record {
      desired = 0;
      online = λ lane. true;
      head = 0;
      rule = refl;
      seen = λ lane is looked. absurd (let e : None ≡ Some lane = is in cc);
      drained = λ i n d lt off at. absurd (omega arith);
    }

second_ruled : IsRuled 0 accepted (retired 1) (first ∷ []) 0 second
second_ruled =
    record {
      desired = 1;
      online = λ lane. true;
      head = 1;
      rule = refl;
      seen = λ lane is looked. (
        1,
        refl,
        (let e : Some 0 ≡ Some lane = is in
            let z : 0 ≡ lane = cc in subst (λ l. 1 ≤ retired 1 l) z (omega arith)),
      );
      drained = λ i n d lt off at. absurd (let e : true ≡ false = off in cc);
    }

ruled : (i class : ℕ) (d : Chosen) → i < 2 → (get_or both i d).choice.class ≡ Some class
    → IsRuled 0 accepted (retired i) (take i both) class (get_or both i d)
ruled zero class d in' is = let e : Some 0 ≡ Some class = is in let z : 0 ≡ class =
    cc in subst (λ k. IsRuled 0 accepted (retired 0) [] k first) z first_ruled
ruled (suc zero) class d in' is = let e : Some 0 ≡ Some class = is in let z : 0 ≡ class =
    cc in subst (λ k. IsRuled 0 accepted (retired 1) (first ∷ []) k second) z second_ruled
ruled (suc (suc i)) class d in' is = absurd (omega arith)

pub walks_move : WalksMove
walks_move = (
  accepted,
  retired,
  first,
  second,
  record {
    start_small = lit< tt;
    few = few;
    few_retired = few_retired;
    rising = rising;
    in_order = in_order;
    ruled = ruled;
  },
  refl,
  refl,
  λ e. absurd (omega arith),
)
