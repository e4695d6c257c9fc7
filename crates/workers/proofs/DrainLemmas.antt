-- What empties a lane, as it was made.
use Rattle.hop_rule.specs.Lanes.{idle}
use Rattle.run_workers.specs.Hands.Drains.{IsDrain, hand_phase}
use Rattle.run_workers.specs.declared.drain.Exit.{Exit}
use Rattle.workers.specs.Actors.{IsFirstDrain}
use Rattle.workers.proofs.Names.{◌≡◌, ℕ, zero, suc, ◌+◌, List, [], Option, None, Some, map, refl}
use Rattle.workers.proofs.Names.{sym, ap, ◌∙◌, arith, slice_get, range_with_len, All-nil, none-some}
use Rattle.workers.proofs.Names.{some-is, Setup, Drain, Each}

-- what empties a lane to this exit and counts from this number, as it was made
abbrev pub first_drain : Exit → (initial lane : ℕ) → Drain
first_drain exit initial lane =
    record { lane = lane; exit = exit; hand = None; retired = 0; start = initial }

nothing : Setup
nothing = record { homes = []; cpus = 0; txs = 0; apps = 0; packets = []; cut = None }

empty_hand : (hand : Option ℕ) → idle ≡ hand_phase hand → hand ≡ None
empty_hand None same = refl
empty_hand (Some id) same = cc

pub first_by_new : (exit : Exit) (initial lane : ℕ) (d : Drain) → d.lane ≡ lane → d.exit ≡ exit
    → d.start ≡ initial → ((given : Setup) → IsDrain given d [])
    → IsFirstDrain exit initial lane d
first_by_new exit initial lane d own out counts is =
    record {
      lane = own;
      exit_is = out;
      hand = empty_hand d.hand (is nothing).hand;
      retired = (is nothing).retired;
      start = counts;
    }

pub is_first_drain : (exit : Exit) (initial lane : ℕ) (d : Drain)
    → IsFirstDrain exit initial lane d → d ≡ first_drain exit initial lane
is_first_drain exit initial lane d first =
    λ i. record {
      lane = first.lane i;
      exit = first.exit_is i;
      hand = first.hand i;
      retired = first.retired i;
      start = first.start i;
    }

pub drain_is : (exit : Exit) (initial lane : ℕ) (d : Drain) (given : Setup)
    → IsFirstDrain exit initial lane d → IsDrain given d []
drain_is exit initial lane d given first =
    record {
      hand = ap hand_phase (sym first.hand);
      retired = first.retired;
      right = All-nil _;
    }

from_range : (n a k : ℕ) (e : Exit) (initial : ℕ) (d : Drain)
    → slice_get (map (first_drain e initial) (range_with_len a n)) k ≡ Some d
    → d ≡ first_drain e initial (a + k)
from_range zero a k e initial d got = none-some d got
from_range (suc n) a zero e initial d got =
    sym (some-is _ d got) ∙ ap (first_drain e initial) (omega arith)
from_range (suc n) a (suc k) e initial d got =
    from_range n (a + 1) k e initial d got ∙ ap (first_drain e initial) (omega arith)

pub each_first : (exit : Exit) (initial lanes : ℕ) (ds : List Drain)
    → ds ≡ map (first_drain exit initial) (range_with_len 0 lanes)
    → Each (IsFirstDrain exit initial) ds
each_first exit initial lanes ds are k d got =
    let same : d ≡ first_drain exit initial (0 + k) =
    from_range lanes 0 k exit initial d (ap (λ xs. slice_get xs k) (sym are) ∙ got) in
    record {
      lane = let own = ap (λ (x : Drain). x.lane) same in omega (arith, own);
      exit_is = ap (λ (x : Drain). x.exit) same;
      hand = ap (λ (x : Drain). x.hand) same;
      retired = ap (λ (x : Drain). x.retired) same;
      start = ap (λ (x : Drain). x.start) same;
    }
