-- The actors of a kind as they are dealt out to the workers.
use Rattle.std.specs.Prelude.{◌≡◌, ℕ, ◌<◌, List, Vec, filter_map, length, map}
use Rattle.std.specs.List.{range_with_len}
use Rattle.std.specs.declared.alloc.Global.{Global}
use Rattle.workers.specs.RoundRobin.{AreDealt, dealt_item}

-- As many of the items that were dealt out in turn to these hands, in the order of their numbers.
abbrev pub dealt_items : {A : Type 0} → List (Vec A Global) → ℕ → List A
dealt_items {A} hands count =
    filter_map (dealt_item (map (λ (hand : Vec A Global). hand.items) hands))
    (range_with_len 0 count)

-- There are hands, and they have just so many items, dealt out in turn.
pub record HaveAll {A : Type 0} (hands : List (Vec A Global)) (count : ℕ) : Type 0 where
  pub some : 0 < length hands
  pub count_is : length (dealt_items hands count) ≡ count
  pub dealt : AreDealt (dealt_items hands count) (map (λ (hand : Vec A Global). hand.items) hands)
