-- What lanes without drops have of a packet.
use Rattle.std.proofs.Common.{ℕ, ◌<◌, ◌≡◌, List, [], ◌∷◌, Option, None, true, false, length}
use Rattle.std.proofs.Common.{arith, Result, Ok, Err, refl, ap, ◌∙◌, sym, get_or, replicate}
use Rattle.std.proofs.Common.{true≢false}
use Rattle.std.specs.Prelude.{IfOk, nat_lt}
use Rattle.std.specs.List.{list_any}
use Rattle.std.specs.Option.{option_and_then, option_map, option_or}
use Rattle.std.proofs.lemmas.Bool.{or_parts}
use Rattle.steer_base.specs.Entries.{place_in}
use Rattle.steer_base.specs.declared.put.LaneDrop.{LaneDrop}
use Rattle.steer_base.specs.declared.put.Put.{Put}
use Rattle.history.specs.Finding.{first_some, found}
use Rattle.history.specs.Lines.{drop_in, dropped_as}
use Rattle.history.specs.Lists.{drop_ids}
use Rattle.history.specs.declared.lane_list.LaneList.{LaneList}

found-none : (x : ℕ) (drops : List LaneDrop) → nat_lt 0 (length drops) ≡ false
    → found (λ d. d.id) x drops ≡ None
found-none x [] e = refl
found-none x (d ∷ ds) e =
    let some : nat_lt 0 (length (d ∷ ds)) ≡ true = grind arith in
    absurd (true≢false (sym some ∙ e))

-- where no lane dropped a packet none dropped this one
no-drop : (x : ℕ) (lanes : List LaneList)
    → list_any (λ lane. nat_lt 0 (length lane.drops)) lanes ≡ false
    → first_some (drop_in x) lanes ≡ None
no-drop x [] e = refl
no-drop x (lane ∷ lanes) e =
    let parts = or_parts _ _ e in
    ap (λ found. option_or (option_and_then
    (λ d. option_map (dropped_as d) (place_in x (drop_ids lane))) found)
    (first_some (drop_in x) lanes)) (found-none x lane.drops parts.0)
    ∙ no-drop x lanes parts.1

pub no-slots : {E : Type 0} (r : Result (List (Option Put)) E) (count : ℕ) (lanes : List LaneList)
    → list_any (λ lane. nat_lt 0 (length lane.drops)) lanes ≡ false
    → IfOk r (λ i. i ≡ replicate 0 None)
    → IfOk r (λ i. (x : ℕ) → x < count → get_or i x None ≡ first_some (drop_in x) lanes)
no-slots (Ok slots) count lanes none empty =
    λ x within. ap (λ s. get_or s x None) empty ∙ sym (no-drop x lanes none)
no-slots (Err e) count lanes none empty = tt
