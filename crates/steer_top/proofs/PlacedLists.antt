-- Two lists of one length as one list, and one more.
use Rattle.std.proofs.Common.{◌≡◌, ◌<◌, ℕ, zero, suc, List, [], ◌∷◌, ◌++◌, length, get_or}
use Rattle.std.proofs.Common.{ap, arith, refl}
use Rattle.steer_base.specs.declared.flow.Flow.{Flow}
use Rattle.steer_base.specs.declared.flow.Flow.TheVariants.{Bare}
use Rattle.steer_top.specs.PlacedLists.{not_placed, placed_of}

pub length-placed_of : (flows : List Flow) (depths : List ℕ) → length depths ≡ length flows
    → length (placed_of flows depths) ≡ length depths
length-placed_of [] depths same = omega (arith, same)
length-placed_of (flow ∷ flows) [] same = absurd (omega (arith, same))
length-placed_of (flow ∷ flows) (depth ∷ depths) same =
    omega (arith, length-placed_of flows depths (omega (arith, same)))

pub get_or-placed_of : (flows : List Flow) (depths : List ℕ) (n d : ℕ)
    → length depths ≡ length flows → n < length depths
    → get_or (placed_of flows depths) n not_placed
    ≡ record { flow = get_or flows n Bare; depth = get_or depths n d }
get_or-placed_of [] depths n d same within = absurd (omega (arith, same, within))
get_or-placed_of (flow ∷ flows) [] n d same within = absurd (omega (arith, within))
get_or-placed_of (flow ∷ flows) (depth ∷ depths) zero d same within = refl
get_or-placed_of (flow ∷ flows) (depth ∷ depths) (suc n) d same within =
    get_or-placed_of flows depths n d (omega (arith, same)) (omega (arith, within))

pub placed_of-more : (flows : List Flow) (depths : List ℕ) (flow : Flow) (depth : ℕ)
    → length depths ≡ length flows
    → placed_of (flows ++ flow ∷ []) (depths ++ depth ∷ [])
    ≡ placed_of flows depths ++ record { flow = flow; depth = depth } ∷ []
placed_of-more [] [] flow depth same = refl
placed_of-more [] (d ∷ depths) flow depth same = absurd (omega (arith, same))
placed_of-more (f ∷ flows) [] flow depth same = absurd (omega (arith, same))
placed_of-more (f ∷ flows) (d ∷ depths) flow depth same =
    ap (λ placed. record { flow = f; depth = d } ∷ placed)
    (placed_of-more flows depths flow depth (omega (arith, same)))
