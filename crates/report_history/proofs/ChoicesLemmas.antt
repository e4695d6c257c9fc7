-- The choices of the receive queues, when all arrivals are behind.
use Rattle.std.proofs.Common.{ℕ, zero, suc, ◌<◌, ◌≤◌, ◌≡◌, List, [], ◌∷◌, ◌++◌, Option, length}
use Rattle.std.proofs.Common.{drop, refl, ap, ◌∙◌, sym, append-nil, arith}
use Rattle.std.specs.List.{filter_map}
use Rattle.std.proofs.lemmas.List.{ext_get_or}
use Rattle.history.specs.Lists.{list_at}
use Rattle.history.specs.declared.arrival.Arrival.{Arrival}
use Rattle.steer_base.specs.declared.choice.Chosen.{Chosen}
use Rattle.report_reader.specs.declared.slots.Seen.{Seen}
use Rattle.report_history.specs.Lists.{AreChoices}
use Rattle.report_history.specs.Shown.{queue_choice}

-- behind the last item there are no more
pub none-left : {A : Type 0} (ways : List A) (i : ℕ) → length ways ≤ i → drop i ways ≡ []
none-left [] zero l = refl
none-left [] (suc i) l = refl
none-left (a ∷ ways) zero l = absurd (omega (arith, l))
none-left (a ∷ ways) (suc i) l = none-left ways i (omega (arith, l))

-- behind the last one nothing more is picked
pub nothing-left : {A B : Type 0} (f : A → Option B) (ways : List A) (i : ℕ) (built : List B)
    → length ways ≤ i → built ++ filter_map f (drop i ways) ≡ filter_map f ways
    → built ≡ filter_map f ways
nothing-left f ways i built l e =
    sym (append-nil built) ∙ sym (ap (λ xs. built ++ filter_map f xs) (none-left ways i l)) ∙ e

-- the lists are the choices, if each is that of its queue
pub choices-are : (seen : List Seen) (ways : List Arrival) (queues : ℕ)
    (built lists : List (List Chosen)) → length built ≡ queues
    → ((q : ℕ) → q < queues → list_at built q ≡ filter_map (queue_choice seen q) ways)
    → AreChoices seen ways queues lists → built ≡ lists
choices-are seen ways queues built lists long each are =
    ext_get_or [] built lists (long ∙ sym are.long) (λ q l.
    let n : q < queues = omega (arith, l, long) in
    let m : q < length lists = omega (arith, l, long, are.long) in
    each q n ∙ (are.each q m).each)
