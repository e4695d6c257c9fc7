-- The window of a list of offers that grows.
use Rattle.std.proofs.Common.{ℕ, ◌+◌, ◌-◌, ◌<◌, ◌≡◌, List, [], ◌∷◌, ◌++◌, length, drop, Option}
use Rattle.std.proofs.Common.{Some, None, arith, sym, ap, ◌∙◌, length-append, length-drop}
use Rattle.std.proofs.Common.{append-nil, count_by, refl}
use Rattle.std.specs.Prelude.{◌==◌}
use Rattle.std.specs.List.{filter_map}
use Rattle.std.specs.Option.{option_map}
use Rattle.std.proofs.lemmas.List.{drop-append-le, drop-drop}
use Rattle.std.proofs.lemmas.List.Elements.{filter_map-append}
use Rattle.steer_base.specs.Drops.{bucket_count, last_of, window}
use Rattle.backlog.specs.Offered.{window_after}

-- the last n of a list that grew are the last n of the last n before and the new one
last_of-append : (n x : ℕ) (xs : List ℕ) → 0 < n → last_of n (xs ++ x ∷ []) ≡ last_of n
    (last_of n xs ++ x ∷ [])
last_of-append n x xs some =
    let cut : ℕ = length xs - n in
    let long : length (xs ++ x ∷ []) ≡ length xs + 1 = length-append xs (x ∷ []) in
    let kept : length (drop cut xs ++ x ∷ []) ≡ length (drop cut xs) + 1 =
    length-append (drop cut xs) (x ∷ []) in
    let size : length (drop cut xs) ≡ length xs - cut = length-drop cut xs in
    let more : ℕ = length xs + 1 - n - cut in
    let left : length (xs ++ x ∷ []) - n ≡ cut + more = omega arith in
    let right : length (drop cut xs ++ x ∷ []) - n ≡ more = omega arith in
    ap (λ k. drop k (xs ++ x ∷ [])) left
    ∙ drop-append-le (cut + more) xs (x ∷ []) (omega arith)
    ∙ ap (λ l. l ++ x ∷ []) (sym (drop-drop more cut xs))
    ∙ sym (drop-append-le more (drop cut xs) (x ∷ []) (omega arith))
    ∙ ap (λ k. drop k (drop cut xs ++ x ∷ [])) (sym right)

pub window-grown : (offers : List (Option ℕ)) (bucket : Option ℕ)
    → window (offers ++ bucket ∷ []) ≡ window_after (window offers) bucket
window-grown offers None =
    ap (last_of 256) (filter_map-append (λ b. b) offers (None ∷ []) ∙ append-nil
    (filter_map (λ b. b) offers))
window-grown offers (Some bucket) =
    ap (last_of 256) (filter_map-append (λ b. b) offers (Some bucket ∷ []))
    ∙ last_of-append 256 bucket (filter_map (λ b. b) offers) (omega arith)

-- how often a bucket is in the window that its offer leaves
pub count_in_window : (offers : List (Option ℕ)) (bucket : Option ℕ) (now : List ℕ)
    → now ≡ window (offers ++ bucket ∷ [])
    → option_map (λ b. count_by (λ x. x == b) now) bucket ≡ option_map (bucket_count offers) bucket
count_in_window offers None now is = refl
count_in_window offers (Some bucket) now is = ap (λ w. Some (count_by (λ x. x == bucket) w)) is
