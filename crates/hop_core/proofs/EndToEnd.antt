-- Prefixes of prefixes, and order from end to end.
use Rattle.std.proofs.Common.{ℕ, ◌≡◌, Bool, true, false, not, ◌&&◌, List, [], ◌∷◌, ◌++◌, suc, refl}
use Rattle.std.proofs.Common.{ap, ◌∙◌, sym, append_assoc, get_or}
use Rattle.std.specs.List.{filter}
use Rattle.std.proofs.lemmas.List.Elements.{filter-append, filter_agree}
use Rattle.steer_base.specs.Orders.{IsPrefix, was_dropped}
use Rattle.steer_base.specs.declared.put.LaneDrop.{LaneDrop}
use Rattle.hop_model.specs.Hop.{out_at, arrivals_of}
use Rattle.hop_core.specs.Order.{is_kept}
use Rattle.hop_core.specs.Laws.{EndToEnd}

pub prefix_through : (xs ys zs : List ℕ) → IsPrefix xs ys → IsPrefix ys zs → IsPrefix xs zs
prefix_through xs ys zs a b = (
  a.0 ++ b.0,
  sym (append_assoc xs a.0 b.0) ∙ ap (λ l. l ++ b.0) a.1
      ∙ b.1,
)

pub prefix_of_filter : (set : ℕ → Bool) (xs ys : List ℕ) → IsPrefix xs ys → IsPrefix (filter set xs)
    (filter set ys)
prefix_of_filter set xs ys a = (
  filter set a.0,
  sym (filter-append set xs a.0)
      ∙ ap (filter set) a.1,
)

pub and_not_false : (a b : Bool) → b ≡ false → (a && not b) ≡ a
and_not_false true b e = rw e refl
and_not_false false b e = refl

-- where no lane has a drop, no packet was dropped
none_dropped : (drops : List (List LaneDrop)) (x : ℕ) → ((c : ℕ) → get_or drops c [] ≡ [])
    → was_dropped drops x ≡ false
none_dropped [] x h = refl
none_dropped (ds ∷ dss) x h =
    let first : ds ≡ [] = h 0 in
    rw (first, none_dropped dss x (λ c. h (suc c))) refl

pub end_to_end : EndToEnd
end_to_end set first second q a port sent r prefix is none t =
    let none' : (x : ℕ) → was_dropped second.bare.drops x ≡ false =
    λ x. none_dropped second.bare.drops x none in
    let kept : filter (is_kept set second.bare) (arrivals_of second a) ≡ filter set sent =
    ap (filter (is_kept set second.bare)) is ∙ filter_agree (is_kept set second.bare) set
    (λ x. and_not_false (set x) (was_dropped second.bare.drops x) (none' x)) sent in
    prefix_through _ _ _ (t.0, t.1 ∙ kept) (prefix_through _ _ _ (prefix_of_filter set sent
    (out_at first.bare a) prefix) r)
