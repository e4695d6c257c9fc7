-- What the wire has done after one arrival more.
use Rattle.std.proofs.Common.{length-append}
use Rattle.rss_table.specs.Redirection.{Redirection}
use Rattle.steer_model.specs.State.Setup.{packet_hash}
use Rattle.run_words.specs.Lists.{oldest_first}
use Rattle.workers.specs.Wires.{Arrives, KeepsRings}
use Rattle.run_words.specs.HintViews.{HintView}
use Rattle.run_crew.specs.Routes.{Leads, Routes}
use Rattle.workers.proofs.Names.{◌≡◌, ℕ, zero, suc, ◌+◌, ◌<◌, List, [], ◌∷◌, ◌++◌, length, map}
use Rattle.workers.proofs.Names.{refl, sym, ap, subst, ◌∙◌, arith, range_with_len, Arrival, Journal}
use Rattle.workers.proofs.Names.{Setup, Wire}

-- ---- one arrival more

-- what the seat did for these arrivals
abbrev pub Led : Setup → ℕ → Redirection → List Arrival → HintView → HintView → Type 0
Led given filters reta arrivals old new =
    (late : List Arrival) × (arrivals ≡ oldest_first late) × Leads given filters reta late old new

pub led_more : (given : Setup) (filters id : ℕ) (reta : Redirection) (before after : Wire)
    (first old new : HintView) → before.reta ≡ reta
    → Led given filters reta before.arrivals.items first old
    → Arrives given filters id before after old new
    → Led given filters reta after.arrivals.items first new
led_more given filters id reta before after first old new same (late, are, leads) a = (
  a.arrival ∷ late,
  ap (λ (j : Journal Arrival). j.items) a.noted ∙ ap (λ xs. xs ++ a.arrival ∷ []) are,
  (
    old,
    a.mid,
    leads,
    subst (λ (z : Redirection × ℕ). Routes given filters z.0 (packet_hash given z.1) a.arrival old
        a.mid) (λ k. (same k, sym a.same_id k)) a.routes,
    a.announces,
  ),
)

map-push : (xs : List Arrival) (a : Arrival) → map (λ (a : Arrival). a.id) (xs ++ a ∷ [])
    ≡ map (λ (a : Arrival). a.id) xs ++ a.id ∷ []
map-push [] a = refl
map-push (x ∷ xs) a = ap (λ zs. x.id ∷ zs) (map-push xs a)

range-push : (start n : ℕ) → range_with_len start n ++ (start + n) ∷ []
    ≡ range_with_len start (suc n)
range-push start zero =
    let e : start + 0 ≡ start = omega arith in ap (λ k. k ∷ []) e
range-push start (suc n) =
    let e : start + suc n ≡ (start + 1) + n = omega arith in
    ap (λ zs. start ∷ zs)
    (ap (λ k. range_with_len (start + 1) n ++ k ∷ []) e ∙ range-push (start + 1) n)

pub ids_more : (given : Setup) (filters id : ℕ) (before after : Wire) (old new : HintView)
    → map (λ (a : Arrival). a.id) before.arrivals.items ≡ range_with_len 0 id
    → Arrives given filters id before after old new
    → map (λ (a : Arrival). a.id) after.arrivals.items ≡ range_with_len 0 (id + 1)
ids_more given filters id before after old new ids a =
    let n : id + 1 ≡ suc id = omega arith in
    let z : 0 + id ≡ id = omega arith in
    ap (λ (j : Journal Arrival). map (λ (a : Arrival). a.id) j.items) a.noted
    ∙ (map-push before.arrivals.items a.arrival
    ∙ ((λ k. ids k ++ a.same_id k ∷ [])
    ∙ (ap (λ k. range_with_len 0 id ++ k ∷ []) (sym z)
    ∙ (range-push 0 id ∙ ap (range_with_len 0) (sym n)))))

pub length_more : (given : Setup) (filters id : ℕ) (before after : Wire) (old new : HintView)
    → length before.arrivals.items ≡ id → Arrives given filters id before after old new
    → length after.arrivals.items ≡ id + 1
length_more given filters id before after old new many a =
    let size = length-append before.arrivals.items (a.arrival ∷ []) in
    let is : length after.arrivals.items ≡ length (before.arrivals.items ++ a.arrival ∷ []) =
    ap (λ (j : Journal Arrival). length j.items) a.noted in omega arith

pub room_more : (given : Setup) (filters id : ℕ) (before after : Wire) (old new : HintView)
    → Arrives given filters id before after old new → after.arrivals.room ≡ before.arrivals.room
room_more given filters id before after old new a =
    ap (λ (j : Journal Arrival). j.room) a.noted

-- rings that are the same twice
pub keeps_rings : (a b c : Wire) → KeepsRings a b → KeepsRings b c → KeepsRings a c
keeps_rings a b c ab bc =
    record {
      count = bc.count ∙ ab.count;
      same = λ q d less.
          (let x = ab.same q d less in
          let few : q < length b.rings.items = subst (λ n. q < n) (sym ab.count) less in
          let y = bc.same q d few in (
            (y.0.0 ∙ x.0.0, y.0.1 ∙ x.0.1, y.0.2 ∙ x.0.2, y.0.3 ∙ x.0.3),
            y.1 ∙ x.1,
          ));
    }
