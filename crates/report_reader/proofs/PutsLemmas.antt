-- What the fields of a packet show of its put.
use Rattle.std.proofs.Common.{ℕ, ◌≡◌, ◌<◌, ◌^◌, List, Option, Some, None, refl, ◌∙◌, sym, arith}
use Rattle.std.proofs.Common.{decimal, inr}
use Rattle.std.specs.Prelude.{codes}
use Rattle.report.proofs.Digits.{no_number}
use Rattle.steer_base.specs.declared.put.DropCause.{DropCause}
use Rattle.steer_base.specs.declared.put.Put.{Put}
use Rattle.steer_base.specs.declared.put.Put.TheVariants.{At, Dropped}
use Rattle.report_reader.specs.Seen.{ShowsCause, ShowsPut, field_at}
use Rattle.report_reader.proofs.ValuesLemmas.{no-dash}

no-drop : (n : ℕ) → n < 2 ^ 64 → decimal n ≡ codes "drop" → ⊥
no-drop n h e = no_number n (codes "drop") h (inr (omega arith)) e

pub put-none : (fs : List (List ℕ)) (o : Option Put) → ShowsPut fs o → field_at fs 9 ≡ codes "-"
    → None ≡ o
put-none fs None s e = refl
put-none fs (Some (At position)) s e = absurd (no-dash position (omega (arith, s.1)) (sym s.0 ∙ e))
put-none fs (Some (Dropped number accepted pulled cause)) s e =
    absurd (let w : codes "drop" ≡ codes "-" = sym s.0 ∙ e in cc)

pub put-drop : (fs : List (List ℕ)) (o : Option Put) (n a u : ℕ) (c : DropCause) → ShowsPut fs o
    → field_at fs 9 ≡ codes "drop"
    → ((m : ℕ) → m < 2 ^ 32 → field_at fs 10 ≡ decimal m → n ≡ m)
    → ((m : ℕ) → m < 2 ^ 32 → field_at fs 11 ≡ decimal m → a ≡ m)
    → ((m : ℕ) → m < 2 ^ 32 → field_at fs 12 ≡ decimal m → u ≡ m)
    → ((d : DropCause) → ShowsCause fs d → c ≡ d)
    → Some (Dropped n a u c) ≡ o
put-drop fs None n a u c s e hn ha hu hc = absurd (let w : codes "-" ≡ codes "drop" = sym s
    ∙ e in cc)
put-drop fs (Some (At position)) n a u c s e hn ha hu hc =
    absurd (no-drop position (omega (arith, s.1)) (sym s.0 ∙ e))
put-drop fs (Some (Dropped number accepted pulled cause)) n a u c s e hn ha hu hc =
    let x : n ≡ number = hn number s.2 s.1 in
    let y : a ≡ accepted = ha accepted s.4 s.3 in
    let z : u ≡ pulled = hu pulled s.6 s.5 in
    let w : c ≡ cause = hc cause s.7 in
    λ i. Some (Dropped (x i) (y i) (z i) (w i))
