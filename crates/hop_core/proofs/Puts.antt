use Rattle.std.proofs.Common.{ℕ, ◌+◌, ◌≤◌, ◌<◌, ◌≡◌, ◌≢◌, ◌⊎◌, List, [], ◌∷◌, ◌++◌, length, refl}
use Rattle.std.proofs.Common.{ap, ◌∙◌, sym, arith, inl, inr, get_or}
use Rattle.std.proofs.lemmas.Bool.{cases_eq}
use Rattle.steer_base.specs.declared.choice.Chosen.{Chosen}
use Rattle.hop_model.specs.Hop.{nobody, chosen_at}
use Rattle.hop_model.specs.Sound.{WasPut, Distinct, Puts, Places}
use Rattle.hop_core.proofs.Sound.{Distinct-arrive}
use Rattle.hop_core.proofs.Lists.{Changed, chosen-push_front, chosen-push_last, length-push}
use Rattle.hop_core.proofs.Gathered.{Added}

-- a weigh leaves the choices that were put
pub WasPut-weigh : (choices later : ℕ → List Chosen) (placed : ℕ → ℕ) (p : ℕ) (c : Chosen)
    → Changed choices later p (choices p ++ c ∷ [])
    → ((q : ℕ) → placed q ≤ length (choices q)) → (lane x : ℕ) → WasPut choices placed lane x
    → WasPut later placed lane x
WasPut-weigh choices later placed p c ch within lane x w =
    let a = within w.0 in
    let i : w.1 < length (choices w.0) = (let b = w.2 in omega arith) in
    let e : chosen_at (later w.0) w.1 ≡ chosen_at (choices w.0) w.1 = elim (cases_eq w.0 p) [
      | inl e ↦ (let f : later w.0 ≡ choices w.0 ++ c ∷ [] = rw e ch.here in
          rw f (chosen-push_front (choices w.0) c nobody w.1 i))
      | inr ne ↦ rw (ch.there w.0 ne) refl
    ] in
    (w.0, w.1, w.2, rw e w.3, rw e w.4)

pub WasPut-put : (choices : ℕ → List Chosen) (placed later : ℕ → ℕ) (p : ℕ) → Changed placed later p
    (placed p + 1)
    → (lane x : ℕ) → WasPut choices placed lane x → WasPut choices later lane x
WasPut-put choices placed later p ch lane x w = (
  w.0,
  w.1,
  elim (cases_eq w.0 p) [
    | inl e ↦ (let a = w.2 in
        let f : placed w.0 ≡ placed p = ap placed e in rw (e, ch.here) (omega arith))
    | inr ne ↦ rw (ch.there w.0 ne) w.2
  ],
  w.3,
  w.4,
)

-- the packet in hand, once it is put
pub WasPut-now : (choices : ℕ → List Chosen) (placed later : ℕ → ℕ) (p : ℕ) → Changed placed later p
    (placed p + 1)
    → WasPut choices later (chosen_at (choices p) (placed p)).choice.lane
    (chosen_at (choices p) (placed p)).id
WasPut-now choices placed later p ch = (p, placed p, rw ch.here (omega arith), refl, refl)

pub Puts-weigh : (lists : ℕ → List ℕ) (choices later : ℕ → List Chosen) (placed : ℕ → ℕ) (p : ℕ)
    (c : Chosen)
    → Changed choices later p (choices p ++ c ∷ []) → ((q : ℕ) → placed q ≤ length (choices q))
    → Puts lists choices placed → Puts lists later placed
Puts-weigh lists choices later placed p c ch within h d j in' =
    WasPut-weigh choices later placed p c ch within d _ (h d j in')

-- a put to the other list
pub Puts-put : (lists : ℕ → List ℕ) (choices : ℕ → List Chosen) (placed later : ℕ → ℕ) (p : ℕ)
    → Changed placed later p (placed p + 1)
    → Puts lists choices placed → Puts lists choices later
Puts-put lists choices placed later p ch h d j in' = WasPut-put choices placed later p ch d _
    (h d j in')

-- a put to this list
pub Puts-add : (old new : ℕ → List ℕ) (choices : ℕ → List Chosen) (placed later : ℕ → ℕ) (p : ℕ)
    → Changed placed later p (placed p + 1) → Added old new
    (chosen_at (choices p) (placed p)).choice.lane (chosen_at (choices p) (placed p)).id
    → Puts old choices placed → Puts new choices later
Puts-add old new choices placed later p ch added h d j in' =
    let c : ℕ = (chosen_at (choices p) (placed p)).choice.lane in
    let x : ℕ = (chosen_at (choices p) (placed p)).id in
    elim (cases_eq d c) [
      | inl e ↦ (
          let f : new d ≡ old d ++ x ∷ [] = rw e added.here in
          let l : j < length (old d) + 1 = rw (f, length-push) at in' in
          elim (cases_eq j (length (old d))) [
            | inl last ↦ rw (f, last, chosen-push_last (old d) x 0, e)
                (WasPut-now choices placed later p ch)
            | inr ne ↦ (let lt : j < length (old d) = omega arith in
                rw (f, chosen-push_front (old d) x 0 j lt) (WasPut-put choices placed later p ch d _
                (h d j lt)))
          ])
      | inr ne ↦ rw (added.there d ne) (WasPut-put choices placed later p ch d _
          (h d j (rw (added.there d ne) at in')))
    ]

-- ---- the places

-- one more packet, that stood nowhere before
pub Distinct-add : (old new : ℕ → List ℕ) (c x : ℕ) → Added old new c x
    → ((d i : ℕ) → i < length (old d) → get_or (old d) i 0 ≢ x) → Distinct old → Distinct new
Distinct-add old new c x added fresh h = Distinct-arrive old new c x
    (record { here = added.here; there = added.there }) fresh h

-- what is at a place of the new lists: the old packet, or the added one
pub added_at : (old new : ℕ → List ℕ) (c x : ℕ) → Added old new c x → (d i : ℕ) → i < length (new d)
    → ((i < length (old d)) × (get_or (new d) i 0 ≡ get_or (old d) i 0))
    ⊎ ((d ≡ c) × (get_or (new d) i 0 ≡ x))
added_at old new c x added d i in' =
    elim (cases_eq d c) [
      | inl e ↦ (
          let f : new d ≡ old d ++ x ∷ [] = rw e added.here in
          let l : i < length (old d) + 1 = rw (f, length-push) at in' in
          elim (cases_eq i (length (old d))) [
            | inl last ↦ inr (e, rw (f, last) (chosen-push_last (old d) x 0))
            | inr ne ↦ (let lt : i < length (old d) = omega arith in
                inl (lt, rw f (chosen-push_front (old d) x 0 i lt)))
          ])
      | inr ne ↦ inl (rw (added.there d ne) at in', rw (added.there d ne) refl)
    ]

-- the old places are as they were
pub kept_at : (old new : ℕ → List ℕ) (c x : ℕ) → Added old new c x → (d i : ℕ) → i < length (old d)
    → get_or (new d) i 0 ≡ get_or (old d) i 0
kept_at old new c x added d i in' =
    elim (cases_eq d c) [
      | inl e ↦ (let f : new d ≡ old d ++ x ∷ [] = rw e added.here in
          rw f (chosen-push_front (old d) x 0 i in'))
      | inr ne ↦ rw (added.there d ne) refl
    ]

pub Places-accept : (old new fell : ℕ → List ℕ) (delivered : ℕ → ℕ) (out : ℕ → List ℕ) (c x : ℕ)
    → Added old new c x
    → ((d i : ℕ) → i < length (old d) → get_or (old d) i 0 ≢ x) → ((d i : ℕ) → i < length (fell d)
    → get_or (fell d) i 0 ≢ x)
    → ((d : ℕ) → delivered d ≤ length (old d))
    → Places old fell delivered out → Places new fell delivered out
Places-accept old new fell delivered out c x added fresh not_fell within h =
    record {
      once = Distinct-add old new c x added fresh h.once;
      fell_once = h.fell_once;
      out_once = h.out_once;
      never_both = λ a b i j ia jb e. elim (added_at old new c x added a i ia) [
        | inl o ↦ h.never_both a b i j o.0 jb (sym o.1 ∙ e)
        | inr n ↦ not_fell b j jb (sym e ∙ n.1)
      ];
      from = λ o j in'. (let f = h.from o j in' in let w = within f.0 in
          let lt = f.2 in
          (f.0, f.1, f.2, rw (kept_at old new c x added f.0 f.1 (omega arith)) f.3));
    }

pub Places-fall : (accepted old new : ℕ → List ℕ) (delivered : ℕ → ℕ) (out : ℕ → List ℕ) (c x : ℕ)
    → Added old new c x
    → ((d i : ℕ) → i < length (old d) → get_or (old d) i 0 ≢ x)
    → ((d i : ℕ) → i < length (accepted d) → get_or (accepted d) i 0 ≢ x)
    → Places accepted old delivered out → Places accepted new delivered out
Places-fall accepted old new delivered out c x added fresh not_accepted h =
    record {
      once = h.once;
      out_once = h.out_once;
      from = h.from;
      fell_once = Distinct-add old new c x added fresh h.fell_once;
      never_both = λ a b i j ia jb e. elim (added_at old new c x added b j jb) [
        | inl o ↦ h.never_both a b i j ia o.0 (e ∙ o.1)
        | inr n ↦ not_accepted a i ia (e ∙ n.1)
      ];
    }

pub Places-deliver : (accepted fell : ℕ → List ℕ) (delivered later : ℕ → ℕ) (old new : ℕ → List ℕ)
    (c o : ℕ)
    → Changed delivered later c (delivered c + 1) → ((d : ℕ) → delivered d ≤ length (accepted d))
    → delivered c < length (accepted c)
    → Added old new o (get_or (accepted c) (delivered c) 0)
    → Places accepted fell delivered old → Places accepted fell later new
Places-deliver accepted fell delivered later old new c o ch within more added h =
    let x : ℕ = get_or (accepted c) (delivered c) 0 in
    let up : (d i : ℕ) → i < delivered d → i < later d =
    λ d i lt. elim (cases_eq d c) [
      | inl e ↦ (let f : delivered d ≡ delivered c =
          ap delivered e in rw (e, ch.here) (omega arith))
      | inr ne ↦ rw (ch.there d ne) lt
    ] in
    record {
      once = h.once;
      fell_once = h.fell_once;
      never_both = h.never_both;
      out_once = Distinct-add old new o x added
          (λ q j in' e. let f = h.from q j in' in let w = within f.0 in let lt = f.2 in
          let g = h.once f.0 c f.1 (delivered c) (omega arith) more (f.3 ∙ e) in
          let same : delivered f.0 ≡ delivered c = ap delivered g.0 in
          omega (arith, g.1)) h.out_once;
      from = λ q j in'. elim (added_at old new o x added q j in') [
        | inl a ↦ (let f = h.from q j a.0 in (f.0, f.1, up f.0 f.1 f.2, f.3 ∙ sym a.1))
        | inr b ↦ (c, delivered c, rw ch.here (omega arith), sym b.1)
      ];
    }
