use Rattle.std.proofs.Common.{ℕ, ◌+◌, ◌≤◌, ◌<◌, ◌≡◌, ◌≢◌, ◌⊎◌, List, [], ◌∷◌, ◌++◌, length, refl}
use Rattle.std.proofs.Common.{ap, ◌∙◌, sym, arith, inl, inr, get_or}
use Rattle.std.proofs.lemmas.Bool.{cases_eq}
use Rattle.steer_base.specs.Entries.{position}
use Rattle.steer_base.proofs.EntriesLemmas.{place_in-other}
use Rattle.steer_base.specs.declared.choice.Chosen.{Chosen}
use Rattle.hop_model.specs.Hop.{nobody, chosen_at}
use Rattle.hop_model.specs.Sound.{Hands, Distinct, Counts, WasPut}
use Rattle.hop_core.proofs.Lists.{Changed, chosen-push_front, chosen-push_last, length-push}
use Rattle.hop_core.proofs.Gathered.{Added}

-- two choices of one packet are one choice
pub same_choice : (arrivals : ℕ → List ℕ) (taken : ℕ → ℕ) (choices : ℕ → List Chosen)
    (placed since : ℕ → ℕ) → Hands arrivals taken choices placed since → Distinct arrivals
    → (p q i j : ℕ) → i < length (choices p) → j < length (choices q)
    → (chosen_at (choices p) i).id ≡ (chosen_at (choices q) j).id → (p ≡ q) × (i ≡ j)
same_choice arrivals taken choices placed since h apart p q i j ip jq e =
    let a = h.arrived p in let b = h.chosen p in let c = h.arrived q in let d = h.chosen q in
    apart p q i j (omega arith) (omega arith) (sym (h.of_arrivals p i ip) ∙ e
    ∙ h.of_arrivals q j jq)

-- the packet in hand was not put
pub in_hand_not_put : (arrivals : ℕ → List ℕ) (taken : ℕ → ℕ) (choices : ℕ → List Chosen)
    (placed since : ℕ → ℕ) → Hands arrivals taken choices placed since → Distinct arrivals
    → (p i c : ℕ) → i < length (choices p) → placed p ≤ i → WasPut choices placed c
    (chosen_at (choices p) i).id → ⊥
in_hand_not_put arrivals taken choices placed since h apart p i c in' late was =
    let a = h.put was.0 in
    let e = same_choice arrivals taken choices placed since h apart was.0 p was.1 i
    (omega arith) in' was.3 in
    let f : placed was.0 ≡ placed p = ap placed e.0 in
    let g = was.2 in
    omega (arith, e.1)

-- positions after one more packet at a lane
pub position-added : (old new : ℕ → List ℕ) (c x : ℕ) (d : Chosen) → Added old new c x → d.id ≢ x
    → position new d ≡ position old d
position-added old new c x d added ne =
    elim (cases_eq d.choice.lane c) [
      | inl e ↦ (let a : new d.choice.lane ≡ old d.choice.lane ++ x ∷ [] = rw e added.here in
          rw (a, place_in-other d.id x (old d.choice.lane) ne) refl)
      | inr l ↦ rw (added.there d.choice.lane l) refl
    ]

-- ---- the hands of the producers

pub Hands-arrive : (arrivals later : ℕ → List ℕ) (taken : ℕ → ℕ) (choices : ℕ → List Chosen)
    (placed since : ℕ → ℕ) (p x : ℕ)
    → Changed arrivals later p (arrivals p ++ x ∷ [])
    → Hands arrivals taken choices placed since → Hands later taken choices placed since
Hands-arrive arrivals later taken choices placed since p x ch h =
    record {
      of_arrivals = λ q i in'. elim (cases_eq q p) [
        | inl e ↦ (
            let a = h.arrived q in let b = h.chosen q in
            let f : arrivals q ++ x ∷ [] ≡ later q = rw e (sym ch.here) in
            rw (← f, chosen-push_front (arrivals q) x 0 i (omega arith)) (h.of_arrivals q i in'))
        | inr ne ↦ rw (ch.there q ne) (h.of_arrivals q i in')
      ];
      arrived = λ q. elim (cases_eq q p) [
        | inl e ↦ (let a = h.arrived q in let f : later q ≡ arrivals q ++ x ∷ [] = rw e ch.here in
            rw (f, length-push) (omega arith))
        | inr ne ↦ rw (ch.there q ne) (h.arrived q)
      ];
      chosen = h.chosen;
      put = h.put;
      one = h.one;
      past = h.past;
    }

pub Hands-take : (arrivals : ℕ → List ℕ) (taken later : ℕ → ℕ) (choices : ℕ → List Chosen)
    (placed since : ℕ → ℕ) (p : ℕ)
    → Changed taken later p (taken p + 1) → taken p ≤ placed p → taken p < length (arrivals p)
    → Hands arrivals taken choices placed since → Hands arrivals later choices placed since
Hands-take arrivals taken later choices placed since p ch free more h =
    record {
      of_arrivals = h.of_arrivals;
      arrived = λ q. elim (cases_eq q p) [
        | inl e ↦ rw (e, ch.here) (omega arith)
        | inr ne ↦ rw (ch.there q ne) (h.arrived q)
      ];
      chosen = λ q. elim (cases_eq q p) [
        | inl e ↦ (let a = h.chosen p in rw (e, ch.here)
            (omega arith))
        | inr ne ↦ rw (ch.there q ne) (h.chosen q)
      ];
      put = h.put;
      one = λ q. elim (cases_eq q p) [
        | inl e ↦ rw (e, ch.here) (omega arith)
        | inr ne ↦ rw (ch.there q ne) (h.one q)
      ];
      past = h.past;
    }

pub Hands-weigh : (arrivals : ℕ → List ℕ) (taken : ℕ → ℕ) (choices later : ℕ → List Chosen)
    (placed since : ℕ → ℕ) (p : ℕ) (c : Chosen)
    → Changed choices later p (choices p ++ c ∷ []) → length (choices p) < taken p → c.id ≡ get_or
    (arrivals p) (length (choices p)) 0
    → Hands arrivals taken choices placed since → Hands arrivals taken later placed since
Hands-weigh arrivals taken choices later placed since p c ch more named h =
    record {
      of_arrivals = λ q i in'. elim (cases_eq q p) [
        | inl e ↦ (
            let f : later q ≡ choices p ++ c ∷ [] = rw e ch.here in
            let l : i < length (choices p) + 1 = rw (f, length-push) at in' in
            rw (f, e) (elim (cases_eq i (length (choices p))) [
              | inl last ↦ rw (last, chosen-push_last (choices p) c nobody) named
              | inr ne ↦ (let lt : i < length (choices p) = omega arith in
                  rw (chosen-push_front (choices p) c nobody i lt) (h.of_arrivals p i lt))
            ]))
        | inr ne ↦ rw (ch.there q ne) (h.of_arrivals q i (rw (ch.there q ne) at in'))
      ];
      arrived = h.arrived;
      chosen = λ q. elim (cases_eq q p) [
        | inl e ↦ rw (e, ch.here, length-push) (omega arith)
        | inr ne ↦ rw (ch.there q ne) (h.chosen q)
      ];
      put = λ q. elim (cases_eq q p) [
        | inl e ↦ (let a = h.put p in rw (e, ch.here, length-push)
            (omega arith))
        | inr ne ↦ rw (ch.there q ne) (h.put q)
      ];
      one = h.one;
      past = h.past;
    }

pub Hands-put : (arrivals : ℕ → List ℕ) (taken : ℕ → ℕ) (choices : ℕ → List Chosen)
    (placed later since : ℕ → ℕ) (p : ℕ)
    → Changed placed later p (placed p + 1) → placed p < length (choices p)
    → Hands arrivals taken choices placed since → Hands arrivals taken choices later since
Hands-put arrivals taken choices placed later since p ch more h =
    record {
      of_arrivals = h.of_arrivals;
      arrived = h.arrived;
      chosen = h.chosen;
      put = λ q. elim (cases_eq q p) [
        | inl e ↦ rw (e, ch.here) (omega arith)
        | inr ne ↦ rw (ch.there q ne) (h.put q)
      ];
      one = λ q. elim (cases_eq q p) [
        | inl e ↦ (let a = h.one p in rw (e, ch.here) (omega arith))
        | inr ne ↦ rw (ch.there q ne) (h.one q)
      ];
      past = λ q. elim (cases_eq q p) [
        | inl e ↦ (let a = h.past p in rw (e, ch.here) (omega arith))
        | inr ne ↦ rw (ch.there q ne) (h.past q)
      ];
    }

pub Hands-resize : (arrivals : ℕ → List ℕ) (taken : ℕ → ℕ) (choices : ℕ → List Chosen)
    (placed since later : ℕ → ℕ) (p : ℕ)
    → Changed since later p (length (choices p)) → placed p ≡ length (choices p)
    → Hands arrivals taken choices placed since → Hands arrivals taken choices placed later
Hands-resize arrivals taken choices placed since later p ch all h =
    record {
      of_arrivals = h.of_arrivals;
      arrived = h.arrived;
      chosen = h.chosen;
      put = h.put;
      one = h.one;
      past = λ q. elim (cases_eq q p) [
        | inl e ↦ rw (e, ch.here) (omega arith)
        | inr ne ↦ rw (ch.there q ne) (h.past q)
      ];
    }

-- a new packet arrives
pub Distinct-arrive : (arrivals later : ℕ → List ℕ) (p x : ℕ) → Changed arrivals later p
    (arrivals p ++ x ∷ [])
    → ((q i : ℕ) → i < length (arrivals q) → get_or (arrivals q) i 0 ≢ x) → Distinct arrivals
    → Distinct later
Distinct-arrive arrivals later p x ch fresh h q r i j iq jr e =
    let P : ℕ → ℕ → Type 0 =
    λ q i. ((i < length (arrivals q)) × (get_or (later q) i 0 ≡ get_or (arrivals q) i 0))
    ⊎ ((q ≡ p) × (i ≡ length (arrivals p)) × (get_or (later q) i 0 ≡ x)) in
    let one : (q i : ℕ) → i < length (later q) → P q i = λ q i in'. elim (cases_eq q p) [
      | inl e ↦ (
          let f : later q ≡ arrivals p ++ x ∷ [] = rw e ch.here in
          let l : i < length (arrivals p) + 1 = rw (f, length-push) at in' in
          elim (cases_eq i (length (arrivals p))) [
            | inl last ↦ inr (e, last, rw (f, last) (chosen-push_last (arrivals p) x 0))
            | inr ne ↦ (let lt : i < length (arrivals p) = omega arith in
                inl (rw e lt, rw (f, e) (chosen-push_front (arrivals p) x 0 i lt)))
          ])
      | inr ne ↦ inl (rw (ch.there q ne) at in', rw (ch.there q ne) refl)
    ] in
    elim (one q i iq) [
      | inl a ↦ elim (one r j jr) [
        | inl b ↦ h q r i j a.0 b.0 (sym a.1 ∙ e ∙ b.1)
        | inr b ↦ absurd (fresh q i a.0 (sym a.1 ∙ e ∙ b.2))
      ]
      | inr a ↦ elim (one r j jr) [
        | inl b ↦ absurd (fresh r j b.0 (sym b.1 ∙ sym e ∙ a.2))
        | inr b ↦ (a.0 ∙ sym b.0, a.1 ∙ sym b.1)
      ]
    ]

-- ---- the counts of the lanes

pub Counts-accept : (old new : ℕ → List ℕ) (pulled delivered retired : ℕ → ℕ) (c x : ℕ)
    → Added old new c x
    → Counts old pulled delivered retired → Counts new pulled delivered retired
Counts-accept old new pulled delivered retired c x added h =
    record {
      retired_first = h.retired_first;
      delivered_first = h.delivered_first;
      one = h.one;
      pulled_first =
          λ d. elim (cases_eq d c) [
            | inl e ↦ (let a = h.pulled_first c in
                rw (e, added.here, length-push) (omega arith))
            | inr ne ↦ rw (added.there d ne)
                (h.pulled_first d)
          ];
    }

pub Counts-pull : (accepted : ℕ → List ℕ) (pulled later delivered retired : ℕ → ℕ) (c : ℕ)
    → Changed pulled later c (pulled c + 1)
    → pulled c ≤ retired c → pulled c < length (accepted c)
    → Counts accepted pulled delivered retired → Counts accepted later delivered retired
Counts-pull accepted pulled later delivered retired c ch free more h =
    record {
      retired_first = h.retired_first;
      delivered_first = λ d. elim (cases_eq d c) [
        | inl e ↦ (let a = h.delivered_first c in
            rw (e, ch.here) (omega arith))
        | inr ne ↦ rw (ch.there d ne) (h.delivered_first d)
      ];
      pulled_first = λ d. elim (cases_eq d c) [
        | inl e ↦ rw (e, ch.here) (omega arith)
        | inr ne ↦ rw (ch.there d ne) (h.pulled_first d)
      ];
      one = λ d. elim (cases_eq d c) [
        | inl e ↦ rw (e, ch.here) (omega arith)
        | inr ne ↦ rw (ch.there d ne) (h.one d)
      ];
    }

pub Counts-deliver : (accepted : ℕ → List ℕ) (pulled delivered later retired : ℕ → ℕ) (c : ℕ)
    → Changed delivered later c (delivered c + 1)
    → delivered c < pulled c
    → Counts accepted pulled delivered retired → Counts accepted pulled later retired
Counts-deliver accepted pulled delivered later retired c ch more h =
    record {
      pulled_first = h.pulled_first;
      one = h.one;
      retired_first =
          λ d. elim (cases_eq d c) [
            | inl e ↦ (let a = h.retired_first c in rw (e, ch.here)
                (omega arith))
            | inr ne ↦ rw (ch.there d ne) (h.retired_first d)
          ];
      delivered_first = λ d. elim (cases_eq d c) [
        | inl e ↦ rw (e, ch.here) (omega arith)
        | inr ne ↦ rw (ch.there d ne) (h.delivered_first d)
      ];
    }

pub Counts-retire : (accepted : ℕ → List ℕ) (pulled delivered retired later : ℕ → ℕ) (c : ℕ)
    → Changed retired later c (retired c + 1)
    → retired c < delivered c
    → Counts accepted pulled delivered retired → Counts accepted pulled delivered later
Counts-retire accepted pulled delivered retired later c ch more h =
    record {
      pulled_first = h.pulled_first;
      delivered_first = h.delivered_first;
      retired_first = λ d. elim (cases_eq d c) [
        | inl e ↦ rw (e, ch.here) (omega arith)
        | inr ne ↦ rw (ch.there d ne) (h.retired_first d)
      ];
      one = λ d. elim (cases_eq d c) [
        | inl e ↦ (let a = h.one c in rw (e, ch.here) (omega arith))
        | inr ne ↦ rw (ch.there d ne) (h.one d)
      ];
    }
