-- What the parts of an event leave settled, over the lists and counts alone.
use Rattle.std.proofs.Common.{ℕ, ◌+◌, ◌≤◌, ◌<◌, ◌≡◌, ◌≢◌, ◌⊎◌, List, [], ◌∷◌, ◌++◌, Option, Some}
use Rattle.std.proofs.Common.{None, length, ap, ◌∙◌, sym, arith, inl, inr}
use Rattle.std.proofs.lemmas.Bool.{cases_eq, cases_lt}
use Rattle.steer_base.specs.Entries.{position}
use Rattle.steer_base.specs.declared.choice.Chosen.{Chosen}
use Rattle.hop_model.specs.Hop.{chosen_at, nobody}
use Rattle.hop_core.specs.Settled.{Settled}
use Rattle.hop_model.specs.Sound.{Distinct, Hands}
use Rattle.steer_base.proofs.EntriesLemmas.{place_in-le, place_in-other}
use Rattle.hop_core.proofs.Gathered.{Added}
use Rattle.hop_core.proofs.Lists.{Changed, chosen-push_front, chosen-push_last, length-push}
use Rattle.hop_core.proofs.Sound.{same_choice}

-- packets retire
pub Settled-retire : (choices : ℕ → List Chosen) (since placed : ℕ → ℕ) (accepted : ℕ → List ℕ)
    (retired later : ℕ → ℕ)
    (class_of : ℕ → ℕ → Option ℕ) (plain : ℕ → ℕ → ℕ) → ((d : ℕ) → retired d ≤ later d)
    → Settled choices since placed accepted retired class_of plain
    → Settled choices since placed accepted later class_of plain
Settled-retire choices since placed accepted retired later class_of plain more h =
    record {
      classes = h.classes;
      stands = λ p i from put none n at lt. h.stands p i from put none n at
          (let m = more (chosen_at (choices p) i).choice.lane in omega arith);
      goes = h.goes;
    }

-- Other settings: the classes of the choices since the last resize are the same, and what would
-- move is drained. A producer from n on has no choices.
pub Settled-set : (choices : ℕ → List Chosen) (since placed : ℕ → ℕ) (accepted : ℕ → List ℕ)
    (retired : ℕ → ℕ)
    (class_of now_class_of : ℕ → ℕ → Option ℕ) (plain after : ℕ → ℕ → ℕ) (n : ℕ)
    → ((p : ℕ) → placed p ≤ length (choices p)) → ((p : ℕ) → n ≤ p → length (choices p) ≡ 0)
    → ((p : ℕ) → p < n → length (choices p) ≤ placed p)
    → ((p i : ℕ) → p < n → since p ≤ i → i < length (choices p) → now_class_of p
    (chosen_at (choices p) i).id ≡ class_of p (chosen_at (choices p) i).id)
    → ((p x : ℕ) → p < n → (after p x ≡ plain p x) ⊎ (length (accepted (plain p x)) ≤ retired
    (plain p x)))
    → Settled choices since placed accepted retired class_of plain
    → Settled choices since placed accepted retired now_class_of after
Settled-set choices since placed accepted retired class_of now_class_of plain after n put none hands
    classes moved h =
    record {
      classes = λ p i from in'. elim (cases_lt p n) [
        | inl there ↦ h.classes p i from in' ∙ sym (classes p i there from in')
        | inr beyond ↦ absurd (let z = none p beyond in omega (arith, in', z))
      ];
      stands = λ p i from was free k at lt. (
          let c : Chosen = chosen_at (choices p) i in
          let upto = put p in
          elim (cases_lt p n) [
            | inl there ↦ (
                let stood : c.choice.lane ≡ plain p c.id = h.stands p i from was free k at lt in
                elim (moved p c.id there) [
                  | inl same ↦ stood ∙ sym same
                  | inr dry ↦ absurd (
                      let le = (place_in-le c.id (accepted c.choice.lane) k at).1 in
                      let d : length (accepted c.choice.lane) ≤ retired c.choice.lane =
                      rw stood dry in omega (arith, le, d, lt))
                ])
            | inr beyond ↦ absurd (let z = none p beyond in omega (arith, was, upto, z))
          ]);
      goes = λ p lt free. elim (cases_lt p n) [
        | inl there ↦ absurd (let o = hands p there in omega (arith, lt, o))
        | inr beyond ↦ absurd (let z = none p beyond in omega (arith, lt, z))
      ];
    }

-- a resize, with no packet between its choice and its put
pub Settled-resize : (choices : ℕ → List Chosen) (since later placed : ℕ → ℕ) (accepted : ℕ
    → List ℕ) (retired : ℕ → ℕ) (class_of now_class_of : ℕ → ℕ → Option ℕ) (plain : ℕ → ℕ → ℕ)
    (q : ℕ)
    → ((p : ℕ) → length (choices p) ≤ placed p) → ((p : ℕ) → placed p ≤ length (choices p))
    → Changed since later q (length (choices q))
    → ((p x : ℕ) → p ≢ q → now_class_of p x ≡ class_of p x)
    → Settled choices since placed accepted retired class_of plain
    → Settled choices later placed accepted retired now_class_of plain
Settled-resize choices since later placed accepted retired class_of now_class_of plain q out put ch
    same h =
    record {
      classes = λ p i a b. elim (cases_eq p q) [
        | inl e ↦ absurd (let f : later p ≡ length (choices p) = rw e ch.here in omega arith)
        | inr ne ↦ h.classes p i (rw (← ch.there p ne) a) b
            ∙ sym (same p (chosen_at (choices p) i).id ne)
      ];
      stands = λ p i a b none. elim (cases_eq p q) [
        | inl e ↦ absurd (let f : later p ≡ length (choices p) = rw e ch.here in
            let g = put p in omega arith)
        | inr ne ↦ h.stands p i (rw (← ch.there p ne) a) b none
      ];
      goes = λ p lt none. absurd (let o = out p in omega arith);
    }

-- a choice is made, with the class and the lane of the settings
pub Settled-weigh : (choices later : ℕ → List Chosen) (since placed : ℕ → ℕ) (accepted : ℕ → List ℕ)
    (retired : ℕ → ℕ) (class_of : ℕ → ℕ → Option ℕ) (plain : ℕ → ℕ → ℕ) (q : ℕ) (c : Chosen)
    → Changed choices later q (choices q ++ c ∷ []) → ((p : ℕ) → placed p ≤ length (choices p))
    → length (choices q) ≤ placed q
    → c.choice.class ≡ class_of q c.id → (c.choice.class ≡ None → c.choice.lane ≡ plain q c.id)
    → Settled choices since placed accepted retired class_of plain
    → Settled later since placed accepted retired class_of plain
Settled-weigh choices later since placed accepted retired class_of plain q c ch put free class lane
    h =
    let front : (i : ℕ) → i < length (choices q) → chosen_at (later q) i ≡ chosen_at (choices q) i =
    λ i lt. rw ch.here (chosen-push_front (choices q) c nobody i lt) in
    let last : chosen_at (later q) (length (choices q)) ≡ c =
    rw ch.here (chosen-push_last (choices q) c nobody) in
    let long : length (later q) ≡ length (choices q) + 1 = rw ch.here (length-push (choices q) c) in
    record {
      classes = λ p i a b. elim (cases_eq p q) [
        | inl e ↦ elim (cases_lt i (length (choices q))) [
          | inl lt ↦ rw (e, front i lt) (h.classes q i (rw (← e) a) lt)
          | inr ge ↦ (
              let l : length (later p) ≡ length (choices q) + 1 = rw e long in
              let is : i ≡ length (choices q) = omega arith in rw (e, is, last) class)
        ]
        | inr ne ↦ rw (ch.there p ne) (h.classes p i a (rw (← ch.there p ne) b))
      ];
      stands = λ p i a b none. elim (cases_eq p q) [
        | inl e ↦ (
            let lt : i < length (choices q) =
            (let g : placed p ≤ length (choices q) = rw e (put q) in omega arith) in
            let same : chosen_at (later p) i ≡ chosen_at (choices q) i = rw e (front i lt) in
            rw (same, e) (h.stands q i (rw (← e) a) (rw (← e) b) (rw same at none)))
        | inr ne ↦ rw (ch.there p ne) (h.stands p i a b (rw (ch.there p ne) at none))
      ];
      goes = λ p lt none. elim (cases_eq p q) [
        | inl e ↦ (
            let is : placed p ≡ length (choices q) = (let g = put q in
            let f : placed p ≡ placed q = ap placed e in omega arith) in
            let same : chosen_at (later p) (placed p) ≡ c = rw (is, e) last in
            rw (same, e) (lane (rw same at none)))
        | inr ne ↦ rw (ch.there p ne) (h.goes p (rw (ch.there p ne) at lt)
            (rw (ch.there p ne) at none))
      ];
    }

-- the packet in hand is accepted or dropped
pub Settled-put : (arrivals : ℕ → List ℕ) (taken : ℕ → ℕ) (choices : ℕ → List Chosen)
    (since placed later : ℕ → ℕ) (old new : ℕ → List ℕ) (retired : ℕ → ℕ) (class_of : ℕ → ℕ
    → Option ℕ) (plain : ℕ → ℕ → ℕ) (q : ℕ)
    → Hands arrivals taken choices placed since → placed q < length (choices q)
    → Changed placed later q (placed q + 1)
    → ((p i : ℕ) → i < placed p → (n : ℕ) → position new (chosen_at (choices p) i) ≡ Some n
    → position old (chosen_at (choices p) i) ≡ Some n)
    → Settled choices since placed old retired class_of plain
    → Settled choices since later new retired class_of plain
Settled-put arrivals taken choices since placed later old new retired class_of plain q hands more ch
    stays h =
    record {
      classes = h.classes;
      stands = λ p i a b none n at lt. elim (cases_eq p q) [
        | inl e ↦ (
            let l : later p ≡ placed q + 1 = rw e ch.here in
            elim (cases_lt i (placed q)) [
              | inl less ↦ (let b2 : i < placed p = rw e less in h.stands p i a b2 none n
                  (stays p i b2 n at) lt)
              | inr ge ↦ (
                  let is : i ≡ placed p =
                  (let f : placed p ≡ placed q = ap placed e in omega arith) in
                  rw is (h.goes p (rw e more) (rw is at none)))
            ])
        | inr ne ↦ (let b2 : i < placed p = rw (← ch.there p ne) b in h.stands p i a b2 none n
            (stays p i b2 n at) lt)
      ];
      goes = λ p lt none. elim (cases_eq p q) [
        | inl e ↦ absurd (let l : later p ≡ placed q + 1 = rw e ch.here in let t = hands.chosen q in
            let o = hands.one q in let f : length (choices p) ≡ length (choices q) =
            ap (λ q. length (choices q)) e in let g = hands.arrived q in omega arith)
        | inr ne ↦ (let s = ch.there p ne in rw s (h.goes p (rw s at lt) (rw s at none)))
      ];
    }

-- an accepted packet leaves the positions of the others
pub positions_stay : (arrivals : ℕ → List ℕ) (taken : ℕ → ℕ) (choices : ℕ → List Chosen)
    (since placed : ℕ → ℕ) (old new : ℕ → List ℕ) (q : ℕ)
    → Hands arrivals taken choices placed since → Distinct arrivals → placed q < length (choices q)
    → Added old new (chosen_at (choices q) (placed q)).choice.lane
    (chosen_at (choices q) (placed q)).id
    → (p i : ℕ) → i < placed p → (n : ℕ) → position new (chosen_at (choices p) i) ≡ Some n
    → position old (chosen_at (choices p) i) ≡ Some n
positions_stay arrivals taken choices since placed old new q hands apart more added p i lt n at =
    let hand : Chosen = chosen_at (choices q) (placed q) in
    let c : Chosen = chosen_at (choices p) i in
    let other : c.id ≢ hand.id = λ e. (
    let f = same_choice arrivals taken choices placed since hands apart p q i (placed q)
    (let a = hands.put p in omega arith) more e in
    let g : placed p ≡ placed q = ap placed f.0 in omega (arith, f.1)) in
    elim (cases_eq c.choice.lane hand.choice.lane) [
      | inl e ↦ (let g : new c.choice.lane ≡ old c.choice.lane ++ hand.id ∷ [] = rw e added.here in
          sym (place_in-other c.id hand.id (old c.choice.lane) other) ∙ (rw g at at))
      | inr ne ↦ (rw (added.there c.choice.lane ne) at at)
    ]
