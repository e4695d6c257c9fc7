use Rattle.std.proofs.Common.{ℕ, ◌≤◌, ◌<◌, ◌≡◌, ◌≢◌, Bool, true, false, List, [], ◌∷◌, ◌++◌, Option}
use Rattle.std.proofs.Common.{Some, None, length, refl, ◌∙◌, sym, arith, inl, inr, drop}
use Rattle.std.specs.Prelude.{◌==◌, ◌^◌}
use Rattle.std.proofs.Math.Seq.{drop-length}
use Rattle.std.specs.List.{All}
use Rattle.std.proofs.lemmas.List.{drop-append-le}
use Rattle.std.proofs.lemmas.List.Elements.{All-filter, All-drop, All-from_get_or}
use Rattle.std.proofs.lemmas.Bool.{cases_eq, cases_Bool, eqb-true}
use Rattle.steer_base.specs.Choices.{migrate}
use Rattle.steer_base.specs.Counters.{number}
use Rattle.steer_base.specs.Entries.{position, of_class, is_class, entry}
use Rattle.steer_base.proofs.EntriesLemmas.{of_class-no, of_class-yes, place_in-le}
use Rattle.steer_base.specs.declared.choice.Chosen.{Chosen}
use Rattle.hop_model.specs.Hop.{nobody, chosen_at}
use Rattle.hop_model.specs.Standing.{Standing}
use Rattle.hop_model.specs.Sound.{Stands, Past}
use Rattle.hop_core.proofs.Lists.{Changed, chosen-push_front}
use Rattle.hop_core.proofs.Gathered.{Added}
use Rattle.hop_core.proofs.Standing.{Standing-same, Standing-accept, Standing-weigh}
use Rattle.hop_core.proofs.Standing.{Standing-retire}
use Rattle.steer_base.proofs.RuleLemmas.{by_entry-class}

pub Stands-retire : (accepted : ℕ → List ℕ) (retired later : ℕ → ℕ) (choices : ℕ → List Chosen)
    (since : ℕ → ℕ) → ((d : ℕ) → retired d ≤ later d)
    → Stands accepted retired choices since → Stands accepted later choices since
Stands-retire accepted retired later choices since up h p k =
    Standing-retire accepted retired later _ up (h p k)

-- a resize: the class has no choice yet
pub Stands-resize : (accepted : ℕ → List ℕ) (retired : ℕ → ℕ) (choices : ℕ → List Chosen)
    (since later : ℕ → ℕ) (p : ℕ)
    → Changed since later p (length (choices p)) → Stands accepted retired choices since
    → Stands accepted retired choices later
Stands-resize accepted retired choices since later p ch h q k =
    elim (cases_eq q p) [
      | inl e ↦ rw (e, ch.here, drop-length) (λ i d in'. absurd (omega arith))
      | inr ne ↦ rw (ch.there q ne) (h q k)
    ]

pub Stands-weigh : (start : ℕ) (accepted : ℕ → List ℕ) (retired : ℕ → ℕ) (choices later : ℕ
    → List Chosen) (since : ℕ → ℕ) (p : ℕ) (c : Chosen)
    (class want : Option ℕ) (desired : ℕ) (online : ℕ → Bool)
    → start < 2 ^ 32 → ((d : ℕ) → length (accepted d) ≤ 262144)
    → ((d : ℕ) → retired d ≤ length (accepted d))
    → Changed choices later p (choices p ++ c ∷ [])
    → since p ≤ length (choices p)
    → c.choice ≡ migrate class want desired (entry start accepted (drop (since p) (choices p)))
    (λ d. number start (retired d)) online
    → position accepted c ≡ None
    → ((d : ℕ) → online d ≡ false → retired d ≡ length (accepted d))
    → Stands accepted retired choices since → Stands accepted retired later since
Stands-weigh start accepted retired choices later since p c None want desired online wide fits
    counts ch within e absent drained h q k =
    elim (cases_eq q p) [
      | inl f ↦ (
          let no : is_class k c.choice.class ≡ false = rw e refl in
          rw (
            f,
            ch.here,
            drop-append-le (since p) (choices p) (c ∷ []) within,
            of_class-no k
                (drop (since p) (choices p)) c no,
          ) (h p k))
      | inr ne ↦ rw (ch.there q ne) (h q k)
    ]
Stands-weigh start accepted retired choices later since p c (Some j) want desired online wide fits
    counts ch within e absent drained h q k =
    elim (cases_eq q p) [
      | inl f ↦ rw (f, ch.here, drop-append-le (since p) (choices p) (c ∷ []) within)
          (let named : c.choice.class ≡ Some j = rw e (by_entry-class j want desired _
          (λ d. number start (retired d)) online _) in
          elim (cases_Bool (k == j)) [
            | inl same ↦ (
                let kj : k ≡ j = eqb-true k j same in
                let mine : is_class k c.choice.class ≡ true = rw (named, same) refl in
                rw (of_class-yes k (drop (since p) (choices p)) c mine)
                (Standing-weigh start accepted retired (of_class k (drop (since p) (choices p))) c k
                want desired online wide fits counts (rw (e, ← kj) refl) absent drained
                (h p k)))
            | inr other ↦ (
                let not_mine : is_class k c.choice.class ≡ false = rw (named, other) refl in
                rw (of_class-no k (drop (since p) (choices p)) c not_mine) (h p k))
          ])
      | inr ne ↦ rw (ch.there q ne) (h q k)
    ]

-- the positions of the choices of one class since the last resize
pub positions : (old new : ℕ → List ℕ) (cs : List Chosen) (n k : ℕ) → ((i : ℕ) → i < length cs
    → position new (chosen_at cs i) ≡ position old (chosen_at cs i))
    → All (λ d. position new d ≡ position old d) (of_class k (drop n cs))
positions old new cs n k h =
    let P : Chosen → Type 0 = λ d. position new d ≡ position old d in
    All-filter (λ d. is_class k d.choice.class) P (drop n cs)
    (All-drop P n cs (All-from_get_or P cs nobody h))

pub Stands-same : (old new : ℕ → List ℕ) (retired : ℕ → ℕ) (choices : ℕ → List Chosen)
    (since : ℕ → ℕ) (q k : ℕ)
    → ((i : ℕ) → i < length (choices q) → position new (chosen_at (choices q) i) ≡ position old
    (chosen_at (choices q) i))
    → Standing old retired (of_class k (drop (since q) (choices q))) → Standing new retired
    (of_class k (drop (since q) (choices q)))
Stands-same old new retired choices since q k same h =
    Standing-same old new retired (of_class k (drop (since q) (choices q)))
    (positions old new (choices q) (since q) k same) h

-- an accepted put: only the packet in hand has a new position
pub Stands-accept : (old new : ℕ → List ℕ) (retired : ℕ → ℕ) (choices : ℕ → List Chosen)
    (since : ℕ → ℕ) (p : ℕ) (front : List Chosen) (c : Chosen)
    → choices p ≡ front ++ c ∷ [] → since p ≤ length front
    → Added old new c.choice.lane c.id → position old c ≡ None
    → ((i : ℕ) → i < length front → position new (chosen_at front i) ≡ position old
    (chosen_at front i))
    → ((q i : ℕ) → q ≢ p → i < length (choices q) → position new
    (chosen_at (choices q) i) ≡ position old (chosen_at (choices q) i))
    → Stands old retired choices since → Stands new retired choices since
Stands-accept old new retired choices since p front c is within added absent mine others h q k =
    elim (cases_eq q p) [
      | inl e ↦ (
          let cell : drop (since p) (choices p) ≡ drop (since p) front ++ c ∷ [] =
          rw is (drop-append-le (since p) front (c ∷ []) within) in
          let g : Standing old retired (of_class k (drop (since p) front ++ c ∷ [])) =
          rw cell at (h p k) in
          let same : All (λ d. position new d ≡ position old d)
          (of_class k (drop (since p) front)) = positions old new front (since p) k mine in
          rw (e, cell) (elim (cases_Bool (is_class k c.choice.class)) [
            | inl y ↦ rw (of_class-yes k (drop (since p) front) c y)
                (Standing-accept old new retired (of_class k (drop (since p) front)) c same absent
                added.here (rw (of_class-yes k (drop (since p) front) c y) at g))
            | inr n ↦ rw (of_class-no k (drop (since p) front) c n)
                (Standing-same old new retired (of_class k (drop (since p) front)) same
                (rw (of_class-no k (drop (since p) front) c n) at g))
          ]))
      | inr ne ↦ Stands-same old new retired choices since q k (λ i in'. others q i ne in') (h q k)
    ]

pub Past-retire : (accepted : ℕ → List ℕ) (retired later : ℕ → ℕ) (choices : ℕ → List Chosen)
    (since : ℕ → ℕ) → ((d : ℕ) → retired d ≤ later d)
    → Past accepted retired choices since → Past accepted later choices since
Past-retire accepted retired later choices since up h p i n in' at = let a = h p i n in' at in
    let b = up (chosen_at (choices p) i).choice.lane in omega arith

pub Past-weigh : (accepted : ℕ → List ℕ) (retired : ℕ → ℕ) (choices later : ℕ → List Chosen)
    (since : ℕ → ℕ) (p : ℕ) (c : Chosen)
    → Changed choices later p (choices p ++ c ∷ []) → since p ≤ length (choices p)
    → Past accepted retired choices since → Past accepted retired later since
Past-weigh accepted retired choices later since p c ch within h q i n in' =
    let e : chosen_at (later q) i ≡ chosen_at (choices q) i = elim (cases_eq q p) [
      | inl e ↦ (
          let f : later q ≡ choices p ++ c ∷ [] = rw e ch.here in
          let l : i < length (choices p) = (let g : i < since p = rw e at in' in omega arith) in
          rw (f, e) (chosen-push_front (choices p) c nobody i l))
      | inr ne ↦ rw (ch.there q ne) refl
    ] in
    rw e (h q i n in')

pub Past-same : (old new : ℕ → List ℕ) (retired : ℕ → ℕ) (choices : ℕ → List Chosen) (since : ℕ → ℕ)
    → ((q i : ℕ) → i < since q → position new (chosen_at (choices q) i) ≡ position old
    (chosen_at (choices q) i))
    → Past old retired choices since → Past new retired choices since
Past-same old new retired choices since same h q i n in' at = h q i n in' (sym (same q i in') ∙ at)

-- a resize, where each lane is empty
pub Past-resize : (accepted : ℕ → List ℕ) (retired : ℕ → ℕ) (choices : ℕ → List Chosen)
    (since : ℕ → ℕ)
    → ((d : ℕ) → retired d ≡ length (accepted d)) → Past accepted retired choices since
Past-resize accepted retired choices since drained q i n in' at =
    let c : Chosen = chosen_at (choices q) i in
    let a = place_in-le c.id (accepted c.choice.lane) n at in
    let b = drained c.choice.lane in omega arith
