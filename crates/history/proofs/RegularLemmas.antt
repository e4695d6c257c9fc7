-- What follows of a regular history: each packet's own queue, lane, application and transmit queue,
-- and short lists.
use Rattle.std.proofs.Common.{ℕ, ◌+◌, ◌<◌, ◌≡◌, ◌≢◌, true, List, [], ◌∷◌, ◌++◌, Option, Some, None}
use Rattle.std.proofs.Common.{map, length, refl, ap, ◌∙◌, sym, arith, suc, zero, inl, inr, get_or}
use Rattle.std.proofs.Common.{subst}
use Rattle.std.specs.Prelude.{◌==◌}
use Rattle.std.specs.List.{range_with_len}
use Rattle.std.specs.Option.{option_map, is_some}
use Rattle.std.proofs.lemmas.Bool.{cases_Bool, cases_eq, eqb-true}
use Rattle.std.proofs.lemmas.List.{get_or_default}
use Rattle.steer_base.specs.Orders.{IsPrefix}
use Rattle.steer_base.specs.declared.choice.Chosen.{Chosen}
use Rattle.steer_base.specs.declared.packet.Packet.{Packet}
use Rattle.history.specs.Finding.{is_in, found}
use Rattle.history.specs.Lines.{choice_in, choice_of, tx_choice_of}
use Rattle.history.specs.Lists.{no_arrival, list_at, lane_at, drop_ids, arrival_of, arrivals_at}
use Rattle.history.specs.Lists.{app_at, no_packet, packet_at}
use Rattle.history.specs.Regular.{Regular, HasChoice}
use Rattle.history.specs.declared.arrival.Arrival.{Arrival}
use Rattle.history.specs.declared.history.History.{History}
use Rattle.history.proofs.FindingLemmas.{is_in-here, is_in-past, found-here, found-past}
use Rattle.history.proofs.OwnLemmas.{own-first}

-- Lists.
pub is_in-append : (x : ℕ) (xs ys : List ℕ) → is_in x xs ≡ true → is_in x (xs ++ ys) ≡ true
is_in-append x [] ys h = absurd (cc)
is_in-append x (y ∷ xs) ys h =
    elim (cases_eq x y) [
      | inl e ↦ is_in-here x y (xs ++ ys) e
      | inr ne ↦ is_in-past x y (xs ++ ys) ne ∙ is_in-append x xs ys (sym (is_in-past x y xs ne)
          ∙ h)
    ]

pub is_in-prefix : (x : ℕ) (xs ys : List ℕ) → IsPrefix xs ys → is_in x xs ≡ true → is_in x ys ≡ true
is_in-prefix x xs ys p h = subst (λ zs. is_in x zs ≡ true) p.1 (is_in-append x xs p.0 h)

pub found-key : {A : Type 0} (key : A → ℕ) (x : ℕ) (xs : List A) (a : A) → found key x xs ≡ Some a
    → key a ≡ x
found-key key x [] a e = absurd (cc)
found-key key x (b ∷ rest) a e =
    elim (cases_eq x (key b)) [
      | inl t ↦ let f : found key x (b ∷ rest) ≡ Some b = found-here key x b rest t in
          let g : b ≡ a = cc in ap key (sym g) ∙ sym t
      | inr ne ↦ found-key key x rest a (sym (found-past key x b rest ne) ∙ e)
    ]

pub is_some-found : {A : Type 0} (key : A → ℕ) (x : ℕ) (xs : List A)
    → is_some (found key x xs) ≡ is_in x (map key xs)
is_some-found key x [] = refl
is_some-found key x (a ∷ rest) =
    elim (cases_eq x (key a)) [
      | inl t ↦ ap is_some (found-here key x a rest t) ∙ sym (is_in-here x (key a) (map key rest) t)
      | inr ne ↦ ap is_some (found-past key x a rest ne) ∙ is_some-found key x rest
          ∙ sym (is_in-past x (key a) (map key rest) ne)
    ]

is_some-map : {A B : Type 0} (f : A → B) (o : Option A) → is_some (option_map f o) ≡ is_some o
is_some-map f None = refl
is_some-map f (Some a) = refl

pub is_some-choice_in : (x : ℕ) (cs : List Chosen) → is_some (choice_in x cs) ≡ is_in x
    (map (λ c. c.id) cs)
is_some-choice_in x cs = is_some-map (λ c. c.choice) (found (λ c. c.id) x cs) ∙ is_some-found
    (λ c. c.id) x cs

pub some-is : {A : Type 0} (o : Option A) → is_some o ≡ true → (a : A) × (o ≡ Some a)
some-is None e = absurd (cc)
some-is (Some a) e = (a, refl)

-- Arrivals that are numbered from i.
abbrev pub AreNumbered : ℕ → List Arrival → Type 0
AreNumbered i arrivals = map (λ a. a.id) arrivals ≡ range_with_len i (length arrivals)

abbrev head : List ℕ → ℕ
head [] = 0
head (x ∷ xs) = x

abbrev tail : List ℕ → List ℕ
tail [] = []
tail (x ∷ xs) = xs

pub numbered-head : (i : ℕ) (a : Arrival) (rest : List Arrival) → AreNumbered i (a ∷ rest)
    → a.id ≡ i
numbered-head i a rest e = ap head e

pub numbered-tail : (i : ℕ) (a : Arrival) (rest : List Arrival) → AreNumbered i (a ∷ rest)
    → AreNumbered (i + 1) rest
numbered-tail i a rest e = ap tail e

pub found-numbered : (i j : ℕ) (arrivals : List Arrival) (d : Arrival) → AreNumbered i arrivals
    → j < length arrivals → found (λ a. a.id) (i + j) arrivals ≡ Some (get_or arrivals j d)
found-numbered i j [] d e l = absurd (omega arith)
found-numbered i zero (a ∷ rest) d e l =
    let h : a.id ≡ i = numbered-head i a rest e in found-here (λ b. b.id) (i + 0) a rest
    (omega arith)
found-numbered i (suc j) (a ∷ rest) d e l =
    let h : a.id ≡ i = numbered-head i a rest e in
    let n : i + suc j ≡ i + 1 + j = omega arith in
    let past : i + suc j ≢ a.id = λ f. omega arith in
    found-past (λ b. b.id) (i + suc j) a rest past ∙ ap (λ m. found (λ b. b.id) m rest) n
    ∙ found-numbered (i + 1) j rest d (numbered-tail i a rest e) (omega arith)

pub arrival-at : (x : ℕ) (arrivals : List Arrival) → AreNumbered 0 arrivals → x < length arrivals
    → arrival_of arrivals x ≡ get_or arrivals x no_arrival
arrival-at x arrivals e l =
    let n : 0 + x ≡ x = omega arith in
    rw (subst (λ m. found (λ a. a.id) m arrivals ≡ Some (get_or arrivals x no_arrival)) n
    (found-numbered 0 x arrivals no_arrival e l)) refl

-- an arrival of a queue is one of the numbers from i on
pub at-queue : (q x i : ℕ) (arrivals : List Arrival) → AreNumbered i arrivals
    → is_in x (arrivals_at arrivals q) ≡ true
    → (j : ℕ) × (j < length arrivals) × (x ≡ i + j) × ((get_or arrivals j no_arrival).queue ≡ q)
at-queue q x i [] e h = absurd (cc)
at-queue q x i (a ∷ rest) e h =
    let here : a.id ≡ i = numbered-head i a rest e in
    let further = λ (k : is_in x (arrivals_at rest q) ≡ true).
    let w = at-queue q x (i + 1) rest (numbered-tail i a rest e) k in
    let p : (j : ℕ) × (j < length (a ∷ rest)) × (x ≡ i + j)
    × ((get_or (a ∷ rest) j no_arrival).queue ≡ q) =
    (suc w.0, omega (arith, w.1), omega (arith, w.2), w.3) in p in
    elim (cases_Bool (a.queue == q)) [
      | inl t ↦
          let f : is_in x (arrivals_at (a ∷ rest) q) ≡ is_in x (a.id ∷ arrivals_at rest q) =
          rw t refl in
          elim (cases_eq x a.id) [
            | inl u ↦ (0, omega arith, omega arith, eqb-true a.queue q t)
            | inr u ↦ further (sym (is_in-past x a.id (arrivals_at rest q) u) ∙ sym f ∙ h)
          ]
      | inr t ↦ let f : is_in x (arrivals_at (a ∷ rest) q) ≡ is_in x (arrivals_at rest q) =
          rw t refl in further (sym f ∙ h)
    ]

pub queue-of : (q x : ℕ) (arrivals : List Arrival) → AreNumbered 0 arrivals
    → is_in x (arrivals_at arrivals q) ≡ true → (x < length arrivals)
    × ((arrival_of arrivals x).queue ≡ q)
queue-of q x arrivals e h =
    let w = at-queue q x 0 arrivals e h in
    let n : w.0 ≡ x = omega (arith, w.2) in
    let l : x < length arrivals = omega (arith, w.1, n) in (
      l,
      ap (λ a. a.queue) (arrival-at x arrivals e l)
          ∙ ap (λ j. (get_or arrivals j no_arrival).queue) (sym n) ∙ w.3,
    )

-- What a regular history has of a packet.
module _ (packets : List Packet) (apps : ℕ) (h : History) (regular : Regular packets apps h) where
  -- a choice for it is in the list of its queue alone
  pub choice-queue : (q x : ℕ) → is_some (choice_in x (list_at h.choices q)) ≡ true
      → (x < length h.arrivals) × ((arrival_of h.arrivals x).queue ≡ q)
  choice-queue q x s =
      queue-of q x h.arrivals regular.arrived.numbered
      (is_in-prefix x (map (λ c. c.id) (list_at h.choices q)) (arrivals_at h.arrivals q)
      (regular.arrived.chosen q) (sym (is_some-choice_in x (list_at h.choices q)) ∙ s))

  pub choice-own : (x : ℕ) → choice_of h x ≡ choice_in x
      (list_at h.choices (arrival_of h.arrivals x).queue)
  choice-own x = own-first (choice_in x) [] h.choices (Some (arrival_of h.arrivals x).queue) refl
      (λ q s. ap (λ n. Some n) (choice-queue q x s).1)

  -- what has a choice at a lane arrived, and that is its choice
  pub choice-lane : (x c : ℕ) → HasChoice h.choices x c → (x < length h.arrivals)
      × (option_map (λ d. d.lane) (choice_of h x) ≡ Some c)
  choice-lane x c w =
      let at = choice-queue w.0 x (ap is_some w.2) in
      (at.0, rw (choice-own x, at.1, w.2, w.3) refl)

  pub lane-accepted : (c x : ℕ) → is_in x (lane_at h.lanes c).accepted ≡ true → option_map
      (λ d. d.lane) (choice_of h x) ≡ Some c
  lane-accepted c x s = (choice-lane x c (regular.steered.accepted c x s)).1

  pub lane-dropped : (c x : ℕ) → is_in x (drop_ids (lane_at h.lanes c)) ≡ true → option_map
      (λ d. d.lane) (choice_of h x) ≡ Some c
  lane-dropped c x s = (choice-lane x c (regular.steered.dropped c x s)).1

  pub arrived-accepted : (c x : ℕ) → is_in x (lane_at h.lanes c).accepted ≡ true
      → x < length h.arrivals
  arrived-accepted c x s = (choice-lane x c (regular.steered.accepted c x s)).0

  pub arrived-dropped : (c x : ℕ) → is_in x (drop_ids (lane_at h.lanes c)) ≡ true
      → x < length h.arrivals
  arrived-dropped c x s = (choice-lane x c (regular.steered.dropped c x s)).0

  pub arrived-inbox : (a x : ℕ) → is_in x (list_at h.inboxes a) ≡ true → x < length h.arrivals
  arrived-inbox a x s = let w = regular.delivered.accepted a x s in arrived-accepted w.0 x w.1

  -- a reply to it is in the lists of its application alone
  pub sent-inbox : (a x : ℕ) → is_in x (map (λ s. s.id) (list_at h.sent a)) ≡ true
      → is_in x (list_at h.inboxes a) ≡ true
  sent-inbox a x s = is_in-prefix x (map (λ d. d.id) (list_at h.sent a)) (list_at h.inboxes a)
      (regular.replies.sent a) s

  pub tx_choice-sent : (a x : ℕ) → is_some (choice_in x (list_at h.tx_choices a)) ≡ true
      → is_in x (map (λ s. s.id) (list_at h.sent a)) ≡ true
  tx_choice-sent a x s =
      is_in-prefix x (map (λ c. c.id) (list_at h.tx_choices a)) (map (λ d. d.id) (list_at h.sent a))
      (regular.replies.chosen a)
      (sym (is_some-choice_in x (list_at h.tx_choices a)) ∙ s)

  pub tx_choice-app : (a x : ℕ) → is_some (choice_in x (list_at h.tx_choices a)) ≡ true
      → app_at packets apps x ≡ a
  tx_choice-app a x s = regular.delivered.own a x (sent-inbox a x (tx_choice-sent a x s))

  pub tx_choice-own : (x : ℕ) → tx_choice_of h x ≡ choice_in x
      (list_at h.tx_choices (app_at packets apps x))
  tx_choice-own x = own-first (choice_in x) [] h.tx_choices (Some (app_at packets apps x)) refl
      (λ a s. ap (λ n. Some n) (tx_choice-app a x s))

  pub tx_choice-lane : (x t : ℕ) → HasChoice h.tx_choices x t → (x < length h.arrivals)
      × (option_map (λ d. d.lane) (tx_choice_of h x) ≡ Some t)
  tx_choice-lane x t w =
      let s : is_some (choice_in x (list_at h.tx_choices w.0)) ≡ true = ap is_some w.2 in
      let app : app_at packets apps x ≡ w.0 = tx_choice-app w.0 x s in (
        arrived-inbox w.0 x (sent-inbox w.0 x (tx_choice-sent w.0 x s)),
        rw (
          tx_choice-own x,
          app,
          w.2,
          w.3,
        ) refl,
      )

  pub tx_lane-accepted : (t x : ℕ) → is_in x (lane_at h.tx_lanes t).accepted ≡ true → option_map
      (λ d. d.lane) (tx_choice_of h x) ≡ Some t
  tx_lane-accepted t x s = (tx_choice-lane x t (regular.shipped.accepted t x s)).1

  pub arrived-shipped : (t x : ℕ) → is_in x (lane_at h.tx_lanes t).accepted ≡ true
      → x < length h.arrivals
  arrived-shipped t x s = (tx_choice-lane x t (regular.shipped.accepted t x s)).0

  pub arrived-port : (x : ℕ) → is_in x h.port ≡ true → x < length h.arrivals
  arrived-port x s = let w = regular.shipped.port x s in arrived-shipped w.0 x w.1

-- The packet at the index of an arrival is that of the capture.
pub packet-at : (packets : List Packet) (apps : ℕ) (h : History) → Regular packets apps h
    → (x : ℕ) (p : Packet) → x < length h.arrivals → p ≡ get_or packets x p
    → p ≡ packet_at packets x
packet-at packets apps h regular x p here is =
    is
    ∙ get_or_default packets x p no_packet (omega (arith, here, regular.arrived.of_the_capture))
