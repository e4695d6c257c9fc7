-- The turns that explain a list have places in it.
use Rattle.std.proofs.Common.{length-append, append_assoc}
use Rattle.std.proofs.lemmas.List.Elements.{filter_map-append}
use Rattle.std.specs.List.{filter_map, cons_option}
use Rattle.hop_rule.proofs.Moments.{nth-first, nth-last, nth-old}
use Rattle.hop_rule.specs.Owns.{put_in, puts_of, visit_in, visits_of}
use Rattle.hop_delivery.proofs.Names.{◌≡◌, ◌⊎◌, inl, inr, ℕ, ◌+◌, ◌==◌, ◌<◌, List, [], ◌∷◌, ◌++◌}
use Rattle.hop_delivery.proofs.Names.{length, Option, Some, None, if◌then◌else◌, sym, refl, ap, ◌∙◌}
use Rattle.hop_delivery.proofs.Names.{subst, arith, dite, ℕ_discrete, StepBy, if_same, if_other}
use Rattle.hop_delivery.proofs.Names.{Put, nth_step, BoardStep, Lane, Gate, Offered, Entered, Left}
use Rattle.hop_delivery.proofs.Names.{Freed, some-is, none-some, nth-inside, Turn, turn_put}
use Rattle.hop_delivery.proofs.Names.{Explained}
use Rattle.hop_delivery.specs.Orders.Turns.{AreQuiet, visit_with}

-- ---- steps of a list in parts

module _ {A : Type 0} where
  pub nth-split : (xs ys : List A) (k : ℕ) (x : A) → nth_step (xs ++ ys) k ≡ Some x
      → (nth_step ys k ≡ Some x) ⊎ ((j : ℕ) × (nth_step xs j ≡ Some x) × (k ≡ length ys + j))
  nth-split [] ys k x at = inl at
  nth-split (y ∷ xs) ys k x at = dite (ℕ_discrete (length (xs ++ ys)) k) (λ e. inr (
    length xs,
    nth-last y xs
        ∙ (sym (if_same (length (xs ++ ys)) k (Some y) (nth_step (xs ++ ys) k) e) ∙ at),
    (let n = length-append xs ys in omega arith),
  )) (λ ne. elim (nth-split xs ys k x
      (sym (if_other (length (xs ++ ys)) k (Some y) (nth_step (xs ++ ys) k) ne) ∙ at)) [
        | inl old ↦ inl old
        | inr new ↦ (let inside = nth-inside xs new.0 x new.1 in
            inr (
              new.0,
              if_other (length xs) new.0 (Some y) (nth_step xs new.0)
                  (λ e. absurd (omega arith)) ∙ new.1,
              new.2,
            ))
      ])

  -- a list of which a part is looked for has it where one of its members is of that part
  pub part_has : {B : Type 0} (f : A → Option B) (xs : List A) (j : ℕ) (x : A) (y : B)
      → nth_step xs j ≡ Some x → f x ≡ Some y → 0 < length (filter_map f xs)
  part_has f [] j x y at is = none-some x at
  part_has {B} f (z ∷ xs) j x y at is = elim (nth-first z xs j x at) [
    | inl old ↦ (let more = part_has f xs j x y old is in by_head (f z) more)
    | inr new ↦ subst (λ (o : Option B). 0 < length (cons_option o (filter_map f xs)))
        (sym (ap f new.0 ∙ is)) (omega arith)
  ] where
    by_head : (o : Option B) → 0 < length (filter_map f xs)
        → 0 < length (cons_option o (filter_map f xs))
    by_head None more = more
    by_head (Some b) more = omega arith

-- ---- places

-- the step numbers of a turn's entry and of its put, which is made in the visit
pub record VisitAt (ds : List BoardStep) (t : Turn) (e u : ℕ) : Type 0 where
  pub enters : nth_step ds e ≡ Some (Gate (Entered t.word))
  pub puts : nth_step ds u ≡ Some (turn_put t)
  pub after : e < u
  pub stays : (k : ℕ) → e < k → k < u → nth_step ds k ≡ Some (Gate Left) → ⊥
  pub early : (j : ℕ) (d : BoardStep) → nth_step t.early j ≡ Some d → (k : ℕ) × (e < k) × (k < u)
      × (nth_step ds k ≡ Some d)

pub record Places (ds : List BoardStep) (ts : List (StepBy Turn)) : Type 0 where
  pub entered : ℕ → ℕ
  pub put : ℕ → ℕ
  pub visits : (j : ℕ) (t : StepBy Turn) → nth_step ts j ≡ Some t → VisitAt ds t.step (entered j)
      (put j)
  pub in_order : (j k : ℕ) → j < k → k < length ts → put j < entered k
  pub within : (j : ℕ) → j < length ts → put j < length ds
  pub all_puts : (k l id : ℕ) (hash : Option ℕ) (answer : Put) → nth_step ds k ≡ Some
      (Lane (Freed l (Offered id hash answer))) → (j : ℕ) × (j < length ts) × (put j ≡ k)

abbrev is_lane : BoardStep → ℕ
is_lane (Lane d) = 1
is_lane _ = 0

puts_has : (ds : List BoardStep) (j l id : ℕ) (hash : Option ℕ) (answer : Put) {X : Type 0}
    → puts_of ds ≡ [] → nth_step ds j ≡ Some (Lane (Freed l (Offered id hash answer))) → X
puts_has ds j l id hash answer none at = let some = part_has put_in ds j
    (Lane (Freed l (Offered id hash answer))) _ at refl in let n = ap length none in
    absurd (omega arith)

visits_has : (ds : List BoardStep) (j : ℕ) {X : Type 0} → visits_of ds ≡ [] → nth_step ds j ≡ Some
    (Gate Left) → X
visits_has ds j none at = let some = part_has visit_in ds j (Gate Left) Left at refl in let n =
    ap length none in absurd (omega arith)

module _ (t : StepBy Turn) (ts : List (StepBy Turn)) (newer late older : List BoardStep)
    (no_puts : puts_of newer ≡ []) (q_late : AreQuiet late) (q_early : AreQuiet t.step.early)
    (p : Places older ts) where
  abbrev turn : Turn
  turn = t.step

  abbrev early : List BoardStep
  early = turn.early

  abbrev from_entry : List BoardStep
  from_entry = Gate (Entered turn.word) ∷ older

  abbrev to_put : List BoardStep
  to_put = early ++ from_entry

  abbrev from_put : List BoardStep
  from_put = turn_put turn ∷ to_put

  abbrev to_leave : List BoardStep
  to_leave = late ++ from_put

  abbrev whole : List BoardStep
  whole = newer ++ (Gate Left ∷ to_leave)

  sizes : (length to_put ≡ length early + (length older + 1))
      × (length to_leave ≡ length late + (length to_put + 1))
      × (length whole ≡ length newer + (length to_leave + 1))
  sizes = let a = length-append early from_entry in let b = length-append late from_put in let c =
      length-append newer (Gate Left ∷ to_leave) in (omega arith, omega arith, omega arith)

  -- a step of an earlier part keeps its number
  in_put : (k : ℕ) → k < length from_put → nth_step whole k ≡ nth_step from_put k
  in_put k l = let s = sizes in let s1 = s.1 in let s2 = s.2 in
      nth-old newer (Gate Left ∷ to_leave) k (omega arith)
      ∙ (if_other (length to_leave) k (Some (Gate Left)) (nth_step to_leave k)
      (λ e. absurd (omega arith)) ∙ nth-old late from_put k l)

  in_early : (k : ℕ) → k < length to_put → nth_step whole k ≡ nth_step to_put k
  in_early k l = in_put k (omega arith) ∙ if_other (length to_put) k (Some (turn_put turn))
      (nth_step to_put k) (λ e. absurd (omega arith))

  in_entry : (k : ℕ) → k < length from_entry → nth_step whole k ≡ nth_step from_entry k
  in_entry k l = let s = sizes in let s0 = s.0 in in_early k (omega arith)
      ∙ nth-old early from_entry k l

  in_older : (k : ℕ) → k < length older → nth_step whole k ≡ nth_step older k
  in_older k l = in_entry k (omega arith) ∙ if_other (length older) k
      (Some (Gate (Entered turn.word))) (nth_step older k) (λ e. absurd (omega arith))

  nth-new : (xs ys : List BoardStep) (j : ℕ) (d : BoardStep) → nth_step xs j ≡ Some d
      → nth_step (xs ++ ys) (length ys + j) ≡ Some d
  nth-new [] ys j d at = none-some d at
  nth-new (x ∷ xs) ys j d at = let n = length-append xs ys in elim (nth-first x xs j d at) [
    | inl old ↦ (let inside = nth-inside xs j d old in if_other (length (xs ++ ys)) (length ys + j)
        (Some x) (nth_step (xs ++ ys) (length ys + j)) (λ e. absurd (omega arith))
        ∙ nth-new xs ys j d old)
    | inr new ↦ (let k = new.1 in if_same (length (xs ++ ys)) (length ys + j) (Some x)
        (nth_step (xs ++ ys) (length ys + j)) (omega arith) ∙ ap Some new.0)
  ]

  abbrev entered : ℕ → ℕ
  entered j = if length ts == j then length older else p.entered j

  abbrev put : ℕ → ℕ
  put j = if length ts == j then length to_put else p.put j

  this : VisitAt whole turn (length older) (length to_put)
  this = let s = sizes in let s0 = s.0 in record {
    enters = in_entry (length older) (omega arith) ∙ nth-last (Gate (Entered turn.word)) older;
    puts = in_put (length to_put) (omega arith) ∙ nth-last (turn_put turn) to_put;
    after = omega arith;
    stays = λ k from to at.
        elim (nth-split early from_entry k (Gate Left) (sym (in_early k to) ∙ at)) [
          | inl old ↦ (let i = nth-inside from_entry k (Gate Left) old in absurd (omega arith))
          | inr new ↦ visits_has early new.0 q_early.visits new.1
        ];
    early = λ j d at. (
        let inside = nth-inside early j d at in (
          length from_entry + j,
          omega arith,
          omega arith,
          in_early (length from_entry + j) (omega arith) ∙ nth-new early from_entry j d at,
        ));
  }

  earlier : (u : Turn) (e v : ℕ) → v < length older → VisitAt older u e v → VisitAt whole u e v
  earlier u e v l a = let lt = a.after in record {
    enters = in_older e (omega arith) ∙ a.enters;
    puts = in_older v l ∙ a.puts;
    after = a.after;
    stays = λ k from to at. a.stays k from to (sym (in_older k (omega arith)) ∙ at);
    early = λ j d at. (let b = a.early j d at in let to =
        b.2 in (b.0, b.1, b.2, in_older b.0 (omega arith) ∙ b.3));
  }

  visits_ : (j : ℕ) (u : StepBy Turn) → nth_step (t ∷ ts) j ≡ Some u → VisitAt whole u.step
      (entered j) (put j)
  visits_ j u at = dite (ℕ_discrete (length ts) j)
      (λ e. let same : t ≡ u = some-is t u (sym (if_same (length ts) j (Some t) (nth_step ts j) e)
      ∙ at) in
      subst (λ (z : StepBy Turn × (ℕ × ℕ)). VisitAt whole z.0.step z.1.0 z.1.1) (λ i. (
        same i,
        (
          sym (if_same (length ts) j (length older) (p.entered j) e) i,
          sym (if_same (length ts) j (length to_put) (p.put j) e) i,
        ),
      )) this)
      (λ ne. let at' = sym (if_other (length ts) j (Some t) (nth_step ts j) ne) ∙ at in
      subst (λ (z : ℕ × ℕ). VisitAt whole u.step z.0 z.1) (λ i. (
        sym (if_other (length ts) j (length older) (p.entered j) ne) i,
        sym (if_other (length ts) j (length to_put) (p.put j) ne) i,
      ))
      (earlier u.step (p.entered j) (p.put j) (p.within j (nth-inside ts j u at'))
      (p.visits j u at')))

  in_order_ : (j k : ℕ) → j < k → k < length (t ∷ ts) → put j < entered k
  in_order_ j k l m = let old = if_other (length ts) j (length to_put) (p.put j)
      (λ e. absurd (omega arith)) in dite (ℕ_discrete (length ts) k)
      (λ e. let new = if_same (length ts) k (length older) (p.entered k) e in let w = p.within j
      (omega arith) in omega arith)
      (λ ne. let new = if_other (length ts) k (length older) (p.entered k) ne in let w =
      p.in_order j k l (omega arith) in omega arith)

  within_ : (j : ℕ) → j < length (t ∷ ts) → put j < length whole
  within_ j l = let s = sizes in let s0 = s.0 in let s1 = s.1 in let s2 = s.2 in
      dite (ℕ_discrete (length ts) j)
      (λ e. let new = if_same (length ts) j (length to_put) (p.put j) e in omega arith)
      (λ ne. let old = if_other (length ts) j (length to_put) (p.put j) ne in let w = p.within j
      (omega arith) in omega arith)

  all_puts_ : (k l id : ℕ) (hash : Option ℕ) (answer : Put) → nth_step whole k ≡ Some
      (Lane (Freed l (Offered id hash answer))) → (j : ℕ) × (j < length (t ∷ ts)) × (put j ≡ k)
  all_puts_ k l id hash answer at =
      let d : BoardStep = Lane (Freed l (Offered id hash answer)) in
      elim (nth-split newer (Gate Left ∷ to_leave) k d at) [
        | inr a ↦ puts_has newer a.0 l id hash answer no_puts a.1
        | inl a ↦ elim (nth-first (Gate Left) to_leave k d a) [
          | inr b ↦ (let z = ap is_lane b.0 in absurd (omega arith))
          | inl b ↦ elim (nth-split late from_put k d b) [
            | inr c ↦ puts_has late c.0 l id hash answer q_late.puts c.1
            | inl c ↦ elim (nth-first (turn_put turn) to_put k d c) [
              | inr e ↦ (
                length ts,
                omega arith,
                if_same (length ts) (length ts) (length to_put) (p.put (length ts)) refl ∙ sym e.1,
              )
              | inl e ↦ elim (nth-split early from_entry k d e) [
                | inr f ↦ puts_has early f.0 l id hash answer q_early.puts f.1
                | inl f ↦ elim (nth-first (Gate (Entered turn.word)) older k d f) [
                  | inr g ↦ (let z = ap is_lane g.0 in absurd (omega arith))
                  | inl g ↦ (let o = p.all_puts k l id hash answer g in let inside = o.1 in (
                    o.0,
                    omega arith,
                    if_other (length ts) o.0 (length to_put) (p.put o.0)
                        (λ e. absurd (omega arith)) ∙ o.2,
                  ))
                ]
              ]
            ]
          ]
        ]
      ]

  places : Places whole (t ∷ ts)
  places = record {
    entered = entered;
    put = put;
    visits = visits_;
    in_order = in_order_;
    within = within_;
    all_puts = all_puts_;
  }

pub turns_have_places : (ds : List BoardStep) (ts : List (StepBy Turn)) → Explained ds ts
    → Places ds ts
turns_have_places ds [] e = record {
  entered = λ j. 0;
  put = λ j. 0;
  visits = λ j t at. none-some t at;
  in_order = λ j k l m. absurd (omega arith);
  within = λ j l. absurd (omega arith);
  all_puts = λ k l id hash answer at. puts_has ds k l id hash answer e at;
}
turns_have_places ds (t ∷ ts) (newer, late, older, is, no_puts, q_late, q_early, rest) =
    subst (λ (z : List BoardStep). Places z (t ∷ ts)) (sym is)
    (places t ts newer late older no_puts q_late q_early (turns_have_places older ts rest))

-- ---- how an explained list grows

-- steps without a put
pub explained_more : (more ds : List BoardStep) (ts : List (StepBy Turn)) → puts_of more ≡ []
    → Explained ds ts → Explained (more ++ ds) ts
explained_more more ds [] none e = filter_map-append put_in more ds
    ∙ (ap (λ xs. xs ++ puts_of ds) none ∙ e)
explained_more more ds (t ∷ ts) none (newer, late, older, is, no_puts, q_late, q_early, rest) = (
  more ++ newer,
  late,
  older,
  ap (λ xs. more ++ xs) is ∙ sym (append_assoc more newer (visit_with t.step late older)),
  filter_map-append put_in more newer ∙ (ap (λ xs. xs ++ puts_of newer) none ∙ no_puts),
  q_late,
  q_early,
  rest,
)

-- a visit with its put
pub explained_turn : (t : StepBy Turn) (late ds : List BoardStep) (ts : List (StepBy Turn))
    → AreQuiet late → AreQuiet t.step.early → Explained ds ts
    → Explained (visit_with t.step late ds) (t ∷ ts)
explained_turn t late ds ts q_late q_early e = ([], late, ds, refl, refl, q_late, q_early, e)
