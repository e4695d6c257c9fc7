-- Lanes that the controller found empty before it set.
use Rattle.std.proofs.Common.{cond, append_assoc}
use Rattle.steer_base.specs.Commands.{is_affected}
use Rattle.steer_base.specs.Sets.{those_below}
use Rattle.steer_base.proofs.SetsLemmas.{those_below-more}
use Rattle.hop_rule.specs.Gates.{openings}
use Rattle.board_api.specs.Calls.Results.{IsEmpty, Looked, looking}
use Rattle.hop_delivery.specs.Orders.Commands.{AreAffected, NamesCpu}
use Rattle.hop_delivery.specs.Orders.Premises.{AllFindEmpty, FindsEmpty, WasFoundEmpty}
use Rattle.hop_delivery.specs.Orders.ReceiveSettings.{receive_steering}
use Rattle.hop_delivery.proofs.Orders.CommandLemmas.{received_commands_empty}
use Rattle.run_coupling.specs.Laws.EmptiedLanes.{TriesFindEmpty}
use Rattle.run_coupling.specs.Coupling.EmptiedLanes.{AllFindLanes, FindsAllEmpty, FindsLanes}
use Rattle.run_coupling.specs.Coupling.EmptiedLanes.{NoSets, is_set}
use Rattle.run_coupling.proofs.Names.{◌≡◌, inl, inr, ℕ, zero, suc, ◌+◌, ◌<◌, Bool, true, false}
use Rattle.run_coupling.proofs.Names.{List, [], ◌∷◌, ◌++◌, length, map, All, if◌then◌else◌, sym}
use Rattle.run_coupling.proofs.Names.{refl, ap, ◌∙◌, subst, arith, All-head, All-tail, dite}
use Rattle.run_coupling.proofs.Names.{ℕ_discrete, has, Command, gate_steps, own_settings}
use Rattle.run_coupling.proofs.Names.{BoardSizes, BoardStep, Gate, Weighed, Counted, Shut, Set}
use Rattle.run_coupling.proofs.Names.{SettingChange, received_sets, Queues, Steering, Try}
use Rattle.run_coupling.proofs.Names.{steps_of_tries, words_after}

-- ---- looks at lanes

pub looking-append : (xs : List Looked) (a b : List BoardStep) → looking xs (a ++ b)
    ≡ looking xs a ++ b
looking-append [] a b = refl
looking-append (x ∷ xs) a b = looking-append xs (Counted x.lane x.tail ∷ Weighed x.lane x.head ∷ a)
    b

pub looking-split : (xs : List Looked) (x : Looked) (ys : List Looked) (b : List BoardStep)
    → looking (xs ++ x ∷ ys) b
    ≡ looking ys (Counted x.lane x.tail ∷ Weighed x.lane x.head ∷ looking xs b)
looking-split [] x ys b = refl
looking-split (z ∷ xs) x ys b =
    looking-split xs x ys (Counted z.lane z.tail ∷ Weighed z.lane z.head ∷ b)

pub gates-looking : (xs : List Looked) (b : List BoardStep)
    → gate_steps (looking xs b) ≡ gate_steps b
gates-looking [] b = refl
gates-looking (x ∷ xs) b = gates-looking xs (Counted x.lane x.tail ∷ Weighed x.lane x.head ∷ b)

pub no-sets-looking : (xs : List Looked) (b : List BoardStep) → NoSets b → NoSets (looking xs b)
no-sets-looking [] b none = none
no-sets-looking (x ∷ xs) b none =
    no-sets-looking xs (Counted x.lane x.tail ∷ Weighed x.lane x.head ∷ b) (refl, (refl, none))

-- ---- members of a set of lanes

below-has : (n : ℕ) (test : ℕ → Bool) (l : ℕ) → l < n → test l ≡ true
    → (front : List ℕ) × (back : List ℕ) × (those_below n test ≡ front ++ l ∷ back)
below-has zero test l less passes = absurd (omega arith)
below-has (suc n) test l less passes =
    let next : suc n ≡ n + 1 = omega arith in
    let last : List ℕ = cond (test n) (n ∷ []) [] in
    let all : those_below (suc n) test ≡ those_below n test ++ last =
    ap (λ k. those_below k test) next ∙ those_below-more n test in
    dite (ℕ_discrete l n)
    (λ e. (
      those_below n test,
      [],
      all
          ∙ (ap (λ b. those_below n test ++ cond b (n ∷ []) []) (ap test (sym e) ∙ passes)
          ∙ ap (λ k. those_below n test ++ k ∷ []) (sym e)),
    ))
    (λ ne.
    let b = below-has n test l (omega arith) passes in (
      b.0,
      b.1 ++ last,
      all ∙ (ap (λ xs. xs ++ last) b.2 ∙ append_assoc b.0 (l ∷ b.1) last),
    ))

abbrev tail-of : List ℕ → List ℕ
tail-of [] = []
tail-of (x ∷ xs) = xs

abbrev head-of : List ℕ → ℕ
head-of [] = 0
head-of (x ∷ xs) = x

map-split : (xs : List Looked) (front : List ℕ) (l : ℕ) (back : List ℕ)
    → map (λ (x : Looked). x.lane) xs ≡ front ++ l ∷ back
    → (a : List Looked) × (x : Looked) × (b : List Looked) × (xs ≡ a ++ x ∷ b) × (x.lane ≡ l)
map-split [] [] l back is = let n = ap length is in absurd (omega arith)
map-split [] (y ∷ front) l back is = let n = ap length is in absurd (omega arith)
map-split (x ∷ xs) [] l back is = ([], x, xs, refl, ap head-of is)
map-split (x ∷ xs) (y ∷ front) l back is =
    let t = map-split xs front l back (ap tail-of is) in
    (x ∷ t.0, t.1, t.2, ap (λ zs. x ∷ zs) t.3, t.4)

all-mid : {A : Type 0} (P : A → Type 0) (a : List A) (x : A) (b : List A) → All P (a ++ x ∷ b) → P x
all-mid P [] x b all = All-head P x b all
all-mid P (y ∷ a) x b all = all-mid P a x b (All-tail P y (a ++ x ∷ b) all)

found_at : (about : BoardSizes) (looked : List Looked) (word l : ℕ) (older : List BoardStep)
    (front back : List ℕ) → map (λ (x : Looked). x.lane) looked ≡ front ++ l ∷ back
    → All IsEmpty looked → WasFoundEmpty (looking looked (Gate (Shut word) ∷ []) ++ older) l
found_at about looked word l older front back is empty =
    let t = map-split looked front l back is in
    let x : Looked = t.1 in
    let base : List BoardStep = Gate (Shut word) ∷ [] in
    record {
      since = looking looked [];
      older = older;
      word = word;
      closed =
          ap (λ ds. ds ++ older) (looking-append looked [] base)
          ∙ append_assoc (looking looked []) base older;
      stays = ap openings (gates-looking looked []);
      after = looking t.2 [];
      between = [];
      first = looking t.0 [];
      head = x.head;
      tail = x.tail;
      loads =
          ap (λ xs. looking xs []) t.3
          ∙ (looking-split t.0 x t.2 []
          ∙ (looking-append t.2 [] (Counted x.lane x.tail ∷ Weighed x.lane x.head ∷ looking t.0 [])
          ∙ ap (λ k. looking t.2 [] ++ Counted k x.tail ∷ Weighed k x.head ∷ looking t.0 []) t.4));
      equal = all-mid IsEmpty t.0 x t.2 (subst (All IsEmpty) t.3 empty);
    }

-- ---- all steps

module _ (about : BoardSizes) (r : Steering) where
  finds-none : (before : List BoardStep) (d : BoardStep) → is_set d ≡ false
      → FindsEmpty about r before d
  finds-none before (Gate (Set i v)) quiet =
      let n : suc zero ≡ zero = ap (λ (b : Bool). if b then suc zero else zero) quiet in
      absurd (omega (arith, n))
  finds-none before d quiet = tt

  all-quiet : (xs ys : List BoardStep) → NoSets xs → AllFindEmpty about r ys
      → AllFindEmpty about r (xs ++ ys)
  all-quiet [] ys none all = all
  all-quiet (x ∷ xs) ys none all = (finds-none (xs ++ ys) x none.0, all-quiet xs ys none.1 all)

module _ (about : BoardSizes) (q : Queues) (cpus txs : ℕ) (f : Try → List BoardStep)
    (lanes : about.lanes ≡ cpus) where
  abbrev r : Steering
  r = receive_steering q

  found_one : (t : Try) (ts : List Try) (m : SettingChange)
      → received_sets q (words_after about (received_sets q) f ts) t.given.command ≡ m ∷ []
      → NamesCpu t.given.command → FindsAllEmpty about q.homes cpus txs t.given.command m (f t)
      → AllFindEmpty about r (steps_of_tries f ts)
      → AllFindEmpty about r (steps_of_tries f (t ∷ ts))
  found_one t ts m one names e all =
      let older : List BoardStep = steps_of_tries f ts in
      let c : Command = t.given.command in
      let looks : List BoardStep = looking e.looked (Gate (Shut e.word) ∷ []) in
      let before : List BoardStep = looks ++ older in
      let same : gate_steps before ≡ Shut e.word ∷ gate_steps older =
      ap gate_steps (sym (looking-append e.looked (Gate (Shut e.word) ∷ []) older))
      ∙ gates-looking e.looked (Gate (Shut e.word) ∷ older) in
      let s : ℕ → ℕ = own_settings about (gate_steps before) in
      let words : s ≡ words_after about (received_sets q) f ts = ap (own_settings about) same in
      let finds : FindsEmpty about r before (Gate (Set m.word m.value)) =
      λ l less affects. (
      let few : l < cpus = subst (λ n. l < n) lanes less in
      let affected = All-head
      (λ (z : SettingChange). r.affects s z.word z.value l ≡ true → is_affected c q.homes cpus txs l
      ≡ true)
      m []
      (subst (AreAffected r s c q.homes cpus txs l)
      (ap (λ w. received_sets q w c) words ∙ one)
      (received_commands_empty q s c cpus txs l names few)) affects in
      let b = below-has about.lanes (has e.mask) l less (e.wanted l less affected) in
      found_at about e.looked e.word l older b.0 b.1 (e.lanes ∙ b.2) e.empty) in
      subst (λ ds. AllFindEmpty about r (ds ++ older)) (sym e.are) (
        tt,
        (
          finds,
          all-quiet about r looks older
              (no-sets-looking e.looked (Gate (Shut e.word) ∷ []) (refl, tt)) all,
        ),
      )

  found_by : (t : Try) (ts : List Try) → NamesCpu t.given.command
      → FindsLanes about q cpus txs f t ts → AllFindEmpty about r (steps_of_tries f ts)
      → AllFindEmpty about r (steps_of_tries f (t ∷ ts))
  found_by t ts names (inl none) all = all-quiet about r (f t) (steps_of_tries f ts) none all
  found_by t ts names (inr (m, one, e)) all = found_one t ts m one names e all

  found_all : (ts : List Try) → All (λ (t : Try). NamesCpu t.given.command) ts
      → AllFindLanes about q cpus txs f ts → AllFindEmpty about r (steps_of_tries f ts)
  found_all [] names are = tt
  found_all (t ∷ ts) names are =
      found_by t ts (All-head (λ (t : Try). NamesCpu t.given.command) t ts names) are.0
      (found_all ts (All-tail (λ (t : Try). NamesCpu t.given.command) t ts names) are.1)

pub tries_find_empty : TriesFindEmpty
tries_find_empty about q cpus txs f ts lanes names are =
    found_all about q cpus txs f lanes ts names are
