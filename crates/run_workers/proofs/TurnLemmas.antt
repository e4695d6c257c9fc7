-- The calls of a turn, one after another.
use Rattle.run_workers.specs.Parts.{actor_count}
use Rattle.run_workers.specs.Turns.{AllHaveCalls, CallsFirst, CallsOne, HasCall, HasTurn}
use Rattle.run_workers.specs.Turns.{OthersStay, Replied, SeatsGrow, Served, Took}
use Rattle.run_workers.specs.declared.worker.Part.{Part}
use Rattle.run_workers.specs.declared.worker.Part.TheVariants as part
use Rattle.run_workers.proofs.Names.{◌≡◌, ◌≢◌, ◌⊎◌, inl, inr, ℕ, zero, suc, ◌+◌, ◌<◌, ◌≤◌, ◌||◌}
use Rattle.run_workers.proofs.Names.{Bool, true, false, List, [], ◌∷◌, Some, length, refl, sym, ap}
use Rattle.run_workers.proofs.Names.{subst, ◌∙◌, arith, slice_get, slice_set, slice_get_within}
use Rattle.run_workers.proofs.Names.{some-is, Seats, StageView, Plays, actors, GoesOn, Server}
use Rattle.run_workers.proofs.Names.{Worker}
use Rattle.run_workers.proofs.EachLemmas.{each_same, each_set, set_there}
use Rattle.run_workers.proofs.Records.ListLemmas.{grows_both, grows_same}

-- ---- answers

pub first_false : (x y : Bool) → (x || y) ≡ false → x ≡ false
first_false false y none = refl
first_false true y none = none

pub second_false : (x y : Bool) → (x || y) ≡ false → y ≡ false
second_false false y none = none
second_false true y none = absurd (apart none)
  where
    apart : true ≡ false → ⊥
    apart same = absurd (cc)

-- ---- seats

pub grow_same : (a : Seats) → SeatsGrow a a
grow_same a =
    record {
      rx = grows_same a.rx.steps a.rx.steps refl;
      tx = grows_same a.tx.steps a.tx.steps refl;
      hint = grows_same a.hint.steps a.hint.steps refl;
    }

pub grow_both : (a b c : Seats) → SeatsGrow a b → SeatsGrow b c → SeatsGrow a c
grow_both a b c first second =
    record {
      rx = grows_both a.rx.steps b.rx.steps c.rx.steps first.rx second.rx;
      tx = grows_both a.tx.steps b.tx.steps c.tx.steps first.tx second.tx;
      hint = grows_both a.hint.steps b.hint.steps c.hint.steps first.hint second.hint;
    }

pub goes_grow : (t : StageView) (v w : Worker) (a b : Seats) → GoesOn t v w a b → SeatsGrow a b
goes_grow t v w a b goes =
    record {
      rx = goes.same.rx_steps;
      tx = goes.same.tx_steps;
      hint = goes.same.hint_steps;
    }

-- ---- calls

module _ {A : Type 0} (Call : A → A → Bool → Seats → Seats → Type 0) where
  -- a call among more steps and more calls
  call_later : (did more : Bool) (x y : A) (a b c d : Seats) → SeatsGrow a b → SeatsGrow c d
      → (more ≡ false → did ≡ false) → HasCall Call did x y b c → HasCall Call more x y a d
  call_later did more x y a b c d early late none call =
      record {
        own = call.own;
        none = λ same. call.none (none same);
        begins = call.begins;
        ends = call.ends;
        early = grow_both a b call.begins early call.early;
        call = call.call;
        late = grow_both call.ends c d call.late late;
      }

  -- all calls of a part among more steps
  pub calls_later : (did more : Bool) (xs us ys zs : List A) (a b c d : Seats) → xs ≡ us
      → zs ≡ ys → SeatsGrow a b → SeatsGrow c d → (more ≡ false → did ≡ false)
      → AllHaveCalls Call did xs ys b c → AllHaveCalls Call more us zs a d
  calls_later did more xs us ys zs a b c d before after early late none all k y got =
      let r = all k y (ap (λ l. slice_get l k) (sym after) ∙ got) in (
        r.0,
        ap (λ l. slice_get l k) (sym before) ∙ r.1,
        call_later did more r.0 y a b c d early late none r.2,
      )

  pub first_none : (did : Bool) (xs : List A) (a : Seats) → CallsFirst Call 0 did xs xs a a
  first_none did xs a k y got = inr (omega arith, got)

  module _ (n : ℕ) (did own : Bool) (xs ys zs : List A) (a b c : Seats)
      (early : SeatsGrow a b) (late : SeatsGrow b c) (first : CallsFirst Call n did xs ys a b)
      (one : CallsOne Call n own ys zs b c) where
    Was : ℕ → A → Type 0
    Was k y =
        ((k < n) × (x : A) × (slice_get xs k ≡ Some x) × HasCall Call did x y a b)
        ⊎ ((n ≤ k) × (slice_get xs k ≡ Some y))

    Is : ℕ → A → Type 0
    Is k y =
        ((k < n + 1) × (x : A) × (slice_get xs k ≡ Some x) × HasCall Call (did || own) x y a c)
        ⊎ ((n + 1 ≤ k) × (slice_get xs k ≡ Some y))

    this : Is n one.y
    unfolding Is
    this = elim (first n one.x one.there) [
      | inl earlier ↦ (let less = earlier.0 in absurd (omega (arith, less)))
      | inr stood ↦ inl (
        omega arith,
        one.x,
        stood.1,
        record {
          own = own;
          none = second_false did own;
          begins = b;
          ends = c;
          early = early;
          call = one.call;
          late = grow_same c;
        },
      )
    ]

    other : (k : ℕ) (y : A) → k ≢ n → Was k y → Is k y
    unfolding Was Is
    other k y apart (inl (less, x, there, call)) =
        inl (
          omega (arith, less),
          x,
          there,
          call_later did (did || own) x y a a b c (grow_same a) late (first_false did own) call,
        )
    other k y apart (inr (le, there)) = inr (omega (arith, le, apart), there)

    pub first_next : CallsFirst Call (n + 1) (did || own) xs zs a c
    unfolding Was Is
    first_next =
        each_same Is (slice_set ys n one.y) zs one.are
        (each_set Is Was ys n one.y this other first)

  pub first_all : (n : ℕ) (did : Bool) (xs ys : List A) (a b : Seats) → length ys ≤ n
      → CallsFirst Call n did xs ys a b → AllHaveCalls Call did xs ys a b
  first_all n did xs ys a b few first k y got = elim (first k y got) [
    | inl called ↦ (called.1, called.2, called.3)
    | inr stood ↦ (
        let less = slice_get_within ys k y got in
        let le = stood.0 in
        absurd (omega (arith, few, less, le)))
  ]

-- ---- the parts

pub actors_counted : (p : Part) (w : Worker) → length (actors p w) ≡ actor_count p w
actors_counted part.Poll w = sym w.pollers.ok.0
actors_counted part.Drain w = sym w.drains.ok.0
actors_counted part.Serve w = sym w.servers.ok.0
actors_counted part.Ship w = sym w.ships.ok.0

pub others_same : (p : Part) (w : Worker) → OthersStay p w w
others_same p w q apart = refl

pub others_both : (p : Part) (u v w : Worker) → OthersStay p u v → OthersStay p v w
    → OthersStay p u w
others_both p u v w first second q apart = second q apart ∙ first q apart

module _ (v w : Worker) where
  pub others_of_poll : w.drains.items ≡ v.drains.items → w.servers.items ≡ v.servers.items
      → w.ships.items ≡ v.ships.items
      → OthersStay part.Poll v w
  others_of_poll drains servers ships part.Poll apart = absurd (apart refl)
  others_of_poll drains servers ships part.Drain apart = drains
  others_of_poll drains servers ships part.Serve apart = servers
  others_of_poll drains servers ships part.Ship apart = ships

  pub others_of_drain : w.pollers.items ≡ v.pollers.items → w.servers.items ≡ v.servers.items
      → w.ships.items ≡ v.ships.items
      → OthersStay part.Drain v w
  others_of_drain pollers servers ships part.Poll apart = pollers
  others_of_drain pollers servers ships part.Drain apart = absurd (apart refl)
  others_of_drain pollers servers ships part.Serve apart = servers
  others_of_drain pollers servers ships part.Ship apart = ships

  pub others_of_serve : w.pollers.items ≡ v.pollers.items → w.drains.items ≡ v.drains.items
      → w.ships.items ≡ v.ships.items
      → OthersStay part.Serve v w
  others_of_serve pollers drains ships part.Poll apart = pollers
  others_of_serve pollers drains ships part.Drain apart = drains
  others_of_serve pollers drains ships part.Serve apart = absurd (apart refl)
  others_of_serve pollers drains ships part.Ship apart = ships

  pub others_of_ship : w.pollers.items ≡ v.pollers.items → w.drains.items ≡ v.drains.items
      → w.servers.items ≡ v.servers.items
      → OthersStay part.Ship v w
  others_of_ship pollers drains servers part.Poll apart = pollers
  others_of_ship pollers drains servers part.Drain apart = drains
  others_of_ship pollers drains servers part.Serve apart = servers
  others_of_ship pollers drains servers part.Ship apart = absurd (apart refl)

-- ---- an application's two calls

set_twice : {A : Type 0} (xs : List A) (i : ℕ) (a b : A)
    → slice_set (slice_set xs i a) i b ≡ slice_set xs i b
set_twice [] i a b = refl
set_twice (x ∷ xs) zero a b = refl
set_twice (x ∷ xs) (suc i) a b = ap (λ ys. x ∷ ys) (set_twice xs i a b)

pub served : (t : StageView) (i : ℕ) (took sent : Bool) (xs ys zs : List Server) (a b c : Seats)
    → CallsOne (Took t) i took xs ys a b → CallsOne (Replied t) i sent ys zs b c
    → CallsOne (Served t) i (took || sent) xs zs a c
served t i took sent xs ys zs a b c takes replies =
    let same : takes.y ≡ replies.x =
    some-is takes.y replies.x
    (sym (ap (λ l. slice_get l i) takes.are ∙ set_there xs i takes.x takes.y takes.there)
    ∙ replies.there) in
    record {
      x = takes.x;
      y = replies.y;
      there = takes.there;
      are = replies.are
          ∙ (ap (λ l. slice_set l i replies.y) takes.are
          ∙ set_twice xs i takes.y replies.y);
      call = record {
        mid = replies.x;
        between = b;
        took = took;
        sent = sent;
        takes = subst (λ s. Took t takes.x s took a b) same takes.call;
        replies = replies.call;
        is = refl;
      };
    }

-- ---- a whole turn

part_number : Part → ℕ
part_number part.Poll = 0
part_number part.Drain = 1
part_number part.Serve = 2
part_number part.Ship = 3

parts_differ : (p q : Part) → part_number p < part_number q → p ≢ q
parts_differ p q less same = let e = ap part_number same in absurd (omega (arith, less, e))

-- what one part of a turn adds
pub record PartPlayed (t : StageView) (p : Part) (did : Bool) (u v : Worker) (a b : Seats)
    : Type 0 where
  pub calls : AllHaveCalls (Plays t p) did (actors p u) (actors p v) a b
  pub others : OthersStay p u v
  pub grow : SeatsGrow a b

module _ (t : StageView) (u v w x y : Worker) (a b c d e : Seats) (polled drained served shipped
    : Bool) (all : Bool) (poll : PartPlayed t part.Poll polled u v a b)
    (drain : PartPlayed t part.Drain drained v w b c)
    (serve : PartPlayed t part.Serve served w x c d)
    (ship : PartPlayed t part.Ship shipped x y d e) (no_poll : all ≡ false → polled ≡ false)
    (no_drain : all ≡ false → drained ≡ false) (no_serve : all ≡ false → served ≡ false)
    (no_ship : all ≡ false → shipped ≡ false) where
  pub turn_of : HasTurn t all u y a e
  unfolding part_number
  turn_of part.Poll =
      calls_later (Plays t part.Poll) polled all (actors part.Poll u) (actors part.Poll u)
      (actors part.Poll v) (actors part.Poll y) a a b e refl
      (ship.others part.Poll (parts_differ part.Poll part.Ship (omega arith))
      ∙ (serve.others part.Poll (parts_differ part.Poll part.Serve (omega arith))
      ∙ drain.others part.Poll (parts_differ part.Poll part.Drain (omega arith))))
      (grow_same a) (grow_both b c e drain.grow (grow_both c d e serve.grow ship.grow)) no_poll
      poll.calls
  turn_of part.Drain =
      calls_later (Plays t part.Drain) drained all (actors part.Drain v) (actors part.Drain u)
      (actors part.Drain w) (actors part.Drain y) a b c e
      (poll.others part.Drain
      (λ same. parts_differ part.Poll part.Drain (omega arith) (sym same)))
      (ship.others part.Drain (parts_differ part.Drain part.Ship (omega arith))
      ∙ serve.others part.Drain (parts_differ part.Drain part.Serve (omega arith)))
      poll.grow (grow_both c d e serve.grow ship.grow) no_drain drain.calls
  turn_of part.Serve =
      calls_later (Plays t part.Serve) served all (actors part.Serve w) (actors part.Serve u)
      (actors part.Serve x) (actors part.Serve y) a c d e
      (drain.others part.Serve
      (λ same. parts_differ part.Drain part.Serve (omega arith) (sym same))
      ∙ poll.others part.Serve
      (λ same. parts_differ part.Poll part.Serve (omega arith) (sym same)))
      (ship.others part.Serve (parts_differ part.Serve part.Ship (omega arith)))
      (grow_both a b c poll.grow drain.grow) ship.grow no_serve serve.calls
  turn_of part.Ship =
      calls_later (Plays t part.Ship) shipped all (actors part.Ship x) (actors part.Ship u)
      (actors part.Ship y) (actors part.Ship y) a d e e
      (serve.others part.Ship (λ same. parts_differ part.Serve part.Ship (omega arith) (sym same))
      ∙ (drain.others part.Ship
      (λ same. parts_differ part.Drain part.Ship (omega arith) (sym same))
      ∙ poll.others part.Ship
      (λ same. parts_differ part.Poll part.Ship (omega arith) (sym same))))
      refl (grow_both a b d poll.grow (grow_both b c d drain.grow serve.grow)) (grow_same e)
      no_ship ship.calls
