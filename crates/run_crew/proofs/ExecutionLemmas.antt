-- The turns of the workers of a crew, and whose turns they are.
use Rattle.std.proofs.Common.{max}
use Rattle.std.proofs.lemmas.Nat.{mod-mul-add, mod_below}
use native.Mathlib.Nat as nat
use Rattle.hop_delivery.specs.Orders.Turns.{Explained}
use Rattle.run_coupling.specs.Coupling.Turns.{KeepsTurns}
use Rattle.run_workers.specs.Actors.{IsTurnOfOne}
use Rattle.run_crew.specs.QueueLaws.{CrewsHaveTurns}
use Rattle.run_crew.specs.Executions.{AreTurnsOf}
use Rattle.run_crew.proofs.Names.{◌≡◌, ◌≢◌, ◌⊎◌, inl, inr, ℕ, ◌+◌, ◌-◌, ◌*◌, ◌/◌, ◌%◌, ◌<◌, ◌≤◌}
use Rattle.run_crew.proofs.Names.{List, [], ◌∷◌, Some, All, length, map, sym, refl, ap, ◌∙◌, subst}
use Rattle.run_crew.proofs.Names.{arith, slice_get, cases_lt, ne_eqb, get_or_past, All-cons}
use Rattle.run_crew.proofs.Names.{All-head, All-nil, All-tail, StepBy, steps_of, Chosen, list_at}
use Rattle.run_crew.proofs.Names.{puts_of, BoardSizes, BoardStep, Turn, choices_in, Each, actor_at}
use Rattle.run_crew.proofs.Names.{StageView, AreWorking, Seated, HasTurns, SeatTurns}
use Rattle.run_crew.proofs.ChoiceFunctions.{chosen, is-within, item-at, some-is}

-- ---- turns of all seats

abbrev no_turns : SeatTurns
no_turns = record { steered = []; replied = []; marks = []; noted = [] }

module _ (t : StageView) (crew : List Seated) (queues apps : ℕ)
    (are : AreWorking t crew queues apps) where
  abbrev IsOfSeat : ℕ → SeatTurns → Type 0
  IsOfSeat w s =
      ((x : Seated) → slice_get crew w ≡ Some x → HasTurns t x s)
      × (length crew ≤ w → s ≡ no_turns)

  of-worker : (w : ℕ) → w < length crew → (s : SeatTurns) × IsOfSeat w s
  of-worker w less =
      let at = item-at crew w less in
      let work = are.work w at.0 at.1 in
      let has : HasTurns t at.0 (record {
        steered = work.turns;
        replied = work.replies;
        marks = work.marks;
        noted = work.noted;
      }) = record { is = work; steered = refl; replied = refl; marks = refl; noted = refl } in (
        record {
          steered = work.turns;
          replied = work.replies;
          marks = work.marks;
          noted = work.noted;
        },
        (
          λ x there. subst (λ y. HasTurns t y (record {
            steered = work.turns;
            replied = work.replies;
            marks = work.marks;
            noted = work.noted;
          })) (some-is at.0 x (sym at.1 ∙ there)) has,
          λ more. absurd (omega (arith, less, more)),
        ),
      )

  of-other : (w : ℕ) → length crew ≤ w → IsOfSeat w no_turns
  of-other w more = (
    λ x there. let less = is-within crew w x there in absurd (omega (arith, less, more)),
    λ _. refl,
  )

  have-turns : (turns : ℕ → SeatTurns) × AreTurnsOf t crew turns
  have-turns =
      let all = chosen IsOfSeat (length crew) no_turns of-worker of-other in
      (all.0, record { workers = λ w x. (all.1 w).0 x; others = λ w. (all.1 w).1 })

pub crews_have_turns : CrewsHaveTurns
crews_have_turns t crew queues apps are = have-turns t crew queues apps are

-- ---- whose turns

-- the number of an actor, by its worker and its place there
pub actor-is : (about : BoardSizes) (count w k : ℕ) → about.seats ≡ count + 1 → 0 < count
    → actor_at about w k ≡ k * count + w
actor-is about count w k seats some =
    let whole : max 1 (about.seats - 1) ≡ count = omega (arith, seats, some) in
    ap (λ m. w + m * k) whole
    ∙ (ap (λ m. w + m) (nat.mul_comm count k) ∙ nat.add_comm w (k * count))

pub actor-seat : (about : BoardSizes) (count w k : ℕ) → about.seats ≡ count + 1 → w < count
    → actor_at about w k % count ≡ w
actor-seat about count w k seats less =
    ap (λ n. n % count) (actor-is about count w k seats (omega (arith, less)))
    ∙ mod-mul-add k count w less

-- the actor with a number is at its place
pub actor-back : (about : BoardSizes) (count n : ℕ) → about.seats ≡ count + 1 → 0 < count
    → actor_at about (n % count) (n / count) ≡ n
actor-back about count n seats some =
    actor-is about count (n % count) (n / count) seats some
    ∙ (nat.add_comm (n / count * count) (n % count) ∙ nat.mod-add-div' n count)

-- no turn is of another
pub none-of : (p : ℕ) (ts : List (StepBy Turn)) → All (λ (e : StepBy Turn). e.by ≢ p) ts
    → steps_of p ts ≡ []
none-of p [] all = refl
none-of p (e ∷ ts) all =
    rw (ne_eqb e.by p (All-head (λ (d : StepBy Turn). d.by ≢ p) e ts all))
    (none-of p ts (All-tail (λ (d : StepBy Turn). d.by ≢ p) e ts all))

-- The turn is of an actor that is played at this seat, of so many seats and actors.
abbrev pub IsAtSeat : ℕ → ℕ → ℕ → StepBy Turn → Type 0
IsAtSeat seats count w e = (e.by % seats ≡ w) × (e.by < count)

-- the turns of a seat's own actors are so
pub at-seat : (about : BoardSizes) (seats w of count : ℕ) (ts : List (StepBy Turn))
    → about.seats ≡ seats + 1 → w < seats
    → ((k : ℕ) → k < of → actor_at about w k < count)
    → All (IsTurnOfOne about w of) ts → All (IsAtSeat seats count w) ts
at-seat about seats w of count [] all_seats less few all = All-nil (IsAtSeat seats count w)
at-seat about seats w of count (e ∷ ts) all_seats less few all =
    let mine = All-head (IsTurnOfOne about w of) e ts all in
    All-cons (IsAtSeat seats count w) e ts (
      ap (λ n. n % seats) mine.2 ∙ actor-seat about seats w mine.0 all_seats less,
      subst (λ n. n < count) (sym mine.2) (few mine.0 mine.1),
    )
    (at-seat about seats w of count ts all_seats less few
    (All-tail (IsTurnOfOne about w of) e ts all))

-- ---- the turns of all seats

-- The turns of all seats of a board are explained, each is of an actor that is played at its seat,
-- and the journals of the actors have their choices.
pub record AreBoardTurns (seats count : ℕ) (own : ℕ → List BoardStep)
    (turns : ℕ → List (StepBy Turn)) (choices : List (List Chosen)) : Type 0 where
  pub some : 0 < seats
  pub explained : (q : ℕ) → Explained (own q) (turns q)
  pub mine : (q : ℕ) → q < seats → All (IsAtSeat seats count q) (turns q)
  pub others : (q : ℕ) → seats ≤ q → turns q ≡ []
  pub lists : length choices ≡ count
  pub journals : (p : ℕ) → p < count
      → list_at choices p ≡ choices_in (steps_of p (turns (p % seats)))

-- What a worker's record says of its seat at a board: its turns explain the seat's list and are of
-- its actors, each of which is one of so many.
pub record IsSeatOf (about : BoardSizes) (count w : ℕ) (own : List BoardStep)
    (turns : List (StepBy Turn)) : Type 0 where
  pub explained : Explained own turns
  pub actors : ℕ
  pub by_actors : All (IsTurnOfOne about w actors) turns
  pub few : (k : ℕ) → k < actors → actor_at about w k < count

-- a seat whose worker has these actors, by the seat's number, list and turns in the worker's record
pub seat-of : {A : Type 0} (about : BoardSizes) (count : ℕ) (actors : List A) (index : A → ℕ)
    (number w : ℕ) (steps own : List BoardStep) (was turns : List (StepBy Turn)) → number ≡ w
    → own ≡ steps → was ≡ turns → Explained steps was
    → All (IsTurnOfOne about number (length actors)) was
    → Each (λ k a. (index a ≡ actor_at about number k) × (index a < count)) actors
    → IsSeatOf about count w own turns
seat-of about count actors index number w steps own was turns is list same explained by each =
    subst (λ (z : ℕ × List BoardStep × List (StepBy Turn)). IsSeatOf about count z.0 z.1 z.2)
    (λ j. (is j, sym list j, same j))
    (record { explained = explained; actors = length actors; by_actors = by; few = few })
  where
    few : (k : ℕ) → k < length actors → actor_at about number k < count
    few k less =
        let a = item-at actors k less in
        let at = each k a.0 a.1 in
        subst (λ n. n < count) at.0 at.1

-- the number of an actor that is played at its place
pub played-number : (about : BoardSizes) (count n number seat : ℕ) → about.seats ≡ count + 1
    → 0 < count → number ≡ actor_at about seat (n / count) → seat ≡ n % count → number ≡ n
played-number about count n number seat seats some own is =
    own ∙ (ap (λ w. actor_at about w (n / count)) is ∙ actor-back about count n seats some)

-- the choices of an actor's turns are those of its number
pub played-choices : (number n : ℕ) (was turns : List (StepBy Turn)) → number ≡ n → was ≡ turns
    → choices_in (steps_of number was) ≡ choices_in (steps_of n turns)
played-choices number n was turns is same =
    ap (λ (z : ℕ × List (StepBy Turn)). choices_in (steps_of z.0 z.1)) (λ j. (is j, same j))

-- the turns of all seats, of workers whose records say so
pub turns-of-board : (about : BoardSizes) (crew : List Seated) (count : ℕ)
    (own : ℕ → List BoardStep) (turns : ℕ → List (StepBy Turn)) (choices : List (List Chosen))
    → 0 < length crew → about.seats ≡ length crew + 1
    → Each (λ w x. IsSeatOf about count w (own w) (turns w)) crew
    → ((w : ℕ) → length crew ≤ w → turns w ≡ [])
    → ((w : ℕ) → length crew ≤ w → puts_of (own w) ≡ []) → length choices ≡ count
    → ((p : ℕ) → p < count
    → list_at choices p ≡ choices_in (steps_of p (turns (p % length crew))))
    → AreBoardTurns (length crew) count own turns choices
turns-of-board about crew count own turns choices some seats each others quiet lists journals =
    record {
      some = some;
      explained = λ w. explained w (cases_lt w (length crew));
      mine = λ w less.
          (let x = item-at crew w less in
          let seat = each w x.0 x.1 in
          at-seat about (length crew) w seat.actors count (turns w) seats less seat.few
          seat.by_actors);
      others = others;
      lists = lists;
      journals = journals;
    }
  where
    explained : (w : ℕ) → (w < length crew) ⊎ (length crew ≤ w) → Explained (own w) (turns w)
    explained w (inl less) = let x = item-at crew w less in (each w x.0 x.1).explained
    explained w (inr more) = subst (Explained (own w)) (sym (others w more)) (quiet w more)

module _ (seats count : ℕ) (own : ℕ → List BoardStep) (turns : ℕ → List (StepBy Turn))
    (choices : List (List Chosen)) (are : AreBoardTurns seats count own turns choices) where
  pub by-seat : (q : ℕ) → All (λ (d : StepBy Turn). d.by % seats ≡ q) (turns q)
  by-seat q = at (cases_lt q seats)
    where
      at : (q < seats) ⊎ (seats ≤ q) → All (λ (d : StepBy Turn). d.by % seats ≡ q) (turns q)
      at (inl less) = λ k d within. (are.mine q less k d within).0
      at (inr more) =
          subst (λ ts. All (λ (d : StepBy Turn). d.by % seats ≡ q) ts) (sym (are.others q more))
          (All-nil (λ (d : StepBy Turn). d.by % seats ≡ q))

  -- no turn is of an actor that there is not
  pub none-beyond : (p : ℕ) → count ≤ p → steps_of p (turns (p % seats)) ≡ []
  none-beyond p more = none-of p (turns (p % seats)) (each (are.mine (p % seats) within))
    where
      within : p % seats < seats
      within = mod_below p seats are.some

      each : All (IsAtSeat seats count (p % seats)) (turns (p % seats))
          → All (λ (d : StepBy Turn). d.by ≢ p) (turns (p % seats))
      each all k d less same = let low = (all k d less).1 in absurd (omega (arith, low, same, more))

  journal : (p : ℕ) → list_at choices p ≡ choices_in (steps_of p (turns (p % seats)))
  journal p = at (cases_lt p count)
    where
      at : (p < count) ⊎ (count ≤ p)
          → list_at choices p ≡ choices_in (steps_of p (turns (p % seats)))
      at (inl less) = are.journals p less
      at (inr more) =
          let size = are.lists in
          get_or_past choices p [] (omega (arith, more, size))
          ∙ sym (ap choices_in (none-beyond p more))

  pub keep-turns : (arrivals : ℕ → List ℕ)
      → ((q : ℕ) → map (λ (c : Chosen). c.id) (list_at choices q) ≡ arrivals q)
      → KeepsTurns own (record {
        arrivals = arrivals;
        choices = λ q. list_at choices q;
        seat = λ q. q % seats;
        turns = turns;
      })
  keep-turns arrivals all =
      record {
        explained = are.explained;
        by_seat = by-seat;
        journal = journal;
        all_chosen = all;
      }
