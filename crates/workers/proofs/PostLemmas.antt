-- The workers at their posts: how they went on there, and how they have stayed.
use Rattle.std.specs.Prelude.{slice_get, slice_index_or}
use Rattle.std.specs.List.{fold, sum}
use Rattle.std.proofs.lemmas.Bool.{and_from}
use Rattle.std.proofs.lemmas.List.Elements.{All-cons, All-map}
use Rattle.atomic_table.specs.Seated.{TableId}
use Rattle.linearization.specs.Seats.{seat_view}
use Rattle.hint_words.specs.Loads.{LoadsAreStored}
use Rattle.run_workers.specs.Looks.{look_count}
use Rattle.run_workers.specs.Stages.{StageView}
use Rattle.run_workers.specs.Tally.{AreSeatsOf, HasFinished, IsCounter, IsTally, LoadedCountsHold}
use Rattle.run_workers.specs.Tally.{SawFinished, StoreAtMostTheirs, StoresAtMost, finished_by}
use Rattle.run_workers.specs.Workers.{GoesOn}
use Rattle.run_workers.specs.declared.tally.Counter.{Counter}
use Rattle.run_workers.specs.declared.tally.Tally.{Tally}
use Rattle.run_workers.specs.declared.work.Ended.{Ended}
use Rattle.run_workers.specs.declared.work.Ended.TheVariants as ended
use Rattle.run_workers.specs.declared.work.TheConstants.{MAX_IDLE_TURNS}
use Rattle.run_workers.proofs.TallyLemmas.{counts_rise}
use Rattle.run_crew.specs.Finished.{finished_by_all}
use Rattle.run_crew.specs.Sweeps.{AllWork}
use Rattle.run_crew.proofs.ChoiceFunctions.{is-within, item-at}
use Rattle.workers.specs.Posts.{AreFirstCounters, ArePosts, CanBeManned, HasSeenOrLooked}
use Rattle.workers.specs.Posts.{HasWorked, HaveStayed, HaveWorked}
use Rattle.workers.specs.declared.posts.Post.{Post}
use Rattle.workers.specs.declared.posts.Posts.{Posts}
use Rattle.workers.proofs.Names.{◌≡◌, ◌⊎◌, inl, inr, ℕ, zero, suc, ◌+◌, ◌<◌, ◌≤◌, List, [], ◌∷◌}
use Rattle.workers.proofs.Names.{All, Some, true, refl, sym, ap, subst, ◌∙◌, length, map, arith}
use Rattle.workers.proofs.Names.{Contains, length-map, All-nil, SeatView, new_seats, HintStep}
use Rattle.workers.proofs.Names.{none-some, some-is, Seats, Each, is_free, GoOn, all_free, Seated}
use Rattle.workers.proofs.CrewLemmas.{read-at}
use Rattle.workers.proofs.EachLemmas.{each_none}

abbrev Hint : Type 0
Hint = SeatView HintStep

-- the worker at a post
abbrev pub worker_at : Post → Seated
worker_at p = p.seated

-- the seat of a post at the tally
abbrev pub seat_at : Post → Hint
seat_at p = p.counter.seat

-- ---- lists

module _ {A B : Type 0} (f : A → B) where
  -- what is at an index of the images is the image of what is there
  pub image-at : (xs : List A) (k : ℕ) (y : B) → slice_get (map f xs) k ≡ Some y
      → (x : A) × (slice_get xs k ≡ Some x) × (f x ≡ y)
  image-at [] k y there = none-some y there
  image-at (x ∷ xs) zero y there = (x, refl, some-is (f x) y there)
  image-at (x ∷ xs) (suc k) y there = image-at xs k y there

  pub at-image : (xs : List A) (k : ℕ) (x : A) → slice_get xs k ≡ Some x
      → slice_get (map f xs) k ≡ Some (f x)
  at-image [] k x there = none-some x there
  at-image (y ∷ xs) zero x there = ap (λ z. Some (f z)) (some-is y x there)
  at-image (y ∷ xs) (suc k) x there = at-image xs k x there

module _ {A : Type 0} where
  at-contains : (xs : List A) (k : ℕ) (x : A) → slice_get xs k ≡ Some x → Contains xs x
  at-contains [] k x there = none-some x there
  at-contains (y ∷ xs) zero x there = (0, omega arith, some-is y x there)
  at-contains (y ∷ xs) (suc k) x there =
      let (j, less, is) = at-contains xs k x there in (suc j, omega (arith, less), is)

  each-first : (Is : ℕ → A → Type 0) (x : A) (xs : List A) → Is 0 x
      → Each (λ k y. Is (suc k) y) xs → Each Is (x ∷ xs)
  each-first Is x xs first rest zero y there = subst (Is 0) (some-is x y there) first
  each-first Is x xs first rest (suc k) y there = rest k y there

  all-each : (P : A → Type 0) (xs : List A) → Each (λ k x. P x) xs → All P xs
  all-each P [] each = All-nil P
  all-each P (x ∷ xs) each =
      All-cons P x xs (each 0 x refl) (all-each P xs (λ k y there. each (suc k) y there))

-- ---- the threads

module _ (t : StageView) (tally : Tally) where
  -- each has worked, as the threads say it
  pub all-worked : (before after : List Post) → length after ≡ length before
      → ((i : ℕ) (d : Post) → i < length before
      → HasWorked t tally (slice_index_or before i d) (slice_index_or after i d))
      → HaveWorked t tally before after
  all-worked before after count each =
      record {
        count = count;
        each = λ k q there p was.
            let less = is-within before k p was in
            subst (λ (z : Post). HasWorked t tally z q) (read-at before k p p was)
            (subst (HasWorked t tally (slice_index_or before k p)) (read-at after k p q there)
            (each k p less));
      }

  module _ (before after : List Post) (worked : HaveWorked t tally before after) where
    post-before : (k : ℕ) (q : Post) → slice_get after k ≡ Some q
        → (p : Post) × (slice_get before k ≡ Some p)
    post-before k q there =
        let less = is-within after k q there in
        let count = worked.count in
        item-at before k (omega (arith, less, count))

    -- the workers went on
    pub posts-go-on : GoOn t (map worker_at before) (map worker_at after)
    posts-go-on =
        record {
          count = length-map after worker_at
              ∙ (worked.count ∙ sym (length-map before worker_at));
          each = λ w y there x was.
              let q = image-at worker_at after w y there in
              let p = image-at worker_at before w x was in
              let goes = (worked.each w q.0 q.1 p.0 p.1).goes in
              subst (λ (z : Seated). GoesOn t x.worker z.worker x.seats z.seats) q.2
              (subst (λ (z : Seated). GoesOn t z.worker q.0.seated.worker z.seats
              q.0.seated.seats) p.2 goes);
        }

    -- their hands are empty
    all-free-at : (qs : List Post)
        → Each (λ k (q : Post). is_free q.seated.worker ≡ true) qs
        → all_free (map worker_at qs) ≡ true
    all-free-at [] each = refl
    all-free-at (q ∷ qs) each =
        and_from (is_free q.seated.worker) (all_free (map worker_at qs)) (each 0 q refl)
        (all-free-at qs (λ k z there. each (suc k) z there))

    pub posts-are-free : all_free (map worker_at after) ≡ true
    posts-are-free =
        all-free-at after
        (λ k q there.
        let p = post-before k q there in (worked.each k q there p.0 p.1).free)

    -- ---- how they have stayed

    module _ (can : CanBeManned t tally before) where
      numbered : (k : ℕ) (q : Post) → slice_get after k ≡ Some q → q.counter.number ≡ k
      numbered k q there =
          let p = post-before k q there in
          (worked.each k q there p.0 p.1).counts.same ∙ (can.each k p.0 p.1).0

      seat-of-tally : (k : ℕ) (q : Post) → slice_get after k ≡ Some q
          → q.counter.seat.table ≡ tally.words.table
      seat-of-tally k q there =
          let p = post-before k q there in (worked.each k q there p.0 p.1).counts.is.table

      -- these are all seats of the tally
      pub seats-of-tally : AreSeatsOf tally (map seat_at after)
      seats-of-tally =
          record {
            table = All-map (λ (s : Hint). s.table ≡ tally.words.table) seat_at after
                (all-each (λ (q : Post). q.counter.seat.table ≡ tally.words.table) after
                seat-of-tally);
            count = length-map after seat_at ∙ (worked.count ∙ can.count);
          }

      abbrev counts : List ℕ
      counts = map (λ (q : Post). finished_by q.seated.worker) after

      told-theirs : StoreAtMostTheirs counts (map seat_at after)
      told-theirs k s there =
          let q = image-at seat_at after k s there in
          let p = post-before k q.0 q.1 in
          let is = (worked.each k q.0 q.1 p.0 p.1).counts.is in
          let own : StoresAtMost k (finished_by q.0.seated.worker) q.0.counter.seat.steps =
          subst (λ n. StoresAtMost n (finished_by q.0.seated.worker) q.0.counter.seat.steps)
          (numbered k q.0 q.1) is.stores in (
            finished_by q.0.seated.worker,
            at-image (λ (z : Post). finished_by z.seated.worker) after k q.0 q.1,
            subst (λ (z : Hint). StoresAtMost k (finished_by q.0.seated.worker) z.steps) q.2
                own,
          )

      counts-are : sum counts ≡ finished_by_all (map worker_at after)
      counts-are = along 0 after
        where
          along : (a : ℕ) (qs : List Post)
              → fold (λ n (m : ℕ). n + m) a (map (λ (q : Post). finished_by q.seated.worker) qs)
              ≡ fold (λ n (x : Seated). n + finished_by x.worker) a (map worker_at qs)
          along a [] = refl
          along a (q ∷ qs) = along (a + finished_by q.seated.worker) qs

      module _ (packets : ℕ) (same : length t.shared.given.packets ≡ packets)
          (hold : LoadedCountsHold) (stored : LoadsAreStored (map seat_at after)) where
        -- one of them saw that all packets are finished
        saw-all : (k : ℕ) (q : Post) → slice_get after k ≡ Some q
            → SawFinished tally.workers (length t.shared.given.packets) q.counter.seat.steps
            → packets ≤ finished_by_all (map worker_at after)
        saw-all k q there saw =
            let most = hold counts (map seat_at after) q.counter.seat
            (length t.shared.given.packets) stored told-theirs
            (at-contains (map seat_at after) k q.counter.seat (at-image seat_at after k q there))
            (subst (λ n. SawFinished n (length t.shared.given.packets) q.counter.seat.steps)
            (sym (length-map after (λ (z : Post). finished_by z.seated.worker)
            ∙ (worked.count ∙ can.count))) saw) in
            let all = counts-are in
            omega (arith, most, all, same)

        -- one of them saw it, or each looked so often
        stayed-at : (qs : List Post)
            → Each (λ k (q : Post). (packets ≤ finished_by_all (map worker_at after))
            ⊎ (MAX_IDLE_TURNS ≤ look_count q.seated.seats.hint.steps)) qs
            → (packets ≤ finished_by_all (map worker_at after))
            ⊎ Each (λ k (q : Post). MAX_IDLE_TURNS ≤ look_count q.seated.seats.hint.steps) qs
        stayed-at [] each = inr (each_none _)
        stayed-at (q ∷ qs) each = elim (each 0 q refl) [
          | inl saw ↦ inl saw
          | inr enough ↦ elim (stayed-at qs (λ k z there. each (suc k) z there)) [
            | inl saw ↦ inl saw
            | inr rest ↦ inr (each-first
                (λ k (z : Post). MAX_IDLE_TURNS ≤ look_count z.seated.seats.hint.steps) q qs
                enough rest)
          ]
        ]

        stayed-posts : (packets ≤ finished_by_all (map worker_at after))
            ⊎ Each (λ k (q : Post). MAX_IDLE_TURNS ≤ look_count q.seated.seats.hint.steps) after
        stayed-posts =
            stayed-at after
            (λ k q there.
            let p = post-before k q there in
            elim ((worked.each k q there p.0 p.1).ended) [
              | inl saw ↦ inl (saw-all k q there saw)
              | inr enough ↦ inr (omega (arith, enough))
            ])

        pub have-stayed : HaveStayed (map worker_at after) packets
        have-stayed =
            elim stayed-posts [
              | inl saw ↦ inl saw
              | inr all ↦ inr (λ w x there.
                  let q = image-at worker_at after w x there in
                  subst (λ (z : Seated). MAX_IDLE_TURNS ≤ look_count z.seats.hint.steps) q.2
                  (all w q.0 q.1))
            ]

-- ---- the start

-- the place of a post at the tally
abbrev pub counter_at : Post → Counter
counter_at p = p.counter

new-seat-at : (z : TableId) (n count k : ℕ) (s : Hint) → slice_get (new_seats z n count) k ≡ Some s
    → (s.table ≡ z) × (s.steps ≡ [])
new-seat-at z n zero k s there = none-some s there
new-seat-at z n (suc count) zero s there =
    let is = some-is (seat_view z n []) s there in
    (sym (ap (λ (h : Hint). h.table) is), sym (ap (λ (h : Hint). h.steps) is))
new-seat-at z n (suc count) (suc k) s there = new-seat-at z (n + 1) count k s there

pub new-seats-count : (z : TableId) (n count : ℕ)
    → length (new_seats {D = HintStep} z n count) ≡ count
new-seats-count z n zero = refl
new-seats-count z n (suc count) = ap suc (new-seats-count z (n + 1) count)

-- counters at new seats have told nothing
pub first-counters : (tally : Tally) (seats : List Hint) (counters : List Counter)
    → IsTally tally → seats ≡ new_seats tally.words.table 0 tally.workers
    → AreFirstCounters seats counters
    → (length counters ≡ tally.workers)
    × Each (λ k (c : Counter). (c.number ≡ k) × IsCounter tally c 0) counters
first-counters tally seats counters is_tally new are =
    let count = sym (length-map counters (λ (c : Counter). c.seat))
    ∙ (ap length (are.seats_are ∙ new)
    ∙ new-seats-count tally.words.table 0 tally.workers) in (
      count,
      λ k c there.
          let seat = new-seat-at tally.words.table 0 tally.workers k c.seat
          (ap (λ xs. slice_get xs k) (sym (are.seats_are ∙ new))
          ∙ at-image (λ (z : Counter). z.seat) counters k c there) in
          let number = are.numbers k c there in
          let within = is-within counters k c there in (
            number,
            record {
              is_tally = is_tally;
              table = seat.0;
              number = omega (arith, number, within, count);
              stores = nothing c.number c.seat.steps seat.1;
            },
          ),
    )
  where
    nothing : (number : ℕ) (steps : List HintStep) → steps ≡ [] → StoresAtMost number 0 steps
    nothing number steps none =
        subst (StoresAtMost number 0) (sym none)
        (λ word value (k, less, is). absurd (omega (arith, less)))

-- the workers can run at their posts
pub can-be-manned : (t : StageView) (p : Posts) (workers : ℕ) (crew : List Seated)
    (posts : List Post) → ArePosts workers p → length crew ≡ workers → 0 < length crew
    → AllWork t crew → map worker_at posts ≡ crew → map counter_at posts ≡ p.counters.items
    → CanBeManned t p.tally posts
can-be-manned t p workers crew posts are count some work manned counted =
    let size : length posts ≡ length crew =
    sym (length-map posts worker_at) ∙ ap length manned in
    let tally = are.workers_are in
    record {
      some = omega (arith, some, size);
      count = size ∙ (count ∙ sym tally);
      each = λ k q there.
          let c = are.counters k q.counter
          (ap (λ xs. slice_get xs k) (sym counted) ∙ at-image counter_at posts k q there) in (
            c.0,
            record {
              work = work k q.seated
                  (ap (λ xs. slice_get xs k) (sym manned) ∙ at-image worker_at posts k q there);
              counts = counts_rise p.tally q.counter 0 (finished_by q.seated.worker)
                  (omega arith) c.1;
            },
          );
    }

-- why a worker ended
pub seen-or-looked : (workers packets : ℕ) (old new : Seats) (counter : Counter) (e : Ended)
    → (e ≡ ended.Finished → HasFinished workers packets new counter)
    → (e ≡ ended.Idle
    → look_count old.hint.steps + MAX_IDLE_TURNS ≤ look_count new.hint.steps)
    → HasSeenOrLooked workers packets old new counter
seen-or-looked workers packets old new counter ended.Finished finished idle =
    inl (finished refl).saw
seen-or-looked workers packets old new counter ended.Idle finished idle = inr (idle refl)
