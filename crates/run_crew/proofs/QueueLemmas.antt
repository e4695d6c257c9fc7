-- The coupling invariants of the receive queues, from the records of their pollers.
use Rattle.run_crew.specs.QueueCoupling.{IsQueueCoupled, words_seen}
use Rattle.run_crew.specs.QueueLaws.{QueuesAreCoupled, QueuesKeepCoupling}
use Rattle.run_crew.proofs.Names.{◌≡◌, ℕ, ◌%◌, ◌<◌, ◌≤◌, List, Some, length, map, sym, refl, ap}
use Rattle.run_crew.proofs.Names.{◌∙◌, subst, arith, slice_get, slice_index, Contains, SeatView}
use Rattle.run_crew.proofs.Names.{Chosen, HintStep, arrivals_at, list_at, History, nth_step}
use Rattle.run_crew.proofs.Names.{BoardStep, none-some, some-is, Execution, turns_of, Turn, Input}
use Rattle.run_crew.proofs.Names.{setup_in, AreShared, HintCodes, IsPolling, IsMarkedBy}
use Rattle.run_crew.proofs.Names.{PollersAreCoupled, Each, StageView, IsPlayed, pollers_of, Seated}
use Rattle.run_crew.proofs.Names.{ReceiveEnds, SeatTurns, queue_execution}
use Rattle.run_crew.proofs.ChoiceFunctions.{chosen}
use Rattle.run_crew.proofs.QueueTurnLemmas.{board-turns, has, home-count, keeps-poller, queue-is}
use Rattle.run_crew.proofs.ExecutionLemmas.{keep-turns, none-beyond}

module _ (law : PollersAreCoupled) (i : Input) (h : History) (t : StageView) (crew : List Seated)
    (turns : ℕ → SeatTurns) (own : ℕ → List BoardStep) (c : HintCodes)
    (seats : List (SeatView HintStep)) (e : ReceiveEnds i t crew turns own h.choices)
    (codes : AreShared c) (among : Each (λ w x. Contains seats x.seats.hint) crew) where
  abbrev W : ℕ
  W = length crew

  abbrev Q : ℕ
  Q = length i.plan.queues

  abbrev execution : Execution
  execution = queue_execution crew turns h.choices (arrivals_at h.arrivals)

  -- the coupling invariants of queue p at the seat that steers it, with the seat's marks
  abbrev IsCoupled : ℕ → (ℕ → ℕ → ℕ) → Type 0
  IsCoupled p seen =
      (z : IsQueueCoupled i t.rx.sizes (own (p % W)) c seats execution p seen)
      × ((less : p < Q) (y : Seated) → slice_get crew (p % W) ≡ Some y
      → IsMarkedBy i c seats execution p seen (z.wants less) y.seats.hint (turns (p % W)).marks)

  module _ (q : ℕ) (less : q < Q) where
    abbrev p : IsPlayed crew pollers_of q
    p = e.work.pollers q less

    polling : IsPolling (setup_in i)
        ((has i t crew turns own h.choices e (q % W) p.by p.worker).is.first q)
        t.rx.sizes.start p.actor (turns (q % W)).steered (turns (q % W)).marks (own (q % W))
        p.by.seats.hint.steps
    polling =
        let y = has i t crew turns own h.choices e (q % W) p.by p.worker in
        let k = keeps-poller i t crew turns own h.choices e q p in
        let same = queue-is i t crew turns own h.choices e q p in
        subst (λ ds. IsPolling (setup_in i) (y.is.first q) t.rx.sizes.start p.actor
        (turns (q % W)).steered (turns (q % W)).marks ds p.by.seats.hint.steps)
        (sym (e.lists (q % W) p.by p.worker))
        (subst (λ g. IsPolling g (y.is.first q) t.rx.sizes.start p.actor (turns (q % W)).steered
        (turns (q % W)).marks p.by.seats.rx.steps p.by.seats.hint.steps) e.given
        (subst (λ ts. IsPolling t.shared.given (y.is.first q) t.rx.sizes.start p.actor ts
        (turns (q % W)).marks p.by.seats.rx.steps p.by.seats.hint.steps) y.steered
        (subst (λ ms. IsPolling t.shared.given (y.is.first q) t.rx.sizes.start p.actor y.is.turns
        ms p.by.seats.rx.steps p.by.seats.hint.steps) y.marks
        (subst (λ n. IsPolling t.shared.given (y.is.first n) t.rx.sizes.start p.actor y.is.turns
        y.is.marks p.by.seats.rx.steps p.by.seats.hint.steps) same k.keeps))))

    coupled : (seen : ℕ → ℕ → ℕ) × IsCoupled q seen
    coupled =
        let y = has i t crew turns own h.choices e (q % W) p.by p.worker in
        let k = keeps-poller i t crew turns own h.choices e q p in
        let same = queue-is i t crew turns own h.choices e q p in
        let room = k.room in
        let most = e.room in
        let homes = home-count i t crew turns own h.choices e in
        let x : IsPolling (setup_in i) (y.is.first q) t.rx.sizes.start p.actor
        (turns (p.actor.queue % W)).steered (turns (p.actor.queue % W)).marks
        (own (p.actor.queue % W)) p.by.seats.hint.steps =
        subst (λ n. IsPolling (setup_in i) (y.is.first q) t.rx.sizes.start p.actor
        (turns (n % W)).steered (turns (n % W)).marks (own (n % W)) p.by.seats.hint.steps)
        (sym same) polling in
        let within : p.actor.queue < length (setup_in i).homes =
        subst (λ g. p.actor.queue < length g.homes) e.given k.within in
        let z =
        law i t.rx.sizes (own (p.actor.queue % W)) c seats p.by.seats.hint execution
        (y.is.first q) p.actor (turns (p.actor.queue % W)).marks x e.hashes
        (omega (arith, room, most)) within codes (among (q % W) p.by p.worker) in
        let is : IsCoupled p.actor.queue
        (words_seen (length (setup_in i).homes) p.actor.queue x.polled) = (
          z.0,
          λ low v there. subst (λ (w : Seated). IsMarkedBy i c seats execution p.actor.queue
              (words_seen (length (setup_in i).homes) p.actor.queue x.polled) (z.0.wants low)
              w.seats.hint (turns (p.actor.queue % W)).marks)
              (some-is p.by v (sym p.worker
              ∙ (ap (λ n. slice_get crew (n % W)) (sym same) ∙ there)))
              (z.1 low),
        ) in (
          words_seen (length (setup_in i).homes) p.actor.queue x.polled,
          subst (λ n. IsCoupled n (words_seen (length (setup_in i).homes) p.actor.queue x.polled))
              same is,
        )

  -- without turns there is nothing to coupling
  uncoupled : (p : ℕ) → Q ≤ p → IsCoupled p (λ k w. 0)
  uncoupled p more = (
    record {
      hashes = λ k u at. nothing k u at;
      knows = λ k u at. nothing k u at;
      knows_sock = λ k u at. nothing k u at;
      by_table = λ k u at fit. nothing k u at;
      wants = λ less. absurd (omega (arith, more, less));
    },
    λ less y there. absurd (omega (arith, more, less)),
  )
    where
      nothing : {B : Type 0} (k : ℕ) (u : Turn) → nth_step (turns_of execution p) k ≡ Some u → B
      nothing k u at =
          none-some u
          (sym (ap (λ us. nth_step us k) (none-beyond W Q own (λ w. (turns w).steered) h.choices
          (board-turns i t crew turns own h.choices e) p more))
          ∙ at)

  all-coupled : (seen : ℕ → ℕ → ℕ → ℕ) × ((p : ℕ) → IsCoupled p (seen p))
  all-coupled = chosen IsCoupled Q (λ k w. 0) coupled uncoupled

  module _ (taken_count : length h.taken ≡ length i.plan.queues)
      (taken : (q : ℕ) → slice_index h.taken q ≡ length (list_at h.choices q))
      (all : (q : ℕ)
      → map (λ (c : Chosen). c.id) (list_at h.choices q) ≡ arrivals_at h.arrivals q) where
    keep-coupling : QueuesAreCoupled i h t crew turns own c seats execution
    keep-coupling =
        let y = all-coupled in
        record {
          seen = y.0;
          keeps = record {
            turns = keep-turns W Q own (λ w. (turns w).steered) h.choices
                (board-turns i t crew turns own h.choices e) (arrivals_at h.arrivals) all;
            choice_lists = e.choices_are.count;
            taken_lists = taken_count;
            arrivals = λ p. refl;
            choices = λ p. refl;
            taken = taken;
            hashes = λ p. (y.1 p).0.hashes;
            knows = λ p. (y.1 p).0.knows;
            knows_sock = λ p. (y.1 p).0.knows_sock;
            by_table = λ p. (y.1 p).0.by_table;
          };
          wants = λ p. (y.1 p).0.wants;
          marks = λ p. (y.1 p).1;
        }

pub queues_keep_coupling : PollersAreCoupled → QueuesKeepCoupling
queues_keep_coupling law i h t crew turns own c seats e codes among taken_count taken all =
    keep-coupling law i h t crew turns own c seats e codes among taken_count taken all
