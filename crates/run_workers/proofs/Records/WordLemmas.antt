-- The words of all transmit queues that were read in visits of one number, as one function.
use Rattle.std.specs.Prelude.{slice_index, slice_index_or}
use mathlib.Core.Logic.{dite}
use native.Mathlib.Decide.{ℕ_discrete}
use Rattle.linearization.proofs.ListLemmas.{if_other}
use Rattle.board_api.specs.OwnSteps.{ReadsIn}
use Rattle.run_workers.specs.Hands.Servers.{MapRead}
use Rattle.run_workers.proofs.Names.{◌≡◌, ℕ, zero, suc, ◌+◌, ◌==◌, ◌<◌, ◌≤◌, List, if◌then◌else◌}
use Rattle.run_workers.proofs.Names.{sym, refl, ap, ◌∙◌, subst, arith, if_same, Maps}
use Rattle.run_workers.proofs.Names.{no_cpus, BoardStep, cpus_in, queues_in}

module _ (cpus queues count : ℕ) (maps : Maps) (own : List BoardStep) (number : ℕ) where
  -- what these words say of a transmit queue
  pub record AreRead (words : ℕ → ℕ) (tx : ℕ) : Type 0 where
    pub cpu_reads : ReadsIn own number tx (words tx)
    pub queue_reads : ReadsIn own number (count + tx) (words (count + tx))
    pub cpus_are : slice_index_or maps.cpus tx no_cpus ≡ cpus_in (words tx) cpus
    pub queues_are : slice_index maps.queues tx ≡ queues_in (words (count + tx)) queues

  by_words : (words : ℕ → ℕ) (tx : ℕ) (r : MapRead cpus queues count tx maps own number)
      → words tx ≡ r.cpu_word → words (count + tx) ≡ r.queue_word → AreRead words tx
  by_words words tx r cpu queue =
      record {
        cpu_reads = subst (λ w. ReadsIn own number tx w) (sym cpu) r.reads_cpus;
        queue_reads = subst (λ w. ReadsIn own number (count + tx) w) (sym queue)
            r.reads_queues;
        cpus_are = r.cpus_are ∙ ap (λ w. cpus_in w cpus) (sym cpu);
        queues_are = r.queues_are ∙ ap (λ w. queues_in w queues) (sym queue);
      }

  as_before : (old words : ℕ → ℕ) (tx : ℕ) → words tx ≡ old tx
      → words (count + tx) ≡ old (count + tx) → AreRead old tx → AreRead words tx
  as_before old words tx cpu queue a =
      record {
        cpu_reads = subst (λ w. ReadsIn own number tx w) (sym cpu) a.cpu_reads;
        queue_reads = subst (λ w. ReadsIn own number (count + tx) w) (sym queue)
            a.queue_reads;
        cpus_are = a.cpus_are ∙ ap (λ w. cpus_in w cpus) (sym cpu);
        queues_are = a.queues_are ∙ ap (λ w. queues_in w queues) (sym queue);
      }

  -- the words with those of one queue more
  abbrev with_words : (ℕ → ℕ) → ℕ → ℕ → ℕ → ℕ → ℕ
  with_words old n cpu queue w =
      if n == w then cpu else (if count + n == w then queue else old w)

  pub words_of : (n : ℕ) → n ≤ count
      → ((tx : ℕ) → tx < n → MapRead cpus queues count tx maps own number)
      → (words : ℕ → ℕ) × ((tx : ℕ) → tx < n → AreRead words tx)
  words_of zero few reads = (λ w. 0, λ tx less. absurd (omega arith))
  words_of (suc n) few reads =
      let before = words_of n (omega arith) (λ tx less. reads tx (omega arith)) in
      let r = reads n (omega arith) in
      let words : ℕ → ℕ = with_words before.0 n r.cpu_word r.queue_word in (
        words,
        λ tx less. dite (ℕ_discrete n tx)
            (λ e. subst (λ k. AreRead words k) e
            (by_words words n r (if_same n n r.cpu_word _ refl)
            (if_other n (count + n) r.cpu_word _ (λ e. absurd (omega arith))
            ∙ if_same (count + n) (count + n) r.queue_word _ refl)))
            (λ ne. as_before before.0 words tx
            (if_other n tx r.cpu_word _ ne
            ∙ if_other (count + n) tx r.queue_word _ (λ e. absurd (omega arith)))
            (if_other n (count + tx) r.cpu_word _ (λ e. absurd (omega arith))
            ∙ if_other (count + n) (count + tx) r.queue_word _ (λ e. ne (omega arith)))
            (before.1 tx (omega arith))),
      )
