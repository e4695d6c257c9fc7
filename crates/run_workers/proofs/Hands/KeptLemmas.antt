-- The maps that an application keeps, before any word was read.
use Rattle.std.proofs.Common.{◌^◌, replicate, ap₂, slice_index_or}
use Rattle.std.specs.Prelude.{nat_lt, if◌then◌else◌}
use Rattle.std.proofs.lemmas.List.{get_or-replicate, length-replicate, take-replicate}
use Rattle.run_workers.specs.Hands.KeptMaps.{IsByWords}
use Rattle.run_workers.proofs.Names.{ℕ, ◌≡◌, ◌<◌, ◌≤◌, Bool, true, false, List, length, take, refl}
use Rattle.run_workers.proofs.Names.{sym, ap, ◌∙◌, arith, slice_index, CpuMask, Maps, no_cpus}
use Rattle.run_workers.proofs.Names.{cpus_in, queues_in}

either : (b : Bool) (n : ℕ) → (if b then n else n) ≡ n
either true n = refl
either false n = refl

queues_in-zero : (queues : ℕ) → queues_in 0 queues ≡ 0
queues_in-zero queues = either (nat_lt 0 (2 ^ queues)) 0

abbrev set_of : ℕ → CpuMask
set_of n = record { 0 = n }

cpus_in-zero : (cpus : ℕ) → cpus_in 0 cpus ≡ no_cpus
cpus_in-zero cpus = ap set_of (either (nat_lt 0 (2 ^ cpus)) 0)

module _ (cpus queues txs : ℕ) (few_cpus : cpus ≤ 32) (few_queues : queues ≤ 16)
    (few : txs ≤ 32) where
  unread : (tx : ℕ) → tx < txs → slice_index (replicate 32 0) tx ≡ 0
  unread tx low = get_or-replicate 32 tx 0 0 (omega (arith, low, few))

  abbrev maps_of : List CpuMask → List ℕ → Maps
  maps_of sets lists = record { count = length sets; cpus = sets; queues = lists }

  -- empty maps are by words of which none was read
  pub starts : (maps : Maps) (n : ℕ) → n ≡ txs
      → maps ≡ maps_of (take n (replicate 32 no_cpus)) (take n (replicate 32 0))
      → IsByWords cpus queues txs (replicate 32 0) (replicate 32 0) maps
  starts maps n all made =
      let are : maps ≡ maps_of (replicate txs no_cpus) (replicate txs 0) =
      made
      ∙ (ap (λ (k : ℕ). maps_of (take k (replicate 32 no_cpus)) (take k (replicate 32 0))) all
      ∙ ap₂ maps_of (take-replicate txs 32 no_cpus few) (take-replicate txs 32 0 few)) in
      record {
        few_cpus = few_cpus;
        few_queues = few_queues;
        few = few;
        count = ap (λ (m : Maps). m.count) are ∙ length-replicate txs no_cpus;
        cpu_sets = ap (λ (m : Maps). length m.cpus) are ∙ length-replicate txs no_cpus;
        queue_sets = ap (λ (m : Maps). length m.queues) are ∙ length-replicate txs 0;
        cpus_are = λ tx low.
            ap (λ (m : Maps). slice_index_or m.cpus tx no_cpus) are
            ∙ (get_or-replicate txs tx no_cpus no_cpus low
            ∙ (sym (cpus_in-zero cpus)
            ∙ ap (λ (w : ℕ). cpus_in w cpus) (sym (unread tx low))));
        queues_are = λ tx low.
            ap (λ (m : Maps). slice_index m.queues tx) are
            ∙ (get_or-replicate txs tx 0 0 low
            ∙ (sym (queues_in-zero queues)
            ∙ ap (λ (w : ℕ). queues_in w queues) (sym (unread tx low))));
      }
