-- Texts with a line for each processor.
use Rattle.std.proofs.Common.{◌≡◌, ℕ, zero, suc, ◌+◌, ◌-◌, ◌<◌, cond, List, ◌∷◌, ◌++◌, get_or}
use Rattle.std.proofs.Common.{replicate, None, refl, sym, ap, ◌∙◌, arith, append_assoc}
use Rattle.std.proofs.lemmas.List.Sums.{sum_by-cons}
use Rattle.history.specs.declared.packet_line.PacketLine.{PacketLine}
use Rattle.taps.specs.Cpus.{chosen_for, cpu_count_line, is_of, per_cpu_text}
use Rattle.taps.specs.Positions.{depth_after, depth_row, depth_text, positions_at}
use Rattle.taps.specs.Rows.{each_cpu, rows_of_cpus}

same_rows : (first count : ℕ) (f g : ℕ → List ℕ) → ((cpu : ℕ) → f cpu ≡ g cpu)
    → rows_of_cpus first count f ≡ rows_of_cpus first count g
same_rows first zero f g e = refl
same_rows first (suc n) f g e =
    ap (λ r. r ++ rows_of_cpus (first + 1) n f) (e first) ∙ ap (λ r. g first ++ r)
    (same_rows (first + 1) n f g e)

-- texts that agree at each processor
pub same_cpus : (f g : ℕ → List ℕ) → ((cpu : ℕ) → f cpu ≡ g cpu) → each_cpu f ≡ each_cpu g
unfolding each_cpu
same_cpus f g e = same_rows 0 256 f g e

rows_next : (cpu count : ℕ) (f : ℕ → List ℕ) → 0 < count → rows_of_cpus cpu count f ≡ f cpu
    ++ rows_of_cpus (cpu + 1) (count - 1) f
rows_next cpu zero f more = absurd (omega (arith, more))
rows_next cpu (suc n) f more =
    let e : n ≡ suc n - 1 = omega arith in ap (λ m. f cpu ++ rows_of_cpus (cpu + 1) m f) e

-- the text of one processor more is written
pub rows_moved : (text next all : List ℕ) (cpu last : ℕ) (f : ℕ → List ℕ) → cpu < last → next ≡ text
    ++ f cpu
    → text ++ rows_of_cpus cpu (last - cpu) f ≡ all → next ++ rows_of_cpus (cpu + 1)
    (last - (cpu + 1)) f ≡ all
rows_moved text next all cpu last f below e was =
    let less : last - (cpu + 1) ≡ last - cpu - 1 = omega arith in
    ap (λ n. next ++ rows_of_cpus (cpu + 1) n f) less
    ∙ ap (λ r. r ++ rows_of_cpus (cpu + 1) (last - cpu - 1) f) e
    ∙ append_assoc text (f cpu) (rows_of_cpus (cpu + 1) (last - cpu - 1) f)
    ∙ ap (λ r. text ++ r) (sym (rows_next cpu (last - cpu) f (omega arith)))
    ∙ was

-- all processors are left
pub rows_all : (f : ℕ → List ℕ) → rows_of_cpus 0 (256 - 0) f ≡ each_cpu f
unfolding each_cpu
rows_all f = refl

chosen_for-cons : (cpu : ℕ) (line : PacketLine) (lines : List PacketLine)
    → chosen_for cpu (line ∷ lines) ≡ cond (is_of cpu line.choice) 1 0 + chosen_for cpu lines
chosen_for-cons cpu line lines = sum_by-cons (λ l. cond (is_of cpu l.choice) 1 0) line lines

-- the counts with the line are those before and one for its choice
pub same_counts : (before after : List ℕ) (line : PacketLine) (lines : List PacketLine)
    → ((cpu : ℕ) → get_or after cpu 0 ≡ get_or before cpu 0 + cond (is_of cpu line.choice) 1 0)
    → each_cpu (λ cpu. cpu_count_line cpu (get_or after cpu 0 + chosen_for cpu lines))
    ≡ each_cpu (λ cpu. cpu_count_line cpu (get_or before cpu 0 + chosen_for cpu (line ∷ lines)))
same_counts before after line lines e =
    same_cpus (λ cpu. cpu_count_line cpu (get_or after cpu 0 + chosen_for cpu lines))
    (λ cpu. cpu_count_line cpu (get_or before cpu 0 + chosen_for cpu (line ∷ lines)))
    (λ cpu. let sum : get_or after cpu 0 + chosen_for cpu lines ≡ get_or before cpu 0 + chosen_for
    cpu (line ∷ lines)
    = omega (arith, e cpu, chosen_for-cons cpu line lines) in
    ap (λ n. cpu_count_line cpu n) sum)

get_or-replicate_same : {A : Type 0} (n i : ℕ) (a : A) → get_or (replicate n a) i a ≡ a
get_or-replicate_same zero i a = refl
get_or-replicate_same (suc n) zero a = refl
get_or-replicate_same (suc n) (suc i) a = get_or-replicate_same n i a

-- nothing is counted yet
pub new_counts : (n : ℕ) (lines : List PacketLine)
    → each_cpu (λ cpu. cpu_count_line cpu (get_or (replicate n 0) cpu 0 + chosen_for cpu lines))
    ≡ per_cpu_text lines
new_counts n lines =
    same_cpus (λ cpu. cpu_count_line cpu (get_or (replicate n 0) cpu 0 + chosen_for cpu lines))
    (λ cpu. cpu_count_line cpu (chosen_for cpu lines))
    (λ cpu. let sum : get_or (replicate n 0) cpu 0 + chosen_for cpu lines ≡ chosen_for cpu lines =
    omega (arith, get_or-replicate_same {A = ℕ} n cpu 0) in
    ap (λ m. cpu_count_line cpu m) sum)

-- no position was shown yet
pub new_depths : (n : ℕ) (lines : List PacketLine)
    → each_cpu (λ cpu. depth_row cpu (depth_after (get_or (replicate n None) cpu None)
    (positions_at cpu lines))) ≡ depth_text lines
new_depths n lines =
    same_cpus (λ cpu. depth_row cpu (depth_after (get_or (replicate n None) cpu None)
    (positions_at cpu lines)))
    (λ cpu. depth_row cpu (depth_after None (positions_at cpu lines)))
    (λ cpu. ap (λ depth. depth_row cpu (depth_after depth (positions_at cpu lines)))
    (get_or-replicate_same n cpu None))
