-- The generator of a seed after so many words.
use Rattle.std.proofs.Common.{◌≡◌, ℕ, zero, suc, ◌+◌, refl, ap, ◌∙◌, arith, add-one}
use Rattle.rand_pcg.specs.Lcg.{Lcg, started, increment_of, next, advance, state_after}
use Rattle.rand_pcg.specs.Pcg.{multiplier_64, pcg32}
use Rattle.rand_pcg.proofs.LcgLemmas.{advance_more}
use Rattle.plan_reader.specs.Seeds.{generator, seeded_word}

-- one step after i is i + 1 steps
next-advance : (w m i : ℕ) (g : Lcg) → next w m (advance w m i g) ≡ advance w m (i + 1) g
unfolding state_after
next-advance w m zero g = refl
next-advance w m (suc i) g =
    let counted : i + 1 + 1 ≡ suc i + 1 = omega (arith, add-one i) in
    next-advance w m i (next w m g) ∙ advance_more w m (i + 1) g ∙ ap (λ n. advance w m n g) counted

unfoldable pub generator_at : ℕ → ℕ → Lcg
generator_at seed i = advance 64 multiplier_64 i (generator seed)

-- a new generator gave no word yet
pub generator_at-new : (seed : ℕ) (s : Lcg) → s ≡ started 64 multiplier_64 seed (increment_of 64 54)
    → s ≡ generator_at seed 0
unfolding generator generator_at state_after
generator_at-new seed s new = new

-- what it gives next is word i
pub word_at : (seed i word : ℕ) (s t : Lcg) → (word, t) ≡ pcg32 s → s ≡ generator_at seed i
    → word ≡ seeded_word seed i
unfolding generator_at seeded_word
word_at seed i word s t step at = ap (λ (p : ℕ × Lcg). p.0) step ∙ ap (λ g. (pcg32 g).0) at

-- and then it gave i + 1
pub generator_at-more : (seed i word : ℕ) (s t : Lcg) → (word, t) ≡ pcg32 s
    → s ≡ generator_at seed i → t ≡ generator_at seed (i + 1)
unfolding generator_at
generator_at-more seed i word s t step at =
    ap (λ (p : ℕ × Lcg). p.1) step ∙ ap (λ g. next 64 multiplier_64 g) at
    ∙ next-advance 64 multiplier_64 i (generator seed)
