-- One more step of a generator that was advanced.
use Rattle.std.proofs.Common.{◌≡◌, ◌∙◌, ℕ, zero, suc, ◌+◌, refl, ap, sym, arith}
use Rattle.rand_pcg.specs.Lcg.{Lcg, advance, next, next_state, state_after}
use Rattle.rand_pcg.specs.Pcg.{multiplier_64, pcg32}

state_after-none : (w m p s : ℕ) → state_after w m p 0 s ≡ s
unfolding state_after
state_after-none w m p s = refl

state_after-more : (w m p n s : ℕ)
    → next_state w m p (state_after w m p n s) ≡ state_after w m p (suc n) s
unfolding state_after
state_after-more w m p zero s = refl
state_after-more w m p (suc n) s = state_after-more w m p n (next_state w m p s)

-- a generator that has given no word
pub advance-none : (g : Lcg) → g ≡ advance 64 multiplier_64 0 g
advance-none g =
    sym (ap (λ (s : ℕ). record g { state = s })
    (state_after-none 64 multiplier_64 g.increment g.state))

advance-more : (n : ℕ) (g : Lcg)
    → next 64 multiplier_64 (advance 64 multiplier_64 n g) ≡ advance 64 multiplier_64 (n + 1) g
advance-more n g =
    ap (λ (s : ℕ). record g { state = s })
    (state_after-more 64 multiplier_64 g.increment n g.state)
    ∙ ap (λ (k : ℕ). advance 64 multiplier_64 k g) (let e : suc n ≡ n + 1 = omega arith in e)

-- what one more word leaves of a generator that has given n words
pub stepped-more : (word n : ℕ) (old new g : Lcg) → (word, new) ≡ pcg32 old
    → old ≡ advance 64 multiplier_64 n g → new ≡ advance 64 multiplier_64 (n + 1) g
stepped-more word n old new g step at =
    ap (λ (x : ℕ × Lcg). x.1) step ∙ ap (next 64 multiplier_64) at ∙ advance-more n g
