use Rattle.std.proofs.Common.{◌≡◌, ◌<◌, ◌*◌, ◌/◌, ◌%◌, ◌^◌, ◌-◌, ◌+◌, ap, ◌∙◌, refl, arith}
use Rattle.toeplitz.specs.Toeplitz.{key_window}
use Rattle.toeplitz.specs.Tables.{xor_of_byte}
use Rattle.toeplitz.proofs.Windows.{window_is, word_of_one, word_of_other}
use Rattle.toeplitz.proofs.key.KeyWords.word.Goals as goal
use Rattle.toeplitz.proofs.key.KeyWords.word.Goals.{then-byte-bit-eq1, else-byte-bit-eq1}

pub loop-bit-init : goal.loop-bit-init
unfolding xor_of_byte
loop-bit-init c = refl

pub loop-bit-preserved : goal.loop-bit-preserved
loop-bit-preserved c =
    let key = c.args.self.now in
    let place = c.args.place in
    let bit = c.loop-bit.bit in
    let small : bit < 8 = omega arith in
    elim c.if-byte-bit-eq1.branch [
      | then-byte-bit-eq1 w ↦
          let span : c.span-span.result ≡ key / 2 ^ (8 * (35 - place)) % 2 ^ 40 =
          c.span-span.ensures ∙ ap (λ n. n / 2 ^ (8 * (35 - place)) % 2 ^ 40) c.self.view_is in
          let shown : c.span-span.result / 2 ^ (8 - bit) % 2 ^ 32 ≡ key_window key
          (8 * place + bit) =
          ap (λ n. n / 2 ^ (8 - bit) % 2 ^ 32) span ∙ window_is key place bit c.requires small in
          rw (w.word-is, c.loop-bit.invariant) (word_of_one key place c.args.byte bit
          (c.span-span.result / 2 ^ (8 - bit) % 2 ^ 32) w.if-byte-bit-eq1.true shown)
      | else-byte-bit-eq1 w ↦ w.word-is ∙ c.loop-bit.invariant
          ∙ word_of_other key place c.args.byte bit w.if-byte-bit-eq1.false
    ]
