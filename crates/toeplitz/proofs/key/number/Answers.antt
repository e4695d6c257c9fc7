use Rattle.std.proofs.Common.{arith}
use Rattle.toeplitz.proofs.Numbers.{number_of-more, fits_word, fits_more}
use Rattle.toeplitz.proofs.key.number.Goals as goal

pub overflow_mul-number : goal.overflow_mul-number
overflow_mul-number c =
    omega (
      arith,
      fits_word c.loop-byte.number c.loop-byte.byte-index c.loop-byte.invariant.fits
          (omega arith),
    )

pub overflow_add-number : goal.overflow_add-number
overflow_add-number c =
    omega (
      arith,
      fits_word c.loop-byte.number c.loop-byte.byte-index c.loop-byte.invariant.fits
          (omega arith),
    )

pub loop-byte-preserved : goal.loop-byte-preserved
loop-byte-preserved c = record {
  value = rw (number_of-more c.args.bytes.now c.loop-byte.byte-index c.loop-byte-test.true)
      (omega (arith, c.loop-byte.invariant.value, c.from.ensures));
  fits = fits_more c.loop-byte.number c.loop-byte.byte-index c.from.result
      c.loop-byte.invariant.fits (omega arith);
}
