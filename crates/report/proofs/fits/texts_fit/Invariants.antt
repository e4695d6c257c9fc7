use Rattle.std.specs.Prelude.{◌<◌, ◌^◌, length}
use Rattle.std.specs.List.{AllWithin}
use Rattle.report.proofs.fits.texts_fit.Given as goal

-- those so far are counted
abbrev pub invariant-loop-text : goal.invariant-loop-text
invariant-loop-text l = AllWithin (λ text. length text < 2 ^ 64) l.texts 0 l.text-index
