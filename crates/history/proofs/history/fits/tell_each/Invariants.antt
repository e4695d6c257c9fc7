use Rattle.std.specs.List.{AllWithin}
use Rattle.history.proofs.history.fits.tell_each.Given as goal

-- those so far fit
abbrev pub invariant-loop-item : goal.invariant-loop-item
invariant-loop-item g l = AllWithin g.T.Typed.fits l.list 0 l.item-index
