use Rattle.std.specs.List.{All, AllWithin}
use Rattle.history.proofs.history.fits.tell_lists.Given as goal

-- those so far fit
abbrev pub invariant-loop-list : goal.invariant-loop-list
invariant-loop-list g l = AllWithin (All g.T.Typed.fits) l.lists 0 l.list-index
