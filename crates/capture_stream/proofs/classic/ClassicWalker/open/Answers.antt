use Rattle.capture_stream.proofs.ClassicLemmas.{classic-append}
use Rattle.capture_stream.proofs.classic.ClassicWalker.open.Goals as goal

pub returns-in-Err-clause-fault : goal.returns-in-Err-clause-fault
returns-in-Err-clause-fault c = λ more. (
  classic-append c.args.bytes.now more c.requires.whole c.requires.classic,
  c.in-Err.ensures.fault more,
)
