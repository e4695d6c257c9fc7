use Rattle.capture_stream.proofs.ClassicLemmas.{passed-append}
use Rattle.capture_stream.proofs.classic.ClassicWalkerWalk.goes_on.Goals as goal

pub returns : goal.returns
returns c = λ bytes frames rest more passed.
    passed-append c.args.self.now bytes more frames rest passed
