use Rattle.taps.proofs.CpusLemmas.{new_counts}
use Rattle.taps.proofs.per_cpu.PerCpu.make.Goals as goal

pub returns : goal.returns
returns c = λ lines. new_counts 256 lines
