use Rattle.std.proofs.Common.{refl}
use Rattle.toeplitz.specs.Tables.{xor_of_bytes}
use Rattle.toeplitz.proofs.BytesLemmas.{xor_of_bytes-more}
use Rattle.toeplitz.proofs.words.Words.hash_bytes.Goals as goal

pub loop-at-preserved : goal.loop-at-preserved
loop-at-preserved g c =
    let key = g.Self.Words.key c.args.self.now in
    rw (c.word-hash.ensures, c.loop-at.invariant)
    (xor_of_bytes-more key c.args.place c.loop-at.at c.args.bytes.now c.loop-at-test.true)

pub loop-at-init : goal.loop-at-init
unfolding xor_of_bytes
loop-at-init g c = refl
