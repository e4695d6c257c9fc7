use Rattle.std.proofs.Common.{ap, refl, ◌∙◌}
use Rattle.std.specs.Int.{to_be_bytes, w128}
use Rattle.toeplitz.specs.Tables.{xor_of_bytes}
use Rattle.toeplitz.proofs.BytesLemmas.{xor_of_parts}
use Rattle.toeplitz.proofs.words.Words.hash_v6.Goals as goal

pub returns : goal.returns
returns g c =
    let key = g.Self.Words.key c.args.self.now in
    xor_of_parts key 0 16 c.hash_bytes.result c.hash_bytes-2.result
    (to_be_bytes w128 c.args.src) (to_be_bytes w128 c.args.dst)
    refl (c.hash_bytes.ensures ∙ ap (xor_of_bytes key 0) c.to_be_bytes.ensures)
    (c.hash_bytes-2.ensures ∙ ap (xor_of_bytes key 16) c.to_be_bytes-2.ensures)
