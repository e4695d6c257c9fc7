use Rattle.std.proofs.Common.{◌+◌, ap, refl, ◌∙◌}
use Rattle.std.specs.Int.{to_be_bytes, w16}
use Rattle.toeplitz.specs.Tables.{xor_of_bytes}
use Rattle.toeplitz.proofs.BytesLemmas.{xor_of_parts}
use Rattle.toeplitz.proofs.words.Words.hash_ports.Goals as goal

pub returns : goal.returns
returns g c =
    let key = g.Self.Words.key c.args.self.now in
    let place = c.args.place in
    xor_of_parts key place (place + 2) c.hash_bytes.result c.hash_bytes-2.result
    (to_be_bytes w16 c.args.sport) (to_be_bytes w16 c.args.dport)
    refl (c.hash_bytes.ensures ∙ ap (xor_of_bytes key place) c.to_be_bytes.ensures)
    (c.hash_bytes-2.ensures ∙ ap (xor_of_bytes key (place + 2)) c.to_be_bytes-2.ensures)
