use Rattle.std.proofs.Common.{◌++◌, ap, refl, sym, ◌∙◌}
use Rattle.toeplitz.specs.Flows.{addresses, ports}
use Rattle.toeplitz.specs.Toeplitz.{hash_of}
use Rattle.toeplitz.proofs.BytesLemmas.{xor_of_parts, hash_of-bytes}
use Rattle.toeplitz.proofs.words.Words.hash_four.Goals as goal
use Rattle.steer_base.specs.declared.flow.Pair.TheVariants.{V4, V6}

pub returns-in-V4 : goal.returns-in-V4
returns-in-V4 g c =
    let key = g.Self.Words.key c.args.self.now in
    let pair = addresses (V4 c.in-V4.src c.in-V4.dst) in
    let behind = ports c.args.sport c.args.dport in
    xor_of_parts key 0 8 c.hash_v4.result c.hash_ports.result pair behind
    refl c.hash_v4.ensures c.hash_ports.ensures
    ∙ sym (hash_of-bytes key (pair ++ behind))
    ∙ ap (λ p. hash_of key (addresses p ++ behind)) (sym c.in-V4.is)

pub returns-in-V6 : goal.returns-in-V6
returns-in-V6 g c =
    let key = g.Self.Words.key c.args.self.now in
    let pair = addresses (V6 c.in-V6.src c.in-V6.dst) in
    let behind = ports c.args.sport c.args.dport in
    xor_of_parts key 0 32 c.hash_v6.result c.hash_ports-ports.result pair behind
    refl c.hash_v6.ensures c.hash_ports-ports.ensures
    ∙ sym (hash_of-bytes key (pair ++ behind))
    ∙ ap (λ p. hash_of key (addresses p ++ behind)) (sym c.in-V6.is)
