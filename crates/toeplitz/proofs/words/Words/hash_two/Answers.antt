use Rattle.std.proofs.Common.{refl}
use Rattle.toeplitz.specs.Flows.{addresses}
use Rattle.toeplitz.proofs.BytesLemmas.{hash_of-bytes}
use Rattle.toeplitz.proofs.words.Words.hash_two.Goals as goal

pub returns-then-has_addresses : goal.returns-then-has_addresses
returns-then-has_addresses g c =
    let key = g.Self.Words.key c.args.self.now in
    let bytes = hash_of-bytes key (addresses c.args.pair.now) in
    rw (← c.if-has_addresses.ensures, c.hash_addresses.ensures, bytes) refl
