use Rattle.std.proofs.Common.{[], ◌∷◌, ◌++◌, codes, decimal}
use Rattle.report.proofs.PiecesLemmas.{joined}
use Rattle.report.proofs.sums.push_lane_sums.Goals as goal

pub returns-clause-text : goal.returns-clause-text
returns-clause-text c =
    let old = c.args.buf.now in
    let accepted = codes "accepted" ∷ decimal c.len.result ∷ [] in
    let pulled = codes "pulled" ∷ decimal c.from.result ∷ [] in
    let delivered = codes "delivered" ∷ decimal c.from-2.result ∷ [] in
    let retired = codes "retired" ∷ decimal c.from-3.result ∷ [] in
    let two = joined old accepted pulled c.push_named.new.buf c.push_named-2.new.buf
    c.push_named.ensures.text c.push_named-2.ensures.text in
    let three = joined old (accepted ++ pulled) delivered c.push_named-2.new.buf
    c.push_named-3.new.buf two c.push_named-3.ensures.text in
    let four = joined old (accepted ++ pulled ++ delivered) retired c.push_named-3.new.buf
    c.push_named-4.new.buf three c.push_named-4.ensures.text in
    rw (c.len.ensures, c.from.ensures, c.from-2.ensures, c.from-3.ensures) at four
