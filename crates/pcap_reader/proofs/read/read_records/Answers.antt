use Rattle.std.proofs.Common.{◌≡◌, ◌+◌, ◌-◌, ◌++◌, length, take, drop, [], ◌∷◌, length-append}
use Rattle.std.proofs.Common.{length-drop, sym, ap, ◌∙◌, arith}
use Rattle.std.proofs.lemmas.List.{drop-drop}
use Rattle.pcap_reader.proofs.Pieces.{split_front, length_cut}
use Rattle.pcap_reader.proofs.Rows.{joins_more}
use Rattle.pcap_reader.proofs.read.read_records.Goals as goal

pub loop-rest-preserved : goal.loop-rest-preserved
loop-rest-preserved g c =
    let bytes = c.args.bytes.now in
    let rest = c.loop-rest.rest.now in
    let more = c.split_at-in-Whole.result.1.now in
    let len = c.in-Whole.record.len in
    let behind : more ≡ drop len (drop 16 rest) = c.split_at-in-Whole.ensures.back
    ∙ sym (drop-drop len 16 rest) in
    let pieces : rest ≡ take 16 rest ++ (take len (drop 16 rest) ++ more) =
    split_front rest len ∙ ap (λ l. take 16 rest ++ (take len (drop 16 rest) ++ l)) (sym behind) in
    let places : (length bytes - length rest) + length rest ≡ 24 + length (drop 24 bytes) =
    omega (arith, c.loop-rest.invariant.behind, length-drop 24 bytes) in
    record {
      behind = omega (
        arith,
        c.loop-rest.invariant.behind,
        ap length c.split_at-in-Whole.ensures.back,
        length-drop (16 + len) rest,
      );
      few = rw c.in_ok-push-in-Whole.ensures.ok (omega (
        arith,
        length-append c.loop-rest.records
            (c.in-Whole.record ∷ []),
      ));
      joined = rw c.in_ok-push-in-Whole.ensures.ok
          (joins_more g.T.ByteOrder.number_of 24 (length bytes - length rest)
          (drop 24 bytes) c.loop-rest.records rest
          (take 16 rest) (take len (drop 16 rest)) more c.in-Whole.record
          c.loop-rest.invariant.joined places pieces c.in-Whole.ensures.1);
    }

pub overflow_cast-result : goal.overflow_cast-result
overflow_cast-result g c =
    omega (arith, length_cut g.T.ByteOrder.number_of c.loop-rest.rest.now c.in-Cut.ensures)
