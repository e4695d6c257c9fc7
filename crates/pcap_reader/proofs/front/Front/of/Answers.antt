use Rattle.std.proofs.Common.{◌≡◌, ap, ◌∙◌, arith, take, drop, length, length-drop}
use Rattle.std.proofs.lemmas.List.{take_rest}
use Rattle.pcap_reader.specs.Captures.{frame_len}
use Rattle.pcap_reader.proofs.Pieces.{cut_begins_none, whole_here}
use Rattle.pcap_reader.proofs.front.Front.of.Goals as goal

pub returns-then-len-behind : goal.returns-then-len-behind
returns-then-len-behind g c =
    let number = g.T.ByteOrder.number_of in
    let rest = c.args.rest.now in
    let told : c.read_u32-len.result ≡ frame_len number (take 16 rest) =
    c.read_u32-len.ensures ∙ ap (number 4) (take_rest c.split_at.result.0.now 8
    ∙ ap (drop 8) c.split_at.ensures.front) in
    let behind = ap length c.split_at.ensures.back in
    record {
      some = c.requires.some;
      no_record = cut_begins_none number rest (omega (arith, told, behind));
      small = λ whole. omega (arith, told);
    }

pub returns : goal.returns
returns g c =
    let number = g.T.ByteOrder.number_of in
    let rest = c.args.rest.now in
    let header = c.split_at.result.0.now in
    let front = c.split_at.ensures.front in
    let told : c.read_u32-len.result ≡ frame_len number (take 16 rest) =
    c.read_u32-len.ensures ∙ ap (number 4) (take_rest header 8 ∙ ap (drop 8) front) in
    let behind = ap length c.split_at.ensures.back in (
      omega (arith, behind, length-drop 16 rest),
      record {
        whole = whole_here number rest c.read_u32-len.result (omega arith) told (omega arith)
            (omega (arith, behind));
        seconds = c.read_u32.ensures ∙ ap (number 4) front;
        fraction = c.read_u32-2.ensures ∙ ap (number 4) (take_rest header 4 ∙ ap (drop 4) front);
        length_told = told;
        original = c.read_u32-3.ensures ∙ ap (number 4) (take_rest header 12 ∙ ap (drop 12) front);
        frame_place = omega arith;
      },
    )
