use Rattle.std.proofs.Common.{◌++◌, take, drop, inl}
use Rattle.std.proofs.lemmas.Result.{err_from_is_err_and}
use Rattle.pcap_reader.proofs.Openings.{opens_before, later_fault}
use Rattle.pcap_reader.proofs.header.read_header.Goals as goal

pub returns-in_err-check_ordered-clause-fault : goal.returns-in_err-check_ordered-clause-fault
returns-in_err-check_ordered-clause-fault c =
    let bytes = c.args.bytes.now in
    let format = c.in-Some.format in
    let left = err_from_is_err_and c.from_residual.result c.from_residual.ensures.1 in
    rw (left.1, left.2) (λ more. later_fault (bytes ++ more) c.in_err-check_ordered.field-0.0
    (record {
      big = format.big;
      nano = format.nano;
      header = take 24 bytes;
      body = drop 24 bytes ++ more;
      opens = opens_before bytes more format.big format.nano c.requires c.in-Some.ensures.some;
      parts = inl c.in_err-check_ordered.ensures.fault;
    }))
