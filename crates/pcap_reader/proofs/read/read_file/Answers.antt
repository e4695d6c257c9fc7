use Rattle.std.proofs.Common.{◌≤◌, [], take, drop, length, arith, inr, subst}
use Rattle.std.proofs.lemmas.List.{append-nil}
use Rattle.std.proofs.lemmas.Result.{err_from_is_err_and}
use Rattle.pcap_reader.specs.Faults.{HasFault}
use Rattle.pcap_reader.proofs.Openings.{opens_here, later_fault}
use Rattle.pcap_reader.proofs.read.read_file.Goals as goal

pub returns-in_err-records-clause-fault : goal.returns-in_err-records-clause-fault
returns-in_err-records-clause-fault c =
    let bytes = c.args.bytes.now in
    let whole : 24 ≤ length bytes = omega arith in
    let format = c.in_ok-big.field-0 in
    let left = err_from_is_err_and c.from_residual-in_err-records.result
    c.from_residual-in_err-records.ensures.1 in
    rw (left.1, left.2) (λ numbered. later_fault bytes c.in_err-records.field-0.0 (record {
      big = format.big;
      nano = format.nano;
      header = take 24 bytes;
      body = drop 24 bytes;
      opens = opens_here bytes format.big format.nano whole c.in_ok-big.ensures.magic;
      parts = inr (c.in_ok-big.ensures.ethernet, c.in_err-records.ensures.fault numbered);
    }))

pub returns-in_err-big-clause-fault : goal.returns-in_err-big-clause-fault
returns-in_err-big-clause-fault c =
    let bytes = c.args.bytes.now in
    let left = err_from_is_err_and c.from_residual.result c.from_residual.ensures.1 in
    rw (left.1, left.2) (λ _. subst (λ all. HasFault all c.in_err-big.field-0.0)
    (append-nil bytes) (c.in_err-big.ensures.fault []))

pub returns-clause-found : goal.returns-clause-found
returns-clause-found c =
    let bytes = c.args.bytes.now in
    let whole : 24 ≤ length bytes = omega arith in
    let format = c.in_ok-big.field-0 in
    record {
      header = take 24 bytes;
      body = drop 24 bytes;
      opens = opens_here bytes format.big format.nano whole c.in_ok-big.ensures.magic;
      ethernet = c.in_ok-big.ensures.ethernet;
      records = c.in_ok-records.ensures.found;
    }
