use Rattle.std.proofs.Common.{◌<◌, ◌∙◌, [], ◌∷◌, ◌++◌, length, take, ap, sym, arith}
use Rattle.std.proofs.lemmas.List.{take_more, take_more_set}
use Rattle.steer_base.specs.Sets.{members}
use Rattle.steer_base.proofs.FirstLemmas.{members-here, members-left, members-next}
use Rattle.rps_map.proofs.map.listed.Goals as goal

pub lowest-cpu-requires : goal.lowest-cpu-requires
lowest-cpu-requires c =
    members-left c.args.mask c.loop-place.rest c.loop-place.place c.loop-place.invariant.rest
    (omega arith)

pub loop-place-preserved : goal.loop-place-preserved
loop-place-preserved c =
    let all = members c.args.mask in
    let here = c.loop-place.place in
    let within : here < length all = omega arith in
    record {
      rest = ap members (c.without-rest.ensures.value c.lowest-cpu.ensures.within)
          ∙ members-next c.args.mask c.loop-place.rest here c.lowest-cpu.result _
          c.loop-place.invariant.rest within c.lowest-cpu.ensures.first;
      cpus = take_more_set c.loop-place.cpus here c.lowest-cpu.result (omega arith)
          ∙ ap (λ xs. xs ++ c.lowest-cpu.result ∷ []) c.loop-place.invariant.cpus
          ∙ ap (λ cpu. take here all ++ cpu ∷ [])
          (members-here c.args.mask c.loop-place.rest here c.lowest-cpu.result _
          c.loop-place.invariant.rest within c.lowest-cpu.ensures.first)
          ∙ sym (take_more all here 0 within);
    }
