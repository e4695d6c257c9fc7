use Rattle.std.proofs.Common.{◌≡◌, ◌+◌, ◌<◌, ◌∷◌, [], ◌++◌, ◌∙◌}
use Rattle.std.proofs.Common.{ap, append_assoc, arith, get_or, length, subst, suc, sym, take}
use Rattle.std.proofs.Common.{take-suc}
use Rattle.std.proofs.lemmas.List.{get_or-map, length-map}
use Rattle.std.proofs.Math.Seq.{take-length}
use Rattle.steer_model.proofs.Capture.WaitingLemmas.{no_frame}
use Rattle.steer_model.specs.Capture.PacketLists.{HasPackets, dissected_of}
use Rattle.steer_model.proofs.numbered_packets.NumberedPackets.push_all.Goals as goal

pub loop-from-preserved : goal.loop-from-preserved
loop-from-preserved c = λ key kinds frames more has waits.
    let n = c.loop-from.from-index in
    let many = sym (length-map more (dissected_of key kinds)) ∙ ap length waits in
    let within : n < length more = omega (arith, many) in
    let next : suc n ≡ n + 1 = omega arith in
    let on : take (n + 1) more ≡ take n more ++ get_or more n [] ∷ [] =
    ap (λ k. take k more) (sym next) ∙ take-suc more n [] within in
    subst (λ fs. HasPackets key kinds fs c.push.new.self)
    (append_assoc frames (take n more) (get_or more n [] ∷ []) ∙ ap (λ fs. frames ++ fs) (sym on))
    (c.in_ok-push.ensures key kinds (frames ++ take n more) (get_or more n [])
    (c.loop-from.invariant key kinds frames more has waits)
    (sym (get_or-map (dissected_of key kinds) more n [] no_frame within)
    ∙ ap (λ ds. get_or ds n no_frame) waits))

pub returns : goal.returns
returns c = λ key kinds frames more has waits.
    let many = sym (length-map more (dissected_of key kinds)) ∙ ap length waits in
    let all : c.loop-from.from-index ≡ length more = omega (arith, many) in
    subst (λ fs. HasPackets key kinds (frames ++ fs) c.loop-from.self)
    (ap (λ n. take n more) all ∙ take-length more)
    (c.loop-from.invariant key kinds frames more has waits)
