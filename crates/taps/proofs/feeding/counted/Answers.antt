use Rattle.std.proofs.Common.{◌≡◌, ◌∙◌, ℕ, ap, length, rules, take}
use Rattle.taps.specs.Shown.{least_after}
use Rattle.taps.proofs.ShownLemmas.{one_more}
use Rattle.taps.proofs.feeding.counted.Goals as goal

pub loop-tap-preserved : goal.loop-tap-preserved
loop-tap-preserved g c = λ lines all.
    let tap = c.in-Some.tap in
    let done = c.loop-tap.fed.items in
    let number : c.len-in-loop-tap.result ≡ length done =
    search (rules, c.len-in-loop-tap.ensures) in
    let left = λ (count : ℕ). (g.dyn-1.0.entry tap.vtable).1.text tap.value (take count lines) in
    one_more _ _ done _ c.in_ok-one.one tap _ _ _
    c.in_ok-push.ensures.items c.in-Some.ensures.steps.0
    (c.in_ok-one.ensures lines ∙ ap left (c.least_after-count.ensures
    ∙ ap (λ n. least_after n c.args.detach.now c.args.arrived) number
    ∙ ap (λ n. least_after (length done) c.args.detach.now n) all))
    (c.loop-tap.invariant lines all)
