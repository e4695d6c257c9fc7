use Rattle.std.proofs.Common.{◌≡◌, ◌<◌, ◌≤◌, ◌+◌, ◌∙◌, ap, arith, length, set, subst, sym}
use Rattle.std.specs.Prelude.{slice_index}
use Rattle.std.proofs.lemmas.Grind.{get_or_default_zero}
use Rattle.history.specs.Lists.{lane_at}
use Rattle.good_check.specs.Heads.{HaveSeen}
use Rattle.good_check.proofs.HeadsLemmas.{seen-head}
use Rattle.good_check.proofs.heads.follows.Goals as goal

pub returns-clause-yes : goal.returns-clause-yes
returns-clause-yes c = λ t cs k saw s.
    let last = c.args.last.now.items in
    let lane = c.args.lane in
    let at : c.from-at.result ≡ lane = c.from-at.ensures in
    let there : lane < length last = omega (arith, c.ranges.lane, c.requires.lanes) in
    let here : c.from-at.result < length last = omega (arith, at, there) in
    let index : c.index.result.now ≡ slice_index last lane =
    c.index.ensures ∙ get_or_default_zero last c.from-at.result c.index.result.now here
    ∙ ap (slice_index last) at in
    let above : slice_index last lane ≤ c.past-count.result =
    omega (arith, index, c.if-count-index.false) in
    let low : c.past-count.result ≤ (lane_at c.args.lanes.now lane).retired =
    omega (arith, c.retired.ensures, c.if-count-retired.false) in
    subst (λ a. HaveSeen c.args.start c.args.lanes.now cs (k + 1)
    (set last a c.past-count.result)) (sym at)
    (seen-head c.args.start c.args.lanes.now cs k last s c.args.head lane c.past-count.result saw
    c.past-count.ensures there above low)
