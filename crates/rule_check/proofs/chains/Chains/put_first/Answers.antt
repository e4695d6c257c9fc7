use Rattle.std.proofs.Common.{ℕ, ◌≡◌, ◌<◌, ◌∙◌, Some, None, arith, length, subst, sym}
use Rattle.std.specs.Prelude.{slice_index_or}
use Rattle.std.specs.Option.{ForSome}
use Rattle.std.proofs.lemmas.List.{get_or_default}
use Rattle.rule_check.proofs.ChainsLemmas.{put-first}
use Rattle.rule_check.proofs.chains.Chains.put_first.Goals as goal

pub returns-in-Some-clause-chained : goal.returns-in-Some-clause-chained
returns-in-Some-clause-chained c = λ xs h n.
    let classes = c.args.classes.now in
    let old = c.args.self.now in
    let x : ℕ = c.id.inside.0 in
    let v : x ≡ c.args.id = c.id.view_is in
    let is : slice_index_or classes x None ≡ Some c.in-Some.class = c.in-Some.is in
    let own : ForSome (slice_index_or classes x None) (λ k. k < length old.first.items) =
    subst (λ y. ForSome (slice_index_or classes y None) (λ k. k < length old.first.items)) (sym v)
    c.requires.classes in
    let class : c.in-Some.class < length old.first.items = own c.in-Some.class is in
    let within : x < length old.next.items =
    omega (arith, v, c.requires.within, c.requires.packets) in
    put-first classes old.first.items old.next.items x c.args.id c.in-Some.class c.index.result.now
    v (c.index.ensures
    ∙ get_or_default old.first.items c.in-Some.class c.index.result.now None class)
    is within class xs h n
