use Rattle.std.proofs.Common.{ℕ, ◌≡◌, ◌<◌, ◌++◌, ◌∷◌, ◌∙◌, ap, [], Some, None, arith, length, subst}
use Rattle.std.proofs.Common.{sym, false, true}
use Rattle.std.specs.Prelude.{slice_index_or, slice_set}
use Rattle.std.specs.Option.{ForSome}
use Rattle.std.proofs.lemmas.List.{get_or_default}
use Rattle.steer_base.specs.Orders.{IsPrefix}
use Rattle.rule_check.specs.Chains.{AreLeft, in_class}
use Rattle.rule_check.proofs.ChainsLemmas.{Left, left-first, left-plain, not-first}
use Rattle.rule_check.proofs.chains.Chains.take.Goals as goal

pub returns-in_default-clause-yes : goal.returns-in_default-clause-yes
returns-in_default-clause-yes c = λ t came gone h.
    subst (λ y. AreLeft c.args.classes.now c.args.self.now came (gone ++ y ∷ [])) c.id.view_is
    (left-plain c.args.classes.now c.args.self.now c.id.inside.0 came gone c.in_default.is h)

pub returns-then-not-is_packet-clause-no : goal.returns-then-not-is_packet-clause-no
returns-then-not-is_packet-clause-no c = λ f came gone more h p.
    let classes = c.args.classes.now in
    let old = c.args.self.now in
    let x : ℕ = c.id.inside.0 in
    let v : x ≡ c.args.id = c.id.view_is in
    let is : slice_index_or classes x None ≡ Some c.in-Some.class = c.in-Some.is in
    let own : ForSome (slice_index_or classes x None) (λ k. k < length old.first.items) =
    subst (λ y. ForSome (slice_index_or classes y None) (λ k. k < length old.first.items)) (sym v)
    c.requires.classes in
    let class : c.in-Some.class < length old.first.items =
    own c.in-Some.class is in
    not-first classes old x c.in-Some.class is class
    (λ e. let there : c.index.result.now ≡ Some c.args.id =
    c.index.ensures
    ∙ get_or_default old.first.items c.in-Some.class c.index.result.now None class
    ∙ e ∙ ap (λ y. Some y) v in
    let t : c.is_packet.result ≡ true = c.is_packet.ensures.no there in
    let f : c.is_packet.result ≡ false = c.if-not-is_packet.true in cc)
    came gone more h
    (subst (λ y. IsPrefix (in_class classes c.in-Some.class (gone ++ y ∷ more))
    (in_class classes c.in-Some.class came)) (sym v) (p c.in-Some.class class))

pub returns-clause-yes : goal.returns-clause-yes
returns-clause-yes c = λ t came gone h.
    let classes = c.args.classes.now in
    let old = c.args.self.now in
    let x : ℕ = c.id.inside.0 in
    let v : x ≡ c.args.id = c.id.view_is in
    let is : slice_index_or classes x None ≡ Some c.in-Some.class = c.in-Some.is in
    let own : ForSome (slice_index_or classes x None) (λ k. k < length old.first.items) =
    subst (λ y. ForSome (slice_index_or classes y None) (λ k. k < length old.first.items)) (sym v)
    c.requires.classes in
    let class : c.in-Some.class < length old.first.items =
    own c.in-Some.class is in
    let began : slice_index_or old.first.items c.in-Some.class None ≡ Some x =
    sym (c.index.ensures
    ∙ get_or_default old.first.items c.in-Some.class c.index.result.now None class)
    ∙ c.is_packet.ensures.yes c.if-not-is_packet.false ∙ ap (λ y. Some y) (sym v) in
    let within : x < length old.next.items =
    omega (arith, v, c.requires.within, c.requires.packets) in
    let there : c.id-2.inside.0 < length old.next.items =
    omega (arith, c.id-2.view_is, c.requires.within, c.requires.packets) in
    let value : c.index-2.result.now ≡ slice_index_or old.next.items x None =
    c.index-2.ensures
    ∙ get_or_default old.next.items c.id-2.inside.0 c.index-2.result.now None there
    ∙ ap (λ y. slice_index_or old.next.items y None) (c.id-2.view_is ∙ sym v) in
    subst (λ y. Left classes (slice_set old.first.items c.in-Some.class c.index-2.result.now)
    old.next.items came (gone ++ y ∷ [])) v
    (left-first classes old.first.items old.next.items x c.in-Some.class c.index-2.result.now value
    is class began came gone h)
