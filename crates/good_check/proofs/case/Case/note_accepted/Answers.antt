use Rattle.std.proofs.Common.{ℕ, ◌≡◌, ◌<◌, ◌+◌, ◌++◌, ◌∷◌, ◌∙◌, [], ap, arith, get_or, length, refl}
use Rattle.std.proofs.Common.{subst, sym, take, length-append}
use Rattle.std.proofs.lemmas.Grind.{get_or_default_zero}
use Rattle.steer_base.specs.Drops.{bucket_of}
use Rattle.backlog.specs.Offers.{AreOffers}
use Rattle.steer_model.specs.State.Setup.{packet_hash}
use Rattle.good_check.specs.Drops.{offered}
use Rattle.good_check.proofs.DropsLemmas.{offered-accepted}
use Rattle.good_check.proofs.case.Case.note_accepted.Goals as goal

pub loop-at-preserved : goal.loop-at-preserved
loop-at-preserved c =
    let given = c.args.self.now.given.now in
    let xs = c.args.accepted.now in
    let at = c.loop-at.at in
    let old = c.loop-at.offers.items in
    let v = c.loop-at.invariant in
    let here : at < length xs = omega (arith, c.loop-at-test.true, c.requires.within) in
    let x : ℕ = get_or xs at 0 in
    let is : c.index-accepted-at.result ≡ x =
    c.index-accepted-at.is ∙ get_or_default_zero xs at c.index-accepted-at.result here in
    let bucket : c.bucket_of.result ≡ bucket_of (packet_hash given x) =
    c.bucket_of.ensures.bucket ∙ ap bucket_of (c.hash_of.ensures ∙ ap (packet_hash given) is) in
    let items : c.note.new.self.items ≡ old ++ bucket_of (packet_hash given x) ∷ [] =
    ap (λ j. j.items) c.note.ensures.items ∙ ap (λ b. old ++ b ∷ []) bucket in
    let count : length c.note.new.self.items ≡ length old + 1 =
    ap length items ∙ length-append old (bucket_of (packet_hash given x) ∷ []) in
    record {
      offers = λ drops h.
          subst (λ o. AreOffers (packet_hash given) (offered (take (at + 1) xs) drops o))
          (sym items)
          (offered-accepted (packet_hash given) xs at (at + 1) drops old here refl
          (v.offers drops h));
      count = omega (arith, count, v.count, c.loop-at.auto.at);
      room = ap (λ j. j.room) c.note.ensures.items ∙ v.room;
    }
