use Rattle.workers.proofs.Names.{◌++◌, ◌∷◌, [], ◌∙◌}
use Rattle.workers.proofs.TakenLemmas.{taken-part, taken-whole}
use Rattle.workers.proofs.lists.take_replies.Goals as goal

pub loop-server-preserved : goal.loop-server-preserved
loop-server-preserved c =
    let inv = c.loop-server.invariant in
    let x = c.in-Some.server in
    record {
      front = inv.front ++ x ∷ [];
      whole = taken-whole inv.front _ _ _ x c.in-Some.ensures.items inv.whole;
      sent =
          taken-part (λ v. v.sent.items) inv.front x _ _ _ _ inv.sent c.push.ensures
          (c.from_vec.ensures ∙ c.into_vec.ensures);
      choices =
          taken-part (λ v. v.choices.items) inv.front x _ _ _ _ inv.choices c.push-in-Some.ensures
          (c.from_vec-in-Some.ensures ∙ c.into_vec-in-Some.ensures);
      writes =
          taken-part (λ v. v.writes.items) inv.front x _ _ _ _ inv.writes c.push-in-Some-2.ensures
          (c.from_vec-in-Some-2.ensures ∙ c.into_vec-in-Some-2.ensures);
    }
