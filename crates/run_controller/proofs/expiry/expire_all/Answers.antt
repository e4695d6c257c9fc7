use Rattle.run_controller.proofs.Names.{◌≡◌, ◌+◌, ◌∙◌, ℕ, refl, ap, sym, subst, arith}
use Rattle.run_controller.proofs.Names.{if◌then◌else◌, ExpiresAll}
use Rattle.run_controller.proofs.LoopLemmas.{expires_more, expires_none, few_expired}
use Rattle.run_controller.proofs.expiry.expire_all.Given as given
use Rattle.run_controller.proofs.expiry.expire_all.Goals as goal
use Rattle.run_controller.proofs.expiry.expire_all.Goals.{else-expire_one, then-expire_one}

pub loop-place-init : goal.loop-place-init
loop-place-init g c =
    record {
      all = expires_none c.args.shared.now c.args.seat.now c.args.hint.now;
      table = refl;
      inside = c.requires.inside;
      hint_table = refl;
    }

count-is : (g : given.Over) (c : goal.Joined-expire_one g)
    → (if c.expire_one.result then c.loop-place.count + 1 else c.loop-place.count)
    ≡ c.if-expire_one.count
count-is g c =
    elim c.if-expire_one.branch [
      | then-expire_one w ↦
          ap (λ b. if b then c.loop-place.count + 1 else c.loop-place.count) w.if-expire_one.true
          ∙ sym w.count-is
      | else-expire_one w ↦
          ap (λ b. if b then c.loop-place.count + 1 else c.loop-place.count) w.if-expire_one.false
          ∙ sym w.count-is
    ]

pub loop-place-preserved : goal.loop-place-preserved
loop-place-preserved g c =
    record {
      all = subst (λ (n : ℕ).
          ExpiresAll c.args.shared.now (c.loop-place.place + 1) c.args.seat.now
          c.expire_one.new.seat c.args.hint.now c.expire_one.new.hint n) (count-is g c)
          (expires_more c.args.shared.now c.loop-place.place c.loop-place.count c.expire_one.result
          c.args.seat.now c.loop-place.seat c.expire_one.new.seat c.args.hint.now
          c.loop-place.hint c.expire_one.new.hint c.loop-place.invariant.all
          c.expire_one.ensures.one);
      table = c.expire_one.ensures.table ∙ c.loop-place.invariant.table;
      inside = c.expire_one.ensures.inside;
      hint_table = c.expire_one.ensures.hint_table ∙ c.loop-place.invariant.hint_table;
    }

pub overflow_add-count : goal.overflow_add-count
overflow_add-count g c =
    let few = few_expired c.args.shared.now c.loop-place.place c.loop-place.count c.args.seat.now
    c.loop-place.seat c.args.hint.now c.loop-place.hint c.loop-place.invariant.all in
    let less = c.loop-place-test.true in
    let filters = c.requires.filters in
    omega (arith, few, less, filters)
