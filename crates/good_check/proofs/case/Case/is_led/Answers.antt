use Rattle.std.proofs.Common.{◌≡◌, ◌∙◌, Some, None, ap, false, inl, inr, sym, true}
use Rattle.steer_base.specs.Arrivals.{route}
use Rattle.rule_check.specs.Pairs.{has_pair}
use Rattle.good_check.specs.Queues.{filter_is_in}
use Rattle.good_check.proofs.QueuesLemmas.{by-filter}
use Rattle.good_check.proofs.case.Case.is_led.Goals as goal

pub returns-then-is_by_entry-clause-yes : goal.returns-then-is_by_entry-clause-yes
returns-then-is_by_entry-clause-yes c = λ t.
    inl (c.is_by_entry.ensures.yes c.if-is_by_entry.true c.args.hash
    ∙ ap (λ q. route (Some c.args.hash) None q) c.queue.ensures.value)

pub returns-then-not-is_by_filter-clause-no : goal.returns-then-not-is_by_filter-clause-no
returns-then-not-is_by_filter-clause-no c = λ s.
    let case = c.args.self.now in
    let hash = c.args.hash in
    let a = c.args.arrival.now in
    let w = by-filter (has_pair c.args.set.now) case.settings.now.reta.entries
    case.plan.now.filters hash a s (λ e.
    let t : c.is_by_entry.result ≡ true = c.is_by_entry.ensures.no hash
    (e ∙ sym (ap (λ q. route (Some hash) None q) c.queue.ensures.value)) in
    let f : c.is_by_entry.result ≡ false = c.if-is_by_entry.false in cc) in
    let t : c.is_by_filter.result ≡ true = c.is_by_filter.ensures.no hash w.0 in
    let f : c.is_by_filter.result ≡ false = c.if-not-is_by_filter.true in
    cc

pub returns-clause-yes : goal.returns-clause-yes
returns-clause-yes c = λ t.
    let case = c.args.self.now in
    let hash = c.args.hash in
    let a = c.args.arrival.now in
    let set = has_pair c.args.set.now in
    inr (
      a.queue,
      c.is_by_filter.ensures.yes c.if-not-is_by_filter.false hash,
      ap (λ o. filter_is_in set o a.queue) (sym c.place_of_hash.ensures.value)
          ∙ sym c.filter_is_in.ensures ∙ t,
    )

pub returns-clause-no : goal.returns-clause-no
returns-clause-no c = λ s.
    let case = c.args.self.now in
    let hash = c.args.hash in
    let a = c.args.arrival.now in
    let set = has_pair c.args.set.now in
    let w = by-filter set case.settings.now.reta.entries case.plan.now.filters hash a s (λ e.
    let t : c.is_by_entry.result ≡ true = c.is_by_entry.ensures.no hash
    (e ∙ sym (ap (λ q. route (Some hash) None q) c.queue.ensures.value)) in
    let f : c.is_by_entry.result ≡ false = c.if-is_by_entry.false in cc) in
    c.filter_is_in.ensures
    ∙ ap (λ o. filter_is_in set o a.queue) c.place_of_hash.ensures.value ∙ w.1
