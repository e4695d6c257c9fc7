use Rattle.std.proofs.Common.{◌≡◌, true}
use Rattle.std.proofs.lemmas.Result.{IfOk-weaker}
use Rattle.steer_model.specs.Good.Deliveries.{IsDeliveredInOrder, IsSteered}
use Rattle.good_check.specs.Cases.{input_of}
use Rattle.good_check.proofs.case.Case.is_steered.Goals as goal

pub returns-clause-yes : goal.returns-clause-yes
returns-clause-yes c =
    let case = c.args.self.now in
    let i = input_of case in
    IfOk-weaker c.has_order.result
    (λ r. r ≡ true → IsDeliveredInOrder i case.h.now)
    (λ r. r ≡ true → IsSteered i case.h.now)
    (λ r o t. record {
      regular = c.requires.plain.regular;
      places = c.has_places.ensures.yes c.if-not-has_places.false;
      order = o t;
    })
    c.has_order.ensures.yes
