use Rattle.serde_json.specs.View.{view}
use Rattle.cap_gen.proofs.Plans.{read_as_plan}
use Rattle.cap_gen.proofs.plan_text.plan_text.Goals as goal

pub returns-clause-plan : goal.returns-clause-plan
returns-clause-plan c =
    read_as_plan c.to_vec.result (view c.in_ok-value.value) c.args.seed c.args.count
    c.in_ok-value.ensures c.requires
    c.to_vec.ensures.utf8 c.to_vec.ensures.reads_back
