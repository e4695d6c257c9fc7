use Rattle.std.proofs.Common.{◌≡◌, true, false, ap}
use Rattle.serde_json.specs.View.{view}
use Rattle.plan_reader.specs.PlanTexts.{json_of}
use Rattle.plan_reader.proofs.Bytes.{value_found, value_none}
use Rattle.plan_reader.proofs.Placed.{gives_none}
use Rattle.plan_reader.proofs.json_text.value_of.Goals as goal

pub returns-in-Ok : goal.returns-in-Ok
returns-in-Ok c =
    ap json_of (value_found c.args.bytes.now _ _ c.in-Ok.ensures.ok.0 c.in-Ok.ensures.ok.1)

pub returns-else-is_memory : goal.returns-else-is_memory
returns-else-is_memory c =
    let other = λ (e : _). let impossible : false ≡ true = c.if-is_memory.ensures.1 e in
    absurd cc in
    gives_none view _ _ _ (ap json_of (value_none c.args.bytes.now _ (c.in-Err.ensures.err other)))
    c.here.ensures
