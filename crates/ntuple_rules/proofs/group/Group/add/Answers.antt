use Rattle.std.proofs.Common.{refl}
use Rattle.indexmap.specs.IndexMap.{get}
use Rattle.ntuple_rules.specs.Groups.{same_fields}
use Rattle.ntuple_rules.proofs.Found.{none_of, number_more}
use Rattle.ntuple_rules.proofs.group.Group.add.Goals as goal

pub returns-in-Ok : goal.returns-in-Ok
returns-in-Ok c =
    let was = get same_fields c.args.self.now.numbers in
    let now = get same_fields c.insert.new.self in
    let none = none_of c.get.result
    (was c.args.key) c.is_some.result c.is_some.ensures c.if-is_some.false c.get.ensures.value
    in
    let updates = c.in-Ok.ensures.updates in
    record {
      shaped = refl;
      starts = refl;
      numbers = λ other. number_more was (now other) c.args.key other c.args.number none
          (updates.0 other);
    }
