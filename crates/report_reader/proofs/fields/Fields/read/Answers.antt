use Rattle.report_reader.proofs.fields.Fields.read.Goals as goal

pub returns-clause-fields : goal.returns-clause-fields
returns-clause-fields c = λ all rest few g. c.read_values.ensures.values all rest few g tt

pub returns-clause-next : goal.returns-clause-next
returns-clause-next c = λ all rest few g. c.read_values.ensures.next all rest few g tt
