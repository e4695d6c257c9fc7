use Rattle.std.proofs.Common.{ap, [], Some, unwrap_or}
use Rattle.outside_io.proofs.sure_desk.SureDesk.make.Goals as goal

pub returns-clause-held : goal.returns-clause-held
returns-clause-held c = λ name. ap (λ held. Some (unwrap_or (held name) [])) c.make.ensures.held
