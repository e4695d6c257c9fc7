use Rattle.std.proofs.Common.{ap, [], Some, unwrap_or}
use Rattle.outside_io.proofs.sure_desk.SureDeskDesk.begin.Goals as goal

pub returns-clause-held : goal.returns-clause-held
returns-clause-held c = ap (λ held name. Some (unwrap_or (held name) [])) c.begin.ensures.held
