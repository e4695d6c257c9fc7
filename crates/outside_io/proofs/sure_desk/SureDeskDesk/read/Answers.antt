use Rattle.std.proofs.Common.{ap, [], Some, unwrap_or}
use Rattle.outside_io.proofs.sure_desk.SureDeskDesk.read.Goals as goal

pub returns-in-0-clause-held : goal.returns-in-0-clause-held
returns-in-0-clause-held c = ap (λ held name. Some (unwrap_or (held name) [])) c.read.ensures.held

pub returns-in_default-clause-held : goal.returns-in_default-clause-held
returns-in_default-clause-held c =
    ap (λ held name. Some (unwrap_or (held name) [])) c.read.ensures.held
