-- The laws of this crate, as they are stated.
use Rattle.account.specs.Statements.{LocalWorkKeepsRuns, CallsBegin}
use Rattle.account.proofs.LocalWork.{settled_goes}
use Rattle.account.proofs.Beginning.{begins}

pub local_work : LocalWorkKeepsRuns
local_work p flags heap sound framed f r fits says most = settled_goes p flags heap sound framed f r fits says most

pub calls_begin : CallsBegin
calls_begin p flags heap sound framed class m says fits good never object values full typed all R most owns =
    begins p flags heap sound framed class m says fits good never object values full typed all R most owns
