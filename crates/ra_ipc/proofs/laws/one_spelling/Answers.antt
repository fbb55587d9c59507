use Rattle.ra_ipc.proofs.Spelled.{message_is, message_fits, begins_none, spelled_is_read}
use Rattle.ra_ipc.proofs.laws.one_spelling.Goals as goal

pub returns-clause-each : goal.returns-clause-each
returns-clause-each c = message_is

pub returns-clause-others : goal.returns-clause-others
returns-clause-others c = message_fits

pub returns-clause-prefix : goal.returns-clause-prefix
returns-clause-prefix c = begins_none

pub returns-clause-read : goal.returns-clause-read
returns-clause-read c = spelled_is_read
