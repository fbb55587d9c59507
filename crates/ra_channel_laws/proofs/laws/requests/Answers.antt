use Rattle.ra_channel_laws.proofs.Asking.{asks_call, asks_listen, asks_cancel, asks_dispose}
use Rattle.ra_channel_laws.proofs.laws.requests.Goals as goal

pub returns-clause-call : goal.returns-clause-call
returns-clause-call c = asks_call

pub returns-clause-listen : goal.returns-clause-listen
returns-clause-listen c = asks_listen

pub returns-clause-cancel : goal.returns-clause-cancel
returns-clause-cancel c = asks_cancel

pub returns-clause-dispose : goal.returns-clause-dispose
returns-clause-dispose c = asks_dispose
