use Rattle.ra_channel_laws.proofs.Answering.{server_answer, server_tick, client_tick}
use Rattle.ra_channel_laws.proofs.laws.answers.Goals as goal

pub returns-clause-answer : goal.returns-clause-answer
returns-clause-answer c = server_answer

pub returns-clause-tick : goal.returns-clause-tick
returns-clause-tick c = server_tick

pub returns-clause-client_tick : goal.returns-clause-client_tick
returns-clause-client_tick c = client_tick
