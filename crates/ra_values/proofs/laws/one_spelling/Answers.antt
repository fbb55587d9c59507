use Rattle.ra_values.specs.Spelling.{levels}
use Rattle.ra_values.proofs.Once.{spelled_once, is_spelled, spelled_fits, begins_none}
use Rattle.ra_values.proofs.Spelled.{value_is}
use Rattle.ra_values.proofs.laws.one_spelling.Goals as goal

pub returns-clause-each : goal.returns-clause-each
returns-clause-each c = is_spelled levels

pub returns-clause-once : goal.returns-clause-once
returns-clause-once c = spelled_once levels

pub returns-clause-others : goal.returns-clause-others
returns-clause-others c = spelled_fits levels

pub returns-clause-prefix : goal.returns-clause-prefix
returns-clause-prefix c = begins_none levels

pub returns-clause-bytes : goal.returns-clause-bytes
returns-clause-bytes c = value_is levels
