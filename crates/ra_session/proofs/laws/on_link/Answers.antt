use Rattle.ra_session.proofs.LinkLaws.{attach_on, turn_on, turn_never}
use Rattle.ra_session.proofs.laws.on_link.Goals as goal

pub returns : goal.returns
returns c = record {
  runs = λ h s stands. stands.runs;
  begins = attach_on;
  stays = turn_on;
  linked = turn_never;
}
