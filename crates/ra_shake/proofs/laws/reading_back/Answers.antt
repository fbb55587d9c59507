use Rattle.ra_shake.proofs.ReadBackLemmas.{reading-auth_text, reading-sign_text, reading-connection_text, reading-accept_text, reading-refuse_text}
use Rattle.ra_shake.proofs.laws.reading_back.Goals as goal

pub returns : goal.returns
returns c = record {
  auth = reading-auth_text;
  sign = reading-sign_text;
  connection = reading-connection_text;
  accept = reading-accept_text;
  refuse = reading-refuse_text;
}
