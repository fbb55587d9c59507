use Rattle.ra_shake.proofs.WholeLemmas.{succeeds}
use Rattle.ra_shake.proofs.laws.equal_settings_succeed.Goals as goal

pub returns : goal.returns
returns c = succeeds
