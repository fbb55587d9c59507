use Rattle.ra_shake.proofs.WholeLemmas.{succeeds_by_key}
use Rattle.ra_shake.proofs.laws.equal_keys_succeed.Goals as goal

pub returns : goal.returns
returns c = succeeds_by_key
