use Rattle.ra_upgrade.specs.RequestHeads.{HeadIs}
use Rattle.ra_items.proofs.HeadLemmas.{request_found, request_stays, one_request_items, fronts_of}
use Rattle.ra_items.proofs.laws.request_heads.Goals as goal

pub returns : goal.returns
returns c = record { found = request_found; front = fronts_of HeadIs; stays = request_stays; one = one_request_items }
