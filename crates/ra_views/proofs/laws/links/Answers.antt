use Rattle.ra_views.proofs.LinkTurns.{link_attached, link_fed, link_out, link_turned, link_left}
use Rattle.ra_views.proofs.TurnsWithin.{link_within}
use Rattle.ra_views.proofs.laws.links.Goals as goal

pub returns : goal.returns
returns c = record {
  attach = link_attached;
  feed = link_fed;
  take_out = link_out;
  turn = link_turned;
  leave = link_left;
  never_too_long = link_within;
}
