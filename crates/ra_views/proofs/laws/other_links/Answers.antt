use Rattle.ra_views.proofs.OtherLinks.{view_made, view_shortened, view_anew}
use Rattle.ra_views.proofs.laws.other_links.Goals as goal

pub returns : goal.returns
returns c = record { made = view_made; shortened = view_shortened; anew = view_anew }
