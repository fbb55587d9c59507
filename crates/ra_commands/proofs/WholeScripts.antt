-- What holds of the events of each line.
use Rattle.std.proofs.Common.{List, [], ◌∷◌}
use Rattle.ra_script.specs.GrandLines.{IsNoTunnel, IsMomentInRange, GrandEventFits, OfEvent, OfEvents}
use Rattle.ra_script.specs.declared.grand_line.GrandLine.{GrandLine}
use Rattle.ra_script.specs.declared.grand_line.GrandLine.TheVariants.{Do, Drain}
use Rattle.ra_grand.specs.GrandEvents.{IsGrandEvent}

one_event : (l : GrandLine) → OfEvent IsNoTunnel l → OfEvent IsMomentInRange l → OfEvent GrandEventFits l → OfEvent IsGrandEvent l
one_event (Do event) kind moment fits = (kind, moment, fits)
one_event (Drain client) kind moment fits = kind

pub all_events : (lines : List GrandLine) → OfEvents IsNoTunnel lines → OfEvents IsMomentInRange lines → OfEvents GrandEventFits lines → OfEvents IsGrandEvent lines
all_events [] kinds moments fit = kinds
all_events (l ∷ lines) kinds moments fit = (one_event l kinds.0 moments.0 fit.0, all_events lines kinds.1 moments.1 fit.1)
