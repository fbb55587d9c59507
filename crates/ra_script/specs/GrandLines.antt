-- What a caller may rely on in the events of a grand script.
use Rattle.std.specs.Prelude.{◌≢◌, ◌<◌, List}
use Rattle.std.specs.List.{AllByRecursion}
use Rattle.ra_base.specs.declared.kind.Kind.TheVariants.{Tunnel}
use Rattle.ra_values.specs.Tree.{text, buffer}
use Rattle.ra_values.specs.Spelling.{Fits, levels}
use Rattle.ra_script.specs.declared.grand_line.GrandEvent.{GrandEvent}
use Rattle.ra_script.specs.declared.grand_line.GrandEvent.TheVariants as events
use Rattle.ra_script.specs.declared.grand_line.GrandLine.{GrandLine}
use Rattle.ra_script.specs.declared.grand_line.GrandLine.TheVariants.{Do, Drain}
use Rattle.ra_script.specs.Words.{moment_limit}

-- a client is none of a tunnel
abbrev pub IsNoTunnel : GrandEvent → Type 0
IsNoTunnel (events.Client key) = key.kind ≢ Tunnel
IsNoTunnel _ = Unit {0}

-- a moment is below 2^53
abbrev pub IsMomentInRange : GrandEvent → Type 0
IsMomentInRange (events.At now) = now < moment_limit
IsMomentInRange _ = Unit {0}

-- a channel, a name and an argument can be written
abbrev pub GrandEventFits : GrandEvent → Type 0
GrandEventFits (events.Call client channel name arg) = Fits levels (text channel) × Fits levels (text name) × Fits levels (buffer arg)
GrandEventFits (events.CallText client channel name arg) = Fits levels (text channel) × Fits levels (text name) × Fits levels (text arg)
GrandEventFits (events.Listen client channel name) = Fits levels (text channel) × Fits levels (text name)
GrandEventFits _ = Unit {0}

-- P holds of the event of each line that has one
abbrev pub OfEvent : (GrandEvent → Type 0) → GrandLine → Type 0
OfEvent P (Do event) = P event
OfEvent P (Drain client) = Unit {0}

abbrev pub OfEvents : (GrandEvent → Type 0) → List GrandLine → Type 0
OfEvents P lines = AllByRecursion (OfEvent P) lines
