-- The runs of which the laws speak.
use Rattle.std.specs.Prelude.{◌≢◌, Option, Some, None, List, [], ◌∷◌, ⊤}
use Rattle.ra_base.specs.TokenGrammar.{IsToken}
use Rattle.ra_base.specs.declared.kind.Kind.TheVariants.{Tunnel}
use Rattle.ra_script.specs.GrandLines.{GrandEventFits}
use Rattle.ra_script.specs.declared.grand_line.GrandEvent.{GrandEvent}
use Rattle.ra_script.specs.declared.grand_line.GrandEvent.TheVariants as events
use Rattle.ra_grand_runs.specs.Fits.{RunFits}
use Rattle.ra_grand_runs.specs.GrandRefusals.{Refusal}
use Rattle.ra_grand_runs.specs.Grands.{new_grand}
use Rattle.ra_grand_runs.specs.Marks.{Mark, whole, short, unticked, Entry}

-- memory did not run out at the server's end of a link
abbrev pub IsUnbroken : Mark → Type 0
IsUnbroken whole = ⊤
IsUnbroken (short draws calls bytes) = ⊥
IsUnbroken (unticked keys) = ⊤

-- nor did it in a sweep
abbrev pub IsWhole : Mark → Type 0
IsWhole whole = ⊤
IsWhole (short draws calls bytes) = ⊥
IsWhole (unticked keys) = ⊥

abbrev pub AreWhole : List Entry → Type 0
AreWhole [] = ⊤
AreWhole (entry ∷ entries) = IsWhole entry.mark × AreWhole entries

-- a client that is made has a token, and is no client of a tunnel
abbrev pub HasKey : GrandEvent → Type 0
HasKey (events.Client key) = IsToken key.token × (key.kind ≢ Tunnel)
HasKey _ = ⊤

abbrev pub HaveKeys : List Entry → Type 0
HaveKeys [] = ⊤
HaveKeys (entry ∷ entries) = HasKey entry.event × HaveKeys entries

-- what a call or a listener carries can be written
abbrev pub HaveRequests : List Entry → Type 0
HaveRequests [] = ⊤
HaveRequests (entry ∷ entries) = GrandEventFits entry.event × HaveRequests entries

-- A run of which the laws speak, as `run_grand` answers it: its marks fit, its clients have tokens and are of no tunnels, and what is asked
-- for can be written.
pub record IsRun (entries : List Entry) : Type 0 where
  pub fits : RunFits entries new_grand
  pub keys : HaveKeys entries
  pub requests : HaveRequests entries

-- what comes of an event, which is nothing where it is refused
abbrev pub unless : {X : Type 0} → Option Refusal → List X → List X
unless None xs = xs
unless (Some refused) xs = []
