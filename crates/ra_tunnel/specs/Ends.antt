-- How a pipe ends.
use Rattle.std.specs.Prelude.{Bool, true, Option, Some, None, ⊤}
use Rattle.ra_tunnel.specs.declared.ends.TunnelSide.TheVariants.{Client, Target}
use Rattle.ra_tunnel.specs.declared.piping.Carried.{Carried}
use Rattle.ra_tunnel.specs.declared.piping.Carried.TheVariants as carried
use Rattle.ra_tunnel.specs.declared.ends.PipeEnd.{PipeEnd}
use Rattle.ra_tunnel.specs.declared.ends.PipeEnd.TheVariants.{Closed, ClientFault, TargetFault, TurnsSpent}

-- the ends at which nothing is lost on the way
abbrev pub IsWhole : PipeEnd → Type 0
IsWhole (Closed by) = ⊤
IsWhole ClientFault = ⊥
IsWhole TargetFault = ⊥
IsWhole TurnsSpent = ⊤

abbrev pub IsWholeTurn : Option PipeEnd → Type 0
IsWholeTurn None = ⊤
IsWholeTurn (Some end) = IsWhole end

-- whether the side that was asked has ended, where it had before or not
abbrev pub carried_end : Carried → Bool → Bool
carried_end carried.On before = before
carried_end carried.End before = true
carried_end carried.FromFault before = before
carried_end carried.ToFault before = before

-- whether the client has ended
abbrev pub client_ended : PipeEnd → Bool → Bool
client_ended (Closed Client) before = true
client_ended (Closed Target) before = before
client_ended ClientFault before = before
client_ended TargetFault before = before
client_ended TurnsSpent before = before

-- whether the target has
abbrev pub target_ended : PipeEnd → Bool → Bool
target_ended (Closed Client) before = before
target_ended (Closed Target) before = true
target_ended ClientFault before = before
target_ended TargetFault before = before
target_ended TurnsSpent before = before

abbrev pub client_ended_by : Option PipeEnd → Bool → Bool
client_ended_by None before = before
client_ended_by (Some end) before = client_ended end before

abbrev pub target_ended_by : Option PipeEnd → Bool → Bool
target_ended_by None before = before
target_ended_by (Some end) before = target_ended end before
