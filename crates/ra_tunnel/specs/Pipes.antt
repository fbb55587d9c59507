-- What passes between two links, where they tell.
use Rattle.std.specs.Prelude.{◌≡◌, ◌≢◌, ◌≤◌, ℕ, List, ◌++◌, Option}
use Rattle.ra_ports.specs.Causes.{Rose, next_count}
use Rattle.ra_ports.specs.Links.{Incoming, Takes, Sends}
use Rattle.ra_tunnel.specs.Ends.{IsWholeTurn, carried_end, client_ended_by, target_ended_by}
use Rattle.ra_tunnel.specs.Turns.{TurnsTo}
use Rattle.ra_tunnel.specs.declared.piping.Carried.{Carried}
use Rattle.ra_tunnel.specs.declared.piping.Carried.TheVariants.{FromFault, ToFault}
use Rattle.ra_tunnel.specs.declared.ends.PipeEnd.{PipeEnd}
use Rattle.ra_tunnel.specs.declared.ends.PipeEnd.TheVariants.{ClientFault, TargetFault, TurnsSpent}
use Rattle.std.specs.Prelude.{Some}

-- a link at one moment: what is to come on it, what was sent, and how often it has failed
pub record Side : Type 0 where
  pub incoming : Incoming
  pub sent : Option (List ℕ)
  pub faults : ℕ

abbrev pub side : Incoming → Option (List ℕ) → ℕ → Side
side incoming sent faults = record { incoming = incoming; sent = sent; faults = faults }

-- all that was taken of one link was sent on the other
abbrev pub PipesWhole : (from from_now to to_now : Side) → Type 0
PipesWhole from from_now to to_now = (got : List ℕ) × Takes from.incoming.left from_now.incoming.left got × Sends to.sent to_now.sent got

-- a prefix of it was sent
abbrev pub PipesPrefix : (from from_now to to_now : Side) → Type 0
PipesPrefix from from_now to to_now =
    (passed lost : List ℕ) × Takes from.incoming.left from_now.incoming.left (passed ++ lost) × Sends to.sent to_now.sent passed

-- these bytes were sent on the other link, and then all that was taken of the one
abbrev pub SendsBehind : List ℕ → (from from_now to to_now : Side) → Type 0
SendsBehind first from from_now to to_now =
    (got : List ℕ) × Takes from.incoming.left from_now.incoming.left got × Sends to.sent to_now.sent (first ++ got)

-- a prefix of both was sent
abbrev pub SendsPrefixBehind : List ℕ → (from from_now to to_now : Side) → Type 0
SendsPrefixBehind first from from_now to to_now =
    (got passed lost : List ℕ) × Takes from.incoming.left from_now.incoming.left got × (first ++ got ≡ passed ++ lost)
    × Sends to.sent to_now.sent passed

-- what was taken of each of two links was sent on the other: all of it where the last fact holds, and else a prefix
pub record Piped (client client_now target target_now : Side) (Whole : Type 0) : Type 0 where
  pub up : Whole → PipesWhole client client_now target target_now
  pub down : Whole → PipesWhole target target_now client client_now
  pub up_prefix : PipesPrefix client client_now target target_now
  pub down_prefix : PipesPrefix target target_now client client_now

-- one link was asked once, and what it gave was sent on the other
pub record Carries (result : Carried) (from from_now to to_now : Side) : Type 0 where
  pub whole : result ≢ ToFault → PipesWhole from from_now to to_now
  pub part : PipesPrefix from from_now to to_now
  pub keeps_sent : from_now.sent ≡ from.sent
  pub keeps : to_now.incoming ≡ to.incoming
  pub counted : from_now.incoming.receives ≡ next_count from.incoming.receives
  pub ended : from_now.incoming.ended ≡ carried_end result from.incoming.ended
  pub from_later : from.faults ≤ from_now.faults
  pub to_later : to.faults ≤ to_now.faults
  pub from_fault : result ≡ FromFault → Rose from.faults from_now.faults
  pub to_fault : result ≡ ToFault → Rose to.faults to_now.faults

-- one turn of a pipe: its number says which of the links is asked
pub record Turned (turn : ℕ) (result : Option PipeEnd) (client client_now target target_now : Side) : Type 0 where
  pub piped : Piped client client_now target target_now (IsWholeTurn result)
  pub asked : TurnsTo turn client.incoming.receives client_now.incoming.receives target.incoming.receives target_now.incoming.receives
  pub client_ended : client_now.incoming.ended ≡ client_ended_by result client.incoming.ended
  pub target_ended : target_now.incoming.ended ≡ target_ended_by result target.incoming.ended
  pub goes_on : result ≢ Some TurnsSpent
  pub client_later : client.faults ≤ client_now.faults
  pub target_later : target.faults ≤ target_now.faults
  pub client_fault : result ≡ Some ClientFault → Rose client.faults client_now.faults
  pub target_fault : result ≡ Some TargetFault → Rose target.faults target_now.faults

-- The same, where the client was sent `ok` before what came of the target, and the target `rest` before what came of the client.
pub record Joined (ok rest : List ℕ) (client client_now target target_now : Side) (Whole : Type 0) : Type 0 where
  pub up : Whole → SendsBehind rest client client_now target target_now
  pub down : Whole → SendsBehind ok target target_now client client_now
  pub up_prefix : SendsPrefixBehind rest client client_now target target_now
  pub down_prefix : SendsPrefixBehind ok target target_now client client_now
