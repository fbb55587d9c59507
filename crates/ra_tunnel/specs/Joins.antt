-- A client that is joined to a target.
use Rattle.std.specs.Prelude.{◌≡◌, ◌≤◌, ℕ, List, [], ◌∷◌, ◌++◌, Option, Some}
use Rattle.ra_edge.specs.Lines.{IsFresh}
use Rattle.ra_ports.specs.Causes.{Rose}
use Rattle.ra_tunnel.specs.Ends.{IsWhole, client_ended, target_ended}
use Rattle.ra_tunnel.specs.Pipes.{Side, Joined}
use Rattle.ra_tunnel.specs.Turns.{Alternates}
use Rattle.ra_tunnel.specs.declared.ends.PipeEnd.{PipeEnd}
use Rattle.ra_tunnel.specs.declared.ends.PipeEnd.TheVariants.{ClientFault, TargetFault, TurnsSpent}

-- what passed between a client and a target, and why no more
pub record Joins (end : PipeEnd) (turns : ℕ) (ok rest : List ℕ) (client client_now target target_now : Side) : Type 0 where
  pub joined : Joined ok rest client client_now target target_now (IsWhole end)
  pub calls : Alternates turns (end ≡ TurnsSpent) client.incoming.receives client_now.incoming.receives target.incoming.receives
      target_now.incoming.receives
  pub client_over : client_now.incoming.ended ≡ client_ended end client.incoming.ended
  pub target_over : target_now.incoming.ended ≡ target_ended end target.incoming.ended
  pub client_later : client.faults ≤ client_now.faults
  pub target_later : target.faults ≤ target_now.faults
  pub client_fault : end ≡ ClientFault → Rose client.faults client_now.faults
  pub target_fault : end ≡ TargetFault → Rose target.faults target_now.faults

-- a client was joined to the link that was opened next, which was then given back
pub record Reaches {L : Type 0} (side_of : L → Side) (lines lines_now returned returned_now : Option (List L)) (end : PipeEnd) (turns : ℕ) (ok rest : List ℕ) (client client_now : Side) : Type 0 where
  pub line : L
  pub back : L
  pub taken : (told : List L) → lines ≡ Some told → (more : List L) × (told ≡ line ∷ more) × (lines_now ≡ Some more)
  pub fresh : (told : List L) → lines ≡ Some told → IsFresh (side_of line).sent (side_of line).faults (side_of line).incoming
  pub kept : (told : List L) → returned ≡ Some told → returned_now ≡ Some (told ++ back ∷ [])
  pub joins : Joins end turns ok rest client client_now (side_of line) (side_of back)
