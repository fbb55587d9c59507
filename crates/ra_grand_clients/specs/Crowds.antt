-- The clients of a world in memory, and those that they stand for.
use Rattle.std.specs.Prelude.{◌≡◌, ℕ, ℤ, Bool, Option, Some, None, Result, Ok, Err, List, [], ◌∷◌, slice_get, slice_set}
use Rattle.ra_ipc.specs.View.{id_of}
use Rattle.ra_session.specs.declared.values.SessionFault.{SessionFault}
use Rattle.ra_session.specs.SessionRefusals.{Refusal, IsRefusal}
use Rattle.ra_session.specs.Sessions.{Session}
use Rattle.ra_dial.specs.declared.values.DialEvent.{DialEvent}
use Rattle.ra_dial.specs.Acts.{Act}
use Rattle.ra_dial.specs.Calling.{is_calling}
use Rattle.ra_grand_clients.specs.ClientStates.{ClientState, StandsForClient, ReadsAnswer}
use Rattle.ra_grand_runs.specs.GrandClients.{Client, dials, dialled, linked, asked}

-- each client, in order
abbrev pub ClientsStand : List ClientState → List Client → Type 0
ClientsStand [] [] = Unit {0}
ClientsStand [] (c ∷ cs) = ⊥
ClientsStand (h ∷ hs) [] = ⊥
ClientsStand (h ∷ hs) (c ∷ cs) = StandsForClient h c × ClientsStand hs cs

-- an event of the dialer at this place
abbrev pub DialsAt : ℕ → DialEvent → ℕ → Act → List ClientState → List ClientState → Type 0
DialsAt n event now act old new = (cs : List Client) (c : Client) → ClientsStand old cs → slice_get cs n ≡ Some c → ReadsAnswer c
    → ((dials event now c).0 ≡ act) × ClientsStand new (slice_set cs n (dialled event now c))

abbrev pub ClientsStay : List ClientState → List ClientState → Type 0
ClientsStay old new = (cs : List Client) → ClientsStand old cs → ClientsStand new cs

-- a call of the session of the client at this place
abbrev pub AsksAt : {X : Type 0} → ℕ → Result X SessionFault → List ClientState → List ClientState → (Session → Session) → (Session → Option Refusal) → Type 0
AsksAt n (Ok x) old new call refusal = (cs : List Client) (c : Client) → ClientsStand old cs → slice_get cs n ≡ Some c
    → (refusal c.dialer.session ≡ None) × ClientsStand new (slice_set cs n (asked call c))
AsksAt n (Err fault) old new call refusal = (cs : List Client) (c : Client) → ClientsStand old cs → slice_get cs n ≡ Some c
    → IsRefusal fault (refusal c.dialer.session) × ClientsStand new cs

-- the id is that of its next request
abbrev pub IsNextIdAt : ℕ → List ClientState → ℤ → Type 0
IsNextIdAt n old id = (cs : List Client) (c : Client) → ClientsStand old cs → slice_get cs n ≡ Some c → id_of id ≡ c.dialer.session.client.next

-- a link that the client at this place makes
abbrev pub LinksAt : ℕ → ℕ → List ClientState → List ClientState → Type 0
LinksAt n now old new = (cs : List Client) (c : Client) → ClientsStand old cs → slice_get cs n ≡ Some c → ReadsAnswer c → ClientsStand new (slice_set cs n (linked now c))

-- whether the dialer of the client at this place waits for a link
abbrev pub IsCallingAt : ℕ → List ClientState → Bool → Type 0
IsCallingAt n hs answer = (cs : List Client) (c : Client) → ClientsStand hs cs → slice_get cs n ≡ Some c → answer ≡ is_calling c.dialer.stage
