-- What a client in memory keeps, and the clients that it stands for. It puts its bytes on its link before the next event, and not at once.
use Rattle.std.specs.Prelude.{◌≡◌, ℕ, ℤ, Option, None, Result, Ok, Err, List, map}
use Rattle.ra_base.specs.declared.event.Side.TheVariants.{B}
use Rattle.ra_base.specs.declared.key.Key.{Key}
use Rattle.ra_model.specs.Links.{Link, written_to}
use Rattle.ra_ipc.specs.View.{id_of}
use Rattle.ra_session.specs.declared.values.SessionFault.{SessionFault}
use Rattle.ra_session.specs.SessionRefusals.{Refusal, IsRefusal}
use Rattle.ra_session.specs.Sessions.{Session}
use Rattle.ra_dial.specs.declared.values.DialEvent.{DialEvent}
use Rattle.ra_dial.specs.Acts.{Act}
use Rattle.ra_dial.specs.DialerStates.{DialerState, StandsForDialer}
use Rattle.ra_dial.specs.Handshakes.{IsHeadOf}
use Rattle.ra_grand_runs.specs.Draws.{draws_after}
use Rattle.ra_grand_runs.specs.GrandClients.{GrandLink, Client, sends, dials, dialled, asked}
use Rattle.ra_grand_runs.specs.Lasts.{with_last}
use Rattle.ra_grand_runs.specs.SetUps.{answer_at}

-- `held` was handed out by the dialer, and is to be written on the last link
pub record ClientState : Type 0 where
  pub key : Key
  pub dialer : DialerState
  pub drawn : ℕ
  pub held : List ℕ
  pub links : List Link

abbrev pub wire : GrandLink → Link
wire l = l.link

-- bytes of the client on its last link, where it has one
abbrev pub put_on_last : List ℕ → List Link → List Link
put_on_last bytes links = with_last (written_to B bytes) links

-- all that was handed out counts as written
pub record Holds (h : ClientState) (c : Client) : Type 0 where
  pub key : c.key ≡ h.key
  pub dialer : StandsForDialer h.dialer c.dialer
  pub draws : draws_after h.drawn ≡ draws_after c.drawn
  pub links : map wire c.links ≡ put_on_last h.held h.links

-- it is one whose bytes are still to be put on its link
abbrev pub StandsForClient : ClientState → Client → Type 0
StandsForClient h c = (u : Client) × Holds h u × (c ≡ sends u)

-- the new state stands for what the change makes of each client that the old one stands for
abbrev pub ClientBecomes : ClientState → ClientState → (Client → Client) → Type 0
ClientBecomes old new change = (c : Client) → StandsForClient old c → StandsForClient new (change c)

-- the new state stands for each client that the old one stands for
abbrev pub StaysClient : ClientState → ClientState → Type 0
StaysClient old new = (c : Client) → StandsForClient old c → StandsForClient new c

-- and nothing is left to be put on its link
abbrev pub IsFlushed : ClientState → ClientState → Type 0
IsFlushed old new = (c : Client) → StandsForClient old c → Holds new c

-- what a handshake has read is the answer to its request, or a front of it
abbrev pub ReadsAnswer : Client → Type 0
ReadsAnswer c = IsHeadOf c.dialer.stage (answer_at c.dialer.stage)

-- an event of its dialer makes the new state from the old one
abbrev pub Dials : ClientState → ClientState → DialEvent → ℕ → Act → Type 0
Dials old new event now act =
    (c : Client) → StandsForClient old c → ReadsAnswer c → ((dials event now c).0 ≡ act) × StandsForClient new (dialled event now c)

-- a call of its session is refused exactly where it has to be, or memory ran out; else it is made
abbrev pub Asks : {X : Type 0} → Result X SessionFault → ClientState → ClientState → (Session → Session) → (Session → Option Refusal) → Type 0
Asks (Ok x) old new call refusal =
    (c : Client) → StandsForClient old c → (refusal c.dialer.session ≡ None) × StandsForClient new (asked call c)
Asks (Err fault) old new call refusal = (c : Client) → StandsForClient old c → IsRefusal fault (refusal c.dialer.session) × StandsForClient new c

-- the id is that of the client's next request
abbrev pub IsNextId : ClientState → ℤ → Type 0
IsNextId old id = (c : Client) → StandsForClient old c → id_of id ≡ c.dialer.session.client.next
