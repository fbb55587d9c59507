-- A client: its dialer, and its links with the server's end of each. What it does at an event of its dialer, and at a call.
use Rattle.std.specs.Prelude.{ℕ, ◌+◌, Bool, false, nat_lt, Option, None, List, [], ◌∷◌, ◌++◌, map}
use Rattle.ra_base.specs.declared.key.Key.{Key}
use Rattle.ra_base.specs.declared.key.Seat.{Seat}
use Rattle.ra_base.specs.declared.event.Side.TheVariants.{B}
use Rattle.ra_model.specs.Links.{Link, new_link, written_to}
use Rattle.ra_upgrade.specs.declared.request_head.HeadFault.{HeadFault}
use Rattle.ra_upgrade.specs.declared.request_head.Upgrade.{Upgrade}
use Rattle.ra_items.specs.Heads.{Head}
use Rattle.ra_session.specs.Sessions.{Session}
use Rattle.ra_link_core.specs.LinkRuns.{Welcome}
use Rattle.ra_dial.specs.declared.values.DialEvent.{DialEvent}
use Rattle.ra_dial.specs.declared.values.DialEvent.TheVariants as dial_events
use Rattle.ra_dial.specs.Attempts.{Step}
use Rattle.ra_dial.specs.Dialers.{Dialer, epoch}
use Rattle.ra_dial.specs.Table.{new_dialer, step, draws_by, out, session_after}
use Rattle.ra_dial.specs.View.{on_session}
use Rattle.ra_grand_runs.specs.Draws.{draws_after}
use Rattle.ra_grand_runs.specs.Lasts.{with_last}
use Rattle.ra_grand_runs.specs.SetUps.{settings_for, context, request_head, answer_at}

-- The server's end of a link: the head that it reads there, what it has read, its seat, its welcome, all that it wrote, the draws that it
-- made, and whether it has ended.
pub record ServerEnd : Type 0 where
  pub head : Head Upgrade HeadFault
  pub seen : List ℕ
  pub seat : Option Seat
  pub welcome : Option Welcome
  pub out : List ℕ
  pub drawn : List (List ℕ)
  pub is_over : Bool

-- A link, between the client as A and the server as B, and the server's end of it.
pub record GrandLink : Type 0 where
  pub link : Link
  pub server : ServerEnd

-- A client: the key of its session, its dialer, how many draws it made, and its links, in the order in which they were made.
pub record Client : Type 0 where
  pub key : Key
  pub dialer : Dialer
  pub drawn : ℕ
  pub links : List GrandLink

abbrev pub new_client : Key → ℕ → Client
new_client key now = record { key = key; dialer = new_dialer (settings_for key) context now; drawn = 0; links = [] }

-- the server's ends of a client's links
abbrev pub ends_of : Client → List ServerEnd
ends_of c = map (λ l. l.server) c.links

-- ---- bytes of the client

-- they are written on a link
abbrev pub writes_up : List ℕ → GrandLink → GrandLink
writes_up bytes l = record l { link = written_to B bytes l.link }

-- all that the dialer has to write is handed out
abbrev pub emptied : Dialer → Dialer
emptied d = record d { pending = []; session = session_after d.stage d.session }

abbrev pub sends : Client → Client
sends c = record c { dialer = emptied c.dialer; links = with_last (writes_up (out c.dialer)) c.links }

-- ---- events of its dialer

-- what the dialer does, and what it is then
abbrev pub dials : DialEvent → ℕ → Client → Step
dials event now c = step (answer_at c.dialer.stage) (draws_after c.drawn) event now c.dialer

unfoldable pub dialled : DialEvent → ℕ → Client → Client
dialled event now c =
    sends (record c { dialer = (dials event now c).1; drawn = c.drawn + draws_by event now c.dialer.stage c.dialer.lost })

-- the server's end of a link on which nothing came
abbrev pub new_end : Head Upgrade HeadFault → ServerEnd
new_end head = record { head = head; seen = []; seat = None; welcome = None; out = []; drawn = []; is_over = false }

-- the link that an attempt makes: its request has the next draw as its key
abbrev pub fresh_link : Client → GrandLink
fresh_link c = record {
  link = new_link;
  server = new_end (request_head c.dialer.settings (nat_lt 0 (epoch c.dialer)) (draws_after c.drawn 0));
}

abbrev pub linked : ℕ → Client → Client
linked now c = dialled dial_events.Linked now (record c { links = c.links ++ fresh_link c ∷ [] })

-- ---- calls

-- a call of its session
unfoldable pub asked : (Session → Session) → Client → Client
asked call c = sends (record c { dialer = on_session call c.dialer })
