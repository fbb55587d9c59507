-- The calls of a session that keep its link.
use Rattle.std.proofs.Common.{◌≡◌, ℕ, Option, List, [], ◌∷◌, length, map, refl, ap, sym, ◌∙◌}
use Rattle.std.proofs.lemmas.Bool.{cond_both}
use Rattle.std.specs.Prelude.{nat_le}
use Rattle.std.specs.Option.{is_some}
use Rattle.ra_values.specs.Tree.{Tree}
use Rattle.ra_model.specs.Endpoints.{Endpoint, is_up, is_linked, is_ended, shown}
use Rattle.ra_model.specs.Calls.{can_say, say, can_feed, feed, wrote, tick}
use Rattle.ra_proto.specs.SayAll.{say_all}
use Rattle.ra_ipc.specs.Messages.{Reply, promise, promise_cancel, event_listen, event_dispose}
use Rattle.ra_ipc.specs.Packets.{message_bytes}
use Rattle.ra_ipc.specs.ChannelServers.{timeout_answers}
use Rattle.ra_ipc.specs.ChannelClients.{sent_now}
use Rattle.ra_session.specs.Sessions.{Session}
use Rattle.ra_session.specs.SessionCalls.{Firing, answer_packets, answer, say_body, call, listen, cancel, dispose, tick_session, feed_session, emptied, take_out}
use Rattle.ra_session.specs.OnLinks.{IsOnLink}
use Rattle.ra_views.specs.SessionLinks.{KeepsLink, KeepsNumber}

-- ---- of its endpoint

abbrev pub SameLink : Endpoint → Endpoint → Type 0
SameLink after before = (after.epoch ≡ before.epoch) × (after.phase ≡ before.phase)

same_said : (body : List ℕ) (now : ℕ) (e : Endpoint) → SameLink (say body now e) e
unfolding say
same_said body now e = cond_both (can_say body e) _ _ (λ (x : Endpoint). SameLink x e) (λ yes. (refl, refl)) (λ no. (refl, refl))

pub same_said_all : (bodies : List (List ℕ)) (now : ℕ) (e : Endpoint) → SameLink (say_all bodies now e) e
unfolding say_all
same_said_all [] now e = (refl, refl)
same_said_all (body ∷ bodies) now e =
    let rest = same_said_all bodies now (say body now e) in
    let first = same_said body now e in
    (rest.0 ∙ first.0, rest.1 ∙ first.1)

same_ticked : (now : ℕ) (e : Endpoint) → SameLink (tick now e) e
unfolding tick
same_ticked now e = cond_both (is_up e.phase) _ _ (λ (x : Endpoint). SameLink x e) (λ yes. (refl, refl)) (λ no. (refl, refl))

same_fed : (epoch : ℕ) (piece : List ℕ) (now : ℕ) (e : Endpoint) → SameLink (feed epoch piece now e) e
unfolding feed
same_fed epoch piece now e = cond_both (can_feed epoch e) _ _ (λ (x : Endpoint). SameLink x e) (λ yes. (refl, refl)) (λ no. (refl, refl))

pub same_emptied : (e : Endpoint) → SameLink (emptied e) e
unfolding wrote
same_emptied e = cond_both (nat_le (length (shown e)) (length (shown e))) _ _ (λ (x : Endpoint). SameLink x e) (λ yes. (refl, refl)) (λ no. (refl, refl))

-- ---- of the session

abbrev SameSessionLink : Session → Session → Type 0
SameSessionLink after before =
    (after.peer.endpoint.epoch ≡ before.peer.endpoint.epoch) × (after.peer.endpoint.phase ≡ before.peer.endpoint.phase) × (after.cause ≡ before.cause)

pub link_call : (channel name : List ℕ) (arg : Tree) (now : ℕ) → KeepsLink (call channel name arg now)
unfolding call
link_call channel name arg now s =
    let said = same_said_all (map message_bytes (sent_now s.client (promise s.client.next channel name arg))) now s.peer.endpoint in (said.0, said.1, refl)

pub link_listen : (channel event : List ℕ) (arg : Tree) (now : ℕ) → KeepsLink (listen channel event arg now)
unfolding listen
link_listen channel event arg now s =
    let said = same_said_all (map message_bytes (sent_now s.client (event_listen s.client.next channel event arg))) now s.peer.endpoint in (said.0, said.1, refl)

pub link_cancel : (id now : ℕ) → KeepsLink (cancel id now)
unfolding cancel
link_cancel id now s =
    let said = same_said_all (map message_bytes (sent_now s.client (promise_cancel id))) now s.peer.endpoint in (said.0, said.1, refl)

pub link_dispose : (id now : ℕ) → KeepsLink (dispose id now)
unfolding dispose
link_dispose id now s =
    let said = same_said_all (map message_bytes (sent_now s.client (event_dispose id))) now s.peer.endpoint in (said.0, said.1, refl)

pub link_answer : (id : ℕ) (reply : Reply) (fire : Option Firing) (now : ℕ) → KeepsLink (answer id reply fire now)
unfolding answer
link_answer id reply fire now s =
    let said = same_said_all (map message_bytes (answer_packets s.server id reply fire)) now s.peer.endpoint in (said.0, said.1, refl)

pub link_say : (body : List ℕ) (now : ℕ) → KeepsLink (say_body body now)
unfolding say_body
link_say body now s = let said = same_said body now s.peer.endpoint in (said.0, said.1, refl)

pub link_tick : (now : ℕ) → KeepsLink (tick_session now)
unfolding tick_session
link_tick now s =
    let ticked = same_ticked now s.peer.endpoint in
    let said = same_said_all (map message_bytes (timeout_answers s.server now)) now (tick now s.peer.endpoint) in
    cond_both (is_some s.cause) s _ (λ (x : Session). SameSessionLink x s) (λ over. (refl, refl, refl)) (λ going. (said.0 ∙ ticked.0, said.1 ∙ ticked.1, refl))

pub link_feed : (epoch : ℕ) (piece : List ℕ) (now : ℕ) → KeepsLink (feed_session epoch piece now)
unfolding feed_session
link_feed epoch piece now s = let fed = same_fed epoch piece now s.peer.endpoint in (fed.0, fed.1, refl)

pub link_take_out : KeepsLink take_out
unfolding take_out
link_take_out s = let out = same_emptied s.peer.endpoint in (out.0, out.1, refl)

-- ---- what follows

pub number_link : (f : Session → Session) → KeepsLink f → KeepsNumber f
number_link f keeps s =
    let same = keeps s in
    (same.0, λ runs going. ap is_ended same.1 ∙ runs (sym same.2 ∙ going))

pub keeps_on_link : (f : Session → Session) (epoch : ℕ) (s : Session) → KeepsLink f → IsOnLink epoch s → IsOnLink epoch (f s)
keeps_on_link f epoch s keeps on going =
    let same = keeps s in
    let was = on (sym same.2 ∙ going) in
    (same.0 ∙ was.0, ap is_linked same.1 ∙ was.1)
