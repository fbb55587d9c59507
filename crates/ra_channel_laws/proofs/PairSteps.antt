-- What the hearing of a message leaves of a pair, and of the end that hears it.
use Rattle.std.proofs.Common.{◌≡◌, ℕ, ◌<◌, ◌^◌, true, false, not, eqb, Option, Some, None, [], refl, ap, sym, ◌∙◌, inl, inr}
use Rattle.std.proofs.lemmas.Bool.{cond_both, cases_Bool, false≢true}
use Rattle.std.specs.Prelude.{option_map}
use Rattle.std.specs.List.{AllByRecursion}
use Rattle.ra_ipc.specs.Messages.{Message, promise, promise_cancel, event_listen, event_dispose, initialize, response, event_fire, is_request}
use Rattle.ra_ipc.specs.ChannelServers.{Server, is_active}
use Rattle.ra_ipc.specs.ChannelClients.{Client, is_in, after_initialize, after_response}
use Rattle.ra_ipc.specs.ChannelPackets.{active_id, after_request, requested_call, after_packet, Notice, ready, settled, fired, notice_of}
use Rattle.ra_ipc.specs.ChannelPairs.{Pair, server_takes, client_takes}
use Rattle.ra_ipc.specs.Deliveries.{released_by, settled_by, fired_by_notice}
use Rattle.ra_session.specs.Hearing.{work, Hearing, hears, heard_packet, heard_request, happening_of}
use Rattle.ra_channel_laws.specs.Channels.{settled_in, fired_in}
use Rattle.ra_channel_laws.proofs.Lists.{all_kept}
use Rattle.ra_channel_laws.proofs.Sides.{ClientFits, AsksNothing}

-- ---- the client hears a message

pub record ServerStays (p q : Pair) : Type 0 where
  pub server : q.server ≡ p.server
  pub server_heard : q.server_heard ≡ p.server_heard
  pub client_heard : q.client_heard ≡ p.client_heard
  pub to_client : q.to_client ≡ p.to_client
  pub entries : q.entries ≡ p.entries

stays : (p : Pair) → ServerStays p p
stays p = record { server = refl; server_heard = refl; client_heard = refl; to_client = refl; entries = refl }

pub client_takes_rest : (p : Pair) (m : Message) → ServerStays p (client_takes p m)
client_takes_rest p (promise id channel name arg) = stays p
client_takes_rest p (promise_cancel id) = stays p
client_takes_rest p (event_listen id channel event arg) = stays p
client_takes_rest p (event_dispose id) = stays p
client_takes_rest p initialize =
    cond_both p.client.ready _ _ (λ (q : Pair). ServerStays p q) (λ _. stays p)
    (λ _. record { server = refl; server_heard = refl; client_heard = refl; to_client = refl; entries = refl })
client_takes_rest p (response id reply) =
    cond_both (is_in id p.client.calls) _ _ (λ (q : Pair). ServerStays p q)
    (λ _. record { server = refl; server_heard = refl; client_heard = refl; to_client = refl; entries = refl }) (λ _. stays p)
client_takes_rest p (event_fire id body) =
    cond_both (is_in id p.client.listeners) _ _ (λ (q : Pair). ServerStays p q)
    (λ _. record { server = refl; server_heard = refl; client_heard = refl; to_client = refl; entries = refl }) (λ _. stays p)

pub packet_fits : (c : Client) (m : Message) → ClientFits c → ClientFits (after_packet c m)
packet_fits c (promise id channel name arg) h = h
packet_fits c (promise_cancel id) h = h
packet_fits c (event_listen id channel event arg) h = h
packet_fits c (event_dispose id) h = h
packet_fits c initialize h =
    cond_both c.ready c (after_initialize c) ClientFits (λ _. h) (λ _. record { waiting = tt; sayable = tt; calls = h.calls; listeners = h.listeners })
packet_fits c (response id reply) h = cond_both (is_in id c.calls) (after_response c id) c ClientFits (λ _. record {
  waiting = h.waiting;
  sayable = h.sayable;
  calls = all_kept (λ (i : ℕ). i < 2 ^ 31) (λ (i : ℕ). not (eqb i id)) c.calls h.calls;
  listeners = h.listeners;
}) (λ _. h)
packet_fits c (event_fire id body) h = h

-- what is released has waited
pub released_all : (P : Message → Type 0) (c : Client) (m : Message) → AllByRecursion P c.waiting → AllByRecursion P (released_by (notice_of c m))
released_all P c (promise id channel name arg) h = tt
released_all P c (promise_cancel id) h = tt
released_all P c (event_listen id channel event arg) h = tt
released_all P c (event_dispose id) h = tt
released_all P c initialize h = cond_both c.ready _ _ (λ (n : Option Notice). AllByRecursion P (released_by n)) (λ _. tt) (λ _. h)
released_all P c (response id reply) h = cond_both (is_in id c.calls) _ _ (λ (n : Option Notice). AllByRecursion P (released_by n)) (λ _. tt) (λ _. tt)
released_all P c (event_fire id body) h = cond_both (is_in id c.listeners) _ _ (λ (n : Option Notice). AllByRecursion P (released_by n)) (λ _. tt) (λ _. tt)

-- what a notice hands up
pub settles_so : (n : Option Notice) → settled_in (happening_of n) ≡ settled_by n
settles_so None = refl
settles_so (Some (ready requests)) = refl
settles_so (Some (settled id reply)) = refl
settles_so (Some (fired id body)) = refl

pub fires_so : (n : Option Notice) → fired_in (happening_of n) ≡ fired_by_notice n
fires_so None = refl
fires_so (Some (ready requests)) = refl
fires_so (Some (settled id reply)) = refl
fires_so (Some (fired id body)) = refl

-- ---- the server hears a message

pub record ClientStays (p q : Pair) : Type 0 where
  pub client : q.client ≡ p.client
  pub server_heard : q.server_heard ≡ p.server_heard
  pub to_server : q.to_server ≡ p.to_server
  pub client_heard : q.client_heard ≡ p.client_heard
  pub to_client : q.to_client ≡ p.to_client
  pub entries : q.entries ≡ p.entries
  pub settled : q.settled ≡ p.settled
  pub fired : q.fired ≡ p.fired

keeps : (p : Pair) → ClientStays p p
keeps p = record { client = refl; server_heard = refl; to_server = refl; client_heard = refl; to_client = refl; entries = refl; settled = refl; fired = refl }

keeps_server : (p : Pair) (v : Server) → ClientStays p (record p { server = v })
keeps_server p v = record { client = refl; server_heard = refl; to_server = refl; client_heard = refl; to_client = refl; entries = refl; settled = refl; fired = refl }

keeps_clash : (p : Pair) → ClientStays p (record p { clashed = true })
keeps_clash p = record { client = refl; server_heard = refl; to_server = refl; client_heard = refl; to_client = refl; entries = refl; settled = refl; fired = refl }

pub server_takes_rest : (p : Pair) (now : ℕ) (m : Message) → ClientStays p (server_takes p now m)
server_takes_rest p now (promise id channel name arg) =
    cond_both (is_active id p.server) _ _ (λ (q : Pair). ClientStays p q) (λ _. keeps_clash p) (λ _. keeps_server p _)
server_takes_rest p now (promise_cancel id) = keeps_server p _
server_takes_rest p now (event_listen id channel event arg) =
    cond_both (is_active id p.server) _ _ (λ (q : Pair). ClientStays p q) (λ _. keeps_clash p) (λ _. keeps_server p _)
server_takes_rest p now (event_dispose id) = keeps_server p _
server_takes_rest p now initialize = keeps p
server_takes_rest p now (response id reply) = keeps p
server_takes_rest p now (event_fire id body) = keeps p

-- an active id that comes again clashes
pub clashes : (p : Pair) (now : ℕ) (m : Message) → (server_takes p now m).clashed ≡ false → active_id p.server m ≡ None
clashes p now (promise id channel name arg) apart = elim (cases_Bool (is_active id p.server)) [
  | inl t ↦ absurd (false≢true (sym apart ∙ (rw t refl)))
  | inr f ↦ rw f refl
]
clashes p now (promise_cancel id) apart = refl
clashes p now (event_listen id channel event arg) apart = elim (cases_Bool (is_active id p.server)) [
  | inl t ↦ absurd (false≢true (sym apart ∙ (rw t refl)))
  | inr f ↦ rw f refl
]
clashes p now (event_dispose id) apart = refl
clashes p now initialize apart = refl
clashes p now (response id reply) apart = refl
clashes p now (event_fire id body) apart = refl

-- a client that makes no request stays so, and nothing that it has is released
pub asks_still : (c : Client) (m : Message) → AsksNothing c → AsksNothing (after_packet c m)
asks_still c (promise id channel name arg) h = h
asks_still c (promise_cancel id) h = h
asks_still c (event_listen id channel event arg) h = h
asks_still c (event_dispose id) h = h
asks_still c initialize h = cond_both c.ready c (after_initialize c) AsksNothing (λ _. h) (λ _. (refl, h.1, h.2))
asks_still c (response id reply) h = cond_both (is_in id c.calls) (after_response c id) c AsksNothing (λ _. (h.0, rw h.1 refl, h.2)) (λ _. h)
asks_still c (event_fire id body) h = h

pub none_released : (c : Client) (m : Message) → AsksNothing c → released_by (notice_of c m) ≡ []
none_released c (promise id channel name arg) h = refl
none_released c (promise_cancel id) h = refl
none_released c (event_listen id channel event arg) h = refl
none_released c (event_dispose id) h = refl
none_released c initialize h = cond_both c.ready _ _ (λ (n : Option Notice). released_by n ≡ []) (λ _. refl) (λ _. h.0)
none_released c (response id reply) h = cond_both (is_in id c.calls) _ _ (λ (n : Option Notice). released_by n ≡ []) (λ _. refl) (λ _. refl)
none_released c (event_fire id body) h = cond_both (is_in id c.listeners) _ _ (λ (n : Option Notice). released_by n ≡ []) (λ _. refl) (λ _. refl)

-- what a packet does to a server whose client makes no request, where its id is not active
pub record Serves (v : Server) (c : Client) (m : Message) (now : ℕ) : Type 0 where
  pub means : Hearing
  pub is : heard_packet v c m now ≡ hears means
  pub server : means.server ≡ after_request v m now
  pub asks : AsksNothing means.client
  pub says : means.says ≡ []

serves_request : (v : Server) (c : Client) (m : Message) (now : ℕ) → active_id v m ≡ None → heard_packet v c m now ≡ heard_request v c m now (active_id v m)
    → AsksNothing c → Serves v c m now
serves_request v c m now fresh is asks = record {
  means = record { server = after_request v m now; client = c; packet = Some m; says = []; happening = option_map (λ x. work x) (requested_call v m) };
  is = is ∙ ap (λ (o : Option ℕ). heard_request v c m now o) fresh;
  server = refl;
  asks = asks;
  says = refl;
}

serves_other : (v : Server) (c : Client) (m : Message) (now : ℕ) → is_request m ≡ false → v ≡ after_request v m now → AsksNothing c → Serves v c m now
serves_other v c m now other stays asks = record {
  means = record { server = v; client = after_packet c m; packet = Some m; says = released_by (notice_of c m); happening = happening_of (notice_of c m) };
  is = rw other refl;
  server = stays;
  asks = asks_still c m asks;
  says = none_released c m asks;
}

pub serves : (v : Server) (c : Client) (m : Message) (now : ℕ) → active_id v m ≡ None → AsksNothing c → Serves v c m now
serves v c (promise id channel name arg) now fresh asks = serves_request v c (promise id channel name arg) now fresh refl asks
serves v c (promise_cancel id) now fresh asks = serves_request v c (promise_cancel id) now fresh refl asks
serves v c (event_listen id channel event arg) now fresh asks = serves_request v c (event_listen id channel event arg) now fresh refl asks
serves v c (event_dispose id) now fresh asks = serves_request v c (event_dispose id) now fresh refl asks
serves v c initialize now fresh asks = serves_other v c initialize now refl refl asks
serves v c (response id reply) now fresh asks = serves_other v c (response id reply) now refl refl asks
serves v c (event_fire id body) now fresh asks = serves_other v c (event_fire id body) now refl refl asks
