-- The calls that a session of the server hears can be written.
use Rattle.std.proofs.Common.{◌≡◌, ℕ, zero, suc, Bool, true, false, cond, Option, Some, None, List, [], ◌∷◌, length, map, Result, Ok, Err, refl, ap, sym, ◌∙◌, subst}
use Rattle.std.specs.Prelude.{option_map, slice_get}
use Rattle.std.specs.List.{AllByRecursion}
use Rattle.std.proofs.lemmas.Bool.{cond_both, true≢false}
use Rattle.ra_base.specs.declared.event.Side.TheVariants.{A, B}
use Rattle.ra_base.specs.declared.key.Key.{Key}
use Rattle.ra_model.specs.declared.session.Up.{Up as Delivery}
use Rattle.ra_model.specs.declared.session.Up.TheVariants.{Message as HandedUp, Control, Quiet, Ended as Closed}
use Rattle.ra_model.specs.Links.{Link}
use Rattle.ra_model.specs.Taking.{delivery}
use Rattle.ra_model.specs.Views.{View}
use Rattle.ra_model.proofs.Sound.{turned}
use Rattle.ra_values.specs.Tree.{Tree, text}
use Rattle.ra_values.specs.Spelling.{levels, Fits}
use Rattle.ra_values.specs.ValueBytes.{value_bytes}
use Rattle.ra_ipc.specs.declared.fault.PacketFault.{PacketFault}
use Rattle.ra_ipc.specs.Messages.{Message, promise, promise_cancel, event_listen, event_dispose, initialize, response, event_fire, is_request}
use Rattle.ra_ipc.specs.Packets.{MessageFits, message_bytes}
use Rattle.ra_ipc.specs.ReadMessage.{message_at, context_at}
use Rattle.ra_ipc.specs.ChannelClients.{Client}
use Rattle.ra_ipc.specs.ChannelServers.{Server, is_registered}
use Rattle.ra_ipc.specs.ChannelPackets.{active_id, requested_call, Notice, ready, settled as settles, fired as fires, notice_of}
use Rattle.ra_ipc.specs.ChannelPairs.{Outcome}
use Rattle.ra_ipc.proofs.Spelled.{message_is, spelled_is_read}
use Rattle.ra_session.specs.Hearing.{Happening, work, host, call_settled, event_fired, Heard, heard, heard_packet, heard_request, heard_other, heard_reading, heard_context, heard_host, is_context, happening_of as noticed}
use Rattle.ra_session.specs.Sessions.{Session, is_management}
use Rattle.ra_session.specs.Turns.{heard_at, happening_in, happening_of}
use Rattle.ra_hub.specs.Jobs.{SeenJob}
use Rattle.ra_link_core.specs.HubEvents.{jobs_of}
use Rattle.ra_channel_laws.specs.Channels.{ChannelsHold}
use Rattle.ra_channel_laws.proofs.Coming.{next_said}
use Rattle.ra_channel_laws.proofs.Lists.{OfSome}
use Rattle.ra_grand_laws.specs.ChannelParts.{WorkFits}

-- what is heard is no call, or one that can be written
abbrev pub FitsIfAny : Option Happening → Type 0
FitsIfAny happening = OfSome WorkFits happening

abbrev pub JobsFit : List SeenJob → Type 0
JobsFit jobs = AllByRecursion (λ (j : SeenJob). WorkFits j.work) jobs

pub jobs_fit : (key : Key) (happening : Option Happening) → FitsIfAny happening → JobsFit (jobs_of key happening)
jobs_fit key None fits = tt
jobs_fit key (Some (work call)) fits = (fits, tt)
jobs_fit key (Some (host body)) fits = (tt, tt)
jobs_fit key (Some (call_settled id outcome)) fits = tt
jobs_fit key (Some (event_fired id body)) fits = tt

-- ---- one message

channel_fits : (id : ℕ) (channel name : List ℕ) (arg : Tree) → MessageFits (promise id channel name arg) → Fits levels (text channel)
channel_fits id channel name arg (small, (count, (code, (number, (first, rest)))), body) = first

promise_fits : (s : Server) (id : ℕ) (channel name : List ℕ) (arg : Tree) → MessageFits (promise id channel name arg)
    → FitsIfAny (option_map (λ c. work c) (requested_call s (promise id channel name arg)))
promise_fits s id channel name arg fits =
    cond_both (is_registered channel s) (Some (record { id = id; channel = channel; name = name; arg = arg; cancelled = false })) None (λ o. FitsIfAny (option_map (λ c. work c) o))
    (λ yes. (fits.0, fits.2, channel_fits id channel name arg fits)) (λ no. tt)

requested_fits : (s : Server) (m : Message) → MessageFits m → FitsIfAny (option_map (λ c. work c) (requested_call s m))
requested_fits s (promise id channel name arg) fits = promise_fits s id channel name arg fits
requested_fits s (promise_cancel id) fits = tt
requested_fits s (event_listen id channel event arg) fits = tt
requested_fits s (event_dispose id) fits = tt
requested_fits s initialize fits = tt
requested_fits s (response id reply) fits = tt
requested_fits s (event_fire id body) fits = tt

request_fits : (s : Server) (c : Client) (m : Message) (now : ℕ) (o : Option ℕ) → MessageFits m → FitsIfAny (happening_in (heard_request s c m now o))
request_fits s c m now (Some id) fits = tt
request_fits s c m now None fits = requested_fits s m fits

notice_fits : (o : Option Notice) → FitsIfAny (noticed o)
notice_fits None = tt
notice_fits (Some (ready requests)) = tt
notice_fits (Some (settles id reply)) = tt
notice_fits (Some (fires id body)) = tt

packet_fits : (s : Server) (c : Client) (m : Message) (now : ℕ) → MessageFits m → FitsIfAny (happening_in (heard_packet s c m now))
packet_fits s c m now fits =
    cond_both (is_request m) (heard_request s c m now (active_id s m)) (heard_other s c m) (λ (h : Heard). FitsIfAny (happening_in h))
    (λ yes. request_fits s c m now (active_id s m) fits) (λ no. notice_fits (notice_of c m))

context_fits : (s : Server) (c : Client) (r : Result Tree PacketFault) → FitsIfAny (happening_in (heard_context s c r))
context_fits s c (Ok context) = tt
context_fits s c (Err fault) = tt

-- a message that is not the context is one that was written
abbrev IsPacket : Session → ℕ → List ℕ → Type 0
IsPacket s id body = is_context s.serves id ≡ false → (m : Message) × MessageFits m × (message_at body ≡ Ok m)

managed_fits : (s : Session) (id : ℕ) (body : List ℕ) (now : ℕ) → IsPacket s id body
    → FitsIfAny (happening_in (cond (is_context s.serves id) (heard_context s.server s.client (context_at body)) (heard_reading s.server s.client (message_at body) now)))
managed_fits s id body now packet =
    cond_both (is_context s.serves id) (heard_context s.server s.client (context_at body)) (heard_reading s.server s.client (message_at body) now) (λ (h : Heard). FitsIfAny (happening_in h))
    (λ yes. context_fits s.server s.client (context_at body)) (λ no. by (packet no))
  where
    by : (m : Message) × MessageFits m × (message_at body ≡ Ok m) → FitsIfAny (happening_in (heard_reading s.server s.client (message_at body) now))
    by (m, fits, reads) = subst (λ (r : Result Message PacketFault). FitsIfAny (happening_in (heard_reading s.server s.client r now))) (sym reads) (packet_fits s.server s.client m now fits)

heard_fits : (s : Session) (id : ℕ) (body : List ℕ) (now : ℕ) → (is_management s.kind ≡ true → IsPacket s id body) → FitsIfAny (happening_in (heard_at s id body now))
unfolding heard
heard_fits s id body now packet =
    cond_both (is_management s.kind) _ (heard_host s.server s.client body) (λ (h : Heard). FitsIfAny (happening_in h)) (λ yes. managed_fits s id body now (packet yes)) (λ no. tt)

-- ---- the message that comes next

packet_at : (ms : List Message) (k : ℕ) (body : List ℕ) → AllByRecursion MessageFits ms → slice_get (map message_bytes ms) k ≡ Some body
    → (m : Message) × MessageFits m × (message_at body ≡ Ok m)
packet_at [] k body fits is = absurd cc
packet_at (m ∷ ms) zero body fits is = (m, fits.0, ap (λ (b : List ℕ). message_at b) (here (message_bytes m) body is) ∙ spelled_is_read m (message_bytes m) (message_is m fits.0))
  where
    here : (x y : List ℕ) → Some x ≡ Some y → y ≡ x
    here x y same = cc
packet_at (m ∷ ms) (suc k) body fits is = packet_at ms k body fits.1 is

next_packet : (serves : Bool) (id n : ℕ) (first : List ℕ) (ms : List Message) (body : List ℕ) → serves ≡ true → id ≡ suc n → AllByRecursion MessageFits ms
    → slice_get (first ∷ map message_bytes ms) n ≡ Some body → is_context serves id ≡ false → (m : Message) × MessageFits m × (message_at body ≡ Ok m)
next_packet serves id zero first ms body role next fits is other = absurd (true≢false (rw (role, next) refl ∙ other))
next_packet serves id (suc k) first ms body role next fits is other = packet_at ms k body fits is

message_fits : (context : Tree) (d s : Session) (settled : List (ℕ × Outcome)) (fired : List (ℕ × Tree)) (i j id : ℕ) (body : List ℕ) (links : List Link)
    → View 0 A i j d.peer s.peer links → ChannelsHold context d s settled fired → delivery s.peer.endpoint ≡ Some (HandedUp id body) → IsPacket s id body
message_fits context d s settled fired i j id body links v h is other =
    let said = next_said B j i s.peer d.peer links id body (turned 0 A i j d.peer s.peer links v) is in
    next_packet s.serves id (length s.peer.heard) (value_bytes context) d.packets body h.server_end.role said.0 h.client_end.fits
    (subst (λ (t : List (List ℕ)). slice_get t (length s.peer.heard) ≡ Some body) h.said said.1) other

-- ---- what is handed up

delivery_fits : (up : Option Delivery) (now : ℕ) (s : Session) → ((id : ℕ) (body : List ℕ) → up ≡ Some (HandedUp id body) → is_management s.kind ≡ true → IsPacket s id body)
    → FitsIfAny (happening_of up now s)
delivery_fits None now s packet = tt
delivery_fits (Some (HandedUp id body)) now s packet = heard_fits s id body now (packet id body refl)
delivery_fits (Some (Control body)) now s packet = tt
delivery_fits (Some Quiet) now s packet = tt
delivery_fits (Some Closed) now s packet = tt

-- by a session of management, in a view
pub happening_fits : (context : Tree) (d s : Session) (settled : List (ℕ × Outcome)) (fired : List (ℕ × Tree)) (i j now : ℕ) (links : List Link)
    → View 0 A i j d.peer s.peer links → ChannelsHold context d s settled fired → FitsIfAny (happening_of (delivery s.peer.endpoint) now s)
happening_fits context d s settled fired i j now links v h =
    delivery_fits (delivery s.peer.endpoint) now s (λ id body is kind. message_fits context d s settled fired i j id body links v h is)

-- by any other
pub other_fits : (now : ℕ) (s : Session) → is_management s.kind ≡ false → FitsIfAny (happening_of (delivery s.peer.endpoint) now s)
other_fits now s other = delivery_fits (delivery s.peer.endpoint) now s (λ id body is kind. absurd (true≢false (sym kind ∙ other)))
