-- The client hears a message.
use Rattle.std.proofs.Common.{◌≡◌, ℕ, zero, suc, ◌+◌, Bool, ◌&&◌, eqb, ltb, ◌-◌, Option, Some, None, List, [], ◌∷◌, ◌++◌, length, map, refl, ap, sym, ◌∙◌, subst, append_assoc}
use Rattle.std.proofs.lemmas.List.{length-append}
use Rattle.std.specs.Prelude.{slice_get}
use Rattle.std.specs.List.{AllByRecursion}
use Rattle.ra_base.specs.declared.event.Side.TheVariants.{A}
use Rattle.ra_base.specs.declared.kind.Kind.{Kind}
use Rattle.ra_model.specs.declared.session.Up.{Up as Delivery}
use Rattle.ra_model.specs.declared.session.Up.TheVariants.{Message as HandedUp, Control, Quiet, Ended as Closed}
use Rattle.ra_model.specs.Events.{heard_with}
use Rattle.ra_model.specs.Frames.{last_id}
use Rattle.ra_model.specs.Links.{Link}
use Rattle.ra_model.specs.Refusals.{fault_if}
use Rattle.ra_model.specs.Taking.{delivery}
use Rattle.ra_model.specs.Views.{View}
use Rattle.ra_values.specs.Tree.{Tree}
use Rattle.ra_ipc.specs.Messages.{Message}
use Rattle.ra_ipc.specs.Packets.{MessageFits, message_bytes}
use Rattle.ra_ipc.specs.ReadMessage.{message_at}
use Rattle.ra_ipc.specs.ChannelServers.{Server}
use Rattle.ra_ipc.specs.ChannelClients.{Client}
use Rattle.ra_ipc.specs.ChannelPackets.{after_packet, notice_of}
use Rattle.ra_ipc.specs.ChannelPairs.{Pair, Entry, Outcome, message_heard, start, run, client_takes, after_client_hears, client_hears as client_step}
use Rattle.ra_ipc.specs.Deliveries.{released_by, settled_by, fired_by_notice, ClientHears}
use Rattle.ra_ipc.proofs.Heard.{client_hears}
use Rattle.ra_ipc.proofs.Spelled.{message_is, spelled_is_read}
use Rattle.ra_session.specs.Sessions.{Session, is_management}
use Rattle.ra_session.specs.Hearing.{Heard, heard_other, happening_of as happens_by}
use Rattle.ra_session.specs.SessionRefusals.{ids_spent, if_spent}
use Rattle.ra_session.specs.SessionStates.{Sayable}
use Rattle.ra_session.specs.Turns.{heard_at, on_heard, on_delivery, happening_in, happening_of, take_in, taken_answer}
use Rattle.ra_session.specs.TurnRefusals.{heard_refusal, delivery_refusal, taken_refusal}
use Rattle.ra_session.proofs.Meanings.{other_is}
use Rattle.ra_channel_laws.specs.Channels.{ServerSaid, ChannelsHold, settled_in, fired_in}
use Rattle.ra_channel_laws.proofs.Lists.{all_back, at_place}
use Rattle.ra_channel_laws.proofs.Said.{CanSay}
use Rattle.ra_channel_laws.proofs.Sides.{IsAnswer, ServerSide, client_kept, client_is, changes}
use Rattle.ra_channel_laws.proofs.Holding.{Holds, held, goes_on}
use Rattle.ra_channel_laws.proofs.Coming.{next_said, taken_sent}
use Rattle.ra_channel_laws.proofs.Frames.{took, keeps_took, client_takes_frame, delivers, MeansAll}
use Rattle.ra_channel_laws.proofs.PairSteps.{ServerStays, client_takes_rest, packet_fits, released_all, settles_so, fires_so}

-- ---- the next message on the way

abbrev NextAt : Pair → List Message → List ℕ → Type 0
NextAt p packets body = (m : Message) × (others : List Message) × (p.to_client ≡ m ∷ others) × (body ≡ message_bytes m) × (packets ≡ p.client_heard ++ m ∷ others)

next_in : (p : Pair) (packets : List Message) (k : ℕ) (body : List ℕ) → packets ≡ p.client_heard ++ p.to_client → length p.client_heard ≡ k
    → slice_get (map message_bytes packets) k ≡ Some body → NextAt p packets body
next_in p packets k body whole size at =
    let found = at_place message_bytes p.client_heard p.to_client k body size (subst (λ (ms : List Message). slice_get (map message_bytes ms) k ≡ Some body) whole at) in
    (found.0, found.1, found.2, found.3, whole ∙ ap (λ (t : List Message). p.client_heard ++ t) found.2)

none_at : (packets : List Message) (k : ℕ) (body : List ℕ) → packets ≡ [] → slice_get (map message_bytes packets) k ≡ Some body → ⊥
none_at [] k body none at = cc
none_at (m ∷ packets) k body none at = cc

next_at : (n : ℕ) (p : Pair) (packets : List Message) (k : ℕ) (body : List ℕ) → ServerSaid n p packets → length p.client_heard ≡ k
    → slice_get (map message_bytes packets) k ≡ Some body → NextAt p packets body
next_at zero p packets k body h size at = absurd (none_at packets k body h.0 at)
next_at (suc zero) p packets k body h size at = next_in p packets k body h.0 size at
next_at (suc (suc n)) p packets k body h size at = next_in p packets k body h.0 size at

none_whole : (front rest : List Message) (m : Message) → front ++ m ∷ rest ≡ [] → ⊥
none_whole [] rest m is = cc
none_whole (x ∷ front) rest m is = cc

-- once it is heard
said_next : (n : ℕ) (p q : Pair) (packets : List Message) (m : Message) (others : List Message) → ServerSaid n p packets → packets ≡ p.client_heard ++ m ∷ others
    → q.client_heard ≡ p.client_heard ++ m ∷ [] → q.to_client ≡ others → q.server_heard ≡ p.server_heard → ServerSaid n q packets
said_next zero p q packets m others h whole heard way same = absurd (none_whole p.client_heard others m (sym whole ∙ h.0))
said_next (suc zero) p q packets m others h whole heard way same = (
  whole ∙ sym (append_assoc p.client_heard (m ∷ []) others) ∙ sym (ap (λ (t : List Message). t ++ q.to_client) heard ∙ ap (λ (t : List Message). (p.client_heard ++ m ∷ []) ++ t) way),
  same ∙ h.1,
)
said_next (suc (suc n)) p q packets m others h whole heard way same = (
  whole ∙ sym (append_assoc p.client_heard (m ∷ []) others) ∙ sym (ap (λ (t : List Message). t ++ q.to_client) heard ∙ ap (λ (t : List Message). (p.client_heard ++ m ∷ []) ++ t) way),
  ap (λ (t : List Message). length t) same ∙ h.1,
)

record NextToClient (d s : Session) (p : Pair) (now id : ℕ) (body : List ℕ) : Type 0 where
  message : Message
  others : List Message
  way : p.to_client ≡ message ∷ others
  whole : s.packets ≡ p.client_heard ++ message ∷ others
  heard : heard_at d id body now ≡ heard_other d.server d.client message

next_to_client : (context : Tree) (d s : Session) (settled : List (ℕ × Outcome)) (fired : List (ℕ × Tree)) (p : Pair) (i j now id : ℕ) (body : List ℕ) (links : List Link)
    → View 0 A i j d.peer s.peer links → Holds context d s settled fired p → delivery d.peer.endpoint ≡ Some (HandedUp id body) → NextToClient d s p now id body
next_to_client context d s settled fired p i j now id body links v h is =
    let n : ℕ = length d.peer.heard in
    let said = next_said A i j d.peer s.peer links id body v is in
    let at : slice_get (map message_bytes s.packets) n ≡ Some body = subst (λ (t : List (List ℕ)). slice_get t n ≡ Some body) h.server.said said.1 in
    let next : NextAt p s.packets body = next_at (length s.peer.heard) p s.packets n body h.packets_back (sym h.heard_back) at in
    let m : Message = next.0 in
    let fits : AllByRecursion MessageFits (m ∷ next.1) =
    all_back MessageFits p.client_heard (m ∷ next.1) (subst (λ (ms : List Message). AllByRecursion MessageFits ms) next.4 h.server.server_end.fits) in
    let answers : AllByRecursion IsAnswer (m ∷ next.1) =
    all_back IsAnswer p.client_heard (m ∷ next.1) (subst (λ (ms : List Message). AllByRecursion IsAnswer ms) next.4 h.server.answers) in
    record {
      message = m;
      others = next.1;
      way = next.2;
      whole = next.4;
      heard = other_is d.kind d.serves d.server d.client id body now m (ap (λ (k : Kind). is_management k) h.client.client_end.kind)
          (ap (λ (b : Bool). b && eqb id 1) h.client.client_end.role)
          (ap (λ (b : List ℕ). message_at b) next.3 ∙ spelled_is_read m (message_bytes m) (message_is m fits.0)) answers.0;
    }

pub client_means : (context : Tree) (d s : Session) (settled : List (ℕ × Outcome)) (fired : List (ℕ × Tree)) (i j now : ℕ) (links : List Link)
    → View 0 A i j d.peer s.peer links → ChannelsHold context d s settled fired → MeansAll d now
client_means context d s settled fired i j now links v h id body is =
    (_, (next_to_client context d s settled fired (run h.steps start) i j now id body links v (held h) is).heard)

-- ---- what it does

abbrev After : Tree → Session → Session → List (ℕ × Outcome) → List (ℕ × Tree) → ℕ → Heard → Type 0
After context d s settled fired now heard =
    ChannelsHold context (on_heard heard now (took now d)) s (settled ++ settled_in (happening_in heard)) (fired ++ fired_in (happening_in heard))

heard_one_more : (up : Option Delivery) (heard : List (List ℕ)) (id : ℕ) (body : List ℕ) (before : List Message) (m : Message) → up ≡ Some (HandedUp id body)
    → length heard ≡ length before → length (heard_with up heard) ≡ length (before ++ m ∷ [])
heard_one_more up heard id body before m is same =
    ap (λ (u : Option Delivery). length (heard_with u heard)) is ∙ length-append heard (body ∷ []) ∙ ap (λ (n : ℕ). n + 1) same ∙ sym (length-append before (m ∷ []))

no_end : (up : Option Delivery) (id : ℕ) (body : List ℕ) → up ≡ Some (HandedUp id body) → up ≡ Some Closed → ⊥
no_end up id body is same = cc

hears_next : (context : Tree) (d s : Session) (settled : List (ℕ × Outcome)) (fired : List (ℕ × Tree)) (now id : ℕ) (body : List ℕ)
    (h : ChannelsHold context d s settled fired) (m : Message) (others : List Message) → delivery d.peer.endpoint ≡ Some (HandedUp id body) → d.cause ≡ None
    → (run h.steps start).to_client ≡ m ∷ others → s.packets ≡ (run h.steps start).client_heard ++ m ∷ others
    → if_spent (length (released_by (notice_of d.client m))) d.peer.endpoint ≡ None → After context d s settled fired now (heard_other d.server d.client m)
hears_next context d s settled fired now id body h m others is going way whole room =
    let p : Pair = run h.steps start in
    let was : Holds context d s settled fired p = held h in
    let before : Pair = record p { client_heard = p.client_heard ++ m ∷ []; to_client = others; entries = p.entries ++ message_heard m ∷ [] } in
    let q : Pair = client_takes before m in
    let does : ClientHears before m = client_hears before m in
    let rest : ServerStays before q = client_takes_rest before m in
    let same : d.client ≡ p.client = was.client.client in
    let ms : List Message = released_by (notice_of d.client m) in
    let can : CanSay ms (took now d) = record {
      going = going;
      small = released_all Sayable d.client m was.client.fits.sayable;
      room = subst (λ (n : ℕ). fault_if (ltb (last_id - n) (length ms)) ids_spent ≡ None) (sym (taken_sent now d.peer.endpoint)) room;
    } in
    let side = changes context (took now d) p.client p.entries (p.server_heard ++ p.to_server) (after_packet d.client m) (d.entries ++ message_heard m ∷ []) ms now
    (packet_fits d.client m was.client.fits) can (released_all MessageFits d.client m was.client.fits.waiting)
    (client_kept context d (took now d) p.client p.entries (p.server_heard ++ p.to_server) (keeps_took now d (no_end (delivery d.peer.endpoint) id body is)) was.client) in
    let after : Session = on_heard (heard_other d.server d.client m) now (took now d) in
    let settled' : List (ℕ × Outcome) = settled ++ settled_in (happens_by (notice_of d.client m)) in
    let fired' : List (ℕ × Tree) = fired ++ fired_in (happens_by (notice_of d.client m)) in
    goes_on context after s settled' fired' h.steps (client_step ∷ [])
    (subst (λ (t : List Message). Holds context after s settled' fired' (after_client_hears p t)) (sym way) (record {
      client = client_is context after (after_packet d.client m) q.client (d.entries ++ message_heard m ∷ []) q.entries ((p.server_heard ++ p.to_server) ++ ms) (q.server_heard ++ q.to_server)
          (ap (λ (c : Client). after_packet c m) same ∙ sym does.client)
          (ap (λ (es : List Entry). es ++ message_heard m ∷ []) was.client.entries ∙ sym rest.entries)
          (append_assoc p.server_heard p.to_server ms ∙ ap (λ (c : Client). p.server_heard ++ (p.to_server ++ released_by (notice_of c m))) same
          ∙ sym (ap (λ (t : List Message). t ++ q.to_server) rest.server_heard ∙ ap (λ (t : List Message). p.server_heard ++ t) does.sends))
          side;
      server = subst (λ (v : Server). ServerSide s v) (sym rest.server) was.server;
      settles = ap (λ (t : List (ℕ × Outcome)). settled ++ t) (settles_so (notice_of d.client m))
          ∙ ap (λ (t : List (ℕ × Outcome)). t ++ settled_by (notice_of d.client m)) was.settles
          ∙ ap (λ (c : Client). p.settled ++ settled_by (notice_of c m)) same ∙ sym does.settles;
      fires = ap (λ (t : List (ℕ × Tree)). fired ++ t) (fires_so (notice_of d.client m))
          ∙ ap (λ (t : List (ℕ × Tree)). t ++ fired_by_notice (notice_of d.client m)) was.fires
          ∙ ap (λ (c : Client). p.fired ++ fired_by_notice (notice_of c m)) same ∙ sym does.fires;
      packets_back = said_next (length s.peer.heard) p q s.packets m others was.packets_back whole rest.client_heard rest.to_client rest.server_heard;
      heard_back = heard_one_more (delivery d.peer.endpoint) d.peer.heard id body p.client_heard m is was.heard_back ∙ sym (ap (λ (t : List Message). length t) rest.client_heard);
    }))

hears_message : (context : Tree) (d s : Session) (settled : List (ℕ × Outcome)) (fired : List (ℕ × Tree)) (i j now id : ℕ) (body : List ℕ) (links : List Link)
    → View 0 A i j d.peer s.peer links → delivery d.peer.endpoint ≡ Some (HandedUp id body) → d.cause ≡ None
    → heard_refusal (heard_at d id body now) body d.peer.endpoint ≡ None → ChannelsHold context d s settled fired
    → After context d s settled fired now (heard_at d id body now)
hears_message context d s settled fired i j now id body links v is going admits h =
    let next : NextToClient d s (run h.steps start) now id body = next_to_client context d s settled fired (run h.steps start) i j now id body links v (held h) is in
    subst (λ (means : Heard). After context d s settled fired now means) (sym next.heard)
    (hears_next context d s settled fired now id body h next.message next.others is going next.way next.whole
    (subst (λ (means : Heard). heard_refusal means body d.peer.endpoint ≡ None) next.heard admits))

hears_delivery : (context : Tree) (d s : Session) (settled : List (ℕ × Outcome)) (fired : List (ℕ × Tree)) (i j now : ℕ) (links : List Link) (up : Option Delivery)
    → View 0 A i j d.peer s.peer links → delivery d.peer.endpoint ≡ up → d.cause ≡ None → delivery_refusal up now d d.peer.endpoint ≡ None
    → ChannelsHold context d s settled fired
    → ChannelsHold context (on_delivery up now (took now d)) s (settled ++ settled_in (happening_of up now d)) (fired ++ fired_in (happening_of up now d))
hears_delivery context d s settled fired i j now links None v is going admits h = client_takes_frame context d s settled fired None now is (λ id body same. cc) h
hears_delivery context d s settled fired i j now links (Some (HandedUp id body)) v is going admits h =
    hears_message context d s settled fired i j now id body links v is going admits h
hears_delivery context d s settled fired i j now links (Some (Control said)) v is going admits h =
    client_takes_frame context d s settled fired (Some (Control said)) now is (λ id body same. cc) h
hears_delivery context d s settled fired i j now links (Some Quiet) v is going admits h =
    client_takes_frame context d s settled fired (Some Quiet) now is (λ id body same. cc) h
hears_delivery context d s settled fired i j now links (Some Closed) v is going admits h =
    client_takes_frame context d s settled fired (Some Closed) now is (λ id body same. cc) h

pub client_turn : (context : Tree) (d s : Session) (settled : List (ℕ × Outcome)) (fired : List (ℕ × Tree)) (i j now : ℕ) (links : List Link)
    → View 0 A i j d.peer s.peer links → d.cause ≡ None → taken_refusal now d ≡ None → ChannelsHold context d s settled fired
    → ChannelsHold context (take_in now d) s (settled ++ settled_in (taken_answer now d).happening) (fired ++ fired_in (taken_answer now d).happening)
unfolding take_in taken_answer
client_turn context d s settled fired i j now links v going admits h =
    hears_delivery context d s settled fired i j now links (delivery d.peer.endpoint) v refl going (delivers now d admits) h
