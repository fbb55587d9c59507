-- The server hears a message: the context, then the client's Initialize, and then requests.
use Rattle.std.proofs.Common.{◌≡◌, ℕ, zero, suc, ◌-◌, Bool, true, false, ◌&&◌, eqb, ltb, Option, Some, None, List, [], ◌∷◌, ◌++◌, length, map, Result, Ok, refl, ap, sym, ◌∙◌, subst, arith, append_assoc}
use Rattle.std.proofs.lemmas.Bool.{ne_eqb}
use Rattle.std.proofs.lemmas.List.{append-nil, length-append}
use Rattle.std.specs.Prelude.{slice_get}
use Rattle.std.specs.List.{AllByRecursion}
use Rattle.ra_base.specs.declared.event.Side.TheVariants.{A, B}
use Rattle.ra_base.specs.declared.kind.Kind.{Kind}
use Rattle.ra_model.specs.declared.session.Up.{Up as Delivery}
use Rattle.ra_model.specs.declared.session.Up.TheVariants.{Message as HandedUp, Control, Quiet, Ended as Closed}
use Rattle.ra_model.specs.Events.{heard_with, taken}
use Rattle.ra_model.specs.Frames.{last_id}
use Rattle.ra_model.specs.Links.{Link}
use Rattle.ra_model.specs.Refusals.{fault_if}
use Rattle.ra_model.specs.Taking.{delivery}
use Rattle.ra_model.specs.Views.{View}
use Rattle.ra_model.proofs.Sound.{turned}
use Rattle.ra_values.specs.Tree.{Tree}
use Rattle.ra_values.specs.Spelling.{levels, Fits}
use Rattle.ra_values.specs.ReadValue.{value_at}
use Rattle.ra_values.specs.ValueBytes.{value_bytes}
use Rattle.ra_values.proofs.Again.{value_again}
use Rattle.ra_values.proofs.Spelled.{value_is}
use Rattle.ra_ipc.specs.Messages.{Message, initialize}
use Rattle.ra_ipc.specs.Packets.{MessageFits, message_bytes}
use Rattle.ra_ipc.specs.ReadMessage.{message_at, context_at, value_in}
use Rattle.ra_ipc.specs.ChannelServers.{Server}
use Rattle.ra_ipc.specs.ChannelPackets.{active_id, after_request}
use Rattle.ra_ipc.specs.ChannelPairs.{Pair, Entry, Outcome, start, run, server_takes, after_server_hears, server_hears as server_step}
use Rattle.ra_ipc.specs.ServerRuns.{server_after}
use Rattle.ra_ipc.proofs.Heard.{server_hears}
use Rattle.ra_ipc.proofs.Kept.{always}
use Rattle.ra_ipc.proofs.Readings.{context_value}
use Rattle.ra_ipc.proofs.Spelled.{message_is, spelled_is_read}
use Rattle.ra_session.specs.Sessions.{Session, is_management}
use Rattle.ra_session.specs.Saying.{says}
use Rattle.ra_session.specs.Hearing.{Heard, Hearing, hears, heard, heard_packet}
use Rattle.ra_session.specs.SessionRefusals.{ids_spent, if_spent}
use Rattle.ra_session.specs.Turns.{heard_at, on_heard, on_delivery, entries_of, take_in}
use Rattle.ra_session.specs.TurnRefusals.{heard_refusal, delivery_refusal, taken_refusal}
use Rattle.ra_session.proofs.Meanings.{context_is}
use Rattle.ra_channel_laws.specs.Channels.{ServerSaid, AnswerFits, ChannelsHold}
use Rattle.ra_channel_laws.proofs.Sizes.{initialize_fits, initialize_small}
use Rattle.ra_channel_laws.proofs.Lists.{all_back, at_place}
use Rattle.ra_channel_laws.proofs.Said.{CanSay, says_nothing}
use Rattle.ra_channel_laws.proofs.Sides.{ServerSide, server_kept, server_with, server_is, server_says, client_is}
use Rattle.ra_channel_laws.proofs.Holding.{Holds, held, hold, run_more, goes_on}
use Rattle.ra_channel_laws.proofs.LateAnswers.{request_late}
use Rattle.ra_channel_laws.proofs.Coming.{next_said, taken_sent}
use Rattle.ra_channel_laws.proofs.Frames.{took, keeps_took, server_takes_frame, delivers, MeansAll}
use Rattle.ra_channel_laws.proofs.PairSteps.{ClientStays, server_takes_rest, clashes, Serves, serves}

-- ---- what is read

reads_context : (t : Tree) → Fits levels t → context_at (value_bytes t) ≡ Ok t
reads_context t fits =
    let bytes : List ℕ = value_bytes t in
    context_value bytes [] t (ap (λ (x : Result (Tree × List ℕ) _). value_in bytes x)
    (ap (λ (b : List ℕ). value_at levels b) (sym (append-nil bytes)) ∙ value_again levels t bytes [] (value_is levels t fits)))

reads_message : (m : Message) (body : List ℕ) → MessageFits m → body ≡ message_bytes m → message_at body ≡ Ok m
reads_message m body fits is = ap (λ (b : List ℕ). message_at b) is ∙ spelled_is_read m (message_bytes m) (message_is m fits)

-- a packet is no context
packet_at : (s : Session) (id : ℕ) (body : List ℕ) (now : ℕ) (m : Message) → is_management s.kind ≡ true → eqb id 1 ≡ false → message_at body ≡ Ok m
    → heard_at s id body now ≡ heard_packet s.server s.client m now
unfolding heard
packet_at s id body now m kind later reads = rw (kind, later, reads, and_none s.serves) refl
  where
    and_none : (b : Bool) → (b && false) ≡ false
    and_none true = refl
    and_none false = refl

-- ---- one turn of the server

record ServerTurn (context : Tree) (d s : Session) (settled : List (ℕ × Outcome)) (fired : List (ℕ × Tree)) (now id : ℕ) (body : List ℕ) : Type 0 where
  means : Hearing
  is : heard_at s id body now ≡ hears means
  after : s.cause ≡ None → if_spent (length means.says) s.peer.endpoint ≡ None → ChannelsHold context d (on_heard (hears means) now (took now s)) settled fired

no_end : (up : Option Delivery) (id : ℕ) (body : List ℕ) → up ≡ Some (HandedUp id body) → up ≡ Some Closed → ⊥
no_end up id body is same = cc

side_took : (s : Session) (v : Server) (now id : ℕ) (body : List ℕ) → delivery s.peer.endpoint ≡ Some (HandedUp id body) → ServerSide s v → ServerSide (took now s) v
side_took s v now id body is h = server_kept s (took now s) v (keeps_took now s (no_end (delivery s.peer.endpoint) id body is)) h

one_more_heard : (up : Option Delivery) (heard : List (List ℕ)) (id : ℕ) (body : List ℕ) (n : ℕ) → up ≡ Some (HandedUp id body) → length heard ≡ n
    → length (heard_with up heard) ≡ suc n
one_more_heard up heard id body n is same =
    ap (λ (u : Option Delivery). length (heard_with u heard)) is ∙ length-append heard (body ∷ []) ∙ (omega (arith, same))

-- the context: it is answered by Initialize
turn_context : (context : Tree) (d s : Session) (settled : List (ℕ × Outcome)) (fired : List (ℕ × Tree)) (now id : ℕ) (body : List ℕ)
    → ChannelsHold context d s settled fired → delivery s.peer.endpoint ≡ Some (HandedUp id body) → length s.peer.heard ≡ 0 → id ≡ 1 → body ≡ value_bytes context
    → ServerTurn context d s settled fired now id body
turn_context context d s settled fired now id body h is none first read =
    let p : Pair = run h.steps start in
    let was : Holds context d s settled fired p = held h in
    let said : ServerSaid 0 p s.packets = subst (λ (n : ℕ). ServerSaid n p s.packets) none was.packets_back in
    let means : Hearing = record { server = s.server; client = s.client; packet = None; says = initialize ∷ []; happening = None } in
    record {
      means = means;
      is = context_is s.kind s.serves s.server s.client id body now context (ap (λ (k : Kind). is_management k) was.server.server_end.kind)
          (rw (was.server.server_end.role, first) refl) (ap (λ (b : List ℕ). context_at b) read ∙ reads_context context was.client.context_fits);
      after = λ going room.
          let can : CanSay (initialize ∷ []) (record (took now s) { entries = s.entries ++ [] }) = record {
            going = going;
            small = (initialize_small, tt);
            room = subst (λ (n : ℕ). fault_if (ltb (last_id - n) 1) ids_spent ≡ None) (sym (taken_sent now s.peer.endpoint)) room;
          } in
          let side : ServerSide (took now s) p.server = side_took s p.server now id body is was.server in
          hold context d (on_heard (hears means) now (took now s)) settled fired h.steps (record {
            client = was.client;
            server = server_says _ p.server (initialize ∷ []) now can (initialize_fits, tt) (refl, tt)
                (server_is _ s.server p.server was.server.server (server_with (took now s) p.server s.server s.client (s.entries ++ []) side.asks side.late side));
            settles = was.settles;
            fires = was.fires;
            packets_back = subst (λ (n : ℕ). ServerSaid n p (s.packets ++ initialize ∷ [])) (sym (one_more_heard (delivery s.peer.endpoint) s.peer.heard id body 0 is none))
                (ap (λ (t : List Message). t ++ initialize ∷ []) said.0 ∙ sym (ap (λ (t : List Message). t ++ p.to_client) said.1 ∙ said.2), said.3);
            heard_back = was.heard_back;
          });
    }

-- a packet: nothing is said
packet_side : (s : Session) (v : Server) (m : Message) (now id : ℕ) (body : List ℕ) (t : Serves s.server s.client m now)
    → delivery s.peer.endpoint ≡ Some (HandedUp id body) → AllByRecursion AnswerFits (after_request s.server m now).active → ServerSide s v
    → ServerSide (on_heard (hears t.means) now (took now s)) (after_request s.server m now)
packet_side s v m now id body t is late h =
    let more : List Entry = s.entries ++ entries_of t.means.packet in
    let changed : Session = record (took now s) { server = t.means.server; client = t.means.client; entries = more } in
    let side : ServerSide changed (after_request s.server m now) =
    server_is changed t.means.server (after_request s.server m now) t.server
    (server_with (took now s) v t.means.server t.means.client more t.asks (subst (λ (x : Server). AllByRecursion AnswerFits x.active) (sym t.server) late)
    (side_took s v now id body is h)) in
    subst (λ (ms : List Message). ServerSide (says ms now changed) (after_request s.server m now)) (sym t.says)
    (subst (λ (x : Session). ServerSide x (after_request s.server m now)) (sym (says_nothing now changed)) side)

packet_packets : (s : Session) (m : Message) (now : ℕ) (t : Serves s.server s.client m now) → (on_heard (hears t.means) now (took now s)).packets ≡ s.packets
packet_packets s m now t = ap (λ (ms : List Message). s.packets ++ ms) t.says ∙ append-nil s.packets

-- the client's Initialize
turn_begins : (context : Tree) (d s : Session) (settled : List (ℕ × Outcome)) (fired : List (ℕ × Tree)) (now id : ℕ) (body : List ℕ)
    → ChannelsHold context d s settled fired → delivery s.peer.endpoint ≡ Some (HandedUp id body) → length s.peer.heard ≡ 1 → id ≡ 2 → body ≡ message_bytes initialize
    → ServerTurn context d s settled fired now id body
turn_begins context d s settled fired now id body h is one second read =
    let p : Pair = run h.steps start in
    let was : Holds context d s settled fired p = held h in
    let said : ServerSaid 1 p s.packets = subst (λ (n : ℕ). ServerSaid n p s.packets) one was.packets_back in
    let t : Serves s.server s.client initialize now = serves s.server s.client initialize now refl was.server.asks in
    record {
      means = t.means;
      is = packet_at s id body now initialize (ap (λ (k : Kind). is_management k) was.server.server_end.kind) (ap (λ (n : ℕ). eqb n 1) second)
          (reads_message initialize body initialize_fits read) ∙ t.is;
      after = λ going room. hold context d (on_heard (hears t.means) now (took now s)) settled fired h.steps (record {
        client = was.client;
        server = server_is _ s.server p.server was.server.server (packet_side s p.server initialize now id body t is was.server.late was.server);
        settles = was.settles;
        fires = was.fires;
        packets_back = subst (λ (ms : List Message). ServerSaid (length (taken now s.peer).heard) p ms) (sym (packet_packets s initialize now t))
            (subst (λ (n : ℕ). ServerSaid n p s.packets) (sym (one_more_heard (delivery s.peer.endpoint) s.peer.heard id body 1 is one))
            (said.0, ap (λ (ms : List Message). length ms) said.1));
        heard_back = was.heard_back;
      });
    }

-- the next request
turn_request : (context : Tree) (d s : Session) (settled : List (ℕ × Outcome)) (fired : List (ℕ × Tree)) (now id : ℕ) (body : List ℕ) (k : ℕ) (m : Message) (others : List Message)
    (h : ChannelsHold context d s settled fired) → delivery s.peer.endpoint ≡ Some (HandedUp id body) → length s.peer.heard ≡ suc (suc k) → id ≡ suc (suc (suc k))
    → (run h.steps start).to_server ≡ m ∷ others → body ≡ message_bytes m → ServerTurn context d s settled fired now id body
turn_request context d s settled fired now id body k m others h is count later way read =
    let p : Pair = run h.steps start in
    let was : Holds context d s settled fired p = held h in
    let said : ServerSaid (suc (suc k)) p s.packets = subst (λ (n : ℕ). ServerSaid n p s.packets) count was.packets_back in
    let before : Pair = record p { server_heard = p.server_heard ++ m ∷ []; to_server = others } in
    let q : Pair = server_takes before now m in
    let rest : ClientStays before q = server_takes_rest before now m in
    let same : s.server ≡ p.server = was.server.server in
    let apart : (after_server_hears p now p.to_server).clashed ≡ false =
    subst (λ (x : Pair). x.clashed ≡ false) (run_more h.steps (server_step now ∷ []) start) (always (h.steps ++ server_step now ∷ [])).apart in
    let fresh : active_id p.server m ≡ None = clashes before now m (subst (λ (ms : List Message). (after_server_hears p now ms).clashed ≡ false) way apart) in
    let fits : AllByRecursion MessageFits (m ∷ others) =
    all_back MessageFits p.server_heard (m ∷ others)
    (subst (λ (ms : List Message). AllByRecursion MessageFits (p.server_heard ++ ms)) way
    (second_all (p.server_heard ++ p.to_server) (subst (λ (ms : List Message). AllByRecursion MessageFits ms) was.client.packets was.client.client_end.fits))) in
    let t : Serves s.server s.client m now = serves s.server s.client m now (ap (λ (v : Server). active_id v m) same ∙ fresh) was.server.asks in
    let after : Session = on_heard (hears t.means) now (took now s) in
    record {
      means = t.means;
      is = packet_at s id body now m (ap (λ (kind : Kind). is_management kind) was.server.server_end.kind) (ap (λ (n : ℕ). eqb n 1) later ∙ no_one k)
          (reads_message m body fits.0 read) ∙ t.is;
      after = λ going room. goes_on context d after settled fired h.steps (server_step now ∷ [])
          (subst (λ (ms : List Message). Holds context d after settled fired (after_server_hears p now ms)) (sym way) (record {
            client = client_is context d p.client q.client p.entries q.entries (p.server_heard ++ p.to_server) (q.server_heard ++ q.to_server) (sym rest.client) (sym rest.entries)
                (ap (λ (ms : List Message). p.server_heard ++ ms) way ∙ sym (append_assoc p.server_heard (m ∷ []) others)
                ∙ sym (ap (λ (ms : List Message). ms ++ q.to_server) rest.server_heard ∙ ap (λ (ms : List Message). (p.server_heard ++ m ∷ []) ++ ms) rest.to_server)) was.client;
            server = server_is after (after_request s.server m now) q.server
                (ap (λ (v : Server). after_request v m now) same ∙ ap (λ (o : Option ℕ). server_after p.server m now o) (sym fresh) ∙ sym (server_hears before now m))
                (packet_side s p.server m now id body t is (request_late s.server m now fits.0 was.server.late) was.server);
            settles = was.settles ∙ sym rest.settled;
            fires = was.fires ∙ sym rest.fired;
            packets_back = subst (λ (ms : List Message). ServerSaid (length (taken now s.peer).heard) q ms) (sym (packet_packets s m now t))
                (subst (λ (n : ℕ). ServerSaid n q s.packets) (sym (one_more_heard (delivery s.peer.endpoint) s.peer.heard id body (suc (suc k)) is count)) (
                  said.0 ∙ sym (ap (λ (ms : List Message). ms ++ q.to_client) rest.client_heard ∙ ap (λ (ms : List Message). p.client_heard ++ ms) rest.to_client),
                  ap (λ (ms : List Message). length ms) rest.server_heard ∙ length-append p.server_heard (m ∷ []) ∙ (omega (arith, said.1)),
                ));
            heard_back = was.heard_back ∙ sym (ap (λ (ms : List Message). length ms) rest.client_heard);
          }));
    }
  where
    second_all : (ms : List Message) → AllByRecursion MessageFits (initialize ∷ ms) → AllByRecursion MessageFits ms
    second_all ms all = all.1

    no_one : (k : ℕ) → eqb (suc (suc (suc k))) 1 ≡ false
    no_one k = ne_eqb (suc (suc (suc k))) 1 (λ same. omega arith)

-- ---- by how much was heard

first_is : (x body : List ℕ) (xs : List (List ℕ)) → slice_get (x ∷ xs) 0 ≡ Some body → body ≡ x
first_is x body xs at = cc

second_is : (x y body : List ℕ) (xs : List (List ℕ)) → slice_get (x ∷ y ∷ xs) 1 ≡ Some body → body ≡ y
second_is x y body xs at = cc

turn_at : (context : Tree) (d s : Session) (settled : List (ℕ × Outcome)) (fired : List (ℕ × Tree)) (now id : ℕ) (body : List ℕ) (n : ℕ)
    (h : ChannelsHold context d s settled fired) → delivery s.peer.endpoint ≡ Some (HandedUp id body) → length s.peer.heard ≡ n → id ≡ suc n
    → slice_get (value_bytes context ∷ message_bytes initialize ∷ map message_bytes ((run h.steps start).server_heard ++ (run h.steps start).to_server)) n ≡ Some body
    → ServerTurn context d s settled fired now id body
turn_at context d s settled fired now id body zero h is count next at =
    turn_context context d s settled fired now id body h is count next (first_is (value_bytes context) body (message_bytes initialize ∷ map message_bytes ((run h.steps start).server_heard ++ (run h.steps start).to_server)) at)
turn_at context d s settled fired now id body (suc zero) h is count next at =
    turn_begins context d s settled fired now id body h is count next (second_is (value_bytes context) (message_bytes initialize) body (map message_bytes ((run h.steps start).server_heard ++ (run h.steps start).to_server)) at)
turn_at context d s settled fired now id body (suc (suc k)) h is count next at =
    let p : Pair = run h.steps start in
    let said : ServerSaid (suc (suc k)) p s.packets = subst (λ (n : ℕ). ServerSaid n p s.packets) count (held h).packets_back in
    let found = at_place message_bytes p.server_heard p.to_server k body said.1 at in
    turn_request context d s settled fired now id body k found.0 found.1 h is count next found.2 found.3

server_turns : (context : Tree) (d s : Session) (settled : List (ℕ × Outcome)) (fired : List (ℕ × Tree)) (i j now id : ℕ) (body : List ℕ) (links : List Link)
    → View 0 A i j d.peer s.peer links → ChannelsHold context d s settled fired → delivery s.peer.endpoint ≡ Some (HandedUp id body)
    → ServerTurn context d s settled fired now id body
server_turns context d s settled fired i j now id body links v h is =
    let said = next_said B j i s.peer d.peer links id body (turned 0 A i j d.peer s.peer links v) is in
    turn_at context d s settled fired now id body (length s.peer.heard) h is refl said.0
    (subst (λ (ms : List Message). slice_get (value_bytes context ∷ map message_bytes ms) (length s.peer.heard) ≡ Some body) (held h).client.packets
    (subst (λ (t : List (List ℕ)). slice_get t (length s.peer.heard) ≡ Some body) (held h).client.said said.1))

pub server_means : (context : Tree) (d s : Session) (settled : List (ℕ × Outcome)) (fired : List (ℕ × Tree)) (i j now : ℕ) (links : List Link)
    → View 0 A i j d.peer s.peer links → ChannelsHold context d s settled fired → MeansAll s now
server_means context d s settled fired i j now links v h id body is =
    let turn : ServerTurn context d s settled fired now id body = server_turns context d s settled fired i j now id body links v h is in (turn.means, turn.is)

hears_message : (context : Tree) (d s : Session) (settled : List (ℕ × Outcome)) (fired : List (ℕ × Tree)) (i j now id : ℕ) (body : List ℕ) (links : List Link)
    → View 0 A i j d.peer s.peer links → delivery s.peer.endpoint ≡ Some (HandedUp id body) → s.cause ≡ None
    → heard_refusal (heard_at s id body now) body s.peer.endpoint ≡ None → ChannelsHold context d s settled fired
    → ChannelsHold context d (on_heard (heard_at s id body now) now (took now s)) settled fired
hears_message context d s settled fired i j now id body links v is going admits h =
    let turn : ServerTurn context d s settled fired now id body = server_turns context d s settled fired i j now id body links v h is in
    subst (λ (means : Heard). ChannelsHold context d (on_heard means now (took now s)) settled fired) (sym turn.is)
    (turn.after going (subst (λ (means : Heard). heard_refusal means body s.peer.endpoint ≡ None) turn.is admits))

hears_delivery : (context : Tree) (d s : Session) (settled : List (ℕ × Outcome)) (fired : List (ℕ × Tree)) (i j now : ℕ) (links : List Link) (up : Option Delivery)
    → View 0 A i j d.peer s.peer links → delivery s.peer.endpoint ≡ up → s.cause ≡ None → delivery_refusal up now s s.peer.endpoint ≡ None
    → ChannelsHold context d s settled fired → ChannelsHold context d (on_delivery up now (took now s)) settled fired
hears_delivery context d s settled fired i j now links None v is going admits h = server_takes_frame context d s settled fired None now is (λ id body same. cc) h
hears_delivery context d s settled fired i j now links (Some (HandedUp id body)) v is going admits h =
    hears_message context d s settled fired i j now id body links v is going admits h
hears_delivery context d s settled fired i j now links (Some (Control said)) v is going admits h =
    server_takes_frame context d s settled fired (Some (Control said)) now is (λ id body same. cc) h
hears_delivery context d s settled fired i j now links (Some Quiet) v is going admits h =
    server_takes_frame context d s settled fired (Some Quiet) now is (λ id body same. cc) h
hears_delivery context d s settled fired i j now links (Some Closed) v is going admits h =
    server_takes_frame context d s settled fired (Some Closed) now is (λ id body same. cc) h

pub server_turn : (context : Tree) (d s : Session) (settled : List (ℕ × Outcome)) (fired : List (ℕ × Tree)) (i j now : ℕ) (links : List Link)
    → View 0 A i j d.peer s.peer links → s.cause ≡ None → taken_refusal now s ≡ None → ChannelsHold context d s settled fired
    → ChannelsHold context d (take_in now s) settled fired
unfolding take_in
server_turn context d s settled fired i j now links v going admits h =
    hears_delivery context d s settled fired i j now links (delivery s.peer.endpoint) v refl going (delivers now s admits) h
