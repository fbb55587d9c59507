-- What the server answers, and moments that pass at either end.
use Rattle.std.proofs.Common.{◌≡◌, ℕ, zero, suc, ◌-◌, Bool, true, false, not, ◌&&◌, leb, ltb, Option, Some, None, List, [], ◌∷◌, ◌++◌, length, map, refl, ap, sym, ◌∙◌, subst, append_assoc}
use Rattle.std.proofs.lemmas.Bool.{cond_both, cond-true, cond-false, false≢true}
use Rattle.std.proofs.lemmas.List.{append-nil}
use Rattle.std.specs.Prelude.{option_map}
use Rattle.std.specs.Option.{is_some}
use Rattle.std.specs.Str.{bytes_eq}
use Rattle.std.specs.List.{AllByRecursion, list_any, filter, filter_map}
use Rattle.ra_base.specs.declared.key.Cause.{Cause}
use Rattle.ra_model.specs.Endpoints.{Endpoint, is_up, sent}
use Rattle.ra_model.specs.Calls.{tick}
use Rattle.ra_model.specs.Frames.{last_id}
use Rattle.ra_model.specs.Pairs.{messages}
use Rattle.ra_model.specs.Refusals.{or_fault, fault_if}
use Rattle.ra_model.proofs.Ending.{goes_tick}
use Rattle.ra_values.specs.Tree.{Tree}
use Rattle.ra_ipc.specs.Messages.{Message, Reply, response}
use Rattle.ra_ipc.specs.Packets.{MessageFits, message_bytes}
use Rattle.ra_ipc.specs.ChannelServers.{Server, Active, waiting_call, handed_call, waiting_listen, listener, is_handed, has_call, completed, fire_one, fires, is_timed_out, timeout_one, ticked, timeout_answers}
use Rattle.ra_ipc.specs.ChannelPairs.{Pair, Step, Outcome, start, run, complete as completes, fire as fires_step, tick as ticks}
use Rattle.ra_session.specs.Sessions.{Session, is_management, on_endpoint}
use Rattle.ra_session.specs.Saying.{says}
use Rattle.ra_session.specs.SessionCalls.{Firing, fired_by, answer_packets, answer, tick_session}
use Rattle.ra_session.specs.SessionRefusals.{Refusal, ended, ids_spent, no_such_call, if_large, if_spent, unless_kind, answer_refusal, tick_refusal}
use Rattle.ra_session.specs.SessionStates.{Sayable}
use Rattle.ra_channel_laws.specs.Channels.{ServerSaid, AnswerFits, ChannelsHold}
use Rattle.ra_channel_laws.proofs.Lists.{OfSome, all_both, all_kept, all_any, all_found}
use Rattle.ra_channel_laws.proofs.Said.{CanSay, sizes, says_nothing}
use Rattle.ra_channel_laws.proofs.Sides.{IsAnswer, ServerSide, KeepsSaid, server_kept, server_with, server_says, client_is}
use Rattle.ra_channel_laws.proofs.Sizes.{late_small}
use Rattle.ra_channel_laws.proofs.Holding.{Holds, held, goes_on}
use Rattle.ra_channel_laws.proofs.Links.{client_still}
use Rattle.ra_channel_laws.proofs.PairSteps.{ClientStays}

-- ---- more that the server says

-- where no call is active, it says nothing
abbrev IsIdle : Pair → Pair → List Message → Type 0
IsIdle p q ms = p.server.active ≡ [] → (ms ≡ []) × (q.server.active ≡ [])

said_more : (n : ℕ) (p q : Pair) (packets ms : List Message) → ClientStays (record p { to_client = p.to_client ++ ms }) q → IsIdle p q ms → ServerSaid n p packets
    → ServerSaid n q (packets ++ ms)
said_more zero p q packets ms rest idle h =
    let quiet : (ms ≡ []) × (q.server.active ≡ []) = idle h.4 in (
      ap (λ (t : List Message). packets ++ t) quiet.0 ∙ append-nil packets ∙ h.0,
      rest.client_heard ∙ h.1,
      rest.to_client ∙ ap (λ (t : List Message). p.to_client ++ t) quiet.0 ∙ append-nil p.to_client ∙ h.2,
      rest.server_heard ∙ h.3,
      quiet.1,
    )
said_more (suc zero) p q packets ms rest idle h = (
  ap (λ (t : List Message). t ++ ms) h.0 ∙ append_assoc p.client_heard p.to_client ms
      ∙ sym (ap (λ (t : List Message). t ++ q.to_client) rest.client_heard ∙ ap (λ (t : List Message). p.client_heard ++ t) rest.to_client),
  rest.server_heard ∙ h.1,
)
said_more (suc (suc n)) p q packets ms rest idle h = (
  ap (λ (t : List Message). t ++ ms) h.0 ∙ append_assoc p.client_heard p.to_client ms
      ∙ sym (ap (λ (t : List Message). t ++ q.to_client) rest.client_heard ∙ ap (λ (t : List Message). p.client_heard ++ t) rest.to_client),
  ap (λ (t : List Message). length t) rest.server_heard ∙ h.1,
)

-- the server has changed, and then says these packets
server_answers : (context : Tree) (d s t : Session) (settled : List (ℕ × Outcome)) (fired : List (ℕ × Tree)) (p q : Pair) (ms : List Message) (now : ℕ)
    → Holds context d s settled fired p → ServerSide t q.server → t.packets ≡ s.packets → t.peer.heard ≡ s.peer.heard
    → ClientStays (record p { to_client = p.to_client ++ ms }) q → IsIdle p q ms → CanSay ms t → AllByRecursion MessageFits ms → AllByRecursion IsAnswer ms
    → Holds context d (says ms now t) settled fired q
server_answers context d s t settled fired p q ms now was side packets heard rest idle can fit answers = record {
  client = client_is context d p.client q.client p.entries q.entries (p.server_heard ++ p.to_server) (q.server_heard ++ q.to_server) (sym rest.client) (sym rest.entries)
      (sym (ap (λ (w : List Message). w ++ q.to_server) rest.server_heard ∙ ap (λ (w : List Message). p.server_heard ++ w) rest.to_server)) was.client;
  server = server_says t q.server ms now can fit answers side;
  settles = was.settles ∙ sym rest.settled;
  fires = was.fires ∙ sym rest.fired;
  packets_back = subst (λ (w : List (List ℕ)). ServerSaid (length w) q (t.packets ++ ms)) (sym heard)
      (subst (λ (w : List Message). ServerSaid (length s.peer.heard) q (w ++ ms)) (sym packets) (said_more (length s.peer.heard) p q s.packets ms rest idle was.packets_back));
  heard_back = was.heard_back ∙ sym (ap (λ (w : List Message). length w) rest.client_heard);
}

-- ---- an answer of the application

abbrev Answering : Option Cause → Bool → Option Refusal → Option Refusal → Type 0
Answering c known large spent = (c ≡ None) × (known ≡ true) × (large ≡ None) × (spent ≡ None)

answering : (c : Option Cause) (right known : Bool) (id : ℕ) (large spent : Option Refusal)
    → or_fault (option_map (λ cause. ended cause) c) (or_fault (unless_kind right) (or_fault (fault_if (not known) (no_such_call id)) (or_fault large spent))) ≡ None
    → Answering c known large spent
answering None true true id None spent is = (refl, refl, refl, is)
answering None true true id (Some r) spent is = cc
answering None true false id large spent is = cc
answering None false known id large spent is = cc
answering (Some cause) right known id large spent is = cc

fire_answers : (channel event : List ℕ) (body : Tree) (a : Active) → OfSome IsAnswer (fire_one channel event body a)
fire_answers channel event body (waiting_call id c name arg cancelled until) = tt
fire_answers channel event body (handed_call id) = tt
fire_answers channel event body (waiting_listen id c e until) = tt
fire_answers channel event body (listener id c e) = cond_both (bytes_eq channel c && bytes_eq event e) _ _ (λ (o : Option Message). OfSome IsAnswer o) (λ _. refl) (λ _. tt)

fired_answers : (v : Server) (fire : Option Firing) → AllByRecursion IsAnswer (fired_by v fire)
fired_answers v None = tt
fired_answers v (Some fire) =
    all_found (λ (a : Active). Unit {0}) IsAnswer (fire_one fire.channel fire.event fire.body) (λ a _. fire_answers fire.channel fire.event fire.body a) v.active
    (all_any (λ (a : Active). Unit {0}) (λ a. tt) v.active)

none_handed : (id : ℕ) (active : List Active) → active ≡ [] → list_any (is_handed id) active ≡ true → ⊥
none_handed id [] none known = false≢true known
none_handed id (a ∷ active) none known = cc

-- the steps of an answer
answer_steps : ℕ → Reply → Option Firing → List Step
answer_steps id reply None = completes id reply ∷ []
answer_steps id reply (Some fire) = fires_step fire.channel fire.event fire.body ∷ completes id reply ∷ []

answer_run : (context : Tree) (d t : Session) (settled : List (ℕ × Outcome)) (fired : List (ℕ × Tree)) (p : Pair) (id : ℕ) (reply : Reply) (fire : Option Firing)
    → has_call id p.server ≡ true
    → Holds context d t settled fired (record p { server = completed p.server id; to_client = p.to_client ++ answer_packets p.server id reply fire })
    → Holds context d t settled fired (run (answer_steps id reply fire) p)
unfolding answer_steps
answer_run context d t settled fired p id reply None known h =
    subst (λ (q : Pair). Holds context d t settled fired q) (sym (cond-true (has_call id p.server) _ _ known)) h
answer_run context d t settled fired p id reply (Some fire) known h =
    subst (λ (q : Pair). Holds context d t settled fired q) (sym (cond-true (has_call id p.server) _ _ known))
    (subst (λ (ms : List Message). Holds context d t settled fired (record p { server = completed p.server id; to_client = ms }))
    (sym (append_assoc p.to_client (fires p.server fire.channel fire.event fire.body) (response id reply ∷ []))) h)

pub server_answer : (context : Tree) (d s : Session) (settled : List (ℕ × Outcome)) (fired : List (ℕ × Tree)) (id : ℕ) (reply : Reply) (fire : Option Firing) (now : ℕ)
    → answer_refusal id reply fire s ≡ None → AllByRecursion MessageFits (answer_packets s.server id reply fire) → ChannelsHold context d s settled fired
    → ChannelsHold context d (answer id reply fire now s) settled fired
unfolding answer answer_refusal
server_answer context d s settled fired id reply fire now admits fit h =
    let p : Pair = run h.steps start in
    let was : Holds context d s settled fired p = held h in
    let same : s.server ≡ p.server = was.server.server in
    let ms : List Message = answer_packets s.server id reply fire in
    let large : Option Refusal = if_large (map message_bytes ms) in
    let spent : Option Refusal = if_spent (length ms) s.peer.endpoint in
    let found : Answering s.cause (has_call id s.server) large spent = answering s.cause (is_management s.kind) (has_call id s.server) id large spent admits in
    let known : has_call id p.server ≡ true = subst (λ (v : Server). has_call id v ≡ true) same found.1 in
    let q : Pair = record p { server = completed p.server id; to_client = p.to_client ++ answer_packets p.server id reply fire } in
    let changed : Session = record s { server = completed s.server id } in
    let side : ServerSide changed (completed p.server id) =
    subst (λ (v : Server). ServerSide changed (completed v id)) same
    (server_with s p.server (completed s.server id) s.client s.entries was.server.asks
    (all_kept AnswerFits (λ (a : Active). not (is_handed id a)) s.server.active was.server.late) was.server) in
    goes_on context d (answer id reply fire now s) settled fired h.steps (answer_steps id reply fire)
    (answer_run context d (answer id reply fire now s) settled fired p id reply fire known
    (server_answers context d s changed settled fired p q ms now was side refl refl
    (record {
      client = refl;
      server_heard = refl;
      to_server = refl;
      client_heard = refl;
      to_client = ap (λ (v : Server). p.to_client ++ answer_packets v id reply fire) (sym same);
      entries = refl;
      settled = refl;
      fired = refl;
    })
    (λ none. absurd (none_handed id p.server.active none known))
    (record { going = found.0; small = sizes ms found.2; room = found.3 }) fit
    (all_both IsAnswer (fired_by s.server fire) (response id reply ∷ []) (fired_answers s.server fire) (refl, tt))))

-- ---- moments that pass

ticked_said : (now : ℕ) (e : Endpoint) → messages (tick now e) ≡ messages e
unfolding tick
ticked_said now e = cond_both (is_up e.phase) _ _ (λ (x : Endpoint). messages x ≡ messages e) (λ _. refl) (λ _. refl)

ticked_sent : (now : ℕ) (e : Endpoint) → sent (tick now e) ≡ sent e
unfolding tick
ticked_sent now e = cond_both (is_up e.phase) _ _ (λ (x : Endpoint). sent x ≡ sent e) (λ _. refl) (λ _. refl)

ticked_kept : (now : ℕ) (s : Session) → KeepsSaid s (on_endpoint (tick now) s)
ticked_kept now s = record {
  kind = refl;
  serves = refl;
  server = refl;
  client = refl;
  packets = refl;
  entries = refl;
  said = ticked_said now s.peer.endpoint;
  runs = λ runs going. goes_tick now s.peer.endpoint (runs going);
  cause = λ good. good;
}

late_one : (now : ℕ) (a : Active) → AnswerFits a → OfSome MessageFits (timeout_one now a)
late_one now (waiting_call id channel name arg cancelled until) h = cond_both (leb until now) _ _ (λ (o : Option Message). OfSome MessageFits o) (λ _. h) (λ _. tt)
late_one now (handed_call id) h = tt
late_one now (waiting_listen id channel event until) h = tt
late_one now (listener id channel event) h = tt

small_one : (now : ℕ) (a : Active) → OfSome Sayable (timeout_one now a)
small_one now (waiting_call id channel name arg cancelled until) = cond_both (leb until now) _ _ (λ (o : Option Message). OfSome Sayable o) (λ _. late_small id channel) (λ _. tt)
small_one now (handed_call id) = tt
small_one now (waiting_listen id channel event until) = tt
small_one now (listener id channel event) = tt

answer_one : (now : ℕ) (a : Active) → OfSome IsAnswer (timeout_one now a)
answer_one now (waiting_call id channel name arg cancelled until) = cond_both (leb until now) _ _ (λ (o : Option Message). OfSome IsAnswer o) (λ _. refl) (λ _. tt)
answer_one now (handed_call id) = tt
answer_one now (waiting_listen id channel event until) = tt
answer_one now (listener id channel event) = tt

each_late : (Q : Message → Type 0) (now : ℕ) → ((a : Active) → OfSome Q (timeout_one now a)) → (active : List Active) → AllByRecursion Q (filter_map (timeout_one now) active)
each_late Q now each active =
    all_found (λ (a : Active). Unit {0}) Q (timeout_one now) (λ a _. each a) active (all_any (λ (a : Active). Unit {0}) (λ a. tt) active)

going_on : (c : Option Cause) → is_some c ≡ false → c ≡ None
going_on None is = refl
going_on (Some cause) is = cc

idle_tick : (now : ℕ) (v : Server) → v.active ≡ [] → (timeout_answers v now ≡ []) × ((ticked v now).active ≡ [])
idle_tick now v none = (ap (λ (w : List Active). filter_map (timeout_one now) w) none, ap (λ (w : List Active). filter (λ a. not (is_timed_out now a)) w) none)

server_ticks : (context : Tree) (d s : Session) (settled : List (ℕ × Outcome)) (fired : List (ℕ × Tree)) (now : ℕ) → s.cause ≡ None
    → if_spent (length (timeout_answers s.server now)) s.peer.endpoint ≡ None → ChannelsHold context d s settled fired
    → ChannelsHold context d (says (timeout_answers s.server now) now (on_endpoint (tick now) (record s { server = ticked s.server now }))) settled fired
server_ticks context d s settled fired now going room h =
    let p : Pair = run h.steps start in
    let was : Holds context d s settled fired p = held h in
    let same : s.server ≡ p.server = was.server.server in
    let ms : List Message = timeout_answers s.server now in
    let changed : Session = record s { server = ticked s.server now } in
    let after : Session = on_endpoint (tick now) changed in
    let q : Pair = record p { server = ticked p.server now; to_client = p.to_client ++ timeout_answers p.server now } in
    let side : ServerSide changed (ticked p.server now) =
    subst (λ (v : Server). ServerSide changed (ticked v now)) same
    (server_with s p.server (ticked s.server now) s.client s.entries was.server.asks
    (all_kept AnswerFits (λ (a : Active). not (is_timed_out now a)) s.server.active was.server.late) was.server) in
    goes_on context d (says ms now after) settled fired h.steps (ticks now ∷ [])
    (server_answers context d s after settled fired p q ms now was (server_kept changed after (ticked p.server now) (ticked_kept now changed) side) refl refl
    (record {
      client = refl;
      server_heard = refl;
      to_server = refl;
      client_heard = refl;
      to_client = ap (λ (v : Server). p.to_client ++ timeout_answers v now) (sym same);
      entries = refl;
      settled = refl;
      fired = refl;
    })
    (λ none. let idle = idle_tick now p.server none in (ap (λ (v : Server). timeout_answers v now) same ∙ idle.0, idle.1))
    (record {
      going = going;
      small = each_late Sayable now (small_one now) s.server.active;
      room = subst (λ (n : ℕ). fault_if (ltb (last_id - n) (length ms)) ids_spent ≡ None) (sym (ticked_sent now s.peer.endpoint)) room;
    })
    (all_found AnswerFits MessageFits (timeout_one now) (late_one now) s.server.active was.server.late)
    (each_late IsAnswer now (answer_one now) s.server.active))

pub server_tick : (context : Tree) (d s : Session) (settled : List (ℕ × Outcome)) (fired : List (ℕ × Tree)) (now : ℕ) → tick_refusal now s ≡ None
    → ChannelsHold context d s settled fired → ChannelsHold context d (tick_session now s) settled fired
unfolding tick_session tick_refusal
server_tick context d s settled fired now admits h =
    cond_both (is_some s.cause) s _ (λ (x : Session). ChannelsHold context d x settled fired) (λ over. h)
    (λ going. server_ticks context d s settled fired now (going_on s.cause going) (sym (cond-false (is_some s.cause) _ _ going) ∙ admits) h)

-- the client serves no channel: no call waits there
idle_server : (now : ℕ) (v : Server) → v.active ≡ [] → ticked v now ≡ v
idle_server now v none =
    ap (λ (w : List Active). record v { active = filter (λ a. not (is_timed_out now a)) w }) none ∙ ap (λ (w : List Active). record v { active = w }) (sym none)

client_ticks : (context : Tree) (d s : Session) (settled : List (ℕ × Outcome)) (fired : List (ℕ × Tree)) (now : ℕ) (v : Server) → v ≡ d.server
    → ChannelsHold context d s settled fired → ChannelsHold context (on_endpoint (tick now) (record d { server = v })) s settled fired
client_ticks context d s settled fired now v same h =
    client_still context d (on_endpoint (tick now) (record d { server = v })) s settled fired (record {
      kind = refl;
      serves = refl;
      server = same;
      client = refl;
      packets = refl;
      entries = refl;
      said = ticked_said now d.peer.endpoint;
      runs = λ runs going. goes_tick now d.peer.endpoint (runs going);
      cause = λ good. good;
    }) refl h

pub client_tick : (context : Tree) (d s : Session) (settled : List (ℕ × Outcome)) (fired : List (ℕ × Tree)) (now : ℕ) → ChannelsHold context d s settled fired
    → ChannelsHold context (tick_session now d) s settled fired
unfolding tick_session
client_tick context d s settled fired now h =
    let none : d.server.active ≡ [] = h.client_serves.1 in
    let after : Session = on_endpoint (tick now) (record d { server = ticked d.server now }) in
    cond_both (is_some d.cause) d _ (λ (x : Session). ChannelsHold context x s settled fired) (λ over. h)
    (λ going. subst (λ (ms : List Message). ChannelsHold context (says ms now after) s settled fired) (sym (idle_tick now d.server none).0)
    (subst (λ (x : Session). ChannelsHold context x s settled fired) (sym (says_nothing now after))
    (client_ticks context d s settled fired now (ticked d.server now) (idle_server now d.server none) h)))
