-- What an endpoint has said once more messages are said.
use Rattle.std.proofs.Common.{◌≡◌, ℕ, suc, ◌-◌, ◌<◌, ◌≤◌, Bool, true, false, cond, not, ◌&&◌, leb, ltb, Option, Some, None, List, [], ◌∷◌, ◌++◌, length, map, refl, ap, sym, ◌∙◌, subst, arith, append_assoc}
use Rattle.std.proofs.lemmas.Bool.{cond_both, false≢true, le-leb, lt-ltb, ltb-false}
use Rattle.std.proofs.lemmas.List.{append-nil, map-append, length-append, length-map}
use Rattle.std.specs.List.{AllByRecursion}
use Rattle.ra_model.specs.Frames.{body_limit, last_id}
use Rattle.ra_model.specs.Endpoints.{Endpoint, is_up, is_ended, sent}
use Rattle.ra_model.specs.Calls.{moment, can_say, say}
use Rattle.ra_model.specs.Pairs.{body_of, messages}
use Rattle.ra_model.specs.Refusals.{fault_if}
use Rattle.ra_model.proofs.Ending.{goes_say}
use Rattle.ra_model.proofs.Kept.{kept_say}
use Rattle.ra_proto.specs.SayAll.{say_all}
use Rattle.ra_proto.proofs.SayingAll.{goes_say_all}
use Rattle.ra_ipc.specs.Messages.{Message}
use Rattle.ra_ipc.specs.Packets.{message_bytes}
use Rattle.ra_session.specs.Sessions.{Session}
use Rattle.ra_session.specs.Saying.{says}
use Rattle.ra_session.specs.SessionRefusals.{Refusal, ids_spent, too_large, if_large, if_spent}
use Rattle.ra_session.specs.SessionStates.{Sayable}
use Rattle.ra_session.specs.OnLinks.{IsRunning}
use Rattle.ra_channel_laws.proofs.Lists.{all_mapped}

abbrev pub IsSmall : List ℕ → Type 0
IsSmall body = length body ≤ body_limit

-- ---- one message

can : (over small room : Bool) → over ≡ false → small ≡ true → room ≡ true → (not over && (small && room)) ≡ true
can over small room a b c = rw (a, b, c) refl

pub said_one : (body : List ℕ) (now : ℕ) (e : Endpoint) → is_ended e.phase ≡ false → IsSmall body → sent e < last_id
    → messages (say body now e) ≡ messages e ++ body ∷ []
unfolding say
said_one body now e going small room =
    let may : can_say body e ≡ true =
    can (is_ended e.phase) (leb (length body) body_limit) (ltb (sent e) last_id) going (le-leb (length body) body_limit small) (lt-ltb (sent e) last_id room) in
    cond_both (can_say body e) _ _ (λ (x : Endpoint). messages x ≡ messages e ++ body ∷ [])
    (λ yes. map-append body_of e.said (record { body = body; ack = e.received; written = cond (is_up e.phase) (Some (moment now e)) None } ∷ []))
    (λ no. absurd (false≢true (sym no ∙ may)))

pub sent_one : (body : List ℕ) (now : ℕ) (e : Endpoint) → messages (say body now e) ≡ messages e ++ body ∷ [] → sent (say body now e) ≡ suc (sent e)
sent_one body now e said =
    let size : length (messages (say body now e)) ≡ length (messages e ++ body ∷ []) = ap (λ (t : List (List ℕ)). length t) said in
    omega (arith, (kept_say body now e).base, size, length-append (messages e) (body ∷ []), length-map e.said body_of, length-map (say body now e).said body_of)

-- ---- several

pub said_all : (bodies : List (List ℕ)) (now : ℕ) (e : Endpoint) → is_ended e.phase ≡ false → AllByRecursion IsSmall bodies → length bodies ≤ last_id - sent e
    → messages (say_all bodies now e) ≡ messages e ++ bodies
unfolding say_all
said_all [] now e going small room = sym (append-nil (messages e))
said_all (body ∷ bodies) now e going small room =
    let first : messages (say body now e) ≡ messages e ++ body ∷ [] = said_one body now e going small.0 (omega arith) in
    let more : sent (say body now e) ≡ suc (sent e) = sent_one body now e first in
    said_all bodies now (say body now e) (goes_say body now e going) small.1 (omega arith)
    ∙ ap (λ (t : List (List ℕ)). t ++ bodies) first ∙ append_assoc (messages e) (body ∷ []) bodies

-- ---- of a session

-- it has not ended, and the packets can be said
pub record CanSay (ms : List Message) (s : Session) : Type 0 where
  pub going : s.cause ≡ None
  pub small : AllByRecursion Sayable ms
  pub room : if_spent (length ms) s.peer.endpoint ≡ None

room_left : (n left : ℕ) → fault_if (ltb left n) ids_spent ≡ None → n ≤ left
room_left n left none = ltb-false left n (here (ltb left n) none)
  where
    here : (b : Bool) → fault_if b ids_spent ≡ None → b ≡ false
    here true none = cc
    here false none = refl

pub says_all : (ms : List Message) (now : ℕ) (s : Session) → IsRunning s → CanSay ms s
    → messages (says ms now s).peer.endpoint ≡ messages s.peer.endpoint ++ map message_bytes ms
says_all ms now s runs can =
    let e : Endpoint = s.peer.endpoint in
    let room : length ms ≤ last_id - sent e = room_left (length ms) (last_id - sent e) can.room in
    said_all (map message_bytes ms) now e (runs can.going) (all_mapped Sayable IsSmall message_bytes (λ m small. small) ms can.small)
    (subst (λ (n : ℕ). n ≤ last_id - sent e) (sym (length-map ms message_bytes)) room)

pub says_runs : (ms : List Message) (now : ℕ) (s : Session) → IsRunning s → IsRunning (says ms now s)
says_runs ms now s runs going = goes_say_all (map message_bytes ms) now s.peer.endpoint (runs going)

pub says_nothing : (now : ℕ) (s : Session) → says [] now s ≡ s
unfolding say_all
says_nothing now s = ap (λ (ps : List Message). record s { packets = ps }) (append-nil s.packets)

-- ---- the sizes

pub sizes : (ms : List Message) → if_large (map message_bytes ms) ≡ None → AllByRecursion Sayable ms
sizes [] none = tt
sizes (m ∷ ms) none =
    let found = here (ltb body_limit (length (message_bytes m))) (length (message_bytes m)) (if_large (map message_bytes ms)) none in
    (ltb-false body_limit (length (message_bytes m)) found.0, sizes ms found.1)
  where
    here : (b : Bool) (n : ℕ) (rest : Option Refusal) → cond b (Some (too_large n)) rest ≡ None → (b ≡ false) × (rest ≡ None)
    here true n rest none = cc
    here false n rest none = (refl, none)
