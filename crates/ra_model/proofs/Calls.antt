-- What an endpoint has said and written, through each of its calls.
use Rattle.std.proofs.Common.{◌≡◌, ℕ, zero, suc, ◌+◌, ◌-◌, ◌<◌, ◌≤◌, ◌^◌, Bool, true, false, cond, not, ◌&&◌, ◌||◌, eqb, ltb, leb, Option, Some, None, List, [], ◌∷◌, ◌++◌, length, map, take, drop, refl, ap, sym, ◌∙◌, subst, arith}
use Rattle.std.specs.Prelude.{slice_get}
use Rattle.std.proofs.lemmas.Bool.{false≢true, and_parts, ltb-true, leb-true, leb-false, eqb-true, cond_both}
use Rattle.std.proofs.lemmas.List.{append-nil, map-append, take-append-drop, length-append, length-map}
use Rattle.std.specs.List.{AllByRecursion}
use Rattle.ra_model.specs.Frames.{IsFrame, joined, body_limit, last_id}
use Rattle.ra_model.specs.FrameKinds.{FrameKind, frame_kind, written_frame, regular, control_frame, ack_frame, disconnect_frame, replay_request, pause_frame, resume_frame, keep_alive_frame}
use Rattle.ra_model.specs.declared.frame.Frame.{Frame}
use Rattle.ra_model.specs.FrameKinds.FrameKind.{Regular, Control, Disconnect, ReplayRequest, Pause, Resume, Other}
use Rattle.ra_model.specs.Endpoints.{Endpoint, SaidMessage, is_up, is_linked, is_joining, is_ended, sent, acknowledged_count, numbered, entry_frame, owed, replay}
use Rattle.ra_model.specs.Calls.{written_at, rewritten, when, writes_ack, writes_keep_alive, moment, dated, can_say, say, control, ask_pause, ask_resume, finish, tick, lose, leave, on_link, can_begin, begin}
use Rattle.ra_model.specs.Taking.{on_frame}
use Rattle.ra_model.specs.declared.session.Phase.{Phase}
use Rattle.ra_model.specs.declared.session.Phase.TheVariants.{Away, Joining, Up, Ended}
use Rattle.ra_model.specs.Timing.{asked_lately}
use Rattle.ra_model.specs.Links.{Link, at_number}
use Rattle.ra_base.specs.declared.event.Side.{Side}
use Rattle.ra_model.specs.Pairs.{body_of, IsHonest, AllHonest}
use Rattle.ra_model.proofs.Honesty.{Grown, all_append, at_number_more}
use Rattle.ra_model.proofs.Outgoing.{outgoing_grown, outgoing_write, outgoing_discard, outgoing_left, outgoing_begun}
use Rattle.ra_model.specs.Views.{EndpointWrote, HasWritten, IsStored}

-- what an endpoint writes is a frame
written_fits : (kind id ack : ℕ) (body : List ℕ) → kind < 128 → id ≤ last_id → ack ≤ last_id → length body ≤ body_limit → IsFrame (written_frame kind id ack body)
unfolding written_frame
written_fits kind id ack body small id_fits ack_fits fits =
    let below : (b : Bool) → (leb (2 ^ 32) id || leb (2 ^ 32) ack) ≡ b → IsFrame (record { kind = kind; wide = b; id = id; ack = ack; body = body }) =
    λ b. elim b as (λ (b : Bool). (leb (2 ^ 32) id || leb (2 ^ 32) ack) ≡ b → IsFrame (record { kind = kind; wide = b; id = id; ack = ack; body = body })) [
      | true ↦ λ _. record { kind = small; id = omega arith; ack = omega arith; body = fits }
      | false ↦ λ is.
          let parts = or_false (leb (2 ^ 32) id) (leb (2 ^ 32) ack) is in
          record { kind = small; id = leb-false (2 ^ 32) id parts.0; ack = leb-false (2 ^ 32) ack parts.1; body = fits }
    ] in
    below (leb (2 ^ 32) id || leb (2 ^ 32) ack) refl
  where
    or_false : (a b : Bool) → (a || b) ≡ false → (a ≡ false) × (b ≡ false)
    or_false true b is = cc
    or_false false b is = (refl, is)

-- a frame that is no message
honest_plain : (base : ℕ) (said : List (List ℕ)) (received kind ack : ℕ) (body : List ℕ) → kind < 128 → (frame_kind kind ≡ Regular → ⊥) → ack ≤ received → received ≤ last_id → length body ≤ body_limit
    → IsHonest base said received (written_frame kind 0 ack body)
unfolding written_frame
honest_plain base said received kind ack body small other low ids fits = record {
  fits = written_fits kind 0 ack body small (omega arith) (omega arith) fits;
  message = λ is. absurd (other is);
  ack = low;
}

-- whoever writes it: a frame that is no message, and acknowledges nothing
pub honest_silent : (base : ℕ) (said : List (List ℕ)) (received kind : ℕ) (body : List ℕ) → kind < 128 → (frame_kind kind ≡ Regular → ⊥) → length body ≤ body_limit → IsHonest base said received (written_frame kind 0 0 body)
unfolding written_frame
honest_silent base said received kind body small other fits = record {
  fits = written_fits kind 0 0 body small (omega arith) (omega arith) fits;
  message = λ is. absurd (other is);
  ack = omega arith;
}

pub get_from_drop : {X : Type 0} → (n : ℕ) (xs : List X) (y : X) (ys : List X) → drop n xs ≡ y ∷ ys → slice_get xs n ≡ Some y
get_from_drop zero [] y ys h = cc
get_from_drop zero (x ∷ xs) y ys h = cc
get_from_drop (suc n) [] y ys h = cc
get_from_drop (suc n) (x ∷ xs) y ys h = get_from_drop n xs y ys h

pub drop_next : {X : Type 0} → (n : ℕ) (xs : List X) (y : X) (ys : List X) → drop n xs ≡ y ∷ ys → drop (suc n) xs ≡ ys
drop_next zero [] y ys h = cc
drop_next zero (x ∷ xs) y ys h = cc
drop_next (suc n) [] y ys h = cc
drop_next (suc n) (x ∷ xs) y ys h = drop_next n xs y ys h

drop_within : {X : Type 0} → (n : ℕ) (xs : List X) (y : X) (ys : List X) → drop n xs ≡ y ∷ ys → n < length xs
drop_within zero [] y ys h = cc
drop_within zero (x ∷ xs) y ys h = omega arith
drop_within (suc n) [] y ys h = cc
drop_within (suc n) (x ∷ xs) y ys h = let below : n < length xs = drop_within n xs y ys h in omega arith

pub get_map : (ms : List SaidMessage) (n : ℕ) (m : SaidMessage) → slice_get ms n ≡ Some m → slice_get (map body_of ms) n ≡ Some m.body
get_map [] n m h = cc
get_map (x ∷ ms) zero m h = ap body_of-some h
  where
    body_of-some : Option SaidMessage → Option (List ℕ)
    body_of-some None = None
    body_of-some (Some x) = Some x.body
get_map (x ∷ ms) (suc n) m h = get_map ms n m h

pub all_drop : {X : Type 0} (P : X → Type 0) → (n : ℕ) (xs : List X) → AllByRecursion P xs → AllByRecursion P (drop n xs)
all_drop P zero xs h = h
all_drop P (suc n) [] h = h
all_drop P (suc n) (x ∷ xs) h = all_drop P n xs h.1

-- what was said, as frames with their ids, is honest
numbered_honest : (base : ℕ) (said : List SaidMessage) (received : ℕ) → base + length said ≤ last_id → received ≤ last_id → (n : ℕ) (ms : List SaidMessage) → drop n said ≡ ms → AllByRecursion (IsStored received) ms
    → (last : ℕ) → last ≡ base + n → AllHonest base (map body_of said) received (map entry_frame (numbered last ms))
unfolding written_frame
numbered_honest base said received count ids n [] is stored last at = tt
numbered_honest base said received count ids n (m ∷ ms) is stored last at =
    let below : n < length said = drop_within n said m ms is in
    let low : m.ack ≤ received = stored.0.ack in
    let place : suc last - base ≡ suc n = omega arith in (
      record {
        fits = written_fits 1 (suc last) m.ack m.body (omega arith) (omega arith) (omega arith) stored.0.body;
        message = λ _. subst (λ (k : ℕ). at_number (map body_of said) k ≡ Some m.body) (sym place) (get_map said n m (get_from_drop n said m ms is));
        ack = low;
      },
      numbered_honest base said received count ids (suc n) ms (drop_next n said m ms is) stored.1 (suc last) (omega arith),
    )

pub replay_honest : (to : Side) (n : ℕ) (e : Endpoint) (links : List Link) → EndpointWrote to n e links → e.base ≤ e.acknowledged → AllHonest e.base (map body_of e.said) e.received (replay e)
unfolding owed
replay_honest to n e links h low =
    numbered_honest e.base e.said e.received h.count h.ids (acknowledged_count e) (drop (acknowledged_count e) e.said) refl (all_drop (IsStored e.received) (acknowledged_count e) e.said h.stored)
    e.acknowledged (omega arith)

map_marked : (now : ℕ) (ms : List SaidMessage) → map body_of (map (written_at now) ms) ≡ map body_of ms
map_marked now [] = refl
map_marked now (m ∷ ms) = ap (λ (bs : List (List ℕ)). m.body ∷ bs) (map_marked now ms)

-- a replay changes when messages were written, and not what was said
pub messages_rewritten : (now : ℕ) (e : Endpoint) → map body_of (rewritten now e) ≡ map body_of e.said
unfolding rewritten
messages_rewritten now e =
    map-append body_of (take (acknowledged_count e) e.said) (map (written_at now) (drop (acknowledged_count e) e.said))
    ∙ ap (λ (bs : List (List ℕ)). map body_of (take (acknowledged_count e) e.said) ++ bs) (map_marked now (drop (acknowledged_count e) e.said))
    ∙ sym (map-append body_of (take (acknowledged_count e) e.said) (drop (acknowledged_count e) e.said))
    ∙ ap (λ (ms : List SaidMessage). map body_of ms) (take-append-drop (acknowledged_count e) e.said)

pub length-rewritten : (now : ℕ) (e : Endpoint) → length (rewritten now e) ≡ length e.said
length-rewritten now e = sym (length-map (rewritten now e) body_of) ∙ ap (λ (bs : List (List ℕ)). length bs) (messages_rewritten now e) ∙ length-map e.said body_of

stored_marked : (received now : ℕ) (ms : List SaidMessage) → AllByRecursion (IsStored received) ms → AllByRecursion (IsStored received) (map (written_at now) ms)
stored_marked received now [] h = tt
stored_marked received now (m ∷ ms) h = (record { ack = h.0.ack; body = h.0.body }, stored_marked received now ms h.1)

all_take : {X : Type 0} (P : X → Type 0) → (n : ℕ) (xs : List X) → AllByRecursion P xs → AllByRecursion P (take n xs)
all_take P zero xs h = tt
all_take P (suc n) [] h = tt
all_take P (suc n) (x ∷ xs) h = (h.0, all_take P n xs h.1)

stored_rewritten : (now : ℕ) (e : Endpoint) → AllByRecursion (IsStored e.received) e.said → AllByRecursion (IsStored e.received) (rewritten now e)
unfolding rewritten
stored_rewritten now e h =
    all_append (IsStored e.received) (take (acknowledged_count e) e.said) (map (written_at now) (drop (acknowledged_count e) e.said))
    (all_take (IsStored e.received) (acknowledged_count e) e.said h) (stored_marked e.received now (drop (acknowledged_count e) e.said) (all_drop (IsStored e.received) (acknowledged_count e) e.said h))

grown_same : (said said' : List (List ℕ)) (received : ℕ) → said' ≡ said → Grown said said' received received
grown_same said said' received is = record {
  still = λ n body at. subst (λ (bs : List (List ℕ)). at_number bs n ≡ Some body) (sym is) at;
  more = omega arith;
}

outgoing_rewritten : (to : Side) (n : ℕ) (e : Endpoint) (links : List Link) (now : ℕ) (linked : Bool) (text : List ℕ) → EndpointWrote to n e links → HasWritten to e.base e.said e.received n linked text links
    → HasWritten to e.base (rewritten now e) e.received n linked text links
outgoing_rewritten to n e links now linked text h both =
    outgoing_grown both (rewritten now e) e.received (grown_same (map body_of e.said) (map body_of (rewritten now e)) e.received (messages_rewritten now e))
    (rw (length-rewritten now e) h.count) h.ids (stored_rewritten now e h.stored)

-- what is owed is written again, behind other honest frames
pub outgoing_replay : (to : Side) (n : ℕ) (e : Endpoint) (links : List Link) (now : ℕ) (frames : List Frame) → EndpointWrote to n e links → e.base ≤ e.acknowledged → is_linked e.phase ≡ true → AllHonest e.base (map body_of e.said) e.received frames
    → HasWritten to e.base (rewritten now e) e.received n true ((e.unwritten ++ joined frames) ++ joined (replay e)) links
outgoing_replay to n e links now frames h low up all =
    let linked : HasWritten to e.base e.said e.received n true e.unwritten links = subst (λ (b : Bool). HasWritten to e.base e.said e.received n b e.unwritten links) up h in
    let front : HasWritten to e.base e.said e.received n true (e.unwritten ++ joined frames) links = outgoing_write linked frames refl all in
    let both : HasWritten to e.base e.said e.received n true ((e.unwritten ++ joined frames) ++ joined (replay e)) links = outgoing_write front (replay e) refl (replay_honest to n e links h low) in
    outgoing_rewritten to n e links now true ((e.unwritten ++ joined frames) ++ joined (replay e)) h both

-- a frame is written where the endpoint is up
write_when : (to : Side) (base : ℕ) (said : List SaidMessage) (received epoch : ℕ) (phase : Phase) (unwritten : List ℕ) (links : List Link) (f : Frame)
    → HasWritten to base said received epoch (is_linked phase) unwritten links → IsHonest base (map body_of said) received f
    → HasWritten to base said received epoch (is_linked phase) (unwritten ++ joined (when (is_up phase) f)) links
write_when to base said received epoch Away unwritten links f h honest = subst (λ (t : List ℕ). HasWritten to base said received epoch false t links) (sym (append-nil unwritten)) h
write_when to base said received epoch Joining unwritten links f h honest = subst (λ (t : List ℕ). HasWritten to base said received epoch true t links) (sym (append-nil unwritten)) h
write_when to base said received epoch Up unwritten links f h honest = outgoing_write h (f ∷ []) refl (honest, tt)
write_when to base said received epoch Ended unwritten links f h honest = subst (λ (t : List ℕ). HasWritten to base said received epoch false t links) (sym (append-nil unwritten)) h

get_last : {X : Type 0} → (xs : List X) (x : X) → slice_get (xs ++ x ∷ []) (length xs) ≡ Some x
get_last [] x = refl
get_last (y ∷ xs) x = get_last xs x

grown_said : (said : List SaidMessage) (m : SaidMessage) (received : ℕ) → Grown (map body_of said) (map body_of (said ++ m ∷ [])) received received
grown_said said m received = record {
  still = λ n body at. subst (λ (bs : List (List ℕ)). at_number bs n ≡ Some body) (sym (map-append body_of said (m ∷ []))) (at_number_more (map body_of said) (m.body ∷ []) n body at);
  more = omega arith;
}

pub outgoing_say : (to : Side) (n : ℕ) (e : Endpoint) (links : List Link) (body : List ℕ) (now : ℕ) → EndpointWrote to n e links → EndpointWrote to n (say body now e) links
unfolding say written_frame
outgoing_say to n e links body now h =
    cond_both (can_say body e) _ _ (λ (x : Endpoint). EndpointWrote to n x links)
    (λ yes.
    let limits : (leb (length body) body_limit ≡ true) × (ltb (sent e) last_id ≡ true) = and_parts _ _ (and_parts _ _ yes).1 in
    let fits : length body ≤ body_limit = leb-true (length body) body_limit limits.0 in
    let room : e.base + length e.said < last_id = ltb-true (sent e) last_id limits.1 in
    let m : SaidMessage = record { body = body; ack = e.received; written = cond (is_up e.phase) (Some (moment now e)) None } in
    let count : e.base + length (e.said ++ m ∷ []) ≤ last_id = omega (arith, length-append e.said (m ∷ [])) in
    let more : HasWritten to e.base (e.said ++ m ∷ []) e.received n (is_linked e.phase) e.unwritten links =
    outgoing_grown h (e.said ++ m ∷ []) e.received (grown_said e.said m e.received) count h.ids
    (all_append (IsStored e.received) e.said (m ∷ []) h.stored (record { ack = omega arith; body = fits }, tt)) in
    let place : suc (sent e) - e.base ≡ suc (length e.said) = omega arith in
    let honest : IsHonest e.base (map body_of (e.said ++ m ∷ [])) e.received (regular (suc (sent e)) e.received body) = record {
      fits = written_fits 1 (suc (sent e)) e.received body (omega arith) (omega arith) h.ids fits;
      message = λ _. subst (λ (k : ℕ). at_number (map body_of (e.said ++ m ∷ [])) k ≡ Some body) (sym place) (get_map (e.said ++ m ∷ []) (length e.said) m (get_last e.said m));
      ack = omega arith;
    } in
    write_when to e.base (e.said ++ m ∷ []) e.received n e.phase e.unwritten links (regular (suc (sent e)) e.received body) more honest)
    (λ no. h)

outgoing_plain : (to : Side) (n : ℕ) (e : Endpoint) (links : List Link) (f : Frame) → EndpointWrote to n e links → is_linked e.phase ≡ true → IsHonest e.base (map body_of e.said) e.received f
    → HasWritten to e.base e.said e.received n (is_linked e.phase) (e.unwritten ++ joined (f ∷ [])) links
outgoing_plain to n e links f h up honest = outgoing_write h (f ∷ []) up (honest, tt)

pub outgoing_control : (to : Side) (n : ℕ) (e : Endpoint) (links : List Link) (body : List ℕ) → EndpointWrote to n e links → EndpointWrote to n (control body e) links
unfolding control
outgoing_control to n e links body h =
    cond_both (is_linked e.phase && leb (length body) body_limit) _ _ (λ (x : Endpoint). EndpointWrote to n x links)
    (λ yes. let parts = and_parts _ _ yes in
    outgoing_plain to n e links (control_frame body) h parts.0 (honest_plain e.base (map body_of e.said) e.received 2 0 body (omega arith) (λ is. cc) (omega arith) h.ids (leb-true (length body) body_limit parts.1)))
    (λ no. h)

pub outgoing_pause : (to : Side) (n : ℕ) (e : Endpoint) (links : List Link) → EndpointWrote to n e links → EndpointWrote to n (ask_pause e) links
unfolding ask_pause
outgoing_pause to n e links h =
    cond_both (is_linked e.phase) _ _ (λ (x : Endpoint). EndpointWrote to n x links)
    (λ yes. outgoing_plain to n e links pause_frame h yes (honest_plain e.base (map body_of e.said) e.received 7 0 [] (omega arith) (λ is. cc) (omega arith) h.ids (omega arith)))
    (λ no. h)

pub outgoing_resume : (to : Side) (n : ℕ) (e : Endpoint) (links : List Link) → EndpointWrote to n e links → EndpointWrote to n (ask_resume e) links
unfolding ask_resume
outgoing_resume to n e links h =
    cond_both (is_linked e.phase) _ _ (λ (x : Endpoint). EndpointWrote to n x links)
    (λ yes. outgoing_plain to n e links resume_frame h yes (honest_plain e.base (map body_of e.said) e.received 8 0 [] (omega arith) (λ is. cc) (omega arith) h.ids (omega arith)))
    (λ no. h)

all_when : (P : Frame → Type 0) → (b : Bool) (f : Frame) → P f → AllByRecursion P (when b f)
all_when P true f h = (h, tt)
all_when P false f h = tt

linked_from_up : (phase : Phase) → is_up phase ≡ true → is_linked phase ≡ true
linked_from_up Away h = h
linked_from_up Joining h = refl
linked_from_up Up h = refl
linked_from_up Ended h = h

pub linked_from_joining : (phase : Phase) → is_joining phase ≡ true → is_linked phase ≡ true
linked_from_joining Away h = h
linked_from_joining Joining h = refl
linked_from_joining Up h = refl
linked_from_joining Ended h = h

pub outgoing_tick : (to : Side) (n : ℕ) (e : Endpoint) (links : List Link) (now : ℕ) → EndpointWrote to n e links → EndpointWrote to n (tick now e) links
unfolding tick
outgoing_tick to n e links now h =
    cond_both (is_up e.phase) _ _ (λ (x : Endpoint). EndpointWrote to n x links)
    (λ yes.
    let d : Endpoint = dated (moment now e) e in
    let P : Frame → Type 0 = IsHonest e.base (map body_of e.said) e.received in
    let ack : P (ack_frame e.received) = honest_plain e.base (map body_of e.said) e.received 3 e.received [] (omega arith) (λ is. cc) (omega arith) h.ids (omega arith) in
    let alive : P (keep_alive_frame e.received) = honest_plain e.base (map body_of e.said) e.received 9 e.received [] (omega arith) (λ is. cc) (omega arith) h.ids (omega arith) in
    outgoing_write h (when (writes_ack (moment now e) d) (ack_frame e.received) ++ when (writes_keep_alive (moment now e) d) (keep_alive_frame e.received)) (linked_from_up e.phase yes)
    (all_append P (when (writes_ack (moment now e) d) (ack_frame e.received)) (when (writes_keep_alive (moment now e) d) (keep_alive_frame e.received)) (all_when P (writes_ack (moment now e) d) (ack_frame e.received) ack) (all_when P (writes_keep_alive (moment now e) d) (keep_alive_frame e.received) alive)))
    (λ no. h)

pub outgoing_lose : (to : Side) (n : ℕ) (e : Endpoint) (links : List Link) (epoch : ℕ) → EndpointWrote to n e links → EndpointWrote to n (lose epoch e) links
unfolding lose
outgoing_lose to n e links epoch h =
    cond_both (is_linked e.phase && eqb epoch e.epoch) _ _ (λ (x : Endpoint). EndpointWrote to n x links) (λ yes. outgoing_discard h) (λ no. h)

write_last : (to : Side) (base : ℕ) (said : List SaidMessage) (received epoch : ℕ) (phase : Phase) (unwritten : List ℕ) (links : List Link) (f : Frame)
    → HasWritten to base said received epoch (is_linked phase) unwritten links → IsHonest base (map body_of said) received f
    → HasWritten to base said received epoch (is_linked phase) (unwritten ++ joined (when (is_linked phase) f)) links
write_last to base said received epoch Away unwritten links f h honest = subst (λ (t : List ℕ). HasWritten to base said received epoch false t links) (sym (append-nil unwritten)) h
write_last to base said received epoch Joining unwritten links f h honest = outgoing_write h (f ∷ []) refl (honest, tt)
write_last to base said received epoch Up unwritten links f h honest = outgoing_write h (f ∷ []) refl (honest, tt)
write_last to base said received epoch Ended unwritten links f h honest = subst (λ (t : List ℕ). HasWritten to base said received epoch false t links) (sym (append-nil unwritten)) h

pub outgoing_leave : (to : Side) (n : ℕ) (e : Endpoint) (links : List Link) → EndpointWrote to n e links → EndpointWrote to n (leave e) links
unfolding leave
outgoing_leave to n e links h =
    cond_both (not (is_ended e.phase)) _ _ (λ (x : Endpoint). EndpointWrote to n x links)
    (λ yes. outgoing_left (write_last to e.base e.said e.received n e.phase e.unwritten links disconnect_frame h (honest_plain e.base (map body_of e.said) e.received 5 0 [] (omega arith) (λ is. cc) (omega arith) h.ids (omega arith))))
    (λ no. h)

pub outgoing_finish : (to : Side) (n : ℕ) (e : Endpoint) (links : List Link) (now : ℕ) → EndpointWrote to n e links → e.base ≤ e.acknowledged → EndpointWrote to n (finish now e) links
unfolding finish owed rewritten
outgoing_finish to n e links now h low =
    cond_both (is_joining e.phase) _ _ (λ (x : Endpoint). EndpointWrote to n x links)
    (λ yes. outgoing_replay to n e links (moment now e) (ack_frame e.received ∷ []) h low (linked_from_joining e.phase yes)
    (honest_plain e.base (map body_of e.said) e.received 3 e.received [] (omega arith) (λ is. cc) (omega arith) h.ids (omega arith), tt))
    (λ no. h)

stored_more : (received : ℕ) (ms : List SaidMessage) → AllByRecursion (IsStored received) ms → AllByRecursion (IsStored (suc received)) ms
stored_more received [] h = tt
stored_more received (m ∷ ms) h = let low : m.ack ≤ received = h.0.ack in (record { ack = omega arith; body = h.0.body }, stored_more received ms h.1)

-- a frame came, and its unread bytes are gone
pub outgoing_came : (to : Side) (n : ℕ) (e : Endpoint) (links : List Link) (kind : FrameKind) (f : Frame) (now : ℕ) → EndpointWrote to n e links → e.base ≤ e.acknowledged → is_linked e.phase ≡ true
    → (kind ≡ Regular → f.id ≡ suc e.received → suc e.received ≤ last_id) → EndpointWrote to n (on_frame kind f now e) links
unfolding owed rewritten
outgoing_came to n e links Regular f now h low up room =
    cond_both (eqb f.id (suc e.received)) _ _ (λ (x : Endpoint). EndpointWrote to n x links)
    (λ yes. outgoing_grown h e.said (suc e.received) (record { still = λ n body at. at; more = omega arith }) h.count (room refl (eqb-true f.id (suc e.received) yes)) (stored_more e.received e.said h.stored))
    (λ no. cond_both (ltb (suc e.received) f.id && not (asked_lately now e.timing)) _ _ (λ (x : Endpoint). EndpointWrote to n x links)
    (λ yes. outgoing_plain to n e links replay_request h up (honest_plain e.base (map body_of e.said) e.received 6 0 [] (omega arith) (λ is. cc) (omega arith) h.ids (omega arith)))
    (λ _. h))
outgoing_came to n e links Control f now h low up room = h
outgoing_came to n e links Disconnect f now h low up room = outgoing_discard h
outgoing_came to n e links ReplayRequest f now h low up room =
    outgoing_rewritten to n e links now (is_linked e.phase) (e.unwritten ++ joined (replay e)) h (outgoing_write h (replay e) up (replay_honest to n e links h low))
outgoing_came to n e links Pause f now h low up room = h
outgoing_came to n e links Resume f now h low up room = h
outgoing_came to n e links Other f now h low up room = h

-- a link begins
pub outgoing_begin : (to : Side) (n link : ℕ) (e : Endpoint) (links : List Link) (epoch : ℕ) (chunk : List ℕ) (now : ℕ) → EndpointWrote to n e links → e.base ≤ e.acknowledged → n < link → link ≤ length links → can_begin epoch e ≡ true
    → EndpointWrote to link (begin epoch chunk now e) links
unfolding begin owed rewritten
outgoing_begin to n link e links epoch chunk now h low later there can =
    cond_both (can_begin epoch e) _ _ (λ (x : Endpoint). EndpointWrote to link x links)
    (λ yes.
    let fresh : Endpoint = on_link epoch chunk (moment now e) e in
    let bare : EndpointWrote to link fresh links = outgoing_begun h link later there in
    cond_both (eqb e.epoch 0) _ _ (λ (x : Endpoint). EndpointWrote to link x links)
    (λ first. outgoing_rewritten to link fresh links (moment now e) true (joined (replay fresh)) bare (outgoing_write bare (replay fresh) refl (replay_honest to link fresh links bare low)))
    (λ other. bare))
    (λ no. absurd (false≢true (sym no ∙ can)))
