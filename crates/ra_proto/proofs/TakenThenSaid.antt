-- A message is taken behind what was put into the queue for it; as if it was taken first.
use Rattle.std.proofs.Common.{◌≡◌, ℕ, ◌+◌, ◌<◌, ◌≤◌, max, min, Bool, true, false, cond, ◌&&◌, ltb, leb, Option, Some, None, List, [], ◌∷◌, ◌++◌, length, drop, refl, ap, sym, ◌∙◌, subst, arith}
use Rattle.std.proofs.lemmas.Bool.{lt-leb, cond-false}
use Rattle.ra_model.specs.declared.frame.Frame.{Frame}
use Rattle.ra_model.specs.declared.session.Entry.{Entry}
use Rattle.ra_model.specs.declared.timing.Timing.{Timing}
use Rattle.ra_model.specs.Frames.{joined, last_id}
use Rattle.ra_model.specs.Timing.{message_heard, watched}
use Rattle.ra_model.specs.Endpoints.{Endpoint, is_up, is_ended, first_written}
use Rattle.ra_model.specs.EndpointStates.{EndpointState, IsConsistent, StandsFor, behind}
use Rattle.ra_model.specs.Taking.{take_frame}
use Rattle.ra_model.proofs.Consistent.{passed_consistent}
use Rattle.ra_proto.specs.Coming.{IsNextMessage}
use Rattle.ra_proto.specs.Passed.{received, upto}
use Rattle.ra_proto.specs.SayAll.{say_all, first_large, said_entries, frames_when}
use Rattle.ra_proto.proofs.Peeking.{next_taken}
use Rattle.ra_proto.proofs.SayingAll.{said_all, said_all_stands, said_all_consistent}

-- The queue

both_behind : (b : Bool) (first second rest es : List Entry) → first ≡ second ++ es → cond b first (rest ++ es) ≡ cond b second rest ++ es
both_behind true first second rest es is = is
both_behind false first second rest es is = refl

-- what is behind a message that is not acknowledged stays
behind_more : (n : ℕ) (queue es : List Entry) → behind n es ≡ es → behind n (queue ++ es) ≡ behind n queue ++ es
behind_more n [] es stays = stays
behind_more n (entry ∷ queue) es stays = both_behind (leb entry.id n) (behind n (queue ++ es)) (behind n queue) (entry ∷ queue) es (behind_more n queue es stays)

new_stay : (n last ack : ℕ) (written : Option ℕ) (bodies : List (List ℕ)) → n ≤ last → behind n (said_entries last ack written bodies) ≡ said_entries last ack written bodies
new_stay n last ack written [] low = refl
new_stay n last ack written (body ∷ bodies) low = cond-false _ _ _ (lt-leb (last + 1) n (omega arith))

-- The moment

heard_latest : (b : Bool) (m : ℕ) (t : Timing) → t.latest ≡ m → (cond b (message_heard m t) t).latest ≡ m
unfolding message_heard
heard_latest true m t is = is
heard_latest false m t is = is

-- The state

-- messages for the queue, and the bytes of their frames, where the next message counts as received
abbrev pub answers : List (List ℕ) → ℕ → ℕ → EndpointState → List Entry
answers bodies id m s = said_entries s.sent id (cond (is_up s.phase) (Some m) None) bodies

abbrev pub put : List (List ℕ) → ℕ → ℕ → EndpointState → EndpointState
put bodies id m s = record s {
  sent = s.sent + length bodies;
  queue = s.queue ++ answers bodies id m s;
  unwritten = s.unwritten ++ joined (frames_when (is_up s.phase) (answers bodies id m s));
}

-- once the message is received, its frame is gone, and the timeout is armed
abbrev pub closed : Bool → ℕ → ℕ → ℕ → EndpointState → EndpointState
closed up id len m s = record s {
  told = id;
  unread = drop len s.unread;
  timing = watched (up && ltb s.acknowledged s.sent) (first_written s.queue) m s.timing;
}

abbrev taken : ℕ → ℕ → ℕ → ℕ → EndpointState → EndpointState
taken id ack len now s = record (received id ack now s) { unread = drop len s.unread }

abbrev shaped : List (List ℕ) → ℕ → ℕ → ℕ → EndpointState → ℕ → List Entry → Timing → EndpointState
shaped bodies id len m s n queue t = record (put bodies id m s) {
  received = id;
  told = id;
  acknowledged = n;
  queue = queue;
  unread = drop len s.unread;
  timing = watched (is_up s.phase && ltb n (s.sent + length bodies)) (first_written queue) m t;
}

same_shape : (bodies : List (List ℕ)) (id len m : ℕ) (s : EndpointState) (n k : ℕ) (p q : List Entry) (t r : Timing) → n ≡ k → p ≡ q → t ≡ r → shaped bodies id len m s n p t ≡ shaped bodies id len m s k q r
same_shape bodies id len m s n k p q t r a b c = cc

taken_then_said : (bodies : List (List ℕ)) (id ack len now m : ℕ) (s : EndpointState) → max now s.timing.latest ≡ m → s.acknowledged ≤ s.sent
    → closed (is_up s.phase) id len m (received id (min ack s.sent) now (put bodies id m s)) ≡ said_all bodies m (taken id ack len now s)
taken_then_said bodies id ack len now m s at low =
    let es : List Entry = answers bodies id m s in
    let n : ℕ = upto ack s in
    let k : ℕ = max s.acknowledged (min (min ack s.sent) (s.sent + length bodies)) in
    let same : k ≡ n = omega arith in
    let most : n ≤ s.sent = omega arith in
    let dated : Timing = record s.timing { latest = max now s.timing.latest } in
    let heard : Timing = cond (is_up s.phase) (message_heard dated.latest dated) dated in
    let latest : heard.latest ≡ m = heard_latest (is_up s.phase) dated.latest dated refl ∙ at in
    let queue : behind k (s.queue ++ es) ≡ behind n s.queue ++ es = ap (λ (i : ℕ). behind i (s.queue ++ es)) same ∙ behind_more n s.queue es (new_stay n s.sent id _ bodies most) in
    same_shape bodies id len m s k n (behind k (s.queue ++ es)) (behind n s.queue ++ es) heard (record heard { latest = m }) same queue (ap (λ (i : ℕ). record heard { latest = i }) latest)

latest_taken : (id ack len now : ℕ) (s : EndpointState) → (taken id ack len now s).timing.latest ≡ max now s.timing.latest
latest_taken id ack len now s =
    let dated : Timing = record s.timing { latest = max now s.timing.latest } in
    heard_latest (is_up s.phase) dated.latest dated refl

taken_consistent : (id ack len now : ℕ) (s : EndpointState) → s.received ≤ id → IsConsistent s → IsConsistent (taken id ack len now s)
taken_consistent id ack len now s later whole =
    let frame : Frame = record { kind = 3; wide = false; id = 0; ack = ack; body = [] } in
    let k = passed_consistent frame s.unread (max now s.timing.latest) s whole in
    record { all = k.all; id = k.id; fits = k.fits; told = omega (arith, whole.told) }

pub put_consistent : (bodies : List (List ℕ)) (id m : ℕ) (s : EndpointState) → 0 < length bodies → s.received ≤ id → first_large bodies ≡ None → IsConsistent s → IsConsistent (put bodies id m s)
put_consistent bodies id m s some later small whole =
    let k = said_all_consistent bodies m (record s { received = id }) some (record { all = whole.all; id = whole.id; fits = whole.fits; told = omega (arith, whole.told) }) small in
    record { all = k.all; id = k.id; fits = k.fits; told = whole.told }

pub answered_stands : {id ack len : ℕ} {s : EndpointState} → IsNextMessage id ack len s → (bodies : List (List ℕ)) (now : ℕ) → 0 < length bodies → IsConsistent s
    → is_ended s.phase ≡ false → first_large bodies ≡ None → s.sent + length bodies ≤ last_id → (e : Endpoint) → StandsFor s e
    → (let m : ℕ = max now s.timing.latest in StandsFor (closed (is_up s.phase) id len m (received id (min ack s.sent) now (put bodies id m s))) (say_all bodies now (take_frame now e)))
answered_stands {id = id} {ack = ack} {len = len} {s = s} next bodies now some whole going small room e h =
    let m : ℕ = max now s.timing.latest in
    let r : EndpointState = taken id ack len now s in
    let low : s.acknowledged ≤ s.sent = omega (arith, whole.all) in
    let latest : max now r.timing.latest ≡ m = ap (λ (n : ℕ). max now n) (latest_taken id ack len now s) ∙ (omega arith) in
    subst (λ (x : EndpointState). StandsFor x (say_all bodies now (take_frame now e))) (sym (taken_then_said bodies id ack len now m s refl low))
    (subst (λ (n : ℕ). StandsFor (said_all bodies n r) (say_all bodies now (take_frame now e))) latest
    (said_all_stands bodies now r some (taken_consistent id ack len now s (omega (arith, next.next)) whole) going small room (take_frame now e) (next_taken next now whole e h)))
