-- Messages that are said at once are said one after the other.
use Rattle.std.proofs.Common.{◌≡◌, ℕ, zero, suc, ◌+◌, ◌<◌, ◌≤◌, max, Bool, true, false, cond, ◌&&◌, ltb, Option, Some, None, List, [], ◌∷◌, ◌++◌, length, refl, ap, sym, ◌∙◌, subst, arith, append_assoc, append-nil}
use Rattle.std.specs.Prelude.{All}
use Rattle.std.proofs.lemmas.Bool.{ltb-false, lt-ltb}
use Rattle.std.proofs.lemmas.List.Elements.{All-append}
use Rattle.ra_model.specs.declared.fault.EndFault.{EndFault}
use Rattle.ra_model.specs.declared.fault.EndFault.TheVariants.{TooLarge}
use Rattle.ra_model.specs.declared.session.Entry.{Entry}
use Rattle.ra_model.specs.declared.timing.Timing.{Timing}
use Rattle.ra_model.specs.Frames.{body_limit, joined, last_id, frame_bytes}
use Rattle.ra_model.specs.Timing.{or_else, watched}
use Rattle.ra_model.specs.Endpoints.{Endpoint, is_up, is_ended, entry_frame, first_written}
use Rattle.ra_model.specs.Calls.{say, when}
use Rattle.ra_model.specs.Refusals.{or_fault}
use Rattle.ra_model.specs.EndpointStates.{EndpointState, IsConsistent, StandsFor}
use Rattle.ra_model.specs.GoesOn.{GoesOn}
use Rattle.ra_model.proofs.Consistent.{said_consistent}
use Rattle.ra_model.proofs.Ending.{goes_say}
use Rattle.ra_model.proofs.Stands.{said_entry, state_checked, state_said, say_stands}
use Rattle.ra_proto.specs.SayAll.{say_all, first_large, said_entries, frames_when}

-- such messages never end an endpoint
pub goes_say_all : (bodies : List (List ℕ)) (now : ℕ) → GoesOn (say_all bodies now)
unfolding say_all
goes_say_all [] now e h = h
goes_say_all (body ∷ bodies) now e h = goes_say_all bodies now (say body now e) (goes_say body now e h)

pub say_none : (bodies : List (List ℕ)) (now : ℕ) (s : EndpointState) → length bodies ≡ 0 → (e : Endpoint) → StandsFor s e → StandsFor s (say_all bodies now e)
unfolding say_all
say_none [] now s none e h = h
say_none (body ∷ bodies) now s none e h = absurd (omega arith)

-- Sizes

small_by : (large : Bool) (len : ℕ) (rest : Option EndFault) → or_fault (cond large (Some (TooLarge len)) None) rest ≡ None → (large ≡ false) × (rest ≡ None)
small_by true len rest none = cc
small_by false len rest none = (refl, none)

small : (body : List ℕ) (bodies : List (List ℕ)) → first_large (body ∷ bodies) ≡ None → (length body ≤ body_limit) × (first_large bodies ≡ None)
small body bodies none =
    let k = small_by (ltb body_limit (length body)) (length body) (first_large bodies) none in
    (ltb-false body_limit (length body) k.0, k.1)

abbrev Fits : Entry → Type 0
Fits entry = length entry.body ≤ body_limit

entries_fit : (last ack : ℕ) (written : Option ℕ) (bodies : List (List ℕ)) → first_large bodies ≡ None → All Fits (said_entries last ack written bodies)
entries_fit last ack written [] none k d lt = omega (arith, lt)
entries_fit last ack written (body ∷ bodies) none zero d lt = (small body bodies none).0
entries_fit last ack written (body ∷ bodies) none (suc k) d lt = entries_fit (last + 1) ack written bodies (small body bodies none).1 k d (omega (arith, lt))

pub queue_fits : (queue : List Entry) (last ack : ℕ) (written : Option ℕ) (bodies : List (List ℕ)) → All Fits queue → first_large bodies ≡ None → All Fits (queue ++ said_entries last ack written bodies)
queue_fits queue last ack written bodies fits none = All-append Fits queue (said_entries last ack written bodies) fits (entries_fit last ack written bodies none)

-- One after the other

said_each : List (List ℕ) → ℕ → EndpointState → EndpointState
said_each [] m s = s
said_each (body ∷ bodies) m s = said_each bodies m (state_said body m s)

latest_said : (body : List ℕ) (m : ℕ) (s : EndpointState) → (state_said body m s).timing.latest ≡ m
unfolding watched
latest_said body m s = refl

each_stands : (bodies : List (List ℕ)) (now m : ℕ) (s : EndpointState) → max now s.timing.latest ≡ m → IsConsistent s → is_ended s.phase ≡ false → first_large bodies ≡ None → s.sent + length bodies ≤ last_id
    → (e : Endpoint) → StandsFor s e → StandsFor (said_each bodies m s) (say_all bodies now e)
unfolding say_all said_each
each_stands [] now m s at whole going none room e h = h
each_stands (body ∷ bodies) now m s at whole going none room e h =
    let fits = small body bodies none in
    let first : StandsFor (state_said body m s) (say body now e) = subst (λ (n : ℕ). StandsFor (state_said body n s) (say body now e)) at (say_stands body now s whole going fits.0 (omega arith) e h) in
    each_stands bodies now m (state_said body m s) (ap (λ (n : ℕ). max now n) (latest_said body m s) ∙ (omega arith)) (said_consistent body m s fits.0 whole) going fits.1 (omega arith) (say body now e) first

each_consistent : (bodies : List (List ℕ)) (m : ℕ) (s : EndpointState) → IsConsistent s → first_large bodies ≡ None → IsConsistent (said_each bodies m s)
unfolding said_each
each_consistent [] m s whole none = whole
each_consistent (body ∷ bodies) m s whole none =
    let fits = small body bodies none in
    each_consistent bodies m (state_said body m s) (said_consistent body m s fits.0 whole) fits.1

-- At once

abbrev pub all_entries : List (List ℕ) → ℕ → EndpointState → List Entry
all_entries bodies m s = said_entries s.sent s.received (cond (is_up s.phase) (Some m) None) bodies

abbrev pub said_all : List (List ℕ) → ℕ → EndpointState → EndpointState
said_all bodies m s =
    state_checked m (record s {
      sent = s.sent + length bodies;
      queue = s.queue ++ all_entries bodies m s;
      told = s.received;
      unwritten = s.unwritten ++ joined (frames_when (is_up s.phase) (all_entries bodies m s));
      timing = record s.timing { latest = m };
    })

made : EndpointState → ℕ → List Entry → List ℕ → Timing → EndpointState
made s n queue unwritten timing = record s { sent = n; queue = queue; told = s.received; unwritten = unwritten; timing = timing }

same_made : (s : EndpointState) (n k : ℕ) (p q : List Entry) (u v : List ℕ) (t r : Timing) → n ≡ k → p ≡ q → u ≡ v → t ≡ r → made s n p u t ≡ made s k q v r
same_made s n k p q u v t r a b c d = cc

or_twice : (at : Option ℕ) (n k : ℕ) → or_else (or_else at n) k ≡ or_else at n
or_twice None n k = refl
or_twice (Some before) n k = refl

-- a timeout that was armed stays as it is
watched_twice : (b : Bool) (o : Option ℕ) (m : ℕ) (t : Timing) → watched b o m (record (watched b o m (record t { latest = m })) { latest = m }) ≡ watched b o m (record t { latest = m })
unfolding watched
watched_twice true o m t = ap (λ (at : Option ℕ). record t { latest = m; timeout = at }) (or_twice t.timeout _ _)
watched_twice false o m t = refl

waits_up : (b : Bool) (n k : ℕ) → n < k → (b && ltb n k) ≡ b
waits_up true n k less = lt-ltb n k less
waits_up false n k less = refl

first_of : (queue : List Entry) (entry : Entry) (entries : List Entry) → first_written (queue ++ entry ∷ entries) ≡ first_written (queue ++ entry ∷ [])
first_of [] entry entries = refl
first_of (first ∷ queue) entry entries = refl

frames_more : (b : Bool) (out : List ℕ) (entry : Entry) (entries : List Entry)
    → out ++ joined (frames_when b (entry ∷ entries)) ≡ (out ++ joined (when b (entry_frame entry))) ++ joined (frames_when b entries)
frames_more true out entry entries = sym (append_assoc out _ _ ∙ ap (λ (t : List ℕ). out ++ t) (ap (λ (t : List ℕ). t ++ joined (frames_when true entries)) (append-nil (frame_bytes (entry_frame entry)))))
frames_more false out entry entries = sym (append-nil (out ++ []))

-- the first of several, and then the others at once
first_then : (body : List ℕ) (bodies : List (List ℕ)) (m : ℕ) (s : EndpointState) → s.acknowledged ≤ s.sent → 0 < length bodies → said_all (body ∷ bodies) m s ≡ said_all bodies m (state_said body m s)
unfolding made
first_then body bodies m s low some =
    let up : Bool = is_up s.phase in
    let entry : Entry = said_entry body m s in
    let entries : List Entry = said_entries (s.sent + 1) s.received (cond up (Some m) None) bodies in
    let dated : Timing = record s.timing { latest = m } in
    let last : Bool = up && ltb s.acknowledged (s.sent + length (body ∷ bodies)) in
    let next : Bool = up && ltb s.acknowledged (s.sent + 1) in
    let oldest : Option ℕ = first_written (s.queue ++ entry ∷ []) in
    let is_next : next ≡ up = waits_up up s.acknowledged (s.sent + 1) (omega arith) in
    let is_last : last ≡ up = waits_up up s.acknowledged (s.sent + length (body ∷ bodies)) (omega arith) in
    let count : s.sent + length (body ∷ bodies) ≡ s.sent + 1 + length bodies = omega arith in
    let is_last-2 : (up && ltb s.acknowledged (s.sent + 1 + length bodies)) ≡ up = waits_up up s.acknowledged (s.sent + 1 + length bodies) (omega arith) in
    let queue : s.queue ++ entry ∷ entries ≡ (s.queue ++ entry ∷ []) ++ entries = sym (append_assoc s.queue (entry ∷ []) entries) in
    let first : first_written (s.queue ++ entry ∷ entries) ≡ oldest = first_of s.queue entry entries in
    let first-2 : first_written ((s.queue ++ entry ∷ []) ++ entries) ≡ oldest = ap first_written (append_assoc s.queue (entry ∷ []) entries) ∙ first in
    let before : watched last (first_written (s.queue ++ entry ∷ entries)) m dated ≡ watched up oldest m dated = ap (λ (b : Bool). watched b (first_written (s.queue ++ entry ∷ entries)) m dated) is_last ∙ ap (λ (o : Option ℕ). watched up o m dated) first in
    let after : watched (up && ltb s.acknowledged (s.sent + 1 + length bodies)) (first_written ((s.queue ++ entry ∷ []) ++ entries)) m (record (watched next oldest m dated) { latest = m }) ≡ watched up oldest m dated =
    ap (λ (b : Bool). watched b (first_written ((s.queue ++ entry ∷ []) ++ entries)) m (record (watched next oldest m dated) { latest = m })) is_last-2
    ∙ ap (λ (o : Option ℕ). watched up o m (record (watched next oldest m dated) { latest = m })) first-2
    ∙ ap (λ (b : Bool). watched up oldest m (record (watched b oldest m dated) { latest = m })) is_next
    ∙ watched_twice up oldest m s.timing in
    same_made s _ _ _ _ _ _ _ _ count queue (frames_more up s.unwritten entry entries) (before ∙ sym after)

at_once : (body : List ℕ) (bodies : List (List ℕ)) (m : ℕ) (s : EndpointState) → IsConsistent s → first_large (body ∷ bodies) ≡ None → said_each (body ∷ bodies) m s ≡ said_all (body ∷ bodies) m s
unfolding said_each
at_once body [] m s whole none = refl
at_once body (next ∷ bodies) m s whole none =
    let fits = small body (next ∷ bodies) none in
    at_once next bodies m (state_said body m s) (said_consistent body m s fits.0 whole) fits.1
    ∙ sym (first_then body (next ∷ bodies) m s (omega (arith, whole.all)) (omega arith))

pub said_all_stands : (bodies : List (List ℕ)) (now : ℕ) (s : EndpointState) → 0 < length bodies → IsConsistent s → is_ended s.phase ≡ false → first_large bodies ≡ None → s.sent + length bodies ≤ last_id
    → (e : Endpoint) → StandsFor s e → StandsFor (said_all bodies (max now s.timing.latest) s) (say_all bodies now e)
said_all_stands [] now s some whole going none room e h = absurd (omega (arith, some))
said_all_stands (body ∷ bodies) now s some whole going none room e h =
    let m : ℕ = max now s.timing.latest in
    subst (λ (x : EndpointState). StandsFor x (say_all (body ∷ bodies) now e)) (at_once body bodies m s whole none) (each_stands (body ∷ bodies) now m s refl whole going none room e h)

pub said_all_consistent : (bodies : List (List ℕ)) (m : ℕ) (s : EndpointState) → 0 < length bodies → IsConsistent s → first_large bodies ≡ None → IsConsistent (said_all bodies m s)
said_all_consistent [] m s some whole none = absurd (omega (arith, some))
said_all_consistent (body ∷ bodies) m s some whole none = subst IsConsistent (at_once body bodies m s whole none) (each_consistent (body ∷ bodies) m s whole none)
