-- Each event keeps what holds, and so does every run.
use Rattle.std.proofs.Common.{◌≡◌, ℕ, ◌<◌, ◌≤◌, Bool, true, false, not, eqb, leb, Option, Some, None, List, [], ◌∷◌, length, take, refl, sym, subst, arith}
use Rattle.std.proofs.lemmas.Bool.{and_parts, ltb-true, eqb-true, ltb-false, le-leb, false≢true, and_from, not_from_false, leb-false, lt-ltb, not-false}
use Rattle.ra_model.specs.Frames.{last_id}
use Rattle.ra_model.specs.Frames.{body_limit}
use Rattle.ra_model.specs.Endpoints.{Endpoint, sent, shown, new_endpoint}
use Rattle.ra_model.specs.Calls.{can_say, can_begin, can_feed, say, control, ask_pause, ask_resume, finish, feed, tick, lose, leave, wrote}
use Rattle.ra_model.specs.declared.fault.EventFault.{EventFault as Fault}
use Rattle.ra_model.specs.declared.fault.EndFault.{EndFault}
use Rattle.ra_model.specs.Links.{other, Link, at_number, put_number, amount, readable, read_on}
use Rattle.ra_model.specs.Worlds.{Peer, with_endpoint, World, new_world, peer, with_peer, with_links}
use Rattle.ra_model.specs.Refusals.{if_large, say_refusal, or_fault, fault_if, if_ended, if_unlinked, refusal, at_end, begin_refusal, feed_refusal}
use Rattle.ra_model.specs.Events.{on_endpoint, begins, reads, writes, links_written, taken, cuts, happens, unless, after, run, begun}
use Rattle.ra_base.specs.declared.event.Side.{Side}
use Rattle.ra_base.specs.declared.event.Count.{Count}
use Rattle.ra_base.specs.declared.event.Event.{Event}
use Rattle.ra_base.specs.declared.event.Side.TheVariants.{A, B}
use Rattle.ra_model.specs.declared.fault.EndFault.TheVariants.{IdsSpent, Stale}
use Rattle.ra_base.specs.declared.event.Event.TheVariants.{Link as LinkMade, At, Begin, Finish, Say, Control, Pause, Resume, Leave, Write, Read, Take, Tick, Lose, Cut}
use Rattle.ra_model.proofs.Numbers.{at_number-nil}
use Rattle.ra_model.proofs.Calls.{outgoing_say, outgoing_control, outgoing_pause, outgoing_resume, outgoing_tick, outgoing_lose, outgoing_leave, outgoing_finish}
use Rattle.ra_model.proofs.Kept.{Kept, kept_wrote, kept_say, kept_control, kept_pause, kept_resume, kept_tick, kept_lose, kept_leave, kept_finish}
use Rattle.ra_model.proofs.Sound.{Sound, from, back_to, view_call}
use Rattle.ra_model.proofs.Away.{away_finish, away_say, away_control, away_pause, away_resume, away_leave, away_tick, away_lose}
use Rattle.ra_model.proofs.Takes.{view_take, epoch_taken}
use Rattle.ra_model.proofs.LinkMoves.{epoch_begun, epoch_fed, view_begin, view_feed, view_write, view_linked, view_cut, amount_there}
use Rattle.ra_model.specs.Views.{Agrees, EndpointWrote, HasRead, HasWritten, IsEmptyAway, View, new_peer}

sound_call : (start : ℕ) (s : Side) (w : World) (call : Endpoint → Endpoint) → Sound start w → Kept (peer s w).endpoint (call (peer s w).endpoint) → EndpointWrote (other s) (peer s w).endpoint.epoch (call (peer s w).endpoint) w.links → IsEmptyAway (call (peer s w).endpoint)
    → Sound start (on_endpoint s call w)
sound_call start s w call h kept outgoing away =
    let e : Endpoint = (peer s w).endpoint in
    let o : Peer = peer (other s) w in
    back_to start s w (with_endpoint (call e) (peer s w)) w.links
    (subst (λ (n : ℕ). View start s n o.endpoint.epoch (with_endpoint (call e) (peer s w)) o w.links) (sym kept.epoch)
    (view_call start s e.epoch o.endpoint.epoch (peer s w) o w.links (call e) (from start s w h) kept outgoing away))

or_none : {X : Type 0} → (a b : Option X) → or_fault a b ≡ None → (a ≡ None) × (b ≡ None)
or_none None b h = (refl, h)
or_none (Some x) b h = cc

if_none : {X : Type 0} → (b : Bool) (f : X) → fault_if b f ≡ None → b ≡ false
if_none true f h = cc
if_none false f h = refl

pub end_none : (fault : Option EndFault) → at_end fault ≡ None → fault ≡ None
end_none None h = refl
end_none (Some x) h = cc

-- an endpoint that does not refuse to begin can begin
begins_free : (link : ℕ) (e : Endpoint) → begin_refusal link e ≡ None → can_begin link e ≡ true
begins_free link e h =
    let parts = or_none (if_ended e.phase) (fault_if (leb link e.epoch) (Stale e.epoch)) h in
    and_from _ _ (not_from_false _ (if_none _ _ parts.0)) (lt-ltb e.epoch link (leb-false link e.epoch (if_none _ _ parts.1)))

pub says_free : (body : List ℕ) (e : Endpoint) → say_refusal body e ≡ None → can_say body e ≡ true
says_free body e h =
    let parts = or_none (if_ended e.phase) (or_fault (if_large (length body)) (fault_if (leb last_id (sent e)) IdsSpent)) h in
    let inner = or_none (if_large (length body)) (fault_if (leb last_id (sent e)) IdsSpent) parts.1 in
    let small : length body ≤ body_limit = ltb-false body_limit (length body) (if_none _ _ inner.0) in
    let room : sent e < last_id = leb-false last_id (sent e) (if_none _ _ inner.1) in
    and_from _ _ (not_from_false _ (if_none _ _ parts.0)) (and_from _ _ (le-leb (length body) body_limit small) (lt-ltb (sent e) last_id room))

feeds_free : (link : ℕ) (e : Endpoint) → feed_refusal link e ≡ None → can_feed link e ≡ true
feeds_free link e h =
    let parts = or_none (if_ended e.phase) (or_fault (fault_if (not (eqb link e.epoch)) (Stale e.epoch)) (if_unlinked e.phase)) h in
    let inner = or_none (fault_if (not (eqb link e.epoch)) (Stale e.epoch)) (if_unlinked e.phase) parts.1 in
    and_from _ _ (not-false _ (if_none _ _ inner.1)) (not-false _ (if_none _ _ inner.0))

sound_begins : (start : ℕ) (s : Side) (link : ℕ) (count : Count) (found : Option Link) (w : World) → Sound start w → at_number w.links link ≡ found → can_begin link (peer s w).endpoint ≡ true → Sound start (begins s link count found w)
sound_begins start s link count None w h is can = h
sound_begins start s link count (Some l) w h is can =
    let n : ℕ = amount count (length (readable s l)) in
    let e : Endpoint = (peer s w).endpoint in
    let o : Peer = peer (other s) w in
    let p : Peer = begun link (take n (readable s l)) w.now (peer s w) in
    let links : List Link = put_number w.links link (read_on s n l) in
    back_to start s w p links
    (subst (λ (i : ℕ). View start s i o.endpoint.epoch p o links) (sym (epoch_begun link (take n (readable s l)) w.now e can))
    (view_begin start s e.epoch o.endpoint.epoch (peer s w) o w.links link n link l w.now (from start s w h) (ltb-true e.epoch link (and_parts _ _ can).1) is (amount_there count (length (readable s l))) can))

pub called_over : (s : Side) (w : World) (call : Endpoint → Endpoint) (links : List Link) → on_endpoint s call (with_links links w) ≡ with_peer s (with_endpoint (call (peer s w).endpoint) (peer s w)) (with_links links w)
called_over A w call links = refl
called_over B w call links = refl

sound_reads : (start : ℕ) (s : Side) (link : ℕ) (count : Count) (found : Option Link) (w : World) → Sound start w → at_number w.links link ≡ found → can_feed link (peer s w).endpoint ≡ true → Sound start (reads s link count found w)
sound_reads start s link count None w h is can = h
sound_reads start s link count (Some l) w h is can =
    let n : ℕ = amount count (length (readable s l)) in
    let call : Endpoint → Endpoint = feed link (take n (readable s l)) w.now in
    let links : List Link = put_number w.links link (read_on s n l) in
    let e : Endpoint = (peer s w).endpoint in
    let o : Peer = peer (other s) w in
    let same : link ≡ e.epoch = eqb-true link e.epoch (and_parts _ _ can).1 in
    let here : at_number w.links e.epoch ≡ Some l = subst (λ (i : ℕ). at_number w.links i ≡ Some l) same is in
    let fed : View start s e.epoch o.endpoint.epoch (with_endpoint (call e) (peer s w)) o (put_number w.links e.epoch (read_on s n l)) =
    view_feed start s e.epoch o.endpoint.epoch (peer s w) o w.links n link l w.now (from start s w h) here (amount_there count (length (readable s l))) can in
    subst (λ (x : World). Sound start x) (sym (called_over s w call links))
    (back_to start s w (with_endpoint (call e) (peer s w)) links
    (subst (λ (i : ℕ). View start s i o.endpoint.epoch (with_endpoint (call e) (peer s w)) o links) (sym (epoch_fed link (take n (readable s l)) w.now e))
    (subst (λ (i : ℕ). View start s e.epoch o.endpoint.epoch (with_endpoint (call e) (peer s w)) o (put_number w.links i (read_on s n l))) (sym same) fed)))

sound_writes : (start : ℕ) (s : Side) (count : Count) (w : World) → Sound start w → Sound start (writes s (amount count (length (shown (peer s w).endpoint))) w)
sound_writes start s count w h =
    let e : Endpoint = (peer s w).endpoint in
    let o : Peer = peer (other s) w in
    let n : ℕ = amount count (length (shown e)) in
    let links : List Link = links_written s (take n (shown e)) e.epoch (at_number w.links e.epoch) w.links in
    let kept = kept_wrote n e in
    subst (λ (x : World). Sound start x) (sym (called_over s w (wrote n) links))
    (back_to start s w (with_endpoint (wrote n e) (peer s w)) links
    (subst (λ (i : ℕ). View start s i o.endpoint.epoch (with_endpoint (wrote n e) (peer s w)) o links) (sym kept.epoch)
    (view_write start s e.epoch o.endpoint.epoch (peer s w) o w.links n (from start s w h) (amount_there count (length (shown e))))))

sound_cuts : (start : ℕ) (link : ℕ) (found : Option Link) (w : World) → Sound start w → at_number w.links link ≡ found → Sound start (cuts link found w)
sound_cuts start link None w h is = h
sound_cuts start link (Some l) w h is = view_cut start A w.a.endpoint.epoch w.b.endpoint.epoch w.a w.b w.links link l h is

-- each event that is not refused
sound_happens : (start : ℕ) (event : Event) (w : World) → Sound start w → refusal w event ≡ None → Sound start (happens event w)
unfolding happens refusal
sound_happens start LinkMade w h free = view_linked start A w.a.endpoint.epoch w.b.endpoint.epoch w.a w.b w.links h
sound_happens start (At now) w h free = h
sound_happens start (Begin s link count) w h free = sound_begins start s link count (at_number w.links link) w h refl (begins_free link (peer s w).endpoint (end_none _ (or_none _ _ free).1))
sound_happens start (Finish s) w h free = sound_call start s w (finish w.now) h (kept_finish w.now (peer s w).endpoint) (outgoing_finish (other s) (peer s w).endpoint.epoch (peer s w).endpoint w.links w.now (from start s w h).mine (let v = from start s w h in rw v.base v.out.low)) (away_finish w.now (peer s w).endpoint (from start s w h).away)
sound_happens start (Say s body) w h free = sound_call start s w (say body w.now) h (kept_say body w.now (peer s w).endpoint) (outgoing_say (other s) (peer s w).endpoint.epoch (peer s w).endpoint w.links body w.now (from start s w h).mine) (away_say body w.now (peer s w).endpoint (from start s w h).away)
sound_happens start (Control s body) w h free = sound_call start s w (control body) h (kept_control body (peer s w).endpoint) (outgoing_control (other s) (peer s w).endpoint.epoch (peer s w).endpoint w.links body (from start s w h).mine) (away_control body (peer s w).endpoint (from start s w h).away)
sound_happens start (Pause s) w h free = sound_call start s w ask_pause h (kept_pause (peer s w).endpoint) (outgoing_pause (other s) (peer s w).endpoint.epoch (peer s w).endpoint w.links (from start s w h).mine) (away_pause (peer s w).endpoint (from start s w h).away)
sound_happens start (Resume s) w h free = sound_call start s w ask_resume h (kept_resume (peer s w).endpoint) (outgoing_resume (other s) (peer s w).endpoint.epoch (peer s w).endpoint w.links (from start s w h).mine) (away_resume (peer s w).endpoint (from start s w h).away)
sound_happens start (Leave s) w h free = sound_call start s w leave h (kept_leave (peer s w).endpoint) (outgoing_leave (other s) (peer s w).endpoint.epoch (peer s w).endpoint w.links (from start s w h).mine) (away_leave (peer s w).endpoint (from start s w h).away)
sound_happens start (Write s count) w h free = sound_writes start s count w h
sound_happens start (Read s link count) w h free = sound_reads start s link count (at_number w.links link) w h refl (feeds_free link (peer s w).endpoint (end_none _ (or_none _ _ free).1))
sound_happens start (Take s) w h free =
    back_to start s w (taken w.now (peer s w)) w.links
    (subst (λ (n : ℕ). View start s n (peer (other s) w).endpoint.epoch (taken w.now (peer s w)) (peer (other s) w) w.links) (sym (epoch_taken w.now (peer s w).endpoint))
    (view_take start s (peer s w).endpoint.epoch (peer (other s) w).endpoint.epoch (peer s w) (peer (other s) w) w.links w.now (from start s w h)))
sound_happens start (Tick s) w h free = sound_call start s w (tick w.now) h (kept_tick w.now (peer s w).endpoint) (outgoing_tick (other s) (peer s w).endpoint.epoch (peer s w).endpoint w.links w.now (from start s w h).mine) (away_tick w.now (peer s w).endpoint (from start s w h).away)
sound_happens start (Lose s) w h free = sound_call start s w (lose (peer s w).endpoint.epoch) h (kept_lose (peer s w).endpoint.epoch (peer s w).endpoint) (outgoing_lose (other s) (peer s w).endpoint.epoch (peer s w).endpoint w.links (peer s w).endpoint.epoch (from start s w h).mine) (away_lose (peer s w).endpoint.epoch (peer s w).endpoint (from start s w h).away)
sound_happens start (Cut link) w h free = sound_cuts start link (at_number w.links link) w h refl

sound_unless : (start : ℕ) (fault : Option Fault) (event : Event) (w : World) → Sound start w → refusal w event ≡ fault → Sound start (unless fault (happens event w) w)
sound_unless start None event w h is = sound_happens start event w h is
sound_unless start (Some fault) event w h is = h

pub sound_after : (start : ℕ) (event : Event) (w : World) → Sound start w → Sound start (after event w)
sound_after start event w h = sound_unless start (refusal w event) event w h refl

pub sound_run : (start : ℕ) (events : List Event) (w : World) → Sound start w → Sound start (run events w)
sound_run start [] w h = h
sound_run start (event ∷ events) w h = sound_run start events (after event w) (sound_after start event w h)

outgoing_new : (base : ℕ) → base ≤ last_id → (to : Side) → HasWritten to base [] base 0 false [] []
outgoing_new base fits to = record {
  count = omega arith;
  ids = omega arith;
  there = omega arith;
  stored = tt;
  texts = λ n l at. absurd (at_number-nil n l at);
  front = λ l at kept. absurd (at_number-nil 0 l at);
  whole = λ l at kept up. absurd (at_number-nil 0 l at);
  fresh = λ n l at later. absurd (at_number-nil n l at);
}

incoming_new : (to : Side) → HasRead to 0 false [] [] []
incoming_new to = record {
  inside = λ n l at. absurd (at_number-nil n l at);
  fresh = λ n l at later. absurd (at_number-nil n l at);
  frames = tt;
  there = λ up. absurd (false≢true up);
  carry = λ l at up. absurd (false≢true up);
}

agrees_new : (base : ℕ) → Agrees base [] base [] base
agrees_new base = record { prefix = ([], refl); count = omega arith; acked = omega arith; low = omega arith }

away_new : (base now : ℕ) (keeps : Bool) → IsEmptyAway (new_endpoint base now keeps)
away_new base now keeps = record { unread = λ _. refl; unwritten = λ _. refl }

-- two new endpoints without a link
pub view_new : (base now later : ℕ) (keeps keeps' : Bool) (s : Side) → base ≤ last_id → View base s 0 0 (new_peer base now keeps) (new_peer base later keeps') []
view_new base now later keeps keeps' s fits = record {
  base = refl;
  their_base = refl;
  mine = outgoing_new base fits (other s);
  reads = incoming_new s;
  theirs = outgoing_new base fits s;
  their_reads = incoming_new (other s);
  out = agrees_new base;
  back = agrees_new base;
  away = away_new base now keeps;
  their_away = away_new base later keeps';
}

pub sound_new : (base : ℕ) → base ≤ last_id → Sound base (new_world base)
sound_new base fits = view_new base 0 0 true false A fits
