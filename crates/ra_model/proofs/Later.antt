-- Nothing that was said, heard or acknowledged is taken back.
use Rattle.std.proofs.Common.{◌≡◌, ℕ, suc, ◌+◌, ◌≤◌, max, min, not, ◌&&◌, eqb, ltb, Option, Some, None, List, [], ◌∷◌, ◌++◌, length, take, refl, ap, sym, ◌∙◌, subst, arith, append_assoc}
use Rattle.std.specs.Prelude.{option_map}
use Rattle.std.proofs.lemmas.Bool.{cond_both}
use Rattle.std.proofs.lemmas.List.{append-nil, length-append, length-map}
use Rattle.ra_model.specs.FrameKinds.{FrameKind, frame_kind}
use Rattle.ra_model.specs.declared.frame.Frame.{Frame}
use Rattle.ra_model.specs.FrameKinds.FrameKind.{Regular, Control, Disconnect, ReplayRequest, Pause, Resume, Other}
use Rattle.ra_model.specs.Endpoints.{Endpoint, sent, shown, owed}
use Rattle.ra_model.specs.Calls.{say, control, ask_pause, ask_resume, begin, finish, feed, tick, lose, leave, wrote, rewritten, moment}
use Rattle.ra_model.specs.Taking.{next_frame, passed, took, on_frame, delivery_of, take_frame, delivery}
use Rattle.ra_model.specs.declared.session.Up.{Up as Delivery}
use Rattle.ra_model.specs.declared.session.Up.TheVariants.{Message, Control as ControlBody, Quiet, Ended as Closed}
use Rattle.ra_model.specs.Timing.{asked_lately}
use Rattle.ra_model.specs.declared.fault.EventFault.{EventFault as Fault}
use Rattle.ra_model.specs.Links.{Link, at_number, put_number, amount, readable, read_on}
use Rattle.ra_model.specs.Worlds.{Peer, with_endpoint, World, new_world, peer, with_peer, with_links}
use Rattle.ra_model.specs.Refusals.{refusal}
use Rattle.ra_model.specs.Events.{on_endpoint, begins, reads, writes, links_written, heard_with, applied_with, taken, cuts, happens, unless, after, run, begun}
use Rattle.ra_base.specs.declared.event.Side.{Side}
use Rattle.ra_base.specs.declared.event.Count.{Count}
use Rattle.ra_base.specs.declared.event.Event.{Event}
use Rattle.ra_base.specs.declared.event.Side.TheVariants.{A, B}
use Rattle.ra_base.specs.declared.event.Event.TheVariants.{Link as LinkMade, At, Begin, Finish, Say, Control, Pause, Resume, Leave, Write, Read, Take, Tick, Lose, Cut}
use Rattle.ra_model.specs.Pairs.{body_of, messages, IsPrefixOf, IsLater}
use Rattle.ra_model.proofs.Kept.{Kept, kept_say, kept_control, kept_pause, kept_resume, kept_tick, kept_lose, kept_leave, kept_finish, kept_wrote}
use Rattle.ra_model.proofs.Takes.{messages_came, acknowledged_came, base_came}
use Rattle.ra_model.proofs.LinkMoves.{messages_begun, acknowledged_begun, base_begun, received_begun, messages_fed, acknowledged_fed, base_fed, received_fed}
use Rattle.ra_model.proofs.Runs.{called_over}

prefix_refl : {X : Type 0} → (xs : List X) → IsPrefixOf xs xs
prefix_refl xs = ([], append-nil xs)

prefix_trans : {X : Type 0} → (xs ys zs : List X) → IsPrefixOf xs ys → IsPrefixOf ys zs → IsPrefixOf xs zs
prefix_trans {X} xs ys zs a b = (a.0 ++ b.0, sym (append_assoc xs a.0 b.0) ∙ ap (λ (t : List X). t ++ b.0) a.1 ∙ b.1)

-- by its parts
later_from : (p q : Peer) → q.endpoint.base ≡ p.endpoint.base → IsPrefixOf (messages p.endpoint) (messages q.endpoint) → IsPrefixOf p.heard q.heard → p.endpoint.received ≤ q.endpoint.received → p.endpoint.acknowledged ≤ q.endpoint.acknowledged → IsLater p q
later_from p q base said heard received acknowledged =
    let more : length (messages p.endpoint ++ said.0) ≡ length (messages p.endpoint) + length said.0 = length-append (messages p.endpoint) said.0 in
    let whole : length (messages p.endpoint ++ said.0) ≡ length (messages q.endpoint) = ap (λ (t : List (List ℕ)). length t) said.1 in
    record {
      said = said;
      heard = heard;
      received = received;
      acknowledged = acknowledged;
      sent = omega (arith, base, length-map p.endpoint.said body_of, length-map q.endpoint.said body_of);
    }

pub later_refl : (p : Peer) → IsLater p p
later_refl p = later_from p p refl (prefix_refl (messages p.endpoint)) (prefix_refl p.heard) (omega arith) (omega arith)

pub later_trans : (p q r : Peer) → IsLater p q → IsLater q r → IsLater p r
later_trans p q r a b =
    record {
      said = prefix_trans _ _ _ a.said b.said;
      heard = prefix_trans _ _ _ a.heard b.heard;
      sent = omega (arith, a.sent, b.sent);
      received = omega (arith, a.received, b.received);
      acknowledged = omega (arith, a.acknowledged, b.acknowledged);
    }

pub later_call : (p : Peer) (e : Endpoint) → Kept p.endpoint e → IsLater p (with_endpoint e p)
later_call p e k =
    let received : e.received ≡ p.endpoint.received = k.received in
    let acknowledged : e.acknowledged ≡ p.endpoint.acknowledged = k.acknowledged in
    later_from p (with_endpoint e p) k.base (k.more, sym k.said) (prefix_refl p.heard) (omega arith) (omega arith)

received_came : (kind : FrameKind) (f : Frame) (now : ℕ) (e : Endpoint) → e.received ≤ (on_frame kind f now e).received
unfolding owed rewritten
received_came Regular f now e =
    cond_both (eqb f.id (suc e.received)) _ _ (λ (x : Endpoint). e.received ≤ x.received) (λ yes. omega arith)
    (λ no. cond_both (ltb (suc e.received) f.id && not (asked_lately now e.timing)) _ _ (λ (x : Endpoint). e.received ≤ x.received) (λ yes. omega arith) (λ _. omega arith))
received_came Control f now e = omega arith
received_came Disconnect f now e = omega arith
received_came ReplayRequest f now e = omega arith
received_came Pause f now e = omega arith
received_came Resume f now e = omega arith
received_came Other f now e = omega arith

heard_more : (delivery : Option Delivery) (heard : List (List ℕ)) → IsPrefixOf heard (heard_with delivery heard)
heard_more None heard = prefix_refl heard
heard_more (Some (Message id body)) heard = (body ∷ [], refl)
heard_more (Some (ControlBody body)) heard = prefix_refl heard
heard_more (Some Quiet) heard = prefix_refl heard
heard_more (Some Closed) heard = prefix_refl heard

later_took : (p : Peer) (now : ℕ) (next : Option (Frame × List ℕ))
    → IsLater p (record { endpoint = took next now p.endpoint; heard = heard_with (option_map (λ (x : Frame × List ℕ). delivery_of (frame_kind x.0.kind) x.0 p.endpoint) next) p.heard; applied = applied_with next p.applied })
later_took p now None = later_refl p
later_took p now (Some next) =
    let e : Endpoint = passed next.0 next.1 now p.endpoint in
    let kind : FrameKind = frame_kind next.0.kind in
    let acknowledged : (on_frame kind next.0 now e).acknowledged ≡ max p.endpoint.acknowledged (min next.0.ack (sent p.endpoint)) = acknowledged_came kind next.0 now e in
    later_from p _ (base_came kind next.0 now e) ([], append-nil (messages p.endpoint) ∙ sym (messages_came kind next.0 now e)) (heard_more (Some (delivery_of kind next.0 p.endpoint)) p.heard) (received_came kind next.0 now e) (omega arith)

pub later_take : (p : Peer) (now : ℕ) → IsLater p (taken now p)
unfolding take_frame delivery
later_take p now = later_took p (moment now p.endpoint) (next_frame p.endpoint)

pub later_begun : (p : Peer) (link : ℕ) (chunk : List ℕ) (now : ℕ) → IsLater p (begun link chunk now p)
later_begun p link chunk now =
    let received : (begin link chunk now p.endpoint).received ≡ p.endpoint.received = received_begun link chunk now p.endpoint in
    let acknowledged : (begin link chunk now p.endpoint).acknowledged ≡ p.endpoint.acknowledged = acknowledged_begun link chunk now p.endpoint in
    later_from p (begun link chunk now p) (base_begun link chunk now p.endpoint) ([], append-nil (messages p.endpoint) ∙ sym (messages_begun link chunk now p.endpoint)) (prefix_refl p.heard) (omega arith) (omega arith)

pub later_fed : (p : Peer) (link : ℕ) (piece : List ℕ) (now : ℕ) → IsLater p (with_endpoint (feed link piece now p.endpoint) p)
later_fed p link piece now =
    let received : (feed link piece now p.endpoint).received ≡ p.endpoint.received = received_fed link piece now p.endpoint in
    let acknowledged : (feed link piece now p.endpoint).acknowledged ≡ p.endpoint.acknowledged = acknowledged_fed link piece now p.endpoint in
    later_from p (with_endpoint (feed link piece now p.endpoint) p) (base_fed link piece now p.endpoint) ([], append-nil (messages p.endpoint) ∙ sym (messages_fed link piece now p.endpoint)) (prefix_refl p.heard) (omega arith) (omega arith)

-- both ends of a world
record Both (w v : World) : Type 0 where
  a : IsLater w.a v.a
  b : IsLater w.b v.b

both_refl : (w : World) → Both w w
both_refl w = record { a = later_refl w.a; b = later_refl w.b }

both_party : (s : Side) (p : Peer) (links : List Link) (w : World) → IsLater (peer s w) p → Both w (with_peer s p (with_links links w))
both_party A p links w h = record { a = h; b = later_refl w.b }
both_party B p links w h = record { a = later_refl w.a; b = h }

both_call : (s : Side) (w : World) (call : Endpoint → Endpoint) → Kept (peer s w).endpoint (call (peer s w).endpoint) → Both w (on_endpoint s call w)
both_call s w call k = both_party s (with_endpoint (call (peer s w).endpoint) (peer s w)) w.links w (later_call (peer s w) (call (peer s w).endpoint) k)

both_begins : (s : Side) (link : ℕ) (count : Count) (found : Option Link) (w : World) → Both w (begins s link count found w)
both_begins s link count None w = both_refl w
both_begins s link count (Some l) w =
    let n : ℕ = amount count (length (readable s l)) in
    both_party s (begun link (take n (readable s l)) w.now (peer s w)) (put_number w.links link (read_on s n l)) w (later_begun (peer s w) link (take n (readable s l)) w.now)

both_reads : (s : Side) (link : ℕ) (count : Count) (found : Option Link) (w : World) → Both w (reads s link count found w)
both_reads s link count None w = both_refl w
both_reads s link count (Some l) w =
    let n : ℕ = amount count (length (readable s l)) in
    let call : Endpoint → Endpoint = feed link (take n (readable s l)) w.now in
    let links : List Link = put_number w.links link (read_on s n l) in
    subst (λ (x : World). Both w x) (sym (called_over s w call links)) (both_party s (with_endpoint (call (peer s w).endpoint) (peer s w)) links w (later_fed (peer s w) link (take n (readable s l)) w.now))

both_writes : (s : Side) (n : ℕ) (w : World) → Both w (writes s n w)
both_writes s n w =
    let e : Endpoint = (peer s w).endpoint in
    let links : List Link = links_written s (take n (shown e)) e.epoch (at_number w.links e.epoch) w.links in
    subst (λ (x : World). Both w x) (sym (called_over s w (wrote n) links)) (both_party s (with_endpoint (wrote n e) (peer s w)) links w (later_call (peer s w) (wrote n e) (kept_wrote n e)))

both_cuts : (link : ℕ) (found : Option Link) (w : World) → Both w (cuts link found w)
both_cuts link None w = both_refl w
both_cuts link (Some l) w = record { a = later_refl w.a; b = later_refl w.b }

both_happens : (event : Event) (w : World) → Both w (happens event w)
unfolding happens
both_happens LinkMade w = record { a = later_refl w.a; b = later_refl w.b }
both_happens (At now) w = record { a = later_refl w.a; b = later_refl w.b }
both_happens (Begin s link count) w = both_begins s link count (at_number w.links link) w
both_happens (Finish s) w = both_call s w (finish w.now) (kept_finish w.now (peer s w).endpoint)
both_happens (Say s body) w = both_call s w (say body w.now) (kept_say body w.now (peer s w).endpoint)
both_happens (Control s body) w = both_call s w (control body) (kept_control body (peer s w).endpoint)
both_happens (Pause s) w = both_call s w ask_pause (kept_pause (peer s w).endpoint)
both_happens (Resume s) w = both_call s w ask_resume (kept_resume (peer s w).endpoint)
both_happens (Leave s) w = both_call s w leave (kept_leave (peer s w).endpoint)
both_happens (Write s count) w = both_writes s (amount count (length (shown (peer s w).endpoint))) w
both_happens (Read s link count) w = both_reads s link count (at_number w.links link) w
both_happens (Take s) w = both_party s (taken w.now (peer s w)) w.links w (later_take (peer s w) w.now)
both_happens (Tick s) w = both_call s w (tick w.now) (kept_tick w.now (peer s w).endpoint)
both_happens (Lose s) w = both_call s w (lose (peer s w).endpoint.epoch) (kept_lose (peer s w).endpoint.epoch (peer s w).endpoint)
both_happens (Cut link) w = both_cuts link (at_number w.links link) w

both_unless : (fault : Option Fault) (w v : World) → Both w v → Both w (unless fault v w)
both_unless None w v h = h
both_unless (Some fault) w v h = both_refl w

both_run : (events : List Event) (w : World) → Both w (run events w)
both_run [] w = both_refl w
both_run (event ∷ events) w =
    let one : Both w (after event w) = both_unless (refusal w event) w (happens event w) (both_happens event w) in
    let rest : Both (after event w) (run events (after event w)) = both_run events (after event w) in
    record { a = later_trans _ _ _ one.a rest.a; b = later_trans _ _ _ one.b rest.b }

run_append : (events more : List Event) (w : World) → run (events ++ more) w ≡ run more (run events w)
run_append [] more w = refl
run_append (event ∷ events) more w = run_append events more (after event w)

at_side : (s : Side) (w v : World) → Both w v → IsLater (peer s w) (peer s v)
at_side A w v h = h.a
at_side B w v h = h.b

-- whatever happens next
pub later : (base : ℕ) (events more : List Event) (s : Side) → IsLater (peer s (run events (new_world base))) (peer s (run (events ++ more) (new_world base)))
later base events more s =
    let w : World = new_world base in
    subst (λ (v : World). IsLater (peer s (run events w)) (peer s v)) (sym (run_append events more w)) (at_side s (run events w) (run more (run events w)) (both_run more (run events w)))
