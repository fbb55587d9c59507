-- What is acknowledged is the greatest ack that came.
use Rattle.std.proofs.Common.{◌≡◌, ℕ, max, Option, Some, None, List, [], ◌∷◌, ◌++◌, length, take, refl, ap, sym, ◌∙◌, subst}
use Rattle.ra_model.specs.declared.frame.Frame.{Frame}
use Rattle.ra_model.specs.FrameKinds.{frame_kind}
use Rattle.ra_model.specs.Endpoints.{Endpoint, shown}
use Rattle.ra_model.specs.Calls.{moment, say, control, ask_pause, ask_resume, finish, feed, tick, lose, leave, wrote}
use Rattle.ra_model.specs.Taking.{next_frame, passed, took, take_frame}
use Rattle.ra_model.specs.declared.fault.EventFault.{EventFault}
use Rattle.ra_model.specs.Links.{Link, at_number, put_number, amount, readable, read_on}
use Rattle.ra_model.specs.Worlds.{Peer, World, with_endpoint, new_world, peer, with_peer, with_links}
use Rattle.ra_model.specs.Refusals.{refusal}
use Rattle.ra_model.specs.Events.{on_endpoint, begun, begins, reads, writes, links_written, taken, cuts, happens, unless, after, run}
use Rattle.ra_base.specs.declared.event.Side.{Side}
use Rattle.ra_base.specs.declared.event.Side.TheVariants.{A, B}
use Rattle.ra_base.specs.declared.event.Count.{Count}
use Rattle.ra_base.specs.declared.event.Event.{Event}
use Rattle.ra_base.specs.declared.event.Event.TheVariants.{Link as LinkMade, At, Begin, Finish, Say, Control, Pause, Resume, Leave, Write, Read, Take, Tick, Lose, Cut}
use Rattle.ra_model.specs.Acks.{counted_ack, acks_of, unless_acks, run_acks, greatest}
use Rattle.ra_model.proofs.Kept.{Kept, kept_say, kept_control, kept_pause, kept_resume, kept_tick, kept_lose, kept_leave, kept_finish, kept_wrote}
use Rattle.ra_model.proofs.Takes.{acknowledged_came}
use Rattle.ra_model.proofs.LinkMoves.{acknowledged_begun, acknowledged_fed}
use Rattle.ra_model.proofs.Runs.{called_over}

-- what a side counts as acknowledged
abbrev acknowledged_at : Side → World → ℕ
acknowledged_at s w = (peer s w).endpoint.acknowledged

-- nothing is acknowledged at either side
abbrev Unmoved : World → World → Type 0
Unmoved w v = (s : Side) → acknowledged_at s v ≡ acknowledged_at s w

one_peer : (t : Side) (w : World) (p : Peer) (links : List Link) → p.endpoint.acknowledged ≡ acknowledged_at t w → Unmoved w (with_peer t p (with_links links w))
one_peer A w p links same A = same
one_peer A w p links same B = refl
one_peer B w p links same A = refl
one_peer B w p links same B = same

by_call : (t : Side) (w : World) (call : Endpoint → Endpoint) → Kept (peer t w).endpoint (call (peer t w).endpoint) → Unmoved w (on_endpoint t call w)
by_call t w call k = one_peer t w (with_endpoint (call (peer t w).endpoint) (peer t w)) w.links k.acknowledged

by_begins : (t : Side) (link : ℕ) (count : Count) (found : Option Link) (w : World) → Unmoved w (begins t link count found w)
by_begins t link count None w s = refl
by_begins t link count (Some l) w s =
    let n : ℕ = amount count (length (readable t l)) in
    one_peer t w (begun link (take n (readable t l)) w.now (peer t w)) (put_number w.links link (read_on t n l)) (acknowledged_begun link (take n (readable t l)) w.now (peer t w).endpoint) s

by_reads : (t : Side) (link : ℕ) (count : Count) (found : Option Link) (w : World) → Unmoved w (reads t link count found w)
by_reads t link count None w s = refl
by_reads t link count (Some l) w s =
    let n : ℕ = amount count (length (readable t l)) in
    let call : Endpoint → Endpoint = feed link (take n (readable t l)) w.now in
    let links : List Link = put_number w.links link (read_on t n l) in
    subst (λ (v : World). acknowledged_at s v ≡ acknowledged_at s w) (sym (called_over t w call links))
    (one_peer t w (with_endpoint (call (peer t w).endpoint) (peer t w)) links (acknowledged_fed link (take n (readable t l)) w.now (peer t w).endpoint) s)

by_writes : (t : Side) (n : ℕ) (w : World) → Unmoved w (writes t n w)
by_writes t n w s =
    let e : Endpoint = (peer t w).endpoint in
    let links : List Link = links_written t (take n (shown e)) e.epoch (at_number w.links e.epoch) w.links in
    let k = kept_wrote n e in
    subst (λ (v : World). acknowledged_at s v ≡ acknowledged_at s w) (sym (called_over t w (wrote n) links)) (one_peer t w (with_endpoint (wrote n e) (peer t w)) links k.acknowledged s)

by_cuts : (link : ℕ) (found : Option Link) (w : World) → Unmoved w (cuts link found w)
by_cuts link None w s = refl
by_cuts link (Some l) w A = refl
by_cuts link (Some l) w B = refl

-- a frame is taken
took_ack : (next : Option (Frame × List ℕ)) (now : ℕ) (e : Endpoint) → (took next now e).acknowledged ≡ greatest e.acknowledged (counted_ack e next)
took_ack None now e = refl
took_ack (Some next) now e = acknowledged_came (frame_kind next.0.kind) next.0 now (passed next.0 next.1 now e)

take_ack : (now : ℕ) (e : Endpoint) → (take_frame now e).acknowledged ≡ greatest e.acknowledged (counted_ack e (next_frame e))
unfolding take_frame
take_ack now e = took_ack (next_frame e) (moment now e) e

by_take : (t : Side) (w : World) (s : Side) → acknowledged_at s (with_peer t (taken w.now (peer t w)) w) ≡ greatest (acknowledged_at s w) (acks_of s w (Take t))
by_take A w A = take_ack w.now w.a.endpoint
by_take A w B = refl
by_take B w A = refl
by_take B w B = take_ack w.now w.b.endpoint

acks_happen : (event : Event) (w : World) (s : Side) → acknowledged_at s (happens event w) ≡ greatest (acknowledged_at s w) (acks_of s w event)
unfolding happens
acks_happen LinkMade w A = refl
acks_happen LinkMade w B = refl
acks_happen (At now) w A = refl
acks_happen (At now) w B = refl
acks_happen (Begin t link count) w s = by_begins t link count (at_number w.links link) w s
acks_happen (Finish t) w s = by_call t w (finish w.now) (kept_finish w.now (peer t w).endpoint) s
acks_happen (Say t body) w s = by_call t w (say body w.now) (kept_say body w.now (peer t w).endpoint) s
acks_happen (Control t body) w s = by_call t w (control body) (kept_control body (peer t w).endpoint) s
acks_happen (Pause t) w s = by_call t w ask_pause (kept_pause (peer t w).endpoint) s
acks_happen (Resume t) w s = by_call t w ask_resume (kept_resume (peer t w).endpoint) s
acks_happen (Leave t) w s = by_call t w leave (kept_leave (peer t w).endpoint) s
acks_happen (Write t count) w s = by_writes t (amount count (length (shown (peer t w).endpoint))) w s
acks_happen (Read t link count) w s = by_reads t link count (at_number w.links link) w s
acks_happen (Take t) w s = by_take t w s
acks_happen (Tick t) w s = by_call t w (tick w.now) (kept_tick w.now (peer t w).endpoint) s
acks_happen (Lose t) w s = by_call t w (lose (peer t w).endpoint.epoch) (kept_lose (peer t w).endpoint.epoch (peer t w).endpoint) s
acks_happen (Cut link) w s = by_cuts link (at_number w.links link) w s

acks_unless : (fault : Option EventFault) (event : Event) (w : World) (s : Side) → acknowledged_at s (unless fault (happens event w) w) ≡ greatest (acknowledged_at s w) (unless_acks fault (acks_of s w event))
acks_unless None event w s = acks_happen event w s
acks_unless (Some fault) event w s = refl

greatest_append : (xs ys : List ℕ) (n : ℕ) → greatest n (xs ++ ys) ≡ greatest (greatest n xs) ys
greatest_append [] ys n = refl
greatest_append (x ∷ xs) ys n = greatest_append xs ys (max n x)

acks_run : (events : List Event) (w : World) (s : Side) → acknowledged_at s (run events w) ≡ greatest (acknowledged_at s w) (run_acks s events w)
acks_run [] w s = refl
acks_run (event ∷ events) w s =
    acks_run events (after event w) s
    ∙ ap (λ (n : ℕ). greatest n (run_acks s events (after event w))) (acks_unless (refusal w event) event w s)
    ∙ sym (greatest_append (unless_acks (refusal w event) (acks_of s w event)) (run_acks s events (after event w)) (acknowledged_at s w))

new_acknowledged : (base : ℕ) (s : Side) → acknowledged_at s (new_world base) ≡ base
new_acknowledged base A = refl
new_acknowledged base B = refl

-- in every run
pub greatest_ack : (base : ℕ) (events : List Event) (s : Side) → (peer s (run events (new_world base))).endpoint.acknowledged ≡ greatest base (run_acks s events (new_world base))
greatest_ack base events s = acks_run events (new_world base) s ∙ ap (λ (n : ℕ). greatest n (run_acks s events (new_world base))) (new_acknowledged base s)
