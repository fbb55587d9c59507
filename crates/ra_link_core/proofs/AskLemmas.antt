-- A client that asks for a session, and how its session begins.
use Rattle.std.proofs.Common.{◌≡◌, ℕ, ◌<◌, true, Option, Some, None, Ok, Err, List, [], ◌++◌, inl, inr, refl, sym, ap, subst, ◌∙◌, append_assoc, append-nil, arith, rules}
use Rattle.std.specs.Prelude.{⊤, ◌⊎◌, ◌==◌, ◌&&◌}
use Rattle.ra_base.specs.declared.handshake.Reason.{Reason}
use Rattle.ra_base.specs.declared.handshake.Request.{Request}
use Rattle.ra_base.specs.declared.kind.Kind.{Kind}
use Rattle.ra_base.specs.declared.key.Seat.{Seat}
use Rattle.ra_opening.specs.Verdicts.{refusal_bytes, acceptance_bytes}
use Rattle.ra_registry.specs.Admission.{admission_refusal, seat_for, key_of}
use Rattle.ra_registry.proofs.SameKeys.{same_key_itself}
use Rattle.ra_session.specs.SessionCalls.{attach}
use Rattle.ra_session.specs.SessionRefusals.{Refusal, ended, stale, no_link, too_long, bad_ipc, ids_spent, bad_message, attach_refusal}
use Rattle.ra_session.specs.Sessions.{Session}
use Rattle.ra_session.specs.declared.values.SessionFault.{SessionFault}
use Rattle.ra_session.specs.declared.values.SessionFault.TheVariants as faults
use Rattle.ra_hub.specs.HubCalls.{Admits, Attaches}
use Rattle.ra_hub.specs.HubSeats.{Gives, one_if, same_seat}
use Rattle.ra_hub.specs.Hubs.{Hub, at_key, admitted, refused}
use Rattle.ra_hub.specs.Jobs.{SeenJob}
use Rattle.ra_hub.specs.declared.fault.HubFault.{HubFault}
use Rattle.ra_hub.specs.declared.fault.HubFault.TheVariants as hub_faults
use Rattle.ra_link_core.specs.HubEvents.{event_done, event_jobs, on_session, judged_by, seat_judged_by, seat_by}
use Rattle.ra_link_core.specs.HubEvents.HubEvent.{Admit, Attach}
use Rattle.ra_link_core.specs.LinkRuns.{Serving, request_refused, refused_by, writes, does, ends_by, served, turns_for, attached_by, attached_in, attached, welcomed, asked_by, asked}
use Rattle.ra_link_core.specs.Makes.{Base, Happens, Grows, IsGoing, IsEnded, IsUnkept, IsShort, Makes, RefusesRequest, outcome_of, over_by, session_end, hub_end}
use Rattle.ra_link_core.specs.declared.ends.CoreEnd.TheVariants as ends
use Rattle.ra_link_core.specs.declared.turns.Step.{Step}
use Rattle.ra_link_core.proofs.GrowLemmas.{grows_trans, grows_writes, happens_does, grows_attached, grows_asked}
use Rattle.ra_link_core.proofs.TurnLemmas.{stays_refused, short_at}

-- ---- the session begins

attached_is : (seat : Seat) (chunk : List ℕ) (now : ℕ) (v : Serving) (session : Session) → v.hub.session seat.key ≡ Some session
    → attached seat chunk now v ≡ attached_by (attach_refusal seat.epoch session) seat chunk now v
unfolding attached
attached_is seat chunk now v session is = ap (λ (o : Option Session). attached_in o seat chunk now v) is

attached_refused : (seat : Seat) (chunk : List ℕ) (now : ℕ) (v : Serving) (session : Session) (refusal : Refusal) → v.hub.session seat.key ≡ Some session
    → attach_refusal seat.epoch session ≡ Some refusal → attached seat chunk now v ≡ ends_by (refused_by refusal) v
attached_refused seat chunk now v session refusal is why =
    attached_is seat chunk now v session is ∙ ap (λ (o : Option Refusal). attached_by o seat chunk now v) why

attach_done : (seat : Seat) (chunk : List ℕ) (now : ℕ) (h : Hub) (session : Session) → h.session seat.key ≡ Some session
    → event_done (Attach seat chunk now) h ≡ at_key seat.key (attach seat.epoch chunk now session) h
unfolding event_done
attach_done seat chunk now h session is = ap (λ (o : Option Session). on_session o (λ s. at_key seat.key (attach seat.epoch chunk now s) h) h) is

no_jobs : (seat : Seat) (chunk : List ℕ) (now : ℕ) (h : Hub) → event_jobs (Attach seat chunk now) h ≡ []
unfolding event_jobs
no_jobs seat chunk now h = refl

pub attach_going : (seat : Seat) (chunk : List ℕ) (now : ℕ) (old new : Hub → Type 0) (jobs : Option (List SeenJob)) (base : Base) (out : List ℕ) (v : Serving)
    → ((h : Hub) → old h → Attaches {X = ⊤} h seat chunk now (Ok tt) new) → IsGoing (Some seat) old jobs base out v
    → IsGoing (Some seat) new jobs base out (does (Attach seat chunk now) v)
attach_going seat chunk now old new jobs base out v told going =
    let x = told v.hub going.tells.hub_stands in
    record {
      tells = record {
        hub_stands = subst (λ (h : Hub). new h) (sym (attach_done seat chunk now v.hub x.0 x.1)) x.2.2;
        jobs_are =
            going.tells.jobs_are ∙ ap (λ (l : List SeenJob). Some l) (sym (append-nil v.jobs))
            ∙ ap (λ (l : List SeenJob). Some (v.jobs ++ l)) (sym (no_jobs seat chunk now v.hub));
        out_is = going.tells.out_is;
        draws_are = going.tells.draws_are;
      };
      seat_is = going.seat_is;
      end_is = going.end_is;
    }

pub attach_serves : (seat : Seat) (chunk : List ℕ) (now : ℕ) (old new : Hub → Type 0) (jobs : Option (List SeenJob)) (base : Base) (out : List ℕ) (v : Serving)
    → ((h : Hub) → old h → Attaches {X = ⊤} h seat chunk now (Ok tt) new) → IsGoing (Some seat) old jobs base out v
    → attached seat chunk now v ≡ served (turns_for chunk) seat [] now (does (Attach seat chunk now) v)
attach_serves seat chunk now old new jobs base out v told going =
    let x = told v.hub going.tells.hub_stands in
    attached_is seat chunk now v x.0 x.1 ∙ ap (λ (o : Option Refusal). attached_by o seat chunk now v) x.2.0

short_attached : (seat : Seat) (chunk : List ℕ) (now : ℕ) (old new : Hub → Type 0) (jobs : Option (List SeenJob)) (base : Base) (out : List ℕ) (s v : Serving)
    → new v.hub → IsGoing (Some seat) old jobs base out v → Happens s v → IsShort (Some seat) new jobs base out s (attached seat chunk now v)
short_attached seat chunk now old new jobs base out s v stands going came =
    let t = going.tells in
    record {
      part = v;
      tells = record { hub_stands = stands; jobs_are = t.jobs_are; out_is = t.out_is; draws_are = t.draws_are };
      seat_is = going.seat_is;
      came = came;
      comes = grows_attached seat chunk now v;
    }

by_session : (fault : SessionFault) (seat : Seat) (chunk : List ℕ) (now : ℕ) (old new : Hub → Type 0) (jobs : Option (List SeenJob)) (base : Base) (out : List ℕ) (s v : Serving)
    → Attaches {X = ⊤} v.hub seat chunk now (Err (hub_faults.Session fault)) new → IsGoing (Some seat) old jobs base out v → Happens s v
    → Makes (outcome_of (Some (session_end fault))) (Some seat) new jobs base out s (attached seat chunk now v)
by_session (faults.Ended cause) seat chunk now old new jobs base out s v x going came =
    stays_refused (ended cause) seat new jobs jobs base out v (attached seat chunk now v) old (attached_refused seat chunk now v x.0 (ended cause) x.1 x.2.0) x.2.1 refl going
by_session (faults.Stale current) seat chunk now old new jobs base out s v x going came =
    stays_refused (stale current) seat new jobs jobs base out v (attached seat chunk now v) old (attached_refused seat chunk now v x.0 (stale current) x.1 x.2.0) x.2.1 refl going
by_session faults.NoLink seat chunk now old new jobs base out s v x going came =
    stays_refused no_link seat new jobs jobs base out v (attached seat chunk now v) old (attached_refused seat chunk now v x.0 no_link x.1 x.2.0) x.2.1 refl going
by_session (faults.TooLong m) seat chunk now old new jobs base out s v x going came =
    stays_refused (too_long m) seat new jobs jobs base out v (attached seat chunk now v) old (attached_refused seat chunk now v x.0 (too_long m) x.1 x.2.0) x.2.1 refl going
by_session (faults.BadIpc fault message) seat chunk now old new jobs base out s v x going came =
    stays_refused (bad_ipc (bad_message fault) message) seat new jobs jobs base out v (attached seat chunk now v) old (attached_refused seat chunk now v x.0 (bad_ipc (bad_message fault) message) x.1 x.2.0) x.2.1 refl going
by_session (faults.TooLarge len) seat chunk now old new jobs base out s v x going came = short_attached seat chunk now old new jobs base out s v x.2.1 going came
by_session faults.IdsSpent seat chunk now old new jobs base out s v x going came =
    stays_refused ids_spent seat new jobs jobs base out v (attached seat chunk now v) old (attached_refused seat chunk now v x.0 ids_spent x.1 x.2.0) x.2.1 refl going
by_session (faults.NoSuchCall id) seat chunk now old new jobs base out s v x going came = short_attached seat chunk now old new jobs base out s v x.2.1 going came
by_session faults.WrongKind seat chunk now old new jobs base out s v x going came = short_attached seat chunk now old new jobs base out s v x.2.1 going came
by_session faults.NoMemory seat chunk now old new jobs base out s v x going came = short_attached seat chunk now old new jobs base out s v x.2.1 going came

by_hub : (fault : HubFault) (seat : Seat) (chunk : List ℕ) (now : ℕ) (old new : Hub → Type 0) (jobs : Option (List SeenJob)) (base : Base) (out : List ℕ) (s v : Serving)
    → Attaches {X = ⊤} v.hub seat chunk now (Err fault) new → IsGoing (Some seat) old jobs base out v → Happens s v
    → Makes (outcome_of (Some (hub_end fault))) (Some seat) new jobs base out s (attached seat chunk now v)
by_hub (hub_faults.Refused reason) seat chunk now old new jobs base out s v x going came = absurd x.2
by_hub hub_faults.NoSession seat chunk now old new jobs base out s v x going came = absurd x.2
by_hub (hub_faults.Session fault) seat chunk now old new jobs base out s v x going came = by_session fault seat chunk now old new jobs base out s v x going came
by_hub hub_faults.KeepFault seat chunk now old new jobs base out s v x going came = absurd x.2
by_hub hub_faults.NoMemory seat chunk now old new jobs base out s v x going came = short_attached seat chunk now old new jobs base out s v x.2 going came

pub attach_refuses : (fault : HubFault) (seat : Seat) (chunk : List ℕ) (now : ℕ) (old new : Hub → Type 0) (jobs : Option (List SeenJob)) (base : Base) (out : List ℕ) (s v : Serving)
    → ((h : Hub) → old h → Attaches {X = ⊤} h seat chunk now (Err fault) new) → IsGoing (Some seat) old jobs base out v → Happens s v
    → Makes (outcome_of (Some (hub_end fault))) (Some seat) new jobs base out s (attached seat chunk now v)
attach_refuses fault seat chunk now old new jobs base out s v told going came =
    by_hub fault seat chunk now old new jobs base out s v (told v.hub going.tells.hub_stands) going came

-- ---- the acceptance

pub welcomes : (kind : Kind) (seat : Seat) (place : ℕ) (stands : Hub → Type 0) (jobs : Option (List SeenJob)) (base : Base) (out out' : List ℕ) (v : Serving)
    → kind ≡ seat.key.kind → out' ≡ out ++ acceptance_bytes kind → IsGoing (Some seat) stands jobs base out (record v { seat = Some seat })
    → IsGoing (Some seat) stands jobs base out' (welcomed seat place (writes (acceptance_bytes seat.key.kind) v))
welcomes kind seat place stands jobs base out out' v is wrote going =
    let t = going.tells in
    record {
      tells = record {
        hub_stands = t.hub_stands;
        jobs_are = t.jobs_are;
        out_is =
            ap (λ (l : List ℕ). l ++ acceptance_bytes seat.key.kind) t.out_is ∙ append_assoc base.before out (acceptance_bytes seat.key.kind)
            ∙ ap (λ (k : Kind). base.before ++ (out ++ acceptance_bytes k)) (sym is) ∙ ap (λ (l : List ℕ). base.before ++ l) (sym wrote);
        draws_are = t.draws_are;
      };
      seat_is = refl;
      end_is = going.end_is;
    }

pub grows_welcomed : (seat : Seat) (place : ℕ) (v : Serving) → Grows (record v { seat = Some seat }) (welcomed seat place (writes (acceptance_bytes seat.key.kind) v))
grows_welcomed seat place v = grows_writes (record v { seat = Some seat }) (acceptance_bytes seat.key.kind) _ _

pub unwelcomed : (seat : Seat) (place : ℕ) (chunk : List ℕ) (now : ℕ) (stands : Hub → Type 0) (jobs : Option (List SeenJob)) (base : Base) (out out' : List ℕ) (s v : Serving)
    → out' ≡ out → IsGoing (Some seat) stands jobs base out (record v { seat = Some seat }) → Happens s (record v { seat = Some seat })
    → IsShort (Some seat) stands jobs base out' s (attached seat chunk now (welcomed seat place (writes (acceptance_bytes seat.key.kind) v)))
unwelcomed seat place chunk now stands jobs base out out' s v nothing going came =
    let p : Serving = record v { seat = Some seat } in
    let w = welcomed seat place (writes (acceptance_bytes seat.key.kind) v) in
    short_at (Some seat) stands jobs jobs base out out' s p (attached seat chunk now w) going refl nothing came
    (grows_trans p w (attached seat chunk now w) (grows_writes p (acceptance_bytes seat.key.kind) _ _) (grows_attached seat chunk now w))

-- ---- the request

pub given_seat : (seat : Seat) (old new : Seat → ℕ) → Gives seat old new → 0 < new seat
given_seat seat old new gives =
    let same : one_if (same_seat seat seat) ≡ 1 =
    ap (λ b. one_if (b && (seat.epoch == seat.epoch))) (same_key_itself seat.key) ∙ ap (λ b. one_if b) (itself seat.epoch) in
    omega (arith, gives seat, same)
  where
    itself : (n : ℕ) → (n == n) ≡ true
    itself n = search rules

admit_done : (ask : Request) (now : ℕ) (h : Hub) → admission_refusal h.registry ask now ≡ None → event_done (Admit ask now) h ≡ admitted ask now h
unfolding event_done
admit_done ask now h is = ap (λ (o : Option Reason). judged_by o ask now h) is

refuse_done : (ask : Request) (now : ℕ) (h : Hub) (reason : Reason) → admission_refusal h.registry ask now ≡ Some reason
    → event_done (Admit ask now) h ≡ refused ask now reason h
unfolding event_done
refuse_done ask now h reason is = ap (λ (o : Option Reason). judged_by o ask now h) is

admit_jobs : (ask : Request) (now : ℕ) (h : Hub) → event_jobs (Admit ask now) h ≡ []
unfolding event_jobs
admit_jobs ask now h = refl

asked_is : (ask : Request) (place : ℕ) (chunk : List ℕ) (now : ℕ) (v : Serving)
    → asked ask place chunk now v ≡ asked_by (admission_refusal v.hub.registry ask now) (seat_for v.hub.registry ask) place chunk now (does (Admit ask now) v)
unfolding asked
asked_is ask place chunk now v = refl

same_jobs : (ask : Request) (now : ℕ) (jobs : Option (List SeenJob)) (v : Serving) → jobs ≡ Some v.jobs → jobs ≡ Some (v.jobs ++ event_jobs (Admit ask now) v.hub)
same_jobs ask now jobs v is =
    is ∙ ap (λ (l : List SeenJob). Some l) (sym (append-nil v.jobs)) ∙ ap (λ (l : List SeenJob). Some (v.jobs ++ l)) (sym (admit_jobs ask now v.hub))

-- it is admitted
pub admit_going : (ask : Request) (seat : Seat) (now : ℕ) (old new : Hub → Type 0) (jobs : Option (List SeenJob)) (base : Base) (out : List ℕ) (v : Serving)
    → ((h : Hub) → old h → Admits h ask now (Ok seat) new) → IsGoing None old jobs base out v
    → IsGoing (Some seat) new jobs base out (record (does (Admit ask now) v) { seat = Some seat })
admit_going ask seat now old new jobs base out v told going =
    let t = going.tells in
    let x = told v.hub t.hub_stands in
    record {
      tells = record {
        hub_stands = subst (λ (h : Hub). new h) (sym (admit_done ask now v.hub x.0)) x.2;
        jobs_are = same_jobs ask now jobs v t.jobs_are;
        out_is = t.out_is;
        draws_are = t.draws_are;
      };
      seat_is = refl;
      end_is = going.end_is;
    }

pub seat_kind : (ask : Request) (seat : Seat) (now : ℕ) (kind : Kind) (old new : Hub → Type 0) (jobs : Option (List SeenJob)) (base : Base) (out : List ℕ) (v : Serving)
    → ((h : Hub) → old h → Admits h ask now (Ok seat) new) → IsGoing None old jobs base out v → kind ≡ (key_of ask).kind → kind ≡ seat.key.kind
seat_kind ask seat now kind old new jobs base out v told going is = is ∙ ap (λ (s : Seat). s.key.kind) (sym (told v.hub going.tells.hub_stands).1)

pub admit_serves : (ask : Request) (seat : Seat) (place : ℕ) (chunk : List ℕ) (now : ℕ) (old new : Hub → Type 0) (jobs : Option (List SeenJob)) (base : Base) (out : List ℕ) (v : Serving)
    → ((h : Hub) → old h → Admits h ask now (Ok seat) new) → IsGoing None old jobs base out v
    → attached seat chunk now (welcomed seat place (writes (acceptance_bytes seat.key.kind) (does (Admit ask now) v))) ≡ asked ask place chunk now v
admit_serves ask seat place chunk now old new jobs base out v told going =
    let x = told v.hub going.tells.hub_stands in
    let w = does (Admit ask now) v in
    ap (λ (s : Seat). attached s chunk now (welcomed s place (writes (acceptance_bytes s.key.kind) w))) x.1
    ∙ ap (λ (o : Option Reason). asked_by o (seat_for v.hub.registry ask) place chunk now w) (sym x.0)
    ∙ sym (asked_is ask place chunk now v)

-- the seat is that of the admission
pub admit_seat : (ask : Request) (seat : Seat) (now : ℕ) (old new : Hub → Type 0) (jobs : Option (List SeenJob)) (base : Base) (out : List ℕ) (v : Serving)
    → ((h : Hub) → old h → Admits h ask now (Ok seat) new) → IsGoing None old jobs base out v → Some seat ≡ seat_by (Admit ask now) v.hub v.seat
admit_seat ask seat now old new jobs base out v told going =
    let x = told v.hub going.tells.hub_stands in
    ap (λ (s : Seat). Some s) x.1 ∙ ap (λ (o : Option Reason). seat_judged_by o (seat_for v.hub.registry ask) v.seat) (sym x.0)

refuse_seat : (ask : Request) (reason : Reason) (now : ℕ) (v : Serving) → admission_refusal v.hub.registry ask now ≡ Some reason → v.seat ≡ seat_by (Admit ask now) v.hub v.seat
refuse_seat ask reason now v why = ap (λ (o : Option Reason). seat_judged_by o (seat_for v.hub.registry ask) v.seat) (sym why)

-- it is not
unasked : (ask : Request) (place : ℕ) (chunk : List ℕ) (now : ℕ) (old new : Hub → Type 0) (jobs : Option (List SeenJob)) (base : Base) (out out' : List ℕ) (s v : Serving)
    → new v.hub → out' ≡ out → IsGoing None old jobs base out v → Happens s v → IsShort None new jobs base out' s (asked ask place chunk now v)
unasked ask place chunk now old new jobs base out out' s v stands nothing going came =
    let t = going.tells in
    record {
      part = v;
      tells = record { hub_stands = stands; jobs_are = t.jobs_are; out_is = t.out_is ∙ ap (λ (l : List ℕ). base.before ++ l) (sym nothing); draws_are = t.draws_are };
      seat_is = going.seat_is;
      came = came;
      comes = grows_asked ask place chunk now v;
    }

unkept : (ask : Request) (place : ℕ) (chunk : List ℕ) (now : ℕ) (old new : Hub → Type 0) (jobs : Option (List SeenJob)) (base : Base) (out out' : List ℕ) (s v : Serving)
    → new v.hub → out' ≡ out → IsGoing None old jobs base out v → Happens s v → IsUnkept None new jobs base out' s (asked ask place chunk now v)
unkept ask place chunk now old new jobs base out out' s v stands nothing going came =
    let t = going.tells in
    record {
      part = v;
      tells = record { hub_stands = stands; jobs_are = t.jobs_are; out_is = t.out_is ∙ ap (λ (l : List ℕ). base.before ++ l) (sym nothing); draws_are = t.draws_are };
      seat_is = going.seat_is;
      none = refl;
      came = came;
      comes = grows_asked ask place chunk now v;
      request = ask;
      place = place;
      chunk = chunk;
      now = now;
      goes_on = refl;
    }

refused_going : (ask : Request) (reason : Reason) (now : ℕ) (old new : Hub → Type 0) (jobs : Option (List SeenJob)) (base : Base) (out : List ℕ) (v : Serving)
    → admission_refusal v.hub.registry ask now ≡ Some reason → new (refused ask now reason v.hub) → IsGoing None old jobs base out v
    → IsGoing None new jobs base out (does (Admit ask now) v)
refused_going ask reason now old new jobs base out v why stands going =
    let t = going.tells in
    record {
      tells = record {
        hub_stands = subst (λ (h : Hub). new h) (sym (refuse_done ask now v.hub reason why)) stands;
        jobs_are = same_jobs ask now jobs v t.jobs_are;
        out_is = t.out_is;
        draws_are = t.draws_are;
      };
      seat_is = going.seat_is;
      end_is = going.end_is;
    }

asked_refused : (ask : Request) (reason : Reason) (place : ℕ) (chunk : List ℕ) (now : ℕ) (v : Serving) → admission_refusal v.hub.registry ask now ≡ Some reason
    → ends_by (request_refused reason) (writes (refusal_bytes reason) (does (Admit ask now) v)) ≡ asked ask place chunk now v
asked_refused ask reason place chunk now v why =
    ap (λ (o : Option Reason). asked_by o (seat_for v.hub.registry ask) place chunk now (does (Admit ask now) v)) (sym why) ∙ sym (asked_is ask place chunk now v)

refusal_written : (ask : Request) (reason : Reason) (place : ℕ) (chunk : List ℕ) (now : ℕ) (old new : Hub → Type 0) (jobs : Option (List SeenJob)) (base : Base) (out out' : List ℕ) (v : Serving)
    → admission_refusal v.hub.registry ask now ≡ Some reason → new (refused ask now reason v.hub) → out' ≡ out ++ refusal_bytes reason → IsGoing None old jobs base out v
    → IsEnded (request_refused reason) None new jobs base out' (asked ask place chunk now v)
refusal_written ask reason place chunk now old new jobs base out out' v why stands wrote going =
    let g = refused_going ask reason now old new jobs base out v why stands going in
    let t = g.tells in
    subst (λ (u : Serving). IsEnded (request_refused reason) None new jobs base out' u) (asked_refused ask reason place chunk now v why)
    (record {
      tells = record {
        hub_stands = t.hub_stands;
        jobs_are = t.jobs_are;
        out_is = ap (λ (l : List ℕ). l ++ refusal_bytes reason) t.out_is ∙ append_assoc base.before out (refusal_bytes reason) ∙ ap (λ (l : List ℕ). base.before ++ l) (sym wrote);
        draws_are = t.draws_are;
      };
      seat_is = g.seat_is;
      end_is = refl;
    })

refusal_unwritten : (ask : Request) (reason : Reason) (place : ℕ) (chunk : List ℕ) (now : ℕ) (old new : Hub → Type 0) (jobs : Option (List SeenJob)) (base : Base) (out out' : List ℕ) (s v : Serving)
    → admission_refusal v.hub.registry ask now ≡ Some reason → new (refused ask now reason v.hub) → out' ≡ out → IsGoing None old jobs base out v → Happens s v
    → IsShort None new jobs base out' s (asked ask place chunk now v)
refusal_unwritten ask reason place chunk now old new jobs base out out' s v why stands nothing going came =
    let w = does (Admit ask now) v in
    let g = refused_going ask reason now old new jobs base out v why stands going in
    subst (λ (u : Serving). IsShort None new jobs base out' s u) (asked_refused ask reason place chunk now v why)
    (short_at None new jobs jobs base out out' s w (ends_by (request_refused reason) (writes (refusal_bytes reason) w)) g refl nothing
    (happens_does s v (Admit ask now) v.seat came (refuse_seat ask reason now v why))
    (grows_writes w (refusal_bytes reason) _ _))

abbrev IsAnswered : Step → (new : Hub → Type 0) (jobs : Option (List SeenJob)) (base : Base) (out : List ℕ) (s u : Serving) → Type 0
IsAnswered step new jobs base out s u = Makes (outcome_of step.end) step.seat new jobs base out s u

refused_by_reason : (ask : Request) (reason : Reason) (place : ℕ) (chunk : List ℕ) (now : ℕ) (old new : Hub → Type 0) (jobs : Option (List SeenJob)) (base : Base) (out out' : List ℕ) (s v : Serving) (step : Step)
    → (admission_refusal v.hub.registry ask now ≡ Some reason) → new (refused ask now reason v.hub)
    → ((step ≡ over_by (ends.Refused reason)) × (out' ≡ out ++ refusal_bytes reason)) ⊎ ((step ≡ over_by ends.NoMemory) × (out' ≡ out))
    → IsGoing None old jobs base out v → Happens s v
    → IsAnswered step new jobs base out' s (asked ask place chunk now v)
refused_by_reason ask reason place chunk now old new jobs base out out' s v step why stands (inl r) going came =
    subst (λ (x : Step). IsAnswered x new jobs base out' s (asked ask place chunk now v)) (sym r.0)
    (refusal_written ask reason place chunk now old new jobs base out out' v why stands r.1 going)
refused_by_reason ask reason place chunk now old new jobs base out out' s v step why stands (inr r) going came =
    subst (λ (x : Step). IsAnswered x new jobs base out' s (asked ask place chunk now v)) (sym r.0)
    (refusal_unwritten ask reason place chunk now old new jobs base out out' s v why stands r.1 going came)

request_by : (fault : HubFault) (ask : Request) (place : ℕ) (chunk : List ℕ) (now : ℕ) (old new : Hub → Type 0) (jobs : Option (List SeenJob)) (base : Base) (out out' : List ℕ) (s v : Serving) (step : Step)
    → Admits v.hub ask now (Err fault) new → RefusesRequest fault step out out' → IsGoing None old jobs base out v → Happens s v
    → IsAnswered step new jobs base out' s (asked ask place chunk now v)
request_by (hub_faults.Refused reason) ask place chunk now old new jobs base out out' s v step x r going came =
    refused_by_reason ask reason place chunk now old new jobs base out out' s v step x.0 x.1 r going came
request_by hub_faults.NoSession ask place chunk now old new jobs base out out' s v step x r going came = absurd x
request_by (hub_faults.Session fault) ask place chunk now old new jobs base out out' s v step x r going came = absurd x
request_by hub_faults.KeepFault ask place chunk now old new jobs base out out' s v step x r going came =
    subst (λ (y : Step). IsAnswered y new jobs base out' s (asked ask place chunk now v)) (sym r.0) (unkept ask place chunk now old new jobs base out out' s v x r.1 going came)
request_by hub_faults.NoMemory ask place chunk now old new jobs base out out' s v step x r going came =
    subst (λ (y : Step). IsAnswered y new jobs base out' s (asked ask place chunk now v)) (sym r.0) (unasked ask place chunk now old new jobs base out out' s v x r.1 going came)

pub request_refuses : (fault : HubFault) (ask : Request) (place : ℕ) (chunk : List ℕ) (now : ℕ) (old new : Hub → Type 0) (jobs : Option (List SeenJob)) (base : Base) (out out' : List ℕ) (s v : Serving) (step : Step)
    → ((h : Hub) → old h → Admits h ask now (Err fault) new) → RefusesRequest fault step out out' → IsGoing None old jobs base out v → Happens s v
    → Makes (outcome_of step.end) step.seat new jobs base out' s (asked ask place chunk now v)
request_refuses fault ask place chunk now old new jobs base out out' s v step told r going came =
    request_by fault ask place chunk now old new jobs base out out' s v step (told v.hub going.tells.hub_stands) r going came
