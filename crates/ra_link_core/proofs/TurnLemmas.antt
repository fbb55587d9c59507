-- One turn of a session over a link.
use Rattle.std.proofs.Common.{◌≡◌, ℕ, zero, suc, Bool, true, false, Option, Some, None, option_map, Ok, Err, List, [], ◌++◌, refl, sym, ap, subst, ◌∙◌, append_assoc, append-nil}
use Rattle.ra_base.specs.declared.key.Cause.{Cause}
use Rattle.ra_base.specs.declared.key.Cause.TheVariants.{BadIpc}
use Rattle.ra_base.specs.declared.key.Seat.{Seat}
use Rattle.ra_session.specs.SessionRefusals.{Refusal, ended, stale, no_link, too_long, bad_ipc, ids_spent, bad_message}
use Rattle.ra_session.specs.Sessions.{Session}
use Rattle.ra_session.specs.TurnRefusals.{turn_refusal}
use Rattle.ra_session.specs.Turns.{TurnAnswer, turn, turn_answer}
use Rattle.ra_session.specs.View.{turn_of}
use Rattle.ra_session.specs.declared.values.SessionFault.{SessionFault}
use Rattle.ra_session.specs.declared.values.SessionFault.TheVariants as faults
use Rattle.ra_session.specs.declared.values.Turn.{Turn as MadeTurn}
use Rattle.ra_hub.specs.HubCalls.{Turns, Loses, Closes}
use Rattle.ra_hub.specs.Hubs.{Hub, at_key, seat_lost, seat_closed}
use Rattle.ra_hub.specs.Jobs.{SeenJob}
use Rattle.ra_hub.specs.declared.fault.HubFault.{HubFault}
use Rattle.ra_hub.specs.declared.fault.HubFault.TheVariants as hub_faults
use Rattle.ra_link_core.specs.HubEvents.{event_done, event_jobs, on_session, session_jobs, turn_jobs, jobs_of}
use Rattle.ra_link_core.specs.HubEvents.HubEvent.{Turn, Lose, Close}
use Rattle.ra_link_core.specs.LinkRuns.{Serving, Turned, refused_by, writes, does, closes, ends_by, stops, turn_refused, turn_ended, turn_by, turn_in, turned, turned_again, served}
use Rattle.ra_link_core.specs.Makes.{Base, Happens, Grows, IsGoing, IsEnded, IsShort, IsDue, Makes, Follows, RefusesTurn, outcome_of, with_work, going_on, step_of, session_end, hub_end}
use Rattle.ra_link_core.specs.declared.ends.CoreEnd.TheVariants as ends
use Rattle.ra_link_core.specs.declared.turns.TurnStep.{TurnStep}
use Rattle.ra_link_core.specs.declared.turns.TurnStep.TheVariants.{Again, Waits, Ends}
use Rattle.ra_link_core.proofs.GrowLemmas.{grows_trans, grows_writes, grows_turn_ended, grows_again, grows_served}

-- ---- no turn more

pub again_stops : (n : ℕ) (seat : Seat) (now : ℕ) (s : Serving) → turned_again n seat now (stops s) ≡ s
unfolding turned_again
again_stops zero seat now s = refl
again_stops (suc n) seat now s = refl

pub again_none : (seat : Seat) (now : ℕ) (t : Turned) → turned_again 0 seat now t ≡ t.after
unfolding turned_again
again_none seat now t = refl

-- ---- the session of a seat

pub close_stands : (seat : Seat) (cause : Cause) (now : ℕ) (h : Hub) (new : Hub → Type 0) → Closes h seat cause now new → new (event_done (Close seat cause now) h)
unfolding event_done
close_stands seat cause now h new c =
    subst (λ (o : Option Session). new (on_session o (λ s. seat_closed seat cause now s h) h)) (sym c.1) c.2

pub lose_stands : (seat : Seat) (now : ℕ) (h : Hub) (new : Hub → Type 0) → Loses h seat now new → new (event_done (Lose seat now) h)
unfolding event_done
lose_stands seat now h new c = subst (λ (o : Option Session). new (on_session o (λ s. seat_lost seat now s h) h)) (sym c.1) c.2

close_jobs : (seat : Seat) (cause : Cause) (now : ℕ) (h : Hub) → event_jobs (Close seat cause now) h ≡ []
unfolding event_jobs
close_jobs seat cause now h = refl

turn_done : (seat : Seat) (piece : List ℕ) (now : ℕ) (h : Hub) (session : Session) → h.session seat.key ≡ Some session
    → event_done (Turn seat piece now) h ≡ at_key seat.key (turn seat.epoch piece now session) h
unfolding event_done
turn_done seat piece now h session is =
    ap (λ (o : Option Session). on_session o (λ s. at_key seat.key (turn seat.epoch piece now s) h) h) is

turn_gives : (seat : Seat) (piece : List ℕ) (now : ℕ) (h : Hub) (session : Session) → h.session seat.key ≡ Some session
    → event_jobs (Turn seat piece now) h ≡ turn_jobs (turn_refusal seat.epoch piece now session) (turn_answer seat.epoch piece now session) seat.key
unfolding event_jobs
turn_gives seat piece now h session is = ap (λ (o : Option Session). session_jobs o seat piece now) is

served_by : (n : ℕ) (seat : Seat) (piece : List ℕ) (now : ℕ) (v : Serving) (session : Session) → v.hub.session seat.key ≡ Some session
    → served n seat piece now v
    ≡ turned_again n seat now (turn_by (turn_refusal seat.epoch piece now session) (turn_answer seat.epoch piece now session) seat piece now v)
unfolding served turned
served_by n seat piece now v session is = ap (λ (o : Option Session). turned_again n seat now (turn_in o seat piece now v)) is

served_refused : (n : ℕ) (seat : Seat) (piece : List ℕ) (now : ℕ) (v : Serving) (session : Session) (refusal : Refusal) → v.hub.session seat.key ≡ Some session
    → turn_refusal seat.epoch piece now session ≡ Some refusal
    → served n seat piece now v ≡ turn_refused refusal seat piece now v
served_refused n seat piece now v session refusal is why =
    served_by n seat piece now v session is
    ∙ ap (λ (o : Option Refusal). turned_again n seat now (turn_by o (turn_answer seat.epoch piece now session) seat piece now v)) why
    ∙ again_stops n seat now (turn_refused refusal seat piece now v)

served_made : (n : ℕ) (seat : Seat) (piece : List ℕ) (now : ℕ) (v : Serving) (session : Session) (t : MadeTurn) → v.hub.session seat.key ≡ Some session
    → turn_refusal seat.epoch piece now session ≡ None → turn_of t ≡ turn_answer seat.epoch piece now session
    → served n seat piece now v ≡ turned_again n seat now (turn_ended t.ended t.again seat now (writes t.out (does (Turn seat piece now) v)))
served_made n seat piece now v session t is why answer =
    served_by n seat piece now v session is
    ∙ ap (λ (o : Option Refusal). turned_again n seat now (turn_by o (turn_answer seat.epoch piece now session) seat piece now v)) why
    ∙ ap (λ (a : TurnAnswer). turned_again n seat now (turn_by None a seat piece now v)) (sym answer)

-- ---- jobs

pub no_work : (jobs : Option (List SeenJob)) → jobs ≡ option_map (λ list. list ++ []) jobs
no_work None = refl
no_work (Some list) = ap (λ (l : List SeenJob). Some l) (sym (append-nil list))

-- ---- what a turn leaves

-- the peer left
pub after_left : (n : ℕ) (again : Bool) (cause : Cause) (seat : Seat) (now : ℕ) (old new : Hub → Type 0) (jobs : Option (List SeenJob)) (base : Base) (out : List ℕ) (s v u : Serving)
    → ((h : Hub) → old h → Closes h seat cause now new) → IsGoing (Some seat) old jobs base out v
    → turned_again n seat now (turn_ended (Some cause) again seat now v) ≡ u
    → Makes (outcome_of (Some (ends.Ended cause))) None new jobs base out s u
after_left n again cause seat now old new jobs base out s v u told going is =
    let t = going.tells in
    let w = ends_by (refused_by (ended cause)) (closes seat cause now v) in
    let closed : IsEnded (refused_by (ended cause)) None new jobs base out w = record {
      tells = record {
        hub_stands = close_stands seat cause now v.hub new (told v.hub t.hub_stands);
        jobs_are = t.jobs_are ∙ ap (λ (l : List SeenJob). Some l) (sym (append-nil v.jobs)) ∙ ap (λ (l : List SeenJob). Some (v.jobs ++ l)) (sym (close_jobs seat cause now v.hub));
        out_is = t.out_is;
        draws_are = t.draws_are;
      };
      seat_is = refl;
      end_is = refl;
    } in
    subst (λ (x : Serving). IsEnded (refused_by (ended cause)) None new jobs base out x) (sym (again_stops n seat now w) ∙ is) closed

-- nothing more is due
after_last : (n : ℕ) (seat : Seat) (now : ℕ) (stands : Hub → Type 0) (jobs : Option (List SeenJob)) (base : Base) (out : List ℕ) (v u : Serving)
    → IsGoing (Some seat) stands jobs base out v → turned_again n seat now (turn_ended None false seat now v) ≡ u
    → IsGoing (Some seat) stands jobs base out u
after_last n seat now stands jobs base out v u going is = subst (λ (x : Serving). IsGoing (Some seat) stands jobs base out x) (sym (again_stops n seat now v) ∙ is) going

-- one turn more is due
after_more : (n : ℕ) (seat : Seat) (now : ℕ) (stands : Hub → Type 0) (jobs : Option (List SeenJob)) (base : Base) (out : List ℕ) (s v u : Serving)
    → IsGoing (Some seat) stands jobs base out v → Happens s v → turned_again n seat now (turn_ended None true seat now v) ≡ u
    → IsDue seat stands jobs base out n now s u
after_more n seat now stands jobs base out s v u going grows is = record { part = v; going = going; came = grows; goes_on = is }

-- the peer did not leave
pub after_stays : (again : Bool) (n : ℕ) (seat : Seat) (now : ℕ) (stands : Hub → Type 0) (jobs : Option (List SeenJob)) (base : Base) (out : List ℕ) (s v u : Serving)
    → IsGoing (Some seat) stands jobs base out v → Happens s v → turned_again n seat now (turn_ended None again seat now v) ≡ u
    → Follows (going_on seat again) stands jobs base out n now s u
after_stays true n seat now stands jobs base out s v u going grows is = after_more n seat now stands jobs base out s v u going grows is
after_stays false n seat now stands jobs base out s v u going grows is = after_last n seat now stands jobs base out v u going is

-- memory ran out behind a part
pub short_at : (seat : Option Seat) (stands : Hub → Type 0) (jobs jobs' : Option (List SeenJob)) (base : Base) (out out' : List ℕ) (s v u : Serving)
    → IsGoing seat stands jobs base out v → jobs' ≡ jobs → out' ≡ out → Happens s v → Grows v u → IsShort seat stands jobs' base out' s u
short_at seat stands jobs jobs' base out out' s v u going same nothing came comes =
    let t = going.tells in
    record {
      part = v;
      tells = record { hub_stands = t.hub_stands; jobs_are = same ∙ t.jobs_are; out_is = t.out_is ∙ ap (λ (l : List ℕ). base.before ++ l) (sym nothing); draws_are = t.draws_are };
      seat_is = going.seat_is;
      came = came;
      comes = comes;
    }

-- the turn was made, and there was no room for what it wrote
pub unwritten : (n : ℕ) (t : MadeTurn) (seat : Seat) (now : ℕ) (stands : Hub → Type 0) (jobs jobs' : Option (List SeenJob)) (base : Base) (out out' : List ℕ) (s v : Serving)
    → IsGoing (Some seat) stands jobs base out v → jobs' ≡ jobs → out' ≡ out → Happens s v
    → IsShort (Some seat) stands jobs' base out' s (turned_again n seat now (turn_ended t.ended t.again seat now (writes t.out v)))
unwritten n t seat now stands jobs jobs' base out out' s v going same nothing came =
    let w = writes t.out v in
    let after = turn_ended t.ended t.again seat now w in
    let u = turned_again n seat now after in
    short_at (Some seat) stands jobs jobs' base out out' s v u going same nothing came
    (grows_trans v w u (grows_writes v t.out v.welcome v.end) (grows_trans w after.after u (grows_turn_ended t.ended t.again seat now w) (grows_again n seat now after)))

pub written : (bytes : List ℕ) (seat : Option Seat) (stands : Hub → Type 0) (jobs jobs' : Option (List SeenJob)) (base : Base) (out out' : List ℕ) (v : Serving)
    → IsGoing seat stands jobs base out v → jobs' ≡ jobs → out' ≡ out ++ bytes → IsGoing seat stands jobs' base out' (writes bytes v)
written bytes seat stands jobs jobs' base out out' v going same wrote =
    let t = going.tells in
    record {
      tells = record {
        hub_stands = t.hub_stands;
        jobs_are = same ∙ t.jobs_are;
        out_is = ap (λ (l : List ℕ). l ++ bytes) t.out_is ∙ append_assoc base.before out bytes ∙ ap (λ (l : List ℕ). base.before ++ l) (sym wrote);
        draws_are = t.draws_are;
      };
      seat_is = going.seat_is;
      end_is = going.end_is;
    }

-- ---- the turn was made

pub turn_going : (t : MadeTurn) (seat : Seat) (piece : List ℕ) (now : ℕ) (old new : Hub → Type 0) (jobs jobs' : Option (List SeenJob)) (base : Base) (out : List ℕ) (v : Serving)
    → ((h : Hub) → old h → Turns h seat piece now (Ok t) new) → jobs' ≡ jobs → IsGoing (Some seat) old jobs base out v
    → IsGoing (Some seat) new (with_work seat.key t.happened jobs') base out (does (Turn seat piece now) v)
turn_going t seat piece now old new jobs jobs' base out v told same going =
    let x = told v.hub going.tells.hub_stands in
    let session = x.0 in
    let gives : event_jobs (Turn seat piece now) v.hub ≡ jobs_of seat.key (turn_of t).happening =
    turn_gives seat piece now v.hub session x.1
    ∙ ap (λ (o : Option Refusal). turn_jobs o (turn_answer seat.epoch piece now session) seat.key) x.2.0
    ∙ ap (λ (a : TurnAnswer). jobs_of seat.key a.happening) (sym x.2.1) in
    record {
      tells = record {
        hub_stands = subst (λ (h : Hub). new h) (sym (turn_done seat piece now v.hub session x.1)) x.2.2;
        jobs_are = ap (with_work seat.key t.happened) (same ∙ going.tells.jobs_are) ∙ ap (λ (l : List SeenJob). Some (v.jobs ++ l)) (sym gives);
        out_is = going.tells.out_is;
        draws_are = going.tells.draws_are;
      };
      seat_is = going.seat_is;
      end_is = going.end_is;
    }

pub turn_serves : (n : ℕ) (t : MadeTurn) (seat : Seat) (piece : List ℕ) (now : ℕ) (old new : Hub → Type 0) (jobs : Option (List SeenJob)) (base : Base) (out : List ℕ) (v : Serving)
    → ((h : Hub) → old h → Turns h seat piece now (Ok t) new) → IsGoing (Some seat) old jobs base out v
    → turned_again n seat now (turn_ended t.ended t.again seat now (writes t.out (does (Turn seat piece now) v))) ≡ served n seat piece now v
turn_serves n t seat piece now old new jobs base out v told going =
    let x = told v.hub going.tells.hub_stands in
    sym (served_made n seat piece now v x.0 t x.1 x.2.0 x.2.1)

-- ---- the turn was refused

-- a refusal that leaves all as it was
pub stays_refused : (refusal : Refusal) (seat : Seat) (new : Hub → Type 0) (jobs jobs' : Option (List SeenJob)) (base : Base) (out : List ℕ) (v u : Serving) (old : Hub → Type 0)
    → u ≡ ends_by (refused_by refusal) v → new v.hub → jobs' ≡ jobs → IsGoing (Some seat) old jobs base out v
    → IsEnded (refused_by refusal) (Some seat) new jobs' base out u
stays_refused refusal seat new jobs jobs' base out v u old is stands same going =
    let t = going.tells in
    subst (λ (x : Serving). IsEnded (refused_by refusal) (Some seat) new jobs' base out x) (sym is)
    (record { tells = record { hub_stands = stands; jobs_are = same ∙ t.jobs_are; out_is = t.out_is; draws_are = t.draws_are }; seat_is = going.seat_is; end_is = refl })

-- a bad message
spoils_refused : (refusal : Refusal) (seat : Seat) (piece : List ℕ) (now : ℕ) (new : Hub → Type 0) (jobs jobs' : Option (List SeenJob)) (base : Base) (out : List ℕ) (v u : Serving) (old : Hub → Type 0)
    → u ≡ ends_by (refused_by refusal) (closes seat BadIpc now (does (Turn seat piece now) v))
    → new (event_done (Close seat BadIpc now) (event_done (Turn seat piece now) v.hub)) → event_jobs (Turn seat piece now) v.hub ≡ [] → jobs' ≡ jobs
    → IsGoing (Some seat) old jobs base out v
    → IsEnded (refused_by refusal) None new jobs' base out u
spoils_refused refusal seat piece now new jobs jobs' base out v u old is stands none same going =
    let t = going.tells in
    let w = does (Turn seat piece now) v in
    let jobs_stay : v.jobs ≡ w.jobs ++ event_jobs (Close seat BadIpc now) w.hub =
    sym (append-nil v.jobs) ∙ ap (λ (l : List SeenJob). v.jobs ++ l) (sym none) ∙ sym (append-nil w.jobs) ∙ ap (λ (l : List SeenJob). w.jobs ++ l) (sym (close_jobs seat BadIpc now w.hub)) in
    subst (λ (x : Serving). IsEnded (refused_by refusal) None new jobs' base out x) (sym is)
    (record {
      tells = record { hub_stands = stands; jobs_are = same ∙ t.jobs_are ∙ ap (λ (l : List SeenJob). Some l) jobs_stay; out_is = t.out_is; draws_are = t.draws_are };
      seat_is = refl;
      end_is = refl;
    })

short_refused : (n : ℕ) (seat : Seat) (piece : List ℕ) (now : ℕ) (old new : Hub → Type 0) (jobs jobs' : Option (List SeenJob)) (base : Base) (out : List ℕ) (s v : Serving)
    → new v.hub → jobs' ≡ jobs → IsGoing (Some seat) old jobs base out v → Happens s v
    → IsShort (Some seat) new jobs' base out s (served n seat piece now v)
short_refused n seat piece now old new jobs jobs' base out s v stands same going came =
    let t = going.tells in
    record {
      part = v;
      tells = record { hub_stands = stands; jobs_are = same ∙ t.jobs_are; out_is = t.out_is; draws_are = t.draws_are };
      seat_is = going.seat_is;
      came = came;
      comes = grows_served n seat piece now v;
    }

-- what is known where a turn of a session is refused
abbrev IsFollowed : TurnStep → (n : ℕ) (seat : Seat) (piece : List ℕ) (now : ℕ) (new : Hub → Type 0) (jobs : Option (List SeenJob)) (base : Base) (out : List ℕ) (s v : Serving) → Type 0
IsFollowed result n seat piece now new jobs base out s v = Follows result new jobs base out n now s (served n seat piece now v)

by_session : (fault : SessionFault) (result : TurnStep) (n : ℕ) (seat : Seat) (piece : List ℕ) (now : ℕ) (old mid new : Hub → Type 0) (jobs jobs' : Option (List SeenJob)) (base : Base) (out : List ℕ) (s v : Serving)
    → Turns v.hub seat piece now (Err (hub_faults.Session fault)) mid → RefusesTurn (session_end fault) seat now mid new result
    → jobs' ≡ jobs → IsGoing (Some seat) old jobs base out v → Happens s v
    → IsFollowed result n seat piece now new jobs' base out s v
by_session (faults.Ended cause) result n seat piece now old mid new jobs jobs' base out s v x r same going came =
    subst (λ (y : TurnStep). IsFollowed y n seat piece now new jobs' base out s v) (sym r.0)
    (stays_refused (ended cause) seat new jobs jobs' base out v (served n seat piece now v) old (served_refused n seat piece now v x.0 (ended cause) x.1 x.2.0) (r.1 v.hub x.2.1) same going)
by_session (faults.Stale current) result n seat piece now old mid new jobs jobs' base out s v x r same going came =
    subst (λ (y : TurnStep). IsFollowed y n seat piece now new jobs' base out s v) (sym r.0)
    (stays_refused (stale current) seat new jobs jobs' base out v (served n seat piece now v) old (served_refused n seat piece now v x.0 (stale current) x.1 x.2.0) (r.1 v.hub x.2.1) same going)
by_session faults.NoLink result n seat piece now old mid new jobs jobs' base out s v x r same going came =
    subst (λ (y : TurnStep). IsFollowed y n seat piece now new jobs' base out s v) (sym r.0)
    (stays_refused no_link seat new jobs jobs' base out v (served n seat piece now v) old (served_refused n seat piece now v x.0 no_link x.1 x.2.0) (r.1 v.hub x.2.1) same going)
by_session (faults.TooLong m) result n seat piece now old mid new jobs jobs' base out s v x r same going came =
    subst (λ (y : TurnStep). IsFollowed y n seat piece now new jobs' base out s v) (sym r.0)
    (stays_refused (too_long m) seat new jobs jobs' base out v (served n seat piece now v) old (served_refused n seat piece now v x.0 (too_long m) x.1 x.2.0) (r.1 v.hub x.2.1) same going)
by_session (faults.BadIpc fault message) result n seat piece now old mid new jobs jobs' base out s v x r same going came =
    let refusal = bad_ipc (bad_message fault) message in
    let made = turn_done seat piece now v.hub x.0 x.1 in
    let none : event_jobs (Turn seat piece now) v.hub ≡ [] =
    turn_gives seat piece now v.hub x.0 x.1 ∙ ap (λ (o : Option Refusal). turn_jobs o (turn_answer seat.epoch piece now x.0) seat.key) x.2.0 in
    let stands : mid (event_done (Turn seat piece now) v.hub) = subst (λ (h : Hub). mid h) (sym made) x.2.1 in
    subst (λ (y : TurnStep). IsFollowed y n seat piece now new jobs' base out s v) (sym r.0)
    (spoils_refused refusal seat piece now new jobs jobs' base out v (served n seat piece now v) old (served_refused n seat piece now v x.0 refusal x.1 x.2.0)
    (close_stands seat BadIpc now (event_done (Turn seat piece now) v.hub) new (r.1 (event_done (Turn seat piece now) v.hub) stands)) none same going)
by_session (faults.TooLarge len) result n seat piece now old mid new jobs jobs' base out s v x r same going came =
    subst (λ (y : TurnStep). IsFollowed y n seat piece now new jobs' base out s v) (sym r.0)
    (short_refused n seat piece now old new jobs jobs' base out s v (r.1 v.hub x.2.1) same going came)
by_session faults.IdsSpent result n seat piece now old mid new jobs jobs' base out s v x r same going came =
    subst (λ (y : TurnStep). IsFollowed y n seat piece now new jobs' base out s v) (sym r.0)
    (stays_refused ids_spent seat new jobs jobs' base out v (served n seat piece now v) old (served_refused n seat piece now v x.0 ids_spent x.1 x.2.0) (r.1 v.hub x.2.1) same going)
by_session (faults.NoSuchCall id) result n seat piece now old mid new jobs jobs' base out s v x r same going came =
    subst (λ (y : TurnStep). IsFollowed y n seat piece now new jobs' base out s v) (sym r.0)
    (short_refused n seat piece now old new jobs jobs' base out s v (r.1 v.hub x.2.1) same going came)
by_session faults.WrongKind result n seat piece now old mid new jobs jobs' base out s v x r same going came =
    subst (λ (y : TurnStep). IsFollowed y n seat piece now new jobs' base out s v) (sym r.0)
    (short_refused n seat piece now old new jobs jobs' base out s v (r.1 v.hub x.2.1) same going came)
by_session faults.NoMemory result n seat piece now old mid new jobs jobs' base out s v x r same going came =
    subst (λ (y : TurnStep). IsFollowed y n seat piece now new jobs' base out s v) (sym r.0)
    (short_refused n seat piece now old new jobs jobs' base out s v (r.1 v.hub x.2.1) same going came)

by_hub : (fault : HubFault) (result : TurnStep) (n : ℕ) (seat : Seat) (piece : List ℕ) (now : ℕ) (old mid new : Hub → Type 0) (jobs jobs' : Option (List SeenJob)) (base : Base) (out : List ℕ) (s v : Serving)
    → Turns v.hub seat piece now (Err fault) mid → RefusesTurn (hub_end fault) seat now mid new result
    → jobs' ≡ jobs → IsGoing (Some seat) old jobs base out v → Happens s v
    → IsFollowed result n seat piece now new jobs' base out s v
by_hub (hub_faults.Refused reason) result n seat piece now old mid new jobs jobs' base out s v x r same going came = absurd x.2
by_hub hub_faults.NoSession result n seat piece now old mid new jobs jobs' base out s v x r same going came = absurd x.2
by_hub (hub_faults.Session fault) result n seat piece now old mid new jobs jobs' base out s v x r same going came = by_session fault result n seat piece now old mid new jobs jobs' base out s v x r same going came
by_hub hub_faults.KeepFault result n seat piece now old mid new jobs jobs' base out s v x r same going came = absurd x.2
by_hub hub_faults.NoMemory result n seat piece now old mid new jobs jobs' base out s v x r same going came =
    subst (λ (y : TurnStep). IsFollowed y n seat piece now new jobs' base out s v) (sym r.0)
    (short_refused n seat piece now old new jobs jobs' base out s v (r.1 v.hub x.2) same going came)

pub turn_refuses : (fault : HubFault) (result : TurnStep) (n : ℕ) (seat : Seat) (piece : List ℕ) (now : ℕ) (old mid new : Hub → Type 0) (jobs jobs' : Option (List SeenJob)) (base : Base) (out : List ℕ) (s v : Serving)
    → ((h : Hub) → old h → Turns h seat piece now (Err fault) mid) → RefusesTurn (hub_end fault) seat now mid new result
    → jobs' ≡ jobs → IsGoing (Some seat) old jobs base out v → Happens s v
    → Follows result new jobs' base out n now s (served n seat piece now v)
turn_refuses fault result n seat piece now old mid new jobs jobs' base out s v told r same going came =
    by_hub fault result n seat piece now old mid new jobs jobs' base out s v (told v.hub going.tells.hub_stands) r same going came

-- ---- turn after turn

-- memory ran out later, or it ended later
pub from_part : (o : TurnStep) (stands : Hub → Type 0) (jobs : Option (List SeenJob)) (base : Base) (out : List ℕ) (now : ℕ) (s u : Serving) → Follows o stands jobs base out 0 now s u
    → Makes (outcome_of (step_of o).end) (step_of o).seat stands jobs base out s u
from_part (Again seat) stands jobs base out now s u f =
    subst (λ (x : Serving). IsGoing (Some seat) stands jobs base out x) (sym (again_none seat now (record { after = f.part; again = true })) ∙ f.goes_on) f.going
from_part (Waits seat) stands jobs base out now s u f = f
from_part (Ends seat end) stands jobs base out now s u f = f

pub next_turn : (k m : ℕ) (seat : Seat) (now : ℕ) (v u : Serving) → k ≡ suc m → turned_again k seat now (record { after = v; again = true }) ≡ u → served m seat [] now v ≡ u
unfolding turned_again served
next_turn k m seat now v u is whole = sym (ap (λ (n : ℕ). turned_again n seat now (record { after = v; again = true })) is) ∙ whole
