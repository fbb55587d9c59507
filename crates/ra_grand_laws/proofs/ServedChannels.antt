-- A link that has its seat, turn by turn: its session keeps the channels, what it hands up can be written, and its end is a good one.
use Rattle.std.proofs.Common.{◌≡◌, ◌≢◌, ℕ, zero, suc, ◌+◌, Bool, true, false, Option, Some, None, List, [], ◌++◌, length, take, refl, sym, subst}
use Rattle.std.specs.Prelude.{option_map}
use Rattle.std.proofs.lemmas.Bool.{cond_both}
use Rattle.ra_base.specs.declared.event.Side.TheVariants.{A, B}
use Rattle.ra_base.specs.declared.key.Cause.{Cause}
use Rattle.ra_base.specs.declared.key.Cause.TheVariants.{BadIpc}
use Rattle.ra_base.specs.declared.kind.Kind.{Kind}
use Rattle.ra_base.specs.declared.kind.Kind.TheVariants.{Tunnel}
use Rattle.ra_model.specs.declared.session.Up.{Up as Delivery}
use Rattle.ra_model.specs.declared.session.Up.TheVariants.{Message as HandedUp, Control, Quiet, Ended as Closed}
use Rattle.ra_model.specs.Links.{Link, put_number, readable, read_on}
use Rattle.ra_model.specs.Refusals.{or_fault, fault_if}
use Rattle.ra_model.specs.Taking.{delivery}
use Rattle.ra_model.specs.Views.{View}
use Rattle.ra_model.specs.Worlds.{Peer}
use Rattle.ra_model.proofs.Sound.{turned as sides_turned}
use Rattle.ra_values.specs.Tree.{Tree}
use Rattle.ra_ipc.specs.ChannelPairs.{Outcome}
use Rattle.ra_registry.specs.declared.row.Row.{Row}
use Rattle.ra_session.specs.SessionCalls.{attach, feed_session}
use Rattle.ra_session.specs.SessionRefusals.{Refusal, ended, stale, no_link, too_long, bad_ipc, too_large, ids_spent, no_such_call, wrong_kind, attach_refusal, feed_refusal}
use Rattle.ra_session.specs.Sessions.{Session}
use Rattle.ra_session.specs.TurnRefusals.{taken_refusal, turn_refusal}
use Rattle.ra_session.specs.Turns.{TurnAnswer, ended_by, taken_answer, turn, turn_answer}
use Rattle.ra_hub.specs.Hubs.{Hub, row, closes as closes_row}
use Rattle.ra_hub.specs.Jobs.{SeenJob}
use Rattle.ra_views.proofs.LinkTurns.{link_fed}
use Rattle.ra_views.proofs.TurnsWithin.{link_within}
use Rattle.ra_channel_laws.proofs.Lists.{all_both}
use Rattle.ra_channel_laws.proofs.Silence.{silent_attach}
use Rattle.ra_link_core.specs.HubEvents.{event_done, event_jobs, session_jobs, turn_jobs}
use Rattle.ra_link_core.specs.HubEvents.HubEvent.{Attach, Turn, Close}
use Rattle.ra_link_core.specs.LinkRuns.{End, refused_by, Serving, Welcome, writes, does, closes, ends_by, Turned, turn_by, turn_ended, turn_in, turned, turned_again, turns_for, served, attached_by, attached_in}
use Rattle.ra_grand_runs.specs.GrandClients.{GrandLink}
use Rattle.ra_run_laws.proofs.Lists.{there_is}
use Rattle.ra_link_laws.proofs.BadTurns.{second_is}
use Rattle.ra_link_laws.proofs.HubMoves.{HubMoves, IsOwn, closed_by, turned_hub, attached_hub}
use Rattle.ra_link_laws.proofs.SeatTurns.{TurnStands, Comes, made_admits, bad_admits, turned_stands, comes_nothing}
use Rattle.ra_link_laws.proofs.ServedAdmissions.{attaches_going}
use Rattle.ra_link_laws.proofs.ServedFocus.{Ground, Focus}
use Rattle.ra_link_laws.proofs.ServedRuns.{link_after, Going, stands_going}
use Rattle.ra_link_laws.proofs.ServedTurns.{seat_at, TurnsAt, turns_at}
use Rattle.ra_grand_laws.specs.ChannelParts.{ChannelsOf, WorkFits}
use Rattle.ra_grand_laws.specs.GoodEnds.{IsGoodEnd, IsGoodIfAny}
use Rattle.ra_grand_laws.proofs.ServedHearing.{FedView, becomes_called, silent_end_if, becomes_turned, turn_fits, turn_good}
use Rattle.ra_grand_laws.proofs.WorksFit.{JobsFit, jobs_fit}

-- the client's session, which is at the other end, and what it has handed up
pub record ClientEnd (g : Ground) : Type 0 where
  pub session : Session
  pub near : session.peer ≡ g.near
  pub known : g.owner.kind ≢ Tunnel
  pub settled : List (ℕ × Outcome)
  pub fired : List (ℕ × Tree)

-- what holds of the link while it goes on, and when it has ended
pub record KeepsChannels (g : Ground) (c : ClientEnd g) (s : Serving) : Type 0 where
  pub channels : ChannelsOf g.owner.kind (s.hub.session g.owner) c.session c.settled c.fired
  pub jobs : JobsFit s.jobs
  pub end : IsGoodIfAny s.end
  pub own : IsOwn g.owner s.seat

pub more_jobs : (jobs more : List SeenJob) → JobsFit jobs → JobsFit more → JobsFit (jobs ++ more)
more_jobs jobs more first second = all_both (λ (j : SeenJob). WorkFits j.work) jobs more first second

-- ---- an end

pub ends_good : (g : Ground) (c : ClientEnd g) (s : Serving) (reason : End) → IsGoodEnd reason → KeepsChannels g c s → KeepsChannels g c (ends_by reason s)
ends_good g c s reason good k = record { channels = k.channels; jobs = k.jobs; end = good; own = k.own }

closed_channels : (kind : Kind) (g : Ground) (c : ClientEnd g) (epoch now : ℕ) (cause : Cause) (h : Hub) → cause ≢ BadIpc
    → ChannelsOf kind (h.session g.owner) c.session c.settled c.fired
    → ChannelsOf kind ((event_done (Close (seat_at g.owner epoch) cause now) h).session g.owner) c.session c.settled c.fired
unfolding event_done
closed_channels kind g c epoch now cause h other held =
    let b : Bool = closes_row epoch (row h g.owner) in
    let moves = closed_by g.owner epoch cause now (h.session g.owner) h refl in
    subst (λ (o : Option Session). ChannelsOf kind o c.session c.settled c.fired) (sym moves.becomes)
    (becomes_called kind (h.session g.owner) _ c.session c.settled c.fired (silent_end_if b cause other) held)

pub closes_good : (g : Ground) (c : ClientEnd g) (s : Serving) (epoch now : ℕ) (cause : Cause) (reason : End) → cause ≢ BadIpc → IsGoodEnd reason → KeepsChannels g c s
    → KeepsChannels g c (ends_by reason (closes (seat_at g.owner epoch) cause now s))
unfolding event_jobs
closes_good g c s epoch now cause reason other good k = record {
  channels = closed_channels g.owner.kind g c epoch now cause s.hub other k.channels;
  jobs = more_jobs s.jobs [] k.jobs tt;
  end = good;
  own = tt;
}

-- ---- a turn

fed_by : (o : Option Cause) (alike linked : Bool) (n stated : ℕ)
    → or_fault (option_map (λ cause. ended cause) o) (or_fault (fault_if alike (stale n)) (fault_if linked no_link)) ≡ Some (too_long stated) → ⊥
fed_by None false false n stated is = cc
fed_by None false true n stated is = cc
fed_by None true linked n stated is = cc
fed_by (Some cause) alike linked n stated is = cc

fed_never : (epoch : ℕ) (s : Session) (stated : ℕ) → feed_refusal epoch s ≡ Some (too_long stated) → ⊥
unfolding feed_refusal
fed_never epoch s stated is = fed_by s.cause _ _ s.peer.endpoint.epoch stated is

long_admits : (epoch : ℕ) (piece : List ℕ) (now : ℕ) (s : Session) (stated : ℕ) → turn_refusal epoch piece now s ≡ Some (too_long stated) → feed_refusal epoch s ≡ None
unfolding turn_refusal
long_admits epoch piece now s stated is =
    (second_is (feed_refusal epoch s) (taken_refusal now (feed_session epoch piece now s)) (too_long stated) (fed_never epoch s stated) is).0

-- the session is on the link, and has what came
pub fed_view : (g : Ground) (c : ClientEnd g) (h : Hub) (draw : ℕ → List ℕ) (bytes piece after : List ℕ) (now epoch j : ℕ) (s : Serving) (session : Session)
    → s.hub.session g.owner ≡ Some session → feed_refusal epoch session ≡ None → Comes g h draw bytes piece after epoch j s
    → FedView c.session.peer session epoch piece now
fed_view g c h draw bytes piece after now epoch j s session here admits comes =
    let l : GrandLink = link_after bytes false s g.link draw in
    let r : Option Row = row s.hub g.owner in
    let f : Focus g (Some session) r l = subst (λ (o : Option Session). Focus g o r l) here comes.going.focus in
    let t : TurnsAt g session r l f epoch piece j = turns_at g session r l f epoch piece j refl comes.seat admits comes.fits comes.is in
    let n : ℕ = t.own.welcome.epoch in
    let x : Link = t.own.has.session_link in
    let session_links : List Link = put_number f.session_links n (read_on B j x) in (
      g.number,
      n,
      session_links,
      subst (λ (p : Peer). View 0 A g.number n p (feed_session epoch piece now session).peer session_links) (sym c.near)
          (subst (λ (b : List ℕ). View 0 A g.number n g.near (feed_session epoch b now session).peer session_links) (sym t.is)
          (sides_turned 0 B n g.number (feed_session epoch (take j (readable B x)) now session).peer g.near session_links
          (link_fed 0 B n g.number session g.near f.session_links t.on.view j epoch now x t.on.there t.fits admits))),
    )

never_long : (g : Ground) (h : Hub) (draw : ℕ → List ℕ) (bytes piece after : List ℕ) (now epoch j : ℕ) (s : Serving) (session : Session) (stated : ℕ)
    → s.hub.session g.owner ≡ Some session → Comes g h draw bytes piece after epoch j s → turn_refusal epoch piece now session ≡ Some (too_long stated) → ⊥
never_long g h draw bytes piece after now epoch j s session stated here comes refused =
    let l : GrandLink = link_after bytes false s g.link draw in
    let r : Option Row = row s.hub g.owner in
    let f : Focus g (Some session) r l = subst (λ (o : Option Session). Focus g o r l) here comes.going.focus in
    let t : TurnsAt g session r l f epoch piece j =
    turns_at g session r l f epoch piece j refl comes.seat (long_admits epoch piece now session stated refused) comes.fits comes.is in
    link_within 0 B t.own.welcome.epoch g.number session g.near f.session_links t.on.view j epoch now stated t.own.has.session_link t.on.there t.fits
    (subst (λ (b : List ℕ). turn_refusal epoch b now session ≡ Some (too_long stated)) t.is refused)

turned_jobs : (g : Ground) (piece : List ℕ) (now epoch : ℕ) (s : Serving) (session : Session) → s.hub.session g.owner ≡ Some session → turn_refusal epoch piece now session ≡ None
    → JobsFit (turn_jobs None (turn_answer epoch piece now session) g.owner) → JobsFit (event_jobs (Turn (seat_at g.owner epoch) piece now) s.hub)
unfolding event_jobs
turned_jobs g piece now epoch s session here none fit =
    subst (λ (o : Option Session). JobsFit (session_jobs o (seat_at g.owner epoch) piece now)) (sym here)
    (subst (λ (r : Option Refusal). JobsFit (turn_jobs r (turn_answer epoch piece now session) g.owner)) (sym none) fit)

-- one that is not refused
pub made_good : (g : Ground) (c : ClientEnd g) (h : Hub) (draw : ℕ → List ℕ) (bytes piece after : List ℕ) (now epoch j : ℕ) (s : Serving) (session : Session)
    → s.hub.session g.owner ≡ Some session → turn_refusal epoch piece now session ≡ None → Comes g h draw bytes piece after epoch j s → KeepsChannels g c s
    → KeepsChannels g c (writes (turn_answer epoch piece now session).out (does (Turn (seat_at g.owner epoch) piece now) s))
made_good g c h draw bytes piece after now epoch j s session here none comes k =
    let t : Serving = does (Turn (seat_at g.owner epoch) piece now) s in
    let moves : HubMoves g.owner (Some (turn epoch piece now session)) s.hub t.hub = turned_hub g.owner epoch piece now session s.hub here in
    let held : ChannelsOf g.owner.kind (Some session) c.session c.settled c.fired = subst (λ (o : Option Session). ChannelsOf g.owner.kind o c.session c.settled c.fired) here k.channels in
    let view : FedView c.session.peer session epoch piece now = fed_view g c h draw bytes piece after now epoch j s session here (made_admits epoch piece now session none) comes in
    record {
      channels = subst (λ (o : Option Session). ChannelsOf g.owner.kind o c.session c.settled c.fired) (sym moves.becomes)
          (becomes_turned g.owner.kind c.session session c.settled c.fired epoch piece now view none held);
      jobs = more_jobs s.jobs (event_jobs (Turn (seat_at g.owner epoch) piece now) s.hub) k.jobs
          (turned_jobs g piece now epoch s session here none
          (jobs_fit g.owner (turn_answer epoch piece now session).happening (turn_fits g.owner.kind c.session session c.settled c.fired epoch piece now c.known view held)));
      end = k.end;
      own = k.own;
    }

ended_cause : (up : Option Delivery) (cause : Cause) → ended_by up ≡ Some cause → cause ≢ BadIpc
ended_cause None cause is same = cc
ended_cause (Some (HandedUp id body)) cause is same = cc
ended_cause (Some (Control body)) cause is same = cc
ended_cause (Some Quiet) cause is same = cc
ended_cause (Some Closed) cause is same = cc

-- a peer that left
pub answer_cause : (epoch : ℕ) (piece : List ℕ) (now : ℕ) (s : Session) (cause : Cause) → (turn_answer epoch piece now s).ended ≡ Some cause → cause ≢ BadIpc
unfolding turn_answer taken_answer
answer_cause epoch piece now s cause is = ended_cause (delivery (feed_session epoch piece now s).peer.endpoint) cause is

ended_good : (g : Ground) (c : ClientEnd g) (now epoch : ℕ) (by : Option Cause) (again : Bool) (t : Serving) → ((cause : Cause) → by ≡ Some cause → cause ≢ BadIpc)
    → KeepsChannels g c t → KeepsChannels g c (turn_ended by again (seat_at g.owner epoch) now t).after
ended_good g c now epoch None again t other k = k
ended_good g c now epoch (Some cause) again t other k = closes_good g c t epoch now cause (refused_by (ended cause)) (other cause refl) tt k

by_good : (g : Ground) (c : ClientEnd g) (h : Hub) (draw : ℕ → List ℕ) (bytes piece after : List ℕ) (now epoch j : ℕ) (s : Serving) (session : Session) (refusal : Option Refusal)
    → s.hub.session g.owner ≡ Some session → turn_refusal epoch piece now session ≡ refusal → Comes g h draw bytes piece after epoch j s → KeepsChannels g c s
    → KeepsChannels g c (turn_by refusal (turn_answer epoch piece now session) (seat_at g.owner epoch) piece now s).after
by_good g c h draw bytes piece after now epoch j s session None here is comes k =
    let answer : TurnAnswer = turn_answer epoch piece now session in
    ended_good g c now epoch answer.ended answer.again (writes answer.out (does (Turn (seat_at g.owner epoch) piece now) s)) (λ cause by. answer_cause epoch piece now session cause by)
    (made_good g c h draw bytes piece after now epoch j s session here is comes k)
by_good g c h draw bytes piece after now epoch j s session (Some (bad_ipc bad message)) here is comes k =
    absurd (turn_good g.owner.kind c.session session c.settled c.fired epoch piece now bad message c.known
    (fed_view g c h draw bytes piece after now epoch j s session here (bad_admits epoch piece now session bad message is) comes)
    (subst (λ (o : Option Session). ChannelsOf g.owner.kind o c.session c.settled c.fired) here k.channels) is)
by_good g c h draw bytes piece after now epoch j s session (Some (too_long stated)) here is comes k =
    absurd (never_long g h draw bytes piece after now epoch j s session stated here comes is)
by_good g c h draw bytes piece after now epoch j s session (Some (ended cause)) here is comes k = ends_good g c s (refused_by (ended cause)) tt k
by_good g c h draw bytes piece after now epoch j s session (Some (stale current)) here is comes k = ends_good g c s (refused_by (stale current)) tt k
by_good g c h draw bytes piece after now epoch j s session (Some no_link) here is comes k = ends_good g c s (refused_by no_link) tt k
by_good g c h draw bytes piece after now epoch j s session (Some (too_large n)) here is comes k = ends_good g c s (refused_by (too_large n)) tt k
by_good g c h draw bytes piece after now epoch j s session (Some ids_spent) here is comes k = ends_good g c s (refused_by ids_spent) tt k
by_good g c h draw bytes piece after now epoch j s session (Some (no_such_call id)) here is comes k = ends_good g c s (refused_by (no_such_call id)) tt k
by_good g c h draw bytes piece after now epoch j s session (Some wrong_kind) here is comes k = ends_good g c s (refused_by wrong_kind) tt k

in_good : (g : Ground) (c : ClientEnd g) (h : Hub) (draw : ℕ → List ℕ) (bytes piece after : List ℕ) (now epoch j : ℕ) (s : Serving) (o : Option Session) → s.hub.session g.owner ≡ o
    → Comes g h draw bytes piece after epoch j s → KeepsChannels g c s → KeepsChannels g c (turn_in o (seat_at g.owner epoch) piece now s).after
in_good g c h draw bytes piece after now epoch j s None here comes k = k
in_good g c h draw bytes piece after now epoch j s (Some session) here comes k =
    by_good g c h draw bytes piece after now epoch j s session (turn_refusal epoch piece now session) here refl comes k

pub turned_good : (g : Ground) (c : ClientEnd g) (h : Hub) (draw : ℕ → List ℕ) (bytes piece after : List ℕ) (now epoch j : ℕ) (s : Serving)
    → Comes g h draw bytes piece after epoch j s → KeepsChannels g c s → KeepsChannels g c (turned (seat_at g.owner epoch) piece now s).after
unfolding turned
turned_good g c h draw bytes piece after now epoch j s comes k = in_good g c h draw bytes piece after now epoch j s (s.hub.session g.owner) refl comes k

-- ---- all turns

again_good : (n : ℕ) (g : Ground) (c : ClientEnd g) (h : Hub) (draw : ℕ → List ℕ) (bytes : List ℕ) (now epoch : ℕ) (t : Turned) → TurnStands g h draw bytes now epoch t
    → KeepsChannels g c t.after → KeepsChannels g c (turned_again n (seat_at g.owner epoch) now t)
unfolding turned_again
again_good zero g c h draw bytes now epoch t x k = k
again_good (suc n) g c h draw bytes now epoch t x k =
    cond_both t.again (turned_again n (seat_at g.owner epoch) now (turned (seat_at g.owner epoch) [] now t.after)) t.after (λ (u : Serving). KeepsChannels g c u)
    (λ is.
    let goes = x.goes is in
    let comes : Comes g h draw bytes [] bytes epoch 0 t.after =
    comes_nothing g h draw bytes epoch t.after (stands_going g h draw bytes now t.after goes.0 x.stands) goes.0 goes.1 in
    again_good n g c h draw bytes now epoch (turned (seat_at g.owner epoch) [] now t.after) (turned_stands g h draw bytes [] bytes now epoch 0 t.after comes)
    (turned_good g c h draw bytes [] bytes now epoch 0 t.after comes k))
    (λ no. k)

pub served_good : (n : ℕ) (g : Ground) (c : ClientEnd g) (h : Hub) (draw : ℕ → List ℕ) (bytes piece after : List ℕ) (now epoch j : ℕ) (s : Serving)
    → Comes g h draw bytes piece after epoch j s → KeepsChannels g c s → KeepsChannels g c (served n (seat_at g.owner epoch) piece now s)
unfolding served
served_good n g c h draw bytes piece after now epoch j s comes k =
    again_good n g c h draw after now epoch (turned (seat_at g.owner epoch) piece now s) (turned_stands g h draw bytes piece after now epoch j s comes)
    (turned_good g c h draw bytes piece after now epoch j s comes k)

-- ---- the session begins on the link

attach_by : (o : Option Cause) (low : Bool) (n : ℕ) (r : Refusal) → or_fault (option_map (λ cause. ended cause) o) (fault_if low (stale n)) ≡ Some r → IsGoodEnd (refused_by r)
attach_by None true n r is = subst (λ (x : Refusal). IsGoodEnd (refused_by x)) (there_is is) tt
attach_by None false n r is = absurd cc
attach_by (Some cause) low n r is = subst (λ (x : Refusal). IsGoodEnd (refused_by x)) (there_is is) tt

attach_good : (epoch : ℕ) (s : Session) (r : Refusal) → attach_refusal epoch s ≡ Some r → IsGoodEnd (refused_by r)
unfolding attach_refusal
attach_good epoch s r is = attach_by s.cause _ s.peer.endpoint.epoch r is

pub begun_good : (g : Ground) (c : ClientEnd g) (epoch now : ℕ) (t : Serving) (session : Session) → t.hub.session g.owner ≡ Some session → KeepsChannels g c t
    → KeepsChannels g c (does (Attach (seat_at g.owner epoch) [] now) t)
unfolding event_jobs
begun_good g c epoch now t session here k =
    let u : Serving = does (Attach (seat_at g.owner epoch) [] now) t in
    let moves : HubMoves g.owner (Some (attach epoch [] now session)) t.hub u.hub = attached_hub g.owner epoch [] now session t.hub here in
    record {
      channels = subst (λ (o : Option Session). ChannelsOf g.owner.kind o c.session c.settled c.fired) (sym moves.becomes)
          (becomes_called g.owner.kind (Some session) (attach epoch [] now) c.session c.settled c.fired (λ (s : Session). silent_attach epoch [] now s)
          (subst (λ (o : Option Session). ChannelsOf g.owner.kind o c.session c.settled c.fired) here k.channels));
      jobs = more_jobs t.jobs [] k.jobs tt;
      end = k.end;
      own = k.own;
    }

pub attached_good : (g : Ground) (c : ClientEnd g) (h : Hub) (draw : ℕ → List ℕ) (bytes : List ℕ) (now epoch : ℕ) (t : Serving) (o : Option Session) → t.hub.session g.owner ≡ o
    → Going g h draw bytes false t → t.end ≡ None → t.seat ≡ Some (seat_at g.owner epoch)
    → ((u : Welcome) → t.welcome ≡ Some u → g.link.link.to_b.read + length bytes ≡ u.up) → KeepsChannels g c t
    → KeepsChannels g c (attached_in o (seat_at g.owner epoch) [] now t)
attached_good g c h draw bytes now epoch t None here going goes seat all k = k
attached_good g c h draw bytes now epoch t (Some session) here going goes seat all k = by (attach_refusal epoch session) refl
  where
    u : Serving
    u = does (Attach (seat_at g.owner epoch) [] now) t

    by : (r : Option Refusal) → attach_refusal epoch session ≡ r → KeepsChannels g c (attached_by r (seat_at g.owner epoch) [] now t)
    by (Some refusal) is = ends_good g c t (refused_by refusal) (attach_good epoch session refusal is) k
    by None is =
        served_good (turns_for []) g c h draw bytes [] bytes now epoch 0 u
        (comes_nothing g h draw bytes epoch u (attaches_going g h draw bytes now epoch t session here is going seat all) goes seat)
        (begun_good g c epoch now t session here k)
