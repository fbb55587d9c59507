-- The calls of the hub that a link makes, one after the other: behind each front of them the channels hold, and its jobs can be written.
use Rattle.std.proofs.Common.{◌≡◌, ◌≢◌, ℕ, zero, suc, ◌+◌, Bool, false, Option, Some, None, List, [], ◌∷◌, ◌++◌, length, take, refl, ap, sym, ◌∙◌, subst, append-nil, append_assoc}
use Rattle.std.proofs.lemmas.Bool.{cond_both}
use Rattle.ra_base.specs.declared.key.Cause.{Cause}
use Rattle.ra_base.specs.declared.key.Cause.TheVariants.{BadIpc}
use Rattle.ra_session.specs.SessionRefusals.{Refusal, ended, stale, no_link, too_long, bad_ipc, too_large, ids_spent, no_such_call, wrong_kind, attach_refusal}
use Rattle.ra_session.specs.Sessions.{Session}
use Rattle.ra_session.specs.TurnRefusals.{turn_refusal}
use Rattle.ra_session.specs.Turns.{TurnAnswer, turn_answer}
use Rattle.ra_hub.specs.Hubs.{Hub}
use Rattle.ra_hub.specs.Jobs.{SeenJob}
use Rattle.ra_channel_laws.proofs.Lists.{all_back}
use Rattle.ra_link_core.specs.HubEvents.{HubEvent, event_done, event_jobs, events_done, events_jobs}
use Rattle.ra_link_core.specs.HubEvents.HubEvent.{Attach, Turn, Close}
use Rattle.ra_link_core.specs.LinkRuns.{refused_by, Serving, Welcome, writes, does, closes, ends_by, Turned, turn_by, turn_ended, turn_in, turned, turned_again, turns_for, served, attached_by, attached_in}
use Rattle.ra_link_core.proofs.GrowLemmas.{events_both}
use Rattle.ra_link_laws.proofs.SeatTurns.{TurnStands, Comes, bad_admits, turned_stands, comes_nothing}
use Rattle.ra_link_laws.proofs.ServedAdmissions.{attaches_going}
use Rattle.ra_link_laws.proofs.ServedFocus.{Ground}
use Rattle.ra_link_laws.proofs.ServedRuns.{Going, stands_going}
use Rattle.ra_link_laws.proofs.ServedTurns.{seat_at}
use Rattle.ra_grand_laws.specs.ChannelParts.{ChannelsOf, WorkFits}
use Rattle.ra_grand_laws.proofs.ServedChannels.{ClientEnd, KeepsChannels, more_jobs, closes_good, fed_view, made_good, answer_cause, turned_good, begun_good}
use Rattle.ra_grand_laws.proofs.ServedHearing.{turn_good}
use Rattle.ra_grand_laws.proofs.WorksFit.{JobsFit}

-- the channels of the client and of the session of its key in this hub
abbrev pub HubHolds : (g : Ground) → ClientEnd g → Hub → Type 0
HubHolds g c h = ChannelsOf g.owner.kind (h.session g.owner) c.session c.settled c.fired

-- before these calls, behind each of them, and the jobs that each gives
abbrev pub FrontsHold : (g : Ground) → ClientEnd g → List HubEvent → Hub → Type 0
FrontsHold g c [] h = HubHolds g c h
FrontsHold g c (e ∷ es) h = HubHolds g c h × JobsFit (event_jobs e h) × FrontsHold g c es (event_done e h)

fronts_both : (g : Ground) (c : ClientEnd g) (a b : List HubEvent) (h : Hub) → FrontsHold g c a h → FrontsHold g c b (events_done a h) → FrontsHold g c (a ++ b) h
fronts_both g c [] b h first second = second
fronts_both g c (e ∷ a) b h (held, fit, rest) second = (held, fit, fronts_both g c a b (event_done e h) rest second)

fronts_begin : (g : Ground) (c : ClientEnd g) (es : List HubEvent) (h : Hub) → FrontsHold g c es h → HubHolds g c h
fronts_begin g c [] h held = held
fronts_begin g c (e ∷ es) h (held, fit, rest) = held

-- as many of them as one takes
pub fronts_taken : (g : Ground) (c : ClientEnd g) (n : ℕ) (es : List HubEvent) (h : Hub) → FrontsHold g c es h
    → HubHolds g c (events_done (take n es) h) × JobsFit (events_jobs (take n es) h)
fronts_taken g c zero es h held = (fronts_begin g c es h held, tt)
fronts_taken g c (suc n) [] h held = (held, tt)
fronts_taken g c (suc n) (e ∷ es) h (held, fit, rest) =
    let more = fronts_taken g c n es (event_done e h) rest in
    (more.0, more_jobs (event_jobs e h) (events_jobs (take n es) (event_done e h)) fit more.1)

-- ---- from the one link to the other

pub record HoldsBetween (g : Ground) (c : ClientEnd g) (s t : Serving) : Type 0 where
  pub more : List HubEvent
  pub events : t.events ≡ s.events ++ more
  pub hub : t.hub ≡ events_done more s.hub
  pub fronts : FrontsHold g c more s.hub

-- no call
pub between_same : (g : Ground) (c : ClientEnd g) (s t : Serving) → t.events ≡ s.events → t.hub ≡ s.hub → KeepsChannels g c s → HoldsBetween g c s t
between_same g c s t events hub k = record { more = []; events = events ∙ sym (append-nil s.events); hub = hub; fronts = k.channels }

-- one call
pub between_event : (g : Ground) (c : ClientEnd g) (e : HubEvent) (s t : Serving) → t.events ≡ s.events ++ e ∷ [] → t.hub ≡ event_done e s.hub → t.jobs ≡ s.jobs ++ event_jobs e s.hub
    → KeepsChannels g c s → KeepsChannels g c t → HoldsBetween g c s t
between_event g c e s t events hub jobs before after = record {
  more = e ∷ [];
  events = events;
  hub = hub;
  fronts = (
    before.channels,
    all_back (λ (j : SeenJob). WorkFits j.work) s.jobs (event_jobs e s.hub) (subst (λ (l : List SeenJob). JobsFit l) jobs after.jobs),
    subst (λ (h : Hub). HubHolds g c h) hub after.channels,
  );
}

pub between_both : (g : Ground) (c : ClientEnd g) (s t u : Serving) → HoldsBetween g c s t → HoldsBetween g c t u → HoldsBetween g c s u
between_both g c s t u a b = record {
  more = a.more ++ b.more;
  events = b.events ∙ ap (λ (l : List HubEvent). l ++ b.more) a.events ∙ append_assoc s.events a.more b.more;
  hub = b.hub ∙ ap (events_done b.more) a.hub ∙ sym (events_both a.more b.more s.hub);
  fronts = fronts_both g c a.more b.more s.hub a.fronts (subst (λ (h : Hub). FrontsHold g c b.more h) a.hub b.fronts);
}

-- ---- a turn

ended_between : (g : Ground) (c : ClientEnd g) (now epoch : ℕ) (by : Option Cause) (again : Bool) (t : Serving) → ((cause : Cause) → by ≡ Some cause → cause ≢ BadIpc)
    → KeepsChannels g c t → HoldsBetween g c t (turn_ended by again (seat_at g.owner epoch) now t).after
ended_between g c now epoch None again t other k = between_same g c t t refl refl k
ended_between g c now epoch (Some cause) again t other k =
    between_event g c (Close (seat_at g.owner epoch) cause now) t (ends_by (refused_by (ended cause)) (closes (seat_at g.owner epoch) cause now t)) refl refl refl k
    (closes_good g c t epoch now cause (refused_by (ended cause)) (other cause refl) tt k)

made_between : (g : Ground) (c : ClientEnd g) (h : Hub) (draw : ℕ → List ℕ) (bytes piece after : List ℕ) (now epoch j : ℕ) (s : Serving) (session : Session)
    → s.hub.session g.owner ≡ Some session → turn_refusal epoch piece now session ≡ None → Comes g h draw bytes piece after epoch j s → KeepsChannels g c s
    → HoldsBetween g c s (turn_by None (turn_answer epoch piece now session) (seat_at g.owner epoch) piece now s).after
made_between g c h draw bytes piece after now epoch j s session here none comes k =
    let answer : TurnAnswer = turn_answer epoch piece now session in
    let t : Serving = writes answer.out (does (Turn (seat_at g.owner epoch) piece now) s) in
    let made : KeepsChannels g c t = made_good g c h draw bytes piece after now epoch j s session here none comes k in
    between_both g c s t (turn_ended answer.ended answer.again (seat_at g.owner epoch) now t).after
    (between_event g c (Turn (seat_at g.owner epoch) piece now) s t refl refl refl k made)
    (ended_between g c now epoch answer.ended answer.again t (λ cause by. answer_cause epoch piece now session cause by) made)

by_between : (g : Ground) (c : ClientEnd g) (h : Hub) (draw : ℕ → List ℕ) (bytes piece after : List ℕ) (now epoch j : ℕ) (s : Serving) (session : Session) (refusal : Option Refusal)
    → s.hub.session g.owner ≡ Some session → turn_refusal epoch piece now session ≡ refusal → Comes g h draw bytes piece after epoch j s → KeepsChannels g c s
    → HoldsBetween g c s (turn_by refusal (turn_answer epoch piece now session) (seat_at g.owner epoch) piece now s).after
by_between g c h draw bytes piece after now epoch j s session None here is comes k = made_between g c h draw bytes piece after now epoch j s session here is comes k
by_between g c h draw bytes piece after now epoch j s session (Some (bad_ipc bad message)) here is comes k =
    absurd (turn_good g.owner.kind c.session session c.settled c.fired epoch piece now bad message c.known
    (fed_view g c h draw bytes piece after now epoch j s session here (bad_admits epoch piece now session bad message is) comes)
    (subst (λ (o : Option Session). ChannelsOf g.owner.kind o c.session c.settled c.fired) here k.channels) is)
by_between g c h draw bytes piece after now epoch j s session (Some (too_long stated)) here is comes k = between_same g c s _ refl refl k
by_between g c h draw bytes piece after now epoch j s session (Some (ended cause)) here is comes k = between_same g c s _ refl refl k
by_between g c h draw bytes piece after now epoch j s session (Some (stale current)) here is comes k = between_same g c s _ refl refl k
by_between g c h draw bytes piece after now epoch j s session (Some no_link) here is comes k = between_same g c s _ refl refl k
by_between g c h draw bytes piece after now epoch j s session (Some (too_large n)) here is comes k = between_same g c s _ refl refl k
by_between g c h draw bytes piece after now epoch j s session (Some ids_spent) here is comes k = between_same g c s _ refl refl k
by_between g c h draw bytes piece after now epoch j s session (Some (no_such_call id)) here is comes k = between_same g c s _ refl refl k
by_between g c h draw bytes piece after now epoch j s session (Some wrong_kind) here is comes k = between_same g c s _ refl refl k

in_between : (g : Ground) (c : ClientEnd g) (h : Hub) (draw : ℕ → List ℕ) (bytes piece after : List ℕ) (now epoch j : ℕ) (s : Serving) (o : Option Session) → s.hub.session g.owner ≡ o
    → Comes g h draw bytes piece after epoch j s → KeepsChannels g c s → HoldsBetween g c s (turn_in o (seat_at g.owner epoch) piece now s).after
in_between g c h draw bytes piece after now epoch j s None here comes k = between_same g c s s refl refl k
in_between g c h draw bytes piece after now epoch j s (Some session) here comes k =
    by_between g c h draw bytes piece after now epoch j s session (turn_refusal epoch piece now session) here refl comes k

turned_between : (g : Ground) (c : ClientEnd g) (h : Hub) (draw : ℕ → List ℕ) (bytes piece after : List ℕ) (now epoch j : ℕ) (s : Serving)
    → Comes g h draw bytes piece after epoch j s → KeepsChannels g c s → HoldsBetween g c s (turned (seat_at g.owner epoch) piece now s).after
unfolding turned
turned_between g c h draw bytes piece after now epoch j s comes k = in_between g c h draw bytes piece after now epoch j s (s.hub.session g.owner) refl comes k

-- ---- all turns

again_between : (n : ℕ) (g : Ground) (c : ClientEnd g) (h : Hub) (draw : ℕ → List ℕ) (bytes : List ℕ) (now epoch : ℕ) (t : Turned) → TurnStands g h draw bytes now epoch t
    → KeepsChannels g c t.after → HoldsBetween g c t.after (turned_again n (seat_at g.owner epoch) now t)
unfolding turned_again
again_between zero g c h draw bytes now epoch t x k = between_same g c t.after t.after refl refl k
again_between (suc n) g c h draw bytes now epoch t x k =
    cond_both t.again (turned_again n (seat_at g.owner epoch) now (turned (seat_at g.owner epoch) [] now t.after)) t.after (λ (u : Serving). HoldsBetween g c t.after u)
    (λ is.
    let goes = x.goes is in
    let next : Turned = turned (seat_at g.owner epoch) [] now t.after in
    let comes : Comes g h draw bytes [] bytes epoch 0 t.after =
    comes_nothing g h draw bytes epoch t.after (stands_going g h draw bytes now t.after goes.0 x.stands) goes.0 goes.1 in
    between_both g c t.after next.after (turned_again n (seat_at g.owner epoch) now next)
    (turned_between g c h draw bytes [] bytes now epoch 0 t.after comes k)
    (again_between n g c h draw bytes now epoch next (turned_stands g h draw bytes [] bytes now epoch 0 t.after comes)
    (turned_good g c h draw bytes [] bytes now epoch 0 t.after comes k)))
    (λ no. between_same g c t.after t.after refl refl k)

pub served_between : (n : ℕ) (g : Ground) (c : ClientEnd g) (h : Hub) (draw : ℕ → List ℕ) (bytes piece after : List ℕ) (now epoch j : ℕ) (s : Serving)
    → Comes g h draw bytes piece after epoch j s → KeepsChannels g c s → HoldsBetween g c s (served n (seat_at g.owner epoch) piece now s)
unfolding served
served_between n g c h draw bytes piece after now epoch j s comes k =
    let t : Turned = turned (seat_at g.owner epoch) piece now s in
    between_both g c s t.after (turned_again n (seat_at g.owner epoch) now t)
    (turned_between g c h draw bytes piece after now epoch j s comes k)
    (again_between n g c h draw after now epoch t (turned_stands g h draw bytes piece after now epoch j s comes)
    (turned_good g c h draw bytes piece after now epoch j s comes k))

-- ---- the session begins on the link

pub attached_between : (g : Ground) (c : ClientEnd g) (h : Hub) (draw : ℕ → List ℕ) (bytes : List ℕ) (now epoch : ℕ) (t : Serving) (o : Option Session) → t.hub.session g.owner ≡ o
    → Going g h draw bytes false t → t.end ≡ None → t.seat ≡ Some (seat_at g.owner epoch)
    → ((u : Welcome) → t.welcome ≡ Some u → g.link.link.to_b.read + length bytes ≡ u.up) → KeepsChannels g c t
    → HoldsBetween g c t (attached_in o (seat_at g.owner epoch) [] now t)
attached_between g c h draw bytes now epoch t None here going goes seat all k = between_same g c t t refl refl k
attached_between g c h draw bytes now epoch t (Some session) here going goes seat all k = by (attach_refusal epoch session) refl
  where
    u : Serving
    u = does (Attach (seat_at g.owner epoch) [] now) t

    begun : KeepsChannels g c u
    begun = begun_good g c epoch now t session here k

    by : (r : Option Refusal) → attach_refusal epoch session ≡ r → HoldsBetween g c t (attached_by r (seat_at g.owner epoch) [] now t)
    by (Some refusal) is = between_same g c t _ refl refl k
    by None is =
        between_both g c t u (served (turns_for []) (seat_at g.owner epoch) [] now u)
        (between_event g c (Attach (seat_at g.owner epoch) [] now) t u refl refl refl k begun)
        (served_between (turns_for []) g c h draw bytes [] bytes now epoch 0 u
        (comes_nothing g h draw bytes epoch u (attaches_going g h draw bytes now epoch t session here is going seat all) goes seat) begun)
