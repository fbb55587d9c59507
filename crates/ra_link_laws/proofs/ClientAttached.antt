-- What an attached client does at an event, and at a call of its session.
use Rattle.std.proofs.Common.{◌≡◌, ℕ, zero, suc, ◌+◌, ◌≤◌, Bool, true, false, cond, Option, Some, None, List, [], ◌∷◌, ◌++◌, length, refl, ap, sym, ◌∙◌, subst, arith}
use Rattle.std.specs.Prelude.{slice_get, slice_set}
use Rattle.ra_base.specs.declared.event.Side.TheVariants.{A, B}
use Rattle.ra_base.specs.declared.key.Cause.{Cause}
use Rattle.ra_base.specs.declared.key.Cause.TheVariants.{BadIpc}
use Rattle.ra_model.specs.Calls.{leave}
use Rattle.ra_model.specs.Endpoints.{is_linked, shown}
use Rattle.ra_model.specs.Links.{Link, at_number, put_number, read_on, written_to}
use Rattle.ra_model.specs.Views.{View}
use Rattle.ra_model.specs.Worlds.{Peer}
use Rattle.ra_registry.specs.declared.row.Row.{Row}
use Rattle.ra_session.specs.Moments.{timeout_of}
use Rattle.ra_session.specs.OnLinks.{IsRunning}
use Rattle.ra_session.specs.SessionCalls.{lose_session, leave_session, tick_session}
use Rattle.ra_session.specs.SessionRefusals.{Refusal, ended, stale, no_link, too_long, bad_ipc, too_large, ids_spent, no_such_call, wrong_kind, feed_refusal, tick_refusal, leave_refusal}
use Rattle.ra_session.specs.Sessions.{Session}
use Rattle.ra_session.specs.TurnRefusals.{turn_refusal}
use Rattle.ra_session.specs.Turns.{TurnAnswer, turn, turn_answer}
use Rattle.ra_session.proofs.LinkLaws.{turn_on}
use Rattle.ra_views.specs.SessionLinks.{KeepsLink}
use Rattle.ra_views.specs.SessionViews.{KeepsSessionViews}
use Rattle.ra_views.proofs.LinkTurns.{link_left, link_turned}
use Rattle.ra_views.proofs.SessionLinks.{link_tick, number_link}
use Rattle.ra_views.proofs.SessionMoves.{keeps_lose, keeps_tick}
use Rattle.ra_views.proofs.SessionNumbers.{number_leave, number_lose, number_turn}
use Rattle.ra_dial.specs.declared.stage.Stage.TheVariants as stages
use Rattle.ra_dial.specs.declared.values.DialEnd.{DialEnd}
use Rattle.ra_dial.specs.declared.values.DialEnd.TheVariants as dial_ends
use Rattle.ra_dial.specs.Acts.{Act, nothing, rest_until, ends}
use Rattle.ra_dial.specs.Attempts.{Step, rest_or_drop}
use Rattle.ra_dial.specs.Dialers.{Dialer}
use Rattle.ra_dial.specs.Links.{tick_span, loses, act_after, after_turn, turns_unless, turns, ticks_unless, ticks, leaves_unless, leaves}
use Rattle.ra_grand_runs.specs.GrandClients.{Client}
use Rattle.ra_link_laws.specs.Parts.{PartHolds}
use Rattle.ra_link_laws.proofs.BadTurns.{turn_feeds, feeds_going, bad_quiet}
use Rattle.ra_link_laws.proofs.ClientGrounds.{Ground, After, with_stage, ground_of}
use Rattle.ra_link_laws.proofs.ClientLinks.{Here, here_of}
use Rattle.ra_link_laws.proofs.ClientSends.{attached_on, left_over, rests}
use Rattle.ra_link_laws.proofs.SessionLinkMoves.{nothing_up}

-- the client as it is while it is attached
abbrev pub live : Client → Client
live c = with_stage stages.Attached c

-- what holds of it beside the rest
pub record IsLive (s : Option Session) (o : Option Row) (c : Client) (g : Ground s o (live c)) : Type 0 where
  pub here : Here g.session_links g.number c.links
  pub all : g.attached ≡ length c.links
  pub none : c.dialer.pending ≡ []
  pub linked : c.dialer.session.cause ≡ None → is_linked c.dialer.session.peer.endpoint.phase ≡ true
  pub behind : here.welcome.down ≤ here.link.link.to_a.read
  pub quiet : shown c.dialer.session.peer.endpoint ≡ []
  pub read : c.dialer.session.cause ≡ None → here.session_link.to_a.read + here.welcome.down ≡ length here.welcome.pause + here.link.link.to_a.read

pub live_of : (s : Option Session) (o : Option Row) (c : Client) (p : PartHolds s o (live c)) → IsLive s o c (ground_of s o (live c) p)
unfolding ground_of here_of
live_of s o c p =
    let last = p.stage.1 in
    let on = last.4 in
    let h = here_of c.key p.draws p.session_links p.present p.number p.attached c.links (ground_of s o (live c) p).links last.0 last.1 last.2 last.3 on.welcome on.is_there on.is_number in
    record {
      here = h;
      all = p.stage.0;
      none = p.pending;
      linked = λ going. (on.on_link going).1;
      behind = on.behind;
      quiet = on.quiet;
      read = λ going. on.read going h.session_link h.session_link_at;
    }

-- ---- nothing waits to be written

put_itself : {X : Type 0} → (xs : List X) (n : ℕ) (x : X) → at_number xs n ≡ Some x → put_number xs n x ≡ xs
put_itself xs zero x is = refl
put_itself xs (suc n) x is = set_itself xs n x is
  where
    set_itself : {X : Type 0} → (xs : List X) (n : ℕ) (x : X) → slice_get xs n ≡ Some x → slice_set xs n x ≡ xs
    set_itself [] n x is = absurd cc
    set_itself (y ∷ ys) zero x is = ap (λ z. z ∷ ys) (there is)
      where
        there : {X : Type 0} → {a b : X} → ◌≡◌ {A = Option X} (Some a) (Some b) → b ≡ a
        there e = cc
    set_itself (y ∷ ys) (suc n) x is = ap (λ zs. y ∷ zs) (set_itself ys n x is)

-- nothing is written on the session's link
pub written_nothing : (session_links : List Link) (number : ℕ) (x : Link) (bytes : List ℕ) → at_number session_links number ≡ Some x → bytes ≡ [] → put_number session_links number (written_to B bytes x) ≡ session_links
written_nothing session_links number x bytes at none =
    ap (λ (t : List ℕ). put_number session_links number (written_to B t x)) none ∙ ap (λ (y : Link). put_number session_links number y) (nothing_up x) ∙ put_itself session_links number x at

pub view_nothing : (session_links : List Link) (number present : ℕ) (p peer : Peer) (x : Link) (bytes : List ℕ) → at_number session_links number ≡ Some x → bytes ≡ []
    → View 0 A number present p peer session_links → View 0 A number present p peer (put_number session_links number (written_to B bytes x))
view_nothing session_links number present p peer x bytes at none view =
    subst (λ (ls : List Link). View 0 A number present p peer ls) (sym (written_nothing session_links number x bytes at none)) view

-- ---- calls of the session that keep its link

pub called_on : (s : Option Session) (o : Option Row) (c : Client) (g : Ground s o (live c)) → IsLive s o c g → (drawn : ℕ) (act : Act) (call : Session → Session)
    → KeepsSessionViews call → KeepsLink call → After s o (live c) drawn (act, record c.dialer { stage = stages.Attached; session = call c.dialer.session })
called_on s o c g is drawn act call views keeps =
    let old = c.dialer.session in
    let h = is.here in
    let same = keeps old in
    attached_on s o (live c) g h drawn act (record c.dialer { session = call old }) is.all refl ((number_link call keeps old).1 g.runs)
    (view_nothing g.session_links g.number g.present (call old).peer g.peer h.session_link c.dialer.pending h.session_link_at is.none (views 0 A g.number g.present old g.peer g.session_links g.view))
    (λ going. ap is_linked same.1 ∙ is.linked (sym same.2 ∙ going)) is.behind (λ going. is.read (sym same.2 ∙ going))

-- nothing happens to it
pub same_on : (s : Option Session) (o : Option Row) (c : Client) (g : Ground s o (live c)) → IsLive s o c g → (drawn : ℕ) (act : Act)
    → After s o (live c) drawn (act, record c.dialer { stage = stages.Attached })
same_on s o c g is drawn act = called_on s o c g is drawn act (λ x. x) (λ start side i j x p links v. v) (λ x. (refl, refl, refl))

-- it gives up, or has to
pub over_on : (s : Option Session) (o : Option Row) (c : Client) (g : Ground s o (live c)) → IsLive s o c g → (drawn : ℕ) (act : Act) (end : DialEnd)
    → After s o (live c) drawn (act, record c.dialer { stage = stages.Over end })
over_on s o c g is drawn act end = rests s o (live c) g drawn act c.dialer (stages.Over end) tt refl is.none g.runs g.view g.within

-- its link is lost
lost_on : (s : Option Session) (o : Option Row) (c : Client) (g : Ground s o (live c)) → (drawn : ℕ) (drops : Bool) (now : ℕ) (x : Session) → IsRunning x
    → View 0 A g.number g.present x.peer g.peer g.session_links → After s o (live c) drawn (loses drops now (record c.dialer { stage = stages.Attached; session = x }))
unfolding loses
lost_on s o c g drawn drops now x runs view =
    let e = x.peer.endpoint.epoch in
    rests s o (live c) g drawn (rest_or_drop drops now) (record c.dialer { attempt = 0; lost = now; pending = []; session = lose_session e x }) (stages.Resting now) tt refl refl
    ((number_lose e x).1 runs) (keeps_lose e 0 A g.number g.present x g.peer g.session_links view) g.within

pub loses_on : (s : Option Session) (o : Option Row) (c : Client) (g : Ground s o (live c)) → (drawn : ℕ) (drops : Bool) (now : ℕ)
    → After s o (live c) drawn (loses drops now (record c.dialer { stage = stages.Attached }))
loses_on s o c g drawn drops now = lost_on s o c g drawn drops now c.dialer.session g.runs g.view

-- ---- a tick

pub after_if : (s : Option Session) (o : Option Row) (c : Client) (drawn : ℕ) (b : Bool) (x y : Step) → After s o c drawn x → After s o c drawn y → After s o c drawn (cond b x y)
after_if s o c drawn true x y one other = one
after_if s o c drawn false x y one other = other

pub ticks_on : (s : Option Session) (o : Option Row) (c : Client) (g : Ground s o (live c)) → IsLive s o c g → (drawn now : ℕ)
    → After s o (live c) drawn (ticks now (record c.dialer { stage = stages.Attached }))
unfolding ticks
ticks_on s o c g is drawn now = by (tick_refusal now c.dialer.session)
  where
    by : (refusal : Option Refusal) → After s o (live c) drawn (ticks_unless refusal now (record c.dialer { stage = stages.Attached }))
    by (Some refusal) = over_on s o c g is drawn (ends dial_ends.IdsSpent) dial_ends.IdsSpent
    by None =
        let ticked = tick_session now c.dialer.session in
        after_if s o (live c) drawn (timeout_of now c.dialer.session) _ _
        (lost_on s o c g drawn true now ticked ((number_link (tick_session now) (link_tick now) c.dialer.session).1 g.runs)
        (keeps_tick now 0 A g.number g.present c.dialer.session g.peer g.session_links g.view))
        (called_on s o c g is drawn (rest_until (now + tick_span)) (tick_session now) (keeps_tick now) (link_tick now))

-- ---- it leaves

pub leaves_on : (s : Option Session) (o : Option Row) (c : Client) (g : Ground s o (live c)) → IsLive s o c g → (drawn : ℕ)
    → After s o (live c) drawn (leaves (record c.dialer { stage = stages.Attached }))
unfolding leaves
leaves_on s o c g is drawn = by (leave_refusal c.dialer.session)
  where
    by : (refusal : Option Refusal) → After s o (live c) drawn (leaves_unless refusal (record c.dialer { stage = stages.Attached }))
    by (Some refusal) = over_on s o c g is drawn (ends dial_ends.Stopped) dial_ends.Stopped
    by None =
        let old = c.dialer.session in
        let h = is.here in
        let bytes = shown (leave old.peer.endpoint) in
        left_over s o (live c) g h drawn (ends dial_ends.Stopped) (record c.dialer { pending = c.dialer.pending ++ bytes; session = leave_session old }) dial_ends.Stopped refl
        ((number_leave old).1 g.runs)
        (subst (λ (t : List ℕ). View 0 A g.number g.present (leave_session old).peer g.peer (put_number g.session_links g.number (written_to B t h.session_link)))
        (sym (ap (λ (t : List ℕ). t ++ bytes) is.none))
        (link_left 0 A g.number g.present old g.peer g.session_links g.view h.session_link h.session_link_at))

-- ---- a frame

read_nothing : (x : Link) → read_on A 0 x ≡ x
read_nothing x =
    let same : x.to_a.read + 0 ≡ x.to_a.read = omega arith in
    ap (λ (n : ℕ). record { to_a = record { written = x.to_a.written; read = n }; to_b = x.to_b; is_cut = x.is_cut }) same

-- the turn, in the view
turn_view : (number present now : ℕ) (x : Session) (peer : Peer) (session_links : List Link) (l : Link) → View 0 A number present x.peer peer session_links → at_number session_links number ≡ Some l
    → feed_refusal x.peer.endpoint.epoch x ≡ None
    → View 0 A number present (turn x.peer.endpoint.epoch [] now x).peer peer (put_number session_links number (written_to B (turn_answer x.peer.endpoint.epoch [] now x).out l))
turn_view number present now x peer session_links l view at feeds =
    let e = x.peer.endpoint.epoch in
    subst (λ (y : Link). View 0 A number present (turn e [] now x).peer peer (put_number session_links number (written_to B (turn_answer e [] now x).out y))) (read_nothing l)
    (link_turned 0 A number present x peer session_links view 0 e now l at (omega arith) feeds)

turned_on : (s : Option Session) (o : Option Row) (c : Client) (g : Ground s o (live c)) → IsLive s o c g → (drawn now : ℕ)
    → turn_refusal c.dialer.session.peer.endpoint.epoch [] now c.dialer.session ≡ None → After s o (live c) drawn (turns_unless None now (record c.dialer { stage = stages.Attached }))
turned_on s o c g is drawn now admits = by answer.ended
  where
    old : Session
    old = c.dialer.session

    e : ℕ
    e = old.peer.endpoint.epoch

    answer : TurnAnswer
    answer = turn_answer e [] now old

    d : Dialer
    d = record c.dialer { pending = c.dialer.pending ++ answer.out; session = turn e [] now old }

    feeds : feed_refusal e old ≡ None
    feeds = turn_feeds e now old admits

    view : View 0 A g.number g.present (turn e [] now old).peer g.peer (put_number g.session_links g.number (written_to B (c.dialer.pending ++ answer.out) is.here.session_link))
    view =
        subst (λ (t : List ℕ). View 0 A g.number g.present (turn e [] now old).peer g.peer (put_number g.session_links g.number (written_to B t is.here.session_link)))
        (sym (ap (λ (t : List ℕ). t ++ answer.out) is.none))
        (turn_view g.number g.present now old g.peer g.session_links is.here.session_link g.view is.here.session_link_at feeds)

    by : (cause : Option Cause) → After s o (live c) drawn (after_turn answer cause (record d { stage = stages.Attached }))
    by None =
        attached_on s o (live c) g is.here drawn (act_after answer.took answer.happening) d is.all refl ((number_turn e [] now old).1 g.runs) view
        (λ going. (turn_on e [] now old (λ was. (refl, is.linked was)) going).1) is.behind (λ going. is.read (feeds_going e old feeds))
    by (Some cause) = left_over s o (live c) g is.here drawn (ends (dial_ends.Ended cause)) d (dial_ends.Ended cause) refl ((number_turn e [] now old).1 g.runs) view

refused_on : (s : Option Session) (o : Option Row) (c : Client) (g : Ground s o (live c)) → IsLive s o c g → (drawn now : ℕ) (refusal : Refusal)
    → turn_refusal c.dialer.session.peer.endpoint.epoch [] now c.dialer.session ≡ Some refusal
    → After s o (live c) drawn (turns_unless (Some refusal) now (record c.dialer { stage = stages.Attached }))
refused_on s o c g is drawn now (bad_ipc bad message) why =
    let old = c.dialer.session in
    let e = old.peer.endpoint.epoch in
    let quiet = bad_quiet e now old bad message is.quiet why in
    rests s o (live c) g drawn (ends (dial_ends.Ended BadIpc)) (record c.dialer { session = turn e [] now old }) (stages.Over (dial_ends.Ended BadIpc)) tt refl is.none
    ((number_turn e [] now old).1 g.runs)
    (subst (λ (ls : List Link). View 0 A g.number g.present (turn e [] now old).peer g.peer ls)
    (written_nothing g.session_links g.number is.here.session_link (turn_answer e [] now old).out is.here.session_link_at quiet.1)
    (turn_view g.number g.present now old g.peer g.session_links is.here.session_link g.view is.here.session_link_at quiet.0))
    g.within
refused_on s o c g is drawn now (too_long stated) why = loses_on s o c g drawn true now
refused_on s o c g is drawn now ids_spent why = over_on s o c g is drawn (ends dial_ends.IdsSpent) dial_ends.IdsSpent
refused_on s o c g is drawn now (ended cause) why = same_on s o c g is drawn nothing
refused_on s o c g is drawn now (stale current) why = same_on s o c g is drawn nothing
refused_on s o c g is drawn now no_link why = same_on s o c g is drawn nothing
refused_on s o c g is drawn now (too_large len) why = same_on s o c g is drawn nothing
refused_on s o c g is drawn now (no_such_call id) why = same_on s o c g is drawn nothing
refused_on s o c g is drawn now wrong_kind why = same_on s o c g is drawn nothing

pub turns_on : (s : Option Session) (o : Option Row) (c : Client) (g : Ground s o (live c)) → IsLive s o c g → (drawn now : ℕ)
    → After s o (live c) drawn (turns now (record c.dialer { stage = stages.Attached }))
unfolding turns
turns_on s o c g is drawn now = by (turn_refusal c.dialer.session.peer.endpoint.epoch [] now c.dialer.session) refl
  where
    by : (refusal : Option Refusal) → turn_refusal c.dialer.session.peer.endpoint.epoch [] now c.dialer.session ≡ refusal
        → After s o (live c) drawn (turns_unless refusal now (record c.dialer { stage = stages.Attached }))
    by None why = turned_on s o c g is drawn now why
    by (Some refusal) why = refused_on s o c g is drawn now refusal why
