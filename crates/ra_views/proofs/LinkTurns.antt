-- A link of a session begins, is read, and takes what goes out.
use Rattle.std.proofs.Common.{◌≡◌, ℕ, suc, zero, ◌<◌, ◌≤◌, Bool, true, false, not, ◌&&◌, eqb, Option, Some, None, List, length, take, refl, sym, subst}
use Rattle.std.specs.Prelude.{option_map, nat_le, nat_lt}
use Rattle.std.proofs.lemmas.Bool.{false≢true, lt-ltb, leb-false}
use Rattle.std.proofs.lemmas.List.{set-set}
use Rattle.ra_base.specs.declared.key.Cause.{Cause}
use Rattle.ra_model.specs.Endpoints.{Endpoint, is_linked, is_ended, shown}
use Rattle.ra_model.specs.Refusals.{or_fault, fault_if}
use Rattle.ra_model.specs.Calls.{can_begin, can_feed, leave}
use Rattle.ra_model.specs.Links.{Link, other, direction_to, at_number, put_number, readable, read_on, written_to}
use Rattle.ra_model.specs.Events.{begun}
use Rattle.ra_model.specs.Views.{View, called}
use Rattle.ra_model.proofs.CallMoves.{views_leave}
use Rattle.ra_model.proofs.LinkMoves.{view_feed}
use Rattle.ra_model.proofs.Numbers.{put_same}
use Rattle.ra_session.specs.Sessions.{Session}
use Rattle.ra_session.specs.SessionCalls.{emptied, attach, feed_session, take_out, leave_session, resumes}
use Rattle.ra_session.specs.SessionRefusals.{ended, stale, no_link, attach_refusal, feed_refusal}
use Rattle.ra_session.specs.Turns.{take_in, take_turn, turn, taken_answer, turn_answer}
use Rattle.ra_session.specs.OnLinks.{IsRunning}
use Rattle.ra_views.specs.SessionViews.{InEverySessionView}
use Rattle.ra_views.proofs.EndpointMoves.{views_joined, view_emptied}
use Rattle.ra_views.proofs.LaterLinks.{view_later}
use Rattle.ra_views.proofs.SessionMoves.{keeps_take}

-- ---- a link begins

attach_admits : (c : Option Cause) (low : Bool) (n : ℕ) → or_fault (option_map (λ cause. ended cause) c) (fault_if low (stale n)) ≡ None → (c ≡ None) × (low ≡ false)
attach_admits None true n is = cc
attach_admits None false n is = (refl, refl)
attach_admits (Some cause) low n is = cc

can : (over later : Bool) → over ≡ false → later ≡ true → (not over && later) ≡ true
can true later going up = absurd (false≢true (sym going))
can false later going up = up

begins_on : (epoch : ℕ) (s : Session) → IsRunning s → attach_refusal epoch s ≡ None → can_begin epoch s.peer.endpoint ≡ true
unfolding attach_refusal
begins_on epoch s runs admits =
    let e : Endpoint = s.peer.endpoint in
    let found : (s.cause ≡ None) × (nat_le epoch e.epoch ≡ false) = attach_admits s.cause (nat_le epoch e.epoch) e.epoch admits in
    can (is_ended e.phase) (nat_lt e.epoch epoch) (runs found.0) (lt-ltb e.epoch epoch (leb-false epoch e.epoch found.1))

pub link_attached : InEverySessionView (λ start side i j s o links. (n k epoch now : ℕ) (l : Link) → i < n → at_number links n ≡ Some l
    → k ≤ length (direction_to side l).written → IsRunning s → attach_refusal epoch s ≡ None
    → View start side n j (attach epoch (take k (direction_to side l).written) now s).peer o (put_number links n (read_on side k l)))
unfolding attach
link_attached start side i j s o links v n k epoch now l later at fits runs admits =
    views_joined (resumes s.serves s.kind) now start side n j (begun epoch (take k (direction_to side l).written) now s.peer) o (put_number links n (read_on side k l))
    (view_later start side i j s.peer o links n k epoch l now v later at fits (begins_on epoch s runs admits))

-- ---- it is read

feed_admits : (c : Option Cause) (same linked : Bool) (n : ℕ)
    → or_fault (option_map (λ cause. ended cause) c) (or_fault (fault_if (not same) (stale n)) (fault_if (not linked) no_link)) ≡ None → (linked && same) ≡ true
feed_admits None true true n is = refl
feed_admits None true false n is = cc
feed_admits None false linked n is = cc
feed_admits (Some cause) same linked n is = cc

pub feeds_on : (epoch : ℕ) (s : Session) → feed_refusal epoch s ≡ None → can_feed epoch s.peer.endpoint ≡ true
unfolding feed_refusal
feeds_on epoch s admits = feed_admits s.cause (eqb epoch s.peer.endpoint.epoch) (is_linked s.peer.endpoint.phase) s.peer.endpoint.epoch admits

pub link_fed : InEverySessionView (λ start side i j s o links. (k epoch now : ℕ) (l : Link) → at_number links i ≡ Some l
    → k ≤ length (readable side l) → feed_refusal epoch s ≡ None
    → View start side i j (feed_session epoch (take k (readable side l)) now s).peer o (put_number links i (read_on side k l)))
unfolding feed_session
link_fed start side i j s o links v k epoch now l at fits admits =
    view_feed start side i j s.peer o links k epoch l now v at fits (feeds_on epoch s admits)

-- ---- all that may go out goes out

pub link_out : InEverySessionView (λ start side i j s o links. (l : Link) → at_number links i ≡ Some l
    → View start side i j (take_out s).peer o (put_number links i (written_to (other side) (shown s.peer.endpoint) l)))
unfolding take_out
link_out start side i j s o links v l at = view_emptied start side i j s.peer o links l v at

pub link_left : InEverySessionView (λ start side i j s o links. (l : Link) → at_number links i ≡ Some l
    → View start side i j (leave_session s).peer o (put_number links i (written_to (other side) (shown (leave s.peer.endpoint)) l)))
unfolding leave_session
link_left start side i j s o links v l at =
    view_emptied start side i j (called leave s.peer) o links l (views_leave start side i j s.peer o links v) at

put_again : {X : Type 0} → (xs : List X) (n : ℕ) (x y : X) → put_number (put_number xs n x) n y ≡ put_number xs n y
put_again xs zero x y = refl
put_again xs (suc n) x y = set-set xs n x y

pub link_turned : InEverySessionView (λ start side i j s o links. (k epoch now : ℕ) (l : Link) → at_number links i ≡ Some l
    → k ≤ length (readable side l) → feed_refusal epoch s ≡ None
    → View start side i j (turn epoch (take k (readable side l)) now s).peer o
    (put_number links i (written_to (other side) (turn_answer epoch (take k (readable side l)) now s).out (read_on side k l))))
unfolding turn take_turn take_out turn_answer taken_answer
link_turned start side i j s o links v k epoch now l at fits admits =
    let fed : Session = feed_session epoch (take k (readable side l)) now s in
    let read : Link = read_on side k l in
    let went : Session = take_in now fed in
    let before : View start side i j went.peer o (put_number links i read) =
    keeps_take now start side i j fed o (put_number links i read) (link_fed start side i j s o links v k epoch now l at fits admits) in
    subst (λ (ls : List Link). View start side i j (called emptied went.peer) o ls) (put_again links i read (written_to (other side) (shown went.peer.endpoint) read))
    (view_emptied start side i j went.peer o (put_number links i read) read before (put_same links i l read at))
