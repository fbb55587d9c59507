-- No turn of a session in a view is refused for a header that states too long a body.
use Rattle.std.proofs.Common.{◌≡◌, ◌≢◌, ℕ, ◌≤◌, Bool, true, false, not, ◌&&◌, eqb, Option, Some, None, List, length, take, refl, sym}
use Rattle.std.specs.Prelude.{option_map}
use Rattle.std.proofs.lemmas.Bool.{cond_both, false≢true}
use Rattle.ra_base.specs.declared.event.Side.{Side}
use Rattle.ra_base.specs.declared.key.Cause.{Cause}
use Rattle.ra_model.specs.declared.session.Up.{Up as Delivery}
use Rattle.ra_model.specs.declared.session.Up.TheVariants.{Message as HandedUp, Control, Quiet, Ended as Closed}
use Rattle.ra_model.specs.Endpoints.{Endpoint, is_linked}
use Rattle.ra_model.specs.FirstFrame.{is_too_long, stated}
use Rattle.ra_model.specs.Refusals.{or_fault, fault_if}
use Rattle.ra_model.specs.Calls.{can_feed, feed}
use Rattle.ra_model.specs.Taking.{delivery}
use Rattle.ra_model.specs.Links.{Link, other, at_number, put_number, readable, read_on}
use Rattle.ra_model.specs.Worlds.{Peer}
use Rattle.ra_model.specs.Views.{View}
use Rattle.ra_model.proofs.Incoming.{unread_within}
use Rattle.ra_session.specs.Sessions.{Session}
use Rattle.ra_session.specs.Hearing.{Heard, spoils, hears}
use Rattle.ra_session.specs.SessionCalls.{feed_session}
use Rattle.ra_session.specs.SessionRefusals.{Refusal, ended, stale, no_link, too_long, ids_spent, feed_refusal}
use Rattle.ra_session.specs.Turns.{heard_at}
use Rattle.ra_session.specs.TurnRefusals.{delivery_refusal, heard_refusal, taken_refusal, turn_refusal}
use Rattle.ra_views.specs.SessionViews.{InEverySessionView}
use Rattle.ra_views.proofs.LinkTurns.{feeds_on, link_fed}

-- of two refusals
not_first : (stated : ℕ) (a b : Option Refusal) → (a ≡ Some (too_long stated) → ⊥) → (a ≡ None → b ≡ Some (too_long stated) → ⊥) → or_fault a b ≡ Some (too_long stated) → ⊥
not_first stated None b first second is = second refl is
not_first stated (Some r) b first second is = first is

-- of the parts of a turn
feed_long : (c : Option Cause) (other linked : Bool) (n stated : ℕ)
    → or_fault (option_map (λ cause. ended cause) c) (or_fault (fault_if other (stale n)) (fault_if (not linked) no_link)) ≡ Some (too_long stated) → ⊥
feed_long None true linked n stated is = cc
feed_long None false true n stated is = cc
feed_long None false false n stated is = cc
feed_long (Some cause) other linked n stated is = cc

spent_long : (b : Bool) (stated : ℕ) → fault_if b ids_spent ≡ Some (too_long stated) → ⊥
spent_long true stated is = cc
spent_long false stated is = cc

heard_long : (means : Heard) (body : List ℕ) (e : Endpoint) (stated : ℕ) → heard_refusal means body e ≡ Some (too_long stated) → ⊥
heard_long (spoils bad) body e stated is = cc
heard_long (hears h) body e stated is = spent_long _ stated is

delivery_long : (up : Option Delivery) (now : ℕ) (s : Session) (e : Endpoint) (stated : ℕ) → delivery_refusal up now s e ≡ Some (too_long stated) → ⊥
delivery_long None now s e stated is = cc
delivery_long (Some (HandedUp id body)) now s e stated is = heard_long (heard_at s id body now) body e stated is
delivery_long (Some (Control body)) now s e stated is = cc
delivery_long (Some Quiet) now s e stated is = cc
delivery_long (Some Closed) now s e stated is = cc

unread_long : (b : Bool) (n stated : ℕ) → b ≡ false → fault_if b (too_long n) ≡ Some (too_long stated) → ⊥
unread_long true n stated within is = false≢true (sym within)
unread_long false n stated within is = cc

taken_long : (now : ℕ) (s : Session) (n : ℕ) → is_too_long s.peer.endpoint.unread ≡ false → taken_refusal now s ≡ Some (too_long n) → ⊥
unfolding taken_refusal
taken_long now s n within is =
    not_first n _ _ (unread_long (is_too_long s.peer.endpoint.unread) (stated s.peer.endpoint.unread) n within)
    (λ _. delivery_long (delivery s.peer.endpoint) now s s.peer.endpoint n) is

linked_from : (linked same : Bool) → (linked && same) ≡ true → linked ≡ true
linked_from true same is = refl
linked_from false same is = is

-- a link that is read is there, and stays
fed_linked : (epoch : ℕ) (piece : List ℕ) (now : ℕ) (e : Endpoint) → can_feed epoch e ≡ true → is_linked (feed epoch piece now e).phase ≡ true
unfolding feed
fed_linked epoch piece now e can =
    let up : is_linked e.phase ≡ true = linked_from (is_linked e.phase) (eqb epoch e.epoch) can in
    cond_both (can_feed epoch e) _ _ (λ (x : Endpoint). is_linked x.phase ≡ true) (λ yes. up) (λ no. up)

fed_within : (start : ℕ) (side : Side) (i j : ℕ) (s : Session) (o : Peer) (links : List Link) (epoch : ℕ) (piece : List ℕ) (now : ℕ) → can_feed epoch s.peer.endpoint ≡ true
    → View start side i j (feed_session epoch piece now s).peer o links → is_too_long (feed_session epoch piece now s).peer.endpoint.unread ≡ false
unfolding feed_session
fed_within start side i j s o links epoch piece now can v = unread_within v.reads v.theirs (fed_linked epoch piece now s.peer.endpoint can)

fed_long : (epoch : ℕ) (s : Session) (stated : ℕ) → feed_refusal epoch s ≡ Some (too_long stated) → ⊥
unfolding feed_refusal
fed_long epoch s stated is = feed_long s.cause (not (eqb epoch s.peer.endpoint.epoch)) (is_linked s.peer.endpoint.phase) s.peer.endpoint.epoch stated is

pub link_within : InEverySessionView (λ start side i j s o links. (k epoch now stated : ℕ) (l : Link) → at_number links i ≡ Some l
    → k ≤ length (readable side l) → turn_refusal epoch (take k (readable side l)) now s ≢ Some (too_long stated))
unfolding turn_refusal
link_within start side i j s o links v k epoch now n l at fits is =
    let piece : List ℕ = take k (readable side l) in
    not_first n (feed_refusal epoch s) (taken_refusal now (feed_session epoch piece now s)) (fed_long epoch s n)
    (λ admits. taken_long now (feed_session epoch piece now s) n
    (fed_within start side i j s o (put_number links i (read_on side k l)) epoch piece now (feeds_on epoch s admits) (link_fed start side i j s o links v k epoch now l at fits admits)))
    is
