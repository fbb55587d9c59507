-- The history of a hub only grows.
use Rattle.std.proofs.Common.{◌≡◌, ℕ, Bool, true, false, Option, Some, None, List, [], ◌∷◌, ◌++◌, if◌then◌else◌, take, refl, ap, sym, ◌∙◌, subst, append_assoc, append-nil}
use Rattle.ra_base.specs.declared.handshake.Reason.{Reason}
use Rattle.ra_base.specs.declared.handshake.Request.{Request}
use Rattle.ra_base.specs.declared.key.Cause.{Cause}
use Rattle.ra_base.specs.declared.key.Seat.{Seat}
use Rattle.ra_registry.specs.Admission.{admission_refusal}
use Rattle.ra_registry.specs.declared.past.Past.{Past}
use Rattle.ra_session.specs.Sessions.{Session}
use Rattle.ra_upgrade.specs.declared.request_head.HeadFault.{HeadFault}
use Rattle.ra_upgrade.specs.declared.request_head.Upgrade.{Upgrade}
use Rattle.ra_items.specs.Heads.{Head}
use Rattle.ra_opening.specs.Openings.{Grounds, opened, Stage}
use Rattle.ra_opening.specs.Openings.Stage.{Heading, Shaking, Asked, Over}
use Rattle.ra_hub.specs.Hubs.{Hub, row, closes, admitted, refused, seat_lost, seat_closed}
use Rattle.ra_link_core.specs.HubEvents.{HubEvent, judged_by, on_session, event_done, events_done}
use Rattle.ra_link_core.specs.HubEvents.HubEvent.{Admit, Attach, Turn, Lose, Close}
use Rattle.ra_link_core.specs.LinkRuns.{Piece, End, Serving, opening_by, piece_by, piece_done, turns_for, with_piece, hub_left}
use Rattle.ra_link_core.specs.Makes.{Happens}
use Rattle.ra_link_core.proofs.GrowLemmas.{grows_served, grows_asked}
use Rattle.ra_grand_runs.specs.GrandClients.{GrandLink}
use Rattle.ra_grand_runs.specs.Grands.{Grand}
use Rattle.ra_grand_runs.specs.Lasting.{BeginsWith}
use Rattle.ra_grand_runs.specs.Marks.{Mark, whole, short, unticked}
use Rattle.ra_grand_runs.specs.ServedLinks.{draw_at, serving_at, served, came_by, left, settled}
use Rattle.ra_grand_runs.specs.SetUps.{grounds}

-- ---- fronts

pub begins_itself : {X : Type 0} → (xs : List X) → BeginsWith xs xs
begins_itself xs = ([], sym (append-nil xs))

pub begins_trans : {X : Type 0} → (xs ys zs : List X) → BeginsWith ys xs → BeginsWith zs ys → BeginsWith zs xs
begins_trans {X} xs ys zs a b = (a.0 ++ b.0, b.1 ∙ ap (λ (l : List X). l ++ b.0) a.1 ∙ append_assoc xs a.0 b.0)

abbrev pub Longer : Hub → Hub → Type 0
Longer h k = BeginsWith k.registry.history h.registry.history

pub longer_itself : (h : Hub) → Longer h h
longer_itself h = begins_itself h.registry.history

pub longer_trans : (h k l : Hub) → Longer h k → Longer k l → Longer h l
longer_trans h k l a b = begins_trans h.registry.history k.registry.history l.registry.history a b

-- ---- events of a hub

new_session : (b : Bool) (h k : Hub) (entry : List Past) → k.registry ≡ h.registry → BeginsWith ((if b then h else k).registry.history ++ entry) h.registry.history
new_session true h k entry same = (entry, refl)
new_session false h k entry same = (entry, ap (λ r. r.history ++ entry) same)

ended : (b : Bool) (h k : Hub) (entry : List Past) → k.registry ≡ h.registry → BeginsWith ((if b then k else h).registry.history ++ entry) h.registry.history
ended true h k entry same = (entry, ap (λ r. r.history ++ entry) same)
ended false h k entry same = (entry, refl)

judged : (o : Option Reason) (ask : Request) (now : ℕ) (h : Hub) → Longer h (judged_by o ask now h)
unfolding admitted refused
judged None ask now h = new_session ask.reconnection h _ _ refl
judged (Some reason) ask now h = (_, refl)

in_session : (o : Option Session) (change : Session → Hub) (h : Hub) → ((s : Session) → Longer h (change s)) → Longer h (on_session o change h)
in_session None change h longer = longer_itself h
in_session (Some s) change h longer = longer s

lost : (seat : Seat) (now : ℕ) (s : Session) (h : Hub) → Longer h (seat_lost seat now s h)
unfolding seat_lost
lost seat now s h = (_, refl)

closed : (seat : Seat) (cause : Cause) (now : ℕ) (s : Session) (h : Hub) → Longer h (seat_closed seat cause now s h)
unfolding seat_closed
closed seat cause now s h = ended (closes seat.epoch (row h seat.key)) h _ _ refl

pub longer_event : (e : HubEvent) (h : Hub) → Longer h (event_done e h)
unfolding event_done
longer_event (Admit ask now) h = judged (admission_refusal h.registry ask now) ask now h
longer_event (Attach seat chunk now) h = in_session (h.session seat.key) _ h (λ s. longer_itself h)
longer_event (Turn seat piece now) h = in_session (h.session seat.key) _ h (λ s. longer_itself h)
longer_event (Lose seat now) h = in_session (h.session seat.key) _ h (λ s. lost seat now s h)
longer_event (Close seat cause now) h = in_session (h.session seat.key) _ h (λ s. closed seat cause now s h)

pub longer_events : (es : List HubEvent) (h : Hub) → Longer h (events_done es h)
longer_events [] h = longer_itself h
longer_events (e ∷ es) h = longer_trans h (event_done e h) (events_done es (event_done e h)) (longer_event e h) (longer_events es (event_done e h))

pub longer_left : (o : Option Seat) (now : ℕ) (h : Hub) → Longer h (hub_left o now h)
longer_left None now h = longer_itself h
longer_left (Some seat) now h = longer_event (Lose seat now) h

-- ---- a piece on a link

grown : (s t : Serving) → Happens s t → Longer s.hub t.hub
grown s t happens = subst (λ (h : Hub). Longer s.hub h) (sym happens.hub) (longer_events happens.more s.hub)

opened_so : (stage : Stage) (text : List ℕ) (now : ℕ) (s : Serving) → Longer s.hub (opening_by stage text now s).hub
opened_so Heading text now s = longer_itself s.hub
opened_so (Shaking shake) text now s = longer_itself s.hub
opened_so (Asked request place) text now s = grown s _ (grows_asked request place _ now s).happens
opened_so (Over end) text now s = longer_itself s.hub

by_piece : (end : Option End) (seat : Option Seat) (g : Grounds) (text : List ℕ) (head : Head Upgrade HeadFault) (piece : Piece) (s : Serving)
    → Longer s.hub (piece_by end seat g text head piece s).hub
by_piece (Some end) seat g text head piece s = longer_itself s.hub
by_piece None (Some seat) g text head piece s = grown s _ (grows_served (turns_for piece.bytes) seat piece.bytes piece.now s).happens
by_piece None None g text head piece s =
    let o = opened g head text in opened_so o.stage text piece.now (record s { out = o.out; drawn = o.drawn })

served_longer : (bytes : List ℕ) (l : GrandLink) (w : Grand) → Longer w.hub (served bytes l w).hub
unfolding served piece_done
served_longer bytes l w =
    by_piece None l.server.seat (grounds (draw_at l w)) (with_piece l.server.head l.server.seen bytes) l.server.head (record { bytes = bytes; now = w.now })
    (serving_at l w)

came_longer : (mark : Mark) (bytes : List ℕ) (l : GrandLink) (w : Grand) → Longer w.hub (came_by mark (serving_at l w) (served bytes l w)).link.hub
came_longer whole bytes l w = served_longer bytes l w
came_longer (short draws calls put) bytes l w = longer_events (take calls (served bytes l w).events) w.hub
came_longer (unticked keys) bytes l w = served_longer bytes l w

settled_by : (b : Bool) (now : ℕ) (h : Hub) (s : Serving) → Longer h s.hub → Longer h (if b then left now s else s).hub
settled_by true now h s longer = longer_trans h s.hub (hub_left s.seat now s.hub) longer (longer_left s.seat now s.hub)
settled_by false now h s longer = longer

pub piece_longer : (mark : Mark) (bytes : List ℕ) (l : GrandLink) (w : Grand)
    → Longer w.hub (settled w.now (came_by mark (serving_at l w) (served bytes l w))).hub
piece_longer mark bytes l w =
    let c = came_by mark (serving_at l w) (served bytes l w) in settled_by c.is_over w.now w.hub c.link (came_longer mark bytes l w)
