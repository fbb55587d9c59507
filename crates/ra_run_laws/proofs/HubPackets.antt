-- The packets that the session of a key has said, but for Initialize: calls of a hub that a link makes add none.
use Rattle.std.proofs.Common.{◌≡◌, ℕ, Bool, true, false, cond, Option, Some, None, option_map, List, [], ◌∷◌, ◌++◌, take, refl, ap, sym, ◌∙◌, subst, append-nil}
use Rattle.std.specs.Prelude.{if◌then◌else◌}
use Rattle.std.specs.List.{list_any}
use Rattle.ra_base.specs.declared.handshake.Reason.{Reason}
use Rattle.ra_base.specs.declared.handshake.Request.{Request}
use Rattle.ra_base.specs.declared.key.Cause.{Cause}
use Rattle.ra_base.specs.declared.key.Key.{Key}
use Rattle.ra_base.specs.declared.key.Seat.{Seat}
use Rattle.ra_upgrade.specs.declared.request_head.HeadFault.{HeadFault}
use Rattle.ra_upgrade.specs.declared.request_head.Upgrade.{Upgrade}
use Rattle.ra_items.specs.Heads.{Head}
use Rattle.ra_opening.specs.Openings.{Grounds, Stage, opened}
use Rattle.ra_opening.specs.Openings.Stage.{Heading, Shaking, Asked, Over}
use Rattle.ra_registry.specs.Admission.{key_of, admission_refusal, admission_entry}
use Rattle.ra_registry.specs.Rows.{same_key}
use Rattle.ra_registry.proofs.SameKeys.{same_key_is}
use Rattle.ra_session.specs.Saying.{serving}
use Rattle.ra_session.specs.SessionCalls.{attach, lose_session, end_session}
use Rattle.ra_session.specs.Sessions.{Session}
use Rattle.ra_session.specs.Turns.{turn}
use Rattle.ra_hub.specs.Hubs.{Hub, row, enter, at_key, closes, admitted, refused, seat_lost, seat_closed}
use Rattle.ra_hub.specs.Sweeps.{swept, grace_is_over}
use Rattle.ra_ipc.specs.Messages.{Message}
use Rattle.ra_link_core.specs.HubEvents.{HubEvent, judged_by, on_session, event_done, events_done}
use Rattle.ra_link_core.specs.HubEvents.HubEvent.{Admit, Attach, Turn, Lose, Close}
use Rattle.ra_link_core.specs.LinkRuns.{Piece, End, Serving, opening_by, piece_by, piece_done, turns_for, with_piece, hub_left}
use Rattle.ra_link_core.specs.Makes.{Happens}
use Rattle.ra_link_core.proofs.GrowLemmas.{grows_served, grows_asked}
use Rattle.ra_grand_runs.specs.GrandClients.{GrandLink}
use Rattle.ra_grand_runs.specs.Grands.{Grand}
use Rattle.ra_grand_runs.specs.GrandSweeps.{swept_hub}
use Rattle.ra_grand_runs.specs.Marks.{Mark, whole, short, unticked}
use Rattle.ra_grand_runs.specs.ServedLinks.{draw_at, serving_at, served, came_by, left}
use Rattle.ra_grand_runs.specs.SetUps.{grounds}
use Rattle.ra_run_laws.specs.SaidPackets.{late_of}
use Rattle.ra_run_laws.proofs.Lists.{by_bool}
use Rattle.ra_run_laws.proofs.RisingHubs.{HaveRows, step_event, fresh_row}
use Rattle.ra_run_laws.proofs.SessionPackets.{HasSaid, said_attach, said_lose, said_end, said_turn, said_swept}

-- the session of the key has said these; where there is none, there are none
abbrev pub SaidOf : List Message → Option Session → Type 0
SaidOf said None = said ≡ []
SaidOf said (Some s) = HasSaid said s

abbrev pub HubSaid : Key → List Message → Hub → Type 0
HubSaid key said h = SaidOf said (h.session key)

-- ---- one session changes

at_one : (key of : Key) (said : List Message) (h : Hub) (s t : Session) → h.session of ≡ Some s → (HasSaid said s → HasSaid said t) → HubSaid key said h → HubSaid key said (at_key of t h)
at_one key of said h s t is more has = by_bool (same_key of key) here elsewhere
  where
    here : same_key of key ≡ true → SaidOf said (cond (same_key of key) (Some t) (h.session key))
    here same =
        subst (λ (b : Bool). SaidOf said (cond b (Some t) (h.session key))) (sym same)
        (more (subst (λ (o : Option Session). SaidOf said o) (ap h.session (sym (same_key_is of key same)) ∙ is) has))

    elsewhere : same_key of key ≡ false → SaidOf said (cond (same_key of key) (Some t) (h.session key))
    elsewhere apart = subst (λ (b : Bool). SaidOf said (cond b (Some t) (h.session key))) (sym apart) has

called : (o : Option Session) (key of : Key) (said : List Message) (h : Hub) (call : Session → Session) → ((s : Session) → HasSaid said s → HasSaid said (call s)) → h.session of ≡ o
    → HubSaid key said h → HubSaid key said (on_session o (λ (s : Session). at_key of (call s) h) h)
called None key of said h call more is has = has
called (Some s) key of said h call more is has = at_one key of said h s (call s) is (more s) has

-- ---- calls of a link

fresh : (key : Key) (said : List Message) (h : Hub) (ask : Request) (now : ℕ) → admission_refusal h.registry ask now ≡ None → HaveRows h → HubSaid key said h → HubSaid key said (admitted ask now h)
unfolding admitted
fresh key said h ask now none rows has = by ask.reconnection refl
  where
    new : Session
    new = serving (key_of ask).kind now

    by : (b : Bool) → ask.reconnection ≡ b → HubSaid key said (enter (admission_entry h.registry ask now) (cond b h (at_key (key_of ask) new h)))
    by true claims = has
    by false claims = by_bool (same_key (key_of ask) key) here elsewhere
      where
        unknown : h.session (key_of ask) ≡ None
        unknown = rows (key_of ask) (fresh_row h.registry ask now none claims)

        here : same_key (key_of ask) key ≡ true → SaidOf said (cond (same_key (key_of ask) key) (Some new) (h.session key))
        here same =
            subst (λ (b : Bool). SaidOf said (cond b (Some new) (h.session key))) (sym same)
            (record { packets = sym (subst (λ (o : Option Session). SaidOf said o) (ap h.session (sym (same_key_is (key_of ask) key same)) ∙ unknown) has); none = refl })

        elsewhere : same_key (key_of ask) key ≡ false → SaidOf said (cond (same_key (key_of ask) key) (Some new) (h.session key))
        elsewhere apart = subst (λ (b : Bool). SaidOf said (cond b (Some new) (h.session key))) (sym apart) has

judged : (o : Option Reason) (key : Key) (said : List Message) (ask : Request) (now : ℕ) (h : Hub) → admission_refusal h.registry ask now ≡ o → HaveRows h → HubSaid key said h
    → HubSaid key said (judged_by o ask now h)
unfolding refused
judged None key said ask now h none rows has = fresh key said h ask now none rows has
judged (Some reason) key said ask now h none rows has = has

lost : (o : Option Session) (key : Key) (said : List Message) (seat : Seat) (now : ℕ) (h : Hub) → h.session seat.key ≡ o → HubSaid key said h
    → HubSaid key said (on_session o (λ (s : Session). seat_lost seat now s h) h)
unfolding seat_lost
lost None key said seat now h is has = has
lost (Some s) key said seat now h is has = at_one key seat.key said h s (lose_session seat.epoch s) is (said_lose said seat.epoch s) has

closed : (o : Option Session) (key : Key) (said : List Message) (seat : Seat) (cause : Cause) (now : ℕ) (h : Hub) → h.session seat.key ≡ o → HubSaid key said h
    → HubSaid key said (on_session o (λ (s : Session). seat_closed seat cause now s h) h)
unfolding seat_closed
closed None key said seat cause now h is has = has
closed (Some s) key said seat cause now h is has = by (closes seat.epoch (row h seat.key))
  where
    by : (b : Bool) → SaidOf said ((cond b (at_key seat.key (end_session cause s) h) h).session key)
    by true = at_one key seat.key said h s (end_session cause s) is (said_end said cause s) has
    by false = has

pub said_event : (key : Key) (said : List Message) (e : HubEvent) (h : Hub) → HaveRows h → HubSaid key said h → HubSaid key said (event_done e h)
unfolding event_done
said_event key said (Admit ask now) h rows has = judged (admission_refusal h.registry ask now) key said ask now h refl rows has
said_event key said (Attach seat chunk now) h rows has =
    called (h.session seat.key) key seat.key said h (attach seat.epoch chunk now) (λ s. said_attach said seat.epoch chunk now s) refl has
said_event key said (Turn seat piece now) h rows has =
    called (h.session seat.key) key seat.key said h (turn seat.epoch piece now) (λ s. said_turn said seat.epoch piece now s) refl has
said_event key said (Lose seat now) h rows has = lost (h.session seat.key) key said seat now h refl has
said_event key said (Close seat cause now) h rows has = closed (h.session seat.key) key said seat cause now h refl has

said_events : (key : Key) (said : List Message) (es : List HubEvent) (h : Hub) → HaveRows h → HubSaid key said h → HubSaid key said (events_done es h)
said_events key said [] h rows has = has
said_events key said (e ∷ es) h rows has = said_events key said es (event_done e h) (step_event e h rows).1 (said_event key said e h rows has)

pub said_left : (key : Key) (said : List Message) (o : Option Seat) (now : ℕ) (h : Hub) → HaveRows h → HubSaid key said h → HubSaid key said (hub_left o now h)
said_left key said None now h rows has = has
said_left key said (Some seat) now h rows has = said_event key said (Lose seat now) h rows has

-- ---- a piece

grown : (key : Key) (said : List Message) (s t : Serving) → Happens s t → HaveRows s.hub → HubSaid key said s.hub → HubSaid key said t.hub
grown key said s t happens rows has = subst (λ (h : Hub). HubSaid key said h) (sym happens.hub) (said_events key said happens.more s.hub rows has)

opened_so : (key : Key) (said : List Message) (stage : Stage) (came : List ℕ) (now : ℕ) (s : Serving) → HaveRows s.hub → HubSaid key said s.hub → HubSaid key said (opening_by stage came now s).hub
opened_so key said Heading came now s rows has = has
opened_so key said (Shaking shake) came now s rows has = has
opened_so key said (Asked request place) came now s rows has = grown key said s _ (grows_asked request place _ now s).happens rows has
opened_so key said (Over end) came now s rows has = has

by_piece : (key : Key) (said : List Message) (end : Option End) (seat : Option Seat) (g : Grounds) (came : List ℕ) (head : Head Upgrade HeadFault) (piece : Piece) (s : Serving)
    → HaveRows s.hub → HubSaid key said s.hub → HubSaid key said (piece_by end seat g came head piece s).hub
by_piece key said (Some end) seat g came head piece s rows has = has
by_piece key said None (Some seat) g came head piece s rows has = grown key said s _ (grows_served (turns_for piece.bytes) seat piece.bytes piece.now s).happens rows has
by_piece key said None None g came head piece s rows has =
    let o = opened g head came in opened_so key said o.stage came piece.now (record s { out = o.out; drawn = o.drawn }) rows has

said_served : (key : Key) (said : List Message) (bytes : List ℕ) (l : GrandLink) (w : Grand) → HaveRows w.hub → HubSaid key said w.hub → HubSaid key said (served bytes l w).hub
unfolding served piece_done
said_served key said bytes l w rows has =
    by_piece key said None l.server.seat (grounds (draw_at l w)) (with_piece l.server.head l.server.seen bytes) l.server.head (record { bytes = bytes; now = w.now })
    (serving_at l w) rows has

pub said_came : (key : Key) (said : List Message) (mark : Mark) (bytes : List ℕ) (l : GrandLink) (w : Grand) → HaveRows w.hub → HubSaid key said w.hub
    → HubSaid key said (came_by mark (serving_at l w) (served bytes l w)).link.hub
said_came key said whole bytes l w rows has = said_served key said bytes l w rows has
said_came key said (short draws made put) bytes l w rows has = said_events key said (take made (served bytes l w).events) w.hub rows has
said_came key said (unticked keys) bytes l w rows has = said_served key said bytes l w rows has

pub said_settled : (key : Key) (said : List Message) (b : Bool) (now : ℕ) (s : Serving) → HaveRows s.hub → HubSaid key said s.hub → HubSaid key said (if b then left now s else s).hub
said_settled key said true now s rows has = said_left key said s.seat now s.hub rows has
said_settled key said false now s rows has = has

-- ---- a sweep

pub said_sweep : (key : Key) (said : List Message) (now : ℕ) (keys unswept : List Key) (h : Hub) → HubSaid key said h
    → HubSaid key (said ++ late_of (grace_is_over h now key) (list_any (same_key key) unswept) now (h.session key)) (swept_hub now keys unswept h)
said_sweep key said now keys unswept h has = by (h.session key) has
  where
    by : (o : Option Session) → SaidOf said o
        → SaidOf (said ++ late_of (grace_is_over h now key) (list_any (same_key key) unswept) now o) (option_map (swept (grace_is_over h now key) (list_any (same_key key) unswept) now) o)
    by None none = append-nil said ∙ none
    by (Some s) before = said_swept said (grace_is_over h now key) (list_any (same_key key) unswept) now s before
