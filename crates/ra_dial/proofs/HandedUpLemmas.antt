-- What an attached dialer hands up was the next message of its session.
use Rattle.std.proofs.Common.{◌≡◌, ℕ, suc, Bool, true, false, cond, eqb, List, [], ◌∷◌, ◌++◌, length, map, Option, None, Some, option_map, is_some, refl, sym, ap, subst, ◌∙◌}
use Rattle.ra_base.specs.declared.key.Cause.{Cause}
use Rattle.ra_model.specs.declared.session.Up.{Up as Delivery}
use Rattle.ra_model.specs.declared.session.Up.TheVariants.{Message as Delivered, Control, Quiet, Ended}
use Rattle.std.proofs.lemmas.Bool.{cond-true, eqb-true}
use Rattle.std.specs.Prelude.{nat_le}
use Rattle.ra_model.specs.declared.frame.Frame.{Frame}
use Rattle.ra_model.specs.FrameKinds.{FrameKind, frame_kind}
use Rattle.ra_model.specs.FrameKinds.FrameKind.{Regular, Control as ControlFrame, Disconnect, ReplayRequest, Pause, Resume, Other}
use Rattle.ra_model.specs.Endpoints.{Endpoint, shown}
use Rattle.ra_model.specs.Events.{taken}
use Rattle.ra_model.specs.Calls.{say, can_say, wrote, moment}
use Rattle.ra_proto.specs.SayAll.{say_all}
use Rattle.ra_ipc.specs.Packets.{message_bytes}
use Rattle.ra_model.specs.Taking.{delivery, delivery_of, next_frame, took, take_frame, on_frame, on_regular, passed}
use Rattle.ra_model.proofs.LinkMoves.{received_fed}
use Rattle.ra_session.specs.Hearing.{Happening, Heard, spoils, hears, work, host, call_settled, event_fired}
use Rattle.ra_session.specs.SessionCalls.{feed_session, emptied, take_out}
use Rattle.ra_session.specs.SessionRefusals.{Refusal, ended, stale, no_link, too_long, bad_ipc, too_large, ids_spent, no_such_call, wrong_kind}
use Rattle.ra_session.specs.Sessions.{Session}
use Rattle.ra_session.specs.TurnRefusals.{turn_refusal}
use Rattle.ra_session.specs.Turns.{TurnAnswer, on_heard, on_delivery, take_in, take_turn, turn, turn_answer, taken_answer, happening_of, happening_in, heard_at}
use Rattle.ra_dial.specs.declared.values.DialEnd.{DialEnd}
use Rattle.ra_dial.specs.Dialers.{Dialer, epoch}
use Rattle.ra_dial.specs.Acts.{Act, nothing, quiet, rest_until, connect, drop_link, happened, ends}
use Rattle.ra_dial.specs.Attempts.{Step, finishes}
use Rattle.ra_dial.specs.Attempts.{gives_up}
use Rattle.ra_dial.specs.Handshakes.{Head}
use Rattle.ra_dial.specs.Table.{step, on_event, on_frame as on_frame_at, unless_over}
use Rattle.ra_dial.specs.declared.stage.Stage.{Stage}
use Rattle.ra_dial.specs.declared.stage.Stage.TheVariants as stages
use Rattle.ra_dial.specs.declared.values.DialEvent.TheVariants as events
use Rattle.ra_dial.specs.declared.values.DialEnd.TheVariants as dial_ends
use Rattle.ra_dial.specs.HandedUp.{HandsUp, looking, heard_by}
use Rattle.ra_dial.specs.Links.{act_after, after_turn, after_refusal, refused_turn, turns_unless, turns, loses}

in_act : Happening → Act → Happening
in_act d nothing = d
in_act d quiet = d
in_act d (rest_until until) = d
in_act d connect = d
in_act d drop_link = d
in_act d (happened h) = h
in_act d (ends end) = d

same_happening : (a b : Happening) → happened a ≡ happened b → a ≡ b
unfolding in_act
same_happening a b is = ap (in_act a) is

picked_act : (b : Bool) (h : Happening) {T : Type 0} → cond b quiet nothing ≡ happened h → T
picked_act true h is = cc
picked_act false h is = cc

of_act : (took : Bool) (o : Option Happening) (h : Happening) → act_after took o ≡ happened h → o ≡ Some h
of_act took None h is = picked_act took h is
of_act took (Some (work call)) h is = cc
of_act took (Some (host body)) h is = ap (λ (x : Happening). Some x) (same_happening (host body) h is)
of_act took (Some (call_settled id outcome)) h is = ap (λ (x : Happening). Some x) (same_happening (call_settled id outcome) h is)
of_act took (Some (event_fired id body)) h is = ap (λ (x : Happening). Some x) (same_happening (event_fired id body) h is)

pub record Found (up : Option Delivery) (now : ℕ) (s : Session) (h : Happening) : Type 0 where
  pub id : ℕ
  pub body : List ℕ
  pub is : up ≡ Some (Delivered id body)
  pub says : happening_in (heard_at s id body now) ≡ Some h

found : (up : Option Delivery) (now : ℕ) (s : Session) (h : Happening) → happening_of up now s ≡ Some h → Found up now s h
found None now s h is = cc
found (Some (Delivered id body)) now s h is = record { id = id; body = body; is = refl; says = is }
found (Some (Control body)) now s h is = cc
found (Some Quiet) now s h is = cc
found (Some Ended) now s h is = cc

answered : (answer : TurnAnswer) (end : Option Cause) (d : Dialer) (h : Happening) → (after_turn answer end d).0 ≡ happened h
    → (answer.happening ≡ Some h) × ((after_turn answer end d).1 ≡ d)
unfolding finishes
answered answer None d h is = (of_act answer.took answer.happening h is, refl)
answered answer (Some cause) d h is = cc

refused : (r : Refusal) (now : ℕ) (d : Dialer) (h : Happening) {T : Type 0} → (after_refusal r now d).0 ≡ happened h → T
unfolding finishes loses
refused (bad_ipc bad message) now d h is = cc
refused (too_long stated) now d h is = cc
refused ids_spent now d h is = cc
refused (ended cause) now d h is = cc
refused (stale current) now d h is = cc
refused no_link now d h is = cc
refused (too_large len) now d h is = cc
refused (no_such_call id) now d h is = cc
refused wrong_kind now d h is = cc

-- ---- messages heard

one_of : (b : Bool) (x y e : Endpoint) → x.received ≡ e.received → y.received ≡ e.received → (cond b x y).received ≡ e.received
one_of true x y e first second = first
one_of false x y e first second = second

said_one : (body : List ℕ) (now : ℕ) (e : Endpoint) → (say body now e).received ≡ e.received
unfolding say
said_one body now e = one_of (can_say body e) _ _ e refl refl

said_all : (bodies : List (List ℕ)) (now : ℕ) (e : Endpoint) → (say_all bodies now e).received ≡ e.received
unfolding say_all
said_all [] now e = refl
said_all (body ∷ bodies) now e = said_all bodies now (say body now e) ∙ said_one body now e

put_out : (e : Endpoint) → (emptied e).received ≡ e.received
unfolding wrote
put_out e = one_of (nat_le (length (shown e)) (length (shown e))) _ _ e refl refl

heard_one : (means : Heard) (now : ℕ) (s : Session) → (on_heard means now s).peer.endpoint.received ≡ s.peer.endpoint.received
heard_one (spoils bad) now s = refl
heard_one (hears h) now s = said_all (map message_bytes h.says) now s.peer.endpoint

delivered_one : (up : Option Delivery) (now : ℕ) (s : Session) → (on_delivery up now s).peer.endpoint.received ≡ s.peer.endpoint.received
delivered_one None now s = refl
delivered_one (Some (Delivered id body)) now s = heard_one (heard_at s id body now) now s
delivered_one (Some (Control body)) now s = refl
delivered_one (Some Quiet) now s = refl
delivered_one (Some Ended) now s = refl

id_in : Delivery → ℕ
id_in (Delivered id body) = id
id_in (Control body) = 0
id_in Quiet = 0
id_in Ended = 0

same_id : (id other : ℕ) (body text : List ℕ) → Delivered id body ≡ Delivered other text → id ≡ other
unfolding id_in
same_id id other body text is = ap id_in is

-- a frame that hands a message up
came : (kind : FrameKind) (f : Frame) (rest : List ℕ) (now : ℕ) (e : Endpoint) (id : ℕ) (body : List ℕ) → delivery_of kind f e ≡ Delivered id body
    → (id ≡ suc e.received) × ((on_frame kind f now (passed f rest now e)).received ≡ suc e.received)
came Regular f rest now e id body is = regular (eqb f.id (suc e.received)) refl is
  where
    regular : (b : Bool) → eqb f.id (suc e.received) ≡ b → cond b (Delivered f.id f.body) Quiet ≡ Delivered id body
        → (id ≡ suc e.received) × ((on_regular f now (passed f rest now e)).received ≡ suc e.received)
    regular true next is = (
      sym (same_id f.id id f.body body is) ∙ eqb-true f.id (suc e.received) next,
      ap (λ (x : Endpoint). x.received) (cond-true _ _ _ next),
    )
    regular false next is = cc
came ControlFrame f rest now e id body is = cc
came Disconnect f rest now e id body is = cc
came ReplayRequest f rest now e id body is = cc
came Pause f rest now e id body is = cc
came Resume f rest now e id body is = cc
came Other f rest now e id body is = cc

some_up : Delivery → Option Delivery → Delivery
some_up d None = d
some_up d (Some x) = x

same_up : (a b : Delivery) → Some a ≡ Some b → a ≡ b
unfolding some_up
same_up a b is = ap (some_up a) is

took_one : (next : Option (Frame × List ℕ)) (now : ℕ) (e : Endpoint) (id : ℕ) (body : List ℕ)
    → option_map (λ n. delivery_of (frame_kind n.0.kind) n.0 e) next ≡ Some (Delivered id body)
    → (id ≡ suc e.received) × ((took next now e).received ≡ suc e.received)
took_one None now e id body is = cc
took_one (Some n) now e id body is = came (frame_kind n.0.kind) n.0 n.1 now e id body (same_up _ _ is)

frame_one : (now : ℕ) (e : Endpoint) (id : ℕ) (body : List ℕ) → delivery e ≡ Some (Delivered id body)
    → (id ≡ suc e.received) × ((take_frame now e).received ≡ suc e.received)
unfolding delivery take_frame
frame_one now e id body is = took_one (next_frame e) (moment now e) e id body is

-- ---- a turn

turned : (now : ℕ) (d : Dialer) (h : Happening) → (turns now d).0 ≡ happened h → HandsUp now h d (turns now d).1
unfolding turns turn_answer taken_answer turn take_turn take_in take_out feed_session
turned now d h is = of (turn_refusal (epoch d) [] now d.session) is
  where
    s : Session
    s = looking now d

    e : Endpoint
    e = s.peer.endpoint

    between : Session
    between = record s { peer = taken now s.peer }

    same : e.received ≡ heard_by d
    same = received_fed (epoch d) [] now d.session.peer.endpoint

    made : TurnAnswer
    made = turn_answer (epoch d) [] now d.session

    after : Dialer
    after = record d { pending = d.pending ++ made.out; session = turn (epoch d) [] now d.session }

    handed : (x : Dialer) → x ≡ after → Found (delivery e) now s h → HandsUp now h d x
    handed x at f =
        let one = frame_one now e f.id f.body f.is in
        let id : f.id ≡ suc (heard_by d) = one.0 ∙ ap (λ (n : ℕ). suc n) same in
        record {
          body = f.body;
          read = f.is ∙ ap (λ (n : ℕ). Some (Delivered n f.body)) id;
          says = subst (λ (n : ℕ). happening_in (heard_at s n f.body now) ≡ Some h) id f.says;
          taken = ap (λ (y : Dialer). y.session) at;
          counted = ap (λ (y : Dialer). heard_by y) at ∙ put_out (on_delivery (delivery e) now between).peer.endpoint ∙ delivered_one (delivery e) now between ∙ one.1 ∙ ap (λ (n : ℕ). suc n) same;
        }

    of : (r : Option Refusal) → (turns_unless r now d).0 ≡ happened h → HandsUp now h d (turns_unless r now d).1
    of None is =
        let got = answered made made.ended after h is in
        handed _ got.1 (found (delivery e) now s h got.0)
    of (Some r) is = refused r now (refused_turn r now d) h is

pub stepped : (head : Head) (draw : ℕ → List ℕ) (now : ℕ) (d : Dialer) (h : Happening) → d.stage ≡ stages.Attached
    → (step head draw events.Frame now d).0 ≡ happened h → HandsUp now h d (step head draw events.Frame now d).1
unfolding step on_event
stepped head draw now d h at is = from d.stage at is
  where
    by : Stage → Step
    by stage = unless_over stage (cond (gives_up stage d.lost now) (finishes (dial_ends.GraceOver d.lost now) d) (on_frame_at stage head now d)) d

    from : (stage : Stage) → stage ≡ stages.Attached → (by stage).0 ≡ happened h → HandsUp now h d (by stage).1
    from stage at is =
        subst (λ (x : Stage). HandsUp now h d (by x).1) (sym at) (turned now d h (subst (λ (x : Stage). (by x).0 ≡ happened h) at is))
