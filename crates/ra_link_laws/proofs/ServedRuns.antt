-- A link that is served, step by step: what holds of its client's part while it goes on, and when it has ended and was left.
use Rattle.std.proofs.Common.{◌≡◌, ℕ, ◌+◌, Bool, true, false, cond, Option, None, option_map, List, [], ◌++◌, length, drop, refl, ap, sym, ◌∙◌, subst, arith, append-nil, append_assoc}
use Rattle.std.specs.Option.{is_some}
use Rattle.std.proofs.lemmas.List.{length-append, drop-append-le, drop_at}
use Rattle.ra_base.specs.declared.event.Side.TheVariants.{A, B}
use Rattle.ra_base.specs.declared.key.Cause.{Cause}
use Rattle.ra_model.specs.Links.{read_on, written_to}
use Rattle.ra_registry.specs.declared.row.Row.{Row}
use Rattle.ra_session.specs.Sessions.{Session}
use Rattle.ra_hub.specs.Hubs.{Hub, row}
use Rattle.ra_link_core.specs.HubEvents.{event_done}
use Rattle.ra_link_core.specs.HubEvents.HubEvent.{Close}
use Rattle.ra_link_core.specs.LinkRuns.{End, Serving, Welcome, closes, ends_by, hub_left}
use Rattle.ra_grand_runs.specs.GrandClients.{GrandLink}
use Rattle.ra_grand_runs.specs.Reached.{Begins}
use Rattle.ra_grand_runs.specs.ServedLinks.{left, end_after}
use Rattle.ra_handshake_laws.specs.Handshakes.{Speaks}
use Rattle.ra_link_laws.proofs.HubMoves.{OthersStay, HubMoves, HubCalls, IsOwn, others_trans, closed_hub, left_hub}
use Rattle.ra_link_laws.proofs.ServedFocus.{Ground, Focus}
use Rattle.ra_link_laws.proofs.ServedMoves.{focus_rows, focus_called, focus_moved}
use Rattle.ra_link_laws.proofs.ServedTexts.{Follows, IsPut, follows_nothing, keeps_put, below_put, welcome_read, over_stands}
use Rattle.ra_link_laws.proofs.ServedTurns.{seat_at}

-- ---- the link once it is served so

abbrev pub link_after : List ℕ → Bool → Serving → GrandLink → (ℕ → List ℕ) → GrandLink
link_after bytes over s l draw = record {
  link = written_to A (drop (length l.server.out) s.out) (read_on B (length bytes) l.link);
  server = end_after bytes draw over s l.server;
}

-- the link that was there, and what became of it
pub put_first : (bytes : List ℕ) (over : Bool) (s : Serving) (l : GrandLink) (draw : ℕ → List ℕ) (more : List ℕ) → s.out ≡ l.server.out ++ more
    → IsPut more l (link_after bytes over s l draw) bytes
put_first bytes over s l draw more is = record {
  head = refl;
  seen = refl;
  out = is;
  link = ap (λ (t : List ℕ). written_to A t (read_on B (length bytes) l.link)) (ap (λ (t : List ℕ). drop (length l.server.out) t) is ∙ drop_at l.server.out more (length l.server.out) refl);
}

pub put_twice : (cut : Bool) (written first more : List ℕ) → written ++ cond cut [] (first ++ more) ≡ (written ++ cond cut [] first) ++ cond cut [] more
put_twice true written first more = sym (append-nil (written ++ []))
put_twice false written first more = sym (append_assoc written first more)

-- and what becomes of it then
pub put_next : (bytes piece after : List ℕ) (over now_over : Bool) (s t : Serving) (l : GrandLink) (draw : ℕ → List ℕ) (more : List ℕ) → Begins s.out l.server.out → t.out ≡ s.out ++ more
    → after ≡ bytes ++ piece → IsPut more (link_after bytes over s l draw) (link_after after now_over t l draw) piece
put_next bytes piece after over now_over s t l draw more begins is grows =
    let start : List ℕ = drop (length l.server.out) s.out in
    let size : length s.out ≡ length l.server.out + length begins.rest = ap (λ (v : List ℕ). length v) begins.same ∙ length-append l.server.out begins.rest in
    let rest : drop (length l.server.out) t.out ≡ start ++ more =
    ap (λ (v : List ℕ). drop (length l.server.out) v) is ∙ drop-append-le (length l.server.out) s.out more (omega (arith, size)) in
    let count : length after ≡ length bytes + length piece = ap (λ (v : List ℕ). length v) grows ∙ length-append bytes piece in
    let place : l.link.to_b.read + length after ≡ (l.link.to_b.read + length bytes) + length piece = omega (arith, count) in
    record {
      head = refl;
      seen = ap (λ (v : List ℕ). l.server.seen ++ v) grows ∙ sym (append_assoc l.server.seen bytes piece);
      out = is;
      link =
          ap (λ (n : ℕ). record { to_a = record { written = l.link.to_a.written ++ cond l.link.is_cut [] (drop (length l.server.out) t.out); read = l.link.to_a.read }; to_b = record { written = l.link.to_b.written; read = n }; is_cut = l.link.is_cut }) place
          ∙ ap (λ (v : List ℕ). record { to_a = record { written = v; read = l.link.to_a.read }; to_b = record { written = l.link.to_b.written; read = (l.link.to_b.read + length bytes) + length piece }; is_cut = l.link.is_cut })
          (ap (λ (v : List ℕ). l.link.to_a.written ++ cond l.link.is_cut [] v) rest ∙ put_twice l.link.is_cut l.link.to_a.written start more);
    }

-- ---- what holds of it

-- the hub was that one before, and so many bytes were read by now
pub record Going (g : Ground) (h : Hub) (draw : ℕ → List ℕ) (bytes : List ℕ) (over : Bool) (s : Serving) : Type 0 where
  pub focus : Focus g (s.hub.session g.owner) (row s.hub g.owner) (link_after bytes over s g.link draw)
  pub others : OthersStay g.owner h s.hub
  pub front : Begins s.out g.link.server.out

-- it goes on, or was left when it had ended
abbrev pub Stands : (g : Ground) (h : Hub) (draw : ℕ → List ℕ) (bytes : List ℕ) (now : ℕ) → Serving → Type 0
Stands g h draw bytes now s = Going g h draw bytes (is_some s.end) (cond (is_some s.end) (left now s) s)

pub going_stands : (g : Ground) (h : Hub) (draw : ℕ → List ℕ) (bytes : List ℕ) (now : ℕ) (s : Serving) → s.end ≡ None → Going g h draw bytes false s → Stands g h draw bytes now s
going_stands g h draw bytes now s none going =
    subst (λ (o : Option End). Going g h draw bytes (is_some o) (cond (is_some o) (left now s) s)) (sym none) going

pub stands_going : (g : Ground) (h : Hub) (draw : ℕ → List ℕ) (bytes : List ℕ) (now : ℕ) (s : Serving) → s.end ≡ None → Stands g h draw bytes now s → Going g h draw bytes false s
stands_going g h draw bytes now s none stands =
    subst (λ (o : Option End). Going g h draw bytes (is_some o) (cond (is_some o) (left now s) s)) none stands

-- the hub moves as the session of the key does
pub focus_hub : (g : Ground) (session : Option Session) (h k : Hub) (l : GrandLink) → HubMoves g.owner session h k → Focus g session (row h g.owner) l
    → Focus g (k.session g.owner) (row k g.owner) l
focus_hub g session h k l moves f =
    subst (λ (o : Option Session). Focus g o (row k g.owner) l) (sym moves.becomes) (focus_rows g session (row h g.owner) (row k g.owner) l moves.rows f)

pub focus_calls : (g : Ground) (h k : Hub) (l : GrandLink) → HubCalls g.owner h k → Focus g (h.session g.owner) (row h g.owner) l → Focus g (k.session g.owner) (row k g.owner) l
focus_calls g h k l calls f =
    focus_hub g (option_map calls.call (h.session g.owner)) h k l calls.moves (focus_called g (h.session g.owner) (row h g.owner) l calls.call calls.kept f)

-- ---- a link that is left

-- the link, of which these bytes were read, is over
focus_over : (g : Ground) (s : Option Session) (o : Option Row) (l after : GrandLink) (f : Focus g s o l) (piece : List ℕ) → IsPut [] l after piece → Follows piece l.link.to_b
    → after.server.welcome ≡ l.server.welcome → after.server.is_over ≡ true → after.server.seat ≡ None → Focus g s o after
focus_over g s o l after f piece put follows same over none =
    let d = g.draws g.place in
    focus_moved g s o l after f
    (keeps_put g.owner d f.session_links f.session_links f.present f.present l after piece [] f.here follows put
    (subst (λ (q : Option Welcome). Speaks g.owner.kind d.key q after.server.out) (sym same)
    (subst (λ (t : List ℕ). Speaks g.owner.kind d.key l.server.welcome t) (sym (put.out ∙ append-nil l.server.out)) f.here.speaks))
    (welcome_read g.owner d f.session_links l after piece put same f.here.welcome)
    (over_stands g.owner f.session_links f.present after after.server.is_over after.server.seat over none))
    (below_put g.owner d f.session_links f.present g.link l after piece [] f.here put (λ u is. same ∙ is) f.stays) same

-- the link that was served so, with the hub after it
pub left_over : (g : Ground) (h : Hub) (draw : ℕ → List ℕ) (now : ℕ) (s : Serving) (l : GrandLink) (piece after : List ℕ) → Focus g (s.hub.session g.owner) (row s.hub g.owner) l
    → OthersStay g.owner h s.hub → Begins s.out g.link.server.out → IsOwn g.owner s.seat → s.welcome ≡ l.server.welcome → IsPut [] l (link_after after true (left now s) g.link draw) piece
    → Follows piece l.link.to_b → Going g h draw after true (left now s)
left_over g h draw now s l piece after f others front own same put follows =
    let end : GrandLink = link_after after true (left now s) g.link draw in
    let calls : HubCalls g.owner s.hub (hub_left s.seat now s.hub) = left_hub g.owner s.seat now s.hub own in
    record {
      focus = focus_calls g s.hub (hub_left s.seat now s.hub) end calls
          (focus_over g (s.hub.session g.owner) (row s.hub g.owner) l end f piece put follows same refl refl);
      others = others_trans g.owner h s.hub (hub_left s.seat now s.hub) others calls.moves.others;
      front = front;
    }

-- a link that went on has ended, for that reason
pub ends_so : (g : Ground) (h : Hub) (draw : ℕ → List ℕ) (now : ℕ) (s : Serving) (reason : End) (bytes piece after : List ℕ) → Going g h draw bytes false s → IsOwn g.owner s.seat
    → after ≡ bytes ++ piece → Follows piece (link_after bytes false s g.link draw).link.to_b → Stands g h draw after now (ends_by reason s)
ends_so g h draw now s reason bytes piece after going own grows follows =
    left_over g h draw now (ends_by reason s) (link_after bytes false s g.link draw) piece after going.focus going.others going.front own refl
    (put_next bytes piece after false true s (left now (ends_by reason s)) g.link draw [] going.front (sym (append-nil s.out)) grows) follows

follows_none : (g : Ground) (h : Hub) (draw : ℕ → List ℕ) (bytes : List ℕ) (s : Serving) → Going g h draw bytes false s → Follows [] (link_after bytes false s g.link draw).link.to_b
follows_none g h draw bytes s going = follows_nothing (link_after bytes false s g.link draw).link.to_b going.focus.here.up

-- its seat is closed, and it has ended
pub closes_so : (g : Ground) (h : Hub) (draw : ℕ → List ℕ) (now epoch : ℕ) (cause : Cause) (s : Serving) (reason : End) (bytes : List ℕ) → Going g h draw bytes false s
    → Stands g h draw bytes now (ends_by reason (closes (seat_at g.owner epoch) cause now s))
closes_so g h draw now epoch cause s reason bytes going =
    let k : Hub = event_done (Close (seat_at g.owner epoch) cause now) s.hub in
    let calls : HubCalls g.owner s.hub k = closed_hub g.owner epoch cause now s.hub in
    let l : GrandLink = link_after bytes false s g.link draw in
    let t : Serving = ends_by reason (closes (seat_at g.owner epoch) cause now s) in
    left_over g h draw now t l [] bytes (focus_calls g s.hub k l calls going.focus) (others_trans g.owner h s.hub k going.others calls.moves.others) going.front tt refl
    (put_next bytes [] bytes false true s (left now t) g.link draw [] going.front (sym (append-nil s.out)) (sym (append-nil bytes))) (follows_none g h draw bytes s going)
