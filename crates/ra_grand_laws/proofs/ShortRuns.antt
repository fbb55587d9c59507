-- A link that is served, call by call: at each number of calls of the hub there is a moment at which it may be left.
use Rattle.std.proofs.Common.{◌≡◌, inl, inr, ℕ, zero, suc, ◌+◌, ◌<◌, ◌≤◌, true, false, if◌then◌else◌, Option, Some, None, List, [], ◌∷◌, ◌++◌, length, refl, ap, sym, ◌∙◌, subst, arith, append-nil}
use Rattle.std.specs.Prelude.{◌⊎◌}
use Rattle.std.proofs.lemmas.List.{length_push}
use Rattle.ra_base.specs.declared.key.Cause.{Cause}
use Rattle.ra_base.specs.declared.key.Key.{Key}
use Rattle.ra_base.specs.declared.key.Seat.{Seat}
use Rattle.ra_session.specs.Hearing.{BadMessage}
use Rattle.ra_session.specs.SessionRefusals.{bad_ipc}
use Rattle.ra_session.specs.SessionCalls.{lose_session, end_session}
use Rattle.ra_session.specs.Sessions.{Session}
use Rattle.ra_hub.specs.Hubs.{Hub, row, closes as row_closes, seat_lost, seat_closed}
use Rattle.ra_link_core.specs.HubEvents.{HubEvent, event_done, event_jobs, event_bytes, seat_by, on_session}
use Rattle.ra_link_core.specs.HubEvents.HubEvent.{Lose, Close}
use Rattle.ra_link_core.specs.LinkRuns.{End, refused_by, Serving, Welcome, does, hub_left}
use Rattle.ra_link_core.specs.Makes.{Writes}
use Rattle.ra_link_core.proofs.GrowLemmas.{writes_trans, writes_refl}
use Rattle.ra_grand_runs.specs.ServedLinks.{left}
use Rattle.ra_link_laws.proofs.HubMoves.{lost_by, closed_by}
use Rattle.ra_link_laws.proofs.ServedFocus.{Ground}
use Rattle.ra_link_laws.proofs.ServedRuns.{link_after, Going}
use Rattle.ra_link_laws.proofs.ServedTurns.{seat_at, Welcomed, welcomed_at}
use Rattle.ra_grand_laws.proofs.ShortLinks.{NoneBehind, MayCut}
use Rattle.ra_grand_laws.proofs.ShortSessions.{IsNear, IsOff, lost_off}

-- ---- moments

-- The link may be left here, and then only a front of what it wrote may be there.
pub record Stop (g : Ground) (h : Hub) (draw : ℕ → List ℕ) (bytes : List ℕ) (now : ℕ) (t : Serving) : Type 0 where
  pub going : Going g h draw bytes true (left now t)
  pub may : MayCut g (left now t)

-- Such a moment on the way from the one to the other, where so many calls of the hub were made, and all that they make the link write was written.
pub record StopAt (g : Ground) (h : Hub) (draw : ℕ → List ℕ) (bytes : List ℕ) (now : ℕ) (s u : Serving) (calls : ℕ) : Type 0 where
  pub at : Serving
  pub before : Writes s at
  pub behind : Writes at u
  pub count : length at.events ≡ calls
  pub welcome : at.welcome ≡ s.welcome
  pub stop : Stop g h draw bytes now at

-- a bad message was heard
abbrev pub IsSpoiled : Serving → Type 0
IsSpoiled u = (bad : BadMessage) × (message : List ℕ) × (u.end ≡ Some (refused_by (bad_ipc bad message)))

pub record Stops (g : Ground) (h : Hub) (draw : ℕ → List ℕ) (bytes : List ℕ) (now : ℕ) (s u : Serving) : Type 0 where
  pub writes : Writes s u
  pub welcome : u.welcome ≡ s.welcome
  pub each : (calls : ℕ) → length s.events ≤ calls → calls ≤ length u.events → StopAt g h draw bytes now s u calls ⊎ IsSpoiled u

-- ---- on the way

within_or_behind : (a b : ℕ) → (a ≤ b) ⊎ (b < a)
within_or_behind zero b = inl (omega arith)
within_or_behind (suc a) zero = inr (omega arith)
within_or_behind (suc a) (suc b) = by (within_or_behind a b)
  where
    by : (a ≤ b) ⊎ (b < a) → (suc a ≤ suc b) ⊎ (suc b < suc a)
    by (inl le) = inl (omega (arith, le))
    by (inr lt) = inr (omega (arith, lt))

pub goes_unspoiled : (u : Serving) → u.end ≡ None → IsSpoiled u → ⊥
goes_unspoiled u goes (bad, message, is) = none_some u.end goes is
  where
    none_some : {x : End} → (o : Option End) → o ≡ None → o ≡ Some x → ⊥
    none_some None none is = cc
    none_some (Some y) none is = cc

pub stops_trans : (g : Ground) (h : Hub) (draw : ℕ → List ℕ) (bytes : List ℕ) (now : ℕ) (s m u : Serving) → m.end ≡ None → Stops g h draw bytes now s m → Stops g h draw bytes now m u
    → Stops g h draw bytes now s u
stops_trans g h draw bytes now s m u goes first second = record {
  writes = writes_trans s m u first.writes second.writes;
  welcome = second.welcome ∙ first.welcome;
  each = λ calls from to. by calls to (within_or_behind calls (length m.events)) from;
}
  where
    early : (calls : ℕ) → StopAt g h draw bytes now s m calls ⊎ IsSpoiled m → StopAt g h draw bytes now s u calls ⊎ IsSpoiled u
    early calls (inl x) = inl (record { at = x.at; before = x.before; behind = writes_trans x.at m u x.behind second.writes; count = x.count; welcome = x.welcome; stop = x.stop })
    early calls (inr spoiled) = absurd (goes_unspoiled m goes spoiled)

    late : (calls : ℕ) → StopAt g h draw bytes now m u calls ⊎ IsSpoiled u → StopAt g h draw bytes now s u calls ⊎ IsSpoiled u
    late calls (inl x) = inl (record { at = x.at; before = writes_trans s m x.at first.writes x.before; behind = x.behind; count = x.count; welcome = x.welcome ∙ first.welcome; stop = x.stop })
    late calls (inr spoiled) = inr spoiled

    by : (calls : ℕ) → calls ≤ length u.events → (calls ≤ length m.events) ⊎ (length m.events < calls) → length s.events ≤ calls → StopAt g h draw bytes now s u calls ⊎ IsSpoiled u
    by calls to (inl within) from = early calls (first.each calls from within)
    by calls to (inr behind) from = late calls (second.each calls (omega (arith, behind)) to)

-- no call is made
pub stops_none : (g : Ground) (h : Hub) (draw : ℕ → List ℕ) (bytes : List ℕ) (now : ℕ) (s u : Serving) → Writes s u → u.welcome ≡ s.welcome → length u.events ≡ length s.events
    → Stop g h draw bytes now s → Stops g h draw bytes now s u
stops_none g h draw bytes now s u writes welcome same stop = record {
  writes = writes;
  welcome = welcome;
  each = λ calls from to. inl (record { at = s; before = writes_refl s; behind = writes; count = omega (arith, from, to, same); welcome = refl; stop = stop });
}

-- one call is made
pub stops_one : (g : Ground) (h : Hub) (draw : ℕ → List ℕ) (bytes : List ℕ) (now : ℕ) (s u : Serving) → Writes s u → u.welcome ≡ s.welcome → length u.events ≡ length s.events + 1
    → Stop g h draw bytes now s → Stop g h draw bytes now u ⊎ IsSpoiled u → Stops g h draw bytes now s u
stops_one g h draw bytes now s u writes welcome more stop last = record {
  writes = writes;
  welcome = welcome;
  each = λ calls from to. by calls from to last (within_or_behind calls (length s.events));
}
  where
    by : (calls : ℕ) → length s.events ≤ calls → calls ≤ length u.events → Stop g h draw bytes now u ⊎ IsSpoiled u → (calls ≤ length s.events) ⊎ (length s.events < calls)
        → StopAt g h draw bytes now s u calls ⊎ IsSpoiled u
    by calls from to _ (inl within) =
        inl (record { at = s; before = writes_refl s; behind = writes; count = omega (arith, from, within); welcome = refl; stop = stop })
    by calls from to (inl end) (inr behind) =
        inl (record { at = u; before = writes; behind = writes_refl u; count = omega (arith, behind, to, more); welcome = welcome; stop = end })
    by calls from to (inr spoiled) (inr behind) = inr spoiled

-- a call, and what is written for it
pub writes_call : (s : Serving) (e : HubEvent) (out : List ℕ) (seat : Option Seat) (welcome : Option Welcome) (end : Option End) → seat ≡ seat_by e s.hub s.seat
    → out ≡ s.out ++ event_bytes e s.hub → Writes s (record (does e s) { out = out; seat = seat; welcome = welcome; end = end })
writes_call s e out seat welcome end leaves is = record {
  happens = record {
    more = e ∷ [];
    events = refl;
    hub = refl;
    jobs = ap (λ (l : List _). s.jobs ++ l) (sym (append-nil (event_jobs e s.hub)));
    drawn = omega arith;
    seat = leaves;
  };
  out = is ∙ ap (λ (l : List ℕ). s.out ++ l) (sym (append-nil (event_bytes e s.hub)));
}

pub one_more : (s : Serving) (e : HubEvent) → length (s.events ++ e ∷ []) ≡ length s.events + 1
one_more s e = length_push s.events e

-- ---- before the link is left

-- its session still has the link of this seat, or has ended with nothing to write on it
pub record IsBeside (g : Ground) (epoch : ℕ) (s : Serving) : Type 0 where
  pub session : Session
  pub known : s.hub.session g.owner ≡ Some session
  pub near : IsNear epoch session

abbrev pub MayLeave : Ground → ℕ → Serving → Type 0
MayLeave g epoch s = (s.out ≡ g.link.server.out) ⊎ (NoneBehind s.welcome s.out ⊎ IsBeside g epoch s)

lost_session : (owner : Key) (epoch now : ℕ) (x : Session) (h : Hub) → h.session owner ≡ Some x → (event_done (Lose (seat_at owner epoch) now) h).session owner ≡ Some (lose_session epoch x)
unfolding event_done
lost_session owner epoch now x h is =
    subst (λ (o : Option Session). (on_session o (λ (y : Session). seat_lost (seat_at owner epoch) now y h) h).session owner ≡ Some (lose_session epoch x)) (sym is)
    (lost_by owner epoch now (Some x) h is).becomes

pub closed_session : (owner : Key) (epoch : ℕ) (cause : Cause) (now : ℕ) (x : Session) (h : Hub) → h.session owner ≡ Some x
    → (event_done (Close (seat_at owner epoch) cause now) h).session owner ≡ Some (if row_closes epoch (row h owner) then end_session cause x else x)
unfolding event_done
closed_session owner epoch cause now x h is =
    subst (λ (o : Option Session). (on_session o (λ (y : Session). seat_closed (seat_at owner epoch) cause now y h) h).session owner
    ≡ Some (if row_closes epoch (row h owner) then end_session cause x else x)) (sym is)
    (closed_by owner epoch cause now (Some x) h is).becomes

left_session : (owner : Key) (epoch now : ℕ) (o : Option Seat) (x : Session) (h : Hub) → o ≡ Some (seat_at owner epoch) → h.session owner ≡ Some x
    → (hub_left o now h).session owner ≡ Some (lose_session epoch x)
left_session owner epoch now o x h seat is =
    subst (λ (q : Option Seat). (hub_left q now h).session owner ≡ Some (lose_session epoch x)) (sym seat) (lost_session owner epoch now x h is)

-- the session has left the link then
pub may_left : (g : Ground) (h : Hub) (draw : ℕ → List ℕ) (bytes : List ℕ) (now epoch : ℕ) (s : Serving) → Going g h draw bytes false s → s.seat ≡ Some (seat_at g.owner epoch) → MayLeave g epoch s
    → MayCut g (left now s)
may_left g h draw bytes now epoch s going seat (inl same) = inl same
may_left g h draw bytes now epoch s going seat (inr (inl behind)) = inr (inl behind)
may_left g h draw bytes now epoch s going seat (inr (inr beside)) =
    let own : Welcomed g (s.hub.session g.owner) (row s.hub g.owner) (link_after bytes false s g.link draw) going.focus epoch =
    welcomed_at g (s.hub.session g.owner) (row s.hub g.owner) (link_after bytes false s g.link draw) going.focus epoch refl seat in
    inr (inr (record {
      welcome = own.welcome;
      there = own.there;
      session = lose_session epoch beside.session;
      known = left_session g.owner epoch now s.seat beside.session s.hub seat beside.known;
      off = subst (λ (n : ℕ). IsOff n (lose_session epoch beside.session)) own.number (lost_off epoch beside.session beside.near);
    }))
