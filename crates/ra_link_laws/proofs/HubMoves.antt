-- What the events of a link change in a hub: the session and the row of its key. The others stay.
use Rattle.std.proofs.Common.{◌≡◌, ℕ, ◌+◌, Bool, true, false, cond, not, Option, Some, None, option_map, List, refl, ap, sym, ◌∙◌, subst}
use Rattle.std.specs.Option.{is_some}
use Rattle.std.proofs.lemmas.Bool.{true≢false, false≢true}
use Rattle.ra_base.specs.declared.handshake.Reason.{Reason}
use Rattle.ra_base.specs.declared.handshake.Request.{Request}
use Rattle.ra_base.specs.declared.key.Cause.{Cause}
use Rattle.ra_base.specs.declared.key.Key.{Key}
use Rattle.ra_base.specs.declared.key.Seat.{Seat}
use Rattle.ra_registry.specs.declared.past.Did.{Did}
use Rattle.ra_registry.specs.declared.past.Did.TheVariants.{Refused, Lost, Closed}
use Rattle.ra_registry.specs.declared.row.Row.{Row}
use Rattle.ra_registry.specs.Admission.{next_epoch, is_known, is_live_row, can_reconnect, admission_refusal}
use Rattle.ra_registry.specs.RowChanges.{shorten}
use Rattle.ra_registry.specs.Rows.{same_key, row_of, epoch_of}
use Rattle.ra_registry.proofs.SameKeys.{same_key_itself}
use Rattle.ra_session.specs.SessionCalls.{attach, lose_session, end_session}
use Rattle.ra_session.specs.Sessions.{Session}
use Rattle.ra_session.specs.Saying.{serving}
use Rattle.ra_session.specs.Turns.{turn}
use Rattle.ra_hub.specs.Hubs.{Hub, row, at_key, enter, entry_of, admitted, refused, seat_lost, seat_closed, with_end, closes}
use Rattle.ra_link_core.specs.HubEvents.{event_done, judged_by, on_session}
use Rattle.ra_link_core.specs.HubEvents.HubEvent.{Admit, Attach, Turn, Lose, Close}
use Rattle.ra_link_core.specs.LinkRuns.{hub_left}
use Rattle.ra_run_laws.specs.KeptRows.{RowsAgree}
use Rattle.ra_run_laws.proofs.KeptRows.{KeepsEpochs, agree_itself, agree_trans, entry_agrees, other_entry_agrees, own_entry}
use Rattle.ra_handshake_laws.specs.Handshakes.{request_for}
use Rattle.ra_link_laws.proofs.ServedMoves.{Admits}
use Rattle.ra_link_laws.proofs.ServedTurns.{seat_at}
use Rattle.ra_link_laws.proofs.SessionCallsKept.{kept_lose, kept_end}
use Rattle.ra_link_laws.proofs.SessionSteps.{IsKept, kept_itself, kept_if}

-- the sessions of other keys are the same, and their rows are as good
abbrev pub OthersStay : Key → Hub → Hub → Type 0
OthersStay owner h k = (key : Key) → same_key owner key ≡ false → (k.session key ≡ h.session key) × RowsAgree (row h key) (row k key)

pub record HubMoves (owner : Key) (session : Option Session) (h k : Hub) : Type 0 where
  pub becomes : k.session owner ≡ session
  pub rows : RowsAgree (row h owner) (row k owner)
  pub others : OthersStay owner h k

pub others_itself : (owner : Key) (h : Hub) → OthersStay owner h h
others_itself owner h key apart = (refl, agree_itself (row h key))

pub others_trans : (owner : Key) (h k l : Hub) → OthersStay owner h k → OthersStay owner k l → OthersStay owner h l
others_trans owner h k l first second key apart =
    let a = first key apart in
    let b = second key apart in
    (b.0 ∙ a.0, agree_trans (row h key) (row k key) (row l key) a.1 b.1)

moves_itself : (owner : Key) (session : Option Session) (h : Hub) → h.session owner ≡ session → HubMoves owner session h h
moves_itself owner session h is = record { becomes = is; rows = agree_itself (row h owner); others = others_itself owner h }

moves_trans : (owner : Key) (first second : Option Session) (h k l : Hub) → HubMoves owner first h k → HubMoves owner second k l → HubMoves owner second h l
moves_trans owner first second h k l a b = record {
  becomes = b.becomes;
  rows = agree_trans (row h owner) (row k owner) (row l owner) a.rows b.rows;
  others = others_trans owner h k l a.others b.others;
}

session_moves : (owner : Key) (s : Session) (h : Hub) → HubMoves owner (Some s) h (at_key owner s h)
session_moves owner s h = record {
  becomes = ap (λ (b : Bool). cond b (Some s) (h.session owner)) (same_key_itself owner);
  rows = agree_itself (row h owner);
  others = λ key apart. (ap (λ (b : Bool). cond b (Some s) (h.session key)) apart, agree_itself (row h key));
}

entry_moves : (owner : Key) (at : ℕ) (did : Did) (session : Option Session) (h : Hub) → KeepsEpochs did → h.session owner ≡ session
    → HubMoves owner session h (enter (entry_of owner at did) h)
entry_moves owner at did session h keeps is = record {
  becomes = is;
  rows = entry_agrees h.registry (entry_of owner at did) owner keeps;
  others = λ key apart. (refl, other_entry_agrees h.registry (entry_of owner at did) key apart);
}

-- ---- a turn, and a link that begins

pub turned_hub : (owner : Key) (epoch : ℕ) (piece : List ℕ) (now : ℕ) (s : Session) (h : Hub) → h.session owner ≡ Some s
    → HubMoves owner (Some (turn epoch piece now s)) h (event_done (Turn (seat_at owner epoch) piece now) h)
unfolding event_done
turned_hub owner epoch piece now s h is =
    subst (λ (o : Option Session). HubMoves owner (Some (turn epoch piece now s)) h (on_session o (λ (x : Session). at_key owner (turn epoch piece now x) h) h)) (sym is)
    (session_moves owner (turn epoch piece now s) h)

pub attached_hub : (owner : Key) (epoch : ℕ) (chunk : List ℕ) (now : ℕ) (s : Session) (h : Hub) → h.session owner ≡ Some s
    → HubMoves owner (Some (attach epoch chunk now s)) h (event_done (Attach (seat_at owner epoch) chunk now) h)
unfolding event_done
attached_hub owner epoch chunk now s h is =
    subst (λ (o : Option Session). HubMoves owner (Some (attach epoch chunk now s)) h (on_session o (λ (x : Session). at_key owner (attach epoch chunk now x) h) h)) (sym is)
    (session_moves owner (attach epoch chunk now s) h)

-- ---- ends of seats

-- the session of the key becomes what a call makes of it
pub record HubCalls (owner : Key) (h k : Hub) : Type 0 where
  pub call : Session → Session
  pub kept : IsKept call
  pub moves : HubMoves owner (option_map call (h.session owner)) h k

pub lost_by : (owner : Key) (epoch now : ℕ) (o : Option Session) (h : Hub) → h.session owner ≡ o
    → HubMoves owner (option_map (lose_session epoch) o) h (on_session o (λ (x : Session). seat_lost (seat_at owner epoch) now x h) h)
unfolding seat_lost
lost_by owner epoch now None h is = moves_itself owner None h is
lost_by owner epoch now (Some s) h is =
    let lost : Hub = at_key owner (lose_session epoch s) h in
    let first : HubMoves owner (Some (lose_session epoch s)) h lost = session_moves owner (lose_session epoch s) h in
    moves_trans owner (Some (lose_session epoch s)) (Some (lose_session epoch s)) h lost (enter (entry_of owner now (Lost epoch)) lost) first
    (entry_moves owner now (Lost epoch) (Some (lose_session epoch s)) lost tt first.becomes)

pub lost_hub : (owner : Key) (epoch now : ℕ) (h : Hub) → HubCalls owner h (event_done (Lose (seat_at owner epoch) now) h)
unfolding event_done
lost_hub owner epoch now h = record { call = lose_session epoch; kept = kept_lose epoch; moves = lost_by owner epoch now (h.session owner) h refl }

ended_by : (b : Bool) (owner : Key) (cause : Cause) (s : Session) (h : Hub) → h.session owner ≡ Some s
    → HubMoves owner (Some (cond b (end_session cause s) s)) h (cond b (at_key owner (end_session cause s) h) h)
ended_by true owner cause s h is = session_moves owner (end_session cause s) h
ended_by false owner cause s h is = moves_itself owner (Some s) h is

pub closed_by : (owner : Key) (epoch : ℕ) (cause : Cause) (now : ℕ) (o : Option Session) (h : Hub) → h.session owner ≡ o
    → HubMoves owner (option_map (λ (x : Session). cond (closes epoch (row h owner)) (end_session cause x) x) o) h
    (on_session o (λ (x : Session). seat_closed (seat_at owner epoch) cause now x h) h)
unfolding seat_closed
closed_by owner epoch cause now None h is = moves_itself owner None h is
closed_by owner epoch cause now (Some s) h is =
    let b : Bool = closes epoch (row h owner) in
    let ended : Hub = with_end (seat_at owner epoch) cause s h in
    let first : HubMoves owner (Some (cond b (end_session cause s) s)) h ended = ended_by b owner cause s h is in
    moves_trans owner (Some (cond b (end_session cause s) s)) (Some (cond b (end_session cause s) s)) h ended (enter (entry_of owner now (Closed epoch cause)) ended) first
    (entry_moves owner now (Closed epoch cause) (Some (cond b (end_session cause s) s)) ended tt first.becomes)

pub closed_hub : (owner : Key) (epoch : ℕ) (cause : Cause) (now : ℕ) (h : Hub) → HubCalls owner h (event_done (Close (seat_at owner epoch) cause now) h)
unfolding event_done
closed_hub owner epoch cause now h = record {
  call = λ (x : Session). cond (closes epoch (row h owner)) (end_session cause x) x;
  kept = kept_if (closes epoch (row h owner)) (end_session cause) (λ (x : Session). x) (kept_end cause) kept_itself;
  moves = closed_by owner epoch cause now (h.session owner) h refl;
}

-- the seat of a link that is left is lost
abbrev pub IsOwn : Key → Option Seat → Type 0
IsOwn owner None = Unit {0}
IsOwn owner (Some seat) = seat.key ≡ owner

pub same_hub : (owner : Key) (h : Hub) → HubCalls owner h h
same_hub owner h = record { call = λ (x : Session). x; kept = kept_itself; moves = moves_itself owner (option_map (λ (x : Session). x) (h.session owner)) h (mapped (h.session owner)) }
  where
    mapped : (o : Option Session) → o ≡ option_map (λ (x : Session). x) o
    mapped None = refl
    mapped (Some s) = refl

pub left_hub : (owner : Key) (o : Option Seat) (now : ℕ) (h : Hub) → IsOwn owner o → HubCalls owner h (hub_left o now h)
left_hub owner None now h own = same_hub owner h
left_hub owner (Some seat) now h own =
    subst (λ (s : Seat). HubCalls owner h (event_done (Lose s now) h)) (ap (λ (k : Key). seat_at k seat.epoch) (sym own)) (lost_hub owner seat.epoch now h)

-- ---- requests

pub refused_hub : (owner : Key) (reconnection : Bool) (now : ℕ) (reason : Reason) (h : Hub) → admission_refusal h.registry (request_for owner reconnection) now ≡ Some reason
    → HubCalls owner h (event_done (Admit (request_for owner reconnection) now) h)
unfolding event_done refused
refused_hub owner reconnection now reason h is =
    let ask : Request = request_for owner reconnection in
    let same = same_hub owner h in
    record {
      call = same.call;
      kept = same.kept;
      moves = subst (λ (o : Option Reason). HubMoves owner (option_map same.call (h.session owner)) h (judged_by o ask now h)) (sym is)
          (entry_moves owner now (Refused ask.kind reconnection reason) (option_map same.call (h.session owner)) h tt same.moves.becomes);
    }

pub record HubAdmits (owner : Key) (h k : Hub) : Type 0 where
  pub becomes : Admits owner.kind (h.session owner) (k.session owner)
  pub epoch : epoch_of (row k owner) ≡ epoch_of (row h owner) + 1
  pub there : is_some (row k owner) ≡ true
  pub others : OthersStay owner h k

pub next_is : (o : Option Row) → next_epoch o ≡ epoch_of o + 1
next_is None = refl
next_is (Some r) = refl

none_is : (o : Option Session) (r : Option Row) → is_some o ≡ is_some r → r ≡ None → o ≡ None
none_is None r same is = refl
none_is (Some s) r same is = absurd (true≢false (same ∙ ap (λ (q : Option Row). is_some q) is))

fresh_row : (reason : Reason) (o : Option Row) → cond (is_some o) (Some reason) None ≡ None → o ≡ None
fresh_row reason None is = refl
fresh_row reason (Some r) is = absurd cc

can_of : (first second : Reason) (known can : Bool) → cond (not known) (Some first) (cond (not can) (Some second) None) ≡ None → can ≡ true
can_of first second true true is = refl
can_of first second true false is = absurd cc
can_of first second false can is = absurd cc

live_row : (long short at : ℕ) (o : Option Row) → is_live_row long short (option_map (shorten at) o) at ≡ true → is_some o ≡ true
live_row long short at None is = absurd (false≢true is)
live_row long short at (Some r) is = refl

admitted_new : (owner : Key) (now : ℕ) (o : Option Session) (h : Hub) → h.session owner ≡ o → o ≡ None → HubAdmits owner h (admitted (request_for owner false) now h)
unfolding admitted
admitted_new owner now o h is none =
    let s : Session = serving owner.kind now in
    let new : Hub = at_key owner s h in
    let moves : HubMoves owner (Some s) h new = session_moves owner s h in
    let entry = own_entry h.registry owner now (next_epoch (row h owner)) false in
    record {
      becomes = subst (λ (q : Option Session). Admits owner.kind q (new.session owner)) (sym (is ∙ none)) (now, moves.becomes);
      epoch = entry.0 ∙ next_is (row h owner);
      there = entry.1;
      others = others_trans owner h new _ moves.others (λ key apart. (refl, other_entry_agrees h.registry _ key apart));
    }

admitted_again : (owner : Key) (now : ℕ) (o : Option Session) (h : Hub) → h.session owner ≡ o → is_some o ≡ true → HubAdmits owner h (admitted (request_for owner true) now h)
unfolding admitted
admitted_again owner now None h is there = absurd (false≢true there)
admitted_again owner now (Some s) h is there =
    let entry = own_entry h.registry owner now (next_epoch (row h owner)) true in
    record {
      becomes = subst (λ (q : Option Session). Admits owner.kind q (h.session owner)) (sym is) is;
      epoch = entry.0 ∙ next_is (row h owner);
      there = entry.1;
      others = λ key apart. (refl, other_entry_agrees h.registry _ key apart);
    }

admits_by : (reconnection : Bool) (owner : Key) (now : ℕ) (h : Hub) → admission_refusal h.registry (request_for owner reconnection) now ≡ None → is_some (h.session owner) ≡ is_some (row h owner)
    → HubAdmits owner h (admitted (request_for owner reconnection) now h)
unfolding admission_refusal
admits_by false owner now h admits both = admitted_new owner now (h.session owner) h refl (none_is (h.session owner) (row h owner) both (fresh_row _ (row h owner) admits))
admits_by true owner now h admits both =
    let ask : Request = request_for owner true in
    let can : can_reconnect h.registry ask now ≡ true = can_of _ _ (is_known (row_of h.registry) ask.token) (can_reconnect h.registry ask now) admits in
    admitted_again owner now (h.session owner) h refl (both ∙ live_row h.registry.long_grace h.registry.short_grace now (row h owner) can)

pub admitted_hub : (owner : Key) (reconnection : Bool) (now : ℕ) (h : Hub) → admission_refusal h.registry (request_for owner reconnection) now ≡ None
    → is_some (h.session owner) ≡ is_some (row h owner) → HubAdmits owner h (event_done (Admit (request_for owner reconnection) now) h)
unfolding event_done
admitted_hub owner reconnection now h admits both =
    subst (λ (o : Option Reason). HubAdmits owner h (judged_by o (request_for owner reconnection) now h)) (sym admits) (admits_by reconnection owner now h admits both)
