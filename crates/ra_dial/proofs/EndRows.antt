-- The rows of ticks and of leaving, at what a dialer keeps.
use Rattle.std.proofs.Common.{◌≡◌, ◌≢◌, ℕ, ◌+◌, Bool, true, false, Option, Some, None, List, ◌++◌, refl, ap, sym, subst}
use Rattle.std.proofs.lemmas.Bool.{cond-true, cond-false}
use Rattle.ra_model.specs.Endpoints.{shown}
use Rattle.ra_model.specs.Calls.{leave}
use Rattle.ra_session.specs.Moments.{timeout_of}
use Rattle.ra_session.specs.SessionCalls.{leave_session, tick_session}
use Rattle.ra_session.specs.SessionRefusals.{Refusal, IsRefusal, tick_refusal, leave_refusal}
use Rattle.ra_session.specs.SessionStates.{SessionState, OfEachSession, SessionBecomes}
use Rattle.ra_session.specs.declared.values.SessionFault.{SessionFault}
use Rattle.ra_session.specs.declared.values.SessionFault.TheVariants as faults
use Rattle.ra_dial.specs.declared.values.DialEnd.TheVariants as dial_ends
use Rattle.ra_dial.specs.Dialers.{Dialer}
use Rattle.ra_dial.specs.Acts.{Act, rest_until}
use Rattle.ra_dial.specs.Attempts.{Step, finishes}
use Rattle.ra_dial.specs.Links.{tick_span, loses, after_tick, ticks, ticks_unless, leaves, leaves_unless}
use Rattle.ra_dial.specs.DialerStates.{DialerState, dialer_of, StandsForDialer, OfEachDialer, DialerBecomes, Steps}
use Rattle.ra_dial.proofs.Standing.{of_dialers, same_rows, after}
use Rattle.ra_dial.proofs.AttemptRows.{told}
use Rattle.ra_dial.proofs.LinkRows.{refusal_by, is_refused, session_becomes}

-- ---- a tick

ticks_as : (h : DialerState) (now : ℕ) (o : Option Refusal) → OfEachSession h.session (λ s. tick_refusal now s ≡ o)
    → OfEachDialer h (λ d. ticks now d ≡ ticks_unless o now d)
unfolding ticks
ticks_as h now o is = of_dialers h (λ d. ticks now d ≡ ticks_unless o now d) (λ s r st. ap (λ (x : Option Refusal). ticks_unless x now (dialer_of s r h)) (is s st))

-- the dialer once its session was ticked
abbrev ticked : ℕ → Dialer → Dialer
ticked now d = record d { session = tick_session now d.session }

ticks_to : (h : DialerState) (now : ℕ) (late : Bool) → OfEachSession h.session (λ s. late ≡ timeout_of now s)
    → OfEachDialer h (λ d. ticks_unless None now d ≡ after_tick late now (ticked now d))
ticks_to h now late is = of_dialers h (λ d. ticks_unless None now d ≡ after_tick late now (ticked now d)) (λ s r st.
    ap (λ (x : Bool). after_tick x now (ticked now (dialer_of s r h))) (sym (is s st)))

ticked_by : (h h' : DialerState) (x : SessionState) (act : Act) (late : Bool) (now : ℕ) → SessionBecomes h.session x (tick_session now)
    → OfEachSession h.session (λ s. late ≡ timeout_of now s) → OfEachSession h.session (λ s. tick_refusal now s ≡ None)
    → Steps (record h { session = x }) h' act (after_tick late now) → Steps h h' act (ticks now)
ticked_by h h' x act late now becomes timeout allowed steps =
    same_rows h h' act (ticks now) (ticks_unless None now) (ticks_as h now None allowed)
    (same_rows h h' act (ticks_unless None now) (λ d. after_tick late now (ticked now d)) (ticks_to h now late timeout)
    (after h (record h { session = x }) h' act (after_tick late now) (ticked now) (session_becomes h x (tick_session now) becomes) steps))

pub ticked_late : (h h' : DialerState) (x : SessionState) (act : Act) (late : Bool) (now : ℕ) → SessionBecomes h.session x (tick_session now)
    → OfEachSession h.session (λ s. late ≡ timeout_of now s) → OfEachSession h.session (λ s. tick_refusal now s ≡ None) → late ≡ true
    → Steps (record h { session = x }) h' act (loses true now) → Steps h h' act (ticks now)
ticked_late h h' x act late now becomes timeout allowed is steps = ticked_by h h' x act late now becomes timeout allowed
    (same_rows (record h { session = x }) h' act (after_tick late now) (loses true now)
    (λ d st. cond-true late (loses true now d) (rest_until (now + tick_span), d) is) steps)

pub ticked_in_time : (h : DialerState) (x : SessionState) (late : Bool) (now : ℕ) → SessionBecomes h.session x (tick_session now)
    → OfEachSession h.session (λ s. late ≡ timeout_of now s) → OfEachSession h.session (λ s. tick_refusal now s ≡ None) → late ≡ false
    → Steps h (record h { session = x }) (rest_until (now + tick_span)) (ticks now)
ticked_in_time h x late now becomes timeout allowed is = ticked_by h (record h { session = x }) x _ late now becomes timeout allowed
    (same_rows (record h { session = x }) (record h { session = x }) _ (after_tick late now) (λ d. (rest_until (now + tick_span), d))
    (λ d st. cond-false late (loses true now d) (rest_until (now + tick_span), d) is) (told (record h { session = x }) (rest_until (now + tick_span))))

-- a session that is the same may stand in the place of the old one
with_same : (h h' : DialerState) (x : SessionState) (act : Act) (row : Dialer → Step) → x ≡ h.session → Steps (record h { session = x }) h' act row → Steps h h' act row
with_same h h' x act row same steps = subst (λ (y : SessionState). Steps (record h { session = y }) h' act row) same steps

pub not_ticked : (h h' : DialerState) (x : SessionState) (act : Act) (fault : SessionFault) (now : ℕ) → x ≡ h.session → fault ≢ faults.NoMemory
    → OfEachSession h.session (λ s. IsRefusal fault (tick_refusal now s)) → Steps (record h { session = x }) h' act (finishes dial_ends.IdsSpent) → Steps h h' act (ticks now)
not_ticked h h' x act fault now same judged refused steps =
    same_rows h h' act (ticks now) (finishes dial_ends.IdsSpent) (ticks_as h now (Some (refusal_by fault)) (λ s st. is_refused fault _ judged (refused s st)))
    (with_same h h' x act (finishes dial_ends.IdsSpent) same steps)

-- ---- the session leaves

leaves_as : (h : DialerState) (o : Option Refusal) → OfEachSession h.session (λ s. leave_refusal s ≡ o) → OfEachDialer h (λ d. leaves d ≡ leaves_unless o d)
unfolding leaves
leaves_as h o is = of_dialers h (λ d. leaves d ≡ leaves_unless o d) (λ s r st. ap (λ (x : Option Refusal). leaves_unless x (dialer_of s r h)) (is s st))

abbrev left_with : List ℕ → Dialer → Dialer
left_with out d = record d { pending = d.pending ++ out; session = leave_session d.session }

leaves_to : (h : DialerState) (out : List ℕ) → OfEachSession h.session (λ s. out ≡ shown (leave s.peer.endpoint))
    → OfEachDialer h (λ d. leaves_unless None d ≡ finishes dial_ends.Stopped (left_with out d))
leaves_to h out is = of_dialers h (λ d. leaves_unless None d ≡ finishes dial_ends.Stopped (left_with out d)) (λ s r st.
    ap (λ (x : List ℕ). finishes dial_ends.Stopped (left_with x (dialer_of s r h))) (sym (is s st)))

left_state : (h : DialerState) (x : SessionState) (out : List ℕ) → SessionBecomes h.session x leave_session
    → DialerBecomes h (record h { pending = h.pending ++ out; session = x }) (left_with out)
left_state h x out becomes = of_dialers h (λ d. StandsForDialer (record h { pending = h.pending ++ out; session = x }) (left_with out d)) (λ s r st.
    record { same = refl; session = becomes s st })

pub left : (h h' : DialerState) (x : SessionState) (act : Act) (out : List ℕ) → SessionBecomes h.session x leave_session
    → OfEachSession h.session (λ s. out ≡ shown (leave s.peer.endpoint)) → OfEachSession h.session (λ s. leave_refusal s ≡ None)
    → Steps (record h { pending = h.pending ++ out; session = x }) h' act (finishes dial_ends.Stopped) → Steps h h' act leaves
left h h' x act out becomes is allowed steps =
    same_rows h h' act leaves (leaves_unless None) (leaves_as h None allowed)
    (same_rows h h' act (leaves_unless None) (λ d. finishes dial_ends.Stopped (left_with out d)) (leaves_to h out is)
    (after h (record h { pending = h.pending ++ out; session = x }) h' act (finishes dial_ends.Stopped) (left_with out) (left_state h x out becomes) steps))

pub not_left : (h h' : DialerState) (x : SessionState) (act : Act) (fault : SessionFault) → x ≡ h.session → fault ≢ faults.NoMemory
    → OfEachSession h.session (λ s. IsRefusal fault (leave_refusal s)) → Steps (record h { session = x }) h' act (finishes dial_ends.Stopped) → Steps h h' act leaves
not_left h h' x act fault same judged refused steps =
    same_rows h h' act leaves (finishes dial_ends.Stopped) (leaves_as h (Some (refusal_by fault)) (λ s st. is_refused fault _ judged (refused s st)))
    (with_same h h' x act (finishes dial_ends.Stopped) same steps)
