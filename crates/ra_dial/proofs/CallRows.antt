-- The calls of a dialer beside its events, at what it keeps.
use Rattle.std.proofs.Common.{◌≡◌, ℕ, Bool, true, false, Option, List, [], ◌∷◌, ◌++◌, refl, ap, sym, ◌∙◌, subst, length}
use Rattle.std.proofs.Math.Seq.{take-append_seam, drop-append_seam}
use Rattle.std.specs.Prelude.{Result, Ok, Err, OnOk, IsTrue, ◌↔◌}
use Rattle.std.proofs.lemmas.Bool.{false≢true}
use Rattle.ra_proto.specs.Shown.{shown_of}
use Rattle.ra_session.proofs.TurnSteps.{shown_is}
use Rattle.ra_session.specs.Sessions.{Session}
use Rattle.ra_session.specs.SessionRefusals.{Refusal, Refuses}
use Rattle.ra_session.specs.SessionStates.{SessionState, StandsForSession, OfEachSession, SessionBecomes}
use Rattle.ra_session.specs.declared.values.SessionFault.{SessionFault}
use Rattle.ra_dial.specs.declared.stage.Stage.{Stage}
use Rattle.ra_dial.specs.declared.stage.Stage.TheVariants as stages
use Rattle.ra_dial.specs.Dialers.{Dialer}
use Rattle.ra_dial.specs.Table.{out, next_of, next_out, without_next, handed_out, shown_at, session_after}
use Rattle.ra_dial.specs.View.{on_session}
use Rattle.ra_dial.specs.DialerStates.{DialerState, dialer_of, StandsForDialer, OfEachDialer, DialerBecomes}
use Rattle.ra_dial.proofs.Standing.{of_dialers}
use Rattle.ra_dial.proofs.LinkRows.{session_becomes}

-- ---- calls of the session

pub used : {X : Type 0} (h : DialerState) (x : SessionState) (call : Session → Session) (r : Result X SessionFault) → OnOk r (SessionBecomes h.session x call)
    → OnOk r (DialerBecomes h (record h { session = x }) (on_session call))
used h x call (Ok t) becomes = session_becomes h x call becomes
used h x call (Err fault) becomes = tt

pub of_session : {X : Type 0} (h : DialerState) (refusal : Session → Option Refusal) (r : Result X SessionFault) → OfEachSession h.session (λ s. Refuses r (refusal s))
    → OfEachDialer h (λ d. Refuses r (refusal d.session))
of_session h refusal r each d stands = each d.session stands.session

-- ---- bytes that are handed out

next_front : (front rest pending : List ℕ) (d : Dialer) → pending ≡ front ++ rest → (front ≡ [] → ⊥) → front ≡ next_of pending (length front) d
next_front [] rest pending d is some = absurd (some refl)
next_front (b ∷ bs) rest pending d is some =
    subst (λ (p : List ℕ). b ∷ bs ≡ next_of p (length (b ∷ bs)) d) (sym is) (sym (take-append_seam (b ∷ bs) rest))

without_front : (front rest pending : List ℕ) (d : Dialer) → pending ≡ front ++ rest → (front ≡ [] → ⊥) → without_next pending (length front) d ≡ record d { pending = rest }
without_front [] rest pending d is some = absurd (some refl)
without_front (b ∷ bs) rest pending d is some =
    subst (λ (p : List ℕ). without_next p (length (b ∷ bs)) d ≡ record d { pending = rest }) (sym is)
    (ap (λ (p : List ℕ). record d { pending = p }) (drop-append_seam (b ∷ bs) rest))

pub front_out : (h : DialerState) (front rest : List ℕ) → h.pending ≡ front ++ rest → (front ≡ [] → ⊥) → OfEachDialer h (λ d. front ≡ next_out (length front) d)
front_out h front rest is some = of_dialers h (λ d. front ≡ next_out (length front) d) (λ s r st. next_front front rest h.pending (dialer_of s r h) is some)

pub front_gone : (h : DialerState) (front rest : List ℕ) → h.pending ≡ front ++ rest → (front ≡ [] → ⊥)
    → DialerBecomes h (record h { pending = rest }) (handed_out (length front))
front_gone h front rest is some = of_dialers h (λ d. StandsForDialer (record h { pending = rest }) (handed_out (length front) d)) (λ s r st.
    subst (λ (d : Dialer). StandsForDialer (record h { pending = rest }) d) (sym (without_front front rest h.pending (dialer_of s r h) is some)) (record { same = refl; session = st }))

-- ---- nothing waits

abbrev shown_when : Stage → SessionState → List ℕ
shown_when (stages.Resting until) x = []
shown_when (stages.Calling since) x = []
shown_when (stages.Shaking since s) x = []
shown_when stages.Attached x = shown_of x.endpoint
shown_when (stages.Over end) x = []

shows : (stage : Stage) (h : DialerState) (s : Session) (r : ℕ) → StandsForSession h.session s → shown_at stage (dialer_of s r h) ≡ shown_when stage h.session
shows (stages.Resting until) h s r st = refl
shows (stages.Calling since) h s r st = refl
shows (stages.Shaking since x) h s r st = refl
shows stages.Attached h s r st = shown_is h.session.endpoint s.peer.endpoint st.endpoint
shows (stages.Over end) h s r st = refl

pub last_out : (h : DialerState) (result : List ℕ) → h.pending ≡ [] → result ≡ shown_when h.stage h.session → OfEachDialer h (λ d. result ≡ next_out (length result) d)
last_out h result none is = of_dialers h (λ d. result ≡ next_out (length result) d) (λ s r st.
    subst (λ (p : List ℕ). result ≡ next_of p (length result) (dialer_of s r h)) (sym none) (is ∙ sym (shows h.stage h s r st)))

pub none_left : (h : DialerState) (result : List ℕ) → h.pending ≡ [] → result ≡ shown_when h.stage h.session → result ≡ [] → OfEachDialer h (λ d. out d ≡ [])
none_left h result none is empty = of_dialers h (λ d. out d ≡ []) (λ s r st.
    ap (λ (p : List ℕ). p ++ shown_at h.stage (dialer_of s r h)) none ∙ (shows h.stage h s r st ∙ (sym is ∙ empty)))

last_gone_as : (pending : List ℕ) (n : ℕ) (d : Dialer) → pending ≡ [] → without_next pending n d ≡ record d { session = session_after d.stage d.session }
last_gone_as pending n d none = ap (λ (p : List ℕ). without_next p n d) none

pub last_gone : (h : DialerState) (x : SessionState) (n : ℕ) → h.pending ≡ [] → SessionBecomes h.session x (session_after h.stage)
    → DialerBecomes h (record h { session = x }) (handed_out n)
last_gone h x n none becomes = of_dialers h (λ d. StandsForDialer (record h { session = x }) (handed_out n d)) (λ s r st.
    subst (λ (d : Dialer). StandsForDialer (record h { session = x }) d) (sym (last_gone_as h.pending n (dialer_of s r h) none)) (record { same = refl; session = becomes s st }))

pub is_front : (b : Bool) (front : List ℕ) → (IsTrue b ↔ (front ≡ [])) → b ≡ false → front ≡ [] → ⊥
is_front true front empty some is = false≢true (sym some)
is_front false front empty some is = false≢true (empty.1 is)
