-- The rows of links, at what a dialer keeps.
use Rattle.std.proofs.Common.{◌≡◌, ◌≢◌, ℕ, Bool, true, Option, Some, None, List, [], ◌++◌, refl, ap, sym, ◌∙◌, subst}
use Rattle.std.specs.Prelude.{Result, Ok, Err, IfOk, OnOk}
use Rattle.ra_base.specs.declared.memory.NoMemory.{NoMemory}
use Rattle.ra_ipc.specs.View.{id_of}
use Rattle.ra_base.specs.declared.key.Cause.{Cause}
use Rattle.ra_session.specs.Sessions.{Session}
use Rattle.ra_session.specs.SessionCalls.{attach, feed_session, lose_session}
use Rattle.ra_session.specs.SessionRefusals.{Refusal, ended, stale, no_link, too_long, bad_ipc, too_large, ids_spent, no_such_call, wrong_kind, bad_message, IsRefusal, attach_refusal, feed_refusal}
use Rattle.ra_session.specs.SessionStates.{SessionState, StandsForSession, OfEachSession, SessionBecomes}
use Rattle.ra_session.specs.Turns.{TurnAnswer, turn, turn_answer}
use Rattle.ra_session.specs.TurnRefusals.{turn_refusal, TurnLeaves}
use Rattle.ra_session.specs.declared.values.SessionFault.{SessionFault}
use Rattle.ra_session.specs.declared.values.SessionFault.TheVariants as faults
use Rattle.ra_dial.specs.declared.stage.Stage.TheVariants as stages
use Rattle.ra_dial.specs.Dialers.{Dialer, epoch}
use Rattle.ra_session.specs.declared.values.Turn.{Turn}
use Rattle.ra_dial.specs.declared.values.DialAct.{DialAct}
use Rattle.ra_dial.specs.Acts.{Act, nothing, quiet, act_of}
use Rattle.ra_dial.specs.Attempts.{rest_or_drop, fails}
use Rattle.ra_dial.specs.Links.{loses, next_epoch, attaches, attaches_unless, feeds_attached, feeds_unless, refused_turn, after_refusal, turns, turns_unless, after_turn}
use Rattle.ra_dial.specs.DialerStates.{DialerState, dialer_of, StandsForDialer, OfEachDialer, DialerBecomes, Steps}
use Rattle.ra_dial.proofs.Standing.{of_dialers, by_rows, same_rows, after}
use Rattle.ra_dial.proofs.AttemptRows.{epoch_is, told}

-- the session alone has changed
pub session_becomes : (h : DialerState) (x : SessionState) (call : Session → Session) → SessionBecomes h.session x call
    → DialerBecomes h (record h { session = x }) (λ d. record d { session = call d.session })
session_becomes h x call becomes = of_dialers h _ (λ s r st. record { same = refl; session = becomes s st })

-- ---- refusals

-- the refusal that a fault is; one for want of memory is none
abbrev pub refusal_by : SessionFault → Refusal
refusal_by (faults.Ended cause) = ended cause
refusal_by (faults.Stale current) = stale current
refusal_by faults.NoLink = no_link
refusal_by (faults.TooLong n) = too_long n
refusal_by (faults.BadIpc fault message) = bad_ipc (bad_message fault) message
refusal_by (faults.TooLarge len) = too_large len
refusal_by faults.IdsSpent = ids_spent
refusal_by (faults.NoSuchCall id) = no_such_call (id_of id)
refusal_by faults.WrongKind = wrong_kind
refusal_by faults.NoMemory = no_link

pub is_refused : (fault : SessionFault) (r : Option Refusal) → fault ≢ faults.NoMemory → IsRefusal fault r → r ≡ Some (refusal_by fault)
is_refused (faults.Ended cause) r judged is = is
is_refused (faults.Stale current) r judged is = is
is_refused faults.NoLink r judged is = is
is_refused (faults.TooLong n) r judged is = is
is_refused (faults.BadIpc fault message) r judged is = is
is_refused (faults.TooLarge len) r judged is = is
is_refused faults.IdsSpent r judged is = is
is_refused (faults.NoSuchCall id) r judged is = is
is_refused faults.WrongKind r judged is = is
is_refused faults.NoMemory r judged is = absurd (judged refl)

own_refusal : (fault : SessionFault) → IsRefusal fault (Some (refusal_by fault))
own_refusal (faults.Ended cause) = refl
own_refusal (faults.Stale current) = refl
own_refusal faults.NoLink = refl
own_refusal (faults.TooLong n) = refl
own_refusal (faults.BadIpc fault message) = refl
own_refusal (faults.TooLarge len) = refl
own_refusal faults.IdsSpent = refl
own_refusal (faults.NoSuchCall id) = refl
own_refusal faults.WrongKind = refl
own_refusal faults.NoMemory = tt

-- ---- a link is lost

pub lost : (h : DialerState) (drops : Bool) (now : ℕ) (x : SessionState) → SessionBecomes h.session x (lose_session h.session.endpoint.epoch)
    → Steps h (record h { stage = stages.Resting now; attempt = 0; lost = now; pending = []; session = x }) (rest_or_drop drops now) (loses drops now)
unfolding loses
lost h drops now x becomes = by_rows h _ _ (loses drops now) (λ s r st. refl) (λ s r st.
    record { same = refl; session = subst (λ (n : ℕ). StandsForSession x (lose_session n s)) (sym (epoch_is h.session s st)) (becomes s st) })

-- ---- the session is attached

attaches_as : (h : DialerState) (chunk : List ℕ) (now : ℕ) (o : Option Refusal) → OfEachSession h.session (λ s. attach_refusal (next_epoch h.session.endpoint.epoch) s ≡ o)
    → OfEachDialer h (λ d. attaches chunk now d ≡ attaches_unless o chunk now d)
unfolding attaches
attaches_as h chunk now o is = of_dialers h (λ d. attaches chunk now d ≡ attaches_unless o chunk now d) (λ s r st.
    ap (λ (n : ℕ). attaches_unless (attach_refusal (next_epoch n) s) chunk now (dialer_of s r h)) (epoch_is h.session s st)
    ∙ ap (λ (x : Option Refusal). attaches_unless x chunk now (dialer_of s r h)) (is s st))

pub attached : (h : DialerState) (x : SessionState) (chunk : List ℕ) (now : ℕ) → SessionBecomes h.session x (attach (next_epoch h.session.endpoint.epoch) chunk now)
    → OfEachSession h.session (λ s. attach_refusal (next_epoch h.session.endpoint.epoch) s ≡ None)
    → Steps h (record h { stage = stages.Attached; attempt = 0; session = x }) quiet (attaches chunk now)
attached h x chunk now becomes allowed =
    same_rows h _ quiet (attaches chunk now) (attaches_unless None chunk now) (attaches_as h chunk now None allowed)
    (by_rows h _ quiet (attaches_unless None chunk now) (λ s r st. refl) (λ s r st.
    record { same = refl; session = subst (λ (n : ℕ). StandsForSession x (attach (next_epoch n) chunk now s)) (sym (epoch_is h.session s st)) (becomes s st) }))

pub not_attached : (h h' : DialerState) (x : SessionState) (act : Act) (fault : SessionFault) (chunk : List ℕ) (now : ℕ) → x ≡ h.session → fault ≢ faults.NoMemory
    → OfEachSession h.session (λ s. IsRefusal fault (attach_refusal (next_epoch h.session.endpoint.epoch) s)) → Steps (record h { session = x }) h' act (fails true now)
    → Steps h h' act (attaches chunk now)
not_attached h h' x act fault chunk now same judged refused steps =
    same_rows h h' act (attaches chunk now) (fails true now)
    (attaches_as h chunk now (Some (refusal_by fault)) (λ s st. is_refused fault _ judged (refused s st)))
    (subst (λ (y : SessionState). Steps (record h { session = y }) h' act (fails true now)) same steps)

-- ---- bytes come

feeds_as : (h : DialerState) (piece : List ℕ) (now : ℕ) (o : Option Refusal) → OfEachSession h.session (λ s. feed_refusal h.session.endpoint.epoch s ≡ o)
    → OfEachDialer h (λ d. feeds_attached piece now d ≡ feeds_unless o piece now d)
unfolding feeds_attached
feeds_as h piece now o is = of_dialers h (λ d. feeds_attached piece now d ≡ feeds_unless o piece now d) (λ s r st.
    ap (λ (n : ℕ). feeds_unless (feed_refusal n s) piece now (dialer_of s r h)) (epoch_is h.session s st)
    ∙ ap (λ (x : Option Refusal). feeds_unless x piece now (dialer_of s r h)) (is s st))

pub fed : (h : DialerState) (x : SessionState) (piece : List ℕ) (now : ℕ) → SessionBecomes h.session x (feed_session h.session.endpoint.epoch piece now)
    → OfEachSession h.session (λ s. feed_refusal h.session.endpoint.epoch s ≡ None) → Steps h (record h { session = x }) nothing (feeds_attached piece now)
fed h x piece now becomes allowed =
    same_rows h _ nothing (feeds_attached piece now) (feeds_unless None piece now) (feeds_as h piece now None allowed)
    (by_rows h _ nothing (feeds_unless None piece now) (λ s r st. refl) (λ s r st.
    record { same = refl; session = subst (λ (n : ℕ). StandsForSession x (feed_session n piece now s)) (sym (epoch_is h.session s st)) (becomes s st) }))

pub not_fed : (h : DialerState) (x : SessionState) (fault : SessionFault) (piece : List ℕ) (now : ℕ) → x ≡ h.session → fault ≢ faults.NoMemory
    → OfEachSession h.session (λ s. IsRefusal fault (feed_refusal h.session.endpoint.epoch s)) → Steps h (record h { session = x }) nothing (feeds_attached piece now)
not_fed h x fault piece now same judged refused =
    same_rows h _ nothing (feeds_attached piece now) (λ d. (nothing, d))
    (feeds_as h piece now (Some (refusal_by fault)) (λ s st. is_refused fault _ judged (refused s st)))
    (subst (λ (y : SessionState). Steps h (record h { session = y }) nothing (λ d. (nothing, d))) (sym same) (told h nothing))

-- ---- a turn

turns_as : (h : DialerState) (now : ℕ) (o : Option Refusal) → OfEachSession h.session (λ s. turn_refusal h.session.endpoint.epoch [] now s ≡ o)
    → OfEachDialer h (λ d. turns now d ≡ turns_unless o now d)
unfolding turns
turns_as h now o is = of_dialers h (λ d. turns now d ≡ turns_unless o now d) (λ s r st.
    ap (λ (n : ℕ). turns_unless (turn_refusal n [] now s) now (dialer_of s r h)) (epoch_is h.session s st)
    ∙ ap (λ (x : Option Refusal). turns_unless x now (dialer_of s r h)) (is s st))

-- the dialer once it has what a turn put out
abbrev with_turn : List ℕ → ℕ → Dialer → Dialer
with_turn out now d = record d { pending = d.pending ++ out; session = turn (epoch d) [] now d.session }

turned_state : (h : DialerState) (x : SessionState) (out : List ℕ) (now : ℕ) → SessionBecomes h.session x (turn h.session.endpoint.epoch [] now)
    → DialerBecomes h (record h { pending = h.pending ++ out; session = x }) (with_turn out now)
turned_state h x out now becomes = of_dialers h (λ d. StandsForDialer (record h { pending = h.pending ++ out; session = x }) (with_turn out now d)) (λ s r st.
    record { same = refl; session = subst (λ (n : ℕ). StandsForSession x (turn n [] now s)) (sym (epoch_is h.session s st)) (becomes s st) })

answers_as : (h : DialerState) (now : ℕ) (answer : TurnAnswer) → OfEachSession h.session (λ s. answer ≡ turn_answer h.session.endpoint.epoch [] now s)
    → OfEachDialer h (λ d. turns_unless None now d ≡ after_turn answer answer.ended (with_turn answer.out now d))
answers_as h now answer is = of_dialers h (λ d. turns_unless None now d ≡ after_turn answer answer.ended (with_turn answer.out now d)) (λ s r st.
    ap (λ (a : TurnAnswer). after_turn a a.ended (with_turn a.out now (dialer_of s r h)))
    (ap (λ (n : ℕ). turn_answer n [] now s) (epoch_is h.session s st) ∙ sym (is s st)))

pub turned : (h h' : DialerState) (x : SessionState) (act : Act) (answer : TurnAnswer) (by : Option Cause) (now : ℕ) → answer.ended ≡ by → SessionBecomes h.session x (turn h.session.endpoint.epoch [] now)
    → OfEachSession h.session (λ s. answer ≡ turn_answer h.session.endpoint.epoch [] now s) → OfEachSession h.session (λ s. turn_refusal h.session.endpoint.epoch [] now s ≡ None)
    → Steps (record h { pending = h.pending ++ answer.out; session = x }) h' act (after_turn answer by) → Steps h h' act (turns now)
turned h h' x act answer by now is becomes answered allowed steps =
    same_rows h h' act (turns now) (turns_unless None now) (turns_as h now None allowed)
    (same_rows h h' act (turns_unless None now) (λ d. after_turn answer answer.ended (with_turn answer.out now d)) (answers_as h now answer answered)
    (after h (record h { pending = h.pending ++ answer.out; session = x }) h' act (after_turn answer answer.ended) (with_turn answer.out now)
    (turned_state h x answer.out now becomes)
    (subst (λ (o : Option Cause). Steps (record h { pending = h.pending ++ answer.out; session = x }) h' act (after_turn answer o)) (sym is) steps)))

heard_turn : (h : DialerState) (x : SessionState) (now : ℕ) → SessionBecomes h.session x (turn h.session.endpoint.epoch [] now)
    → DialerBecomes h (record h { session = x }) (λ d. record d { session = turn (epoch d) [] now d.session })
heard_turn h x now becomes = of_dialers h (λ d. StandsForDialer (record h { session = x }) (record d { session = turn (epoch d) [] now d.session })) (λ s r st.
    record { same = refl; session = subst (λ (n : ℕ). StandsForSession x (turn n [] now s)) (sym (epoch_is h.session s st)) (becomes s st) })

same_turn : (h : DialerState) (x : SessionState) → x ≡ h.session → DialerBecomes h (record h { session = x }) (λ d. d)
same_turn h x same = subst (λ (y : SessionState). DialerBecomes h (record h { session = y }) (λ d. d)) (sym same) (λ d st. st)

kept_turn : (h : DialerState) (x : SessionState) (fault : SessionFault) (now : ℕ)
    → TurnLeaves {X = Turn} (Err fault) (SessionBecomes h.session x (turn h.session.endpoint.epoch [] now)) (x ≡ h.session)
    → DialerBecomes h (record h { session = x }) (refused_turn (refusal_by fault) now)
kept_turn h x (faults.Ended cause) now leaves = same_turn h x leaves
kept_turn h x (faults.Stale current) now leaves = same_turn h x leaves
kept_turn h x faults.NoLink now leaves = same_turn h x leaves
kept_turn h x (faults.TooLong n) now leaves = same_turn h x leaves
kept_turn h x (faults.BadIpc fault message) now leaves = heard_turn h x now leaves
kept_turn h x (faults.TooLarge len) now leaves = same_turn h x leaves
kept_turn h x faults.IdsSpent now leaves = same_turn h x leaves
kept_turn h x (faults.NoSuchCall id) now leaves = same_turn h x leaves
kept_turn h x faults.WrongKind now leaves = same_turn h x leaves
kept_turn h x faults.NoMemory now leaves = same_turn h x leaves

if_ok : {T E : Type 0} (P Q : T → Type 0) (J : Type 0) (r : Result T E) → (J → (t : T) → P t → Q t) → OnOk r J → IfOk r P → IfOk r Q
if_ok P Q J (Ok t) maps judged holds = maps judged t holds
if_ok P Q J (Err fault) maps judged holds = tt

pub refused_by : (h h' : DialerState) (x : SessionState) (fault : SessionFault) (result : Result DialAct NoMemory) (now : ℕ)
    → TurnLeaves {X = Turn} (Err fault) (SessionBecomes h.session x (turn h.session.endpoint.epoch [] now)) (x ≡ h.session)
    → OfEachSession h.session (λ s. IsRefusal fault (turn_refusal h.session.endpoint.epoch [] now s))
    → OnOk result (fault ≢ faults.NoMemory)
    → IfOk result (λ act. (r : Refusal) → IsRefusal fault (Some r) → Steps (record h { session = x }) h' (act_of act) (after_refusal r now))
    → IfOk result (λ act. Steps h h' (act_of act) (turns now))
refused_by h h' x fault result now leaves refused judged steps = if_ok _ _ (fault ≢ faults.NoMemory) result (λ is act went.
    same_rows h h' (act_of act) (turns now) (λ d. after_refusal (refusal_by fault) now (refused_turn (refusal_by fault) now d))
    (turns_as h now (Some (refusal_by fault)) (λ s st. is_refused fault _ is (refused s st)))
    (after h (record h { session = x }) h' (act_of act) (after_refusal (refusal_by fault) now) (refused_turn (refusal_by fault) now)
    (kept_turn h x fault now leaves) (went (refusal_by fault) (own_refusal fault)))) judged steps
