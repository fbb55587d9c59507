-- The rows of a handshake's steps, at what a dialer keeps.
use Rattle.std.proofs.Common.{◌≡◌, ℕ, ◌+◌, true, false, None, List, ◌++◌, refl, ap, sym, ◌∙◌, subst, append_assoc}
use Rattle.std.specs.Prelude.{Result, Ok, Err, IfOk}
use Rattle.std.proofs.lemmas.Bool.{false≢true}
use Rattle.ra_dial.specs.declared.stage.Stage.{Stage}
use Rattle.ra_dial.specs.declared.stage.Stage.TheVariants as stages
use Rattle.ra_dial.specs.declared.values.DialEnd.TheVariants as dial_ends
use Rattle.ra_dial.specs.declared.values.DialAct.{DialAct}
use Rattle.ra_dial.specs.declared.handshake.Handled.{Handled}
use Rattle.ra_dial.specs.declared.handshake.Handled.TheVariants as handled
use Rattle.ra_dial.specs.ShakingStates.{ShakingState}
use Rattle.ra_dial.specs.Handshakes.{Head, IsHeadOf, Look, looked_at, taken_by, Handles, look_of, kept_by}
use Rattle.ra_dial.specs.Dialers.{Dialer}
use Rattle.ra_dial.specs.Acts.{Act, act_of, nothing, quiet}
use Rattle.ra_dial.specs.Attempts.{Step, finishes, fails}
use Rattle.ra_dial.specs.Links.{after_look, attaches, shakes, turns}
use Rattle.ra_dial.specs.Table.{on_frame, is_shaking, is_attached}
use Rattle.ra_dial.specs.DialerStates.{DialerState, dialer_of, StandsForDialer, DialerBecomes, Steps, StepsByHead}
use Rattle.ra_dial.proofs.Standing.{of_dialers, by_rows, same_rows, after, at_stage}
use Rattle.ra_dial.proofs.AttemptRows.{told}

-- the dialer once so many bytes more count as read
abbrev reads : ℕ → Dialer → Dialer
reads n d = record d { read = d.read + n }

read_on : (h : DialerState) (n : ℕ) → DialerBecomes h h (reads n)
read_on h n = of_dialers h (λ d. StandsForDialer h (reads n d)) (λ s r st. record { same = refl; session = st })

-- what comes of a look, by the look and the handshake after it
pub after_looks : (h h' : DialerState) (act : Act) (since : ℕ) (s : ShakingState) (head : Head) (now : ℕ)
    → Steps h h' act (after_look since (looked_at h.settings head s).0 (looked_at h.settings head s).1 now) → Steps h h' act (shakes since s head now)
unfolding shakes
after_looks h h' act since s head now steps =
    same_rows h h' act (shakes since s head now)
    (λ d. after_look since (looked_at h.settings head s).0 (looked_at h.settings head s).1 now (reads (taken_by s (looked_at h.settings head s).1) d))
    (of_dialers h _ (λ x r st. refl))
    (after h h h' act (after_look since (looked_at h.settings head s).0 (looked_at h.settings head s).1 now) (reads (taken_by s (looked_at h.settings head s).1))
    (read_on h (taken_by s (looked_at h.settings head s).1)) steps)

-- the state of a dialer after a look, before what follows from it
abbrev pub looked : DialerState → ℕ → ShakingState → DialerState
looked h since new = record h { stage = stages.Shaking since new }

pub by_look : (h h' : DialerState) (act : Act) (since : ℕ) (s : ShakingState) (new : ShakingState) (h_is : h.stage ≡ stages.Shaking since s) (got : Handled) (now : ℕ)
    → (handles : Handles h.settings s new got)
    → ((next : ShakingState) → new ≡ kept_by (look_of got) next s → Steps h h' act (after_look since (look_of got) next now))
    → StepsByHead h h' act (λ head d. on_frame d.stage head now d)
by_look h h' act since s new h_is got now handles steps = record {
  head = handles.head;
  is_head = subst (λ (st : Stage). IsHeadOf st handles.head) (sym h_is) handles.is_head;
  steps = at_stage h h' act (λ st d. on_frame st handles.head now d) (stages.Shaking since s) h_is
      (after_looks h h' act since s handles.head now
      (subst (λ (l : Look). Steps h h' act (after_look since l (looked_at h.settings handles.head s).1 now)) handles.came.look
      (steps (looked_at h.settings handles.head s).1
      (handles.came.kept ∙ ap (λ (l : Look). kept_by l (looked_at h.settings handles.head s).1 s) (sym handles.came.look)))));
}

-- ---- each look

-- a handshake that is kept as it was is the dialer's
back : (h : DialerState) (since : ℕ) (s new : ShakingState) → h.stage ≡ stages.Shaking since s → new ≡ s → looked h since new ≡ h
back h since s new h_is kept = ap (λ (n : ShakingState). looked h since n) kept ∙ ap (λ (st : Stage). record h { stage = st }) (sym h_is)

from_back : (h h' : DialerState) (act : Act) (row : Dialer → Step) (since : ℕ) (s new : ShakingState) → h.stage ≡ stages.Shaking since s → new ≡ s
    → Steps (looked h since new) h' act row → Steps h h' act row
from_back h h' act row since s new h_is kept steps = subst (λ (x : DialerState). Steps x h' act row) (back h since s new h_is kept) steps

pub look_waits : (h : DialerState) (since : ℕ) (s new : ShakingState) (now : ℕ) → h.stage ≡ stages.Shaking since s → Handles h.settings s new handled.Waits
    → StepsByHead h (looked h since new) nothing (λ head d. on_frame d.stage head now d)
look_waits h since s new now h_is handles = by_look h (looked h since new) nothing since s new h_is handled.Waits now handles (λ next kept.
    subst (λ (x : DialerState). Steps h x nothing (λ d. (nothing, d))) (sym (back h since s new h_is kept)) (told h nothing))

went_on : (h : DialerState) (since : ℕ) (next : ShakingState) (header text : List ℕ)
    → Steps h (record h { stage = stages.Shaking since next; pending = (h.pending ++ header) ++ text }) quiet
    (λ d. (quiet, record d { stage = stages.Shaking since next; pending = d.pending ++ (header ++ text) }))
went_on h since next header text = by_rows h _ quiet (λ d. (quiet, record d { stage = stages.Shaking since next; pending = d.pending ++ (header ++ text) }))
    (λ s r st. refl) (λ s r st.
    subst (λ (p : List ℕ). StandsForDialer (record h { stage = stages.Shaking since next; pending = p }) (record (dialer_of s r h) { stage = stages.Shaking since next; pending = h.pending ++ (header ++ text) }))
    (sym (append_assoc h.pending header text)) (record { same = refl; session = st }))

pub look_goes : (h : DialerState) (since : ℕ) (s new : ShakingState) (now : ℕ) (header text : List ℕ) → h.stage ≡ stages.Shaking since s
    → Handles h.settings s new (handled.GoesOn header text)
    → StepsByHead h (record h { stage = stages.Shaking since new; pending = (h.pending ++ header) ++ text }) quiet (λ head d. on_frame d.stage head now d)
look_goes h since s new now header text h_is handles =
    by_look h (record h { stage = stages.Shaking since new; pending = (h.pending ++ header) ++ text }) quiet since s new h_is (handled.GoesOn header text) now handles (λ next kept.
    subst (λ (n : ShakingState). Steps h (record h { stage = stages.Shaking since n; pending = (h.pending ++ header) ++ text }) quiet
    (λ d. (quiet, record d { stage = stages.Shaking since next; pending = d.pending ++ (header ++ text) })))
    (sym kept) (went_on h since next header text))

pub look_fails : (h h' : DialerState) (act : Act) (since : ℕ) (s new : ShakingState) (now : ℕ) → h.stage ≡ stages.Shaking since s → Handles h.settings s new handled.Fails
    → Steps (looked h since new) h' act (fails true now) → StepsByHead h h' act (λ head d. on_frame d.stage head now d)
look_fails h h' act since s new now h_is handles steps = by_look h h' act since s new h_is handled.Fails now handles (λ next kept.
    from_back h h' act (fails true now) since s new h_is kept steps)

pub look_refuses : (h h' : DialerState) (act : Act) (since : ℕ) (s new : ShakingState) (now : ℕ) (reason : List ℕ) → h.stage ≡ stages.Shaking since s
    → Handles h.settings s new (handled.Refuses reason) → Steps (looked h since new) h' act (finishes (dial_ends.Permanent reason))
    → StepsByHead h h' act (λ head d. on_frame d.stage head now d)
look_refuses h h' act since s new now reason h_is handles steps = by_look h h' act since s new h_is (handled.Refuses reason) now handles (λ next kept.
    from_back h h' act (finishes (dial_ends.Permanent reason)) since s new h_is kept steps)

if_ok : {T E : Type 0} (P Q : T → Type 0) (r : Result T E) → ((t : T) → P t → Q t) → IfOk r P → IfOk r Q
if_ok P Q (Ok t) maps holds = maps t holds
if_ok P Q (Err fault) maps holds = tt

pub look_accepts : {E : Type 0} (h h' : DialerState) (r : Result DialAct E) (since : ℕ) (s new : ShakingState) (now : ℕ) (chunk : List ℕ) → h.stage ≡ stages.Shaking since s
    → Handles h.settings s new (handled.Accepts chunk) → IfOk r (λ act. Steps (looked h since new) h' (act_of act) (attaches chunk now))
    → IfOk r (λ act. StepsByHead h h' (act_of act) (λ head d. on_frame d.stage head now d))
look_accepts h h' r since s new now chunk h_is handles steps = if_ok _ _ r (λ act went.
    by_look h h' (act_of act) since s new h_is (handled.Accepts chunk) now handles (λ next kept.
    from_back h h' (act_of act) (attaches chunk now) since s new h_is kept went)) steps

-- ---- no handshake

no_head : (h h' : DialerState) (act : Act) (now : ℕ) (stage : Stage) → h.stage ≡ stage → IsHeadOf stage (Ok None) → Steps h h' act (on_frame stage (Ok None) now)
    → StepsByHead h h' act (λ head d. on_frame d.stage head now d)
no_head h h' act now stage is holds steps = record {
  head = Ok None;
  is_head = subst (λ (st : Stage). IsHeadOf st (Ok None)) (sym is) holds;
  steps = at_stage h h' act (λ st d. on_frame st (Ok None) now d) stage is steps;
}

pub attached_frame : {E : Type 0} (h h' : DialerState) (r : Result DialAct E) (now : ℕ) → h.stage ≡ stages.Attached → IfOk r (λ act. Steps h h' (act_of act) (turns now))
    → IfOk r (λ act. StepsByHead h h' (act_of act) (λ head d. on_frame d.stage head now d))
attached_frame h h' r now is steps = if_ok _ _ r (λ act went. no_head h h' (act_of act) now stages.Attached is tt went) steps

-- neither shaking nor attached
pub idle_frame : (h : DialerState) (now : ℕ) (stage : Stage) → h.stage ≡ stage → is_shaking stage ≡ false → is_attached stage ≡ false
    → StepsByHead h h nothing (λ head d. on_frame d.stage head now d)
idle_frame h now (stages.Resting until) is a b = no_head h h nothing now (stages.Resting until) is tt (told h nothing)
idle_frame h now (stages.Calling since) is a b = no_head h h nothing now (stages.Calling since) is tt (told h nothing)
idle_frame h now (stages.Shaking since s) is a b = absurd (false≢true (sym a))
idle_frame h now stages.Attached is a b = absurd (false≢true (sym b))
idle_frame h now (stages.Over end) is a b = no_head h h nothing now (stages.Over end) is tt (told h nothing)
