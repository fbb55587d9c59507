-- What comes of a look at unread bytes.
use Rattle.std.proofs.Common.{◌≡◌, ℕ, Bool, true, false, cond, eqb, drop, rules, Option, Some, None, List, refl, ap, sym, ◌∙◌, subst}
use Rattle.std.specs.Prelude.{Result, Ok, Err, IfOk}
use Rattle.std.specs.Option.{is_some}
use Rattle.std.proofs.lemmas.Bool.{cond-true, cond-false, false_from_ne_true, false≢true}
use Rattle.ra_model.specs.declared.frame.Frame.{Frame}
use Rattle.ra_model.specs.Frames.{Begins}
use Rattle.ra_frame.specs.Fronts.{HasFrame}
use Rattle.ra_model.specs.FrameKinds.{frame_kind}
use Rattle.ra_model.specs.FrameKinds.FrameKind.{Regular, Control, Disconnect, ReplayRequest, Pause, Resume, Other}
use Rattle.ra_model.specs.FirstFrame.{first_frame, is_too_long}
use Rattle.ra_model.proofs.Cuts.{too_long-none, found-not_too_long}
use Rattle.ra_upgrade.specs.AnswerHeads.{AnswerIs}
use Rattle.ra_sign.specs.Signature.{signature_text}
use Rattle.ra_dial.specs.declared.handshake.Handled.{Handled}
use Rattle.ra_dial.specs.declared.handshake.Handled.TheVariants as handled
use Rattle.ra_dial.specs.Clients.{Settings}
use Rattle.ra_dial.specs.ShakingStates.{ShakingState}
use Rattle.ra_dial.specs.Handshakes.{Head, HasHead, Looked, is_open, fails, passes, on_answer, on_frame, on_first, on_frames, on_unread, on_shaking, Came, Handles}

-- ---- frames

pub begun_not_long : (text : List ℕ) (f : Frame) (rest : List ℕ) → Begins text f rest → is_too_long text ≡ false
begun_not_long text f rest begins = false_from_ne_true (is_too_long text) (λ t. too_long-none text t f rest begins.fits begins.whole)

-- ---- what comes of a look

long_fails : (signature : List ℕ → List ℕ) (s : ShakingState) → is_too_long s.unread ≡ true → on_frames signature s ≡ (fails, s)
unfolding on_frames
long_fails signature s long = cond-true (is_too_long s.unread) (fails, s) (on_first signature (first_frame s.unread) s) long

short_first : (signature : List ℕ → List ℕ) (s : ShakingState) → is_too_long s.unread ≡ false → on_frames signature s ≡ on_first signature (first_frame s.unread) s
unfolding on_frames
short_first signature s long = cond-false (is_too_long s.unread) (fails, s) (on_first signature (first_frame s.unread) s) long

pub spoiled : (signature : List ℕ → List ℕ) (s : ShakingState) → is_too_long s.unread ≡ true → Came s s handled.Fails (on_frames signature s)
spoiled signature s long = subst (λ (l : Looked). Came s s handled.Fails l) (sym (long_fails signature s long)) (record { look = refl; kept = refl })

pub partial : (signature : List ℕ → List ℕ) (s : ShakingState) → is_too_long s.unread ≡ false → first_frame s.unread ≡ None
    → Came s s handled.Waits (on_frames signature s)
partial signature s long none =
    subst (λ (l : Looked). Came s s handled.Waits l) (sym (short_first signature s long ∙ ap (λ (f : Option (Frame × List ℕ)). on_first signature f s) none))
    (record { look = refl; kept = refl })

pub framed : {E : Type 0} (signature : List ℕ → List ℕ) (s new : ShakingState) (f : Frame) (rest : List ℕ) (r : Result Handled E) → Begins s.unread f rest
    → first_frame s.unread ≡ Some (f, rest) → IfOk r (λ h. Came s new h (on_frame signature (frame_kind f.kind) f rest s)) → IfOk r (λ h. Came s new h (on_frames signature s))
framed signature s new f rest r begins is came =
    subst (λ (l : Looked). IfOk r (λ h. Came s new h l))
    (sym (short_first signature s (begun_not_long s.unread f rest begins) ∙ ap (λ (o : Option (Frame × List ℕ)). on_first signature o s) is)) came

-- a frame that says nothing is passed over
passes_kind : (signature : List ℕ → List ℕ) (a b c d e f : Bool) (frame : Frame) (rest : List ℕ) (s : ShakingState) → b ≡ false → c ≡ false → e ≡ false
    → on_frame signature (cond a Regular (cond b Control (cond c Disconnect (cond d ReplayRequest (cond e Pause (cond f Resume Other)))))) frame rest s ≡ passes rest s
passes_kind signature true b c d e f frame rest s nb nc ne = refl
passes_kind signature false true c d e f frame rest s nb nc ne = absurd cc
passes_kind signature false false true d e f frame rest s nb nc ne = absurd cc
passes_kind signature false false false true e f frame rest s nb nc ne = refl
passes_kind signature false false false false true f frame rest s nb nc ne = absurd cc
passes_kind signature false false false false false true frame rest s nb nc ne = refl
passes_kind signature false false false false false false frame rest s nb nc ne = refl

not_eq : (a b : ℕ) → (a ≡ b → ⊥) → eqb a b ≡ false
not_eq a b ne = search (rules, ne)

pub passed : (signature : List ℕ → List ℕ) (s new : ShakingState) (h : Handled) (kind size : ℕ) → HasFrame s.unread kind size
    → (kind ≡ 2 → ⊥) → (kind ≡ 5 → ⊥) → (kind ≡ 7 → ⊥) → Came s new h (passes (drop size s.unread) s) → Came s new h (on_frames signature s)
passed signature s new h kind size has nb nc ne came =
    let f : Frame = has.frame in
    subst (λ (l : Looked). Came s new h l)
    (sym (short_first signature s (found-not_too_long s.unread (f, drop size s.unread) has.first) ∙ ap (λ (o : Option (Frame × List ℕ)). on_first signature o s) has.first
    ∙ passes_kind signature (eqb f.kind 1) (eqb f.kind 2) (eqb f.kind 5) (eqb f.kind 6) (eqb f.kind 7) (eqb f.kind 8) f (drop size s.unread) s
    (not_eq f.kind 2 (λ is. nb (sym has.kind_is ∙ is))) (not_eq f.kind 5 (λ is. nc (sym has.kind_is ∙ is))) (not_eq f.kind 7 (λ is. ne (sym has.kind_is ∙ is))))) came

-- ---- an answer, or a frame

if_ok : {T E : Type 0} (P Q : T → Type 0) (r : Result T E) → ((t : T) → P t → Q t) → IfOk r P → IfOk r Q
if_ok P Q (Ok t) maps holds = maps t holds
if_ok P Q (Err fault) maps holds = tt

pub answered : {E : Type 0} (settings : Settings) (old new : ShakingState) (key : List ℕ) (r : Result Handled E) → old.key ≡ Some key
    → IfOk r (λ h. (head : Head) × AnswerIs key old.unread head × Came old new h (on_answer settings.skip_frames head old))
    → IfOk r (λ h. Handles settings old new h)
answered settings old new key r is came = if_ok _ _ r (λ h c. record {
  head = c.0;
  is_head = subst (λ (k : Option (List ℕ)). HasHead k old.unread c.0) (sym is) c.1;
  came = subst (λ (k : Option (List ℕ)). Came old new h (on_shaking settings k c.0 old)) (sym is) c.2;
}) came

-- no answer is waited for
unanswered : (settings : Settings) (old new : ShakingState) (h : Handled) → old.key ≡ None → Came old new h (on_unread (signature_text settings.sign_key) old.rest old)
    → Handles settings old new h
unanswered settings old new h is came = record {
  head = Ok None;
  is_head = subst (λ (k : Option (List ℕ)). HasHead k old.unread (Ok None)) (sym is) tt;
  came = subst (λ (k : Option (List ℕ)). Came old new h (on_shaking settings k (Ok None) old)) (sym is) came;
}

is_waiting : (signature : List ℕ → List ℕ) (rest : Option (List ℕ)) (s : ShakingState) → is_some rest ≡ true → on_unread signature rest s ≡ (is_open, s)
is_waiting signature None s is = absurd (false≢true is)
is_waiting signature (Some rest) s is = refl

is_reading : (signature : List ℕ → List ℕ) (rest : Option (List ℕ)) (s : ShakingState) → is_some rest ≡ false → on_unread signature rest s ≡ on_frames signature s
is_reading signature None s is = refl
is_reading signature (Some rest) s is = absurd (false≢true (sym is))

pub switching : (settings : Settings) (old : ShakingState) → old.key ≡ None → is_some old.rest ≡ true → Handles settings old old handled.Waits
switching settings old is waits = unanswered settings old old handled.Waits is
    (subst (λ (l : Looked). Came old old handled.Waits l) (sym (is_waiting (signature_text settings.sign_key) old.rest old waits)) (record { look = refl; kept = refl }))

pub looked : {E : Type 0} (settings : Settings) (old new : ShakingState) (r : Result Handled E) → old.key ≡ None → is_some old.rest ≡ false
    → IfOk r (λ h. Came old new h (on_frames (signature_text settings.sign_key) old)) → IfOk r (λ h. Handles settings old new h)
looked settings old new r is none came = if_ok _ _ r (λ h c. unanswered settings old new h is
    (subst (λ (l : Looked). Came old new h l) (sym (is_reading (signature_text settings.sign_key) old.rest old none)) c)) came
