-- What a client says in its handshake: a front of all of it, and nothing more behind the end.
use Rattle.std.proofs.Common.{◌≡◌, ℕ, ◌<◌, ◌≤◌, Bool, true, false, cond, Option, Some, None, List, [], ◌++◌, length, refl, ap, ◌∙◌, append-nil, append_assoc, length-append, codes, arith}
use Rattle.std.specs.Prelude.{⊤}
use Rattle.std.proofs.lemmas.Bool.{cond_both, false≢true}
use Rattle.serde_json.specs.Data.{Data}
use Rattle.ra_base.specs.declared.key.Key.{Key}
use Rattle.ra_model.specs.declared.frame.Frame.{Frame}
use Rattle.ra_model.specs.FirstFrame.{first_frame, is_too_long}
use Rattle.ra_model.specs.FrameKinds.{FrameKind, Regular, Control, Disconnect, ReplayRequest, Pause, Resume, Other, frame_kind, control_frame}
use Rattle.ra_model.proofs.Framing.{length-frame_bytes, header_some}
use Rattle.ra_sign.specs.Signature.{signature_text}
use Rattle.ra_shake.specs.Client.{with_reason, refusal, on_signed, on_answer, is_accepted, client_step}
use Rattle.ra_shake.specs.Reading.{reading, text_of_member, has_type}
use Rattle.ra_shake.specs.States.{ClientState}
use Rattle.ra_shake.specs.declared.client.ClientStep.{ClientStep}
use Rattle.ra_shake.specs.declared.client.ClientStep.TheVariants as steps
use Rattle.ra_dial.specs.Clients.{Settings, request_of}
use Rattle.ra_dial.specs.Handshakes.{Head, Look, is_open, goes_on, fails, refuses, accepts, in_frame, on_step, on_frame, on_first, on_frames, on_unread, on_shaking}
use Rattle.ra_dial.specs.ShakingStates.{ShakingState}
use Rattle.ra_grand_runs.specs.SetUps.{settings_for}
use Rattle.ra_handshake_laws.specs.Handshakes.{client_text, first_message, second_message, HasSaid}

-- ---- the text

frame_some : (text : List ℕ) → 0 < length (in_frame text)
frame_some text = let some = header_some (control_frame text).wide in omega (arith, some, length-frame_bytes (control_frame text))

-- what it has said is a front of all that it may say
pub said_front : (owner : Key) (reconnection : Bool) (key own text : List ℕ) (waits : Option (List ℕ)) (answered : Bool) → HasSaid owner reconnection key own text waits answered
    → (theirs : List ℕ) × (rest : List ℕ) × (text ++ rest ≡ client_text owner reconnection key own theirs)
said_front owner reconnection key own text (Some waits) answered said =
    ([], first_message own ++ second_message owner [], ap (λ (t : List ℕ). t ++ (first_message own ++ second_message owner [])) said)
said_front owner reconnection key own text None false said = (
  [],
  second_message owner [],
  ap (λ (t : List ℕ). t ++ second_message owner []) said
      ∙ append_assoc (request_of (settings_for owner) reconnection key) (first_message own) (second_message owner []),
)
said_front owner reconnection key own text None true said = (said.0, [], append-nil text ∙ said.1)

-- it has said all only once it has answered the server's challenge
pub said_all : (owner : Key) (reconnection : Bool) (key own text theirs : List ℕ) (waits : Option (List ℕ)) (answered : Bool) → HasSaid owner reconnection key own text waits answered
    → length (client_text owner reconnection key own theirs) ≤ length text → (waits ≡ None) × (answered ≡ true)
said_all owner reconnection key own text theirs (Some waits) answered said le =
    let request = request_of (settings_for owner) reconnection key in
    let first = first_message own in
    let second = second_message owner theirs in
    absurd (omega (arith, le, ap length said, length-append request (first ++ second), length-append first second, first_some own))
  where
    first_some : (own : List ℕ) → 0 < length (first_message own)
    first_some own = frame_some _
said_all owner reconnection key own text theirs None false said le =
    let request = request_of (settings_for owner) reconnection key in
    let first = first_message own in
    let second = second_message owner theirs in
    absurd (omega (arith, le, ap length said, length-append request first, length-append request (first ++ second), length-append first second, second_some owner theirs))
  where
    second_some : (owner : Key) (theirs : List ℕ) → 0 < length (second_message owner theirs)
    second_some owner theirs = frame_some _
said_all owner reconnection key own text theirs None true said le = (refl, refl)

-- ---- one that has answered says nothing more

abbrev IsSilent : ClientStep → Type 0
IsSilent (steps.Say text) = ⊥
IsSilent steps.Done = ⊤
IsSilent (steps.Refused reason) = ⊤
IsSilent steps.Unexpected = ⊤

silent_reason : (o : Option (List ℕ)) → IsSilent (with_reason o)
silent_reason None = tt
silent_reason (Some reason) = tt

silent_refusal : (value : Option Data) → IsSilent (refusal value)
unfolding refusal
silent_refusal value =
    cond_both (has_type (codes "error") value) (with_reason (text_of_member (codes "reason") value)) steps.Unexpected IsSilent
    (λ yes. silent_reason (text_of_member (codes "reason") value)) (λ no. tt)

silent_step : (signature : List ℕ → List ℕ) (s : ClientState) (body : List ℕ) → s.has_answered ≡ true → IsSilent (client_step signature s body)
silent_step signature s body answered = by s.has_answered answered
  where
    by : (b : Bool) → b ≡ true → IsSilent (cond b (on_answer s (reading body)) (on_signed signature s (reading body)))
    by true is = cond_both (is_accepted s.kind (reading body)) steps.Done (refusal (reading body)) IsSilent (λ yes. tt) (λ no. silent_refusal (reading body))
    by false is = absurd (false≢true is)

abbrev pub IsQuiet : Look → Type 0
IsQuiet is_open = ⊤
IsQuiet (goes_on written) = written ≡ []
IsQuiet fails = ⊤
IsQuiet (refuses reason) = ⊤
IsQuiet (accepts chunk) = ⊤

quiet_step : (step : ClientStep) (rest : List ℕ) (s : ShakingState) → IsSilent step → IsQuiet (on_step step rest s).0
quiet_step (steps.Say text) rest s silent = absurd silent
quiet_step steps.Done rest s silent = tt
quiet_step (steps.Refused reason) rest s silent = tt
quiet_step steps.Unexpected rest s silent = tt

quiet_frame : (signature : List ℕ → List ℕ) (kind : FrameKind) (f : Frame) (rest : List ℕ) (s : ShakingState) → s.shake.has_answered ≡ true → IsQuiet (on_frame signature kind f rest s).0
quiet_frame signature Regular f rest s answered = refl
quiet_frame signature Control f rest s answered = quiet_step (client_step signature s.shake f.body) rest s (silent_step signature s.shake f.body answered)
quiet_frame signature Disconnect f rest s answered = tt
quiet_frame signature ReplayRequest f rest s answered = refl
quiet_frame signature Pause f rest s answered = refl
quiet_frame signature Resume f rest s answered = refl
quiet_frame signature Other f rest s answered = refl

quiet_first : (signature : List ℕ → List ℕ) (first : Option (Frame × List ℕ)) (s : ShakingState) → s.shake.has_answered ≡ true → IsQuiet (on_first signature first s).0
quiet_first signature None s answered = tt
quiet_first signature (Some p) s answered = quiet_frame signature (frame_kind p.0.kind) p.0 p.1 s answered

quiet_frames : (signature : List ℕ → List ℕ) (s : ShakingState) → s.shake.has_answered ≡ true → IsQuiet (on_frames signature s).0
unfolding on_frames
quiet_frames signature s answered = by (is_too_long s.unread)
  where
    by : (b : Bool) → IsQuiet (cond b (fails, s) (on_first signature (first_frame s.unread) s)).0
    by true = tt
    by false = quiet_first signature (first_frame s.unread) s answered

quiet_unread : (signature : List ℕ → List ℕ) (rest : Option (List ℕ)) (s : ShakingState) → s.shake.has_answered ≡ true → IsQuiet (on_unread signature rest s).0
quiet_unread signature None s answered = quiet_frames signature s answered
quiet_unread signature (Some rest) s answered = tt

pub quiet_look : (settings : Settings) (key : Option (List ℕ)) (head : Head) (s : ShakingState) → key ≡ None → s.shake.has_answered ≡ true
    → IsQuiet (on_shaking settings key head s).0
quiet_look settings None head s none answered = quiet_unread (signature_text settings.sign_key) s.rest s answered
quiet_look settings (Some key) head s none answered = absurd cc
