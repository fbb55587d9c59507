-- What a server wrote on a link, text by text, and what stands behind the part that its client has read.
use Rattle.std.proofs.Common.{◌≡◌, ◌≢◌, ℕ, Option, Some, None, List, ◌++◌, refl, ap, sym, ◌∙◌, append_assoc, arith}
use Rattle.std.proofs.lemmas.List.{append_cancel_left}
use Rattle.ra_base.specs.declared.handshake.Reason.{Reason}
use Rattle.ra_base.specs.declared.kind.Kind.{Kind}
use Rattle.ra_base.specs.declared.kind.Kind.TheVariants.{Management, ExtensionHost, Tunnel}
use Rattle.ra_model.specs.Frames.{IsFrame, frame_bytes}
use Rattle.ra_model.specs.FrameKinds.{control_frame}
use Rattle.ra_model.proofs.Framing.{first_frames_equal}
use Rattle.ra_upgrade.specs.AnswerTexts.{answer_text}
use Rattle.ra_upgrade.specs.RequestTexts.{key_text}
use Rattle.ra_sign.specs.Signature.{signature_text}
use Rattle.ra_sign.proofs.SignatureLemmas.{signature_short}
use Rattle.ra_shake.specs.Made.{made_text}
use Rattle.ra_shake.specs.Texts.{sign_text, accept_text, refuse_text}
use Rattle.ra_shake.proofs.LengthLemmas.{sign_short, accept_short, refuse_short}
use Rattle.ra_shake.proofs.MadeLemmas.{made_len}
use Rattle.ra_opening.specs.Verdicts.{refusal_bytes, acceptance_bytes}
use Rattle.ra_link_core.specs.LinkRuns.{Welcome, pause_bytes}
use Rattle.ra_dial.specs.Handshakes.{in_frame}
use Rattle.ra_grand_runs.specs.SetUps.{secret}
use Rattle.ra_handshake_laws.specs.Handshakes.{greeting, Speaks}
use Rattle.ra_handshake_laws.proofs.FrameFronts.{is_control}

-- the server's message
abbrev pub signed : List ℕ → List ℕ → List ℕ
signed own theirs = sign_text (made_text own) (signature_text secret theirs)

pub sign_frame : (own theirs : List ℕ) → IsFrame (control_frame (signed own theirs))
sign_frame own theirs =
    is_control (signed own theirs) (omega (arith, sign_short (made_text own) (signature_text secret theirs), made_len own, signature_short secret theirs))

pub refusal_frame : (reason : Reason) → IsFrame (control_frame (refuse_text reason))
refusal_frame reason = is_control (refuse_text reason) (omega (arith, refuse_short reason))

pub accept_frame : (kind : Kind) → IsFrame (control_frame (accept_text kind))
accept_frame kind = is_control (accept_text kind) (omega (arith, accept_short kind))

-- an acceptance is a Pause, where there is one, and the message
pub acceptance_parts : (kind : Kind) → kind ≢ Tunnel → acceptance_bytes kind ≡ pause_bytes kind ++ in_frame (accept_text kind)
acceptance_parts Management known = refl
acceptance_parts ExtensionHost known = refl
acceptance_parts Tunnel known = absurd (known refl)

-- ---- what was written, as far as its client can know

-- its first messages, and whatever follows them
pub record Greets (key out : List ℕ) : Type 0 where
  pub own : List ℕ
  pub theirs : List ℕ
  pub rest : List ℕ
  pub behind : List ℕ
  pub same : out ++ rest ≡ greeting key own theirs ++ behind

pub greets : (kind : Kind) (key : List ℕ) (welcome : Option Welcome) (out : List ℕ) → Speaks kind key welcome out → Greets key out
greets kind key None out (own, theirs, reason, rest, same) = record { own = own; theirs = theirs; rest = rest; behind = refusal_bytes reason; same = same }
greets kind key (Some w) out (own, theirs, agrees, down, pause) = record {
  own = own;
  theirs = theirs;
  rest = agrees.more;
  behind = acceptance_bytes kind ++ agrees.rest;
  same = agrees.same ∙ append_assoc (greeting key own theirs) (acceptance_bytes kind) agrees.rest;
}

-- ---- what is behind the part that was read

pub front_more : (front rest text more whole : List ℕ) → front ++ rest ≡ text → text ++ more ≡ whole → front ++ (rest ++ more) ≡ whole
front_more front rest text more whole is same = sym (append_assoc front rest more) ∙ ap (λ (t : List ℕ). t ++ more) is ∙ same

-- both begin with the same text
pub behind_front : (read front unread more behind : List ℕ) → read ≡ front ++ unread → read ++ more ≡ front ++ behind → unread ++ more ≡ behind
behind_front read front unread more behind is same =
    append_cancel_left front (unread ++ more) behind (sym (append_assoc front unread more) ∙ ap (λ (t : List ℕ). t ++ more) (sym is) ∙ same)

pub greeting_parts : (key own theirs behind : List ℕ) → greeting key own theirs ++ behind ≡ answer_text (key_text key) ++ (in_frame (signed own theirs) ++ behind)
greeting_parts key own theirs behind = append_assoc (answer_text (key_text key)) (in_frame (signed own theirs)) behind

-- of two greetings with a key that begin one text, each is the other
pub one_greeting : (key own theirs own' theirs' x y : List ℕ) → greeting key own theirs ++ x ≡ greeting key own' theirs' ++ y
    → (greeting key own theirs ≡ greeting key own' theirs') × (x ≡ y)
one_greeting key own theirs own' theirs' x y same =
    let answer = answer_text (key_text key) in
    let frames = append_cancel_left answer (in_frame (signed own theirs) ++ x) (in_frame (signed own' theirs') ++ y)
    (sym (greeting_parts key own theirs x) ∙ same ∙ greeting_parts key own' theirs' y) in
    let equal = first_frames_equal (control_frame (signed own theirs)) (control_frame (signed own' theirs')) x y (sign_frame own theirs) (sign_frame own' theirs') frames in
    (ap (λ f. answer ++ frame_bytes f) equal.0, equal.1)

-- what was read is its greeting, and more
pub greeting_read : (key own theirs own' theirs' read unread more out rest behind : List ℕ) → read ≡ greeting key own theirs ++ unread → read ++ more ≡ out
    → out ++ rest ≡ greeting key own' theirs' ++ behind → (greeting key own theirs ≡ greeting key own' theirs') × (unread ++ (more ++ rest) ≡ behind)
greeting_read key own theirs own' theirs' read unread more out rest behind is whole same =
    one_greeting key own theirs own' theirs' (unread ++ (more ++ rest)) behind
    (sym (append_assoc (greeting key own theirs) unread (more ++ rest)) ∙ ap (λ (t : List ℕ). t ++ (more ++ rest)) (sym is) ∙ front_more read more out rest (greeting key own' theirs' ++ behind) whole same)
