-- The texts of a handshake are short enough for a frame.
use Rattle.std.proofs.Common.{◌≡◌, ℕ, ◌≤◌, false, Option, Some, None, List, ◌++◌, sym, subst, length, arith}
use Rattle.std.specs.Prelude.{⊤, codes}
use Rattle.std.proofs.lemmas.Bool.{cond_both}
use Rattle.serde_json.specs.Data.{Data}
use Rattle.ra_base.specs.declared.kind.Kind.{Kind}
use Rattle.ra_base.specs.declared.kind.Kind.TheVariants.{Management, ExtensionHost, Tunnel}
use Rattle.ra_model.specs.Frames.{frame_bytes, body_limit}
use Rattle.ra_model.specs.FrameKinds.{written_frame}
use Rattle.ra_sign.specs.Signature.{signature_text}
use Rattle.ra_sign.proofs.SignatureLemmas.{signature_short}
use Rattle.ra_shake.specs.declared.client.ClientStep.{ClientStep}
use Rattle.ra_shake.specs.declared.client.ClientStep.TheVariants.{Say, Done, Refused, Unexpected}
use Rattle.ra_shake.specs.States.{ClientState, secret_or_zeros}
use Rattle.ra_shake.specs.Texts.{auth_text}
use Rattle.ra_shake.specs.Reading.{reading, text_of_member, has_type}
use Rattle.ra_shake.specs.Client.{kind_number, with_reason, refusal, is_accepted, answer_to, on_signed, on_answer, client_step}
use Rattle.ra_shake.proofs.LengthLemmas.{auth_short, connection_short}
use Rattle.ra_dial.specs.ShortTexts.{IsShort, IsShortShake}
use Rattle.ra_dial.specs.Handshakes.{in_frame}

pub header_joined : (text header : List ℕ) → frame_bytes (record { kind = 2; wide = false; id = 0; ack = 0; body = text }) ≡ header ++ text
    → header ++ text ≡ in_frame text
unfolding written_frame
header_joined text header is = sym is

-- ---- texts are short enough for a frame

secret_short : (secret : Option (List ℕ)) → IsShort secret → length (secret_or_zeros secret) ≤ 65536
secret_short None short = omega arith
secret_short (Some secret) short = short

pub first_short : (s : ClientState) → IsShortShake s → length (auth_text (secret_or_zeros s.settings.secret) s.challenge) ≤ body_limit
first_short s short = omega (arith, auth_short (secret_or_zeros s.settings.secret) s.challenge, secret_short s.settings.secret short.secret, short.challenge)

abbrev pub IsShortStep : ClientStep → Type 0
IsShortStep (Say text) = length text ≤ body_limit
IsShortStep Done = ⊤
IsShortStep (Refused reason) = ⊤
IsShortStep Unexpected = ⊤

with_reason_short : (reason : Option (List ℕ)) → IsShortStep (with_reason reason)
with_reason_short None = tt
with_reason_short (Some reason) = tt

refusal_short : (value : Option Data) → IsShortStep (refusal value)
unfolding refusal
refusal_short value = cond_both (has_type (codes "error") value) (with_reason (text_of_member (codes "reason") value)) Unexpected IsShortStep
    (λ _. with_reason_short (text_of_member (codes "reason") value)) (λ _. tt)

kind_small : (kind : Kind) → kind_number kind ≤ 3
kind_small Management = omega arith
kind_small ExtensionHost = omega arith
kind_small Tunnel = omega arith

answer_short : (key : List ℕ) (s : ClientState) (challenge : Option (List ℕ)) → IsShortShake s → IsShortStep (answer_to (signature_text key) s challenge)
answer_short key s None short = tt
answer_short key s (Some challenge) short =
    omega (arith, connection_short s.settings.commit (kind_number s.kind) (signature_text key challenge) (omega (arith, kind_small s.kind)), signature_short key challenge, short.commit)

pub step_short : (key : List ℕ) (s : ClientState) (body : List ℕ) → IsShortShake s → IsShortStep (client_step (signature_text key) s body)
step_short key s body short =
    cond_both s.has_answered (on_answer s (reading body)) (on_signed (signature_text key) s (reading body)) IsShortStep
    (λ _. cond_both (is_accepted s.kind (reading body)) Done (refusal (reading body)) IsShortStep (λ _. tt) (λ _. refusal_short (reading body)))
    (λ _. cond_both (has_type (codes "sign") (reading body)) (answer_to (signature_text key) s (text_of_member (codes "data") (reading body))) (refusal (reading body)) IsShortStep
    (λ _. answer_short key s (text_of_member (codes "data") (reading body)) short) (λ _. refusal_short (reading body)))

pub said_short : (key : List ℕ) (s : ClientState) (body text : List ℕ) → IsShortShake s → Say text ≡ client_step (signature_text key) s body → length text ≤ body_limit
said_short key s body text short is = subst IsShortStep (sym is) (step_short key s body short)
