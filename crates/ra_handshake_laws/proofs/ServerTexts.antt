-- The messages of a client fit frames, and what the server does on each of them.
use Rattle.std.proofs.Common.{◌≡◌, ◌≢◌, ℕ, ◌<◌, ◌^◌, Bool, true, Option, Some, List, [], length, IsUtf8, refl, ap, arith, lit<}
use Rattle.std.specs.Cmp.Lexicographic.{nat_list_eq_equiv}
use Rattle.std.specs.Str.{is_utf8, chars}
use Rattle.std.proofs.lemmas.Str.{IsUtf8-from_is_utf8}
use lib.Utf8.{encode}
use Rattle.ra_base.specs.declared.handshake.Reason.{Reason}
use Rattle.ra_base.specs.declared.key.Key.{Key}
use Rattle.ra_base.specs.declared.kind.Kind.{Kind}
use Rattle.ra_base.specs.declared.kind.Kind.TheVariants.{Management, ExtensionHost, Tunnel}
use Rattle.ra_model.specs.Frames.{IsFrame}
use Rattle.ra_model.specs.FrameKinds.{control_frame}
use Rattle.ra_sign.specs.Signature.{signature_text, is_signature}
use Rattle.ra_sign.proofs.SignatureLemmas.{signature_short, signature_utf8}
use Rattle.ra_shake.specs.declared.server.ShakeStep.TheVariants.{Say, Ask}
use Rattle.ra_shake.specs.declared.server.Stage.TheVariants as stages
use Rattle.ra_shake.specs.Client.{kind_number}
use Rattle.ra_shake.specs.Made.{made_text}
use Rattle.ra_shake.specs.Reading.{reading}
use Rattle.ra_shake.specs.Server.{server_step, refuse_or}
use Rattle.ra_shake.specs.States.{ServerState}
use Rattle.ra_shake.specs.Texts.{auth_text, sign_text, connection_text}
use Rattle.ra_shake.specs.Verdict.{is_authorized, judge_second, wanted_kind}
use Rattle.ra_shake.proofs.LengthLemmas.{auth_short, connection_short}
use Rattle.ra_shake.proofs.MadeLemmas.{made_len, made_utf8}
use Rattle.ra_shake.proofs.ReadBackLemmas.{reading-connection_text}
use Rattle.ra_shake.proofs.WholeLemmas.{server_first}
use Rattle.ra_grand_runs.specs.SetUps.{secret, shake_settings}
use Rattle.ra_handshake_laws.specs.Handshakes.{request_for}
use Rattle.ra_handshake_laws.proofs.FrameTexts.{control_fits}

-- ---- the messages

abbrev pub first_body : List ℕ → List ℕ
first_body own = auth_text secret (made_text own)

abbrev pub second_body : Kind → List ℕ → List ℕ
second_body kind theirs = connection_text [] (kind_number kind) (signature_text secret theirs)

secret_len : length secret ≡ 2
secret_len = refl

secret_utf8 : IsUtf8 secret
unfolding is_utf8 chars encode
secret_utf8 = IsUtf8-from_is_utf8 secret refl

nothing_utf8 : IsUtf8 []
unfolding is_utf8 chars encode
nothing_utf8 = IsUtf8-from_is_utf8 [] refl

number_small : (kind : Kind) → kind_number kind < 2 ^ 64
number_small Management = lit< tt
number_small ExtensionHost = lit< tt
number_small Tunnel = lit< tt

pub first_fits : (own : List ℕ) → IsFrame (control_frame (first_body own))
first_fits own = control_fits (first_body own) (omega (arith, auth_short secret (made_text own), made_len own, secret_len))

pub second_fits : (kind : Kind) (theirs : List ℕ) → IsFrame (control_frame (second_body kind theirs))
second_fits kind theirs =
    control_fits (second_body kind theirs) (omega (arith, connection_short [] (kind_number kind) (signature_text secret theirs) (number_small kind), signature_short secret theirs))

-- ---- the server, with its challenge of drawn bytes

abbrev pub waiting : Key → Bool → List ℕ → ServerState
waiting owner reconnection draw = record {
  settings = shake_settings;
  token = owner.token;
  reconnection = reconnection;
  challenge = made_text draw;
  stage = stages.First;
}

abbrev pub judging : Key → Bool → List ℕ → ServerState
judging owner reconnection draw = record (waiting owner reconnection draw) { stage = stages.Second }

secret_counts : is_authorized (Some secret) (Some secret) ≡ true
unfolding is_authorized
secret_counts = nat_list_eq_equiv.refl secret

-- it signs the client's challenge
pub first_step_is : (owner : Key) (reconnection : Bool) (own draw : List ℕ)
    → server_step (signature_text secret) (is_signature secret) (waiting owner reconnection draw) (first_body own)
    ≡ Say (sign_text (made_text draw) (signature_text secret (made_text own)))
first_step_is owner reconnection own draw =
    server_first (signature_text secret) (is_signature secret) (waiting owner reconnection draw) secret (made_text own) refl secret_utf8 (made_utf8 own) secret_counts

-- the kind that a second message wants
wanted_is : (kind : Kind) (theirs : List ℕ) → kind ≢ Tunnel → wanted_kind (reading (second_body kind theirs)) ≡ Some kind
unfolding wanted_kind
wanted_is Management theirs known = rw (reading-connection_text [] 1 (signature_text secret theirs) nothing_utf8 (number_small Management) (signature_utf8 secret theirs)) refl
wanted_is ExtensionHost theirs known = rw (reading-connection_text [] 2 (signature_text secret theirs) nothing_utf8 (number_small ExtensionHost) (signature_utf8 secret theirs)) refl
wanted_is Tunnel theirs known = absurd (known refl)

-- the reason to refuse a second message, where there is one
abbrev pub second_reason : Kind → (theirs draw : List ℕ) → Option Reason
second_reason kind theirs draw = judge_second shake_settings (is_signature secret (made_text draw)) (reading (second_body kind theirs))

-- it asks for the client's session, or refuses
pub second_step_is : (owner : Key) (reconnection : Bool) (theirs draw : List ℕ) → owner.kind ≢ Tunnel
    → server_step (signature_text secret) (is_signature secret) (judging owner reconnection draw) (second_body owner.kind theirs)
    ≡ refuse_or (Ask (request_for owner reconnection)) (second_reason owner.kind theirs draw)
second_step_is owner reconnection theirs draw known =
    ap (λ (kind : Option Kind). refuse_or (Ask (record { kind = kind; token = owner.token; reconnection = reconnection })) (second_reason owner.kind theirs draw))
    (wanted_is owner.kind theirs known)
