-- What comes of a look at what a server wrote, by how far the handshake is.
use Rattle.std.proofs.Common.{◌≡◌, ◌≢◌, ◌⊎◌, ℕ, ◌+◌, ◌≤◌, Bool, true, false, cond, Option, Some, None, Ok, List, [], ◌++◌, length, drop, refl, ap, sym, ◌∙◌, subst, append_assoc, append-nil, inl, inr, length-append, arith}
use Rattle.std.specs.Prelude.{nat_lt}
use Rattle.std.proofs.lemmas.Bool.{ltb-false}
use Rattle.std.proofs.lemmas.List.{append_cancel_left}
use Rattle.ra_base.specs.declared.handshake.Reason.{Reason}
use Rattle.ra_base.specs.declared.key.Key.{Key}
use Rattle.ra_base.specs.declared.kind.Kind.{Kind}
use Rattle.ra_base.specs.declared.kind.Kind.TheVariants.{Management, ExtensionHost, Tunnel}
use Rattle.ra_model.specs.Frames.{frame_bytes}
use Rattle.ra_model.specs.FrameKinds.{written_frame, control_frame, pause_frame}
use Rattle.ra_model.specs.FirstFrame.{is_too_long}
use Rattle.ra_model.proofs.Framing.{first_frames_equal}
use Rattle.ra_upgrade.specs.AnswerTexts.{answer_text}
use Rattle.ra_upgrade.specs.RequestTexts.{key_text}
use Rattle.ra_sign.specs.Signature.{signature_text}
use Rattle.ra_sign.proofs.SignatureLemmas.{signature_utf8}
use Rattle.ra_shake.specs.declared.client.ClientStep.{ClientStep}
use Rattle.ra_shake.specs.declared.client.ClientStep.TheVariants as steps
use Rattle.ra_shake.specs.Client.{kind_number}
use Rattle.ra_shake.specs.Made.{made_text}
use Rattle.ra_shake.specs.Texts.{accept_text, refuse_text, connection_text}
use Rattle.ra_shake.proofs.MadeLemmas.{made_utf8}
use Rattle.ra_shake.proofs.WholeLemmas.{client_first, client_last, client_refused}
use Rattle.ra_opening.specs.Verdicts.{refusal_bytes, acceptance_bytes}
use Rattle.ra_link_core.specs.LinkRuns.{Welcome, pause_bytes}
use Rattle.ra_dial.specs.Clients.{request_of}
use Rattle.ra_dial.specs.Handshakes.{Looked, in_frame, on_step, on_frames, on_answer}
use Rattle.ra_dial.specs.ShakingStates.{ShakingState}
use Rattle.ra_grand_runs.specs.SetUps.{secret, shake_settings, settings_for, answer_with}
use Rattle.ra_handshake_laws.specs.Handshakes.{first_message, second_message, greeting, Speaks, LooksTo}
use Rattle.ra_handshake_laws.proofs.FrameFronts.{is_pause, pause-control, drop_behind, longer_begins, by_frame}
use Rattle.ra_handshake_laws.proofs.HandshakeTexts.{signed, sign_frame, refusal_frame, accept_frame, acceptance_parts, greets, front_more, behind_front, greeting_parts, greeting_read}

-- a handshake of the client with the challenge of these drawn bytes
abbrev pub handshake_at : Key → (own : List ℕ) → Option (List ℕ) → Bool → (unread pause : List ℕ) → ShakingState
handshake_at owner own key answered unread pause = record {
  key = key;
  rest = None;
  unread = unread;
  shake = record { settings = shake_settings; kind = owner.kind; challenge = made_text own; has_answered = answered };
  pause = pause;
}

abbrev pub ComesTo : Key → Bool → (key own read : List ℕ) → Option Welcome → ShakingState → Looked → Type 0
ComesTo owner reconnection key own read welcome s looked = LooksTo owner reconnection key own read welcome s looked.0 looked.1

-- ---- it waits for the answer to its request

answered_by : (owner : Key) (reconnection : Bool) (key own read : List ℕ) (welcome : Option Welcome) → (less : Bool)
    → nat_lt (length read) (length (answer_text (key_text key))) ≡ less
    → (less ≡ false → read ≡ answer_text (key_text key) ++ drop (length (answer_text (key_text key))) read)
    → ComesTo owner reconnection key own read welcome (handshake_at owner own (Some key) false read [])
    (on_answer true (cond less (Ok None) (Ok (Some (length (answer_text (key_text key)))))) (handshake_at owner own (Some key) false read []))
answered_by owner reconnection key own read welcome true less parts = tt
answered_by owner reconnection key own read welcome false less parts = (
  record { rest = refl; settings = refl; kind = refl; challenge = refl; heard = (parts refl, refl) },
  λ text said. ap (λ (t : List ℕ). t ++ first_message own) said,
)

answer_read : (key read more out : List ℕ) (kind : Kind) (welcome : Option Welcome) → Speaks kind key welcome out → read ++ more ≡ out
    → length (answer_text (key_text key)) ≤ length read → read ≡ answer_text (key_text key) ++ drop (length (answer_text (key_text key))) read
answer_read key read more out kind welcome speaks whole there =
    let answer = answer_text (key_text key) in
    let g = greets kind key welcome out speaks in
    longer_begins read answer (more ++ g.rest) (in_frame (signed g.own g.theirs) ++ g.behind)
    (front_more read more out g.rest (greeting key g.own g.theirs ++ g.behind) whole g.same ∙ greeting_parts key g.own g.theirs g.behind) there

pub on_waiting : (owner : Key) (reconnection : Bool) (key own read more out : List ℕ) (welcome : Option Welcome) → Speaks owner.kind key welcome out → read ++ more ≡ out
    → ComesTo owner reconnection key own read welcome (handshake_at owner own (Some key) false read [])
    (on_answer true (answer_with (length (answer_text (key_text key))) (length read)) (handshake_at owner own (Some key) false read []))
on_waiting owner reconnection key own read more out welcome speaks whole =
    answered_by owner reconnection key own read welcome _ refl
    (λ less. answer_read key read more out owner.kind welcome speaks whole (ltb-false (length read) (length (answer_text (key_text key))) less))

-- ---- it waits for the server's message

on_signed : (owner : Key) (reconnection : Bool) (key own read : List ℕ) (welcome : Option Welcome) (own' theirs' unread rest : List ℕ)
    → read ≡ answer_text (key_text key) ++ unread → unread ≡ in_frame (signed own' theirs') ++ rest
    → ComesTo owner reconnection key own read welcome (handshake_at owner own None false unread [])
    (on_step (steps.Say (connection_text [] (kind_number owner.kind) (signature_text secret (made_text own')))) rest (handshake_at owner own None false unread []))
on_signed owner reconnection key own read welcome own' theirs' unread rest is first = (
  record {
    rest = refl;
    settings = refl;
    kind = refl;
    challenge = refl;
    heard = (own', theirs', is ∙ ap (λ (t : List ℕ). answer_text (key_text key) ++ t) first ∙ sym (greeting_parts key own' theirs' rest), inl refl);
  },
  λ text said. (
    made_text own',
    ap (λ (t : List ℕ). t ++ second_message owner (made_text own')) said
        ∙ append_assoc (request_of (settings_for owner) reconnection key) (first_message own) (second_message owner (made_text own')),
  ),
)

pub on_greeted : (owner : Key) (reconnection : Bool) (key own read more out : List ℕ) (welcome : Option Welcome) (unread : List ℕ) → Speaks owner.kind key welcome out
    → read ++ more ≡ out → read ≡ answer_text (key_text key) ++ unread
    → ComesTo owner reconnection key own read welcome (handshake_at owner own None false unread []) (on_frames (signature_text secret) (handshake_at owner own None false unread []))
unfolding written_frame
on_greeted owner reconnection key own read more out welcome unread speaks whole is =
    let s = handshake_at owner own None false unread [] in
    let g = greets owner.kind key welcome out speaks in
    let same : unread ++ (more ++ g.rest) ≡ in_frame (signed g.own g.theirs) ++ g.behind = behind_front read (answer_text (key_text key)) unread (more ++ g.rest) (in_frame (signed g.own g.theirs) ++ g.behind) is
    (front_more read more out g.rest (greeting key g.own g.theirs ++ g.behind) whole g.same ∙ greeting_parts key g.own g.theirs g.behind) in
    by_frame (ComesTo owner reconnection key own read welcome s) (signature_text secret) s (control_frame (signed g.own g.theirs)) (more ++ g.rest) g.behind (sign_frame g.own g.theirs) same tt tt
    (λ rest first. subst (λ (x : ClientStep). ComesTo owner reconnection key own read welcome s (on_step x rest s))
    (sym (client_first (signature_text secret) s.shake (made_text g.own) (signature_text secret g.theirs) refl (made_utf8 g.own) (signature_utf8 secret g.theirs)))
    (on_signed owner reconnection key own read welcome g.own g.theirs unread rest is first))
    (is_too_long unread) refl

-- ---- it waits for the verdict

-- a refusal is no acceptance
on_refused : (owner : Key) (reconnection : Bool) (key own read : List ℕ) (unread pause more : List ℕ) (reason : Reason) → unread ++ more ≡ refusal_bytes reason
    → ComesTo owner reconnection key own read None (handshake_at owner own None true unread pause) (on_frames (signature_text secret) (handshake_at owner own None true unread pause))
unfolding written_frame
on_refused owner reconnection key own read unread pause more reason same =
    let s = handshake_at owner own None true unread pause in
    by_frame (ComesTo owner reconnection key own read None s) (signature_text secret) s (control_frame (refuse_text reason)) more [] (refusal_frame reason)
    (same ∙ sym (append-nil (refusal_bytes reason))) tt tt
    (λ rest first. subst (λ (x : ClientStep). ComesTo owner reconnection key own read None s (on_step x rest s)) (sym (client_refused (signature_text secret) s.shake reason)) tt)
    (is_too_long unread) refl

-- no pause begins a refusal
pause_refused : (unread more : List ℕ) (reason : Reason) → (frame_bytes pause_frame ++ unread) ++ more ≡ refusal_bytes reason → ⊥
pause_refused unread more reason same = pause-control (refuse_text reason)
    (first_frames_equal pause_frame (control_frame (refuse_text reason)) (unread ++ more) [] is_pause (refusal_frame reason)
    (sym (append_assoc (frame_bytes pause_frame) unread more) ∙ same ∙ sym (append-nil (refusal_bytes reason)))).0

on_paused : (owner : Key) (reconnection : Bool) (key own read : List ℕ) (w : Welcome) (own' theirs' unread more behind : List ℕ) → owner.kind ≡ ExtensionHost
    → read ≡ greeting key own' theirs' ++ unread → unread ++ more ≡ frame_bytes pause_frame ++ behind
    → ComesTo owner reconnection key own read (Some w) (handshake_at owner own None true unread []) (on_frames (signature_text secret) (handshake_at owner own None true unread []))
unfolding written_frame
on_paused owner reconnection key own read w own' theirs' unread more behind host is same =
    let s = handshake_at owner own None true unread [] in
    by_frame (ComesTo owner reconnection key own read (Some w) s) (signature_text secret) s pause_frame more behind is_pause same tt tt
    (λ rest first. (
      record { rest = refl; settings = refl; kind = refl; challenge = refl; heard = (own', theirs', is ∙ ap (λ (t : List ℕ). greeting key own' theirs' ++ t) first, inr (refl, host)) },
      λ text said. (said.0, append-nil text ∙ said.1),
    ))
    (is_too_long unread) refl

-- what was read up to the acceptance, and what came behind it
accepted : (kind : Kind) (read pause unread before rest : List ℕ) (w : Welcome) → kind ≢ Tunnel → pause ≡ pause_bytes kind → w.pause ≡ pause_bytes kind
    → w.down ≡ length (before ++ acceptance_bytes kind) → read ≡ before ++ (pause ++ unread) → unread ≡ in_frame (accept_text kind) ++ rest
    → (w.down ≤ length read) × (pause ++ rest ≡ w.pause ++ drop w.down read)
accepted kind read pause unread before rest w known paused w_paused down is first =
    let front = before ++ acceptance_bytes kind in
    let parts : front ≡ before ++ (pause ++ in_frame (accept_text kind)) = ap (λ (t : List ℕ). before ++ t) (acceptance_parts kind known ∙ ap (λ (t : List ℕ). t ++ in_frame (accept_text kind)) (sym paused)) in
    let whole : read ≡ front ++ rest = is ∙ ap (λ (t : List ℕ). before ++ (pause ++ t)) first
    ∙ ap (λ (t : List ℕ). before ++ t) (sym (append_assoc pause (in_frame (accept_text kind)) rest))
    ∙ sym (append_assoc before (pause ++ in_frame (accept_text kind)) rest) ∙ ap (λ (t : List ℕ). t ++ rest) (sym parts) in
    let size : length read ≡ length front + length rest = ap (λ (t : List ℕ). length t) whole ∙ length-append front rest in (
      omega (arith, size, down),
      ap (λ (t : List ℕ). t ++ rest) (paused ∙ sym w_paused) ∙ ap (λ (t : List ℕ). w.pause ++ t) (sym (ap (λ (n : ℕ). drop n read) down ∙ drop_behind read front rest whole)),
    )

on_accepted : (owner : Key) (reconnection : Bool) (key own read : List ℕ) (w : Welcome) (before unread pause more behind : List ℕ) → owner.kind ≢ Tunnel
    → pause ≡ pause_bytes owner.kind → w.pause ≡ pause_bytes owner.kind → w.down ≡ length (before ++ acceptance_bytes owner.kind)
    → read ≡ before ++ (pause ++ unread) → unread ++ more ≡ in_frame (accept_text owner.kind) ++ behind
    → ComesTo owner reconnection key own read (Some w) (handshake_at owner own None true unread pause) (on_frames (signature_text secret) (handshake_at owner own None true unread pause))
unfolding written_frame
on_accepted owner reconnection key own read w before unread pause more behind known paused w_paused down is same =
    let s = handshake_at owner own None true unread pause in
    by_frame (ComesTo owner reconnection key own read (Some w) s) (signature_text secret) s (control_frame (accept_text owner.kind)) more behind (accept_frame owner.kind) same tt tt
    (λ rest first. subst (λ (x : ClientStep). ComesTo owner reconnection key own read (Some w) s (on_step x rest s))
    (sym (client_last (signature_text secret) s.shake refl known))
    (let came = accepted owner.kind read pause unread before rest w known paused w_paused down is first in (w, refl, came.0, came.1)))
    (is_too_long unread) refl

-- without a Pause that was read
unpaused_by : (owner : Key) (reconnection : Bool) (key own read : List ℕ) (w : Welcome) (own' theirs' unread more behind : List ℕ) → owner.kind ≢ Tunnel
    → w.pause ≡ pause_bytes owner.kind → w.down ≡ length (greeting key own' theirs' ++ acceptance_bytes owner.kind)
    → read ≡ greeting key own' theirs' ++ unread → unread ++ more ≡ acceptance_bytes owner.kind ++ behind → (kind : Kind) → owner.kind ≡ kind
    → ComesTo owner reconnection key own read (Some w) (handshake_at owner own None true unread []) (on_frames (signature_text secret) (handshake_at owner own None true unread []))
unpaused_by owner reconnection key own read w own' theirs' unread more behind known w_paused down is same Management kind =
    on_accepted owner reconnection key own read w (greeting key own' theirs') unread [] more behind known (sym (ap pause_bytes kind)) w_paused down is
    (same ∙ ap (λ (t : List ℕ). t ++ behind) (acceptance_parts owner.kind known ∙ ap (λ (k : Kind). pause_bytes k ++ in_frame (accept_text owner.kind)) kind))
unpaused_by owner reconnection key own read w own' theirs' unread more behind known w_paused down is same ExtensionHost kind =
    on_paused owner reconnection key own read w own' theirs' unread more (in_frame (accept_text ExtensionHost) ++ behind) kind is
    (same ∙ ap (λ (k : Kind). acceptance_bytes k ++ behind) kind ∙ append_assoc (frame_bytes pause_frame) (in_frame (accept_text ExtensionHost)) behind)
unpaused_by owner reconnection key own read w own' theirs' unread more behind known w_paused down is same Tunnel kind = absurd (known kind)

-- with a Pause that was read
paused_by : (owner : Key) (reconnection : Bool) (key own read : List ℕ) (w : Welcome) (own' theirs' unread more behind : List ℕ) → owner.kind ≢ Tunnel
    → w.pause ≡ pause_bytes owner.kind → w.down ≡ length (greeting key own' theirs' ++ acceptance_bytes owner.kind) → owner.kind ≡ ExtensionHost
    → read ≡ greeting key own' theirs' ++ (frame_bytes pause_frame ++ unread) → (frame_bytes pause_frame ++ unread) ++ more ≡ acceptance_bytes owner.kind ++ behind
    → ComesTo owner reconnection key own read (Some w) (handshake_at owner own None true unread (frame_bytes pause_frame))
    (on_frames (signature_text secret) (handshake_at owner own None true unread (frame_bytes pause_frame)))
paused_by owner reconnection key own read w own' theirs' unread more behind known w_paused down host is same =
    let paused : frame_bytes pause_frame ≡ pause_bytes owner.kind = sym (ap pause_bytes host) in
    on_accepted owner reconnection key own read w (greeting key own' theirs') unread (frame_bytes pause_frame) more behind known paused w_paused down is
    (append_cancel_left (frame_bytes pause_frame) (unread ++ more) (in_frame (accept_text owner.kind) ++ behind)
    (sym (append_assoc (frame_bytes pause_frame) unread more) ∙ same
    ∙ ap (λ (t : List ℕ). t ++ behind) (acceptance_parts owner.kind known ∙ ap (λ (t : List ℕ). t ++ in_frame (accept_text owner.kind)) (sym paused))
    ∙ append_assoc (frame_bytes pause_frame) (in_frame (accept_text owner.kind)) behind))

-- what is read of a refusal
refused_by : (owner : Key) (reconnection : Bool) (key own read : List ℕ) (unread more : List ℕ) (reason : Reason) (pause : List ℕ)
    → (pause ≡ []) ⊎ ((pause ≡ frame_bytes pause_frame) × (owner.kind ≡ ExtensionHost)) → (pause ++ unread) ++ more ≡ refusal_bytes reason
    → ComesTo owner reconnection key own read None (handshake_at owner own None true unread pause) (on_frames (signature_text secret) (handshake_at owner own None true unread pause))
refused_by owner reconnection key own read unread more reason pause (inl none) same =
    on_refused owner reconnection key own read unread pause more reason (ap (λ (t : List ℕ). (t ++ unread) ++ more) (sym none) ∙ same)
refused_by owner reconnection key own read unread more reason pause (inr paused) same =
    absurd (pause_refused unread more reason (ap (λ (t : List ℕ). (t ++ unread) ++ more) (sym paused.0) ∙ same))

-- what is read of an acceptance
welcomed_by : (owner : Key) (reconnection : Bool) (key own read : List ℕ) (w : Welcome) (own' theirs' unread more behind : List ℕ) → owner.kind ≢ Tunnel
    → w.pause ≡ pause_bytes owner.kind → w.down ≡ length (greeting key own' theirs' ++ acceptance_bytes owner.kind) → (pause : List ℕ)
    → (pause ≡ []) ⊎ ((pause ≡ frame_bytes pause_frame) × (owner.kind ≡ ExtensionHost))
    → read ≡ greeting key own' theirs' ++ (pause ++ unread) → (pause ++ unread) ++ more ≡ acceptance_bytes owner.kind ++ behind
    → ComesTo owner reconnection key own read (Some w) (handshake_at owner own None true unread pause) (on_frames (signature_text secret) (handshake_at owner own None true unread pause))
welcomed_by owner reconnection key own read w own' theirs' unread more behind known w_paused down pause (inl none) is same =
    subst (λ (p : List ℕ). ComesTo owner reconnection key own read (Some w) (handshake_at owner own None true unread p) (on_frames (signature_text secret) (handshake_at owner own None true unread p)))
    (sym none)
    (unpaused_by owner reconnection key own read w own' theirs' unread more behind known w_paused down (is ∙ ap (λ (p : List ℕ). greeting key own' theirs' ++ (p ++ unread)) none)
    (ap (λ (p : List ℕ). (p ++ unread) ++ more) (sym none) ∙ same) owner.kind refl)
welcomed_by owner reconnection key own read w own' theirs' unread more behind known w_paused down pause (inr paused) is same =
    subst (λ (p : List ℕ). ComesTo owner reconnection key own read (Some w) (handshake_at owner own None true unread p) (on_frames (signature_text secret) (handshake_at owner own None true unread p)))
    (sym paused.0)
    (paused_by owner reconnection key own read w own' theirs' unread more behind known w_paused down paused.1
    (is ∙ ap (λ (p : List ℕ). greeting key own' theirs' ++ (p ++ unread)) paused.0) (ap (λ (p : List ℕ). (p ++ unread) ++ more) (sym paused.0) ∙ same))

pub on_judged : (owner : Key) (reconnection : Bool) (key own read more out : List ℕ) (welcome : Option Welcome) (own' theirs' unread pause : List ℕ) → owner.kind ≢ Tunnel
    → Speaks owner.kind key welcome out → read ++ more ≡ out → read ≡ greeting key own' theirs' ++ (pause ++ unread)
    → (pause ≡ []) ⊎ ((pause ≡ frame_bytes pause_frame) × (owner.kind ≡ ExtensionHost))
    → ComesTo owner reconnection key own read welcome (handshake_at owner own None true unread pause) (on_frames (signature_text secret) (handshake_at owner own None true unread pause))
on_judged owner reconnection key own read more out None own' theirs' unread pause known (own'', theirs'', reason, rest, same) whole is paused =
    let next = greeting_read key own' theirs' own'' theirs'' read (pause ++ unread) more out rest (refusal_bytes reason) is whole same in
    refused_by owner reconnection key own read unread (more ++ rest) reason pause paused next.1
on_judged owner reconnection key own read more out (Some w) own' theirs' unread pause known (own'', theirs'', agrees, down, w_paused) whole is paused =
    let next = greeting_read key own' theirs' own'' theirs'' read (pause ++ unread) more out agrees.more (acceptance_bytes owner.kind ++ agrees.rest) is whole
    (agrees.same ∙ append_assoc (greeting key own'' theirs'') (acceptance_bytes owner.kind) agrees.rest) in
    welcomed_by owner reconnection key own read w own'' theirs'' unread (more ++ agrees.more) agrees.rest known w_paused down pause paused
    (is ∙ ap (λ (t : List ℕ). t ++ (pause ++ unread)) next.0) next.1
