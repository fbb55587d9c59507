-- The laws of a client's handshake, from what comes of each look.
use Rattle.std.proofs.Common.{◌≡◌, ◌≢◌, ℕ, Bool, true, false, Option, Some, None, List, [], ◌++◌, refl, ap, sym, ◌∙◌, subst, append_assoc}
use Rattle.ra_base.specs.declared.key.Key.{Key}
use Rattle.ra_base.specs.declared.kind.Kind.TheVariants.{Tunnel}
use Rattle.ra_upgrade.specs.AnswerTexts.{answer_text}
use Rattle.ra_upgrade.specs.RequestTexts.{key_text}
use Rattle.ra_link_core.specs.LinkRuns.{Welcome}
use Rattle.ra_dial.specs.Clients.{new_shaking, request_of}
use Rattle.ra_dial.specs.Handshakes.{looked_at, fed}
use Rattle.ra_dial.specs.ShakingStates.{ShakingState}
use Rattle.ra_grand_runs.specs.SetUps.{settings_for, answer_head}
use Rattle.ra_handshake_laws.specs.Handshakes.{greeting, Speaks, HasHeard, ReadsHandshake, HasSaid}
use Rattle.ra_handshake_laws.proofs.HandshakeSteps.{handshake_at, ComesTo, on_waiting, on_greeted, on_judged}

-- a handshake is told by what it waits for, what it has not read, and the Pause
is_at : (owner : Key) (key own read : List ℕ) (s : ShakingState) → ReadsHandshake owner key own read s
    → s ≡ handshake_at owner own s.key s.shake.has_answered s.unread s.pause
is_at owner key own read s h = λ i. record {
  key = s.key;
  rest = h.rest i;
  unread = s.unread;
  shake = record { settings = h.settings i; kind = h.kind i; challenge = h.challenge i; has_answered = s.shake.has_answered };
  pause = s.pause;
}

heard_at : (owner : Key) (key own read : List ℕ) (s : ShakingState) → ReadsHandshake owner key own read s
    → HasHeard owner key read s.key s.shake.has_answered (handshake_at owner own s.key s.shake.has_answered s.unread s.pause)
heard_at owner key own read s h = subst (λ (x : ShakingState). HasHeard owner key read s.key s.shake.has_answered x) (is_at owner key own read s h) h.heard

-- ---- a new one

pub begins : (owner : Key) (reconnection : Bool) (key own : List ℕ)
    → ReadsHandshake owner key own [] (new_shaking (settings_for owner) key own)
    × HasSaid owner reconnection key own (request_of (settings_for owner) reconnection key)
    (new_shaking (settings_for owner) key own).key (new_shaking (settings_for owner) key own).shake.has_answered
begins owner reconnection key own = (record { rest = refl; settings = refl; kind = refl; challenge = refl; heard = (refl, refl, refl, refl) }, refl)

-- ---- bytes that come

heard_more : (owner : Key) (key own read piece : List ℕ) (waits : Option (List ℕ)) (answered : Bool) (unread pause : List ℕ)
    → HasHeard owner key read waits answered (handshake_at owner own waits answered unread pause)
    → HasHeard owner key (read ++ piece) waits answered (handshake_at owner own waits answered (unread ++ piece) pause)
heard_more owner key own read piece (Some waits) answered unread pause (same, is, none, new) = (same, ap (λ (t : List ℕ). t ++ piece) is, none, new)
heard_more owner key own read piece None false unread pause (is, none) =
    (ap (λ (t : List ℕ). t ++ piece) is ∙ append_assoc (answer_text (key_text key)) unread piece, none)
heard_more owner key own read piece None true unread pause (own', theirs', is, paused) = (
  own',
  theirs',
  ap (λ (t : List ℕ). t ++ piece) is ∙ append_assoc (greeting key own' theirs') (pause ++ unread) piece
      ∙ ap (λ (t : List ℕ). greeting key own' theirs' ++ t) (append_assoc pause unread piece),
  paused,
)

pub feeds : (owner : Key) (key own read piece : List ℕ) (s : ShakingState) → ReadsHandshake owner key own read s → ReadsHandshake owner key own (read ++ piece) (fed piece s)
feeds owner key own read piece s h =
    subst (λ (x : ShakingState). ReadsHandshake owner key own (read ++ piece) (fed piece x)) (sym (is_at owner key own read s h))
    (record {
      rest = refl;
      settings = refl;
      kind = refl;
      challenge = refl;
      heard = heard_more owner key own read piece s.key s.shake.has_answered s.unread s.pause (heard_at owner key own read s h);
    })

-- ---- a look

looks_at : (owner : Key) (reconnection : Bool) (key own read more out : List ℕ) (welcome : Option Welcome) (waits : Option (List ℕ)) (answered : Bool) (unread pause : List ℕ)
    → owner.kind ≢ Tunnel → HasHeard owner key read waits answered (handshake_at owner own waits answered unread pause) → Speaks owner.kind key welcome out → read ++ more ≡ out
    → ComesTo owner reconnection key own read welcome (handshake_at owner own waits answered unread pause)
    (looked_at (settings_for owner) (answer_head waits unread) (handshake_at owner own waits answered unread pause))
looks_at owner reconnection key own read more out welcome (Some waits) answered unread pause known (same, is, none, new) speaks whole =
    subst (λ (p : List ℕ × List ℕ × List ℕ × Bool).
    ComesTo owner reconnection key own read welcome (handshake_at owner own (Some p.0) p.3 p.1 p.2)
    (looked_at (settings_for owner) (answer_head (Some p.0) p.1) (handshake_at owner own (Some p.0) p.3 p.1 p.2)))
    (λ i. (sym same i, sym is i, sym none i, sym new i)) (on_waiting owner reconnection key own read more out welcome speaks whole)
looks_at owner reconnection key own read more out welcome None false unread pause known (is, none) speaks whole =
    subst (λ (p : List ℕ). ComesTo owner reconnection key own read welcome (handshake_at owner own None false unread p)
    (looked_at (settings_for owner) (answer_head None unread) (handshake_at owner own None false unread p)))
    (sym none) (on_greeted owner reconnection key own read more out welcome unread speaks whole is)
looks_at owner reconnection key own read more out welcome None true unread pause known (own', theirs', is, paused) speaks whole =
    on_judged owner reconnection key own read more out welcome own' theirs' unread pause known speaks whole is paused

pub looks : (owner : Key) (reconnection : Bool) (key own read more out : List ℕ) (welcome : Option Welcome) (s : ShakingState) → owner.kind ≢ Tunnel
    → ReadsHandshake owner key own read s → Speaks owner.kind key welcome out → read ++ more ≡ out
    → ComesTo owner reconnection key own read welcome s (looked_at (settings_for owner) (answer_head s.key s.unread) s)
looks owner reconnection key own read more out welcome s known h speaks whole =
    subst (λ (x : ShakingState). ComesTo owner reconnection key own read welcome x (looked_at (settings_for owner) (answer_head x.key x.unread) x))
    (sym (is_at owner key own read s h))
    (looks_at owner reconnection key own read more out welcome s.key s.shake.has_answered s.unread s.pause known (heard_at owner key own read s h) speaks whole)
