-- Packets that can always be said: Initialize, and the answer of a call that waited too long.
use Rattle.std.proofs.Common.{ℕ, ◌≤◌, List, [], ◌∷◌, ◌++◌, length, ltb, arith, length-append}
use Rattle.std.proofs.lemmas.Bool.{cond_both, ltb-false}
use Rattle.std.specs.Prelude.{codes}
use Rattle.json.specs.Print.{escape}
use Rattle.ra_model.specs.Frames.{body_limit}
use Rattle.ra_values.specs.ValueBytes.{number_bytes, value_bytes, items_bytes}
use Rattle.ra_chan_server.proofs.Texts.{escaped_length}
use Rattle.ra_ipc.specs.Messages.{initialize, response}
use Rattle.ra_ipc.specs.Packets.{MessageFits, message_bytes}
use Rattle.ra_ipc.specs.ChannelServers.{shown_name, unknown_channel}
use Rattle.ra_session.specs.SessionStates.{Sayable}
use Rattle.ra_session.proofs.SaySteps.{number_few}

pub initialize_fits : MessageFits initialize
initialize_fits = (tt, (omega arith, (omega arith, tt)), tt)

pub initialize_small : Sayable initialize
unfolding message_bytes value_bytes items_bytes number_bytes
initialize_small = omega arith

abbrev front : List ℕ
front = codes "{\"message\":\"Channel name '"

abbrev back : List ℕ
back = codes "' timed out after 1000ms\",\"name\":\"Unknown channel\"}"

shown_few : (channel : List ℕ) → length (shown_name channel) ≤ 65536
shown_few channel =
    cond_both (ltb 65536 (length channel)) _ _ (λ (w : List ℕ). length w ≤ 65536) (λ _. omega arith) (λ f. ltb-false 65536 (length channel) f)

text_few : (channel : List ℕ) → length (front ++ (escape (shown_name channel) ++ back)) ≤ 400000
text_few channel = omega (arith, shown_few channel, escaped_length (shown_name channel), length-append (escape (shown_name channel)) back)

answer_few : (id : ℕ) (t : List ℕ) → length t ≤ 400000
    → length ((4 ∷ (number_bytes 2 ++ ((6 ∷ number_bytes 202) ++ ((6 ∷ number_bytes id) ++ [])))) ++ (5 ∷ (number_bytes (length t) ++ t))) ≤ body_limit
answer_few id t few =
    omega (
      arith,
      few,
      number_few 2,
      number_few 202,
      number_few id,
      number_few (length t),
      length-append (4 ∷ (number_bytes 2 ++ ((6 ∷ number_bytes 202) ++ ((6 ∷ number_bytes id) ++ [])))) (5 ∷ (number_bytes (length t) ++ t)),
      length-append (number_bytes 2) ((6 ∷ number_bytes 202) ++ ((6 ∷ number_bytes id) ++ [])),
      length-append (number_bytes 202) ((6 ∷ number_bytes id) ++ []),
      length-append (number_bytes id) [],
      length-append (number_bytes (length t)) t,
    )

pub late_small : (id : ℕ) (channel : List ℕ) → Sayable (response id (unknown_channel channel))
unfolding message_bytes value_bytes items_bytes
late_small id channel = answer_few id (front ++ (escape (shown_name channel) ++ back)) (text_few channel)
