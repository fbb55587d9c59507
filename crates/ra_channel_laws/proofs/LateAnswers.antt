-- The answer of a call that waits too long for its channel can be written.
use Rattle.std.proofs.Common.{ℕ, ◌+◌, ◌<◌, ◌^◌, false, not, List, [], ◌∷◌, ◌++◌, length, refl, sym, ap, subst, arith}
use Rattle.std.proofs.lemmas.Bool.{cond_both}
use Rattle.std.proofs.lemmas.List.{take_at}
use Rattle.std.proofs.lemmas.Str.{IsUtf8-append, IsUtf8-nil, IsUtf8-past_char, IsUtf8-take, IsCharBoundary-at_seam, encode_ascii}
use Rattle.std.specs.Prelude.{IsUtf8, codes, nat_lt}
use Rattle.std.specs.List.{AllByRecursion}
use Rattle.json.specs.Print.{escape, quoted}
use Rattle.json.proofs.Printed.Utf8.{IsUtf8-quoted, IsUtf8-are_ascii}
use Rattle.ra_chan_server.proofs.Texts.{error_length}
use Rattle.ra_ipc.specs.Messages.{Message, promise, promise_cancel, event_listen, event_dispose, initialize, response, event_fire}
use Rattle.ra_ipc.specs.Packets.{MessageFits}
use Rattle.ra_ipc.specs.ChannelServers.{Server, Active, waiting_call, handed_call, waiting_listen, listener, channel_wait, is_registered, cancel_one, is_listener, shown_name, unknown_channel}
use Rattle.ra_ipc.specs.ChannelPackets.{after_request}
use Rattle.ra_channel_laws.specs.Channels.{AnswerFits}
use Rattle.ra_channel_laws.proofs.Lists.{all_both, all_kept, all_mapped}

escaped_text : (x : List ℕ) → IsUtf8 x → IsUtf8 (escape x)
escaped_text x u =
    let behind : IsUtf8 (escape x ++ 34 ∷ []) =
    IsUtf8-past_char (quoted x) (escape x ++ 34 ∷ []) 34 (IsUtf8-quoted x u) (ap (λ (c : List ℕ). c ++ (escape x ++ 34 ∷ [])) (sym (encode_ascii 34 (omega arith)))) in
    subst IsUtf8 (take_at (escape x) (34 ∷ []) (length (escape x)) refl)
    (IsUtf8-take (escape x ++ 34 ∷ []) (length (escape x)) behind
    (IsCharBoundary-at_seam (escape x ++ 34 ∷ []) (escape x) (34 ∷ []) refl (IsUtf8-are_ascii (34 ∷ []) refl)))

shown_text : (channel : List ℕ) → IsUtf8 channel → IsUtf8 (shown_name channel)
shown_text channel u = cond_both (nat_lt 65536 (length channel)) [] channel IsUtf8 (λ _. IsUtf8-nil) (λ _. u)

pub late_fits : (id : ℕ) (channel : List ℕ) → id < 2 ^ 31 → IsUtf8 channel → MessageFits (response id (unknown_channel channel))
late_fits id channel small u = (
  small,
  (omega arith, (omega arith, (omega (arith, small), tt))),
  (
    IsUtf8-append (codes "{\"message\":\"Channel name '") _ (IsUtf8-are_ascii (codes "{\"message\":\"Channel name '") refl)
        (IsUtf8-append (escape (shown_name channel)) _ (escaped_text (shown_name channel) (shown_text channel u))
        (IsUtf8-are_ascii (codes "' timed out after 1000ms\",\"name\":\"Unknown channel\"}") refl)),
    error_length channel,
  ),
)

-- ---- what a server has active after a request

cancel_late : (i : ℕ) (a : Active) → AnswerFits a → AnswerFits (cancel_one i a)
cancel_late i (waiting_call id channel name arg cancelled until) h = h
cancel_late i (handed_call id) h = h
cancel_late i (waiting_listen id channel event until) h = h
cancel_late i (listener id channel event) h = h

pub request_late : (v : Server) (m : Message) (now : ℕ) → MessageFits m → AllByRecursion AnswerFits v.active → AllByRecursion AnswerFits (after_request v m now).active
request_late v (promise id channel name arg) now fits all =
    cond_both (is_registered channel v) _ _ (λ (x : Server). AllByRecursion AnswerFits x.active)
    (λ _. all_both AnswerFits v.active (handed_call id ∷ []) all (tt, tt))
    (λ _. all_both AnswerFits v.active (waiting_call id channel name arg false (now + channel_wait) ∷ []) all (late_fits id channel fits.0 fits.1.1.1.1.0.0, tt))
request_late v (promise_cancel id) now fits all = all_mapped AnswerFits AnswerFits (cancel_one id) (cancel_late id) v.active all
request_late v (event_listen id channel event arg) now fits all =
    cond_both (is_registered channel v) _ _ (λ (x : Server). AllByRecursion AnswerFits x.active)
    (λ _. all_both AnswerFits v.active (listener id channel event ∷ []) all (tt, tt))
    (λ _. all_both AnswerFits v.active (waiting_listen id channel event (now + channel_wait) ∷ []) all (tt, tt))
request_late v (event_dispose id) now fits all = all_kept AnswerFits (λ (a : Active). not (is_listener id a)) v.active all
request_late v initialize now fits all = all
request_late v (response id reply) now fits all = all
request_late v (event_fire id body) now fits all = all
