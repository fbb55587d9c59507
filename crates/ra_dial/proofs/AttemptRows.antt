-- The rows of attempts, at what a dialer keeps.
use Rattle.std.proofs.Common.{◌≡◌, ℕ, ◌+◌, ◌-◌, Bool, true, false, List, [], ◌++◌, refl, ap, sym, subst}
use Rattle.std.specs.Prelude.{nat_le, nat_lt}
use Rattle.std.proofs.lemmas.Bool.{cond-true, cond-false}
use Rattle.ra_model.specs.Endpoints.{Endpoint}
use Rattle.ra_session.specs.Sessions.{Session}
use Rattle.ra_session.specs.SessionStates.{SessionState, StandsForSession}
use Rattle.ra_dial.specs.declared.stage.Stage.TheVariants as stages
use Rattle.ra_dial.specs.Clients.{request_of, new_shaking}
use Rattle.ra_dial.specs.Acts.{Act, quiet, rest_until, connect}
use Rattle.ra_dial.specs.Attempts.{wait_before, next_attempt, patience, rest_or_drop, fails, waits_until, waits_since, begins}
use Rattle.ra_dial.specs.DialerStates.{DialerState, dialer_of, StandsForDialer, Steps}
use Rattle.ra_dial.proofs.Standing.{by_rows, same_rows}

pub failed : (h : DialerState) (drops : Bool) (now : ℕ)
    → Steps h (record h { stage = stages.Resting (now + wait_before (next_attempt h.attempt)); attempt = next_attempt h.attempt; pending = [] })
    (rest_or_drop drops (now + wait_before (next_attempt h.attempt))) (fails drops now)
unfolding fails
failed h drops now = by_rows h _ _ (fails drops now) (λ s r st. refl) (λ s r st. record { same = refl; session = st })

pub due : (h : DialerState) (until now : ℕ) → nat_le until now ≡ true → Steps h (record h { stage = stages.Calling now }) connect (waits_until until now)
unfolding waits_until
due h until now is =
    same_rows h _ _ (waits_until until now) (λ d. (connect, record d { stage = stages.Calling now }))
    (λ d st. cond-true (nat_le until now) (connect, record d { stage = stages.Calling now }) (rest_until until, d) is)
    (by_rows h _ _ (λ d. (connect, record d { stage = stages.Calling now })) (λ s r st. refl) (λ s r st. record { same = refl; session = st }))

-- nothing changes but what is told
pub told : (h : DialerState) (act : Act) → Steps h h act (λ d. (act, d))
told h act = by_rows h h act (λ d. (act, d)) (λ s r st. refl) (λ s r st. record { same = refl; session = st })

pub not_due : (h : DialerState) (until now : ℕ) → nat_le until now ≡ false → Steps h h (rest_until until) (waits_until until now)
unfolding waits_until
not_due h until now is =
    same_rows h h (rest_until until) (waits_until until now) (λ d. (rest_until until, d))
    (λ d st. cond-false (nat_le until now) (connect, record d { stage = stages.Calling now }) (rest_until until, d) is) (told h (rest_until until))

pub too_late : (h h' : DialerState) (act : Act) (drops : Bool) (since now : ℕ) → nat_le patience (now - since) ≡ true → Steps h h' act (fails drops now)
    → Steps h h' act (waits_since drops since now)
unfolding waits_since
too_late h h' act drops since now is steps =
    same_rows h h' act (waits_since drops since now) (fails drops now)
    (λ d st. cond-true (nat_le patience (now - since)) (fails drops now d) (rest_until (since + patience), d) is) steps

pub in_time : (h : DialerState) (drops : Bool) (since now : ℕ) → nat_le patience (now - since) ≡ false
    → Steps h h (rest_until (since + patience)) (waits_since drops since now)
unfolding waits_since
in_time h drops since now is =
    same_rows h h _ (waits_since drops since now) (λ d. (rest_until (since + patience), d))
    (λ d st. cond-false (nat_le patience (now - since)) (fails drops now d) (rest_until (since + patience), d) is) (told h (rest_until (since + patience)))

pub epoch_is : (h : SessionState) (s : Session) → StandsForSession h s → s.peer.endpoint.epoch ≡ h.endpoint.epoch
epoch_is h s st = ap (λ (e : Endpoint). e.epoch) st.endpoint.same

pub begun : (h : DialerState) (since : ℕ) (key drawn : List ℕ)
    → Steps h (record h { stage = stages.Shaking since (new_shaking h.settings key drawn); pending = h.pending ++ request_of h.settings (nat_lt 0 h.session.endpoint.epoch) key })
    quiet (begins since key drawn)
unfolding begins
begun h since key drawn = by_rows h _ quiet (begins since key drawn) (λ s r st. refl) (λ s r st.
    subst (λ (n : ℕ). StandsForDialer (record h { stage = stages.Shaking since (new_shaking h.settings key drawn); pending = h.pending ++ request_of h.settings (nat_lt 0 h.session.endpoint.epoch) key })
    (record (dialer_of s 0 h) { stage = stages.Shaking since (new_shaking h.settings key drawn); pending = h.pending ++ request_of h.settings (nat_lt 0 n) key }))
    (sym (epoch_is h.session s st)) (record { same = refl; session = st }))
