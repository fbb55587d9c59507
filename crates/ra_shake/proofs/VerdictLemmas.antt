-- The first reason of two tables, and what the server makes of it over both messages.
use Rattle.std.proofs.Common.{◌≡◌, ℕ, Bool, true, false, cond, List, [], ◌∷◌, ◌++◌, Option, Some, None, refl}
use Rattle.std.specs.Option.{option_or}
use Rattle.serde_json.specs.Data.{Data}
use Rattle.ra_base.specs.Outcome.{first_that}
use Rattle.ra_base.specs.declared.handshake.Reason.{Reason}
use Rattle.ra_shake.specs.declared.settings.ShakeSettings.{ShakeSettings}
use Rattle.ra_shake.specs.declared.server.ShakeStep.TheVariants.{Say, Ask, Refuse}
use Rattle.ra_shake.specs.declared.server.Stage.TheVariants.{First}
use Rattle.ra_shake.specs.Reading.{reading}
use Rattle.ra_shake.specs.States.{ServerState}
use Rattle.ra_shake.specs.Server.{refuse_or, server_step, server_after}
use Rattle.ra_shake.specs.Verdict.{reasons_of_first, reasons_of_second, judge_first, judge_second, judge_both, wanted_kind}

by_test : (b : Bool) (r : Reason) (x y z : Option Reason) → x ≡ option_or y z → cond b (Some r) x ≡ option_or (cond b (Some r) y) z
by_test true r x y z h = refl
by_test false r x y z h = h

pub first_that-append : (before after : List (Bool × Reason)) → first_that (before ++ after) ≡ option_or (first_that before) (first_that after)
first_that-append [] after = refl
first_that-append (row ∷ rows) after = by_test row.0 row.1 _ _ _ (first_that-append rows after)

pub judge_both_is : (settings : ShakeSettings) (counts : List ℕ → Bool) (first second : Option Data)
    → judge_both settings counts first second ≡ option_or (judge_first settings.secret first) (judge_second settings counts second)
unfolding judge_both judge_first judge_second
judge_both_is settings counts first second = first_that-append (reasons_of_first settings.secret first) (reasons_of_second settings counts second)

pub refuses_first : (signature : List ℕ → List ℕ) (counts : List ℕ → List ℕ → Bool) (s : ServerState) (body second : List ℕ) (reason : Reason)
    → s.stage ≡ First
    → judge_first s.settings.secret (reading body) ≡ Some reason
    → (server_step signature counts s body ≡ Refuse reason)
    × (judge_both s.settings (counts s.challenge) (reading body) (reading second) ≡ Some reason)
refuses_first signature counts s body second reason stage judged =
    (rw (stage, judged) refl, rw (judge_both_is, judged) refl)

-- where the server says anything, nothing refuses
said : (text : List ℕ) (reason : Option Reason) (told : List ℕ) → refuse_or (Say text) reason ≡ Say told → reason ≡ None
said text None told h = refl
said text (Some reason) told h = cc

pub judges_both : (signature : List ℕ → List ℕ) (counts : List ℕ → List ℕ → Bool) (s : ServerState) (first second text : List ℕ)
    → s.stage ≡ First
    → server_step signature counts s first ≡ Say text
    → server_step signature counts (server_after s (Say text)) second
    ≡ refuse_or (Ask (record { kind = wanted_kind (reading second); token = s.token; reconnection = s.reconnection }))
    (judge_both s.settings (counts s.challenge) (reading first) (reading second))
judges_both signature counts s first second text stage says =
    let none : judge_first s.settings.secret (reading first) ≡ None = said _ _ text (rw stage at says) in
    rw (judge_both_is, none) refl
