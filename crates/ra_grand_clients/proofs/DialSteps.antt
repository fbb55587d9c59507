-- An event of a client's dialer: what it makes does not depend on a head that is not looked at, and a head that is looked at is the one
-- of the answer.
use Rattle.std.proofs.Common.{◌≡◌, ℕ, ◌+◌, Bool, true, false, not, cond, Option, Some, None, Result, Ok, Err, OnErr, List, refl, ap, sym, ◌∙◌, subst, arith}
use Rattle.std.proofs.Math.Path.{fun_ext}
use Rattle.ra_upgrade.specs.AnswerHeads.{AnswerIs}
use Rattle.ra_dial.specs.declared.stage.Stage.{Stage}
use Rattle.ra_dial.specs.declared.stage.Stage.TheVariants as stages
use Rattle.ra_dial.specs.declared.values.DialEnd.TheVariants as dial_ends
use Rattle.ra_dial.specs.declared.values.DialEvent.{DialEvent}
use Rattle.ra_dial.specs.declared.values.DialEvent.TheVariants as events
use Rattle.ra_dial.specs.Acts.{Act}
use Rattle.ra_dial.specs.Attempts.{Step, finishes}
use Rattle.ra_dial.specs.Clients.{Settings}
use Rattle.ra_dial.specs.Dialers.{Dialer}
use Rattle.ra_dial.specs.DialerStates.{DialerState, StandsForDialer, FollowsTable}
use Rattle.ra_dial.specs.Handshakes.{Head, HasHead, IsHeadOf, Looked, on_shaking, taken_by}
use Rattle.ra_dial.specs.Links.{shakes, after_look}
use Rattle.ra_dial.specs.ShakingStates.{ShakingState}
use Rattle.ra_dial.specs.Table.{step, on_event, on_frame, is_late, looks_by, unless_over, draws_by}
use Rattle.ra_dial.proofs.Alike.{OneAnswer, step_alike}
use Rattle.ra_grand_clients.specs.ClientStates.{ClientState, Holds, StandsForClient, StaysClient, ReadsAnswer}
use Rattle.ra_grand_runs.specs.Draws.{nth_draw, draws_after}
use Rattle.ra_grand_runs.specs.GrandClients.{Client, dials, dialled}
use Rattle.ra_grand_runs.specs.SetUps.{answer_at}

-- ---- one event of a client

-- the dialer's step is the client's
step_is : OneAnswer → (h : ClientState) (new : DialerState) (event : DialEvent) (now : ℕ) (act : Act)
    (follows : FollowsTable (looks_by event now h.dialer.stage h.dialer.lost) h.dialer new act (λ head d. step head (draws_after h.drawn) event now d))
    (c : Client) → Holds h c → ReadsAnswer c → step follows.head (draws_after h.drawn) event now c.dialer ≡ dials event now c
step_is one h new event now act follows c holds reads =
    let stage_is : c.dialer.stage ≡ h.dialer.stage = ap (λ (d : Dialer). d.stage) holds.dialer.same in
    let lost_is : c.dialer.lost ≡ h.dialer.lost = ap (λ (d : Dialer). d.lost) holds.dialer.same in
    ap (λ (draw : ℕ → List ℕ). step follows.head draw event now c.dialer) holds.draws
    ∙ step_alike one event follows.head (answer_at c.dialer.stage) (draws_after c.drawn) now c.dialer
    (λ looks. subst (λ (s : Stage). IsHeadOf s follows.head) (sym stage_is)
    (follows.is_head (ap (λ (s : Stage). looks_by event now s h.dialer.lost) (sym stage_is) ∙ ap (λ (n : ℕ). looks_by event now c.dialer.stage n) (sym lost_is) ∙ looks))) (λ looks. reads)

pub acts : OneAnswer → (h : ClientState) (new : DialerState) (event : DialEvent) (now : ℕ) (act : Act)
    (follows : FollowsTable (looks_by event now h.dialer.stage h.dialer.lost) h.dialer new act (λ head d. step head (draws_after h.drawn) event now d))
    (c : Client) → Holds h c → ReadsAnswer c → (dials event now c).0 ≡ act
acts one h new event now act follows c holds reads =
    ap (λ (s : Step). s.0) (sym (step_is one h new event now act follows c holds reads)) ∙ follows.steps.acts c.dialer holds.dialer

drawn_more : (drawn k n : ℕ) → draws_after drawn (n + k) ≡ draws_after (drawn + k) n
drawn_more drawn k n = ap (λ (i : ℕ). nth_draw i) (omega arith)

draws_are : (count after drawn k : ℕ) → draws_after count ≡ draws_after drawn → ((n : ℕ) → draws_after after n ≡ draws_after count (n + k)) → draws_after after ≡ draws_after (drawn + k)
draws_are count after drawn k is drew = fun_ext (λ n. drew n ∙ ap (λ (draw : ℕ → List ℕ). draw (n + k)) is ∙ drawn_more drawn k n)

pub becomes : OneAnswer → (h : ClientState) (new : DialerState) (after : ℕ) (event : DialEvent) (now : ℕ) (act : Act)
    (follows : FollowsTable (looks_by event now h.dialer.stage h.dialer.lost) h.dialer new act (λ head d. step head (draws_after h.drawn) event now d))
    → ((n : ℕ) → draws_after after n ≡ draws_after h.drawn (n + draws_by event now h.dialer.stage h.dialer.lost))
    → (c : Client) → Holds h c → ReadsAnswer c → StandsForClient (record h { dialer = new; drawn = after }) (dialled event now c)
unfolding dialled
becomes one h new after event now act follows drew c holds reads =
    let stage_is : c.dialer.stage ≡ h.dialer.stage = ap (λ (d : Dialer). d.stage) holds.dialer.same in
    let lost_is : c.dialer.lost ≡ h.dialer.lost = ap (λ (d : Dialer). d.lost) holds.dialer.same in
    let k_is : draws_by event now h.dialer.stage h.dialer.lost ≡ draws_by event now c.dialer.stage c.dialer.lost =
    ap (λ (s : Stage). draws_by event now s h.dialer.lost) (sym stage_is) ∙ ap (λ (n : ℕ). draws_by event now c.dialer.stage n) (sym lost_is) in (
      record c { dialer = (dials event now c).1; drawn = c.drawn + draws_by event now c.dialer.stage c.dialer.lost },
      record {
        key = holds.key;
        dialer = subst (λ (s : Step). StandsForDialer new s.1) (step_is one h new event now act follows c holds reads) (follows.steps.stands c.dialer holds.dialer);
        draws = draws_are h.drawn after c.drawn (draws_by event now c.dialer.stage c.dialer.lost) holds.draws (λ n. drew n ∙ ap (λ (k : ℕ). draws_after h.drawn (n + k)) k_is);
        links = holds.links;
      },
      refl,
    )

pub stays_then : {X E : Type 0} → (r : Result X E) (old mid new : ClientState) → StaysClient old mid → OnErr r (new ≡ mid) → OnErr r (StaysClient old new)
stays_then (Ok x) old mid new stays same = same
stays_then (Err e) old mid new stays same = subst (λ (h : ClientState). StaysClient old h) (sym same) stays
