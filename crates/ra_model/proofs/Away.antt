-- An endpoint that is Away has nothing unread and nothing unwritten, whatever is called.
use Rattle.std.proofs.Common.{◌≡◌, ℕ, suc, true, not, ◌&&◌, eqb, ltb, leb, List, [], ◌++◌, length, drop, refl, ap, sym, ◌∙◌}
use Rattle.std.proofs.Math.Seq.{drop-nil}
use Rattle.std.proofs.lemmas.Bool.{false≢true, cond_both, and_parts}
use Rattle.std.proofs.lemmas.List.{append-nil}
use Rattle.ra_model.specs.declared.frame.Frame.{Frame}
use Rattle.ra_model.specs.declared.session.Phase.{Phase}
use Rattle.ra_model.specs.declared.session.Phase.TheVariants.{Away, Joining, Up, Ended}
use Rattle.ra_model.specs.Frames.{joined, body_limit}
use Rattle.ra_model.specs.FrameKinds.{FrameKind, regular}
use Rattle.ra_model.specs.FrameKinds.FrameKind.{Regular, Control, Disconnect, ReplayRequest, Pause, Resume, Other}
use Rattle.ra_model.specs.Endpoints.{Endpoint, is_up, is_linked, is_joining, is_ended, sent, owed, shown}
use Rattle.ra_model.specs.Calls.{when, rewritten, can_say, say, control, ask_pause, ask_resume, can_begin, begin, finish, can_feed, feed, wrote, lose, leave, tick}
use Rattle.ra_model.specs.Taking.{on_frame}
use Rattle.ra_model.specs.Timing.{asked_lately}
use Rattle.ra_model.specs.Views.{IsEmptyAway}

pub not_away : (phase : Phase) → is_linked phase ≡ true → phase ≡ Away → ⊥
not_away phase up is = false≢true (sym (ap (λ (x : Phase). is_linked x) is) ∙ up)

-- where there is a link, the rule asks for nothing
pub away_linked : (e : Endpoint) → is_linked e.phase ≡ true → IsEmptyAway e
away_linked e up = record { unread = λ is. absurd (not_away e.phase up is); unwritten = λ is. absurd (not_away e.phase up is) }

-- a frame that is written where the endpoint is up
away_when : (phase : Phase) (unwritten : List ℕ) (frame : Frame) → (phase ≡ Away → unwritten ≡ []) → phase ≡ Away → unwritten ++ joined (when (is_up phase) frame) ≡ []
away_when Away unwritten frame h is = append-nil unwritten ∙ h refl
away_when Joining unwritten frame h is = cc
away_when Up unwritten frame h is = cc
away_when Ended unwritten frame h is = cc

up_is_linked : (phase : Phase) → is_up phase ≡ true → is_linked phase ≡ true
up_is_linked Away h = h
up_is_linked Joining h = refl
up_is_linked Up h = refl
up_is_linked Ended h = h

pub away_say : (body : List ℕ) (now : ℕ) (e : Endpoint) → IsEmptyAway e → IsEmptyAway (say body now e)
unfolding say
away_say body now e h =
    cond_both (can_say body e) _ _ (λ (x : Endpoint). IsEmptyAway x)
    (λ yes. record { unread = h.unread; unwritten = away_when e.phase e.unwritten (regular (suc (sent e)) e.received body) h.unwritten })
    (λ no. h)

pub away_control : (body : List ℕ) (e : Endpoint) → IsEmptyAway e → IsEmptyAway (control body e)
unfolding control
away_control body e h =
    cond_both (is_linked e.phase && leb (length body) body_limit) _ _ (λ (x : Endpoint). IsEmptyAway x) (λ yes. away_linked _ (and_parts _ _ yes).0) (λ no. h)

pub away_pause : (e : Endpoint) → IsEmptyAway e → IsEmptyAway (ask_pause e)
unfolding ask_pause
away_pause e h = cond_both (is_linked e.phase) _ _ (λ (x : Endpoint). IsEmptyAway x) (λ yes. away_linked _ yes) (λ no. h)

pub away_resume : (e : Endpoint) → IsEmptyAway e → IsEmptyAway (ask_resume e)
unfolding ask_resume
away_resume e h = cond_both (is_linked e.phase) _ _ (λ (x : Endpoint). IsEmptyAway x) (λ yes. away_linked _ yes) (λ no. h)

pub away_tick : (now : ℕ) (e : Endpoint) → IsEmptyAway e → IsEmptyAway (tick now e)
unfolding tick
away_tick now e h = cond_both (is_up e.phase) _ _ (λ (x : Endpoint). IsEmptyAway x) (λ yes. away_linked _ (up_is_linked e.phase yes)) (λ no. h)

pub away_wrote : (n : ℕ) (e : Endpoint) → IsEmptyAway e → IsEmptyAway (wrote n e)
unfolding wrote
away_wrote n e h =
    cond_both (leb n (length (shown e))) _ _ (λ (x : Endpoint). IsEmptyAway x) (λ yes. record { unread = h.unread; unwritten = λ is. ap (λ (t : List ℕ). drop n t) (h.unwritten is) ∙ drop-nil n }) (λ no. h)

pub away_lose : (epoch : ℕ) (e : Endpoint) → IsEmptyAway e → IsEmptyAway (lose epoch e)
unfolding lose
away_lose epoch e h =
    cond_both (is_linked e.phase && eqb epoch e.epoch) _ _ (λ (x : Endpoint). IsEmptyAway x) (λ yes. record { unread = λ _. refl; unwritten = λ _. refl }) (λ no. h)

ended_not_away : Ended ≡ Away → ⊥
ended_not_away is = false≢true (sym (ap (λ (x : Phase). is_ended x) is))

pub away_leave : (e : Endpoint) → IsEmptyAway e → IsEmptyAway (leave e)
unfolding leave
away_leave e h =
    cond_both (not (is_ended e.phase)) _ _ (λ (x : Endpoint). IsEmptyAway x)
    (λ yes. record { unread = λ is. absurd (ended_not_away is); unwritten = λ is. absurd (ended_not_away is) })
    (λ no. h)

pub away_finish : (now : ℕ) (e : Endpoint) → IsEmptyAway e → IsEmptyAway (finish now e)
unfolding finish rewritten owed
away_finish now e h = cond_both (is_joining e.phase) _ _ (λ (x : Endpoint). IsEmptyAway x) (λ yes. away_linked _ refl) (λ no. h)

pub away_begin : (epoch : ℕ) (chunk : List ℕ) (now : ℕ) (e : Endpoint) → IsEmptyAway e → IsEmptyAway (begin epoch chunk now e)
unfolding begin rewritten owed
away_begin epoch chunk now e h =
    cond_both (can_begin epoch e) _ _ (λ (x : Endpoint). IsEmptyAway x)
    (λ yes. cond_both (eqb e.epoch 0) _ _ (λ (x : Endpoint). IsEmptyAway x) (λ first. away_linked _ refl) (λ later. away_linked _ refl))
    (λ no. h)

pub away_feed : (epoch : ℕ) (piece : List ℕ) (now : ℕ) (e : Endpoint) → IsEmptyAway e → IsEmptyAway (feed epoch piece now e)
unfolding feed
away_feed epoch piece now e h =
    cond_both (can_feed epoch e) _ _ (λ (x : Endpoint). IsEmptyAway x) (λ yes. away_linked _ (and_parts _ _ yes).0) (λ no. h)

-- a frame that comes to an endpoint with a link
pub away_came : (kind : FrameKind) (f : Frame) (now : ℕ) (e : Endpoint) → is_linked e.phase ≡ true → IsEmptyAway (on_frame kind f now e)
unfolding owed rewritten
away_came Regular f now e up =
    cond_both (eqb f.id (suc e.received)) _ _ (λ (x : Endpoint). IsEmptyAway x) (λ yes. away_linked _ up)
    (λ no. cond_both (ltb (suc e.received) f.id && not (asked_lately now e.timing)) _ _ (λ (x : Endpoint). IsEmptyAway x) (λ yes. away_linked _ up) (λ _. away_linked _ up))
away_came Control f now e up = away_linked _ up
away_came Disconnect f now e up = record { unread = λ _. refl; unwritten = λ _. refl }
away_came ReplayRequest f now e up = away_linked _ up
away_came Pause f now e up = away_linked _ up
away_came Resume f now e up = away_linked _ up
away_came Other f now e up = away_linked _ up
