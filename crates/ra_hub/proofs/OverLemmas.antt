-- What a session that was ended answers, and what becomes of it.
use Rattle.std.proofs.Common.{◌≡◌, ℕ, Bool, true, false, cond, List, Option, None, Some, Result, Ok, Err, IfOk, is_some, option_map, refl, sym, ap, subst, ◌∙◌}
use Rattle.std.specs.Option.{unwrap_or}
use Rattle.ra_base.specs.declared.key.Cause.{Cause}
use Rattle.ra_model.specs.Refusals.{or_fault}
use Rattle.ra_session.specs.Sessions.{Session}
use Rattle.ra_session.specs.SessionCalls.{lose_session, end_session, tick_session}
use Rattle.ra_session.specs.SessionRefusals.{Refusal, ended, attach_refusal, feed_refusal, answer_refusal, say_refusal, tick_refusal}
use Rattle.ra_session.specs.TurnRefusals.{turn_refusal, taken_refusal}
use Rattle.ra_session.specs.SessionCalls.{feed_session}
use Rattle.ra_session.specs.View.{tell_refusal}
use Rattle.ra_session.specs.declared.values.SessionFault.TheVariants as faults
use Rattle.ra_session.specs.declared.values.Tell.{Tell}
use Rattle.ra_session.specs.declared.values.Tell.TheVariants as tells
use Rattle.ra_session.specs.declared.values.Turn.{Turn}
use Rattle.ra_hub.specs.declared.entry.SessionEntry.{SessionEntry}
use Rattle.ra_hub.specs.declared.entry.SessionEntry.TheVariants.{Going, Over}
use Rattle.ra_hub.specs.Entries.{EntryStands, OfEachStanding, EntryBecomes, cause_in}
use Rattle.ra_hub.specs.Standing.{Turned}
use Rattle.ra_hub.specs.Sweeps.{tick_one}

-- ---- refusals

first : (c : Cause) (o : Option Cause) (rest : Option Refusal) → o ≡ Some c → or_fault (option_map (λ (cause : Cause). ended cause) o) rest ≡ Some (ended c)
first c o rest is = ap (λ (o : Option Cause). or_fault (option_map (λ (cause : Cause). ended cause) o) rest) is

pub attach_over : (epoch : ℕ) (c : Cause) (s : Session) → s.cause ≡ Some c → attach_refusal epoch s ≡ Some (ended c)
unfolding attach_refusal
attach_over epoch c s is = first c s.cause _ is

feed_over : (epoch : ℕ) (c : Cause) (s : Session) → s.cause ≡ Some c → feed_refusal epoch s ≡ Some (ended c)
unfolding feed_refusal
feed_over epoch c s is = first c s.cause _ is

pub turn_over : (epoch : ℕ) (piece : List ℕ) (now : ℕ) (c : Cause) (s : Session) → s.cause ≡ Some c → turn_refusal epoch piece now s ≡ Some (ended c)
unfolding turn_refusal
turn_over epoch piece now c s is =
    ap (λ (r : Option Refusal). or_fault r (taken_refusal now (feed_session epoch piece now s))) (feed_over epoch c s is)

pub tell_over : (tell : Tell) (c : Cause) (s : Session) → s.cause ≡ Some c → tell_refusal tell s ≡ Some (ended c)
unfolding answer_refusal say_refusal
tell_over (tells.Answer id given fire) c s is = first c s.cause _ is
tell_over (tells.Say body) c s is = first c s.cause _ is

-- a call of a session that was ended
pub over_refused : (x : SessionEntry) (c : Cause) (refusal : Session → Option Refusal) → Over c ≡ x
    → ((s : Session) → s.cause ≡ Some c → refusal s ≡ Some (ended c))
    → (Over c ≡ x) × ((s : Session) → EntryStands x s → refusal s ≡ Some (ended c))
over_refused x c refusal is of = (is, λ s stands. of s (subst (λ (e : SessionEntry). EntryStands e s) (sym is) stands))

-- a turn of it
pub over_turned : (x : SessionEntry) (c : Cause) (epoch : ℕ) (piece : List ℕ) (now : ℕ) → Over c ≡ x
    → Turned epoch piece now (Err (faults.Ended c)) x (Over c)
over_turned x c epoch piece now is = record {
  leaves = is;
  answered = tt;
  refused = λ s stands. turn_over epoch piece now c s (subst (λ (e : SessionEntry). EntryStands e s) (sym is) stands);
}

-- ---- what becomes of it

pub lost_over : (x : SessionEntry) (c : Cause) (epoch : ℕ) → Over c ≡ x → EntryBecomes x x (lose_session epoch)
unfolding lose_session
lost_over x c epoch is = λ s stands.
    subst (λ (e : SessionEntry). EntryStands e (lose_session epoch s)) is (subst (λ (e : SessionEntry). EntryStands e s) (sym is) stands)

picked : (o : Option Cause) (c : Cause) (s rest : Session) → o ≡ Some c → s.cause ≡ Some c → (cond (is_some o) s rest).cause ≡ Some c
picked None c s rest is has = cc
picked (Some d) c s rest is has = has

tick_stays : (now : ℕ) (c : Cause) (s : Session) → s.cause ≡ Some c → (tick_session now s).cause ≡ Some c
unfolding tick_session
tick_stays now c s is = picked s.cause c s _ is is

pub ticked_over : (x : SessionEntry) (c : Cause) (now : ℕ) → Over c ≡ x → EntryBecomes x x (tick_one now)
ticked_over x c now is = λ s stands.
    let has = subst (λ (e : SessionEntry). EntryStands e s) (sym is) stands in
    subst (λ (e : SessionEntry). EntryStands e (tick_one now s)) is (here (is_some (tick_refusal now s)) s has)
  where
    here : (b : Bool) (s : Session) → s.cause ≡ Some c → (cond b s (tick_session now s)).cause ≡ Some c
    here true s has = has
    here false s has = tick_stays now c s has

-- why it has ended, and of each that it stands for
pub cause_of : (x : SessionEntry) (s : Session) → EntryStands x s → s.cause ≡ cause_in x
cause_of (Going x) s stands = ap (λ (t : Session). t.cause) stands.same
cause_of (Over c) s stands = stands

or_is : (o : Option Cause) (cause : Cause) → cond (is_some o) o (Some cause) ≡ Some (unwrap_or o cause)
or_is None cause = refl
or_is (Some c) cause = refl

-- it ends, and keeps the first cause
pub ended_over : (x : SessionEntry) (o : Option Cause) (cause first : Cause) → o ≡ cause_in x → first ≡ unwrap_or o cause
    → EntryBecomes x (Over first) (end_session cause)
unfolding end_session
ended_over x o cause first was is = λ s stands.
    ap (λ (q : Option Cause). cond (is_some q) q (Some cause)) (cause_of x s stands ∙ sym was) ∙ or_is o cause ∙ ap (λ (c : Cause). Some c) (sym is)
