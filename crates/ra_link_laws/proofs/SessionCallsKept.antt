-- The calls of a session that a hub makes by itself, and those of its answers.
use Rattle.std.proofs.Common.{◌≡◌, ℕ, eqb, true, ◌&&◌, Option, List, subst}
use Rattle.std.proofs.lemmas.Bool.{cond_both}
use Rattle.ra_base.specs.declared.key.Cause.{Cause}
use Rattle.ra_model.specs.declared.session.Phase.{Phase}
use Rattle.ra_model.specs.Calls.{lose}
use Rattle.ra_model.specs.Endpoints.{Endpoint, is_linked}
use Rattle.ra_ipc.specs.Messages.{Reply}
use Rattle.ra_session.specs.SessionCalls.{Firing, answer, say_body, tick_session, lose_session, end_session}
use Rattle.ra_session.specs.Sessions.{Session}
use Rattle.ra_views.specs.SessionLinks.{KeepsLink}
use Rattle.ra_views.specs.SessionViews.{KeepsSessionViews, SessionOnlyGrows}
use Rattle.ra_views.proofs.SessionLinks.{link_answer, link_say, link_tick, number_link}
use Rattle.ra_views.proofs.SessionMoves.{keeps_answer, keeps_say, keeps_tick, keeps_lose, keeps_end}
use Rattle.ra_views.proofs.SessionsRise.{rises_answer, rises_say, rises_tick, rises_lose, rises_end}
use Rattle.ra_views.proofs.SessionNumbers.{number_lose, number_end}
use Rattle.ra_link_laws.proofs.SessionSteps.{IsKept}

kept_linked : (call : Session → Session) → KeepsSessionViews call → SessionOnlyGrows call → KeepsLink call → IsKept call
kept_linked call views grows links = record {
  views = views;
  number = λ s. (links s).0;
  runs = λ s. (number_link call links s).1;
  grows = grows;
  linked = λ s linked. subst (λ (p : Phase). is_linked p ≡ true) (links s).1 linked;
}

pub kept_answer : (id : ℕ) (reply : Reply) (fire : Option Firing) (now : ℕ) → IsKept (answer id reply fire now)
kept_answer id reply fire now = kept_linked (answer id reply fire now) (keeps_answer id reply fire now) (rises_answer id reply fire now) (link_answer id reply fire now)

pub kept_say : (body : List ℕ) (now : ℕ) → IsKept (say_body body now)
kept_say body now = kept_linked (say_body body now) (keeps_say body now) (rises_say body now) (link_say body now)

pub kept_tick : (now : ℕ) → IsKept (tick_session now)
kept_tick now = kept_linked (tick_session now) (keeps_tick now) (rises_tick now) (link_tick now)

-- a link that is lost was there
lost_linked : (epoch : ℕ) (e : Endpoint) → is_linked (lose epoch e).phase ≡ true → is_linked e.phase ≡ true
unfolding lose
lost_linked epoch e = cond_both (is_linked e.phase && eqb epoch e.epoch) _ _ (λ (x : Endpoint). is_linked x.phase ≡ true → is_linked e.phase ≡ true)
    (λ so linked. absurd cc) (λ other linked. linked)

pub kept_lose : (epoch : ℕ) → IsKept (lose_session epoch)
unfolding lose_session
kept_lose epoch = record {
  views = keeps_lose epoch;
  number = λ s. (number_lose epoch s).0;
  runs = λ s. (number_lose epoch s).1;
  grows = rises_lose epoch;
  linked = λ s linked. lost_linked epoch s.peer.endpoint linked;
}

pub kept_end : (cause : Cause) → IsKept (end_session cause)
unfolding end_session
kept_end cause = record {
  views = keeps_end cause;
  number = λ s. (number_end cause s).0;
  runs = λ s. (number_end cause s).1;
  grows = rises_end cause;
  linked = λ s linked. linked;
}
