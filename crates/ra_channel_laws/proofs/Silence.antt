-- Calls about links, and the end of a session, say nothing and hear nothing.
use Rattle.std.proofs.Common.{◌≡◌, ◌≢◌, ℕ, Bool, true, false, cond, not, ◌&&◌, eqb, leb, Option, Some, None, List, length, refl, ◌∙◌}
use Rattle.std.proofs.lemmas.Bool.{cond_both}
use Rattle.std.specs.Option.{is_some}
use Rattle.ra_base.specs.declared.key.Cause.{Cause}
use Rattle.ra_base.specs.declared.key.Cause.TheVariants.{Disconnected, BadIpc}
use Rattle.ra_model.specs.Endpoints.{Endpoint, is_linked, is_joining, is_ended, shown, owed}
use Rattle.ra_model.specs.Calls.{begin, finish, ask_resume, wrote, lose, leave, rewritten, moment}
use Rattle.ra_model.specs.Pairs.{messages}
use Rattle.ra_model.proofs.Calls.{messages_rewritten}
use Rattle.ra_model.proofs.Ending.{goes_begin, goes_feed, goes_lose}
use Rattle.ra_model.proofs.LinkMoves.{messages_begun, messages_fed}
use Rattle.ra_session.specs.Sessions.{Session}
use Rattle.ra_session.specs.SessionCalls.{rejoined, joined, resumes, emptied, attach, feed_session, take_out, lose_session, leave_session, end_session}
use Rattle.ra_session.proofs.Standing.{goes_emptied, goes_joined}
use Rattle.ra_channel_laws.specs.Channels.{SaysNothing}

-- ---- what an endpoint said

finished_said : (now : ℕ) (e : Endpoint) → messages (finish now e) ≡ messages e
unfolding finish rewritten owed
finished_said now e = cond_both (is_joining e.phase) _ _ (λ (x : Endpoint). messages x ≡ messages e) (λ yes. messages_rewritten (moment now e) e) (λ no. refl)

rejoined_said : (now : ℕ) (e : Endpoint) → messages (rejoined now e) ≡ messages e
rejoined_said now e = cond_both (is_joining e.phase) (finish now e) e (λ (x : Endpoint). messages x ≡ messages e) (λ yes. finished_said now e) (λ no. refl)

resumed_said : (e : Endpoint) → messages (ask_resume e) ≡ messages e
unfolding ask_resume
resumed_said e = cond_both (is_linked e.phase) _ _ (λ (x : Endpoint). messages x ≡ messages e) (λ yes. refl) (λ no. refl)

joined_said : (with_resume : Bool) (now : ℕ) (e : Endpoint) → messages (joined with_resume now e) ≡ messages e
joined_said true now e = resumed_said (rejoined now e) ∙ rejoined_said now e
joined_said false now e = rejoined_said now e

emptied_said : (e : Endpoint) → messages (emptied e) ≡ messages e
unfolding wrote
emptied_said e = cond_both (leb (length (shown e)) (length (shown e))) _ _ (λ (x : Endpoint). messages x ≡ messages e) (λ yes. refl) (λ no. refl)

lost_said : (epoch : ℕ) (e : Endpoint) → messages (lose epoch e) ≡ messages e
unfolding lose
lost_said epoch e = cond_both (is_linked e.phase && eqb epoch e.epoch) _ _ (λ (x : Endpoint). messages x ≡ messages e) (λ yes. refl) (λ no. refl)

left_said : (e : Endpoint) → messages (leave e) ≡ messages e
unfolding leave
left_said e = cond_both (not (is_ended e.phase)) _ _ (λ (x : Endpoint). messages x ≡ messages e) (λ yes. refl) (λ no. refl)

-- ---- causes

-- a session with a cause has ended
pub caused : (before : Option Cause) (cause : Cause) → cond (is_some before) before (Some cause) ≢ None
caused None cause is = cc
caused (Some first) cause is = cc

pub not_bad : (before : Option Cause) (cause : Cause) → cause ≢ BadIpc → before ≢ Some BadIpc → cond (is_some before) before (Some cause) ≢ Some BadIpc
not_bad None cause other good is = other (here cause is)
  where
    here : (cause : Cause) → Some cause ≡ Some BadIpc → cause ≡ BadIpc
    here cause is = cc
not_bad (Some first) cause other good is = good is

-- ---- of the session

pub silent_attach : (epoch : ℕ) (chunk : List ℕ) (now : ℕ) (s : Session) → SaysNothing (attach epoch chunk now) s
unfolding attach
silent_attach epoch chunk now s =
    let fresh : Endpoint = begin epoch chunk now s.peer.endpoint in
    record {
      kind = refl;
      serves = refl;
      server = refl;
      client = refl;
      packets = refl;
      entries = refl;
      said = joined_said (resumes s.serves s.kind) now fresh ∙ messages_begun epoch chunk now s.peer.endpoint;
      heard = refl;
      runs = λ runs going. goes_joined (resumes s.serves s.kind) now fresh (goes_begin epoch chunk now s.peer.endpoint (runs going));
      cause = λ good. good;
    }

pub silent_feed : (epoch : ℕ) (piece : List ℕ) (now : ℕ) (s : Session) → SaysNothing (feed_session epoch piece now) s
unfolding feed_session
silent_feed epoch piece now s = record {
  kind = refl;
  serves = refl;
  server = refl;
  client = refl;
  packets = refl;
  entries = refl;
  said = messages_fed epoch piece now s.peer.endpoint;
  heard = refl;
  runs = λ runs going. goes_feed epoch piece now s.peer.endpoint (runs going);
  cause = λ good. good;
}

pub silent_out : (s : Session) → SaysNothing take_out s
unfolding take_out
silent_out s = record {
  kind = refl;
  serves = refl;
  server = refl;
  client = refl;
  packets = refl;
  entries = refl;
  said = emptied_said s.peer.endpoint;
  heard = refl;
  runs = λ runs going. goes_emptied s.peer.endpoint (runs going);
  cause = λ good. good;
}

pub silent_lose : (epoch : ℕ) (s : Session) → SaysNothing (lose_session epoch) s
unfolding lose_session
silent_lose epoch s = record {
  kind = refl;
  serves = refl;
  server = refl;
  client = refl;
  packets = refl;
  entries = refl;
  said = lost_said epoch s.peer.endpoint;
  heard = refl;
  runs = λ runs going. goes_lose epoch s.peer.endpoint (runs going);
  cause = λ good. good;
}

pub silent_leave : (s : Session) → SaysNothing leave_session s
unfolding leave_session
silent_leave s = record {
  kind = refl;
  serves = refl;
  server = refl;
  client = refl;
  packets = refl;
  entries = refl;
  said = emptied_said (leave s.peer.endpoint) ∙ left_said s.peer.endpoint;
  heard = refl;
  runs = λ runs going. absurd (caused s.cause Disconnected going);
  cause = not_bad s.cause Disconnected (λ is. cc);
}

pub silent_end : (cause : Cause) (s : Session) → cause ≢ BadIpc → SaysNothing (end_session cause) s
unfolding end_session
silent_end cause s other = record {
  kind = refl;
  serves = refl;
  server = refl;
  client = refl;
  packets = refl;
  entries = refl;
  said = refl;
  heard = refl;
  runs = λ runs going. absurd (caused s.cause cause going);
  cause = not_bad s.cause cause other;
}
