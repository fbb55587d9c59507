-- An event of a client's dialer, and a call of its session, keep what holds of the client.
use Rattle.std.proofs.Common.{◌≡◌, ◌≢◌, ℕ, ◌+◌, Option, Some, None, List, [], ◌++◌, refl, ap, sym, ◌∙◌, subst, append-nil}
use Rattle.ra_base.specs.TokenGrammar.{IsToken}
use Rattle.ra_base.specs.declared.key.Key.{Key}
use Rattle.ra_base.specs.declared.kind.Kind.TheVariants.{Tunnel}
use Rattle.ra_session.specs.Sessions.{Session}
use Rattle.ra_dial.specs.declared.stage.Stage.{Stage}
use Rattle.ra_dial.specs.declared.stage.Stage.TheVariants as stages
use Rattle.ra_dial.specs.declared.values.DialEnd.{DialEnd}
use Rattle.ra_dial.specs.declared.values.DialEvent.{DialEvent}
use Rattle.ra_dial.specs.declared.values.DialEvent.TheVariants as events
use Rattle.ra_dial.specs.Attempts.{Step}
use Rattle.ra_dial.specs.Dialers.{Dialer}
use Rattle.ra_dial.specs.Handshakes.{Head}
use Rattle.ra_dial.specs.ShakingStates.{ShakingState}
use Rattle.ra_dial.specs.Table.{out, shown_at, step, on_event, unless_over, draws_by}
use Rattle.ra_dial.specs.View.{on_session}
use Rattle.ra_grand_runs.specs.Draws.{draws_after}
use Rattle.ra_grand_runs.specs.GrandClients.{GrandLink, Client, dials, dialled, asked, sends, writes_up}
use Rattle.ra_grand_runs.specs.Lasts.{OnLastIfAny, with_last}
use Rattle.ra_grand_runs.specs.Reached.{LinksHold, HandshakeReads, StageReads, IsAsked, HasAsked, ClientHolds, BringsNothing}
use Rattle.ra_grand_runs.specs.SetUps.{settings_for, answer_at}
use Rattle.ra_grand_runs.proofs.DialerHolding.{Keeps, keeps_plain, keeps_bytes, fed_stage}
use Rattle.ra_grand_runs.proofs.LinkHolding.{KeepsUp, links_up, none_keeps, asked_keeps, asked_up, reads_up, on_last_any}

-- ---- what is written

pub has_asked : (stage : Stage) (links : List GrandLink) → OnLastIfAny IsAsked links → HasAsked stage links
has_asked (stages.Resting until) links is = is
has_asked (stages.Calling since) links is = is
has_asked (stages.Shaking since s) links is = is
has_asked stages.Attached links is = is
has_asked (stages.Over end) links is = tt

-- these bytes, written on the last link, keep what holds of the links, and the dialer that is so far may have written them
record Writes (owner : Key) (stage : Stage) (bytes : List ℕ) (links : List GrandLink) : Type 0 where
  keeps : OnLastIfAny (KeepsUp owner bytes) links
  asked : HasAsked stage (with_last (writes_up bytes) links)

writes_asked : (owner : Key) (stage : Stage) (bytes : List ℕ) (links : List GrandLink) → OnLastIfAny IsAsked links → Writes owner stage bytes links
writes_asked owner stage bytes links is = record {
  keeps = asked_keeps owner bytes links is;
  asked = has_asked stage (with_last (writes_up bytes) links) (on_last_any IsAsked IsAsked (writes_up bytes) (λ l. asked_up bytes l) links is);
}

-- a dialer that is over writes nothing
none_over : (stage : Stage) (d : Dialer) (end : DialEnd) → stage ≡ stages.Over end → d.pending ≡ [] → d.pending ++ shown_at stage d ≡ []
none_over stage d end over none = ap (λ (x : Stage). d.pending ++ shown_at x d) over ∙ append-nil d.pending ∙ none

writes_over : (owner : Key) (links : List GrandLink) (d : Dialer) (end : DialEnd) → d.stage ≡ stages.Over end → d.pending ≡ [] → Writes owner d.stage (out d) links
writes_over owner links d end over none = record {
  keeps = none_keeps owner (out d) links (none_over d.stage d end over none);
  asked = subst (λ (x : Stage). HasAsked x (with_last (writes_up (out d)) links)) (sym over) tt;
}

-- the dialer goes on by a step, where it is not over
writes_by : (owner : Key) (links : List GrandLink) (stage : Stage) (s : Step) (d : Dialer) → d.stage ≡ stage → d.pending ≡ [] → HasAsked stage links
    → Writes owner (unless_over stage s d).1.stage (out (unless_over stage s d).1) links
writes_by owner links (stages.Resting until) s d is none asked = writes_asked owner s.1.stage (out s.1) links asked
writes_by owner links (stages.Calling since) s d is none asked = writes_asked owner s.1.stage (out s.1) links asked
writes_by owner links (stages.Shaking since shaking) s d is none asked = writes_asked owner s.1.stage (out s.1) links asked
writes_by owner links stages.Attached s d is none asked = writes_asked owner s.1.stage (out s.1) links asked
writes_by owner links (stages.Over end) s d is none asked = writes_over owner links d end is none

writes_step : (owner : Key) (links : List GrandLink) (head : Head) (draw : ℕ → List ℕ) (event : DialEvent) (now : ℕ) (d : Dialer) → d.pending ≡ [] → HasAsked d.stage links
    → Writes owner (step head draw event now d).1.stage (out (step head draw event now d).1) links
unfolding step
writes_step owner links head draw event now d none asked = writes_by owner links d.stage (on_event head draw event now d) d refl none asked

writes_call : (owner : Key) (links : List GrandLink) (stage : Stage) (d : Dialer) → d.stage ≡ stage → d.pending ≡ [] → HasAsked stage links → Writes owner d.stage (out d) links
writes_call owner links (stages.Resting until) d is none asked = writes_asked owner d.stage (out d) links asked
writes_call owner links (stages.Calling since) d is none asked = writes_asked owner d.stage (out d) links asked
writes_call owner links (stages.Shaking since s) d is none asked = writes_asked owner d.stage (out d) links asked
writes_call owner links stages.Attached d is none asked = writes_asked owner d.stage (out d) links asked
writes_call owner links (stages.Over end) d is none asked = writes_over owner links d end is none

-- ---- what is read

handshake_up : (owner : Key) (bytes : List ℕ) (s : ShakingState) (key : Option (List ℕ)) (links : List GrandLink) → HandshakeReads owner s key links → OnLastIfAny (KeepsUp owner bytes) links
    → HandshakeReads owner s key (with_last (writes_up bytes) links)
handshake_up owner bytes s None links reads keeps = tt
handshake_up owner bytes s (Some drawn) links reads keeps = (reads.0, reads_up owner bytes drawn s.unread links reads.1 keeps)

stage_up : (owner : Key) (bytes : List ℕ) (stage : Stage) (links : List GrandLink) → StageReads owner stage links → OnLastIfAny (KeepsUp owner bytes) links
    → StageReads owner stage (with_last (writes_up bytes) links)
stage_up owner bytes (stages.Resting until) links reads keeps = tt
stage_up owner bytes (stages.Calling since) links reads keeps = tt
stage_up owner bytes (stages.Shaking since s) links reads keeps = handshake_up owner bytes s s.key links reads keeps
stage_up owner bytes stages.Attached links reads keeps = tt
stage_up owner bytes (stages.Over end) links reads keeps = tt

-- ---- a client

sends_holds : (c : Client) → IsToken c.key.token → c.key.kind ≢ Tunnel → c.dialer.settings ≡ settings_for c.key → LinksHold c.key c.links
    → Writes c.key c.dialer.stage (out c.dialer) c.links → StageReads c.key c.dialer.stage c.links → ClientHolds (sends c)
sends_holds c token kind settings links writes reads = record {
  token = token;
  kind = kind;
  settings = settings;
  pending = refl;
  links = links_up c.key (out c.dialer) c.links links writes.keeps;
  asked = writes.asked;
  reads = stage_up c.key (out c.dialer) c.dialer.stage c.links reads writes.keeps;
}

-- a call of its session
pub asked_holds : (call : Session → Session) (c : Client) → ClientHolds c → ClientHolds (asked call c)
unfolding asked
asked_holds call c h =
    sends_holds (record c { dialer = on_session call c.dialer }) h.token h.kind h.settings h.links
    (writes_call c.key c.links c.dialer.stage (on_session call c.dialer) refl h.pending h.asked) h.reads

dialled_with : (event : DialEvent) (now : ℕ) (c : Client) → IsToken c.key.token → c.key.kind ≢ Tunnel → c.dialer.settings ≡ settings_for c.key → c.dialer.pending ≡ []
    → LinksHold c.key c.links → HasAsked c.dialer.stage c.links → Keeps c.key c.links c.dialer (dials event now c) → ClientHolds (dialled event now c)
unfolding dialled
dialled_with event now c token kind settings pending links is_asked kept =
    sends_holds (record c { dialer = (dials event now c).1; drawn = c.drawn + draws_by event now c.dialer.stage c.dialer.lost }) token kind (kept.settings ∙ settings) links
    (writes_step c.key c.links (answer_at c.dialer.stage) (draws_after c.drawn) event now c.dialer pending is_asked) kept.reads

-- an event of its dialer that brings nothing
pub dialled_holds : (event : DialEvent) (now : ℕ) (c : Client) → BringsNothing event → ClientHolds c → ClientHolds (dialled event now c)
dialled_holds event now c nothing h =
    dialled_with event now c h.token h.kind h.settings h.pending h.links h.asked
    (keeps_plain c.key c.links (answer_at c.dialer.stage) (draws_after c.drawn) event now c.dialer nothing h.reads)

-- bytes that were read of its last link
pub piece_holds : (piece : List ℕ) (now : ℕ) (c : Client) → IsToken c.key.token → c.key.kind ≢ Tunnel → c.dialer.settings ≡ settings_for c.key → c.dialer.pending ≡ []
    → LinksHold c.key c.links → HasAsked c.dialer.stage c.links → StageReads c.key (fed_stage piece c.dialer.stage) c.links
    → ClientHolds (dialled (events.Piece piece) now c)
piece_holds piece now c token kind settings pending links is_asked reads =
    dialled_with (events.Piece piece) now c token kind settings pending links is_asked
    (keeps_bytes c.key c.links (answer_at c.dialer.stage) (draws_after c.drawn) piece now c.dialer reads)
