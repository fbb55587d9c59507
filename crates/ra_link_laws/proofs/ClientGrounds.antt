-- What holds of a client beside the stage of its dialer, and a part that is put together of it.
use Rattle.std.proofs.Common.{◌≡◌, ◌≢◌, ℕ, ◌<◌, ◌≤◌, Option, Some, List, [], length, ◌∙◌, arith}
use Rattle.std.specs.Prelude.{slice_get}
use Rattle.std.specs.Option.{is_some}
use Rattle.ra_base.specs.TokenGrammar.{IsToken}
use Rattle.ra_base.specs.declared.event.Side.TheVariants.{A}
use Rattle.ra_base.specs.declared.key.Key.{Key}
use Rattle.ra_base.specs.declared.kind.Kind.TheVariants.{Tunnel}
use Rattle.ra_model.specs.Links.{Link, at_number}
use Rattle.ra_model.specs.Views.{View}
use Rattle.ra_model.specs.Worlds.{Peer}
use Rattle.ra_registry.specs.declared.row.Row.{Row}
use Rattle.ra_registry.specs.Rows.{epoch_of}
use Rattle.ra_session.specs.OnLinks.{IsRunning}
use Rattle.ra_session.specs.Sessions.{Session}
use Rattle.ra_link_core.specs.LinkRuns.{Welcome}
use Rattle.ra_dial.specs.declared.stage.Stage.{Stage}
use Rattle.ra_dial.specs.declared.stage.Stage.TheVariants as stages
use Rattle.ra_dial.specs.Attempts.{Step}
use Rattle.ra_dial.specs.Dialers.{Dialer}
use Rattle.ra_grand_runs.specs.GrandClients.{GrandLink, Client, sends}
use Rattle.ra_grand_runs.specs.SetUps.{settings_for}
use Rattle.ra_link_laws.specs.Parts.{Drawn, LinkKeeps, StageKeeps, IsServer, WritesWhole, PartHolds}
use Rattle.ra_link_laws.proofs.SessionLinkMoves.{Backs, whole_back}

-- the links of a client
pub record LinksKeep (owner : Key) (draws : ℕ → Drawn) (session_links : List Link) (present number attached : ℕ) (links : List GrandLink) : Type 0 where
  pub each : (n : ℕ) (l : GrandLink) → slice_get links n ≡ Some l → LinkKeeps owner (draws n) session_links present l
  pub apart : (n m : ℕ) (k l : GrandLink) (v w : Welcome) → slice_get links n ≡ Some k → slice_get links m ≡ Some l
      → k.server.welcome ≡ Some v → l.server.welcome ≡ Some w → v.epoch ≡ w.epoch → n ≡ m
  pub later : (n : ℕ) (l : GrandLink) (w : Welcome) → slice_get links n ≡ Some l → attached ≤ n → l.server.welcome ≡ Some w → number < w.epoch

-- all of a part, but for the stage of the dialer and what it has still to hand out
pub record Ground (session : Option Session) (kept : Option Row) (c : Client) : Type 0 where
  pub token : IsToken c.key.token
  pub kind : c.key.kind ≢ Tunnel
  pub settings : c.dialer.settings ≡ settings_for c.key
  pub runs : IsRunning c.dialer.session
  pub session_links : List Link
  pub number : ℕ
  pub present : ℕ
  pub peer : Peer
  pub view : View 0 A number present c.dialer.session.peer peer session_links
  pub server : IsServer session peer present
  pub whole : (x : Link) → at_number session_links present ≡ Some x → WritesWhole peer x
  pub count : length session_links ≡ epoch_of kept
  pub both : is_some session ≡ is_some kept
  pub draws : ℕ → Drawn
  pub attached : ℕ
  pub links : LinksKeep c.key draws session_links present number attached c.links
  pub within : attached ≤ length c.links

pub stage_within : (c : Client) (draws : ℕ → Drawn) (session_links : List Link) (number attached : ℕ) (stage : Stage)
    → StageKeeps c draws session_links number attached stage → attached ≤ length c.links
stage_within c draws session_links number attached (stages.Resting until) keeps = keeps
stage_within c draws session_links number attached (stages.Calling since) keeps = keeps
stage_within c draws session_links number attached (stages.Shaking since s) keeps = let low = keeps.0 in omega (arith, low)
stage_within c draws session_links number attached stages.Attached keeps = let all = keeps.0 in omega (arith, all)
stage_within c draws session_links number attached (stages.Over end) keeps = keeps

unfoldable pub ground_of : (s : Option Session) (o : Option Row) (c : Client) → PartHolds s o c → Ground s o c
ground_of s o c part = record {
  token = part.token;
  kind = part.kind;
  settings = part.settings;
  runs = part.runs;
  session_links = part.session_links;
  number = part.number;
  present = part.present;
  peer = part.peer;
  view = part.view;
  server = part.server;
  whole = part.whole;
  count = part.count;
  both = part.both;
  draws = part.draws;
  attached = part.attached;
  links = record { each = part.links; apart = part.apart; later = part.later };
  within = stage_within c part.draws part.session_links part.number part.attached c.dialer.stage part.stage;
}

-- the part of a client with another dialer and other links
pub part_made : (s : Option Session) (o : Option Row) (c : Client) (g : Ground s o c) (dialer : Dialer) (drawn : ℕ) (links : List GrandLink) (session_links : List Link) (number attached : ℕ)
    → dialer.settings ≡ c.dialer.settings → dialer.pending ≡ [] → IsRunning dialer.session
    → View 0 A number g.present dialer.session.peer g.peer session_links → length session_links ≡ length g.session_links → Backs g.session_links session_links
    → LinksKeep c.key g.draws session_links g.present number attached links
    → StageKeeps (record { key = c.key; dialer = dialer; drawn = drawn; links = links }) g.draws session_links number attached dialer.stage
    → PartHolds s o (record { key = c.key; dialer = dialer; drawn = drawn; links = links })
part_made s o c g dialer drawn links session_links number attached settings none runs view long back keeps stage = record {
  token = g.token;
  kind = g.kind;
  settings = settings ∙ g.settings;
  pending = none;
  runs = runs;
  session_links = session_links;
  number = number;
  present = g.present;
  peer = g.peer;
  view = view;
  server = g.server;
  whole = whole_back g.peer g.present g.session_links session_links back g.whole;
  count = long ∙ g.count;
  both = g.both;
  draws = g.draws;
  links = keeps.each;
  apart = keeps.apart;
  attached = attached;
  later = keeps.later;
  stage = stage;
}

-- what holds once the dialer has made a step, and all that it has to write is written
abbrev pub After : Option Session → Option Row → Client → ℕ → Step → Type 0
After s o c drawn step = PartHolds s o (sends (record c { dialer = step.1; drawn = drawn }))

-- the client as it is at this stage of its dialer
abbrev pub with_stage : Stage → Client → Client
with_stage stage c = record c { dialer = record c.dialer { stage = stage } }
