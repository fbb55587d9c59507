-- A client makes a link, and its handshake begins; and a client that is new.
use Rattle.std.proofs.Common.{◌≡◌, ◌≢◌, ℕ, suc, ◌+◌, true, false, Option, None, List, [], ◌∷◌, ◌++◌, length, refl, ap, sym, ◌∙◌, subst, length-append, arith}
use Rattle.ra_base.specs.TokenGrammar.{IsToken}
use Rattle.ra_base.specs.declared.event.Side.TheVariants.{A}
use Rattle.ra_base.specs.declared.key.Key.{Key}
use Rattle.ra_base.specs.declared.kind.Kind.{Kind}
use Rattle.ra_base.specs.declared.kind.Kind.TheVariants.{Management, ExtensionHost, Tunnel}
use Rattle.ra_model.specs.Calls.{say}
use Rattle.ra_model.specs.Endpoints.{Endpoint, is_ended, new_endpoint}
use Rattle.ra_model.specs.Views.{View, new_peer, called}
use Rattle.ra_model.proofs.CallMoves.{views_say}
use Rattle.ra_model.proofs.Runs.{view_new}
use Rattle.ra_proto.specs.SayAll.{say_all}
use Rattle.ra_registry.specs.declared.row.Row.{Row}
use Rattle.ra_values.specs.Tree.{Tree}
use Rattle.ra_values.specs.ValueBytes.{value_bytes}
use Rattle.ra_ipc.specs.Messages.{initialize}
use Rattle.ra_ipc.specs.Packets.{message_bytes}
use Rattle.ra_session.specs.OnLinks.{IsRunning}
use Rattle.ra_session.specs.Saying.{dialling}
use Rattle.ra_session.specs.Sessions.{Session}
use Rattle.ra_views.proofs.EndpointMoves.{views_said}
use Rattle.ra_views.proofs.SessionLinks.{same_said_all}
use Rattle.ra_dial.specs.declared.stage.Stage.{Stage}
use Rattle.ra_dial.specs.declared.stage.Stage.TheVariants as stages
use Rattle.ra_dial.specs.declared.values.DialEnd.TheVariants as dial_ends
use Rattle.ra_dial.specs.declared.values.DialEvent.TheVariants as events
use Rattle.ra_dial.specs.Acts.{quiet, ends}
use Rattle.ra_dial.specs.Attempts.{begins}
use Rattle.ra_dial.specs.Calling.{is_calling}
use Rattle.ra_dial.specs.Clients.{Settings, request_of, new_shaking}
use Rattle.ra_dial.specs.Table.{step, on_event, is_late, draws_by}
use Rattle.ra_grand_runs.specs.GrandClients.{Client, dialled, fresh_link, linked, new_client}
use Rattle.ra_grand_runs.specs.SetUps.{context}
use Rattle.ra_run_laws.proofs.Lists.{none_there}
use Rattle.ra_handshake_laws.specs.Handshakes.{ReadsHandshake, HasSaid}
use Rattle.ra_handshake_laws.proofs.Handshaking.{begins as handshake_begins}
use Rattle.ra_link_laws.specs.Parts.{Drawn, PartHolds}
use Rattle.ra_link_laws.proofs.ClientAttached.{after_if}
use Rattle.ra_link_laws.proofs.ClientGrounds.{Ground, with_stage, ground_of}
use Rattle.ra_link_laws.proofs.ClientSends.{rests}
use Rattle.ra_link_laws.proofs.ClientShakes.{shakes_on}
use Rattle.ra_link_laws.proofs.FreshLinks.{drawn_next, draws_with, draw_there, get_last, links_fresh}

-- ---- a link more

abbrev more_links : Client → Client
more_links c = record c { links = c.links ++ fresh_link c ∷ [] }

unfoldable more_ground : (s : Option Session) (o : Option Row) (c : Client) (g : Ground s o c) → Ground s o (more_links c)
more_ground s o c g = record {
  token = g.token;
  kind = g.kind;
  settings = g.settings;
  runs = g.runs;
  session_links = g.session_links;
  number = g.number;
  present = g.present;
  peer = g.peer;
  view = g.view;
  server = g.server;
  whole = g.whole;
  count = g.count;
  both = g.both;
  draws = draws_with (length c.links) (drawn_next c) g.draws;
  attached = g.attached;
  links = links_fresh c g.draws g.session_links g.present g.number g.attached g.settings g.links;
  within = let low = g.within in omega (arith, low, length-append c.links (fresh_link c ∷ []));
}

calling_linked : (s : Option Session) (o : Option Row) (c : Client) (since now : ℕ) → PartHolds s o (with_stage (stages.Calling since) c) → PartHolds s o (linked now (with_stage (stages.Calling since) c))
unfolding ground_of more_ground dialled step on_event begins
calling_linked s o c since now p =
    let stage = stages.Calling since in
    let old = with_stage stage c in
    let g = more_ground s o old (ground_of s o old p) in
    let d = drawn_next old in
    let n = length c.links in
    let drawn = c.drawn + draws_by events.Linked now stage c.dialer.lost in
    let end = dial_ends.GraceOver c.dialer.lost now in
    let request = request_of c.dialer.settings d.reconnection d.key in
    let t = new_shaking c.dialer.settings d.key d.own in
    let law : ReadsHandshake c.key d.key d.own [] t × HasSaid c.key d.reconnection d.key d.own request t.key t.shake.has_answered =
    subst (λ (x : Settings). ReadsHandshake c.key d.key d.own [] (new_shaking x d.key d.own)
    × HasSaid c.key d.reconnection d.key d.own (request_of x d.reconnection d.key) (new_shaking x d.key d.own).key (new_shaking x d.key d.own).shake.has_answered) (sym p.settings)
    (handshake_begins c.key d.reconnection d.key d.own) in
    let is : c.dialer.pending ++ request ≡ request = ap (λ (x : List ℕ). x ++ request) p.pending in
    let there : draws_with n d p.draws n ≡ d = draw_there n d p.draws in
    let low = g.within in
    let last = p.stage in
    let fresh = fresh_link old in
    let long : length (c.links ++ fresh ∷ []) ≡ suc n = omega (arith, length-append c.links (fresh ∷ [])) in
    after_if s o (more_links old) drawn (is_late events.Linked stage c.dialer.lost now) _ _
    (rests s o (more_links old) g drawn (ends end) c.dialer (stages.Over end) tt refl p.pending p.runs p.view g.within)
    (shakes_on s o (more_links old) g n fresh long (get_last c.links fresh) (omega (arith, last, long)) drawn quiet
    (record c.dialer { pending = c.dialer.pending ++ request; read = 0 }) since t [] refl p.runs p.view
    (record { rest = []; same = refl }) (λ kept. refl)
    (subst (λ (x : Drawn). ReadsHandshake c.key x.key x.own [] t) (sym there) law.0)
    (subst (λ (x : Drawn). HasSaid c.key x.reconnection x.key x.own (c.dialer.pending ++ request) t.key t.shake.has_answered) (sym there)
    (subst (λ (x : List ℕ). HasSaid c.key d.reconnection d.key d.own x t.key t.shake.has_answered) (sym is) law.1))
    (λ w has. none_there has))

linked_at : (s : Option Session) (o : Option Row) (c : Client) (stage : Stage) (now : ℕ) → is_calling stage ≡ true → PartHolds s o (with_stage stage c) → PartHolds s o (linked now (with_stage stage c))
linked_at s o c (stages.Resting until) now calling p = absurd cc
linked_at s o c (stages.Calling since) now calling p = calling_linked s o c since now p
linked_at s o c (stages.Shaking since t) now calling p = absurd cc
linked_at s o c stages.Attached now calling p = absurd cc
linked_at s o c (stages.Over end) now calling p = absurd cc

pub part_linked : (s : Option Session) (o : Option Row) (c : Client) (now : ℕ) → is_calling c.dialer.stage ≡ true → PartHolds s o c → PartHolds s o (linked now c)
part_linked s o c now calling p = linked_at s o c c.dialer.stage now calling p

-- ---- a new client

said_going : (bodies : List (List ℕ)) (now : ℕ) (e : Endpoint) → is_ended e.phase ≡ false → is_ended (say_all bodies now e).phase ≡ false
said_going bodies now e going = ap is_ended (same_said_all bodies now e).1 ∙ going

-- its session begins
begun : (kind : Kind) (words : Tree) (now later : ℕ) → View 0 A 0 0 (dialling kind words now).peer (new_peer 0 later false) [] × IsRunning (dialling kind words now)
unfolding say_all
begun Management words now later =
    let fresh = new_endpoint 0 now true in
    let bodies = message_bytes initialize ∷ [] in
    let said = called (say (value_bytes words) now) (new_peer 0 now true) in (
      views_said bodies now 0 A 0 0 said (new_peer 0 later false) []
          (views_say (value_bytes words) now 0 A 0 0 (new_peer 0 now true) (new_peer 0 later false) [] (view_new 0 now later true false A (omega arith))),
      λ going. said_going (value_bytes words ∷ bodies) now fresh refl,
    )
begun ExtensionHost words now later = (view_new 0 now later true false A (omega arith), λ going. refl)
begun Tunnel words now later = (view_new 0 now later true false A (omega arith), λ going. refl)

pub part_new : (key : Key) (now : ℕ) → IsToken key.token → key.kind ≢ Tunnel → PartHolds None None (new_client key now)
part_new key now token kind =
    let new = begun key.kind context now now in
    record {
      token = token;
      kind = kind;
      settings = refl;
      pending = refl;
      runs = new.1;
      session_links = [];
      number = 0;
      present = 0;
      peer = new_peer 0 now false;
      view = new.0;
      server = (now, refl, refl);
      whole = λ x at. none_there at;
      count = refl;
      both = refl;
      draws = λ n. record { key = []; own = []; reconnection = false };
      links = λ n l at. none_there at;
      apart = λ n m k l v w one. none_there one;
      attached = 0;
      later = λ n l w at. none_there at;
      stage = omega arith;
    }
