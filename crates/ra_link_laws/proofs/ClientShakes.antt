-- A client that shakes hands: bytes of its handshake go on its last link.
use Rattle.std.proofs.Common.{◌≡◌, ℕ, suc, ◌<◌, Bool, true, false, true≢false, cond, Option, Some, List, [], ◌++◌, length, refl, ap, sym, ◌∙◌, subst, append-nil, append_assoc, length-set, arith}
use Rattle.std.specs.Prelude.{slice_get, slice_set}
use Rattle.ra_base.specs.declared.event.Side.TheVariants.{A}
use Rattle.ra_model.specs.Views.{View}
use Rattle.ra_registry.specs.declared.row.Row.{Row}
use Rattle.ra_session.specs.OnLinks.{IsRunning}
use Rattle.ra_session.specs.Sessions.{Session}
use Rattle.ra_link_core.specs.LinkRuns.{Welcome}
use Rattle.ra_dial.specs.declared.stage.Stage.TheVariants as stages
use Rattle.ra_dial.specs.Acts.{Act}
use Rattle.ra_dial.specs.Dialers.{Dialer}
use Rattle.ra_dial.specs.ShakingStates.{ShakingState}
use Rattle.ra_grand_runs.specs.GrandClients.{GrandLink, Client, writes_up}
use Rattle.ra_grand_runs.specs.Lasts.{with_last}
use Rattle.ra_grand_runs.specs.Reached.{Begins, read_of}
use Rattle.ra_run_laws.proofs.Lists.{get_same}
use Rattle.ra_handshake_laws.specs.Handshakes.{client_text, ReadsHandshake, HasSaid}
use Rattle.ra_link_laws.specs.Parts.{LinkKeeps, PartHolds}
use Rattle.ra_link_laws.proofs.ClientGrounds.{Ground, After, part_made}
use Rattle.ra_link_laws.proofs.ClientLinks.{last_is, links_put_one}
use Rattle.ra_link_laws.proofs.ClientTexts.{said_front}
use Rattle.ra_link_laws.proofs.SessionLinkMoves.{backs_itself, link_said}

-- of a text that was said, what came on the link, once more is said and written
put_more : (cut : Bool) (text written bytes : List ℕ) → Begins text written → (cut ≡ false → written ≡ text) → Begins (text ++ bytes) (written ++ cond cut [] bytes)
put_more true text written bytes put all = record {
  rest = put.rest ++ bytes;
  same = ap (λ (t : List ℕ). t ++ bytes) put.same ∙ append_assoc written put.rest bytes ∙ ap (λ (t : List ℕ). t ++ (put.rest ++ bytes)) (sym (append-nil written));
}
put_more false text written bytes put all =
    record { rest = []; same = ap (λ (t : List ℕ). t ++ bytes) (sym (all refl)) ∙ sym (append-nil (written ++ bytes)) }

put_all_more : (cut : Bool) (text written bytes : List ℕ) → (cut ≡ false → written ≡ text) → cut ≡ false → written ++ cond cut [] bytes ≡ text ++ bytes
put_all_more true text written bytes all kept = absurd (true≢false kept)
put_all_more false text written bytes all kept = ap (λ (t : List ℕ). t ++ bytes) (all refl)

-- the handshake goes on with this state, and these bytes go on its link
pub shakes_on : (s : Option Session) (o : Option Row) (c : Client) (g : Ground s o c) (n : ℕ) (l : GrandLink) → length c.links ≡ suc n → slice_get c.links n ≡ Some l
    → g.attached < length c.links → (drawn : ℕ) (act : Act) (d : Dialer) (since : ℕ) (t : ShakingState) (text : List ℕ)
    → d.settings ≡ c.dialer.settings → IsRunning d.session → View 0 A g.number g.present d.session.peer g.peer g.session_links
    → Begins text l.link.to_b.written → (l.link.is_cut ≡ false → l.link.to_b.written ≡ text)
    → ReadsHandshake c.key (g.draws n).key (g.draws n).own (read_of l.link.to_a) t
    → HasSaid c.key (g.draws n).reconnection (g.draws n).key (g.draws n).own (text ++ d.pending) t.key t.shake.has_answered
    → ((w : Welcome) → l.server.welcome ≡ Some w → d.pending ≡ [])
    → After s o c drawn (act, record d { stage = stages.Shaking since t })
shakes_on s o c g n l count at within drawn act d since t text settings runs view put all reads said stops =
    let bytes = d.pending in
    let fresh = writes_up bytes l in
    let links = slice_set c.links n fresh in
    let dialer = record d { stage = stages.Shaking since t; pending = [] } in
    let draw = g.draws n in
    let front = said_front c.key draw.reconnection draw.key draw.own (text ++ bytes) t.key t.shake.has_answered said in
    let more : Begins (text ++ bytes) fresh.link.to_b.written = put_more l.link.is_cut text l.link.to_b.written bytes put all in
    let is_front : fresh.link.to_b.written ++ (more.rest ++ front.1) ≡ client_text c.key draw.reconnection draw.key draw.own front.0 =
    sym (append_assoc fresh.link.to_b.written more.rest front.1) ∙ ap (λ (x : List ℕ). x ++ front.1) (sym more.same) ∙ front.2 in
    let keeps : LinkKeeps c.key draw g.session_links g.present fresh =
    link_said c.key draw g.session_links g.present l bytes stops front.0 (more.rest ++ front.1) is_front (g.links.each n l at) in
    subst (λ (x : List ℕ). PartHolds s o (record { key = c.key; dialer = dialer; drawn = drawn; links = with_last (writes_up x) c.links })) (sym (append-nil bytes))
    (subst (λ (ls : List GrandLink). PartHolds s o (record { key = c.key; dialer = dialer; drawn = drawn; links = ls })) (sym (last_is (writes_up bytes) c.links n l count at))
    (part_made s o c g dialer drawn links g.session_links g.number g.attached settings refl runs view refl (backs_itself g.session_links)
    (links_put_one c.key g.draws g.session_links g.present g.number g.attached c.links n l fresh at refl keeps g.links) (
      omega (arith, within, length-set c.links n fresh),
      (
        n,
        fresh,
        length-set c.links n fresh ∙ count,
        get_same c.links n fresh l at,
        record {
          reads = reads;
          text = text ++ bytes;
          said = said;
          put = more;
          put_all = put_all_more l.link.is_cut text l.link.to_b.written bytes all;
        },
      ),
    )))
