-- What holds of a client and its links stays when bytes of one link come to the server's end, and when that is left.
use Rattle.std.proofs.Common.{◌≡◌, ℕ, zero, suc, Bool, true, false, Option, Some, List, [], ◌∷◌, ◌++◌, if◌then◌else◌, length, drop, refl, ap, sym, ◌∙◌, subst, append-nil}
use Rattle.std.specs.Prelude.{slice_get}
use Rattle.std.proofs.lemmas.List.{drop_at}
use Rattle.ra_base.specs.declared.event.Side.TheVariants.{A, B}
use Rattle.ra_base.specs.declared.key.Key.{Key}
use Rattle.ra_model.specs.Links.{read_on, written_to}
use Rattle.ra_upgrade.specs.declared.request_head.HeadFault.{HeadFault}
use Rattle.ra_upgrade.specs.declared.request_head.Upgrade.{Upgrade}
use Rattle.ra_upgrade.specs.AnswerTexts.{answer_text}
use Rattle.ra_upgrade.specs.Exchange.{requested}
use Rattle.ra_upgrade.specs.RequestTexts.{key_text}
use Rattle.ra_items.specs.Heads.{Head}
use Rattle.ra_link_core.specs.LinkRuns.{Serving}
use Rattle.ra_grand_runs.specs.GrandClients.{GrandLink, Client}
use Rattle.ra_grand_runs.specs.Grands.{Grand, with_link}
use Rattle.ra_grand_runs.specs.Marks.{Mark}
use Rattle.ra_grand_runs.specs.ServedLinks.{came_at, draw_at, serving_at, served, left, settled, end_after}
use Rattle.ra_grand_runs.specs.Reached.{LinkHolds, LinksHold, EndHolds, IsAsked, ClientHolds, read_of}
use Rattle.ra_grand_runs.specs.SetUps.{grounds}
use Rattle.ra_grand_runs.proofs.AnswerSteps.{Answered, SettledSo, answered_on, settled_so}
use Rattle.ra_grand_runs.proofs.LinkChanging.{HoldsAsWell, link_changed}
use Rattle.ra_grand_runs.proofs.LinkSteps.{Follows, IsPut, link_holds, read_kept}

-- ---- a client with one link changed

pub record KeepsLink (owner : Key) (l after : GrandLink) : Type 0 where
  pub holds : HoldsAsWell owner l after
  pub read : read_of after.link.to_a ≡ read_of l.link.to_a
  pub asked : IsAsked l → IsAsked after

pub link_there : (owner : Key) (ls : List GrandLink) (k : ℕ) (l : GrandLink) → LinksHold owner ls → slice_get ls k ≡ Some l → (drawn : List ℕ) × LinkHolds owner drawn l
link_there owner [] k l hold is = absurd cc
link_there owner (x ∷ ls) zero l hold is = (hold.0.0, subst (λ (y : GrandLink). LinkHolds owner hold.0.0 y) (there_is is) hold.0.1)
  where
    there_is : {x y : GrandLink} → ◌≡◌ {A = Option GrandLink} (Some x) (Some y) → x ≡ y
    there_is e = cc
link_there owner (x ∷ ls) (suc k) l hold is = link_there owner ls k l hold.1 is

pub client_keeps : (c : Client) (k : ℕ) (l after : GrandLink) → ClientHolds c → slice_get c.links k ≡ Some l → KeepsLink c.key l after → ClientHolds (with_link (suc k) after c)
client_keeps c k l after hold is keeps = link_changed c k l after hold is keeps.holds keeps.asked (sym keeps.read)

-- ---- a link to which bytes come

-- the link with what the server read and wrote
abbrev pub after_bytes : List ℕ → Bool → Serving → GrandLink → Grand → GrandLink
after_bytes bytes is_over v l w = record {
  link = written_to A (drop (length l.server.out) v.out) (read_on B (length bytes) l.link);
  server = end_after bytes (draw_at l w) is_over v l.server;
}

put_so : (bytes more : List ℕ) (is_over : Bool) (v : Serving) (l : GrandLink) (w : Grand) → v.out ≡ l.server.out ++ more → IsPut more l (after_bytes bytes is_over v l w) bytes
put_so bytes more is_over v l w is = record {
  head = refl;
  seen = refl;
  out = is;
  link = ap (λ (t : List ℕ). written_to A t (read_on B (length bytes) l.link)) (ap (λ (t : List ℕ). drop (length l.server.out) t) is ∙ drop_at l.server.out more (length l.server.out) refl);
}

keeps_by : (owner : Key) (drawn bytes more : List ℕ) (is_over : Bool) (v : Serving) (l : GrandLink) (w : Grand) → LinkHolds owner drawn l → Follows bytes l.link.to_b → v.out ≡ l.server.out ++ more
    → ((key : List ℕ) → LinkHolds owner key l → EndHolds (answer_text (key_text key)) (end_after bytes (draw_at l w) is_over v l.server)) → KeepsLink owner l (after_bytes bytes is_over v l w)
keeps_by owner drawn bytes more is_over v l w holds f is ends = record {
  holds = λ key h. link_holds owner key bytes more l (after_bytes bytes is_over v l w) h f (put_so bytes more is_over v l w is) (ends key h);
  read = read_kept owner drawn bytes more l (after_bytes bytes is_over v l w) holds (put_so bytes more is_over v l w is);
  asked = λ asked. asked;
}

settled_out : (b : Bool) (now : ℕ) (v : Serving) → (if b then left now v else v).out ≡ v.out
settled_out true now v = refl
settled_out false now v = refl

piece_answered : (owner : Key) (drawn bytes : List ℕ) (l : GrandLink) (w : Grand) → LinkHolds owner drawn l → l.server.is_over ≡ false
    → Answered (answer_text (key_text drawn)) (served bytes l w).out (served bytes l w).seat
unfolding served
piece_answered owner drawn bytes l w holds going =
    answered_on (grounds (draw_at l w)) l.server.head l.server.seen (record { bytes = bytes; now = w.now })
    (requested owner.token holds.reconnection true drawn) (serving_at l w) refl (ap (λ (h : Head Upgrade HeadFault). h.says) holds.head) (holds.end.going going)

piece_ends : (mark : Mark) (owner : Key) (drawn bytes : List ℕ) (l : GrandLink) (w : Grand) → l.server.is_over ≡ false → LinkHolds owner drawn l
    → EndHolds (answer_text (key_text drawn)) (end_after bytes (draw_at l w) (came_at mark bytes l w).is_over (settled w.now (came_at mark bytes l w)) l.server)
piece_ends mark owner drawn bytes l w going holds =
    let so : SettledSo (answer_text (key_text drawn)) (came_at mark bytes l w).is_over (settled w.now (came_at mark bytes l w)) =
    settled_so mark (answer_text (key_text drawn)) w.now (serving_at l w) (served bytes l w) (holds.end.going going) (piece_answered owner drawn bytes l w holds going) in
    record { out = so.out; going = so.going }

pub piece_keeps : (mark : Mark) (owner : Key) (drawn bytes more : List ℕ) (l : GrandLink) (w : Grand) → LinkHolds owner drawn l → Follows bytes l.link.to_b → l.server.is_over ≡ false
    → (came_at mark bytes l w).link.out ≡ l.server.out ++ more
    → KeepsLink owner l (after_bytes bytes (came_at mark bytes l w).is_over (settled w.now (came_at mark bytes l w)) l w)
piece_keeps mark owner drawn bytes more l w holds f going is =
    let c = came_at mark bytes l w in
    keeps_by owner drawn bytes more c.is_over (settled w.now c) l w holds f (settled_out c.is_over w.now c.link ∙ is)
    (λ key h. piece_ends mark owner key bytes l w going h)

pub left_keeps : (owner : Key) (drawn : List ℕ) (l : GrandLink) (w : Grand) → LinkHolds owner drawn l → Follows [] l.link.to_b
    → KeepsLink owner l (after_bytes [] true (left w.now (serving_at l w)) l w)
left_keeps owner drawn l w holds f =
    keeps_by owner drawn [] [] true (left w.now (serving_at l w)) l w holds f (sym (append-nil l.server.out))
    (λ key h. record { out = h.end.out; going = λ not. absurd (apart not) })
  where
    apart : true ≡ false → ⊥
    apart e = cc
