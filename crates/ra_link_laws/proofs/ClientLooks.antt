-- A client that shakes hands looks at what it has read.
use Rattle.std.proofs.Common.{◌≡◌, ℕ, suc, ◌+◌, ◌<◌, true, Option, Some, None, List, [], ◌++◌, length, take, drop, refl, ap, sym, ◌∙◌, subst, append_assoc, length-append, arith}
use Rattle.std.specs.Prelude.{slice_get}
use Rattle.std.proofs.lemmas.List.{take-append-drop}
use Rattle.ra_base.specs.declared.event.Side.TheVariants.{A}
use Rattle.ra_base.specs.declared.key.Key.{Key}
use Rattle.ra_model.specs.Links.{Link}
use Rattle.ra_model.specs.Views.{View}
use Rattle.ra_registry.specs.declared.row.Row.{Row}
use Rattle.ra_session.specs.OnLinks.{IsRunning}
use Rattle.ra_session.specs.Sessions.{Session}
use Rattle.ra_link_core.specs.LinkRuns.{Welcome}
use Rattle.ra_dial.specs.declared.stage.Stage.TheVariants as stages
use Rattle.ra_dial.specs.declared.values.DialEnd.TheVariants as dial_ends
use Rattle.ra_dial.specs.Acts.{nothing, quiet, ends}
use Rattle.ra_dial.specs.Attempts.{fails, rest_or_drop, next_attempt, wait_before}
use Rattle.ra_dial.specs.Clients.{Settings}
use Rattle.ra_dial.specs.Dialers.{Dialer}
use Rattle.ra_dial.specs.Handshakes.{Look, is_open, goes_on, fails as spoils, refuses, accepts, looked_at, taken_by}
use Rattle.ra_dial.specs.Links.{after_look, shakes}
use Rattle.ra_dial.specs.ShakingStates.{ShakingState}
use Rattle.ra_grand_runs.specs.GrandClients.{GrandLink, Client}
use Rattle.ra_grand_runs.specs.Reached.{Begins, read_of}
use Rattle.ra_grand_runs.specs.SetUps.{answer_head}
use Rattle.ra_handshake_laws.specs.Handshakes.{HasSaid, LooksTo}
use Rattle.ra_handshake_laws.proofs.Handshaking.{looks}
use Rattle.ra_link_laws.specs.Parts.{Drawn, IsWelcome, HasWelcome, Shakes}
use Rattle.ra_link_laws.proofs.ClientAttaching.{attaches_on}
use Rattle.ra_link_laws.proofs.ClientGrounds.{Ground, After}
use Rattle.ra_link_laws.proofs.ClientSends.{rests}
use Rattle.ra_link_laws.proofs.ClientShakes.{shakes_on}
use Rattle.ra_link_laws.proofs.ClientTexts.{IsQuiet, said_all, quiet_look}

-- what was read of the server's text is a front of it
read_front : (out : List ℕ) (l : Link) (b : Begins out l.to_a.written) → read_of l.to_a ++ (drop l.to_a.read l.to_a.written ++ b.rest) ≡ out
read_front out l b =
    sym (append_assoc (take l.to_a.read l.to_a.written) (drop l.to_a.read l.to_a.written) b.rest)
    ∙ ap (λ (t : List ℕ). t ++ b.rest) (take-append-drop l.to_a.read l.to_a.written) ∙ sym b.same

-- where a welcome stands, all was said
all_was_said : (owner : Key) (d : Drawn) (session_links : List Link) (l : GrandLink) (t : ShakingState) (k : Shakes owner d t l) (w : Welcome) → l.server.welcome ≡ Some w
    → HasWelcome owner d session_links l l.server.welcome → (t.key ≡ None) × (t.shake.has_answered ≡ true)
all_was_said owner d session_links l t k w is welcome =
    let has : IsWelcome owner d session_links l w = subst (λ (o : Option Welcome). HasWelcome owner d session_links l o) is welcome in
    let place = has.place in
    let there = has.there in
    said_all owner d.reconnection d.key d.own k.text has.theirs t.key t.shake.has_answered k.said
    (omega (arith, place, there, ap (λ (x : List ℕ). length x) k.put.same, length-append l.link.to_b.written k.put.rest))

looks_after : (s : Option Session) (o : Option Row) (c : Client) (g : Ground s o c) (n : ℕ) (l : GrandLink) → length c.links ≡ suc n → slice_get c.links n ≡ Some l
    → g.attached < length c.links → (drawn : ℕ) (d : Dialer) (since now : ℕ) (t new : ShakingState) (k : Shakes c.key (g.draws n) t l) (look : Look)
    → d.settings ≡ c.dialer.settings → d.pending ≡ [] → IsRunning d.session → View 0 A g.number g.present d.session.peer g.peer g.session_links
    → LooksTo c.key (g.draws n).reconnection (g.draws n).key (g.draws n).own (read_of l.link.to_a) l.server.welcome t look new
    → (t.key ≡ None → t.shake.has_answered ≡ true → IsQuiet look)
    → After s o c drawn (after_look since look new now (record d { stage = stages.Shaking since t }))
unfolding fails
looks_after s o c g n l count at within drawn d since now t new k is_open settings none runs view to silent =
    rests s o c g drawn nothing d (stages.Shaking since t) tt settings none runs view (within, (n, l, count, at, k))
looks_after s o c g n l count at within drawn d since now t new k (goes_on written) settings none runs view to silent =
    let draw = g.draws n in
    let same : d.pending ++ written ≡ written = ap (λ (x : List ℕ). x ++ written) none in
    shakes_on s o c g n l count at within drawn quiet (record d { pending = d.pending ++ written }) since new k.text settings runs view k.put k.put_all to.0
    (subst (λ (x : List ℕ). HasSaid c.key draw.reconnection draw.key draw.own (k.text ++ x) new.key new.shake.has_answered) (sym same) (to.1 k.text k.said))
    (λ w is. let all = all_was_said c.key draw g.session_links l t k w is (g.links.each n l at).welcome in same ∙ silent all.0 all.1)
looks_after s o c g n l count at within drawn d since now t new k spoils settings none runs view to silent =
    let until = now + wait_before (next_attempt d.attempt) in
    rests s o c g drawn (rest_or_drop true until) (record d { attempt = next_attempt d.attempt; pending = [] }) (stages.Resting until) tt settings refl runs view g.within
looks_after s o c g n l count at within drawn d since now t new k (refuses reason) settings none runs view to silent =
    rests s o c g drawn (ends (dial_ends.Permanent reason)) d (stages.Over (dial_ends.Permanent reason)) tt settings none runs view g.within
looks_after s o c g n l count at within drawn d since now t new k (accepts chunk) settings none runs view to silent =
    attaches_on s o c g n l count at within drawn (record d { stage = stages.Shaking since t }) now chunk to.0 to.1 settings none runs view to.2 to.3

pub frame_shakes : (s : Option Session) (o : Option Row) (c : Client) (g : Ground s o c) (n : ℕ) (l : GrandLink) → length c.links ≡ suc n → slice_get c.links n ≡ Some l
    → g.attached < length c.links → (drawn : ℕ) (since now : ℕ) (t : ShakingState) → c.dialer.pending ≡ [] → Shakes c.key (g.draws n) t l
    → After s o c drawn (shakes since t (answer_head t.key t.unread) now (record c.dialer { stage = stages.Shaking since t }))
unfolding shakes
frame_shakes s o c g n l count at within drawn since now t none k =
    let draw = g.draws n in
    let keeps = g.links.each n l at in
    let head = answer_head t.key t.unread in
    let looked = looked_at c.dialer.settings head t in
    let read = read_of l.link.to_a in
    let law : LooksTo c.key draw.reconnection draw.key draw.own read l.server.welcome t looked.0 looked.1 =
    subst (λ (x : Settings). LooksTo c.key draw.reconnection draw.key draw.own read l.server.welcome t (looked_at x head t).0 (looked_at x head t).1) (sym g.settings)
    (looks c.key draw.reconnection draw.key draw.own read (drop l.link.to_a.read l.link.to_a.written ++ keeps.put.rest) l.server.out l.server.welcome t g.kind k.reads
    keeps.speaks (read_front l.server.out l.link keeps.put)) in
    looks_after s o c g n l count at within drawn (record c.dialer { read = c.dialer.read + taken_by t looked.1 }) since now t looked.1 k looked.0 refl none g.runs g.view law
    (quiet_look c.dialer.settings t.key head t)
