-- What a part says of the two ends of its session.
use Rattle.std.proofs.Common.{◌≡◌, ℕ, zero, suc, ◌+◌, ◌-◌, ◌≤◌, false, Option, Some, None, List, [], ◌∷◌, ◌++◌, length, take, drop, refl, ap, sym, ◌∙◌, subst, arith}
use Rattle.std.specs.Prelude.{slice_get}
use Rattle.ra_base.specs.declared.event.Side.TheVariants.{A, B}
use Rattle.ra_base.specs.declared.key.Seat.{Seat}
use Rattle.ra_model.specs.Links.{at_number}
use Rattle.ra_model.specs.Pairs.{messages, IsFront, IsJoining, HearsInOrder}
use Rattle.ra_model.specs.Views.{View, new_peer}
use Rattle.ra_model.specs.Worlds.{Peer}
use Rattle.ra_model.proofs.EveryRun.{hears, keeps_unheard, writes_honestly, reads_in_frames}
use Rattle.ra_model.proofs.Sound.{turned}
use Rattle.ra_registry.specs.declared.row.Row.{Row}
use Rattle.ra_session.specs.Sessions.{Session}
use Rattle.ra_link_core.specs.LinkRuns.{Welcome}
use Rattle.ra_grand_runs.specs.GrandClients.{GrandLink, Client}
use Rattle.ra_run_laws.proofs.Lists.{there_is}
use Rattle.ra_link_laws.specs.Parts.{IsWelcome, HasWelcome, IsSeated, IsAttached, PartHolds}
use Rattle.ra_grand_laws.specs.Ends.{BothHear, text_up, text_down, read_up, read_down, LinkHonest, HoldsLink}

-- the view with the session at the server
pub view_with : (s : Session) (o : Option Row) (c : Client) (part : PartHolds (Some s) o c) → View 0 A part.number part.present c.dialer.session.peer s.peer part.session_links
view_with s o c part = subst (λ (p : Peer). View 0 A part.number part.present c.dialer.session.peer p part.session_links) part.server.0 part.view

pub back_with : (s : Session) (o : Option Row) (c : Client) (part : PartHolds (Some s) o c) → View 0 B part.present part.number s.peer c.dialer.session.peer part.session_links
back_with s o c part = turned 0 A part.number part.present c.dialer.session.peer s.peer part.session_links (view_with s o c part)

pub both_hear : (s : Session) (o : Option Row) (c : Client) → PartHolds (Some s) o c → BothHear c.dialer.session.peer s.peer
both_hear s o c part =
    let v = view_with s o c part in
    let b = back_with s o c part in
    record { up = hears v; down = hears b; kept_up = keeps_unheard v; kept_down = keeps_unheard b }

-- before the first admission nothing was heard
heard_nothing : (now : ℕ) (p o : Peer) → o ≡ new_peer 0 now false → HearsInOrder 0 o p → p.heard ≡ []
heard_nothing now p o new hears =
    none p.heard hears.prefix.0 (hears.prefix.1 ∙ ap (λ (q : Peer). messages q.endpoint) new)
  where
    none : (xs ys : List (List ℕ)) → xs ++ ys ≡ [] → xs ≡ []
    none [] ys same = refl
    none (x ∷ xs) ys same = absurd cc

pub silent : (o : Option Row) (c : Client) → PartHolds None o c → c.dialer.session.peer.heard ≡ []
silent o c part =
    heard_nothing part.server.0 c.dialer.session.peer part.peer part.server.1
    (hears (turned 0 A part.number part.present c.dialer.session.peer part.peer part.session_links part.view))

-- ---- links

-- the session's link of a welcome
welcome_of : (s : Session) (o : Option Row) (c : Client) (part : PartHolds (Some s) o c) (n : ℕ) (l : GrandLink) (w : Welcome)
    → slice_get c.links n ≡ Some l → l.server.welcome ≡ Some w → IsWelcome c.key (part.draws n) part.session_links l w
welcome_of s o c part n l w there is =
    subst (λ (x : Option Welcome). HasWelcome c.key (part.draws n) part.session_links l x) is (part.links n l there).welcome

pub link_honest : (s : Session) (o : Option Row) (c : Client) → PartHolds (Some s) o c → (n : ℕ) (l : GrandLink) (w : Welcome)
    → slice_get c.links n ≡ Some l → l.server.welcome ≡ Some w → LinkHonest c.dialer.session.peer s.peer w l
link_honest s o c part n l w there is =
    let h = welcome_of s o c part n l w there is in
    let up = writes_honestly (view_with s o c part) in
    let down = writes_honestly (back_with s o c part) in record {
      up = subst (λ (t : List ℕ). IsFront 0 (messages c.dialer.session.peer.endpoint) (0 + length c.dialer.session.peer.heard) t) h.carries.up (up.front w.epoch h.session_link h.is_at);
      down = subst (λ (t : List ℕ). IsFront 0 (messages s.peer.endpoint) (0 + length s.peer.heard) t) h.carries.down (down.front w.epoch h.session_link h.is_at);
    }

-- ---- the present links

-- so much of a text behind a place, and of it all
take_less : (t : List ℕ) (a b : ℕ) → a ≡ b → take a t ≡ take b t
take_less t a b same = ap (λ (n : ℕ). take n t) same

take_nothing : (k : ℕ) → ◌≡◌ {A = List ℕ} [] (take k [])
take_nothing zero = refl
take_nothing (suc k) = refl

take_behind : (d r : ℕ) (text : List ℕ) → drop d (take r text) ≡ take (r - d) (drop d text)
take_behind zero r text = take_less text r (r - zero) (omega arith)
take_behind (suc d) zero text = take_less (drop (suc d) text) zero (zero - suc d) (omega arith)
take_behind (suc d) (suc r) [] = take_nothing (suc r - suc d)
take_behind (suc d) (suc r) (x ∷ xs) = take_behind d r xs ∙ take_less (drop d xs) (r - d) (suc r - suc d) (omega arith)

take_past : (p t : List ℕ) (k : ℕ) → take (length p + k) (p ++ t) ≡ p ++ take k t
take_past [] t k = take_less t (0 + k) k (omega arith)
take_past (x ∷ xs) t k = take_less (x ∷ (xs ++ t)) (length (x ∷ xs) + k) (suc (length xs + k)) (omega arith) ∙ ap (λ (l : List ℕ). x ∷ l) (take_past xs t k)

-- what was read of the session's link, by what was read of the link
read_of_session_link : (p t text : List ℕ) (d r n : ℕ) → text ≡ p ++ drop d t → n + d ≡ length p + r → d ≤ r → take n text ≡ p ++ drop d (take r t)
read_of_session_link p t text d r n is sum behind =
    ap (λ (x : List ℕ). take n x) is
    ∙ ap (λ (k : ℕ). take k (p ++ drop d t)) (omega (arith, sum, behind))
    ∙ take_past p (drop d t) (r - d)
    ∙ ap (λ (x : List ℕ). p ++ x) (sym (take_behind d r t))

-- the client, attached on its last link
pub client_holds : (s : Session) (o : Option Row) (c : Client) (part : PartHolds (Some s) o c) (n : ℕ) (l : GrandLink) (w : Welcome)
    → slice_get c.links n ≡ Some l → l.server.welcome ≡ Some w → IsAttached c part.session_links part.number l → c.dialer.session.cause ≡ None
    → HoldsLink (messages c.dialer.session.peer.endpoint) c.dialer.session.peer (text_up w l) (read_down w l) l.link.is_cut
client_holds s o c part n l w there is attached running =
    let h = welcome_of s o c part n l w there is in
    let same : attached.welcome ≡ w = there_is (sym attached.is_there ∙ is) in
    let number : w.epoch ≡ part.number = ap (λ (x : Welcome). x.epoch) (sym same) ∙ attached.is_number in
    let at : at_number part.session_links part.number ≡ Some h.session_link = ap (λ (k : ℕ). at_number part.session_links k) (sym number) ∙ h.is_at in
    let v = view_with s o c part in
    let up = writes_honestly v in
    let down = reads_in_frames v in record {
      whole = λ kept linked.
          subst (λ (t : List ℕ). IsJoining 0 (messages c.dialer.session.peer.endpoint) (0 + length c.dialer.session.peer.heard) (t ++ c.dialer.session.peer.endpoint.unwritten)) h.carries.up
          (up.whole h.session_link at (h.carries.cut ∙ kept) linked);
      carry = λ linked.
          sym (read_of_session_link w.pause l.link.to_a.written h.session_link.to_a.written w.down l.link.to_a.read h.session_link.to_a.read h.carries.down
          (subst (λ (x : Welcome). h.session_link.to_a.read + x.down ≡ length x.pause + l.link.to_a.read) same (attached.read running h.session_link at))
          (subst (λ (x : Welcome). x.down ≤ l.link.to_a.read) same attached.behind))
          ∙ down.carry h.session_link at linked;
    }

-- the server, on the present link of its session
pub server_holds : (s : Session) (o : Option Row) (c : Client) (part : PartHolds (Some s) o c) (n : ℕ) (l : GrandLink) (w : Welcome) (seat : Seat)
    → slice_get c.links n ≡ Some l → l.server.welcome ≡ Some w → IsSeated c.key part.session_links part.present l seat → seat.epoch ≡ s.peer.endpoint.epoch
    → HoldsLink (messages s.peer.endpoint) s.peer (text_down w l) (read_up w l) l.link.is_cut
server_holds s o c part n l w seat there is seated present =
    let h = welcome_of s o c part n l w there is in
    let same : seated.welcome ≡ w = there_is (sym seated.is_there ∙ is) in
    let mine : seat.epoch ≡ part.present = present ∙ part.server.1 in
    let number : w.epoch ≡ part.present = ap (λ (x : Welcome). x.epoch) (sym same) ∙ sym seated.number ∙ mine in
    let at : at_number part.session_links part.present ≡ Some h.session_link = ap (λ (k : ℕ). at_number part.session_links k) (sym number) ∙ h.is_at in
    let v = back_with s o c part in
    let down = writes_honestly v in
    let up = reads_in_frames v in record {
      whole = λ kept linked.
          subst (λ (t : List ℕ). IsJoining 0 (messages s.peer.endpoint) (0 + length s.peer.heard) (t ++ s.peer.endpoint.unwritten)) h.carries.down
          (down.whole h.session_link at (h.carries.cut ∙ kept) linked);
      carry = λ linked.
          sym (read_of_session_link [] l.link.to_b.written h.session_link.to_b.written w.up l.link.to_b.read h.session_link.to_b.read h.carries.up
          (as_sum (h.session_link.to_b.read + w.up) l.link.to_b.read (subst (λ (x : Welcome). h.session_link.to_b.read + x.up ≡ l.link.to_b.read) same (seated.read mine h.session_link at)))
          (at_least (h.session_link.to_b.read) w.up l.link.to_b.read (subst (λ (x : Welcome). h.session_link.to_b.read + x.up ≡ l.link.to_b.read) same (seated.read mine h.session_link at))))
          ∙ up.carry h.session_link at linked;
    }
  where
    as_sum : (a k : ℕ) → a ≡ k → a ≡ 0 + k
    as_sum a k same = omega (arith, same)

    at_least : (a b k : ℕ) → a + b ≡ k → b ≤ k
    at_least a b k sum = omega (arith, sum)
