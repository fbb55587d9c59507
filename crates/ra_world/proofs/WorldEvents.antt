-- What the events of a world in memory stand for.
use Rattle.std.proofs.Common.{◌≡◌, ℕ, ◌+◌, max, Option, Some, None, Result, Ok, Err, OnOk, List, [], ◌∷◌, ◌++◌, length, take, length-take, length-append, refl, ap, sym, ◌∙◌, subst, arith}
use Rattle.std.specs.Prelude.{◌≢◌, IfOk}
use Rattle.ra_base.specs.declared.event.Side.{Side}
use Rattle.ra_base.specs.declared.event.Side.TheVariants.{A, B}
use Rattle.ra_base.specs.declared.event.Count.{Count}
use Rattle.ra_base.specs.declared.event.Count.TheVariants.{All}
use Rattle.ra_base.specs.declared.event.Event.{Event}
use Rattle.ra_base.specs.declared.event.Event.TheVariants.{Link as LinkMade, At, Begin, Write, Read, Cut}
use Rattle.ra_model.specs.declared.effect.Effect.{Effect}
use Rattle.ra_model.specs.declared.effect.Effect.TheVariants.{Link as Linked, Done, Wrote, Read as ReadBytes}
use Rattle.ra_model.specs.declared.fault.EventFault.{EventFault}
use Rattle.ra_model.specs.declared.fault.EventFault.TheVariants.{NoMemory as WantOfMemory}
use Rattle.ra_model.specs.EndpointStates.{EndpointState, StandsFor}
use Rattle.ra_model.specs.Endpoints.{Endpoint, shown}
use Rattle.ra_model.specs.Calls.{feed, wrote}
use Rattle.ra_model.specs.Links.{Link, new_link, other, at_number, put_number, amount, readable, read_on, cut_off}
use Rattle.ra_model.specs.Worlds.{Peer, World, peer, with_peer, with_links}
use Rattle.ra_model.specs.Refusals.{or_fault, at_end, begin_refusal, feed_refusal, if_many, read_refusal, refusal}
use Rattle.ra_model.specs.Events.{begun, begins, reads, read_count, links_written, cuts, happens, unless, after, effect}
use Rattle.ra_model.specs.Views.{called}
use Rattle.ra_model.proofs.Runs.{called_over}
use Rattle.ra_proto.specs.Shown.{shown_of}
use Rattle.ra_world.specs.Chosen.{IsChosen, HasUnread}
use Rattle.ra_world.specs.EndEvents.{end_refusal, end_happens, end_effect}
use Rattle.ra_world.specs.Outcomes.{Answers, RefusedBy}
use Rattle.ra_world.specs.WorldStates.{PeerState, PeersState, WorldState, StandsForPeer, StandsForWorld, side_of, peer_of}

-- the state with these peers and these links
abbrev pub placed : WorldState → PeersState → List Link → WorldState
placed s peers links = record { moment = s.moment; a = peers.a; b = peers.b; links = links }

-- from the same cause and effect, another consequence
answers_then : (r : Result Effect EventFault) (cause : Option EventFault) (e : Effect) (T U : Type 0) → (T → U) → Answers r cause e T → Answers r cause e U
answers_then (Ok answer) cause e T U f h = (h.0, h.1, f h.2)
answers_then (Err fault) cause e T U f h = h

pub stands_peer : (side : Side) (s : WorldState) (w : World) → StandsForWorld s w → StandsForPeer (peer_of side s) (peer side w)
stands_peer A s w t = t.a
stands_peer B s w t = t.b

stands_placed : (side : Side) (s : WorldState) (peers : PeersState) (p : Peer) (links more : List Link) (w : World) → StandsForWorld s w → StandsForPeer (side_of side peers) p → side_of (other side) peers ≡ peer_of (other side) s → links ≡ more
    → StandsForWorld (placed s peers links) (with_peer side p (with_links more w))
stands_placed A s peers p links more w t here there is = record { moment = t.moment; a = here; b = subst (λ (x : PeerState). StandsForPeer x w.b) (sym there) t.b; links = is }
stands_placed B s peers p links more w t here there is = record { moment = t.moment; a = subst (λ (x : PeerState). StandsForPeer x w.a) (sym there) t.a; b = here; links = is }

-- an event of one end alone
pub end_answers : (side : Side) (event : Event) (s : WorldState) (peers : PeersState) (r : Result Effect EventFault)
    → ((p : Peer) → StandsForPeer (peer_of side s) p → Answers r (end_refusal event p) (end_effect event s.moment p) (StandsForPeer (side_of side peers) (end_happens event s.moment p)))
    → side_of (other side) peers ≡ peer_of (other side) s → (w : World) → StandsForWorld s w
    → Answers r (end_refusal event (peer side w)) (end_effect event w.now (peer side w)) (StandsForWorld (placed s peers s.links) (with_peer side (end_happens event w.now (peer side w)) w))
end_answers side event s peers r does there w t =
    subst (λ (n : ℕ). Answers r (end_refusal event (peer side w)) (end_effect event n (peer side w)) (StandsForWorld (placed s peers s.links) (with_peer side (end_happens event n (peer side w)) w))) t.moment
    (answers_then r _ _ _ _ (λ stands. stands_placed side s peers (end_happens event s.moment (peer side w)) s.links w.links w t stands there t.links) (does (peer side w) (stands_peer side s w t)))

-- a fault that comes before others
first_refused : (fault : EventFault) (first next : Option EventFault) → first ≡ Some fault → or_fault first next ≡ Some fault
first_refused fault first next is = ap (λ (f : Option EventFault). or_fault f next) is

-- a read of a link that is refused
pub begin_refused : (side : Side) (link : ℕ) (count : Count) (s : WorldState) (fault : EventFault) → (fault ≢ WantOfMemory → read_refusal side count link (at_number s.links link) ≡ Some fault) → (w : World) → StandsForWorld s w → fault ≢ WantOfMemory → refusal w (Begin side link count) ≡ Some fault
unfolding refusal
begin_refused side link count s fault refused w t told =
    first_refused fault _ _ (ap (λ (ls : List Link). read_refusal side count link (at_number ls link)) (sym t.links) ∙ refused told)

pub read_refused : (side : Side) (link : ℕ) (count : Count) (s : WorldState) (fault : EventFault) → (fault ≢ WantOfMemory → read_refusal side count link (at_number s.links link) ≡ Some fault) → (w : World) → StandsForWorld s w → fault ≢ WantOfMemory → refusal w (Read side link count) ≡ Some fault
unfolding refusal
read_refused side link count s fault refused w t told =
    first_refused fault _ _ (ap (λ (ls : List Link). read_refusal side count link (at_number ls link)) (sym t.links) ∙ refused told)

pub cut_refused : (link : ℕ) (s : WorldState) (fault : EventFault) → (fault ≢ WantOfMemory → read_refusal A All link (at_number s.links link) ≡ Some fault) → (w : World) → StandsForWorld s w → fault ≢ WantOfMemory → refusal w (Cut link) ≡ Some fault
unfolding refusal
cut_refused link s fault refused w t told = ap (λ (ls : List Link). read_refusal A All link (at_number ls link)) (sym t.links) ∙ refused told

-- what was chosen of the links in memory is chosen of those of the world
chosen_of : (side : Side) (link : ℕ) (count : Count) (bytes : List ℕ) (l : Link) (s : WorldState) (w : World) → StandsForWorld s w → IsChosen s.links side count link bytes l → at_number w.links link ≡ Some l
chosen_of side link count bytes l s w t chosen = ap (λ (ls : List Link). at_number ls link) (sym t.links) ∙ chosen.found

-- the bytes that are read are there, so the read is not refused
there_then : (X : Option EventFault) (first : Option EventFault) (r : Result Effect EventFault) (e : Effect) (T : Type 0) → first ≡ None → Answers r X e T → Answers r (or_fault first X) e T
there_then X first r e T is h = subst (λ (f : Option EventFault). Answers r (or_fault f X) e T) (sym is) h

pub begin_answers : (side : Side) (link : ℕ) (count : Count) (bytes : List ℕ) (l : Link) (s : WorldState) (peers : PeersState) (links : List Link) (r : Result Effect EventFault) → IsChosen s.links side count link bytes l
    → ((p : Peer) → StandsForPeer (peer_of side s) p → Answers r (at_end (begin_refusal link p.endpoint)) Done (StandsForPeer (side_of side peers) (begun link bytes s.moment p)))
    → side_of (other side) peers ≡ peer_of (other side) s → links ≡ put_number s.links link (read_on side (length bytes) l) → (w : World) → StandsForWorld s w
    → Answers r (refusal w (Begin side link count)) (effect w (Begin side link count)) (StandsForWorld (placed s peers links) (happens (Begin side link count) w))
unfolding refusal effect happens
begin_answers side link count bytes l s peers links r chosen does there is w t =
    let p : Peer = peer side w in
    let n : ℕ = amount count (length (readable side l)) in
    let more : links ≡ put_number w.links link (read_on side n l) =
    is ∙ ap (λ (k : ℕ). put_number s.links link (read_on side k l)) chosen.count_is ∙ ap (λ (ls : List Link). put_number ls link (read_on side n l)) t.links in
    subst (λ (found : Option Link). Answers r (or_fault (read_refusal side count link found) (at_end (begin_refusal link p.endpoint))) Done (StandsForWorld (placed s peers links) (begins side link count found w))) (sym (chosen_of side link count bytes l s w t chosen))
    (there_then (at_end (begin_refusal link p.endpoint)) (if_many count (length (readable side l))) r Done _ chosen.there
    (subst (λ (m : ℕ). Answers r (at_end (begin_refusal link p.endpoint)) Done (StandsForWorld (placed s peers links) (with_peer side (begun link (take n (readable side l)) m p) (with_links (put_number w.links link (read_on side n l)) w)))) t.moment
    (subst (λ (b : List ℕ). Answers r (at_end (begin_refusal link p.endpoint)) Done (StandsForWorld (placed s peers links) (with_peer side (begun link b s.moment p) (with_links (put_number w.links link (read_on side n l)) w)))) chosen.bytes_are
    (answers_then r _ _ _ _ (λ stands. stands_placed side s peers (begun link bytes s.moment p) links (put_number w.links link (read_on side n l)) w t stands there more) (does p (stands_peer side s w t))))))

pub read_answers : (side : Side) (link : ℕ) (count : Count) (bytes : List ℕ) (l : Link) (s : WorldState) (peers : PeersState) (links : List Link) (r : Result Effect EventFault) → IsChosen s.links side count link bytes l
    → ((p : Peer) → StandsForPeer (peer_of side s) p → Answers r (at_end (feed_refusal link p.endpoint)) (ReadBytes (length bytes)) (StandsForPeer (side_of side peers) (called (feed link bytes s.moment) p)))
    → side_of (other side) peers ≡ peer_of (other side) s → links ≡ put_number s.links link (read_on side (length bytes) l) → (w : World) → StandsForWorld s w
    → Answers r (refusal w (Read side link count)) (ReadBytes (length bytes)) (StandsForWorld (placed s peers links) (happens (Read side link count) w))
unfolding refusal happens
read_answers side link count bytes l s peers links r chosen does there is w t =
    let p : Peer = peer side w in
    let n : ℕ = amount count (length (readable side l)) in
    let ls : List Link = put_number w.links link (read_on side n l) in
    let more : links ≡ ls =
    is ∙ ap (λ (k : ℕ). put_number s.links link (read_on side k l)) chosen.count_is ∙ ap (λ (ls : List Link). put_number ls link (read_on side n l)) t.links in
    subst (λ (found : Option Link). Answers r (or_fault (read_refusal side count link found) (at_end (feed_refusal link p.endpoint))) (ReadBytes (length bytes)) (StandsForWorld (placed s peers links) (reads side link count found w))) (sym (chosen_of side link count bytes l s w t chosen))
    (there_then (at_end (feed_refusal link p.endpoint)) (if_many count (length (readable side l))) r (ReadBytes (length bytes)) _ chosen.there
    (subst (λ (x : World). Answers r (at_end (feed_refusal link p.endpoint)) (ReadBytes (length bytes)) (StandsForWorld (placed s peers links) x)) (sym (called_over side w (feed link (take n (readable side l)) w.now) ls))
    (subst (λ (m : ℕ). Answers r (at_end (feed_refusal link p.endpoint)) (ReadBytes (length bytes)) (StandsForWorld (placed s peers links) (with_peer side (called (feed link (take n (readable side l)) m) p) (with_links ls w)))) t.moment
    (subst (λ (b : List ℕ). Answers r (at_end (feed_refusal link p.endpoint)) (ReadBytes (length bytes)) (StandsForWorld (placed s peers links) (with_peer side (called (feed link b s.moment) p) (with_links ls w)))) chosen.bytes_are
    (answers_then r _ _ _ _ (λ stands. stands_placed side s peers (called (feed link bytes s.moment) p) links ls w t stands there more) (does p (stands_peer side s w t)))))))

pub read_effect : (side : Side) (link : ℕ) (count : Count) (bytes : List ℕ) (l : Link) (s : WorldState) → IsChosen s.links side count link bytes l → (w : World) → StandsForWorld s w → ReadBytes (length bytes) ≡ effect w (Read side link count)
unfolding effect
read_effect side link count bytes l s chosen w t =
    ap ReadBytes (chosen.count_is ∙ sym (ap (λ (found : Option Link). read_count side count found) (chosen_of side link count bytes l s w t chosen)))

pub read_does : (side : Side) (link : ℕ) (count : Count) (bytes : List ℕ) (l : Link) (s : WorldState) (peers : PeersState) (links : List Link) (r : Result Effect EventFault) → IsChosen s.links side count link bytes l
    → ((p : Peer) → StandsForPeer (peer_of side s) p → Answers r (at_end (feed_refusal link p.endpoint)) (ReadBytes (length bytes)) (StandsForPeer (side_of side peers) (called (feed link bytes s.moment) p)))
    → side_of (other side) peers ≡ peer_of (other side) s → links ≡ put_number s.links link (read_on side (length bytes) l) → (w : World) → StandsForWorld s w
    → Answers r (refusal w (Read side link count)) (effect w (Read side link count)) (StandsForWorld (placed s peers links) (happens (Read side link count) w))
read_does side link count bytes l s peers links r chosen does there is w t =
    subst (λ (e : Effect). Answers r (refusal w (Read side link count)) e (StandsForWorld (placed s peers links) (happens (Read side link count) w))) (read_effect side link count bytes l s chosen w t)
    (read_answers side link count bytes l s peers links r chosen does there is w t)

-- a link was chosen, so a side can read that much of it
pub has_unread : (links : List Link) (side : Side) (count : Count) (link : ℕ) (bytes : List ℕ) (l : Link) → IsChosen links side count link bytes l → HasUnread links side link (length bytes)
has_unread links side count link bytes l chosen =
    (l, chosen.found, omega (arith, ap length chosen.bytes_are, length-take (amount count (length (readable side l))) (readable side l)))

-- the links once a link is cut
pub cut_answers : (link : ℕ) (s : WorldState) (peers : PeersState) (links : List Link) → peers ≡ record { a = s.a; b = s.b } → read_refusal A All link (at_number s.links link) ≡ None
    → ((l : Link) → at_number s.links link ≡ Some l → links ≡ put_number s.links link (cut_off l)) → (w : World) → StandsForWorld s w
    → (refusal w (Cut link) ≡ None) × (Done ≡ effect w (Cut link)) × StandsForWorld (record { moment = s.moment; a = s.a; b = s.b; links = links }) (happens (Cut link) w)
unfolding refusal effect happens
cut_answers link s peers links same free more w t =
    let free' : read_refusal A All link (at_number w.links link) ≡ None = subst (λ (ls : List Link). read_refusal A All link (at_number ls link) ≡ None) t.links free in
    (free', refl, go (at_number w.links link) refl free')
  where
    go : (found : Option Link) → at_number w.links link ≡ found → read_refusal A All link found ≡ None → StandsForWorld (record { moment = s.moment; a = s.a; b = s.b; links = links }) (cuts link found w)
    go None is free = cc
    go (Some l) is free =
        let here : at_number s.links link ≡ Some l = ap (λ (ls : List Link). at_number ls link) t.links ∙ is in
        record { moment = t.moment; a = t.a; b = t.b; links = more l here ∙ ap (λ (ls : List Link). put_number ls link (cut_off l)) t.links }

pub link_answers : (s : WorldState) (links : List Link) → links ≡ s.links ++ new_link ∷ [] → (n : ℕ) → n ≡ length links → (w : World) → StandsForWorld s w
    → (refusal w LinkMade ≡ None) × (Linked n ≡ effect w LinkMade) × StandsForWorld (record { moment = s.moment; a = s.a; b = s.b; links = links }) (happens LinkMade w)
unfolding refusal effect happens
link_answers s links is n count w t = (
  refl,
  ap Linked (count ∙ ap length is ∙ length-append s.links (new_link ∷ []) ∙ ap (λ (ls : List Link). length ls + 1) t.links),
  record { moment = t.moment; a = t.a; b = t.b; links = is ∙ ap (λ (ls : List Link). ls ++ new_link ∷ []) t.links },
)

pub at_answers : (s : WorldState) (moment now : ℕ) → moment ≡ max s.moment now → (w : World) → StandsForWorld s w
    → (refusal w (At now) ≡ None) × (Done ≡ effect w (At now)) × StandsForWorld (record { moment = moment; a = s.a; b = s.b; links = s.links }) (happens (At now) w)
unfolding refusal effect happens
at_answers s moment now is w t = (refl, refl, record { moment = is ∙ ap (λ (n : ℕ). max n now) t.moment; a = t.a; b = t.b; links = t.links })

-- what may go out of an endpoint in memory is what may go out of the endpoints that it stands for
shown_is : (s : EndpointState) (e : Endpoint) → StandsFor s e → shown_of s ≡ shown e
shown_is s e t = sym (ap shown t.same)

module _ (side : Side) (count : Count) (s : WorldState) (out : List ℕ) (is : out ≡ shown_of (peer_of side s).endpoint) where
  pub write_refused : (fault : EventFault) → (fault ≢ WantOfMemory → if_many count (length out) ≡ Some fault) → (w : World) → StandsForWorld s w → fault ≢ WantOfMemory → refusal w (Write side count) ≡ Some fault
  unfolding refusal
  write_refused fault refused w t told =
      ap (λ (b : List ℕ). if_many count (length b)) (sym (is ∙ shown_is _ _ (stands_peer side s w t).endpoint)) ∙ refused told

  pub write_answers : (peers : PeersState) (links : List Link) (bytes : List ℕ) (n present : ℕ) → if_many count (length out) ≡ None → n ≡ amount count (length out) → bytes ≡ take n out → present ≡ (peer_of side s).endpoint.epoch
      → links ≡ links_written side bytes present (at_number s.links present) s.links
      → ((p : Peer) → StandsForPeer (peer_of side s) p → StandsForPeer (side_of side peers) (called (wrote n) p)) → side_of (other side) peers ≡ peer_of (other side) s → (w : World) → StandsForWorld s w
      → (refusal w (Write side count) ≡ None) × (Wrote bytes ≡ effect w (Write side count)) × StandsForWorld (placed s peers links) (happens (Write side count) w)
  unfolding refusal effect happens
  write_answers peers links bytes n present free amount_is bytes_are here more does there w t =
      let e : Endpoint = (peer side w).endpoint in
      let stands : StandsFor (peer_of side s).endpoint e = (stands_peer side s w t).endpoint in
      let shows : out ≡ shown e = is ∙ shown_is _ _ stands in
      let number : present ≡ e.epoch = here ∙ sym (ap (λ (x : Endpoint). x.epoch) stands.same) in
      let m : ℕ = amount count (length (shown e)) in
      let moved : n ≡ m = amount_is ∙ ap (λ (b : List ℕ). amount count (length b)) shows in
      let written : bytes ≡ take m (shown e) = bytes_are ∙ ap (λ (k : ℕ). take k out) moved ∙ ap (λ (b : List ℕ). take m b) shows in
      let ls : List Link = links_written side (take m (shown e)) e.epoch (at_number w.links e.epoch) w.links in
      let more' : links ≡ ls = more ∙ ap (λ (b : List ℕ). links_written side b present (at_number s.links present) s.links) written
      ∙ ap (λ (k : ℕ). links_written side (take m (shown e)) k (at_number s.links k) s.links) number
      ∙ ap (λ (xs : List Link). links_written side (take m (shown e)) e.epoch (at_number xs e.epoch) xs) t.links in (
        ap (λ (b : List ℕ). if_many count (length b)) (sym shows) ∙ free,
        ap Wrote written,
        subst (λ (x : World). StandsForWorld (placed s peers links) x) (sym (called_over side w (wrote m) ls))
            (stands_placed side s peers (called (wrote m) (peer side w)) links ls w t (subst (λ (k : ℕ). StandsForPeer (side_of side peers) (called (wrote k) (peer side w))) moved (does (peer side w) (stands_peer side s w t))) there more'),
      )

-- what an event does is what holds after it
after_free : (event : Event) (w : World) → refusal w event ≡ None → happens event w ≡ after event w
after_free event w free = ap (λ (f : Option EventFault). unless f (happens event w) w) (sym free)

module _ (event : Event) (s s' : WorldState) where
  abbrev DoesEvent : Result Effect EventFault → Type 0
  DoesEvent r = (w : World) → StandsForWorld s w → Answers r (refusal w event) (effect w event) (StandsForWorld s' (happens event w))

  pub stands_after : (r : Result Effect EventFault) → DoesEvent r → OnOk r ((w : World) → StandsForWorld s w → StandsForWorld s' (after event w))
  stands_after (Ok answer) does = λ w t. subst (λ (x : World). StandsForWorld s' x) (after_free event w (does w t).0) (does w t).2
  stands_after (Err fault) does = tt

  pub effect_is : (r : Result Effect EventFault) → DoesEvent r → IfOk r (λ answer. (w : World) → StandsForWorld s w → answer ≡ effect w event)
  effect_is (Ok answer) does = λ w t. (does w t).1
  effect_is (Err fault) does = tt

  pub refused_by : (r : Result Effect EventFault) → DoesEvent r → (w : World) → StandsForWorld s w → RefusedBy r (refusal w event)
  refused_by (Ok answer) does w t = (does w t).0
  refused_by (Err fault) does w t = does w t
