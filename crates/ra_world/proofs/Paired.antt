-- What holds between the two sides of a world in memory that stands for a run.
use Rattle.std.proofs.Common.{◌≡◌, ℕ, ◌+◌, ◌≤◌, Some, List, ◌++◌, length, refl, ap, sym, ◌∙◌, subst}
use Rattle.std.specs.Prelude.{slice_get}
use Rattle.ra_base.specs.declared.event.Side.{Side}
use Rattle.ra_base.specs.declared.event.Event.{Event}
use Rattle.ra_model.specs.declared.session.Entry.{Entry}
use Rattle.ra_model.specs.Frames.{joined, last_id}
use Rattle.ra_model.specs.Endpoints.{Endpoint, is_linked, sent}
use Rattle.ra_model.specs.Links.{other, Link, direction_to, at_number}
use Rattle.ra_model.specs.Worlds.{Peer, World, new_world, peer}
use Rattle.ra_model.specs.Events.{run}
use Rattle.ra_model.specs.Pairs.{messages, with_id, IsPrefixOf, IsFront, IsJoining, IsLater, HearsInOrder, KeepsUnheard, WritesHonestly, ReadsInFrames}
use Rattle.ra_model.proofs.EveryRun as every
use Rattle.ra_model.proofs.Later as risen
use Rattle.ra_world.specs.PairedWorlds.{HearsFrom, KeepsFor, WritesTo, ReadsOf, IsPaired, TakesNothingBack, KeepsAllOf}
use Rattle.ra_world.specs.WorldStates.{PeerState, WorldState, StandsForPeer, StandsForWorld, peer_of}
use Rattle.ra_world.proofs.WorldEvents.{stands_peer}

module _ (s : PeerState) (p : Peer) (t : StandsForPeer s p) where
  pub received_is : s.endpoint.received ≡ p.endpoint.received
  received_is = sym (ap (λ (e : Endpoint). e.received) t.endpoint.same)

  pub acknowledged_is : s.endpoint.acknowledged ≡ p.endpoint.acknowledged
  acknowledged_is = sym (ap (λ (e : Endpoint). e.acknowledged) t.endpoint.same)

hears : (base : ℕ) (s o : PeerState) (p q : Peer) → StandsForPeer s p → StandsForPeer o q → HearsInOrder base q p → HearsFrom base o s
hears base s o p q t u h = record {
  prefix = subst (λ (x : List (List ℕ)). IsPrefixOf x o.said) (sym t.heard) (subst (λ (x : List (List ℕ)). IsPrefixOf p.heard x) (sym u.said) h.prefix);
  received = received_is s p t ∙ h.received ∙ ap (λ (x : List (List ℕ)). base + length x) (sym t.heard);
}

keeps : (base : ℕ) (s o : PeerState) (p q : Peer) → StandsForPeer s p → StandsForPeer o q → q.endpoint.base ≡ base → KeepsUnheard base q p → KeepsFor base o s
keeps base s o p q t u is h = record {
  acknowledged = subst (λ (x : List (List ℕ)). o.endpoint.acknowledged ≤ base + length x) (sym t.heard) (subst (λ (n : ℕ). n ≤ base + length p.heard) (sym (acknowledged_is o q u)) h.acknowledged);
  sent = u.endpoint.sent ∙ h.sent ∙ ap (λ (x : List (List ℕ)). base + length x) (sym u.said);
  all = ap (λ (n : ℕ). n + length o.endpoint.queue) (acknowledged_is o q u) ∙ ap (λ (x : List Entry). q.endpoint.acknowledged + length x) u.endpoint.queue ∙ h.queue.all ∙ sym u.endpoint.sent;
  id = λ k entry at. h.queue.id k entry (ap (λ (x : List Entry). slice_get x k) (sym u.endpoint.queue) ∙ at) ∙ ap (λ (n : ℕ). n + 1 + k) (sym (acknowledged_is o q u));
  body = λ k entry at.
      subst (λ (b : ℕ). with_id b o.said entry.id ≡ Some entry.body) is
      (subst (λ (x : List (List ℕ)). with_id q.endpoint.base x entry.id ≡ Some entry.body) (sym u.said) (h.queue.body k entry (ap (λ (x : List Entry). slice_get x k) (sym u.endpoint.queue) ∙ at)));
}

module _ (base : ℕ) (o : PeerState) (q : Peer) (u : StandsForPeer o q) where
  front_is : (text : List ℕ) → IsFront base (messages q.endpoint) (base + length q.heard) text → IsFront base o.said (base + length o.heard) text
  front_is text h = subst (λ (x : List (List ℕ)). IsFront base o.said (base + length x) text) (sym u.heard) (subst (λ (x : List (List ℕ)). IsFront base x (base + length q.heard) text) (sym u.said) h)

  joining_is : (text : List ℕ) → IsJoining base (messages q.endpoint) (base + length q.heard) text → IsJoining base o.said (base + length o.heard) text
  joining_is text h = subst (λ (x : List (List ℕ)). IsJoining base o.said (base + length x) text) (sym u.heard) (subst (λ (x : List (List ℕ)). IsJoining base x (base + length q.heard) text) (sym u.said) h)

  writes : (side : Side) (links : List Link) → WritesHonestly base side q.endpoint.epoch q links → WritesTo base side o links
  writes side links h = record {
    front = λ n link at. front_is _ (h.front n link at);
    whole = λ link at kept up.
        subst (λ (x : Endpoint). IsJoining base o.said (base + length o.heard) ((direction_to side link).written ++ x.unwritten)) u.endpoint.same
        (joining_is _ (h.whole link (ap (λ (x : Endpoint). at_number links x.epoch) u.endpoint.same ∙ at) kept (ap (λ (x : Endpoint). is_linked x.phase) u.endpoint.same ∙ up)));
  }

reads : (side : Side) (s : PeerState) (p : Peer) (links : List Link) → StandsForPeer s p → ReadsInFrames side p.endpoint.epoch p links → ReadsOf side s p.applied links
reads side s p links t h = record {
  inside = h.inside;
  each = h.each;
  carry = λ link at up.
      h.carry link (ap (λ (x : Endpoint). at_number links x.epoch) t.endpoint.same ∙ at) (ap (λ (x : Endpoint). is_linked x.phase) t.endpoint.same ∙ up)
      ∙ ap (λ (x : Endpoint). joined p.applied ++ x.unread) t.endpoint.same;
}

pub paired : (base : ℕ) (events : List Event) (s : WorldState) → base ≤ last_id → StandsForWorld s (run events (new_world base)) → IsPaired base s (run events (new_world base))
paired base events s fits t =
    let w : World = run events (new_world base) in
    record {
      heard = λ side. hears base _ _ (peer side w) (peer (other side) w) (stands_peer side s w t) (stands_peer (other side) s w t) (every.heard base events side fits);
      kept = λ side. keeps base _ _ (peer side w) (peer (other side) w) (stands_peer side s w t) (stands_peer (other side) s w t) (every.view_of base events side fits).their_base (every.kept base events side fits);
      written = λ side.
          subst (λ (ls : List Link). WritesTo base side (peer_of (other side) s) ls) (sym t.links)
          (writes base _ (peer (other side) w) (stands_peer (other side) s w t) side w.links (every.written base events side fits));
      read = λ side.
          subst (λ (ls : List Link). ReadsOf side (peer_of side s) (peer side w).applied ls) (sym t.links)
          (reads side _ (peer side w) w.links (stands_peer side s w t) (every.read base events side fits));
    }

keeps_all : (p q : Peer) (s : PeerState) → IsLater p q → StandsForPeer s q → KeepsAllOf p s
keeps_all p q s later t = record {
  said = subst (λ (x : List (List ℕ)). IsPrefixOf (messages p.endpoint) x) (sym t.said) later.said;
  heard = subst (λ (x : List (List ℕ)). IsPrefixOf p.heard x) (sym t.heard) later.heard;
  sent = subst (λ (n : ℕ). sent p.endpoint ≤ n) (sym t.endpoint.sent) later.sent;
  received = subst (λ (n : ℕ). p.endpoint.received ≤ n) (sym (received_is s q t)) later.received;
  acknowledged = subst (λ (n : ℕ). p.endpoint.acknowledged ≤ n) (sym (acknowledged_is s q t)) later.acknowledged;
}

-- what a peer in memory stood for is kept, so what it had is
since : (s after : PeerState) (p : Peer) → StandsForPeer s p → KeepsAllOf p after → TakesNothingBack s after
since s after p t k = record {
  said = subst (λ (x : List (List ℕ)). IsPrefixOf x after.said) (sym t.said) k.said;
  heard = subst (λ (x : List (List ℕ)). IsPrefixOf x after.heard) (sym t.heard) k.heard;
  sent = subst (λ (n : ℕ). n ≤ after.endpoint.sent) (sym t.endpoint.sent) k.sent;
  received = subst (λ (n : ℕ). n ≤ after.endpoint.received) (sym (received_is s p t)) k.received;
  acknowledged = subst (λ (n : ℕ). n ≤ after.endpoint.acknowledged) (sym (acknowledged_is s p t)) k.acknowledged;
}

pub keeps_front : (base : ℕ) (events front rest : List Event) (s : WorldState) → front ++ rest ≡ events → StandsForWorld s (run events (new_world base)) → (side : Side) → KeepsAllOf (peer side (run front (new_world base))) (peer_of side s)
keeps_front base events front rest s is t side =
    keeps_all _ _ _ (subst (λ (es : List Event). IsLater (peer side (run front (new_world base))) (peer side (run es (new_world base)))) is (risen.later base front rest side)) (stands_peer side s (run events (new_world base)) t)

pub takes_nothing_back : (base : ℕ) (events more : List Event) (before after : WorldState) → StandsForWorld before (run events (new_world base)) → StandsForWorld after (run (events ++ more) (new_world base)) → (side : Side) → TakesNothingBack (peer_of side before) (peer_of side after)
takes_nothing_back base events more before after t u side =
    since _ _ _ (stands_peer side before (run events (new_world base)) t) (keeps_front base (events ++ more) events more after refl u side)
