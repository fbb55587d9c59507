-- Two endpoints, in every run.
use Rattle.std.proofs.Common.{◌≡◌, ℕ, zero, suc, ◌+◌, ◌-◌, ◌≤◌, Some, List, [], ◌∷◌, ◌++◌, length, map, drop, refl, ap, sym, subst, arith}
use Rattle.std.specs.Prelude.{slice_get}
use Rattle.std.proofs.lemmas.Option.{same_Some}
use Rattle.std.proofs.lemmas.List.{length-append, length-map, length-drop}
use Rattle.ra_model.specs.Frames.{last_id}
use Rattle.ra_model.specs.Endpoints.{Endpoint, SaidMessage, acknowledged_count, numbered, owed, sent}
use Rattle.ra_model.specs.declared.session.Entry.{Entry}
use Rattle.ra_model.specs.Links.{other, Link, direction_to, at_number}
use Rattle.ra_model.specs.Worlds.{Peer, new_world, peer}
use Rattle.ra_model.specs.Events.{run}
use Rattle.ra_base.specs.declared.event.Side.{Side}
use Rattle.ra_base.specs.declared.event.Event.{Event}
use Rattle.ra_base.specs.declared.event.Side.TheVariants.{A, B}
use Rattle.ra_model.specs.Pairs.{body_of, messages, with_id, IsFront, IsJoining, IsUngapped, HearsInOrder, KeepsUnheard, WritesHonestly, ReadsInFrames, InEveryRun, AreHeardInOrder, AreKeptUntilHeard, AreWrittenHonestly, AreReadInFrames}
use Rattle.ra_model.proofs.Calls.{get_map, get_from_drop, drop_next}
use Rattle.ra_model.proofs.Sound.{from}
use Rattle.ra_model.proofs.Runs.{sound_run, sound_new}
use Rattle.ra_model.specs.Views.{View}

pub length-numbered : (last : ℕ) (ms : List SaidMessage) → length (numbered last ms) ≡ length ms
length-numbered last [] = refl
length-numbered last (m ∷ ms) = ap suc (length-numbered (suc last) ms)

numbered_id : (last : ℕ) (ms : List SaidMessage) (k : ℕ) (entry : Entry) → slice_get (numbered last ms) k ≡ Some entry → entry.id ≡ last + 1 + k
numbered_id last [] k entry h = cc
numbered_id last (m ∷ ms) zero entry h = let is : suc last ≡ entry.id = cc in omega arith
numbered_id last (m ∷ ms) (suc k) entry h = let is : entry.id ≡ suc last + 1 + k = numbered_id (suc last) ms k entry h in omega arith

numbered_body : (base : ℕ) (said : List SaidMessage) (n : ℕ) (ms : List SaidMessage) → drop n said ≡ ms → (last : ℕ) → last ≡ base + n → (k : ℕ) (entry : Entry) → slice_get (numbered last ms) k ≡ Some entry
    → with_id base (map body_of said) entry.id ≡ Some entry.body
numbered_body base said n [] is last at k entry h = cc
numbered_body base said n (m ∷ ms) is last at zero entry h =
    let place : suc last - base ≡ suc n = omega arith in
    subst (λ (x : Entry). with_id base (map body_of said) x.id ≡ Some x.body) (same_Some _ _ h)
    (subst (λ (i : ℕ). at_number (map body_of said) i ≡ Some m.body) (sym place) (get_map said n m (get_from_drop n said m ms is)))
numbered_body base said n (m ∷ ms) is last at (suc k) entry h = numbered_body base said (suc n) ms (drop_next n said m ms is) (suc last) (omega arith) k entry h

ungapped : (e : Endpoint) → e.base ≤ e.acknowledged → e.acknowledged ≤ sent e → IsUngapped e
unfolding owed
ungapped e low high = record {
  all = omega (arith, length-numbered e.acknowledged (drop (acknowledged_count e) e.said), length-drop (acknowledged_count e) e.said);
  id = numbered_id e.acknowledged (drop (acknowledged_count e) e.said);
  body = numbered_body e.base e.said (acknowledged_count e) (drop (acknowledged_count e) e.said) refl e.acknowledged (omega arith);
}

-- what a view says of the messages that go from its endpoint to the peer, and of what its endpoint wrote and read
module _ {start : ℕ} {s : Side} {i j : ℕ} {p o : Peer} {links : List Link} (v : View start s i j p o links) where
  pub hears : HearsInOrder start p o
  hears = record { prefix = v.out.prefix; received = v.out.count }

  pub keeps_unheard : KeepsUnheard start p o
  keeps_unheard =
      let heard : length (o.heard ++ v.out.prefix.0) ≡ length o.heard + length v.out.prefix.0 = length-append o.heard v.out.prefix.0 in
      let whole : length (o.heard ++ v.out.prefix.0) ≡ length (messages p.endpoint) = ap (λ (t : List (List ℕ)). length t) v.out.prefix.1 in
      let said : length (messages p.endpoint) ≡ length p.endpoint.said = length-map p.endpoint.said body_of in
      let acked : p.endpoint.acknowledged ≤ start + length o.heard = v.out.acked in
      let low : start ≤ p.endpoint.acknowledged = v.out.low in
      let base : p.endpoint.base ≡ start = v.base in
      record { acknowledged = acked; sent = omega arith; queue = ungapped p.endpoint (omega arith) (omega arith) }

  pub writes_honestly : WritesHonestly start (other s) i p links
  writes_honestly =
      let Front : ℕ → List ℕ → Type 0 = λ n t. IsFront start (messages p.endpoint) n t in
      let Joining : ℕ → List ℕ → Type 0 = λ n t. IsJoining start (messages p.endpoint) n t in
      record {
        front = λ n l at. subst (λ (n : ℕ). Front n (direction_to (other s) l).written) v.back.count
            (subst (λ (b : ℕ). IsFront b (messages p.endpoint) p.endpoint.received (direction_to (other s) l).written) v.base (v.mine.texts n l at));
        whole = λ l at kept up. subst (λ (n : ℕ). Joining n ((direction_to (other s) l).written ++ p.endpoint.unwritten)) v.back.count
            (subst (λ (b : ℕ). IsJoining b (messages p.endpoint) p.endpoint.received ((direction_to (other s) l).written ++ p.endpoint.unwritten)) v.base (v.mine.whole l at kept up));
      }

  pub reads_in_frames : ReadsInFrames s i p links
  reads_in_frames = record { inside = v.reads.inside; each = v.reads.frames; carry = v.reads.carry }

-- each run, from one endpoint
pub view_of : (base : ℕ) (events : List Event) (s : Side) → base ≤ last_id → let w = run events (new_world base) in View base s (peer s w).endpoint.epoch (peer (other s) w).endpoint.epoch (peer s w) (peer (other s) w) w.links
view_of base events s fits = from base s (run events (new_world base)) (sound_run base events (new_world base) (sound_new base fits))

pub heard : InEveryRun AreHeardInOrder
heard base events A fits = hears (view_of base events B fits)
heard base events B fits = hears (view_of base events A fits)

pub kept : InEveryRun AreKeptUntilHeard
kept base events A fits = keeps_unheard (view_of base events B fits)
kept base events B fits = keeps_unheard (view_of base events A fits)

pub written : InEveryRun AreWrittenHonestly
written base events A fits = writes_honestly (view_of base events B fits)
written base events B fits = writes_honestly (view_of base events A fits)

pub read : InEveryRun AreReadInFrames
read base events side fits = reads_in_frames (view_of base events side fits)
