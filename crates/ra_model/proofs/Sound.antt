-- What holds of two ends and their links at every moment.
use Rattle.std.proofs.Common.{◌≡◌, ℕ, List, ◌++◌, ap, sym, ◌∙◌, append_assoc}
use Rattle.ra_model.specs.Endpoints.{Endpoint}
use Rattle.ra_model.specs.Links.{other, Link}
use Rattle.ra_model.specs.Worlds.{Peer, with_endpoint, World, peer, with_peer, with_links}
use Rattle.ra_base.specs.declared.event.Side.{Side}
use Rattle.ra_base.specs.declared.event.Side.TheVariants.{A, B}
use Rattle.ra_model.specs.Pairs.{messages}
use Rattle.ra_model.proofs.Kept.{Kept}
use Rattle.ra_model.specs.Views.{Agrees, EndpointWrote, IsEmptyAway, View}

-- in a world the epoch of an endpoint is the number of its link
abbrev pub Sound : ℕ → World → Type 0
Sound start w = View start A w.a.endpoint.epoch w.b.endpoint.epoch w.a w.b w.links

swap : (start : ℕ) {i j : ℕ} {p o : Peer} {links : List Link} → View start A i j p o links → View start B j i o p links
swap start v = record { away = v.their_away; their_away = v.away; base = v.their_base; their_base = v.base; mine = v.theirs; reads = v.their_reads; theirs = v.mine; their_reads = v.reads; out = v.back; back = v.out }

swap_back : (start : ℕ) {i j : ℕ} {p o : Peer} {links : List Link} → View start B j i o p links → View start A i j p o links
swap_back start v = record { away = v.their_away; their_away = v.away; base = v.their_base; their_base = v.base; mine = v.theirs; reads = v.their_reads; theirs = v.mine; their_reads = v.reads; out = v.back; back = v.out }

pub turned : (start : ℕ) (s : Side) (i j : ℕ) (p o : Peer) (links : List Link) → View start s i j p o links → View start (other s) j i o p links
turned start A i j p o links v = swap start v
turned start B i j p o links v = swap_back start v

pub from : (start : ℕ) (s : Side) (w : World) → Sound start w → View start s (peer s w).endpoint.epoch (peer (other s) w).endpoint.epoch (peer s w) (peer (other s) w) w.links
from start A w h = h
from start B w h = swap start h

pub back_to : (start : ℕ) (s : Side) (w : World) (p : Peer) (links : List Link) → View start s p.endpoint.epoch (peer (other s) w).endpoint.epoch p (peer (other s) w) links → Sound start (with_peer s p (with_links links w))
back_to start A w p links v = v
back_to start B w p links v = swap_back start v

pub agrees_more : (start : ℕ) (said said' : List (List ℕ)) (acknowledged acknowledged' : ℕ) (heard more : List (List ℕ)) (received : ℕ) → Agrees start said acknowledged heard received → said' ≡ said ++ more → acknowledged' ≡ acknowledged → Agrees start said' acknowledged' heard received
agrees_more start said said' acknowledged acknowledged' heard more received h longer same = record {
  prefix = (h.prefix.0 ++ more, sym (append_assoc heard h.prefix.0 more) ∙ ap (λ (t : List (List ℕ)). t ++ more) h.prefix.1 ∙ sym longer);
  count = h.count;
  acked = rw same h.acked;
  low = rw same h.low;
}

pub agrees_same : (start : ℕ) (said : List (List ℕ)) (acknowledged : ℕ) (heard : List (List ℕ)) (received received' : ℕ) → Agrees start said acknowledged heard received → received' ≡ received → Agrees start said acknowledged heard received'
agrees_same start said acknowledged heard received received' h same = record { prefix = h.prefix; count = same ∙ h.count; acked = h.acked; low = h.low }

-- a call of one endpoint that reads nothing and writes on no link
pub view_call : (start : ℕ) (s : Side) (i j : ℕ) (p o : Peer) (links : List Link) (e : Endpoint) → View start s i j p o links → Kept p.endpoint e → EndpointWrote (other s) i e links → IsEmptyAway e → View start s i j (with_endpoint e p) o links
view_call start s i j p o links e v k outgoing away = record {
  away = away;
  their_away = v.their_away;
  base = k.base ∙ v.base;
  their_base = v.their_base;
  mine = outgoing;
  reads = k.incoming s i p.applied links v.reads;
  theirs = v.theirs;
  their_reads = v.their_reads;
  out = agrees_more start (messages p.endpoint) (messages e) p.endpoint.acknowledged e.acknowledged o.heard k.more o.endpoint.received v.out k.said k.acknowledged;
  back = agrees_same start (messages o.endpoint) o.endpoint.acknowledged p.heard p.endpoint.received e.received v.back k.received;
}
