-- A later link begins, with bytes that were read of it before it was cut or after.
use Rattle.std.proofs.Common.{◌≡◌, ℕ, ◌+◌, ◌<◌, ◌≤◌, Bool, true, eqb, Some, List, [], length, take, drop, refl, ap, sym, ◌∙◌, subst, arith}
use Rattle.std.proofs.lemmas.Bool.{false≢true, cond_both}
use Rattle.std.proofs.lemmas.List.{append-nil}
use Rattle.ra_base.specs.declared.event.Side.{Side}
use Rattle.ra_base.specs.declared.event.Side.TheVariants.{A, B}
use Rattle.ra_model.specs.declared.frame.Frame.{Frame}
use Rattle.ra_model.specs.Endpoints.{Endpoint, owed}
use Rattle.ra_model.specs.Calls.{rewritten, can_begin, begin}
use Rattle.ra_model.specs.Links.{other, Direction, Link, direction_to, at_number, put_number, read_on}
use Rattle.ra_model.specs.Worlds.{Peer}
use Rattle.ra_model.specs.Events.{begun}
use Rattle.ra_model.specs.Views.{EndpointRead, HasRead, View}
use Rattle.ra_model.proofs.Away.{away_begin}
use Rattle.ra_model.proofs.Numbers.{at_number_within}
use Rattle.ra_model.proofs.Outgoing.{outgoing_elsewhere}
use Rattle.ra_model.proofs.Incoming.{incoming_elsewhere, incoming_begun}
use Rattle.ra_model.proofs.Calls.{outgoing_begin}
use Rattle.ra_model.proofs.LinkMoves.{messages_begun, acknowledged_begun, received_begun, base_begun}

-- a link of which a side read more is otherwise the same
read_text : (s : Side) (k : ℕ) (l : Link) → (direction_to s (read_on s k l)).written ≡ (direction_to s l).written
read_text A k l = refl
read_text B k l = refl

read_count : (s : Side) (k : ℕ) (l : Link) → (direction_to s (read_on s k l)).read ≡ (direction_to s l).read + k
read_count A k l = refl
read_count B k l = refl

read_other : (s : Side) (k : ℕ) (l : Link) → direction_to (other s) (read_on s k l) ≡ direction_to (other s) l
read_other A k l = refl
read_other B k l = refl

read_cut : (s : Side) (k : ℕ) (l : Link) → (read_on s k l).is_cut ≡ l.is_cut
read_cut A k l = refl
read_cut B k l = refl

-- the endpoint has read the first bytes of its new link
read_begun : (to : Side) (n epoch : ℕ) (chunk : List ℕ) (now : ℕ) (e : Endpoint) (links : List Link) → can_begin epoch e ≡ true → HasRead to n true chunk [] links → EndpointRead to n (begin epoch chunk now e) [] links
unfolding begin owed rewritten
read_begun to n epoch chunk now e links can c =
    cond_both (can_begin epoch e) _ _ (λ (x : Endpoint). EndpointRead to n x [] links)
    (λ yes. cond_both (eqb e.epoch 0) _ _ (λ (x : Endpoint). EndpointRead to n x [] links) (λ first. c) (λ later. c))
    (λ no. absurd (false≢true (sym no ∙ can)))

-- nothing was read of it before
chunk_read : (s : Side) (i n k : ℕ) (linked : Bool) (unread : List ℕ) (applied : List Frame) (links : List Link) (l : Link) → HasRead s i linked unread applied links → i < n → at_number links n ≡ Some l → k ≤ length (direction_to s l).written
    → HasRead s n true (take k (direction_to s l).written) [] (put_number links n (read_on s k l))
chunk_read s i n k linked unread applied links l h later at fits =
    let nothing : (direction_to s l).read ≡ 0 = h.fresh n l at later in
    subst (λ (m : ℕ). HasRead s n true (take k (drop m (direction_to s l).written)) [] (put_number links n (read_on s k l))) nothing
    (incoming_begun h n k l (read_on s k l) later at (read_count s k l) (read_text s k l) (omega (arith, nothing, fits)))

pub view_later : (start : ℕ) (s : Side) (i j : ℕ) (p o : Peer) (links : List Link) (n k epoch : ℕ) (l : Link) (now : ℕ) → View start s i j p o links → i < n → at_number links n ≡ Some l → k ≤ length (direction_to s l).written → can_begin epoch p.endpoint ≡ true
    → View start s n j (begun epoch (take k (direction_to s l).written) now p) o (put_number links n (read_on s k l))
view_later start s i j p o links n k epoch l now v later at fits can =
    let chunk : List ℕ = take k (direction_to s l).written in
    let e : Endpoint = p.endpoint in
    let l' : Link = read_on s k l in
    let there : direction_to (other s) l' ≡ direction_to (other s) l = read_other s k l in
    record {
      base = base_begun epoch chunk now e ∙ v.base;
      their_base = v.their_base;
      away = away_begin epoch chunk now e v.away;
      their_away = v.their_away;
      mine = outgoing_elsewhere (outgoing_begin (other s) i n e links epoch chunk now v.mine (rw v.base v.out.low) later (at_number_within links n l at) can) n l l' at (ap (λ (w : Direction). w.written) there) (λ is. sym (read_cut s k l) ∙ is);
      reads = read_begun s n epoch chunk now e (put_number links n l') can (chunk_read s i n k _ _ _ links l v.reads later at fits);
      theirs = outgoing_elsewhere v.theirs n l l' at (read_text s k l) (λ is. sym (read_cut s k l) ∙ is);
      their_reads = incoming_elsewhere v.their_reads n l l' [] at (ap (λ (w : Direction). w.read) there) (ap (λ (w : Direction). w.written) there ∙ sym (append-nil (direction_to (other s) l).written));
      out = record {
        prefix = (v.out.prefix.0, v.out.prefix.1 ∙ sym (messages_begun epoch chunk now e));
        count = v.out.count;
        acked = subst (λ (x : ℕ). x ≤ start + length o.heard) (sym (acknowledged_begun epoch chunk now e)) v.out.acked;
        low = subst (λ (x : ℕ). start ≤ x) (sym (acknowledged_begun epoch chunk now e)) v.out.low;
      };
      back = record { prefix = v.back.prefix; count = received_begun epoch chunk now e ∙ v.back.count; acked = v.back.acked; low = v.back.low };
    }
