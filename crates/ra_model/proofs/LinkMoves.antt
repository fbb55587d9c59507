-- Links begin, are read, written on, made and cut.
use Rattle.std.proofs.Common.{◌≡◌, ℕ, ◌+◌, ◌<◌, ◌≤◌, Bool, true, false, cond, eqb, leb, Option, Some, None, List, [], ◌∷◌, ◌++◌, length, take, drop, refl, ap, sym, ◌∙◌, subst, arith, ⊎_elim}
use Rattle.std.proofs.lemmas.Bool.{false≢true, cond_both, le-leb}
use Rattle.std.proofs.lemmas.Option.{none-some}
use Rattle.std.proofs.lemmas.List.{append-nil, length-drop}
use Rattle.ra_model.specs.declared.frame.Frame.{Frame}
use Rattle.ra_model.specs.Endpoints.{Endpoint, is_linked, owed, shown}
use Rattle.ra_model.specs.Calls.{rewritten, moment, can_begin, on_link, begin, can_feed, feed, wrote}
use Rattle.ra_model.specs.Links.{other, Direction, Link, new_link, direction_to, amount, at_number, put_number, readable, read_on, written_to, cut_off}
use Rattle.ra_model.specs.Worlds.{Peer, with_endpoint}
use Rattle.ra_model.specs.Events.{begun, links_written}
use Rattle.ra_base.specs.declared.event.Side.{Side}
use Rattle.ra_base.specs.declared.event.Count.{Count}
use Rattle.ra_base.specs.declared.event.Side.TheVariants.{A, B}
use Rattle.ra_base.specs.declared.event.Count.TheVariants.{All, Exact, Most}
use Rattle.ra_model.specs.Pairs.{messages}
use Rattle.ra_model.proofs.Away.{away_begin, away_feed, away_wrote}
use Rattle.ra_model.proofs.Numbers.{at_number_within, put_cases}
use Rattle.ra_model.proofs.Outgoing.{outgoing_linked, outgoing_elsewhere, outgoing_wrote, outgoing_vanish}
use Rattle.ra_model.proofs.Incoming.{incoming_linked, incoming_elsewhere, incoming_fed, incoming_begun, incoming_skipped}
use Rattle.ra_model.proofs.Calls.{outgoing_begin, messages_rewritten}
use Rattle.ra_model.proofs.Kept.{Kept, kept_wrote}
use Rattle.ra_model.proofs.Sound.{agrees_more, agrees_same, view_call}
use Rattle.ra_model.specs.Views.{EndpointRead, EndpointWrote, HasRead, HasWritten, View}

-- a link of which a side read more is otherwise the same
read_text : (s : Side) (k : ℕ) (l : Link) → (direction_to s (read_on s k l)).written ≡ (direction_to s l).written
read_text A k l = refl
read_text B k l = refl

read_count : (s : Side) (k : ℕ) (l : Link) → (direction_to s (read_on s k l)).read ≡ (direction_to s l).read + k
read_count A k l = refl
read_count B k l = refl

read_other : (s : Side) (k : ℕ) (l : Link) → direction_to (other s) (read_on s k l) ≡ direction_to (other s) l
read_other A k l = refl
read_other B k l = refl

read_cut : (s : Side) (k : ℕ) (l : Link) → (read_on s k l).is_cut ≡ l.is_cut
read_cut A k l = refl
read_cut B k l = refl

-- and one on which bytes were written to a side
pub written_text : (s : Side) (bytes : List ℕ) (l : Link) → (direction_to s (written_to s bytes l)).written ≡ (direction_to s l).written ++ cond l.is_cut [] bytes
written_text A bytes l = refl
written_text B bytes l = refl

pub written_read : (s : Side) (bytes : List ℕ) (l : Link) → (direction_to s (written_to s bytes l)).read ≡ (direction_to s l).read
written_read A bytes l = refl
written_read B bytes l = refl

pub written_other : (s : Side) (bytes : List ℕ) (l : Link) → direction_to s (written_to (other s) bytes l) ≡ direction_to s l
written_other A bytes l = refl
written_other B bytes l = refl

pub written_cut : (s : Side) (bytes : List ℕ) (l : Link) → (written_to s bytes l).is_cut ≡ l.is_cut
written_cut A bytes l = refl
written_cut B bytes l = refl

cut_way : (s : Side) (l : Link) → direction_to s (cut_off l) ≡ direction_to s l
cut_way A l = refl
cut_way B l = refl

pub amount_there : (count : Count) (there : ℕ) → amount count there ≤ there
amount_there All there = omega arith
amount_there (Exact n) there = omega arith
amount_there (Most n) there = omega arith

-- what is read of a link, in numbers
piece_fits : (s : Side) (l : Link) (k : ℕ) (before : (direction_to s l).read ≤ length (direction_to s l).written) → k ≤ length (readable s l) → (direction_to s l).read + k ≤ length (direction_to s l).written
piece_fits s l k before =
    cond_both l.is_cut [] (drop (direction_to s l).read (direction_to s l).written) (λ (t : List ℕ). k ≤ length t → (direction_to s l).read + k ≤ length (direction_to s l).written)
    (λ _ none. let nothing : k ≤ 0 = none in omega arith)
    (λ _ some. omega (arith, length-drop (direction_to s l).read (direction_to s l).written))

piece_is : (s : Side) (l : Link) (k : ℕ) → k ≤ length (readable s l) → take k (readable s l) ≡ take k (drop (direction_to s l).read (direction_to s l).written)
piece_is s l k =
    cond_both l.is_cut [] (drop (direction_to s l).read (direction_to s l).written) (λ (t : List ℕ). k ≤ length t → take k t ≡ take k (drop (direction_to s l).read (direction_to s l).written))
    (λ _ none. let nothing : k ≡ 0 = (let low : k ≤ 0 = none in omega arith) in rw nothing refl)
    (λ _ some. refl)

-- a link of which more was read, for its writer and for the other direction
outgoing_read : (s : Side) (i : ℕ) (e : Endpoint) (links : List Link) (n k : ℕ) (l : Link) → EndpointWrote s i e links → at_number links n ≡ Some l → EndpointWrote s i e (put_number links n (read_on s k l))
outgoing_read s i e links n k l h at = outgoing_elsewhere h n l (read_on s k l) at (read_text s k l) (λ is. sym (read_cut s k l) ∙ is)

outgoing_reading : (s : Side) (i : ℕ) (e : Endpoint) (links : List Link) (n k : ℕ) (l : Link) → EndpointWrote (other s) i e links → at_number links n ≡ Some l → EndpointWrote (other s) i e (put_number links n (read_on s k l))
outgoing_reading s i e links n k l h at = outgoing_elsewhere h n l (read_on s k l) at (ap (λ (w : Direction). w.written) (read_other s k l)) (λ is. sym (read_cut s k l) ∙ is)

incoming_read : (s : Side) (i : ℕ) (e : Endpoint) (applied : List Frame) (links : List Link) (n k : ℕ) (l : Link) → EndpointRead (other s) i e applied links → at_number links n ≡ Some l → EndpointRead (other s) i e applied (put_number links n (read_on s k l))
incoming_read s i e applied links n k l h at = incoming_elsewhere h n l (read_on s k l) [] at (ap (λ (w : Direction). w.read) (read_other s k l)) (ap (λ (w : Direction). w.written) (read_other s k l) ∙ sym (append-nil (direction_to (other s) l).written))

-- what a link that begins leaves as it is
pub messages_begun : (epoch : ℕ) (chunk : List ℕ) (now : ℕ) (e : Endpoint) → messages (begin epoch chunk now e) ≡ messages e
unfolding begin owed
messages_begun epoch chunk now e =
    cond_both (can_begin epoch e) _ _ (λ (x : Endpoint). messages x ≡ messages e)
    (λ yes. cond_both (eqb e.epoch 0) _ _ (λ (x : Endpoint). messages x ≡ messages e) (λ first. messages_rewritten (moment now e) (on_link epoch chunk (moment now e) e)) (λ later. refl))
    (λ no. refl)

pub acknowledged_begun : (epoch : ℕ) (chunk : List ℕ) (now : ℕ) (e : Endpoint) → (begin epoch chunk now e).acknowledged ≡ e.acknowledged
unfolding begin owed rewritten
acknowledged_begun epoch chunk now e =
    cond_both (can_begin epoch e) _ _ (λ (x : Endpoint). x.acknowledged ≡ e.acknowledged) (λ yes. cond_both (eqb e.epoch 0) _ _ (λ (x : Endpoint). x.acknowledged ≡ e.acknowledged) (λ first. refl) (λ later. refl)) (λ no. refl)

pub received_begun : (epoch : ℕ) (chunk : List ℕ) (now : ℕ) (e : Endpoint) → (begin epoch chunk now e).received ≡ e.received
unfolding begin owed rewritten
received_begun epoch chunk now e =
    cond_both (can_begin epoch e) _ _ (λ (x : Endpoint). x.received ≡ e.received) (λ yes. cond_both (eqb e.epoch 0) _ _ (λ (x : Endpoint). x.received ≡ e.received) (λ first. refl) (λ later. refl)) (λ no. refl)

pub base_begun : (epoch : ℕ) (chunk : List ℕ) (now : ℕ) (e : Endpoint) → (begin epoch chunk now e).base ≡ e.base
unfolding begin owed rewritten
base_begun epoch chunk now e =
    cond_both (can_begin epoch e) _ _ (λ (x : Endpoint). x.base ≡ e.base) (λ yes. cond_both (eqb e.epoch 0) _ _ (λ (x : Endpoint). x.base ≡ e.base) (λ first. refl) (λ later. refl)) (λ no. refl)

incoming_by_begun : (to : Side) (n epoch : ℕ) (chunk : List ℕ) (now : ℕ) (e : Endpoint) (links : List Link) → can_begin epoch e ≡ true → HasRead to n true chunk [] links → EndpointRead to n (begin epoch chunk now e) [] links
unfolding begin owed rewritten
incoming_by_begun to n epoch chunk now e links can c =
    cond_both (can_begin epoch e) _ _ (λ (x : Endpoint). EndpointRead to n x [] links)
    (λ yes. cond_both (eqb e.epoch 0) _ _ (λ (x : Endpoint). EndpointRead to n x [] links) (λ first. c) (λ later. c))
    (λ no. absurd (false≢true (sym no ∙ can)))

pub epoch_begun : (epoch : ℕ) (chunk : List ℕ) (now : ℕ) (e : Endpoint) → can_begin epoch e ≡ true → (begin epoch chunk now e).epoch ≡ epoch
unfolding begin owed rewritten
epoch_begun epoch chunk now e can =
    cond_both (can_begin epoch e) _ _ (λ (x : Endpoint). x.epoch ≡ epoch) (λ yes. cond_both (eqb e.epoch 0) _ _ (λ (x : Endpoint). x.epoch ≡ epoch) (λ first. refl) (λ later. refl)) (λ no. absurd (false≢true (sym no ∙ can)))

pub epoch_fed : (epoch : ℕ) (piece : List ℕ) (now : ℕ) (e : Endpoint) → (feed epoch piece now e).epoch ≡ e.epoch
unfolding feed
epoch_fed epoch piece now e = cond_both (can_feed epoch e) _ _ (λ (x : Endpoint). x.epoch ≡ e.epoch) (λ yes. refl) (λ no. refl)

-- a later link begins, with any higher epoch
pub view_begin : (start : ℕ) (s : Side) (i j : ℕ) (p o : Peer) (links : List Link) (n k epoch : ℕ) (l : Link) (now : ℕ) → View start s i j p o links → i < n → at_number links n ≡ Some l → k ≤ length (readable s l) → can_begin epoch p.endpoint ≡ true
    → View start s n j (begun epoch (take k (readable s l)) now p) o (put_number links n (read_on s k l))
view_begin start s i j p o links n k epoch l now v later at fits can =
    let chunk : List ℕ = take k (readable s l) in
    let incoming : HasRead s n true (take k (drop (direction_to s l).read (direction_to s l).written)) [] (put_number links n (read_on s k l)) =
    incoming_begun v.reads n k l (read_on s k l) later at (read_count s k l) (read_text s k l) (piece_fits s l k (v.reads.inside n l at) fits) in
    record {
      base = base_begun epoch chunk now p.endpoint ∙ v.base;
      their_base = v.their_base;
      away = away_begin epoch chunk now p.endpoint v.away;
      their_away = v.their_away;
      mine = outgoing_reading s n (begin epoch chunk now p.endpoint) links n k l (outgoing_begin (other s) i n p.endpoint links epoch chunk now v.mine (rw v.base v.out.low) later (at_number_within links n l at) can) at;
      reads = incoming_by_begun s n epoch chunk now p.endpoint (put_number links n (read_on s k l)) can
          (subst (λ (t : List ℕ). HasRead s n true t [] (put_number links n (read_on s k l))) (sym (piece_is s l k fits)) incoming);
      theirs = outgoing_read s j o.endpoint links n k l v.theirs at;
      their_reads = incoming_read s j o.endpoint o.applied links n k l v.their_reads at;
      out = record {
        prefix = (v.out.prefix.0, v.out.prefix.1 ∙ sym (messages_begun epoch chunk now p.endpoint));
        count = v.out.count;
        acked = subst (λ (x : ℕ). x ≤ start + length o.heard) (sym (acknowledged_begun epoch chunk now p.endpoint)) v.out.acked;
        low = subst (λ (x : ℕ). start ≤ x) (sym (acknowledged_begun epoch chunk now p.endpoint)) v.out.low;
      };
      back = record { prefix = v.back.prefix; count = received_begun epoch chunk now p.endpoint ∙ v.back.count; acked = v.back.acked; low = v.back.low };
    }

outgoing_feed : (to : Side) (n epoch : ℕ) (piece : List ℕ) (now : ℕ) (e : Endpoint) (links : List Link) → EndpointWrote to n e links → EndpointWrote to n (feed epoch piece now e) links
unfolding feed
outgoing_feed to n epoch piece now e links h = cond_both (can_feed epoch e) _ _ (λ (x : Endpoint). EndpointWrote to n x links) (λ yes. h) (λ no. h)

pub messages_fed : (epoch : ℕ) (piece : List ℕ) (now : ℕ) (e : Endpoint) → messages (feed epoch piece now e) ≡ messages e
unfolding feed
messages_fed epoch piece now e = cond_both (can_feed epoch e) _ _ (λ (x : Endpoint). messages x ≡ messages e) (λ yes. refl) (λ no. refl)

pub acknowledged_fed : (epoch : ℕ) (piece : List ℕ) (now : ℕ) (e : Endpoint) → (feed epoch piece now e).acknowledged ≡ e.acknowledged
unfolding feed
acknowledged_fed epoch piece now e = cond_both (can_feed epoch e) _ _ (λ (x : Endpoint). x.acknowledged ≡ e.acknowledged) (λ yes. refl) (λ no. refl)

pub received_fed : (epoch : ℕ) (piece : List ℕ) (now : ℕ) (e : Endpoint) → (feed epoch piece now e).received ≡ e.received
unfolding feed
received_fed epoch piece now e = cond_both (can_feed epoch e) _ _ (λ (x : Endpoint). x.received ≡ e.received) (λ yes. refl) (λ no. refl)

pub base_fed : (epoch : ℕ) (piece : List ℕ) (now : ℕ) (e : Endpoint) → (feed epoch piece now e).base ≡ e.base
unfolding feed
base_fed epoch piece now e = cond_both (can_feed epoch e) _ _ (λ (x : Endpoint). x.base ≡ e.base) (λ yes. refl) (λ no. refl)

incoming_by_fed : (to : Side) (n epoch : ℕ) (piece : List ℕ) (now : ℕ) (e : Endpoint) (applied : List Frame) (links : List Link) → can_feed epoch e ≡ true
    → HasRead to n (is_linked e.phase) (e.unread ++ piece) applied links → EndpointRead to n (feed epoch piece now e) applied links
unfolding feed
incoming_by_fed to n epoch piece now e applied links can c =
    cond_both (can_feed epoch e) _ _ (λ (x : Endpoint). EndpointRead to n x applied links) (λ yes. c) (λ no. absurd (false≢true (sym no ∙ can)))

pub view_feed : (start : ℕ) (s : Side) (i j : ℕ) (p o : Peer) (links : List Link) (k epoch : ℕ) (l : Link) (now : ℕ) → View start s i j p o links → at_number links i ≡ Some l → k ≤ length (readable s l) → can_feed epoch p.endpoint ≡ true
    → View start s i j (with_endpoint (feed epoch (take k (readable s l)) now p.endpoint) p) o (put_number links i (read_on s k l))
view_feed start s i j p o links k epoch l now v at fits can =
    let piece : List ℕ = take k (readable s l) in
    let incoming : HasRead s i (is_linked p.endpoint.phase) (p.endpoint.unread ++ take k (drop (direction_to s l).read (direction_to s l).written)) p.applied (put_number links i (read_on s k l)) =
    incoming_fed v.reads k l (read_on s k l) at (read_count s k l) (read_text s k l) (piece_fits s l k (v.reads.inside i l at) fits) in
    record {
      base = base_fed epoch piece now p.endpoint ∙ v.base;
      their_base = v.their_base;
      away = away_feed epoch piece now p.endpoint v.away;
      their_away = v.their_away;
      mine = outgoing_reading s i (feed epoch piece now p.endpoint) links i k l (outgoing_feed (other s) i epoch piece now p.endpoint links v.mine) at;
      reads = incoming_by_fed s i epoch piece now p.endpoint p.applied (put_number links i (read_on s k l)) can
          (subst (λ (t : List ℕ). HasRead s i (is_linked p.endpoint.phase) (p.endpoint.unread ++ t) p.applied (put_number links i (read_on s k l))) (sym (piece_is s l k fits)) incoming);
      theirs = outgoing_read s j o.endpoint links i k l v.theirs at;
      their_reads = incoming_read s j o.endpoint o.applied links i k l v.their_reads at;
      out = record {
        prefix = (v.out.prefix.0, v.out.prefix.1 ∙ sym (messages_fed epoch piece now p.endpoint));
        count = v.out.count;
        acked = subst (λ (x : ℕ). x ≤ start + length o.heard) (sym (acknowledged_fed epoch piece now p.endpoint)) v.out.acked;
        low = subst (λ (x : ℕ). start ≤ x) (sym (acknowledged_fed epoch piece now p.endpoint)) v.out.low;
      };
      back = record { prefix = v.back.prefix; count = received_fed epoch piece now p.endpoint ∙ v.back.count; acked = v.back.acked; low = v.back.low };
    }

-- bytes of an earlier link, or of the last one once it is lost, are read and dropped
pub view_skips : (start : ℕ) (s : Side) (i j : ℕ) (p o : Peer) (links : List Link) (n k : ℕ) (l : Link) → View start s i j p o links → n ≤ i → (n ≡ i → is_linked p.endpoint.phase ≡ false) → at_number links n ≡ Some l → k ≤ length (readable s l)
    → View start s i j p o (put_number links n (read_on s k l))
view_skips start s i j p o links n k l v low lost at fits = record {
  base = v.base;
  their_base = v.their_base;
  mine = outgoing_reading s i p.endpoint links n k l v.mine at;
  reads = incoming_skipped v.reads n k l (read_on s k l) low lost at (read_count s k l) (read_text s k l) (piece_fits s l k (v.reads.inside n l at) fits);
  theirs = outgoing_read s j o.endpoint links n k l v.theirs at;
  their_reads = incoming_read s j o.endpoint o.applied links n k l v.their_reads at;
  out = v.out;
  back = v.back;
  away = v.away;
  their_away = v.their_away;
}

pub view_linked : (start : ℕ) (s : Side) (i j : ℕ) (p o : Peer) (links : List Link) → View start s i j p o links → View start s i j p o (links ++ new_link ∷ [])
view_linked start s i j p o links v = record {
  base = v.base;
  their_base = v.their_base;
  away = v.away;
  their_away = v.their_away;
  mine = outgoing_linked v.mine;
  reads = incoming_linked v.reads v.mine.there;
  theirs = outgoing_linked v.theirs;
  their_reads = incoming_linked v.their_reads v.theirs.there;
  out = v.out;
  back = v.back;
}

pub view_cut : (start : ℕ) (s : Side) (i j : ℕ) (p o : Peer) (links : List Link) (n : ℕ) (l : Link) → View start s i j p o links → at_number links n ≡ Some l → View start s i j p o (put_number links n (cut_off l))
view_cut start s i j p o links n l v at =
    let texts : (t : Side) → (direction_to t (cut_off l)).written ≡ (direction_to t l).written = λ t. ap (λ (w : Direction). w.written) (cut_way t l) in
    let counts : (t : Side) → (direction_to t (cut_off l)).read ≡ (direction_to t l).read = λ t. ap (λ (w : Direction). w.read) (cut_way t l) in
    record {
      base = v.base;
      their_base = v.their_base;
      away = v.away;
      their_away = v.their_away;
      mine = outgoing_elsewhere v.mine n l (cut_off l) at (texts (other s)) (λ is. cc);
      reads = incoming_elsewhere v.reads n l (cut_off l) [] at (counts s) (texts s ∙ sym (append-nil (direction_to s l).written));
      theirs = outgoing_elsewhere v.theirs n l (cut_off l) at (texts s) (λ is. cc);
      their_reads = incoming_elsewhere v.their_reads n l (cut_off l) [] at (counts (other s)) (texts (other s) ∙ sym (append-nil (direction_to (other s) l).written));
      out = v.out;
      back = v.back;
    }

-- what is shown is the front of what is unwritten, or nothing
shown_front : (e : Endpoint) (k : ℕ) → k ≤ length (shown e) → take k (shown e) ≡ take k e.unwritten
shown_front e k =
    cond_both e.paused [] e.unwritten (λ (t : List ℕ). k ≤ length t → take k t ≡ take k e.unwritten)
    (λ _ none. let nothing : k ≡ 0 = (let low : k ≤ 0 = none in omega arith) in rw nothing refl)
    (λ _ some. refl)

outgoing_by_wrote : (to : Side) (i : ℕ) (e : Endpoint) (k : ℕ) (links links' : List Link) → EndpointWrote to i e links → k ≤ length (shown e) → HasWritten to e.base e.said e.received i (is_linked e.phase) (drop k e.unwritten) links' → EndpointWrote to i (wrote k e) links'
unfolding wrote
outgoing_by_wrote to i e k links links' h fits after =
    cond_both (leb k (length (shown e))) _ _ (λ (x : Endpoint). EndpointWrote to i x links') (λ yes. after) (λ no. absurd (false≢true (sym no ∙ le-leb k (length (shown e)) fits)))

-- bytes go onto the present link, which may be cut
outgoing_on_link : (to : Side) (i : ℕ) (e : Endpoint) (k : ℕ) (links : List Link) (l : Link) (bytes : List ℕ) (cut : Bool) → l.is_cut ≡ cut → EndpointWrote to i e links → at_number links i ≡ Some l → bytes ≡ take k e.unwritten
    → HasWritten to e.base e.said e.received i (is_linked e.phase) (drop k e.unwritten) (put_number links i (written_to to bytes l))
outgoing_on_link to i e k links l bytes true is h at same =
    let l' : Link = written_to to bytes l in
    let text : (direction_to to l').written ≡ (direction_to to l).written =
    written_text to bytes l ∙ ap (λ (b : Bool). (direction_to to l).written ++ cond b [] bytes) is ∙ append-nil (direction_to to l).written in
    let closed : l'.is_cut ≡ true = written_cut to bytes l ∙ is in
    outgoing_vanish (outgoing_elsewhere h i l l' at text (λ kept. sym (written_cut to bytes l) ∙ kept)) k
    (λ x there kept. ⊎_elim (λ p. false≢true (sym kept ∙ ap (λ (y : Link). y.is_cut) (sym p.1) ∙ closed)) (λ p. p.0 refl) (put_cases links i i l' x there))
outgoing_on_link to i e k links l bytes false is h at same =
    outgoing_wrote h k l (written_to to bytes l) at is
    (written_text to bytes l ∙ ap (λ (b : Bool). (direction_to to l).written ++ cond b [] bytes) is ∙ ap (λ (t : List ℕ). (direction_to to l).written ++ t) same)

view_written : (start : ℕ) (s : Side) (i j : ℕ) (p o : Peer) (links : List Link) (k : ℕ) (found : Option Link) → View start s i j p o links → k ≤ length (shown p.endpoint) → at_number links i ≡ found
    → View start s i j (with_endpoint (wrote k p.endpoint) p) o (links_written s (take k (shown p.endpoint)) i found links)
view_written start s i j p o links k None v fits is =
    view_call start s i j p o links (wrote k p.endpoint) v (kept_wrote k p.endpoint)
    (outgoing_by_wrote (other s) i p.endpoint k links links v.mine fits (outgoing_vanish v.mine k (λ l at kept. none-some l (sym is ∙ at)))) (away_wrote k p.endpoint v.away)
view_written start s i j p o links k (Some l) v fits is =
    let bytes : List ℕ = take k (shown p.endpoint) in
    let l' : Link = written_to (other s) bytes l in
    let links' : List Link = put_number links i l' in
    let kept : Kept p.endpoint (wrote k p.endpoint) = kept_wrote k p.endpoint in
    let aside : direction_to s l' ≡ direction_to s l = written_other s bytes l in
    let reads : EndpointRead s i p.endpoint p.applied links' =
    incoming_elsewhere v.reads i l l' [] is (ap (λ (w : Direction). w.read) aside) (ap (λ (w : Direction). w.written) aside ∙ sym (append-nil (direction_to s l).written)) in
    record {
      base = kept.base ∙ v.base;
      their_base = v.their_base;
      away = away_wrote k p.endpoint v.away;
      their_away = v.their_away;
      mine = outgoing_by_wrote (other s) i p.endpoint k links links' v.mine fits (outgoing_on_link (other s) i p.endpoint k links l bytes l.is_cut refl v.mine is (shown_front p.endpoint k fits));
      reads = kept.incoming s i p.applied links' reads;
      theirs = outgoing_elsewhere v.theirs i l l' is (ap (λ (w : Direction). w.written) aside) (λ k. sym (written_cut (other s) bytes l) ∙ k);
      their_reads = incoming_elsewhere v.their_reads i l l' (cond l.is_cut [] bytes) is (written_read (other s) bytes l) (written_text (other s) bytes l);
      out = agrees_more start (messages p.endpoint) (messages (wrote k p.endpoint)) p.endpoint.acknowledged (wrote k p.endpoint).acknowledged o.heard kept.more o.endpoint.received v.out kept.said kept.acknowledged;
      back = agrees_same start (messages o.endpoint) o.endpoint.acknowledged p.heard p.endpoint.received (wrote k p.endpoint).received v.back kept.received;
    }

-- bytes are written on the present link, where there is one
pub view_write : (start : ℕ) (s : Side) (i j : ℕ) (p o : Peer) (links : List Link) (k : ℕ) → View start s i j p o links → k ≤ length (shown p.endpoint)
    → View start s i j (with_endpoint (wrote k p.endpoint) p) o (links_written s (take k (shown p.endpoint)) i (at_number links i) links)
view_write start s i j p o links k v fits = view_written start s i j p o links k (at_number links i) v fits refl
