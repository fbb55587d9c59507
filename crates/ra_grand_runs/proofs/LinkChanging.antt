-- A change of one link of a client keeps what holds of the client.
use Rattle.std.proofs.Common.{◌≡◌, ℕ, zero, suc, ◌+◌, ◌≤◌, Bool, true, false, cond, Option, Some, None, List, [], ◌∷◌, ◌++◌, length, take, drop, refl, ap, sym, ◌∙◌, subst, append-nil, length-drop, arith}
use Rattle.std.specs.Prelude.{slice_get, slice_set}
use Rattle.std.proofs.Math.Seq.{take-add}
use Rattle.std.proofs.lemmas.List.{length-take, take_min}
use Rattle.ra_base.specs.declared.event.Side.TheVariants.{A}
use Rattle.ra_base.specs.declared.key.Key.{Key}
use Rattle.ra_model.specs.Links.{Direction, readable, read_on, cut_off}
use Rattle.ra_dial.specs.declared.stage.Stage.{Stage}
use Rattle.ra_dial.specs.declared.stage.Stage.TheVariants as stages
use Rattle.ra_dial.specs.declared.values.DialEvent.TheVariants as events
use Rattle.ra_dial.specs.Handshakes.{fed_to}
use Rattle.ra_dial.specs.ShakingStates.{ShakingState}
use Rattle.ra_grand_runs.specs.GrandClients.{GrandLink, Client, dialled}
use Rattle.ra_grand_runs.specs.Grands.{with_link}
use Rattle.ra_grand_runs.specs.Lasts.{OnLastOf, OnLastIfAny, OnLast}
use Rattle.ra_grand_runs.specs.Reached.{LinkHolds, LinksHold, ReadsLink, HandshakeReads, StageReads, IsAsked, HasAsked, ClientHolds, read_of}
use Rattle.ra_grand_runs.proofs.ClientHolding.{piece_holds}
use Rattle.ra_grand_runs.proofs.DialerHolding.{fed_stage}

-- ---- one of a list

there_is : {X : Type 0} → {x y : X} → ◌≡◌ {A = Option X} (Some x) (Some y) → x ≡ y
there_is e = cc

behind_any : {X : Type 0} → (P : X → Type 0) (x y : X) (ys : List X) (k : ℕ) (m : X) → OnLastIfAny P (slice_set (y ∷ ys) k m) → OnLastOf P x (slice_set (y ∷ ys) k m)
behind_any P x y ys zero m holds = holds
behind_any P x y ys (suc k) m holds = holds

any_of : {X : Type 0} → (P : X → Type 0) (l m x : X) (xs : List X) (k : ℕ) → slice_get (x ∷ xs) k ≡ Some l → (P l → P m) → OnLastOf P x xs → OnLastIfAny P (slice_set (x ∷ xs) k m)
any_of P l m x [] zero is each holds = each (subst (λ y. P y) (there_is is) holds)
any_of P l m x [] (suc k) is each holds = absurd cc
any_of P l m x (y ∷ ys) zero is each holds = holds
any_of P l m x (y ∷ ys) (suc k) is each holds = behind_any P x y ys k m (any_of P l m y ys k is each holds)

pub any_set : {X : Type 0} → (P : X → Type 0) (l m : X) (xs : List X) (k : ℕ) → slice_get xs k ≡ Some l → (P l → P m) → OnLastIfAny P xs → OnLastIfAny P (slice_set xs k m)
any_set P l m [] k is each holds = tt
any_set P l m (x ∷ xs) k is each holds = any_of P l m x xs k is each holds

is_there : {X : Type 0} → (P : X → Type 0) (x : X) (xs : List X) (k : ℕ) (m : X) → OnLastIfAny P (slice_set (x ∷ xs) k m) → OnLast P (slice_set (x ∷ xs) k m)
is_there P x xs zero m holds = holds
is_there P x xs (suc k) m holds = holds

pub last_set : {X : Type 0} → (P : X → Type 0) (l m : X) (xs : List X) (k : ℕ) → slice_get xs k ≡ Some l → (P l → P m) → OnLast P xs → OnLast P (slice_set xs k m)
last_set P l m [] k is each holds = holds
last_set P l m (x ∷ xs) k is each holds = is_there P x xs k m (any_of P l m x xs k is each holds)

-- the last itself becomes another
new_of : {X : Type 0} → (P Q : X → Type 0) (l m x : X) (xs : List X) (k : ℕ) → slice_get (x ∷ xs) k ≡ Some l → slice_get (x ∷ xs) (suc k) ≡ None → (P l → Q m) → OnLastOf P x xs
    → OnLastIfAny Q (slice_set (x ∷ xs) k m)
new_of P Q l m x [] zero is none each holds = each (subst (λ y. P y) (there_is is) holds)
new_of P Q l m x [] (suc k) is none each holds = absurd cc
new_of P Q l m x (y ∷ ys) zero is none each holds = absurd cc
new_of P Q l m x (y ∷ ys) (suc k) is none each holds = behind_any Q x y ys k m (new_of P Q l m y ys k is none each holds)

pub new_last : {X : Type 0} → (P Q : X → Type 0) (l m : X) (xs : List X) (k : ℕ) → slice_get xs k ≡ Some l → slice_get xs (suc k) ≡ None → (P l → Q m) → OnLast P xs → OnLast Q (slice_set xs k m)
new_last P Q l m [] k is none each holds = holds
new_last P Q l m (x ∷ xs) k is none each holds = is_there Q x xs k m (new_of P Q l m x xs k is none each holds)

-- one before the last becomes another
older_of : {X : Type 0} → (P : X → Type 0) (m n x : X) (xs : List X) (k : ℕ) → slice_get (x ∷ xs) (suc k) ≡ Some n → OnLastOf P x xs → OnLastIfAny P (slice_set (x ∷ xs) k m)
older_of P m n x [] k is holds = absurd cc
older_of P m n x (y ∷ ys) zero is holds = holds
older_of P m n x (y ∷ ys) (suc k) is holds = behind_any P x y ys k m (older_of P m n y ys k is holds)

pub older_set : {X : Type 0} → (P : X → Type 0) (m n : X) (xs : List X) (k : ℕ) → slice_get xs (suc k) ≡ Some n → OnLast P xs → OnLast P (slice_set xs k m)
older_set P m n [] k is holds = holds
older_set P m n (x ∷ xs) k is holds = is_there P x xs k m (older_of P m n x xs k is holds)

-- ---- links

-- all that holds of this link holds of that one
abbrev pub HoldsAsWell : Key → GrandLink → GrandLink → Type 0
HoldsAsWell owner l m = (drawn : List ℕ) → LinkHolds owner drawn l → LinkHolds owner drawn m

pub links_set : (owner : Key) (links : List GrandLink) (k : ℕ) (l m : GrandLink) → slice_get links k ≡ Some l → HoldsAsWell owner l m → LinksHold owner links → LinksHold owner (slice_set links k m)
links_set owner [] k l m is holds hold = tt
links_set owner (x ∷ xs) zero l m is holds hold = ((hold.0.0, holds hold.0.0 (subst (λ (y : GrandLink). LinkHolds owner hold.0.0 y) (there_is is) hold.0.1)), hold.1)
links_set owner (x ∷ xs) (suc k) l m is holds hold = (hold.0, links_set owner xs k l m is holds hold.1)

pub asked_set : (stage : Stage) (links : List GrandLink) (k : ℕ) (l m : GrandLink) → slice_get links k ≡ Some l → (IsAsked l → IsAsked m) → HasAsked stage links → HasAsked stage (slice_set links k m)
asked_set (stages.Resting until) links k l m is each asked = any_set IsAsked l m links k is each asked
asked_set (stages.Calling since) links k l m is each asked = any_set IsAsked l m links k is each asked
asked_set (stages.Shaking since s) links k l m is each asked = any_set IsAsked l m links k is each asked
asked_set stages.Attached links k l m is each asked = any_set IsAsked l m links k is each asked
asked_set (stages.Over end) links k l m is each asked = tt

-- what a handshake reads of its link
handshake_by : (owner : Key) (s : ShakingState) (key : Option (List ℕ)) (links others : List GrandLink)
    → ((drawn : List ℕ) → OnLast (ReadsLink owner drawn s.unread) links → OnLast (ReadsLink owner drawn s.unread) others) → HandshakeReads owner s key links → HandshakeReads owner s key others
handshake_by owner s None links others each reads = tt
handshake_by owner s (Some drawn) links others each reads = (reads.0, each drawn reads.1)

stage_by : (owner : Key) (stage : Stage) (links others : List GrandLink)
    → ((drawn unread : List ℕ) → OnLast (ReadsLink owner drawn unread) links → OnLast (ReadsLink owner drawn unread) others) → StageReads owner stage links → StageReads owner stage others
stage_by owner (stages.Resting until) links others each reads = tt
stage_by owner (stages.Calling since) links others each reads = tt
stage_by owner (stages.Shaking since s) links others each reads = handshake_by owner s s.key links others (λ drawn. each drawn s.unread) reads
stage_by owner stages.Attached links others each reads = tt
stage_by owner (stages.Over end) links others each reads = tt

-- ---- a client

changed_with : (c : Client) (k : ℕ) (l m : GrandLink) → ClientHolds c → slice_get c.links k ≡ Some l → HoldsAsWell c.key l m → (IsAsked l → IsAsked m)
    → StageReads c.key c.dialer.stage (slice_set c.links k m) → ClientHolds (with_link (suc k) m c)
changed_with c k l m h is holds asks reads = record {
  token = h.token;
  kind = h.kind;
  settings = h.settings;
  pending = h.pending;
  links = links_set c.key c.links k l m is holds h.links;
  asked = asked_set c.dialer.stage c.links k l m is asks h.asked;
  reads = reads;
}

-- the client has read no more of it than before
pub link_changed : (c : Client) (k : ℕ) (l m : GrandLink) → ClientHolds c → slice_get c.links k ≡ Some l → HoldsAsWell c.key l m → (IsAsked l → IsAsked m)
    → read_of l.link.to_a ≡ read_of m.link.to_a → ClientHolds (with_link (suc k) m c)
link_changed c k l m h is holds asks same =
    changed_with c k l m h is holds asks
    (stage_by c.key c.dialer.stage c.links (slice_set c.links k m)
    (λ drawn unread reads. last_set (ReadsLink c.key drawn unread) l m c.links k is (λ r. record { link = holds drawn r.link; unread_is = r.unread_is ∙ same }) reads) h.reads)

-- it is not the last one
pub older_changed : (c : Client) (k : ℕ) (l m n : GrandLink) → ClientHolds c → slice_get c.links k ≡ Some l → slice_get c.links (suc k) ≡ Some n → HoldsAsWell c.key l m
    → (IsAsked l → IsAsked m) → ClientHolds (with_link (suc k) m c)
older_changed c k l m n h is next holds asks =
    changed_with c k l m h is holds asks
    (stage_by c.key c.dialer.stage c.links (slice_set c.links k m) (λ drawn unread reads. older_set (ReadsLink c.key drawn unread) m n c.links k next reads) h.reads)

-- ---- a link that is cut

cut_as_well : (owner : Key) (l : GrandLink) → HoldsAsWell owner l (record l { link = cut_off l.link })
cut_as_well owner l drawn h = record {
  drawn_len = h.drawn_len;
  drawn_bytes = h.drawn_bytes;
  reconnection = h.reconnection;
  head = h.head;
  request = h.request;
  up = h.up;
  down = h.down;
  seen = h.seen;
  put = h.put;
  put_all = λ none. absurd cc;
  end = h.end;
}

pub cut_holds : (c : Client) (k : ℕ) (l : GrandLink) → ClientHolds c → slice_get c.links k ≡ Some l → ClientHolds (with_link (suc k) (record l { link = cut_off l.link }) c)
cut_holds c k l h is = link_changed c k l (record l { link = cut_off l.link }) h is (cut_as_well c.key l) (λ asked. asked) refl

-- ---- bytes that come down

unread_if : (cut : Bool) (d : Direction) (n : ℕ) → n ≤ length (cond cut [] (drop d.read d.written)) → d.read ≤ length d.written → d.read + n ≤ length d.written
unread_if true d n within read = omega (arith, within, read)
unread_if false d n within read = omega (arith, within, read, length-drop d.read d.written)

down_as_well : (owner : Key) (l : GrandLink) (n : ℕ) → n ≤ length (readable A l.link) → HoldsAsWell owner l (record l { link = read_on A n l.link })
down_as_well owner l n within drawn h = record {
  drawn_len = h.drawn_len;
  drawn_bytes = h.drawn_bytes;
  reconnection = h.reconnection;
  head = h.head;
  request = h.request;
  up = h.up;
  down = unread_if l.link.is_cut l.link.to_a n within h.down;
  seen = h.seen;
  put = h.put;
  put_all = h.put_all;
  end = h.end;
}

none_of : (m : ℕ) → take {A = ℕ} m [] ≡ []
none_of zero = refl
none_of (suc n) = refl

-- what was read, and what is read then
front_read : (cut : Bool) (d : Direction) (m : ℕ) → take (d.read + length (take m (cond cut [] (drop d.read d.written)))) d.written ≡ take d.read d.written ++ take m (cond cut [] (drop d.read d.written))
front_read true d m =
    ap (λ (xs : List ℕ). take (d.read + length xs) d.written) (none_of m) ∙ ap (λ (n : ℕ). take n d.written) (omega arith) ∙ sym (append-nil (take d.read d.written))
    ∙ ap (λ (xs : List ℕ). take d.read d.written ++ xs) (sym (none_of m))
front_read false d m =
    take-add d.read (length (take m (drop d.read d.written))) d.written
    ∙ ap (λ (xs : List ℕ). take d.read d.written ++ xs)
    (ap (λ (n : ℕ). take n (drop d.read d.written)) (length-take m (drop d.read d.written)) ∙ take_min m (drop d.read d.written))

-- a handshake takes the bytes that were read of its link
fed_key : (rest : Option (List ℕ)) (bytes : List ℕ) (s : ShakingState) → (fed_to rest bytes s).key ≡ s.key
fed_key None bytes s = refl
fed_key (Some rest) bytes s = refl

fed_handshake : (owner : Key) (bytes : List ℕ) (s : ShakingState) (key : Option (List ℕ)) (links others : List GrandLink) → s.key ≡ key
    → ((drawn : List ℕ) → OnLast (ReadsLink owner drawn s.unread) links → OnLast (ReadsLink owner drawn (s.unread ++ bytes)) others)
    → HandshakeReads owner s key links → HandshakeReads owner (fed_to s.rest bytes s) (fed_to s.rest bytes s).key others
fed_handshake owner bytes s None links others is each reads =
    subst (λ (key : Option (List ℕ)). HandshakeReads owner (fed_to s.rest bytes s) key others) (sym (fed_key s.rest bytes s ∙ is)) tt
fed_handshake owner bytes s (Some drawn) links others is each reads =
    subst (λ (rest : Option (List ℕ)). HandshakeReads owner (fed_to rest bytes s) (fed_to rest bytes s).key others) (sym reads.0)
    (subst (λ (key : Option (List ℕ)). HandshakeReads owner (fed_to None bytes s) key others) (sym is) (reads.0, each drawn reads.1))

fed_by : (owner : Key) (bytes : List ℕ) (stage : Stage) (links others : List GrandLink)
    → ((drawn unread : List ℕ) → OnLast (ReadsLink owner drawn unread) links → OnLast (ReadsLink owner drawn (unread ++ bytes)) others)
    → StageReads owner stage links → StageReads owner (fed_stage bytes stage) others
fed_by owner bytes (stages.Resting until) links others each reads = tt
fed_by owner bytes (stages.Calling since) links others each reads = tt
fed_by owner bytes (stages.Shaking since s) links others each reads = fed_handshake owner bytes s s.key links others refl (λ drawn. each drawn s.unread) reads
fed_by owner bytes stages.Attached links others each reads = tt
fed_by owner bytes (stages.Over end) links others each reads = tt

abbrev pub read_down : List ℕ → GrandLink → GrandLink
read_down bytes l = record l { link = read_on A (length bytes) l.link }

front_within : (m : ℕ) (xs : List ℕ) → length (take m xs) ≤ length xs
front_within m xs = omega (arith, length-take m xs)

taken_within : (m : ℕ) (bytes xs : List ℕ) → bytes ≡ take m xs → length bytes ≤ length xs
taken_within m bytes xs taken = omega (arith, ap (λ (ys : List ℕ). length ys) taken, front_within m xs)

pub dropped_holds : (c : Client) (k : ℕ) (l n : GrandLink) (m : ℕ) (bytes : List ℕ) → bytes ≡ take m (readable A l.link) → ClientHolds c → slice_get c.links k ≡ Some l
    → slice_get c.links (suc k) ≡ Some n → ClientHolds (with_link (suc k) (read_down bytes l) c)
dropped_holds c k l n m bytes taken h is next =
    older_changed c k l (read_down bytes l) n h is next (down_as_well c.key l (length bytes) (taken_within m bytes (readable A l.link) taken)) (λ asked. asked)

pub fed_holds : (now : ℕ) (c : Client) (k : ℕ) (l : GrandLink) (m : ℕ) (bytes : List ℕ) → bytes ≡ take m (readable A l.link) → ClientHolds c → slice_get c.links k ≡ Some l
    → slice_get c.links (suc k) ≡ None → ClientHolds (dialled (events.Piece bytes) now (with_link (suc k) (read_down bytes l) c))
fed_holds now c k l m bytes taken h is last =
    let within : length bytes ≤ length (readable A l.link) = taken_within m bytes (readable A l.link) taken in
    let holds = down_as_well c.key l (length bytes) within in
    let read : read_of l.link.to_a ++ bytes ≡ read_of (read_down bytes l).link.to_a =
    ap (λ (xs : List ℕ). read_of l.link.to_a ++ xs) taken ∙ sym (front_read l.link.is_cut l.link.to_a m)
    ∙ ap (λ (xs : List ℕ). take (l.link.to_a.read + length xs) l.link.to_a.written) (sym taken) in
    piece_holds bytes now (with_link (suc k) (read_down bytes l) c) h.token h.kind h.settings h.pending (links_set c.key c.links k l (read_down bytes l) is holds h.links)
    (asked_set c.dialer.stage c.links k l (read_down bytes l) is (λ asked. asked) h.asked)
    (fed_by c.key bytes c.dialer.stage c.links (slice_set c.links k (read_down bytes l))
    (λ drawn unread reads. new_last (ReadsLink c.key drawn unread) (ReadsLink c.key drawn (unread ++ bytes)) l (read_down bytes l) c.links k is last
    (λ r. record { link = holds drawn r.link; unread_is = ap (λ (xs : List ℕ). xs ++ bytes) r.unread_is ∙ read }) reads) h.reads)
