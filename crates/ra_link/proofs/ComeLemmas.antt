-- Where the pieces of a link came from, a piece later.
use Rattle.std.proofs.Common.{◌≡◌, ℕ, ◌<◌, Bool, true, false, not, Option, Some, None, List, [], ◌∷◌, ◌++◌, length, take, drop, inl, inr, refl, sym, ap, subst, ◌∙◌, arith, append_assoc, append-nil}
use Rattle.std.specs.Prelude.{◌⊎◌, ◌&&◌, nat_lt}
use Rattle.std.proofs.lemmas.List.{take_all, length-take-le, take-append-drop}
use Rattle.std.proofs.lemmas.Bool.{ltb-true, ltb-false, le-ltb}
use Rattle.ra_items.specs.Heads.{Head}
use Rattle.ra_ports.specs.Links.{Incoming, Takes}
use Rattle.ra_upgrade.specs.declared.request_head.HeadFault.{HeadFault}
use Rattle.ra_upgrade.specs.declared.request_head.Upgrade.{Upgrade}
use Rattle.ra_link_core.specs.LinkRuns.{Piece, asks_framing, with_piece}
use Rattle.ra_link.specs.Pieces.{bytes_of, counted, is_framed, IsFrontOf, ComeUnframed, GoesFramed, ComeFramed, ComeBy, Come}
use Rattle.ra_link.specs.Served.{FramesBy, StartsFramed, UnableBy}
use Rattle.ra_link.specs.declared.ends.LinkEnd.{LinkEnd}
use Rattle.ra_link_core.proofs.CutLemmas.{with_by, still_judged, behind_counts}

-- ---- lists of pieces

pub counted_more : (head : Head Upgrade HeadFault) (before : List ℕ) (ps : List Piece) (p : Piece) → counted head before (ps ++ p ∷ []) ≡ with_piece head (counted head before ps) p.bytes
counted_more head before [] p = refl
counted_more head before (q ∷ qs) p = counted_more head (with_piece head before q.bytes) qs p

pub bytes_more : (ps : List Piece) (p : Piece) → bytes_of (ps ++ p ∷ []) ≡ bytes_of ps ++ p.bytes
bytes_more [] p = append-nil p.bytes
bytes_more (q ∷ qs) p = ap (λ (l : List ℕ). q.bytes ++ l) (bytes_more qs p) ∙ sym (append_assoc q.bytes (bytes_of qs) p.bytes)

pub takes_both : (a b c : Option (List ℕ)) (x y : List ℕ) → Takes a b x → Takes b c y → Takes a c (x ++ y)
takes_both a b c x y p q text is =
    let r = p text is in
    let t = q r.0 r.2 in
    (t.0, r.1 ∙ ap (λ (l : List ℕ). x ++ l) t.1 ∙ sym (append_assoc x y t.0), t.2)

pub takes_none : (a b c : Option (List ℕ)) (x : List ℕ) → Takes a b x → Takes b c [] → Takes a c x
takes_none a b c x p q = subst (λ (l : List ℕ). Takes a c l) (append-nil x) (takes_both a b c x [] p q)

-- ---- the head has ended

both_of : (a b : Bool) → (a && not b) ≡ true → (a ≡ true) × (b ≡ false)
both_of false b is = absurd cc
both_of true true is = absurd cc
both_of true false is = (refl, refl)

pub framed_asks : (head : Head Upgrade HeadFault) (text : List ℕ) → is_framed head text ≡ true → (asks_framing head.says ≡ true) × (nat_lt (length text) head.size ≡ false)
framed_asks head text is = both_of (asks_framing head.says) (nat_lt (length text) head.size) is

early_by : (a b : Bool) → (a && not b) ≡ false → a ≡ true → b ≡ true
early_by false b is asks = absurd cc
early_by true true is asks = refl
early_by true false is asks = absurd cc

pub unframed_early : (head : Head Upgrade HeadFault) (text : List ℕ) → is_framed head text ≡ false → asks_framing head.says ≡ true → nat_lt (length text) head.size ≡ true
unframed_early head text is asks = early_by (asks_framing head.says) (nat_lt (length text) head.size) is asks

framed_by : (a b : Bool) → a ≡ true → b ≡ false → (a && not b) ≡ true
framed_by a b asks judged = ap (λ (x : Bool). x && not b) asks ∙ ap not judged

pub framed_so : (head : Head Upgrade HeadFault) (text : List ℕ) → asks_framing head.says ≡ true → nat_lt (length text) head.size ≡ false → is_framed head text ≡ true
framed_so head text asks judged = framed_by (asks_framing head.says) (nat_lt (length text) head.size) asks judged

not_yet : (a b : Bool) → b ≡ true → (a && not b) ≡ false
not_yet false b is = refl
not_yet true true is = refl
not_yet true false is = absurd cc

pub open_unframed : (head : Head Upgrade HeadFault) (text : List ℕ) → nat_lt (length text) head.size ≡ true → is_framed head text ≡ false
open_unframed head text early = not_yet (asks_framing head.says) (nat_lt (length text) head.size) early

cut_size : (head : Head Upgrade HeadFault) (raw : List ℕ) → nat_lt (length raw) head.size ≡ false → length (take head.size raw) ≡ head.size
cut_size head raw judged = length-take-le head.size raw (ltb-false (length raw) head.size judged)

same_framed : (head : Head Upgrade HeadFault) (text other : List ℕ) → text ≡ other → is_framed head text ≡ is_framed head other
same_framed head text other is = ap (is_framed head) is

-- a link that is not framed behind a piece counts it whole
unframed_by : (a b c : Bool) (head : Head Upgrade HeadFault) (text piece : List ℕ) → asks_framing head.says ≡ a → nat_lt (length text) head.size ≡ b → nat_lt (length (text ++ piece)) head.size ≡ c
    → is_framed head (with_piece head text piece) ≡ false → with_piece head text piece ≡ text ++ piece
unframed_by false b c head text piece asks early judged is = with_by false b head text piece asks early
unframed_by true false c head text piece asks early judged is = with_by true false head text piece asks early
unframed_by true true true head text piece asks early judged is =
    let short : length (text ++ piece) < head.size = ltb-true (length (text ++ piece)) head.size judged in
    with_by true true head text piece asks early ∙ take_all head.size (text ++ piece) (omega (arith, short))
unframed_by true true false head text piece asks early judged is =
    let raw = text ++ piece in
    let counts : with_piece head text piece ≡ take head.size raw = with_by true true head text piece asks early in
    let whole : nat_lt (length (take head.size raw)) head.size ≡ false = le-ltb (length (take head.size raw)) head.size (let e = cut_size head raw judged in omega (arith, e)) in
    absurd (apart (sym (framed_so head (take head.size raw) asks whole) ∙ sym (same_framed head (with_piece head text piece) (take head.size raw) counts) ∙ is))
  where
    apart : true ≡ false → ⊥
    apart e = cc

pub unframed_counts : (head : Head Upgrade HeadFault) (text piece : List ℕ) → is_framed head (with_piece head text piece) ≡ false → with_piece head text piece ≡ text ++ piece
unframed_counts head text piece is =
    unframed_by (asks_framing head.says) (nat_lt (length text) head.size) (nat_lt (length (text ++ piece)) head.size) head text piece refl refl refl is

pub stays_framed : (head : Head Upgrade HeadFault) (text piece : List ℕ) → is_framed head text ≡ true → is_framed head (with_piece head text piece) ≡ true
stays_framed head text piece is =
    let f = framed_asks head text is in
    same_framed head (with_piece head text piece) (text ++ piece) (behind_counts head text piece f.1) ∙ framed_so head (text ++ piece) f.0 (still_judged head text piece f.1)

-- the piece in which the head ends
pub record HeadEnds (head : Head Upgrade HeadFault) (text piece : List ℕ) : Type 0 where
  pub judged : nat_lt (length (text ++ piece)) head.size ≡ false
  pub counts : with_piece head text piece ≡ take head.size (text ++ piece)
  pub size : length (take head.size (text ++ piece)) ≡ head.size

ends_by : (c : Bool) (head : Head Upgrade HeadFault) (text piece : List ℕ) → asks_framing head.says ≡ true → nat_lt (length text) head.size ≡ true → nat_lt (length (text ++ piece)) head.size ≡ c
    → is_framed head (with_piece head text piece) ≡ true → HeadEnds head text piece
ends_by false head text piece asks early judged is =
    record { judged = judged; counts = with_by true true head text piece asks early; size = cut_size head (text ++ piece) judged }
ends_by true head text piece asks early judged is =
    let raw = text ++ piece in
    let short : length raw < head.size = ltb-true (length raw) head.size judged in
    let counts : with_piece head text piece ≡ raw = with_by true true head text piece asks early ∙ take_all head.size raw (omega (arith, short)) in
    let whole = (framed_asks head raw (sym (same_framed head (with_piece head text piece) raw counts) ∙ is)).1 in
    absurd (apart (sym judged ∙ whole))
  where
    apart : true ≡ false → ⊥
    apart e = cc

pub head_ends : (head : Head Upgrade HeadFault) (text piece : List ℕ) → is_framed head text ≡ false → is_framed head (with_piece head text piece) ≡ true → HeadEnds head text piece
head_ends head text piece before after =
    let asks : asks_framing head.says ≡ true = (framed_asks head (with_piece head text piece) after).0 in
    ends_by (nat_lt (length (text ++ piece)) head.size) head text piece asks (unframed_early head text before asks) refl after

-- ---- a piece later

front_told : (a b : Option (List ℕ)) (bytes : List ℕ) → Takes a b bytes → IsFrontOf a bytes
front_told a b bytes takes text is = let t = takes text is in (t.0, t.1)

starts_told : (old new : Option (List ℕ)) → new ≡ old → Takes old new []
starts_told old new is text told = (text, refl, is ∙ told)

abbrev no_pieces : List Piece
no_pieces = []

starts_by : (was now : Incoming) (front : List ℕ) (sent : ℕ) (unable : Type 0) → (unable × (now.framed ≡ was.framed)) ⊎ StartsFramed front sent was now
    → ((no_pieces ≡ no_pieces) × unable × (now.framed ≡ was.framed)) ⊎ GoesFramed front sent was now []
starts_by was now front sent unable (inl x) = inl (refl, x.0, x.1)
starts_by was now front sent unable (inr x) =
    inr (record { handed = x.handed; taken = λ going payload is. starts_told (Some (front ++ payload)) now.left (x.payload going payload is) })

ends_there : (head : Head Upgrade HeadFault) (sent : List Piece → ℕ) (ps : List Piece) (p : Piece) (was then mid : Incoming) (now : Incoming) (unable : Type 0)
    → is_framed head (counted head [] ps) ≡ false → is_framed head (counted head [] (ps ++ p ∷ [])) ≡ true → ComeUnframed head ps was then
    → Takes then.left mid.left p.bytes
    → (unable × (now.framed ≡ was.framed)) ⊎ StartsFramed (drop head.size (counted head [] ps ++ p.bytes)) (sent (ps ++ p ∷ [])) was now
    → ComeFramed head sent (ps ++ p ∷ []) was now unable
ends_there head sent ps p was then mid now unable before after u took starts =
    let text = counted head [] ps in
    let raw = text ++ p.bytes in
    let first = ps ++ p ∷ [] in
    let more : counted head [] first ≡ with_piece head text p.bytes = counted_more head [] ps p in
    let e = head_ends head text p.bytes before (sym (same_framed head (counted head [] first) (with_piece head text p.bytes) more) ∙ after) in
    let counts : counted head [] first ≡ take head.size raw = more ∙ e.counts in
    let bytes : bytes_of first ≡ raw = bytes_more ps p ∙ ap (λ (l : List ℕ). l ++ p.bytes) (sym u.text) in
    let taken : IsFrontOf was.left (bytes_of first) =
    subst (λ (l : List ℕ). IsFrontOf was.left l) (sym (bytes_more ps p)) (front_told was.left mid.left (bytes_of ps ++ p.bytes) (takes_both was.left then.left mid.left (bytes_of ps) p.bytes u.taken took)) in
    record {
      first = first;
      behind = [];
      parts = sym (append-nil first);
      front = drop head.size raw;
      read = bytes ∙ sym (take-append-drop head.size raw) ∙ ap (λ (l : List ℕ). l ++ drop head.size raw) (sym counts);
      size = ap length counts ∙ e.size;
      text = sym (append-nil (counted head [] first));
      taken = taken;
      goes = starts_by was now (drop head.size raw) (sent first) unable starts;
    }

goes_on_framed : (head : Head Upgrade HeadFault) (sent : List Piece → ℕ) (ps : List Piece) (p : Piece) (was then mid now : Incoming) (unable : Type 0)
    → is_framed head (counted head [] ps) ≡ true → ComeFramed head sent ps was then ⊥ → Takes then.left mid.left p.bytes → mid.framed ≡ then.framed → now ≡ mid
    → ComeFramed head sent (ps ++ p ∷ []) was now unable
goes_on_framed head sent ps p was then mid now unable before f took stays same = record {
  first = f.first;
  behind = f.behind ++ p ∷ [];
  parts = ap (λ (l : List Piece). l ++ p ∷ []) f.parts ∙ append_assoc f.first f.behind (p ∷ []);
  front = f.front;
  read = f.read;
  size = f.size;
  text =
      counted_more head [] ps p ∙ behind_counts head (counted head [] ps) p.bytes (framed_asks head (counted head [] ps) before).1
      ∙ ap (λ (l : List ℕ). l ++ p.bytes) f.text ∙ append_assoc (counted head [] f.first) (bytes_of f.behind) p.bytes
      ∙ ap (λ (l : List ℕ). counted head [] f.first ++ l) (sym (bytes_more f.behind p));
  taken = f.taken;
  goes = goes_of f.goes;
}
  where
    goes_of : ((f.behind ≡ []) × ⊥ × (then.framed ≡ was.framed)) ⊎ GoesFramed f.front (sent f.first) was then (bytes_of f.behind)
        → (((f.behind ++ p ∷ []) ≡ []) × unable × (now.framed ≡ was.framed)) ⊎ GoesFramed f.front (sent f.first) was now (bytes_of (f.behind ++ p ∷ []))
    goes_of (inl x) = absurd x.1
    goes_of (inr x) = inr (record {
      handed = ap (λ (i : Incoming). i.framed) same ∙ stays ∙ x.handed;
      taken = λ going payload is.
          subst (λ (l : List ℕ). Takes (Some (f.front ++ payload)) now.left l) (sym (bytes_more f.behind p))
          (subst (λ (i : Incoming). Takes (Some (f.front ++ payload)) i.left (bytes_of f.behind ++ p.bytes)) (sym same)
          (takes_both (Some (f.front ++ payload)) then.left mid.left (bytes_of f.behind) p.bytes (x.taken going payload is) took));
    })

goes_on_unframed : (head : Head Upgrade HeadFault) (ps : List Piece) (p : Piece) (was then mid now : Incoming)
    → is_framed head (counted head [] (ps ++ p ∷ [])) ≡ false → ComeUnframed head ps was then → Takes then.left mid.left p.bytes → mid.payload ≡ then.payload → mid.framed ≡ then.framed → now ≡ mid
    → ComeUnframed head (ps ++ p ∷ []) was now
goes_on_unframed head ps p was then mid now after u took keeps stays same =
    let text = counted head [] ps in
    let more : counted head [] (ps ++ p ∷ []) ≡ with_piece head text p.bytes = counted_more head [] ps p in
    let counts = unframed_counts head text p.bytes (sym (same_framed head (counted head [] (ps ++ p ∷ [])) (with_piece head text p.bytes) more) ∙ after) in
    record {
      text = more ∙ counts ∙ ap (λ (l : List ℕ). l ++ p.bytes) u.text ∙ sym (bytes_more ps p);
      taken =
          subst (λ (i : Incoming). Takes was.left i.left (bytes_of (ps ++ p ∷ []))) (sym same)
          (subst (λ (l : List ℕ). Takes was.left mid.left l) (sym (bytes_more ps p)) (takes_both was.left then.left mid.left (bytes_of ps) p.bytes u.taken took));
      payload = ap (λ (i : Incoming). i.payload) same ∙ keeps ∙ u.payload;
      framed = ap (λ (i : Incoming). i.framed) same ∙ stays ∙ u.framed;
    }

pub come_more : (a b : Bool) (e : Option LinkEnd) (head : Head Upgrade HeadFault) (sent : List Piece → ℕ) (ps : List Piece) (p : Piece) (was then mid now : Incoming)
    → is_framed head (counted head [] ps) ≡ a → is_framed head (counted head [] (ps ++ p ∷ [])) ≡ b → ComeBy a head sent ps was then ⊥
    → Takes then.left mid.left p.bytes → mid.payload ≡ then.payload → mid.framed ≡ then.framed → (was.ended ≡ false → mid.ended ≡ false)
    → FramesBy a b e (drop head.size (counted head [] ps ++ p.bytes)) (sent (ps ++ p ∷ [])) mid now
    → ComeBy b head sent (ps ++ p ∷ []) was now (UnableBy e)
come_more false false e head sent ps p was then mid now before after u took keeps stays going frames =
    goes_on_unframed head ps p was then mid now after u took keeps stays frames
come_more false true None head sent ps p was then mid now before after u took keeps stays going frames =
    ends_there head sent ps p was then mid now ⊥ before after u took
    (inr (record { payload = λ running payload is. frames.payload (going running) payload (keeps ∙ u.payload ∙ is); handed = frames.handed }))
come_more false true (Some end) head sent ps p was then mid now before after u took keeps stays going frames =
    ends_there head sent ps p was then mid now (UnableBy (Some end)) before after u took (inl (frames.0, frames.1 ∙ stays ∙ u.framed))
come_more true true e head sent ps p was then mid now before after f took keeps stays going frames =
    goes_on_framed head sent ps p was then mid now (UnableBy e) before f took stays frames
come_more true false e head sent ps p was then mid now before after f took keeps stays going frames =
    absurd (apart (sym (stays_framed head (counted head [] ps) p.bytes before) ∙ sym (same_framed head (counted head [] (ps ++ p ∷ [])) (with_piece head (counted head [] ps) p.bytes) (counted_more head [] ps p)) ∙ after))
  where
    apart : true ≡ false → ⊥
    apart e = cc

-- nothing more came
pub come_stays : (b : Bool) (head : Head Upgrade HeadFault) (sent : List Piece → ℕ) (ps : List Piece) (was then now : Incoming) (unable : Type 0)
    → ComeBy b head sent ps was then ⊥ → Takes then.left now.left [] → now.payload ≡ then.payload → now.framed ≡ then.framed → ComeBy b head sent ps was now unable
come_stays false head sent ps was then now unable u took keeps stays =
    record { text = u.text; taken = takes_none was.left then.left now.left (bytes_of ps) u.taken took; payload = keeps ∙ u.payload; framed = stays ∙ u.framed }
come_stays true head sent ps was then now unable f took keeps stays = record {
  first = f.first;
  behind = f.behind;
  parts = f.parts;
  front = f.front;
  read = f.read;
  size = f.size;
  text = f.text;
  taken = f.taken;
  goes = goes_of f.goes;
}
  where
    goes_of : ((f.behind ≡ []) × ⊥ × (then.framed ≡ was.framed)) ⊎ GoesFramed f.front (sent f.first) was then (bytes_of f.behind)
        → ((f.behind ≡ []) × unable × (now.framed ≡ was.framed)) ⊎ GoesFramed f.front (sent f.first) was now (bytes_of f.behind)
    goes_of (inl x) = absurd x.1
    goes_of (inr x) = inr (record {
      handed = stays ∙ x.handed;
      taken = λ going payload is. takes_none (Some (f.front ++ payload)) then.left now.left (bytes_of f.behind) (x.taken going payload is) took;
    })

-- nothing came yet
come_none : (b : Bool) (head : Head Upgrade HeadFault) (sent : List Piece → ℕ) (was : Incoming) (unable : Type 0) → b ≡ false → ComeBy b head sent [] was was unable
come_none false head sent was unable is = record { text = refl; taken = starts_told was.left was.left refl; payload = refl; framed = refl }
come_none true head sent was unable is = absurd cc

pub come_nothing : (head : Head Upgrade HeadFault) (sent : List Piece → ℕ) (was : Incoming) (unable : Type 0) → nat_lt (length {A = ℕ} []) head.size ≡ true → Come head sent [] was was unable
come_nothing head sent was unable early = come_none (is_framed head []) head sent was unable (open_unframed head [] early)

pub come_same : (b : Bool) (head : Head Upgrade HeadFault) (sent : List Piece → ℕ) (ps : List Piece) (was now : Incoming) (unable : Type 0) → ComeBy b head sent ps was now ⊥ → ComeBy b head sent ps was now unable
come_same b head sent ps was now unable x = come_stays b head sent ps was now now unable x (starts_told now.left now.left refl) refl refl
