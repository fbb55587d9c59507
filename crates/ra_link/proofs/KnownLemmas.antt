-- Some head answers each front of the text that counts, a piece later.
use Rattle.std.proofs.Common.{◌≡◌, ℕ, ◌+◌, ◌<◌, ◌≤◌, Bool, true, false, not, Option, Result, Some, None, Ok, Err, List, [], ◌∷◌, ◌++◌, if◌then◌else◌, length, take, drop, inl, refl, sym, ap, subst, ◌∙◌, arith, append_assoc, append-nil}
use Rattle.std.specs.Prelude.{◌&&◌, nat_lt}
use Rattle.std.proofs.lemmas.List.{take_all, length-append, take-append-drop}
use Rattle.std.proofs.lemmas.Bool.{ltb-true, lt-ltb}
use Rattle.ra_items.specs.Heads.{Head, IsRequestOf, answered, sized}
use Rattle.ra_items.specs.Readers.{Reader}
use Rattle.ra_items.proofs.HeadLemmas.{one_head, whole_answer, fronts_of, request_found, request_stays}
use Rattle.ra_upgrade.specs.Ends.{NeverEnds}
use Rattle.ra_upgrade.specs.RequestHeads.{HeadIs}
use Rattle.ra_upgrade.specs.declared.request_head.HeadFault.{HeadFault}
use Rattle.ra_upgrade.specs.declared.request_head.Upgrade.{Upgrade}
use Rattle.ra_opening.specs.Comes.{HasHead}
use Rattle.ra_opening.specs.declared.phase.Phase.{Phase as OpeningPhase}
use Rattle.ra_opening.specs.declared.phase.Phase.TheVariants as opening_phases
use Rattle.ra_opening.specs.Openings.{Grounds}
use Rattle.ra_opening.specs.Stands.{StandsIn, NeedsFraming}
use Rattle.ra_hub.specs.Hubs.{Hub}
use Rattle.ra_hub.specs.Jobs.{SeenJob}
use Rattle.ra_link_core.specs.LinkRuns.{Serving, Piece, asks_framing, with_piece}
use Rattle.ra_link_core.specs.Makes.{Outcome, goes, over, unkept, short, outcome_of}
use Rattle.ra_link_core.specs.Cores.{CoreStands, NotHeld, KnowsHead, OnNoHead, IsBehindHead}
use Rattle.ra_link.specs.Pieces.{bytes_of, counted, HaveHead}
use Rattle.ra_link.specs.Served.{LinkOutcome, link_closed, link_broke, link_spent, link_over, link_unkept, link_short, link_outcome, link_end, broken_end, OnNotShort, LinkKnows}
use Rattle.ra_link_core.specs.declared.ends.CoreEnd.{CoreEnd}
use Rattle.ra_link.specs.declared.ends.LinkEnd.{LinkEnd}
use Rattle.ra_link_core.specs.declared.phase.Phase.{Phase}
use Rattle.ra_link_core.specs.declared.phase.Phase.TheVariants as phases
use Rattle.ra_link_core.proofs.CutLemmas.{no_items, waiting_behind, with_longer, with_by, behind_counts}
use Rattle.ra_link.proofs.ComeLemmas.{counted_more, unframed_counts}
use Rattle.ra_link_core.proofs.PieceLemmas.{unheld_stands}
use Rattle.ra_link.proofs.ServeLemmas.{lifted, end_lifted, broken_to, any_broken}

never_both : true ≡ false → ⊥
never_both e = cc

-- ---- before the end of the head

early_piece : (head : Head Upgrade HeadFault) (text piece : List ℕ) → length (text ++ piece) < head.size → with_piece head text piece ≡ text ++ piece
early_piece head text piece below = early_by_cases (asks_framing head.says) (nat_lt (length text) head.size) head text piece refl refl below
  where
    early_by_cases : (a b : Bool) (head : Head Upgrade HeadFault) (text piece : List ℕ) → asks_framing head.says ≡ a → nat_lt (length text) head.size ≡ b → length (text ++ piece) < head.size → with_piece head text piece ≡ text ++ piece
    early_by_cases false b head text piece asks early below = with_by false b head text piece asks early
    early_by_cases true false head text piece asks early below = with_by true false head text piece asks early
    early_by_cases true true head text piece asks early below = with_by true true head text piece asks early ∙ take_all head.size (text ++ piece) (omega (arith, below))

-- what counts only grows
counted_longer : (head : Head Upgrade HeadFault) (before : List ℕ) (ps : List Piece) → length before ≤ length (counted head before ps)
counted_longer head before [] = omega arith
counted_longer head before (p ∷ ps) =
    let piece = with_piece head before p.bytes in
    let longer = with_longer head before p.bytes in
    let one : length piece ≡ length before + length longer.more = ap length longer.parts ∙ length-append before longer.more in
    omega (arith, one, counted_longer head piece ps)

early_front : (head : Head Upgrade HeadFault) (before : List ℕ) (ps : List Piece) → nat_lt (length (counted head before ps)) head.size ≡ true → nat_lt (length before) head.size ≡ true
early_front head before ps early =
    let less : length (counted head before ps) < head.size = ltb-true (length (counted head before ps)) head.size early in
    lt-ltb (length before) head.size (omega (arith, less, counted_longer head before ps))

early_whole : (head : Head Upgrade HeadFault) (text piece : List ℕ) → nat_lt (length (with_piece head text piece)) head.size ≡ true → with_piece head text piece ≡ text ++ piece
early_whole head text piece early = unframed_counts head text piece (not_yet (asks_framing head.says) (nat_lt (length (with_piece head text piece)) head.size) early)
  where
    not_yet : (a b : Bool) → b ≡ true → (a && not b) ≡ false
    not_yet false b is = refl
    not_yet true true is = refl
    not_yet true false is = absurd cc

-- up to its head all of a text counts
counted_whole : (head : Head Upgrade HeadFault) (before : List ℕ) (ps : List Piece) → length (before ++ bytes_of ps) < head.size → counted head before ps ≡ before ++ bytes_of ps
counted_whole head before [] below = sym (append-nil before)
counted_whole head before (p ∷ ps) below =
    let same : before ++ (p.bytes ++ bytes_of ps) ≡ (before ++ p.bytes) ++ bytes_of ps = sym (append_assoc before p.bytes (bytes_of ps)) in
    let less : length ((before ++ p.bytes) ++ bytes_of ps) < head.size = subst (λ (l : List ℕ). length l < head.size) same below in
    let one : with_piece head before p.bytes ≡ before ++ p.bytes = early_piece head before p.bytes (omega (arith, less, length-append (before ++ p.bytes) (bytes_of ps))) in
    ap (λ (l : List ℕ). counted head l ps) one ∙ counted_whole head (before ++ p.bytes) ps less ∙ sym same

-- and so it does where what counts has not reached the end of the head
early_counts : (head : Head Upgrade HeadFault) (before : List ℕ) (ps : List Piece) → nat_lt (length (counted head before ps)) head.size ≡ true → counted head before ps ≡ before ++ bytes_of ps
early_counts head before [] early = sym (append-nil before)
early_counts head before (p ∷ ps) early =
    let piece = with_piece head before p.bytes in
    let one : piece ≡ before ++ p.bytes = early_whole head before p.bytes (early_front head piece ps early) in
    early_counts head piece ps early ∙ ap (λ (l : List ℕ). l ++ bytes_of ps) one ∙ append_assoc before p.bytes (bytes_of ps)

open_answer : (head : Head Upgrade HeadFault) (n : ℕ) → nat_lt n head.size ≡ true → answered head n ≡ Ok None
open_answer head n early = ap (λ (b : Bool). if b then Ok None else sized head.size head.says) early

never_sized : (says : Result Upgrade HeadFault) (n : ℕ) → sized n says ≡ Ok None → ⊥
never_sized (Ok upgrade) n is = absurd cc
never_sized (Err fault) n is = absurd cc

early_by : (b : Bool) (head : Head Upgrade HeadFault) → (if b then Ok None else sized head.size head.says) ≡ Ok None → b ≡ true
early_by true head is = refl
early_by false head is = absurd (never_sized head.says head.size is)

-- what is counted of a text has its head
front_by : (a b : Bool) (head : Head Upgrade HeadFault) (text piece : List ℕ) → asks_framing head.says ≡ a → nat_lt (length text) head.size ≡ b → IsRequestOf (text ++ piece) head → IsRequestOf (with_piece head text piece) head
front_by false b head text piece asks early is = subst (λ (t : List ℕ). IsRequestOf t head) (sym (with_by false b head text piece asks early)) is
front_by true false head text piece asks early is = subst (λ (t : List ℕ). IsRequestOf t head) (sym (with_by true false head text piece asks early)) is
front_by true true head text piece asks early is =
    let raw = text ++ piece in
    let parts : IsRequestOf (take head.size raw ++ drop head.size raw) head = subst (λ (t : List ℕ). IsRequestOf t head) (sym (take-append-drop head.size raw)) is in
    subst (λ (t : List ℕ). IsRequestOf t head) (sym (with_by true true head text piece asks early)) (fronts_of HeadIs (take head.size raw) (drop head.size raw) head parts)

front_has : (head : Head Upgrade HeadFault) (text piece : List ℕ) → IsRequestOf (text ++ piece) head → IsRequestOf (with_piece head text piece) head
front_has head text piece is = front_by (asks_framing head.says) (nat_lt (length text) head.size) head text piece refl refl is

-- the text goes on with a piece, and has a head
open_more : (head other : Head Upgrade HeadFault) (ps : List Piece) (p : Piece) → IsRequestOf (counted head [] ps) head → nat_lt (length (counted head [] ps)) head.size ≡ true
    → counted head [] ps ≡ bytes_of ps → IsRequestOf (counted head [] ps ++ p.bytes) other → HaveHead (ps ++ p ∷ [])
open_more head other ps p is early all is_other =
    let text = counted head [] ps in
    let before : IsRequestOf text other = fronts_of HeadIs text p.bytes other is_other in
    let none : answered other (length text) ≡ Ok None =
    one_head text (answered other (length text)) (answered head (length text)) (whole_answer text other before) (whole_answer text head is) ∙ open_answer head (length text) early in
    let short : length text < other.size = ltb-true (length text) other.size (early_by (nat_lt (length text) other.size) other none) in
    let counts : counted other [] ps ≡ text = counted_whole other [] ps (subst (λ (l : List ℕ). length l < other.size) all short) ∙ sym all in
    let more : counted other [] (ps ++ p ∷ []) ≡ with_piece other text p.bytes = counted_more other [] ps p ∙ ap (λ (l : List ℕ). with_piece other l p.bytes) counts in
    (other, subst (λ (l : List ℕ). IsRequestOf l other) (sym more) (front_has other text p.bytes is_other))

-- and behind its head it keeps it
judged_more : (head : Head Upgrade HeadFault) (ps : List Piece) (p : Piece) → IsRequestOf (counted head [] ps) head → nat_lt (length (counted head [] ps)) head.size ≡ false → HaveHead (ps ++ p ∷ [])
judged_more head ps p is judged =
    let text = counted head [] ps in
    let more : counted head [] (ps ++ p ∷ []) ≡ text ++ p.bytes = counted_more head [] ps p ∙ behind_counts head text p.bytes judged in
    (head, subst (λ (l : List ℕ). IsRequestOf l head) (sym more) (request_stays text p.bytes head (never_open judged) is))
  where
    never_open : nat_lt (length (counted head [] ps)) head.size ≡ false → answered head (length (counted head [] ps)) ≡ Ok None → ⊥
    never_open judged none = never_both (sym (early_by (nat_lt (length (counted head [] ps)) head.size) head none) ∙ judged)

known_in : (phase : OpeningPhase) (g : Grounds) (head : Head Upgrade HeadFault) (ps : List Piece) (p : Piece) (before : List ℕ) (next : ℕ → List ℕ) (reader : Reader) (out : List ℕ)
    → IsRequestOf (counted head [] ps) head → StandsIn phase g head (counted head [] ps) before next reader out → (NeedsFraming phase → ⊥)
    → (phase ≡ opening_phases.Heading → HasHead (reader.unread ++ p.bytes)) → HaveHead (ps ++ p ∷ [])
known_in opening_phases.Heading g head ps p before next reader out is x unheld known =
    let early = no_items head (counted head [] ps) x.none in
    let found = subst (λ (l : List ℕ). HasHead (l ++ p.bytes)) (sym x.waits.read.left) (known refl) in
    open_more head found.0 ps p is early (early_counts head [] ps early) found.1
known_in (opening_phases.Held shake) g head ps p before next reader out is x unheld known = absurd (unheld tt)
known_in (opening_phases.Shaking shake) g head ps p before next reader out is x unheld known =
    judged_more head ps p is (waiting_behind g head (counted head [] ps) before next reader shake out x)
known_in opening_phases.Over g head ps p before next reader out is x unheld known = absurd x

pub known_more : (phase : Phase) (g : Grounds) (head : Head Upgrade HeadFault) (ps : List Piece) (p : Piece) (before : List ℕ) (next : ℕ → List ℕ) (stands : Hub → Type 0) (jobs : Option (List SeenJob)) (out : List ℕ) (s : Serving)
    → IsRequestOf (counted head [] ps) head → CoreStands phase g head (counted head [] ps) before next stands jobs out s → NotHeld phase → IsBehindHead phase head (counted head [] ps)
    → OnNoHead phase (λ unread. HasHead (unread ++ p.bytes)) → HaveHead (ps ++ p ∷ [])
known_more (phases.Opening opening) g head ps p before next stands jobs out s is x unheld behind known =
    known_in opening.phase g head ps p before next opening.reader out is (unheld_stands opening g head (counted head [] ps) before next stands jobs out s x unheld) unheld known
known_more (phases.Seated seat) g head ps p before next stands jobs out s is x unheld behind known = judged_more head ps p is behind
known_more (phases.Ended seat) g head ps p before next stands jobs out s is x unheld behind known = absurd x
known_more phases.Over g head ps p before next stands jobs out s is x unheld behind known = absurd x

-- nothing came yet
never_nothing : NeverEnds []
never_nothing = λ place fits occurs. omega (arith, occurs.fits)

pub none_known : HaveHead []
none_known =
    let found = request_found [] (Ok None) (inl (record { never = never_nothing; is = refl })) in
    (found.0, found.1)

-- ---- where memory did not run out

knows_by : (o : Outcome) (text : List ℕ) → KnowsHead o text → OnNotShort (broken_to o) (HasHead text)
knows_by goes text known = known
knows_by (over end) text known = known
knows_by unkept text known = known
knows_by short text known = tt

pub knows_broken : (e : Option CoreEnd) (text : List ℕ) → KnowsHead (outcome_of e) text → OnNotShort (link_outcome (broken_end e)) (HasHead text)
knows_broken e text known = subst (λ (o : LinkOutcome). OnNotShort o (HasHead text)) (sym (any_broken e)) (knows_by (outcome_of e) text known)

knows_lifted : (o : Outcome) (text : List ℕ) → KnowsHead o text → OnNotShort (lifted o) (HasHead text)
knows_lifted goes text known = known
knows_lifted (over end) text known = known
knows_lifted unkept text known = known
knows_lifted short text known = tt

pub knows_ended : (e : CoreEnd) (text : List ℕ) → KnowsHead (outcome_of (Some e)) text → OnNotShort (link_outcome (link_end e)) (HasHead text)
knows_ended e text known = subst (λ (o : LinkOutcome). OnNotShort o (HasHead text)) (sym (end_lifted e)) (knows_lifted (outcome_of (Some e)) text known)

pub on_no_head : (phase : Phase) (P Q : List ℕ → Type 0) → ((unread : List ℕ) → P unread → Q unread) → OnNoHead phase P → OnNoHead phase Q
on_no_head (phases.Opening opening) P Q so x = λ none. so opening.reader.unread (x none)
on_no_head (phases.Seated seat) P Q so x = tt
on_no_head (phases.Ended seat) P Q so x = tt
on_no_head phases.Over P Q so x = tt

always_by : (o : LinkOutcome) (P : Type 0) → P → OnNotShort o P
always_by link_closed P p = p
always_by link_broke P p = p
always_by link_spent P p = p
always_by (link_over end) P p = p
always_by link_unkept P p = p
always_by link_short P p = tt

pub known_stays : (end : LinkEnd) (P : Type 0) → P → OnNotShort (link_outcome end) P
known_stays end P p = always_by (link_outcome end) P p

pub known_ended : (o : LinkOutcome) (phase : Phase) (piece : List ℕ) (P : Type 0) → (OnNoHead phase (λ unread. HasHead (unread ++ piece)) → P)
    → OnNoHead phase (λ unread. OnNotShort o (HasHead (unread ++ piece))) → OnNotShort o P
known_ended link_closed phase piece P so x = so x
known_ended link_broke phase piece P so x = so x
known_ended link_spent phase piece P so x = so x
known_ended (link_over end) phase piece P so x = so x
known_ended link_unkept phase piece P so x = so x
known_ended link_short phase piece P so x = tt

pub knows_framed : (e : Option LinkEnd) (text : List ℕ) → HasHead text → LinkKnows e text
knows_framed None text known = known
knows_framed (Some end) text known = known_stays end (HasHead text) known
