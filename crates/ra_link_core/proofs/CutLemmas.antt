-- The text that counts, a piece later.
use Rattle.std.proofs.Common.{◌≡◌, ℕ, ◌+◌, ◌-◌, ◌<◌, ◌≤◌, Bool, true, false, not, Option, Some, None, Result, Ok, Err, List, [], ◌∷◌, ◌++◌, if◌then◌else◌, length, take, drop, inl, inr, refl, sym, ap, subst, ◌∙◌, arith, rules}
use Rattle.std.specs.Prelude.{◌⊎◌, ◌&&◌, nat_lt}
use Rattle.std.proofs.lemmas.List.{take_all, length-append, length-drop, length-take-le, take-append-drop}
use Rattle.std.proofs.Math.Seq.{take-append-add}
use Rattle.std.proofs.lemmas.Bool.{ltb-true, ltb-false, le-ltb}
use Rattle.ra_items.specs.Heads.{Head, IsRequestOf, answered, sized}
use Rattle.ra_items.specs.Items.{Item, Placed, items, items_by}
use Rattle.ra_items.specs.Items.Item.{HeadItem}
use Rattle.ra_items.specs.Readers.{Reader, items_ahead}
use Rattle.ra_items.proofs.HeadLemmas.{whole_answer, fronts_of, request_stays}
use Rattle.ra_items.proofs.ReaderLemmas.{read_items}
use Rattle.ra_shake.specs.States.{ServerState}
use Rattle.ra_upgrade.specs.declared.request_head.HeadFault.{HeadFault}
use Rattle.ra_upgrade.specs.declared.request_head.Upgrade.{Upgrade}
use Rattle.ra_upgrade.specs.RequestHeads.{HeadIs}
use Rattle.ra_opening.specs.declared.phase.Phase.{Phase}
use Rattle.ra_opening.specs.declared.phase.Phase.TheVariants as phases
use Rattle.ra_opening.specs.Openings.{Grounds, Opened, opened}
use Rattle.ra_opening.specs.Openings.Stage.{Heading, Shaking}
use Rattle.ra_opening.specs.Stands.{OpeningState, StandsIn, IsBegun, IsWaiting, HasNoHead, NeedsFraming, IsInShake}
use Rattle.ra_opening.specs.Comes.{AsksFraming}
use Rattle.ra_opening.proofs.RunLemmas.{opened_is}
use Rattle.ra_link_core.specs.LinkRuns.{asks_framing, with_piece}
use Rattle.ra_link_core.specs.Cores.{counted_in}

-- ---- the first item

abbrev found_at : Upgrade → ℕ → Result (Option (Upgrade × ℕ)) HeadFault
found_at upgrade n = Ok (Some (upgrade, n))

abbrev head_at : Upgrade → ℕ → Placed Upgrade HeadFault
head_at upgrade place = record { item = HeadItem (Ok upgrade); place = place }

abbrev answer_by : Bool → ℕ → Result Upgrade HeadFault → Result (Option (Upgrade × ℕ)) HeadFault
answer_by b n says = if b then Ok None else sized n says

none_by : (b : Bool) (n : ℕ) (says : Result Upgrade HeadFault) (text : List ℕ) → items_by (answer_by b n says) text ≡ [] → b ≡ true
none_by true n says text is = refl
none_by false n (Ok says) text is = absurd cc
none_by false n (Err fault) text is = absurd cc

pub no_items : (head : Head Upgrade HeadFault) (text : List ℕ) → items head text ≡ [] → nat_lt (length text) head.size ≡ true
unfolding items
no_items head text is = none_by (nat_lt (length text) head.size) head.size head.says text is

pub open_items : (head : Head Upgrade HeadFault) (text : List ℕ) → nat_lt (length text) head.size ≡ true → items head text ≡ []
unfolding items
open_items head text is = ap (λ (b : Bool). items_by (answer_by b head.size head.says) text) is

record IsFirst (b : Bool) (n : ℕ) (says : Result Upgrade HeadFault) (upgrade : Upgrade) (place : ℕ) : Type 0 where
  pub judged : b ≡ false
  pub says_is : says ≡ Ok upgrade
  pub place_is : place ≡ n

abbrev head_item : Upgrade → Item Upgrade HeadFault
head_item upgrade = HeadItem (Ok upgrade)

abbrev accepted : Upgrade → Result Upgrade HeadFault
accepted upgrade = Ok upgrade

abbrev bad_item : HeadFault → Item Upgrade HeadFault
bad_item fault = HeadItem (Err fault)

items_apart : (fault : HeadFault) (upgrade : Upgrade) → bad_item fault ≡ head_item upgrade → ⊥
items_apart fault upgrade is = absurd cc

says_same : (says upgrade : Upgrade) → head_item says ≡ head_item upgrade → accepted says ≡ accepted upgrade
says_same says upgrade is = let same : says ≡ upgrade = cc in ap accepted same

first_by : (b : Bool) (n : ℕ) (says : Result Upgrade HeadFault) (text : List ℕ) (upgrade : Upgrade) (place : ℕ) (rest : List (Placed Upgrade HeadFault))
    → items_by (answer_by b n says) text ≡ head_at upgrade place ∷ rest → IsFirst b n says upgrade place
first_by true n says text upgrade place rest is = absurd cc
first_by false n (Ok says) text upgrade place rest is =
    let same : record { item = HeadItem (Ok says); place = n } ≡ head_at upgrade place = cc in
    record { judged = refl; says_is = says_same says upgrade (ap (λ (p : Placed Upgrade HeadFault). p.item) same); place_is = sym (ap (λ (p : Placed Upgrade HeadFault). p.place) same) }
first_by false n (Err fault) text upgrade place rest is =
    let same : record { item = bad_item fault; place = 0 } ≡ head_at upgrade place = cc in
    absurd (items_apart fault upgrade (ap (λ (p : Placed Upgrade HeadFault). p.item) same))

first_item : (head : Head Upgrade HeadFault) (text : List ℕ) (upgrade : Upgrade) (place : ℕ) (rest : List (Placed Upgrade HeadFault))
    → items head text ≡ head_at upgrade place ∷ rest → IsFirst (nat_lt (length text) head.size) head.size head.says upgrade place
unfolding items
first_item head text upgrade place rest is = first_by (nat_lt (length text) head.size) head.size head.says text upgrade place rest is

-- a handshake goes on behind its head
shaking_by : (b : Bool) (g : Grounds) (head : Head Upgrade HeadFault) (text : List ℕ) (shake : ServerState) → nat_lt (length text) head.size ≡ b
    → (opened g head text).stage ≡ Shaking shake → b ≡ false
shaking_by false g head text shake is stage = refl
shaking_by true g head text shake is stage =
    let new : (opened g head text).stage ≡ Heading = ap (λ (o : Opened). o.stage) (opened_is g head text [] (open_items head text is)) in
    absurd (apart (sym new ∙ stage))
  where
    apart : Heading ≡ Shaking shake → ⊥
    apart e = cc

pub waiting_behind : (g : Grounds) (head : Head Upgrade HeadFault) (text before : List ℕ) (next : ℕ → List ℕ) (reader : Reader) (shake : ServerState) (out : List ℕ)
    → IsWaiting g head text before next reader shake out → nat_lt (length text) head.size ≡ false
waiting_behind g head text before next reader shake out x =
    shaking_by (nat_lt (length text) head.size) g head text shake refl
    (ap (λ (o : Opened). o.stage) (opened_is g head text x.shaking.done x.all) ∙ x.shaking.stage)

-- ---- a head that asks for a framed stream

asks_so : (b : Bool) → not b ≡ true → b ≡ false
asks_so true is = absurd cc
asks_so false is = refl

asks_by : (says : Result Upgrade HeadFault) (head : Head Upgrade HeadFault) (raw : List ℕ) → head.says ≡ says → asks_framing says ≡ true
    → HeadIs raw (answered head (length raw)) → nat_lt (length raw) head.size ≡ false → AsksFraming raw
asks_by (Ok upgrade) head raw is asks answer judged =
    let found : answered head (length raw) ≡ found_at upgrade head.size =
    ap (λ (b : Bool). answer_by b head.size head.says) judged ∙ ap (λ (r : Result Upgrade HeadFault). sized head.size r) is in
    record { upgrade = upgrade; size = head.size; is_head = subst (λ (r : Result (Option (Upgrade × ℕ)) HeadFault). HeadIs raw r) found answer; asks = asks_so upgrade.skip_frames asks }
asks_by (Err fault) head raw is asks answer judged = absurd cc

pub asks_frames : (head : Head Upgrade HeadFault) (raw : List ℕ) → IsRequestOf raw head → asks_framing head.says ≡ true → nat_lt (length raw) head.size ≡ false → AsksFraming raw
asks_frames head raw is asks judged = asks_by head.says head raw refl asks (whole_answer raw head is) judged

-- ---- what counts

pub with_by : (a b : Bool) (head : Head Upgrade HeadFault) (text piece : List ℕ) → asks_framing head.says ≡ a → nat_lt (length text) head.size ≡ b
    → with_piece head text piece ≡ (if a && b then take head.size (text ++ piece) else text ++ piece)
unfolding with_piece
with_by a b head text piece asks early =
    ap (λ (x : Bool). if x && nat_lt (length text) head.size then take head.size (text ++ piece) else text ++ piece) asks
    ∙ ap (λ (x : Bool). if a && x then take head.size (text ++ piece) else text ++ piece) early

-- a piece that reaches over the end of such a head
pub record IsCut (opening : OpeningState) (head : Head Upgrade HeadFault) (text piece : List ℕ) : Type 0 where
  pub no_head : HasNoHead opening
  pub asks : AsksFraming (opening.reader.unread ++ piece)
  pub counts : with_piece head text piece ≡ take head.size (text ++ piece)
  pub early : nat_lt (length text) head.size ≡ true
  pub judged : nat_lt (length (text ++ piece)) head.size ≡ false

abbrev pub CutOrNot : OpeningState → Head Upgrade HeadFault → List ℕ → List ℕ → Type 0
CutOrNot opening head text piece = (with_piece head text piece ≡ text ++ piece) ⊎ IsCut opening head text piece

-- an opening that is before its head has all of the text unread
cut_in : (phase : Phase) (g : Grounds) (head : Head Upgrade HeadFault) (text piece before : List ℕ) (next : ℕ → List ℕ) (reader : Reader) (out : List ℕ)
    → IsRequestOf (text ++ piece) head → StandsIn phase g head text before next reader out → (NeedsFraming phase → ⊥)
    → asks_framing head.says ≡ true → nat_lt (length text) head.size ≡ true → nat_lt (length (text ++ piece)) head.size ≡ false
    → IsCut (record { reader = reader; phase = phase }) head text piece
cut_in phases.Heading g head text piece before next reader out is x unheld asks early judged = record {
  no_head = refl;
  asks = subst (λ (t : List ℕ). AsksFraming (t ++ piece)) x.waits.read.left (asks_frames head (text ++ piece) is asks judged);
  counts = with_by true true head text piece asks early;
  early = early;
  judged = judged;
}
cut_in (phases.Held shake) g head text piece before next reader out is x unheld asks early judged = absurd (unheld tt)
cut_in (phases.Shaking shake) g head text piece before next reader out is x unheld asks early judged =
    absurd (apart (sym early ∙ waiting_behind g head text before next reader shake out x))
  where
    apart : true ≡ false → ⊥
    apart e = cc
cut_in phases.Over g head text piece before next reader out is x unheld asks early judged = absurd x

cut_by : (a b c : Bool) (opening : OpeningState) (g : Grounds) (head : Head Upgrade HeadFault) (text piece before : List ℕ) (next : ℕ → List ℕ) (out : List ℕ)
    → IsRequestOf (text ++ piece) head → StandsIn opening.phase g head text before next opening.reader out → (NeedsFraming opening.phase → ⊥)
    → asks_framing head.says ≡ a → nat_lt (length text) head.size ≡ b → nat_lt (length (text ++ piece)) head.size ≡ c
    → CutOrNot opening head text piece
cut_by false b c opening g head text piece before next out is x unheld asks early judged = inl (with_by false b head text piece asks early)
cut_by true false c opening g head text piece before next out is x unheld asks early judged = inl (with_by true false head text piece asks early)
cut_by true true true opening g head text piece before next out is x unheld asks early judged =
    let short : length (text ++ piece) < head.size = ltb-true (length (text ++ piece)) head.size judged in
    inl (with_by true true head text piece asks early ∙ take_all head.size (text ++ piece) (omega (arith, short)))
cut_by true true false opening g head text piece before next out is x unheld asks early judged =
    inr (cut_in opening.phase g head text piece before next opening.reader out is x unheld asks early judged)

pub cut_or_not : (opening : OpeningState) (g : Grounds) (head : Head Upgrade HeadFault) (text piece before : List ℕ) (next : ℕ → List ℕ) (out : List ℕ)
    → IsRequestOf (text ++ piece) head → StandsIn opening.phase g head text before next opening.reader out → (NeedsFraming opening.phase → ⊥)
    → CutOrNot opening head text piece
cut_or_not opening g head text piece before next out is x unheld =
    cut_by (asks_framing head.says) (nat_lt (length text) head.size) (nat_lt (length (text ++ piece)) head.size) opening g head text piece before next out is x unheld refl refl refl

-- ---- an opening that goes on

open_in : (phase : Phase) (g : Grounds) (head : Head Upgrade HeadFault) (text before : List ℕ) (next : ℕ → List ℕ) (reader : Reader) (out : List ℕ)
    → StandsIn phase g head text before next reader out → (NeedsFraming phase → ⊥) → (IsInShake phase → ⊥) → nat_lt (length text) head.size ≡ true
open_in phases.Heading g head text before next reader out x unheld once = no_items head text x.none
open_in (phases.Held shake) g head text before next reader out x unheld once = absurd (unheld tt)
open_in (phases.Shaking shake) g head text before next reader out x unheld once = absurd (once tt)
open_in phases.Over g head text before next reader out x unheld once = absurd x

held_counts : (g : Grounds) (head : Head Upgrade HeadFault) (text piece before : List ℕ) (next : ℕ → List ℕ) (reader : Reader) (shake : ServerState) (out : List ℕ)
    → IsBegun g head (text ++ piece) before next reader shake false out → nat_lt (length text) head.size ≡ true
    → with_piece head text piece ≡ take (length (text ++ piece) - length reader.unread) (text ++ piece)
held_counts g head text piece before next reader shake out x early =
    let raw = text ++ piece in
    let first = first_item head raw x.upgrade x.place (items_ahead head x.place reader) (read_items head raw (head_at x.upgrade x.place ∷ []) x.place reader x.read) in
    let asks : asks_framing head.says ≡ true = ap asks_framing first.says_is ∙ ap not x.skips in
    let size : length reader.unread ≡ length raw - x.place = ap length (sym x.read.left) ∙ length-drop x.place raw in
    let place : head.size ≡ length raw - length reader.unread = omega (arith, x.read.within, first.place_is, size) in
    with_by true true head text piece asks early ∙ ap (λ (n : ℕ). take n raw) place

unheld_counts : (opening : OpeningState) (head : Head Upgrade HeadFault) (text piece : List ℕ) → CutOrNot opening head text piece
    → (HasNoHead opening → AsksFraming (opening.reader.unread ++ piece) → ⊥) → with_piece head text piece ≡ text ++ piece
unheld_counts opening head text piece (inl is) framing = is
unheld_counts opening head text piece (inr cut) framing = absurd (framing cut.no_head cut.asks)

-- nothing is cut off where the link is not to be framed
pub not_cut : (opening : OpeningState) (g : Grounds) (head : Head Upgrade HeadFault) (text piece before : List ℕ) (next : ℕ → List ℕ) (out : List ℕ)
    → IsRequestOf (text ++ piece) head → StandsIn opening.phase g head text before next opening.reader out → (NeedsFraming opening.phase → ⊥)
    → (HasNoHead opening → AsksFraming (opening.reader.unread ++ piece) → ⊥) → with_piece head text piece ≡ text ++ piece
not_cut opening g head text piece before next out is x unheld framing =
    unheld_counts opening head text piece (cut_or_not opening g head text piece before next out is x unheld) framing

pub counts_so : (phase' : Phase) (reader' : Reader) (opening : OpeningState) (g : Grounds) (head : Head Upgrade HeadFault) (text piece before : List ℕ) (next next' : ℕ → List ℕ) (out out' : List ℕ)
    → IsRequestOf (text ++ piece) head → StandsIn opening.phase g head text before next opening.reader out → (NeedsFraming opening.phase → ⊥)
    → StandsIn phase' g head (text ++ piece) before next' reader' out'
    → (HasNoHead opening → AsksFraming (opening.reader.unread ++ piece) → NeedsFraming phase') → (IsInShake opening.phase → NeedsFraming phase' → ⊥)
    → with_piece head text piece ≡ counted_in phase' reader'.unread (text ++ piece)
counts_so phases.Heading reader' opening g head text piece before next next' out out' is x unheld x' framing once =
    not_cut opening g head text piece before next out is x unheld framing
counts_so (phases.Held shake) reader' opening g head text piece before next next' out out' is x unheld x' framing once =
    held_counts g head text piece before next' reader' shake out' x' (open_in opening.phase g head text before next opening.reader out x unheld (λ shakes. once shakes tt))
counts_so (phases.Shaking shake) reader' opening g head text piece before next next' out out' is x unheld x' framing once =
    not_cut opening g head text piece before next out is x unheld framing
counts_so phases.Over reader' opening g head text piece before next next' out out' is x unheld x' framing once = absurd x'

-- ---- a link that waits to be framed

-- its head asks for that
pub held_asks_in : (phase : Phase) (g : Grounds) (head : Head Upgrade HeadFault) (raw before : List ℕ) (next : ℕ → List ℕ) (reader : Reader) (out : List ℕ)
    → StandsIn phase g head raw before next reader out → NeedsFraming phase → asks_framing head.says ≡ true
held_asks_in phases.Heading g head raw before next reader out x held = absurd held
held_asks_in (phases.Held shake) g head raw before next reader out x held =
    let first = first_item head raw x.upgrade x.place (items_ahead head x.place reader) (read_items head raw (head_at x.upgrade x.place ∷ []) x.place reader x.read) in
    ap asks_framing first.says_is ∙ ap not x.skips
held_asks_in (phases.Shaking shake) g head raw before next reader out x held = absurd held
held_asks_in phases.Over g head raw before next reader out x held = absurd held

-- what counts is its head
pub held_place : (phase : Phase) (g : Grounds) (head : Head Upgrade HeadFault) (raw before : List ℕ) (next : ℕ → List ℕ) (reader : Reader) (out : List ℕ)
    → StandsIn phase g head raw before next reader out → NeedsFraming phase → length (counted_in phase reader.unread raw) ≡ head.size
held_place phases.Heading g head raw before next reader out x held = absurd held
held_place (phases.Held shake) g head raw before next reader out x held =
    let first = first_item head raw x.upgrade x.place (items_ahead head x.place reader) (read_items head raw (head_at x.upgrade x.place ∷ []) x.place reader x.read) in
    let size : length reader.unread ≡ length raw - x.place = ap length (sym x.read.left) ∙ length-drop x.place raw in
    let n = length raw - length reader.unread in
    length-take-le n raw (omega arith) ∙ omega (arith, x.read.within, first.place_is, size)
held_place (phases.Shaking shake) g head raw before next reader out x held = absurd held
held_place phases.Over g head raw before next reader out x held = absurd held

-- and what is unread is what does not count
pub held_unread : (phase : Phase) (g : Grounds) (head : Head Upgrade HeadFault) (raw before : List ℕ) (next : ℕ → List ℕ) (reader : Reader) (out : List ℕ)
    → StandsIn phase g head raw before next reader out → NeedsFraming phase → raw ≡ counted_in phase reader.unread raw ++ reader.unread
held_unread phases.Heading g head raw before next reader out x held = absurd held
held_unread (phases.Held shake) g head raw before next reader out x held =
    let size : length reader.unread ≡ length raw - x.place = ap length (sym x.read.left) ∙ length-drop x.place raw in
    let place : x.place ≡ length raw - length reader.unread = omega (arith, x.read.within, size) in
    sym (take-append-drop x.place raw) ∙ ap (λ (n : ℕ). take n raw ++ drop x.place raw) place
    ∙ ap (λ (l : List ℕ). take (length raw - length reader.unread) raw ++ l) x.read.left
held_unread (phases.Shaking shake) g head raw before next reader out x held = absurd held
held_unread phases.Over g head raw before next reader out x held = absurd held

-- ---- the text that counts only grows

pub front_taken : (n : ℕ) (text piece : List ℕ) → length text < n → take n (text ++ piece) ≡ text ++ take (n - length text) piece
front_taken n text piece more =
    let parts : n ≡ length text + (n - length text) = omega (arith, more) in
    ap (λ (k : ℕ). take k (text ++ piece)) parts ∙ take-append-add text piece (n - length text)

pub record IsLonger (text whole : List ℕ) : Type 0 where
  pub more : List ℕ
  pub parts : whole ≡ text ++ more

longer_by : (a b : Bool) (head : Head Upgrade HeadFault) (text piece : List ℕ) → asks_framing head.says ≡ a → nat_lt (length text) head.size ≡ b → IsLonger text (with_piece head text piece)
longer_by false b head text piece asks early = record { more = piece; parts = with_by false b head text piece asks early }
longer_by true false head text piece asks early = record { more = piece; parts = with_by true false head text piece asks early }
longer_by true true head text piece asks early = record {
  more = take (head.size - length text) piece;
  parts = with_by true true head text piece asks early ∙ front_taken head.size text piece (ltb-true (length text) head.size early);
}

pub with_longer : (head : Head Upgrade HeadFault) (text piece : List ℕ) → IsLonger text (with_piece head text piece)
with_longer head text piece = longer_by (asks_framing head.says) (nat_lt (length text) head.size) head text piece refl refl

-- ---- the head of the text that counts

sized_says : (says : Result Upgrade HeadFault) (n : ℕ) → asks_framing says ≡ true → sized n says ≡ Ok None → ⊥
sized_says (Ok upgrade) n asks is = absurd cc
sized_says (Err fault) n asks is = absurd cc

never_open : (head : Head Upgrade HeadFault) (text : List ℕ) → asks_framing head.says ≡ true → nat_lt (length text) head.size ≡ false → answered head (length text) ≡ Ok None → ⊥
never_open head text asks judged is =
    sized_says head.says head.size asks (sym (ap (λ (b : Bool). answer_by b head.size head.says) judged) ∙ is)

-- it is the head of the text before, and of that with the whole piece
pub record HasHeads (head : Head Upgrade HeadFault) (text piece : List ℕ) : Type 0 where
  pub before : IsRequestOf text head
  pub whole : IsRequestOf (text ++ piece) head

heads_of : (head : Head Upgrade HeadFault) (text piece : List ℕ) → IsRequestOf (text ++ piece) head → HasHeads head text piece
heads_of head text piece is = record { before = fronts_of HeadIs text piece head is; whole = is }

heads_by : (a b c : Bool) (head : Head Upgrade HeadFault) (text piece : List ℕ) → asks_framing head.says ≡ a → nat_lt (length text) head.size ≡ b → nat_lt (length (text ++ piece)) head.size ≡ c
    → IsRequestOf (with_piece head text piece) head → HasHeads head text piece
heads_by false b c head text piece asks early judged is =
    heads_of head text piece (subst (λ (t : List ℕ). IsRequestOf t head) (with_by false b head text piece asks early) is)
heads_by true false c head text piece asks early judged is =
    heads_of head text piece (subst (λ (t : List ℕ). IsRequestOf t head) (with_by true false head text piece asks early) is)
heads_by true true true head text piece asks early judged is =
    let short : length (text ++ piece) < head.size = ltb-true (length (text ++ piece)) head.size judged in
    heads_of head text piece (subst (λ (t : List ℕ). IsRequestOf t head) (with_by true true head text piece asks early ∙ take_all head.size (text ++ piece) (omega (arith, short))) is)
heads_by true true false head text piece asks early judged is =
    let raw = text ++ piece in
    let within : head.size ≤ length raw = ltb-false (length raw) head.size judged in
    let front = take head.size raw in
    let size : length front ≡ head.size = length-take-le head.size raw within in
    let it : nat_lt (length front) head.size ≡ false = ap (λ (n : ℕ). nat_lt n head.size) size ∙ not_below head.size in
    let counts : IsRequestOf front head = subst (λ (t : List ℕ). IsRequestOf t head) (with_by true true head text piece asks early) is in
    let more = request_stays front (drop head.size raw) head (never_open head front asks it) counts in
    heads_of head text piece (subst (λ (t : List ℕ). IsRequestOf t head) (take-append-drop head.size raw) more)
  where
    not_below : (n : ℕ) → nat_lt n n ≡ false
    not_below n = search rules

pub heads_so : (head : Head Upgrade HeadFault) (text piece : List ℕ) → IsRequestOf (with_piece head text piece) head → HasHeads head text piece
heads_so head text piece is =
    heads_by (asks_framing head.says) (nat_lt (length text) head.size) (nat_lt (length (text ++ piece)) head.size) head text piece refl refl refl is

-- ---- behind the head

pub still_judged : (head : Head Upgrade HeadFault) (text more : List ℕ) → nat_lt (length text) head.size ≡ false → nat_lt (length (text ++ more)) head.size ≡ false
still_judged head text more judged =
    let within : head.size ≤ length text = ltb-false (length text) head.size judged in
    le-ltb (length (text ++ more)) head.size (omega (arith, within, length-append text more))

-- behind the head each piece counts whole
pub with_behind : (a : Bool) (head : Head Upgrade HeadFault) (text piece : List ℕ) → asks_framing head.says ≡ a → nat_lt (length text) head.size ≡ false → with_piece head text piece ≡ text ++ piece
with_behind false head text piece asks judged = with_by false false head text piece asks judged
with_behind true head text piece asks judged = with_by true false head text piece asks judged

pub behind_counts : (head : Head Upgrade HeadFault) (text piece : List ℕ) → nat_lt (length text) head.size ≡ false → with_piece head text piece ≡ text ++ piece
behind_counts head text piece judged = with_behind (asks_framing head.says) head text piece refl judged
