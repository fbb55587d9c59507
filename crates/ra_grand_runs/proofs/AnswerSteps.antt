-- What the server writes on a link begins with the answer to its request.
use Rattle.std.proofs.Common.{◌≡◌, inl, inr, ℕ, Bool, true, false, Option, Some, None, Result, Ok, List, [], ◌∷◌, ◌++◌, if◌then◌else◌, length, take, drop, refl, ap, sym, ◌∙◌, subst, append_assoc, append-nil}
use Rattle.std.specs.Prelude.{◌⊎◌, nat_lt}
use Rattle.std.proofs.lemmas.List.{take-append-drop}
use Rattle.ra_base.specs.declared.key.Seat.{Seat}
use Rattle.ra_upgrade.specs.declared.request_head.HeadFault.{HeadFault}
use Rattle.ra_upgrade.specs.declared.request_head.Upgrade.{Upgrade}
use Rattle.ra_upgrade.specs.AnswerTexts.{answer_text}
use Rattle.ra_items.specs.Heads.{Head, sized}
use Rattle.ra_items.specs.Items.{Placed, items, items_by, frames_at}
use Rattle.ra_items.specs.Items.Item.{HeadItem}
use Rattle.ra_opening.specs.Openings.{Grounds, Opened, Stage, begun, item_done, new_opened, opened}
use Rattle.ra_opening.specs.Openings.Stage.{Heading, Shaking, Asked, Over}
use Rattle.ra_opening.proofs.RunLemmas.{opened_is, item_by, items_grow}
use Rattle.ra_link_core.specs.LinkRuns.{Serving, Piece, opening_by, piece_done, served, turns_for, with_piece}
use Rattle.ra_link_core.proofs.GrowLemmas.{grows_asked, grows_served}
use Rattle.ra_link_core.proofs.PieceLemmas.{opened_as, piece_opening, piece_seated}
use Rattle.ra_grand_runs.specs.Marks.{Mark, whole, short, unticked}
use Rattle.ra_grand_runs.specs.Reached.{Agrees, Begins}
use Rattle.ra_grand_runs.specs.ServedLinks.{came_by, left, settled}

-- nothing was written, and there is no seat; or the answer was, and more
abbrev pub Answered : List ℕ → List ℕ → Option Seat → Type 0
Answered answer out seat = ((out ≡ []) × (seat ≡ None)) ⊎ Begins out answer

begins_more : (answer text more new : List ℕ) → Begins text answer → new ≡ text ++ more → Begins new answer
begins_more answer text more new begins is = record {
  rest = begins.rest ++ more;
  same = is ∙ ap (λ (t : List ℕ). t ++ more) begins.same ∙ append_assoc answer begins.rest more;
}

begins_agrees : (answer text : List ℕ) → Begins text answer → Agrees text answer
begins_agrees answer text begins = record { more = []; rest = begins.rest; same = append-nil text ∙ begins.same }

nothing_agrees : (answer text : List ℕ) → text ≡ [] → Agrees text answer
nothing_agrees answer text none = record { more = answer; rest = []; same = ap (λ (t : List ℕ). t ++ answer) none ∙ sym (append-nil answer) }

pub answered_agrees : (answer out : List ℕ) (seat : Option Seat) → Answered answer out seat → Agrees out answer
answered_agrees answer out seat (inl none) = nothing_agrees answer out none.0
answered_agrees answer out seat (inr begins) = begins_agrees answer out begins

-- ---- the opening

abbrev head_item : Upgrade → ℕ → Placed Upgrade HeadFault
head_item upgrade place = record { item = HeadItem (Ok upgrade); place = place }

items_at : (head : Head Upgrade HeadFault) (text : List ℕ) (b : Bool) → nat_lt (length text) head.size ≡ b
    → items head text ≡ items_by (if b then Ok None else sized head.size head.says) text
unfolding items
items_at head text b is = ap (λ (x : Bool). items_by (if x then Ok None else sized head.size head.says) text) is

begun_out : (g : Grounds) (upgrade : Upgrade) (token : Option (List ℕ)) → (begun g upgrade token new_opened).out ≡ answer_text upgrade.key
begun_out g upgrade None = refl
begun_out g upgrade (Some token) = refl

abbrev Opens : Grounds → Head Upgrade HeadFault → List ℕ → Upgrade → Type 0
Opens g head text upgrade = (((opened g head text).out ≡ []) × ((opened g head text).stage ≡ Heading)) ⊎ Begins (opened g head text).out (answer_text upgrade.key)

opens_by : (b : Bool) (g : Grounds) (head : Head Upgrade HeadFault) (text : List ℕ) (upgrade : Upgrade) → head.says ≡ Ok upgrade → nat_lt (length text) head.size ≡ b → Opens g head text upgrade
opens_by true g head text upgrade says is =
    let e : opened g head text ≡ new_opened = opened_is g head text [] (items_at head text true is) in
    inl (ap (λ (o : Opened). o.out) e, ap (λ (o : Opened). o.stage) e)
opens_by false g head text upgrade says is =
    let p = head_item upgrade head.size in
    let rest = frames_at head.size (drop head.size text) in
    let all : items head text ≡ p ∷ rest =
    items_at head text false is ∙ ap (λ (r : Result Upgrade HeadFault). items_by (sized head.size r) text) says in
    let first : item_done g p new_opened ≡ begun g upgrade upgrade.token new_opened = item_by g p new_opened Heading refl in
    let grown = items_grow g rest (item_done g p new_opened) in
    inr (record {
      rest = grown.more;
      same =
          ap (λ (o : Opened). o.out) (opened_is g head text (p ∷ rest) all)
          ∙ grown.out
          ∙ ap (λ (o : Opened). o.out ++ grown.more) first
          ∙ ap (λ (t : List ℕ). t ++ grown.more) (begun_out g upgrade upgrade.token);
    })

-- ---- a piece

opening_more : (stage : Stage) (text : List ℕ) (now : ℕ) (v : Serving) → Begins (opening_by stage text now v).out v.out
opening_more Heading text now v = record { rest = []; same = sym (append-nil v.out) }
opening_more (Shaking shake) text now v = record { rest = []; same = sym (append-nil v.out) }
opening_more (Asked request place) text now v = let g = grows_asked request place (drop place text) now v in record { rest = g.bytes; same = g.out }
opening_more (Over end) text now v = record { rest = []; same = sym (append-nil v.out) }

opened_so : (g : Grounds) (head : Head Upgrade HeadFault) (text : List ℕ) (upgrade : Upgrade) (now : ℕ) (s : Serving) → s.seat ≡ None → Opens g head text upgrade
    → let u = opening_by (opened g head text).stage text now (opened_as (opened g head text) s) in Answered (answer_text upgrade.key) u.out u.seat
opened_so g head text upgrade now s unseated (inl none) =
    let v = opened_as (opened g head text) s in
    let e : opening_by (opened g head text).stage text now v ≡ v = ap (λ (st : Stage). opening_by st text now v) none.1 in
    inl (ap (λ (u : Serving). u.out) e ∙ none.0, ap (λ (u : Serving). u.seat) e ∙ unseated)
opened_so g head text upgrade now s unseated (inr begins) =
    let v = opened_as (opened g head text) s in
    let more = opening_more (opened g head text).stage text now v in
    inr (begins_more (answer_text upgrade.key) v.out more.rest (opening_by (opened g head text).stage text now v).out begins more.same)

seat_apart : {Y : Type 0} → {seat : Seat} → ◌≡◌ {A = Option Seat} (Some seat) None → Y
seat_apart e = absurd cc

begins_of : (answer out : List ℕ) (own : Option Seat) (seat : Seat) → own ≡ Some seat → Answered answer out own → Begins out answer
begins_of answer out own seat is (inl none) = seat_apart (sym is ∙ none.1)
begins_of answer out own seat is (inr begins) = begins

answered_by : (own : Option Seat) (g : Grounds) (head : Head Upgrade HeadFault) (text : List ℕ) (piece : Piece) (upgrade : Upgrade) (s : Serving) → s.seat ≡ own → s.end ≡ None → head.says ≡ Ok upgrade
    → Answered (answer_text upgrade.key) s.out s.seat → let u = piece_done g head text piece s in Answered (answer_text upgrade.key) u.out u.seat
answered_by None g head text piece upgrade s is going says before =
    let raw = with_piece head text piece.bytes in
    subst (λ (u : Serving). Answered (answer_text upgrade.key) u.out u.seat) (sym (piece_opening g head text piece s is going))
    (opened_so g head raw upgrade piece.now s is (opens_by (nat_lt (length raw) head.size) g head raw upgrade says refl))
answered_by (Some seat) g head text piece upgrade s is going says before =
    let grown = grows_served (turns_for piece.bytes) seat piece.bytes piece.now s in
    subst (λ (u : Serving). Answered (answer_text upgrade.key) u.out u.seat) (sym (piece_seated g head text piece seat s is going))
    (inr (begins_more (answer_text upgrade.key) s.out grown.bytes (served (turns_for piece.bytes) seat piece.bytes piece.now s).out (begins_of (answer_text upgrade.key) s.out s.seat seat is before) grown.out))

pub answered_on : (g : Grounds) (head : Head Upgrade HeadFault) (text : List ℕ) (piece : Piece) (upgrade : Upgrade) (s : Serving) → s.end ≡ None → head.says ≡ Ok upgrade
    → Answered (answer_text upgrade.key) s.out s.seat → let u = piece_done g head text piece s in Answered (answer_text upgrade.key) u.out u.seat
answered_on g head text piece upgrade s going says before = answered_by s.seat g head text piece upgrade s refl going says before

-- ---- so far as a mark tells

front_agrees : (answer text : List ℕ) (n : ℕ) → Agrees text answer → Agrees (take n text) answer
front_agrees answer text n a = record {
  more = drop n text ++ a.more;
  rest = a.rest;
  same = sym (append_assoc (take n text) (drop n text) a.more) ∙ ap (λ (t : List ℕ). t ++ a.more) (take-append-drop n text) ∙ a.same;
}

part_agrees : (answer : List ℕ) (s u : Serving) (n : ℕ) → Answered answer s.out s.seat → Answered answer u.out u.seat → Agrees (s.out ++ take n (drop (length s.out) u.out)) answer
part_agrees answer s u n (inl none) after =
    let e : s.out ++ take n (drop (length s.out) u.out) ≡ take n u.out = ap (λ (t : List ℕ). t ++ take n (drop (length t) u.out)) none.0 in
    subst (λ (t : List ℕ). Agrees t answer) (sym e) (front_agrees answer u.out n (answered_agrees answer u.out u.seat after))
part_agrees answer s u n (inr begins) after =
    let more = take n (drop (length s.out) u.out) in
    begins_agrees answer (s.out ++ more) (begins_more answer s.out more (s.out ++ more) begins refl)

pub record SettledSo (answer : List ℕ) (is_over : Bool) (v : Serving) : Type 0 where
  pub out : Agrees v.out answer
  pub going : is_over ≡ false → Answered answer v.out v.seat

settled_by : (b : Bool) (answer : List ℕ) (now : ℕ) (v : Serving) → SettledSo answer b v → SettledSo answer b (if b then left now v else v)
settled_by true answer now v so = record { out = so.out; going = λ not. absurd (apart not) }
  where
    apart : true ≡ false → ⊥
    apart e = cc
settled_by false answer now v so = so

came_so : (mark : Mark) (answer : List ℕ) (s u : Serving) → Answered answer s.out s.seat → Answered answer u.out u.seat → SettledSo answer (came_by mark s u).is_over (came_by mark s u).link
came_so whole answer s u before after = record { out = answered_agrees answer u.out u.seat after; going = λ goes. after }
came_so (short draws calls bytes) answer s u before after = record { out = part_agrees answer s u bytes before after; going = λ not. absurd (apart not) }
  where
    apart : true ≡ false → ⊥
    apart e = cc
came_so (unticked keys) answer s u before after = record { out = answered_agrees answer u.out u.seat after; going = λ goes. after }

pub settled_so : (mark : Mark) (answer : List ℕ) (now : ℕ) (s u : Serving) → Answered answer s.out s.seat → Answered answer u.out u.seat
    → SettledSo answer (came_by mark s u).is_over (settled now (came_by mark s u))
settled_so mark answer now s u before after =
    settled_by (came_by mark s u).is_over answer now (came_by mark s u).link (came_so mark answer s u before after)
