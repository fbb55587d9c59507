-- What a reader has read of a text: at the start, one piece more, its head, and one frame more.
use Rattle.std.proofs.Common.{◌≡◌, ℕ, ◌+◌, ◌-◌, ◌≤◌, true, false, Option, Some, None, Result, Ok, Err, List, [], ◌∷◌, ◌++◌, length, take, drop, refl, sym, ap, ◌∙◌, arith, append_assoc, append-nil, length-append, length-take}
use Rattle.std.proofs.lemmas.Grind.{common_steps}
use Rattle.std.proofs.lemmas.List.{drop-append-le, length-drop, drop-drop}
use Rattle.ra_model.specs.declared.frame.Frame.{Frame}
use Rattle.ra_model.specs.Frames.{frame_bytes}
use Rattle.ra_model.specs.FirstFrame.{first_frame}
use Rattle.ra_model.proofs.Framing.{first_frame_more}
use Rattle.ra_model.proofs.CuttingLemmas.{found_parts}
use Rattle.ra_items.specs.Heads.{Head, answered}
use Rattle.ra_items.specs.Items.{Item, Placed, frames_at, items_by, items, fresh_items}
use Rattle.ra_items.specs.Items.Item.{HeadItem, FrameItem}
use Rattle.ra_items.specs.Readers.{Reader, new_reader, fed, items_ahead, HasRead}
use Rattle.ra_items.proofs.FrameItems.{frames_step}
use Rattle.ra_items.proofs.ItemLemmas.{items_head, head_within, head_at, fresh_are}

pub read_nothing : {A E : Type 0} (head : Head A E) → HasRead head [] [] 0 new_reader
read_nothing head = record { later = λ more. refl; within = omega arith; left = refl; start = λ before. refl }

-- one piece more
pub read_piece : {A E : Type 0} (head : Head A E) (text piece : List ℕ) (done : List (Placed A E)) (at : ℕ) (reader : Reader)
    → HasRead head text done at reader → HasRead head (text ++ piece) done at (fed piece reader)
read_piece {A} {E} head text piece done at reader has = record {
  later = λ more.
      ap (items head) (append_assoc text piece more) ∙ has.later (piece ++ more)
      ∙ ap (λ (l : List ℕ). done ++ items_ahead head at (record { behind_head = reader.behind_head; unread = l })) (sym (append_assoc reader.unread piece more));
  within = omega (arith, has.within, length-append text piece);
  left = drop-append-le at text piece has.within ∙ ap (λ (l : List ℕ). l ++ piece) has.left;
  start = has.start;
}

-- the head
pub read_head : {A E : Type 0} (head : Head A E) (text unread : List ℕ) (done : List (Placed A E)) (at : ℕ) (a : A) (n : ℕ)
    → HasRead head text done at (record { behind_head = false; unread = unread }) → answered head (length unread) ≡ Ok (Some (a, n))
    → HasRead head text (done ++ record { item = HeadItem (Ok a); place = n } ∷ []) n (record { behind_head = true; unread = drop n unread })
read_head {A} {E} head text unread done at a n has is =
    let at_start : at ≡ 0 = has.start refl in
    let same : text ≡ unread = ap (λ (k : ℕ). drop k text) (sym at_start) ∙ has.left in
    let within : n ≤ length unread = head_within head (length unread) n a is in
    record {
      later = λ more.
          has.later more ∙ ap (λ (ps : List (Placed A E)). done ++ ps) (items_head head unread more a n is)
          ∙ sym (append_assoc done (record { item = HeadItem (Ok a); place = n } ∷ []) (frames_at n (drop n unread ++ more)));
      within = omega (arith, within, ap length same);
      left = ap (drop n) same;
      start = λ behind. absurd cc;
    }

-- one frame more
pub read_frame : {A E : Type 0} (head : Head A E) (text unread : List ℕ) (done : List (Placed A E)) (at : ℕ) (f : Frame) (rest : List ℕ)
    → HasRead head text done at (record { behind_head = true; unread = unread }) → first_frame unread ≡ Some (f, rest)
    → HasRead head text (done ++ record { item = FrameItem f; place = at + length (frame_bytes f) } ∷ []) (at + length (frame_bytes f)) (record { behind_head = true; unread = rest })
read_frame {A} {E} head text unread done at f rest has first =
    let next : ℕ = at + length (frame_bytes f) in
    let parts = found_parts unread f rest first in
    let size : length unread ≡ length text - at = ap length (sym has.left) ∙ length-drop at text in
    record {
      later = λ more.
          has.later more
          ∙ ap (λ (ps : List (Placed A E)). done ++ ps) (frames_step at (unread ++ more) f (rest ++ more) (first_frame_more unread more f rest first))
          ∙ sym (append_assoc done (record { item = FrameItem f; place = next } ∷ []) (frames_at next (rest ++ more)));
      within = omega (arith, parts.0, has.within);
      left = sym (drop-drop (length (frame_bytes f)) at text) ∙ ap (drop (length (frame_bytes f))) has.left ∙ sym parts.1;
      start = λ behind. absurd cc;
    }

-- all items of the text are those that were read and those that are ahead
pub read_items : {A E : Type 0} (head : Head A E) (text : List ℕ) (done : List (Placed A E)) (at : ℕ) (reader : Reader) → HasRead head text done at reader
    → items head text ≡ done ++ items_ahead head at reader
read_items head text done at reader has =
    ap (items head) (sym (append-nil text)) ∙ has.later []
    ∙ ap (λ (l : List ℕ). done ++ items_ahead head at (record { behind_head = reader.behind_head; unread = l })) (append-nil reader.unread)

-- where none is ahead, the fresh items of a piece are those ahead of the reader that was fed it
pub read_fresh : {A E : Type 0} (head : Head A E) (text piece : List ℕ) (done : List (Placed A E)) (at : ℕ) (reader : Reader) → HasRead head text done at reader
    → items_ahead head at reader ≡ [] → fresh_items head text piece ≡ items_ahead head at (fed piece reader)
read_fresh {A} {E} head text piece done at reader has none =
    let all : items head text ≡ done = read_items head text done at reader has ∙ ap (λ (ps : List (Placed A E)). done ++ ps) none ∙ append-nil done in
    fresh_are head text piece done (items_ahead head at (fed piece reader)) all (has.later piece)

-- ---- what follows a head may be left out

-- a first item that accepts is the head
first_says : {A E : Type 0} (result : Result (Option (A × ℕ)) E) (text : List ℕ) (a : A) (n : ℕ) (others : List (Placed A E))
    → items_by result text ≡ record { item = HeadItem (Ok a); place = n } ∷ others → result ≡ Ok (Some (a, n))
first_says {A} {E} (Ok None) text a n others is = absurd (list_apart is)
  where
    list_apart : {X : Type 0} {x : X} {xs : List X} → ◌≡◌ {A = List X} [] (x ∷ xs) → ⊥
    list_apart e = absurd cc
first_says {A} {E} (Ok (Some (b, m))) text a n others is =
    let same : ◌≡◌ {A = Placed A E} (record { item = HeadItem (Ok b); place = m }) (record { item = HeadItem (Ok a); place = n }) = first_of is in
    let item : ◌≡◌ {A = Item A E} (HeadItem (Ok b)) (HeadItem (Ok a)) = ap (λ (p : Placed A E). p.item) same in
    let says : b ≡ a = cc in
    let place : m ≡ n = ap (λ (p : Placed A E). p.place) same in
    ap (λ (x : A). Ok (Some (x, m))) says ∙ ap (λ (k : ℕ). Ok (Some (a, k))) place
  where
    first_of : {X : Type 0} {x y : X} {xs ys : List X} → x ∷ xs ≡ y ∷ ys → x ≡ y
    first_of e = cc
first_says {A} {E} (Err f) text a n others is =
    let same : ◌≡◌ {A = Placed A E} (record { item = HeadItem (Err f); place = 0 }) (record { item = HeadItem (Ok a); place = n }) = first_of is in
    let item : ◌≡◌ {A = Item A E} (HeadItem (Err f)) (HeadItem (Ok a)) = ap (λ (p : Placed A E). p.item) same in
    absurd cc
  where
    first_of : {X : Type 0} {x y : X} {xs ys : List X} → x ∷ xs ≡ y ∷ ys → x ≡ y
    first_of e = cc

-- the reader that has read a head alone has read the text up to its end, and what follows that may be left out
pub read_front : {A E : Type 0} (head : Head A E) (text unread : List ℕ) (a : A) (n : ℕ)
    → HasRead head text (record { item = HeadItem (Ok a); place = n } ∷ []) n (record { behind_head = true; unread = unread })
    → HasRead head (take n text) (record { item = HeadItem (Ok a); place = n } ∷ []) n (record { behind_head = true; unread = [] })
unfolding items
read_front {A} {E} head text unread a n has =
    let whole : items_by (answered head (length text)) text ≡ record { item = HeadItem (Ok a); place = n } ∷ frames_at n unread = read_items head text (record { item = HeadItem (Ok a); place = n } ∷ []) n (record { behind_head = true; unread = unread }) has in
    let is : answered head (length text) ≡ Ok (Some (a, n)) = first_says (answered head (length text)) text a n (frames_at n unread) whole in
    let size : length (take n text) ≡ n = omega (arith, length-take n text, has.within) in
    let front : answered head (length (take n text)) ≡ Ok (Some (a, n)) = ap (answered head) size ∙ head_at head (length text) n a is in
    let nothing : drop n (take n text) ≡ [] = none_left (take n text) n (omega arith) in
    record {
      later = λ more. items_head head (take n text) more a n front ∙ ap (λ (t : List ℕ). record { item = HeadItem (Ok a); place = n } ∷ frames_at n (t ++ more)) nothing;
      within = omega arith;
      left = nothing;
      start = λ behind. absurd cc;
    }
  where
    none_left : (xs : List ℕ) (n : ℕ) → length xs ≤ n → drop n xs ≡ []
    none_left xs n short = grind (arith, common_steps)
