-- Tests, filters and changes of lists, and of lists of requests that have their own ids.
use Rattle.std.proofs.Common.{◌≡◌, ℕ, zero, suc, ◌+◌, ◌<◌, ◌^◌, length, take, get_or, is_some, option_map, List, [], ◌∷◌, ◌++◌, map, Bool, true, false, not, Option, Some, None, refl, sym, ap, ◌∙◌, arith, inl, inr}
use Rattle.std.proofs.lemmas.Bool.{cases_Bool, cond_both, eqb-true, eqb-false, ne_eqb, eq-eqb, or_parts, true≢false}
use Rattle.std.proofs.lemmas.Bool.Decides.{nat_tests}
use Rattle.std.proofs.lemmas.List.{take_more, map-append}
use Rattle.std.proofs.lemmas.List.Elements.{filter_map-append}
use Rattle.std.specs.Prelude.{◌==◌}
use Rattle.std.specs.List.{AllByRecursion, list_any, filter, filter_map, cons_option, find}
use Rattle.ra_ipc.specs.ChannelServers.{Call, Active, waiting_call, handed_call, waiting_listen, listener, holds, is_handed, is_listener, cancel_one}
use Rattle.ra_chan_server.specs.Requests.{id_in, is_here, is_listen, opened, opened_call, marked, at_id, HaveOwnIds, ActiveFits}
use Rattle.ra_chan_server.proofs.Arrivals.{all_push, all_filter, all_more}

-- ---- any list

pub filter-map : {X Y : Type 0} (f : X → Y) (p : Y → Bool) (xs : List X) → map f (filter (λ x. p (f x)) xs) ≡ filter p (map f xs)
filter-map f p [] = refl
filter-map f p (x ∷ xs) = elim (cases_Bool (p (f x))) [ inl t ↦ rw t (ap (λ (ys : List _). f x ∷ ys) (filter-map f p xs)) | inr g ↦ rw g (filter-map f p xs) ]

pub filter_alike : {X : Type 0} (p q : X → Bool) (xs : List X) → AllByRecursion (λ x. p x ≡ q x) xs → filter p xs ≡ filter q xs
filter_alike p q [] h = refl
filter_alike p q (x ∷ xs) h = elim (cases_Bool (q x)) [
  | inl t ↦ rw (h.0, t) (ap (λ (ys : List _). x ∷ ys) (filter_alike p q xs h.1))
  | inr f ↦ rw (h.0, f) (filter_alike p q xs h.1)
]

pub all_both : {X : Type 0} (P Q R : X → Type 0) (xs : List X) → ((x : X) → P x → Q x → R x) → AllByRecursion P xs → AllByRecursion Q xs → AllByRecursion R xs
all_both P Q R [] f p q = tt
all_both P Q R (x ∷ xs) f p q = (f x p.0 q.0, all_both P Q R xs f p.1 q.1)

pub all_map : {X Y : Type 0} (P : Y → Type 0) (f : X → Y) (xs : List X) → AllByRecursion (λ x. P (f x)) xs → AllByRecursion P (map f xs)
all_map P f [] h = tt
all_map P f (x ∷ xs) h = (h.0, all_map P f xs h.1)

pub all_append : {X : Type 0} (P : X → Type 0) (xs ys : List X) → AllByRecursion P (xs ++ ys) → AllByRecursion P xs × AllByRecursion P ys
all_append P [] ys h = (tt, h)
all_append P (x ∷ xs) ys h = let rest = all_append P xs ys h.1 in ((h.0, rest.0), rest.1)

pub any_filtered : {X Y : Type 0} (f : X → Y) (p : X → Bool) (xs : List X) → not (length (map f (filter p xs)) == 0) ≡ list_any p xs
any_filtered f p [] = refl
any_filtered f p (x ∷ xs) = elim (cases_Bool (p x)) [ inl t ↦ rw t (some_left (length (map f (filter p xs)))) | inr g ↦ rw g (any_filtered f p xs) ]
  where
    some_left : (n : ℕ) → not (suc n == 0) ≡ true
    some_left n = grind (arith, nat_tests)

-- ---- lists by their indices

pub all_at : {X Y : Type 0} (P : Y → Type 0) (f : X → Y) (xs : List X) (i : ℕ) (x : X) → AllByRecursion P (map f xs) → i < length xs → x ≡ get_or xs i x → P (f x)
all_at P f [] i x h lt is = absurd (omega arith)
all_at P f (y ∷ ys) zero x h lt is = rw is h.0
all_at P f (y ∷ ys) (suc i) x h lt is = all_at P f ys i x h.1 (omega arith) is

pub next_found : {X Y Z : Type 0} (f : X → Y) (h : Y → Option Z) (xs : List X) (i : ℕ) (x : X) (olds news : List Z) (found : Option Z) →
    i < length xs → x ≡ get_or xs i x → olds ≡ filter_map h (map f (take i xs)) → found ≡ h (f x) → news ≡ olds ++ cons_option found [] → news ≡ filter_map h (map f (take (i + 1) xs))
next_found f h xs i x olds news found lt is before here after =
    let more : take (i + 1) xs ≡ take i xs ++ x ∷ [] = take_more xs i x lt ∙ ap (λ y. take i xs ++ y ∷ []) (sym is) in
    let listed : filter_map h (map f (take (i + 1) xs)) ≡ filter_map h (map f (take i xs)) ++ cons_option (h (f x)) [] =
    ap (λ ys. filter_map h (map f ys)) more ∙ ap (filter_map h) (map-append f (take i xs) (x ∷ [])) ∙ filter_map-append h (map f (take i xs)) (f x ∷ []) in
    after ∙ ap (λ ys. ys ++ cons_option found []) before ∙ ap (λ o. filter_map h (map f (take i xs)) ++ cons_option o []) here ∙ sym listed

-- ---- ids

pub holds_is : (i : ℕ) (a : Active) → holds i a ≡ (id_in a == i)
holds_is i (waiting_call id channel name arg cancelled until) = refl
holds_is i (handed_call id) = refl
holds_is i (waiting_listen id channel event until) = refl
holds_is i (listener id channel event) = refl

pub has_id : (i : ℕ) (a : Active) → holds i a ≡ true → id_in a ≡ i
has_id i a h = eqb-true (id_in a) i (sym (holds_is i a) ∙ h)

pub holds_own : (a : Active) → holds (id_in a) a ≡ true
holds_own a = holds_is (id_in a) a ∙ eq-eqb (id_in a) (id_in a) refl

pub other_id : (i j : ℕ) (a : Active) → holds i a ≡ true → (j == i) ≡ false → holds j a ≡ false
other_id i j a h ne = let same : id_in a ≡ i = has_id i a h in holds_is j a ∙ ne_eqb (id_in a) j (λ e. eqb-false j i ne (sym e ∙ same))

pub apart : (a b : Active) → holds (id_in b) a ≡ false → holds (id_in a) b ≡ false
apart a b h = holds_is (id_in a) b ∙ ne_eqb (id_in b) (id_in a) (λ e. eqb-false (id_in a) (id_in b) (sym (holds_is (id_in b) a) ∙ h) (sym e))

-- ---- each id once

pub own_filter : (p : Active → Bool) (xs : List Active) → HaveOwnIds xs → HaveOwnIds (filter p xs)
own_filter p [] h = tt
own_filter p (a ∷ xs) h = cond_both (p a) (a ∷ filter p xs) (filter p xs) HaveOwnIds (λ _. (all_filter (λ other. holds (id_in a) other ≡ false) p xs h.0, own_filter p xs h.1)) (λ _. own_filter p xs h.1)

pub own_push : (xs : List Active) (b : Active) → HaveOwnIds xs → AllByRecursion (λ a. holds (id_in b) a ≡ false) xs → HaveOwnIds (xs ++ b ∷ [])
own_push [] b h n = (tt, tt)
own_push (a ∷ xs) b h n = (all_push (λ other. holds (id_in a) other ≡ false) xs b h.0 (apart a b n.0), own_push xs b h.1 n.1)

pub own_map : (f : Active → Active) → ((a : Active) → id_in (f a) ≡ id_in a) → (xs : List Active) → HaveOwnIds xs → HaveOwnIds (map f xs)
own_map f same [] h = tt
own_map f same (a ∷ xs) h = (
  all_map (λ other. holds (id_in (f a)) other ≡ false) f xs
      (all_more (λ other. holds (id_in a) other ≡ false) (λ other. holds (id_in (f a)) (f other) ≡ false) xs
      (λ other e. holds_is (id_in (f a)) (f other) ∙ ap (λ (i : ℕ). i == id_in (f a)) (same other) ∙ ap (λ (i : ℕ). id_in other == i) (same a) ∙ sym (holds_is (id_in a) other) ∙ e) h.0),
  own_map f same xs h.1,
)

-- ---- changes at an id

pub none_changes : (i : ℕ) (f : Active → Active) (xs : List Active) → AllByRecursion (λ a. holds i a ≡ false) xs → map (at_id i f) xs ≡ xs
none_changes i f [] h = refl
none_changes i f (a ∷ xs) h = rw (h.0, none_changes i f xs h.1) refl

pub keeps_id_opened : (a : Active) → id_in (opened a) ≡ id_in a
keeps_id_opened (waiting_call id channel name arg cancelled until) = refl
keeps_id_opened (handed_call id) = refl
keeps_id_opened (waiting_listen id channel event until) = refl
keeps_id_opened (listener id channel event) = refl

pub keeps_id_marked : (a : Active) → id_in (marked a) ≡ id_in a
keeps_id_marked (waiting_call id channel name arg cancelled until) = refl
keeps_id_marked (handed_call id) = refl
keeps_id_marked (waiting_listen id channel event until) = refl
keeps_id_marked (listener id channel event) = refl

pub keeps_here_marked : (a : Active) → is_here (marked a) ≡ is_here a
keeps_here_marked (waiting_call id channel name arg cancelled until) = refl
keeps_here_marked (handed_call id) = refl
keeps_here_marked (waiting_listen id channel event until) = refl
keeps_here_marked (listener id channel event) = refl

pub keeps_fit_opened : (a : Active) → ActiveFits a → ActiveFits (opened a)
keeps_fit_opened (waiting_call id channel name arg cancelled until) h = h.0
keeps_fit_opened (handed_call id) h = h
keeps_fit_opened (waiting_listen id channel event until) h = h
keeps_fit_opened (listener id channel event) h = h

pub keeps_fit_marked : (a : Active) → ActiveFits a → ActiveFits (marked a)
keeps_fit_marked (waiting_call id channel name arg cancelled until) h = h
keeps_fit_marked (handed_call id) h = h
keeps_fit_marked (waiting_listen id channel event until) h = h
keeps_fit_marked (listener id channel event) h = h

pub keeps_id_at : (i : ℕ) (f : Active → Active) → ((a : Active) → id_in (f a) ≡ id_in a) → (a : Active) → id_in (at_id i f a) ≡ id_in a
keeps_id_at i f same a = cond_both (holds i a) (f a) a (λ b. id_in b ≡ id_in a) (λ _. same a) (λ _. refl)

pub fits_at : (i : ℕ) (f : Active → Active) → ((a : Active) → ActiveFits a → ActiveFits (f a)) → (xs : List Active) → AllByRecursion ActiveFits xs → AllByRecursion ActiveFits (map (at_id i f) xs)
fits_at i f keeps [] h = tt
fits_at i f keeps (a ∷ xs) h = (cond_both (holds i a) (f a) a ActiveFits (λ _. keeps a h.0) (λ _. h.0), fits_at i f keeps xs h.1)

marks_as_cancels : (i : ℕ) (a : Active) → at_id i marked a ≡ cancel_one i a
marks_as_cancels i (waiting_call id channel name arg cancelled until) = elim (cases_Bool (id == i)) [ inl t ↦ rw t refl | inr f ↦ rw f refl ]
marks_as_cancels i (handed_call id) = elim (cases_Bool (id == i)) [ inl t ↦ rw t refl | inr f ↦ rw f refl ]
marks_as_cancels i (waiting_listen id channel event until) = elim (cases_Bool (id == i)) [ inl t ↦ rw t refl | inr f ↦ rw f refl ]
marks_as_cancels i (listener id channel event) = elim (cases_Bool (id == i)) [ inl t ↦ rw t refl | inr f ↦ rw f refl ]

pub marks_cancel : (i : ℕ) (xs : List Active) → map (at_id i marked) xs ≡ map (cancel_one i) xs
marks_cancel i [] = refl
marks_cancel i (a ∷ xs) = rw (marks_as_cancels i a, marks_cancel i xs) refl

pub handed_out : (a : Active) (c : Call) → opened_call a ≡ Some c → is_here (opened a) ≡ false
handed_out (waiting_call id channel name arg cancelled until) c h = refl
handed_out (handed_call id) c h = refl
handed_out (waiting_listen id channel event until) c h = absurd cc
handed_out (listener id channel event) c h = absurd cc

pub not_handed_out : (a : Active) → opened_call a ≡ None → is_here (opened a) ≡ is_here a
not_handed_out (waiting_call id channel name arg cancelled until) h = absurd cc
not_handed_out (handed_call id) h = refl
not_handed_out (waiting_listen id channel event until) h = refl
not_handed_out (listener id channel event) h = refl

-- ---- what lacks an id

pub none_has : (i : ℕ) (xs : List Active) → list_any (holds i) xs ≡ false → AllByRecursion (λ a. holds i a ≡ false) xs
none_has i [] h = tt
none_has i (a ∷ xs) h = let parts = or_parts (holds i a) (list_any (holds i) xs) h in (parts.0, none_has i xs parts.1)

pub all_left : (i : ℕ) (xs : List Active) → AllByRecursion (λ a. holds i a ≡ false) xs → filter (λ a. not (holds i a)) xs ≡ xs
all_left i [] h = refl
all_left i (a ∷ xs) h = rw h.0 (ap (λ (w : List Active). a ∷ w) (all_left i xs h.1))

-- ---- the one with an id

pub any_holds : (i : ℕ) (xs : List Active) → is_some (find (holds i) xs) ≡ list_any (holds i) xs
any_holds i [] = refl
any_holds i (a ∷ xs) = elim (cases_Bool (holds i a)) [ inl t ↦ rw t refl | inr f ↦ rw f (any_holds i xs) ]

pub some_map : {X Y : Type 0} (f : X → Y) (o : Option X) → is_some (option_map f o) ≡ is_some o
some_map f None = refl
some_map f (Some x) = refl

id_fits : (a : Active) → ActiveFits a → id_in a < 2 ^ 31
id_fits (waiting_call id channel name arg cancelled until) h = h.0
id_fits (handed_call id) h = h
id_fits (waiting_listen id channel event until) h = h
id_fits (listener id channel event) h = h

pub found_fits : (i : ℕ) (xs : List Active) (a : Active) → Some a ≡ find (holds i) xs → AllByRecursion ActiveFits xs → i < 2 ^ 31
found_fits i [] a h fits = absurd cc
found_fits i (x ∷ xs) a h fits = elim (cases_Bool (holds i x)) [
  | inl t ↦ rw (has_id i x t) at (id_fits x fits.0)
  | inr f ↦ found_fits i xs a (rw f at h) fits.1
]

-- A test of one kind of request at an id: it passes at that id alone.
pub record IsKind (test : ℕ → Active → Bool) (kind : Active → Bool) : Type 0 where
  pub here : (i : ℕ) (a : Active) → holds i a ≡ true → test i a ≡ kind a
  pub other : (i : ℕ) (a : Active) → holds i a ≡ false → test i a ≡ false

handed_here : (i : ℕ) (a : Active) → holds i a ≡ true → is_handed i a ≡ not (is_here a)
handed_here i (waiting_call id channel name arg cancelled until) h = refl
handed_here i (handed_call id) h = h
handed_here i (waiting_listen id channel event until) h = refl
handed_here i (listener id channel event) h = refl

handed_other : (i : ℕ) (a : Active) → holds i a ≡ false → is_handed i a ≡ false
handed_other i (waiting_call id channel name arg cancelled until) h = refl
handed_other i (handed_call id) h = h
handed_other i (waiting_listen id channel event until) h = refl
handed_other i (listener id channel event) h = refl

listen_here : (i : ℕ) (a : Active) → holds i a ≡ true → is_listener i a ≡ is_listen a
listen_here i (waiting_call id channel name arg cancelled until) h = refl
listen_here i (handed_call id) h = refl
listen_here i (waiting_listen id channel event until) h = h
listen_here i (listener id channel event) h = h

listen_other : (i : ℕ) (a : Active) → holds i a ≡ false → is_listener i a ≡ false
listen_other i (waiting_call id channel name arg cancelled until) h = refl
listen_other i (handed_call id) h = refl
listen_other i (waiting_listen id channel event until) h = h
listen_other i (listener id channel event) h = h

pub handed_kind : IsKind is_handed (λ a. not (is_here a))
handed_kind = record { here = handed_here; other = handed_other }

pub listen_kind : IsKind is_listener is_listen
listen_kind = record { here = listen_here; other = listen_other }

-- what a test of a kind tells of a list: whether it passes, what is left where it passes, and what is left where it does not
pub record Tells (test : ℕ → Active → Bool) (i : ℕ) (xs : List Active) (passes : Bool) : Type 0 where
  pub any : list_any (test i) xs ≡ passes
  pub gone : passes ≡ true → filter (λ a. not (holds i a)) xs ≡ filter (λ a. not (test i a)) xs
  pub stays : passes ≡ false → filter (λ a. not (test i a)) xs ≡ xs

none_tells : (test : ℕ → Active → Bool) (kind : Active → Bool) → IsKind test kind → (i : ℕ) (xs : List Active) → AllByRecursion (λ a. holds i a ≡ false) xs → Tells test i xs false
none_tells test kind k i [] h = record { any = refl; gone = λ t. refl; stays = λ f. refl }
none_tells test kind k i (a ∷ xs) h =
    let rest = none_tells test kind k i xs h.1 in
    let no : test i a ≡ false = k.other i a h.0 in
    record {
      any = rw (no, rest.any) refl;
      gone = λ t. absurd cc;
      stays = λ f. rw no (ap (λ (w : List Active). a ∷ w) (rest.stays refl));
    }

pub found_tells : (test : ℕ → Active → Bool) (kind : Active → Bool) → IsKind test kind → (i : ℕ) (xs : List Active) (a : Active) → HaveOwnIds xs → Some a ≡ find (holds i) xs → Tells test i xs (kind a)
found_tells test kind k i [] a own h = absurd cc
found_tells test kind k i (x ∷ xs) a own h = elim (cases_Bool (holds i x)) [
  | inl t ↦
      let is : Some a ≡ Some x = rw t at h in
      let same : a ≡ x = cc in
      let lack : AllByRecursion (λ b. holds i b ≡ false) xs = rw (has_id i x t) at own.0 in
      let none = none_tells test kind k i xs lack in
      let tested : test i x ≡ kind a = k.here i x t ∙ ap kind (sym same) in
      elim (cases_Bool (kind a)) [
        | inl u ↦ record {
          any = rw (tested, u) refl;
          gone = λ v. rw (t, tested, u) (all_left i xs lack ∙ sym (none.stays refl));
          stays = λ f. absurd (true≢false (sym u ∙ f));
        }
        | inr g ↦ record {
          any = rw (tested, g, none.any) refl;
          gone = λ v. absurd (true≢false (sym v ∙ g));
          stays = λ f. rw (tested, g) (ap (λ (w : List Active). x ∷ w) (none.stays refl));
        }
      ]
  | inr f ↦
      let rest = found_tells test kind k i xs a own.1 (rw f at h) in
      let no : test i x ≡ false = k.other i x f in
      record {
        any = rw (no, rest.any) refl;
        gone = λ v. rw (f, no) (ap (λ (w : List Active). x ∷ w) (rest.gone v));
        stays = λ v. rw no (ap (λ (w : List Active). x ∷ w) (rest.stays v));
      }
]

none_found : (i : ℕ) (xs : List Active) → None ≡ find (holds i) xs → AllByRecursion (λ a. holds i a ≡ false) xs
none_found i [] h = tt
none_found i (x ∷ xs) h = elim (cases_Bool (holds i x)) [
  | inl t ↦ absurd (let no : None ≡ Some x = rw t at h in cc)
  | inr f ↦ (f, none_found i xs (rw f at h))
]

pub not_found_tells : (test : ℕ → Active → Bool) (kind : Active → Bool) → IsKind test kind → (i : ℕ) (xs : List Active) → None ≡ find (holds i) xs → Tells test i xs false
not_found_tells test kind k i xs h = none_tells test kind k i xs (none_found i xs h)
