-- Several requests at once: those that are taken out, and those whose channel is registered.
use Rattle.std.proofs.Common.{◌≡◌, ℕ, List, [], ◌∷◌, ◌++◌, map, Bool, true, false, not, Option, Some, None, refl, sym, ap, subst, ◌∙◌, append_assoc, inl, inr}
use Rattle.std.proofs.lemmas.Bool.{cases_Bool, true≢false}
use Rattle.std.proofs.lemmas.List.{map-append}
use Rattle.std.specs.Str.{bytes_eq}
use Rattle.std.specs.Option.{option_and_then}
use Rattle.std.specs.List.{AllByRecursion, filter, filter_map, cons_option, find}
use Rattle.ra_values.specs.Tree.{Tree}
use Rattle.ra_ipc.specs.ChannelServers.{Active, waiting_call, handed_call, waiting_listen, listener, Call, holds, open_one, call_one, is_timed_out, timeout_one, fire_one}
use Rattle.ra_chan_server.specs.Requests.{id_in, is_here, opened, opened_call, at_id, waits_for, HaveOwnIds, ActiveFits, CallFits}
use Rattle.ra_chan_server.proofs.Lists.{all_append, apart, holds_own, own_filter, own_map, all_left, none_changes, keeps_id_at, keeps_id_opened}

-- ---- what becomes of a list, id by id

abbrev pub left_after : List ℕ → List Active → List Active
left_after [] xs = xs
left_after (i ∷ ids) xs = left_after ids (filter (λ a. not (holds i a)) xs)

abbrev pub opened_after : List ℕ → List Active → List Active
opened_after [] xs = xs
opened_after (i ∷ ids) xs = opened_after ids (map (at_id i opened) xs)

abbrev pub calls_after : List ℕ → List Active → List Call
calls_after [] xs = []
calls_after (i ∷ ids) xs = cons_option (option_and_then opened_call (find (holds i) xs)) (calls_after ids (map (at_id i opened) xs))

-- ---- one among others

filter-append : (p : Active → Bool) (xs ys : List Active) → filter p (xs ++ ys) ≡ filter p xs ++ filter p ys
filter-append p [] ys = refl
filter-append p (x ∷ xs) ys = elim (cases_Bool (p x)) [ inl t ↦ rw t (ap (λ (w : List Active). x ∷ w) (filter-append p xs ys)) | inr f ↦ rw f (filter-append p xs ys) ]

own_parts : (xs : List Active) (a : Active) (ys : List Active) → HaveOwnIds (xs ++ a ∷ ys) → AllByRecursion (λ b. holds (id_in a) b ≡ false) xs × AllByRecursion (λ b. holds (id_in a) b ≡ false) ys
own_parts [] a ys h = (tt, h.0)
own_parts (x ∷ xs) a ys h = let rest = own_parts xs a ys h.1 in let here = all_append (λ b. holds (id_in x) b ≡ false) xs (a ∷ ys) h.0 in ((apart a x here.1.0, rest.0), rest.1)

one_goes : (xs : List Active) (a : Active) (ys : List Active) → HaveOwnIds (xs ++ a ∷ ys) → filter (λ b. not (holds (id_in a) b)) (xs ++ a ∷ ys) ≡ xs ++ ys
one_goes xs a ys own =
    let parts = own_parts xs a ys own in
    filter-append (λ b. not (holds (id_in a) b)) xs (a ∷ ys) ∙ (rw (holds_own a, all_left (id_in a) xs parts.0, all_left (id_in a) ys parts.1) refl)

one_opens : (xs : List Active) (a : Active) (ys : List Active) → HaveOwnIds (xs ++ a ∷ ys) → map (at_id (id_in a) opened) (xs ++ a ∷ ys) ≡ (xs ++ opened a ∷ []) ++ ys
one_opens xs a ys own =
    let parts = own_parts xs a ys own in
    map-append (at_id (id_in a) opened) xs (a ∷ ys) ∙ (rw (holds_own a, none_changes (id_in a) opened xs parts.0, none_changes (id_in a) opened ys parts.1, append_assoc xs (opened a ∷ []) ys) refl)

one_found : (xs : List Active) (a : Active) (ys : List Active) (i : ℕ) → holds i a ≡ true → AllByRecursion (λ b. holds i b ≡ false) xs → find (holds i) (xs ++ a ∷ ys) ≡ Some a
one_found [] a ys i h lack = rw h refl
one_found (x ∷ xs) a ys i h lack = rw lack.0 (one_found xs a ys i h lack.1)

-- ---- all that pass a test

pub left_is : (p : Active → Bool) (xs ys : List Active) → HaveOwnIds (xs ++ ys) → left_after (map id_in (filter p ys)) (xs ++ ys) ≡ xs ++ filter (λ a. not (p a)) ys
left_is p xs [] own = refl
left_is p xs (y ∷ ys) own = elim (cases_Bool (p y)) [
  | inl t ↦
      let goes : filter (λ b. not (holds (id_in y) b)) (xs ++ y ∷ ys) ≡ xs ++ ys = one_goes xs y ys own in
      rw t (ap (left_after (map id_in (filter p ys))) goes ∙ left_is p xs ys (rw goes at (own_filter (λ b. not (holds (id_in y) b)) (xs ++ y ∷ ys) own)))
  | inr f ↦
      let same : (xs ++ y ∷ []) ++ ys ≡ xs ++ y ∷ ys = append_assoc xs (y ∷ []) ys in
      rw f (ap (left_after (map id_in (filter p ys))) (sym same) ∙ left_is p (xs ++ y ∷ []) ys (subst HaveOwnIds (sym same) own) ∙ append_assoc xs (y ∷ []) (filter (λ a. not (p a)) ys))
]

-- ---- a channel that is registered

opens_so : (channel : List ℕ) (a : Active) → waits_for channel a ≡ true → (open_one channel a ≡ opened a) × (call_one channel a ≡ opened_call a)
opens_so channel (waiting_call id c name arg cancelled until) h = (rw h refl, rw h refl)
opens_so channel (handed_call id) h = absurd (true≢false (sym h))
opens_so channel (waiting_listen id c event until) h = (rw h refl, refl)
opens_so channel (listener id c event) h = absurd (true≢false (sym h))

stays_so : (channel : List ℕ) (a : Active) → waits_for channel a ≡ false → (open_one channel a ≡ a) × (call_one channel a ≡ None)
stays_so channel (waiting_call id c name arg cancelled until) h = (rw h refl, rw h refl)
stays_so channel (handed_call id) h = (refl, refl)
stays_so channel (waiting_listen id c event until) h = (rw h refl, refl)
stays_so channel (listener id c event) h = (refl, refl)

pub opens_are : (channel : List ℕ) (xs ys : List Active) → HaveOwnIds (xs ++ ys) →
    (opened_after (map id_in (filter (waits_for channel) ys)) (xs ++ ys) ≡ xs ++ map (open_one channel) ys) × (calls_after (map id_in (filter (waits_for channel) ys)) (xs ++ ys) ≡ filter_map (call_one channel) ys)
opens_are channel xs [] own = (refl, refl)
opens_are channel xs (y ∷ ys) own = elim (cases_Bool (waits_for channel y)) [
  | inl t ↦
      let so = opens_so channel y t in
      let ids : List ℕ = map id_in (filter (waits_for channel) ys) in
      let opens : map (at_id (id_in y) opened) (xs ++ y ∷ ys) ≡ (xs ++ opened y ∷ []) ++ ys = one_opens xs y ys own in
      let own_after : HaveOwnIds ((xs ++ opened y ∷ []) ++ ys) = rw opens at (own_map (at_id (id_in y) opened) (keeps_id_at (id_in y) opened keeps_id_opened) (xs ++ y ∷ ys) own) in
      let found : find (holds (id_in y)) (xs ++ y ∷ ys) ≡ Some y = one_found xs y ys (id_in y) (holds_own y) (own_parts xs y ys own).0 in
      let rest = opens_are channel (xs ++ opened y ∷ []) ys own_after in
      let call : option_and_then opened_call (find (holds (id_in y)) (xs ++ y ∷ ys)) ≡ call_one channel y = ap (option_and_then opened_call) found ∙ sym so.1 in
      let calls : calls_after ids (map (at_id (id_in y) opened) (xs ++ y ∷ ys)) ≡ filter_map (call_one channel) ys = ap (calls_after ids) opens ∙ rest.1 in (
        rw (t, so.0) (ap (opened_after ids) opens ∙ rest.0 ∙ append_assoc xs (opened y ∷ []) (map (open_one channel) ys)),
        rw t (ap (λ (o : Option Call). cons_option o (calls_after ids (map (at_id (id_in y) opened) (xs ++ y ∷ ys)))) call ∙ ap (cons_option (call_one channel y)) calls),
      )
  | inr f ↦
      let so = stays_so channel y f in
      let same : (xs ++ y ∷ []) ++ ys ≡ xs ++ y ∷ ys = append_assoc xs (y ∷ []) ys in
      let rest = opens_are channel (xs ++ y ∷ []) ys (subst HaveOwnIds (sym same) own) in (
        rw (f, so.0) (ap (opened_after (map id_in (filter (waits_for channel) ys))) (sym same) ∙ rest.0 ∙ append_assoc xs (y ∷ []) (map (open_one channel) ys)),
        rw (f, so.1) (ap (calls_after (map id_in (filter (waits_for channel) ys))) (sym same) ∙ rest.1),
      )
]

-- ---- what is asked of those that were not handed out alone

pub here_filter_is : (p : Active → Bool) → ((a : Active) → is_here a ≡ false → p a ≡ false) → (xs : List Active) → filter p (filter is_here xs) ≡ filter p xs
here_filter_is p other [] = refl
here_filter_is p other (x ∷ xs) = elim (cases_Bool (is_here x)) [
  | inl t ↦ elim (cases_Bool (p x)) [ inl u ↦ rw (t, u) (ap (λ (w : List Active). x ∷ w) (here_filter_is p other xs)) | inr g ↦ rw (t, g) (here_filter_is p other xs) ]
  | inr f ↦ rw (f, other x f) (here_filter_is p other xs)
]

pub here_map_is : {X : Type 0} (h : Active → Option X) → ((a : Active) → is_here a ≡ false → h a ≡ None) → (xs : List Active) → filter_map h (filter is_here xs) ≡ filter_map h xs
here_map_is h other [] = refl
here_map_is h other (x ∷ xs) = elim (cases_Bool (is_here x)) [
  | inl t ↦ rw (t, here_map_is h other xs) refl
  | inr f ↦ rw (f, other x f) (here_map_is h other xs)
]

call_fits : (channel : List ℕ) (a : Active) (rest : List Call) → ActiveFits a → AllByRecursion CallFits rest → AllByRecursion CallFits (cons_option (call_one channel a) rest)
call_fits channel (waiting_call id c name arg cancelled until) rest fits others = elim (cases_Bool (bytes_eq channel c)) [ inl t ↦ rw t (fits, others) | inr f ↦ rw f others ]
call_fits channel (handed_call id) rest fits others = others
call_fits channel (waiting_listen id c event until) rest fits others = others
call_fits channel (listener id c event) rest fits others = others

pub calls_fit : (channel : List ℕ) (xs : List Active) → AllByRecursion ActiveFits xs → AllByRecursion CallFits (filter_map (call_one channel) xs)
calls_fit channel [] h = tt
calls_fit channel (x ∷ xs) h = call_fits channel x (filter_map (call_one channel) xs) h.0 (calls_fit channel xs h.1)

pub late_here : (now : ℕ) (a : Active) → is_here a ≡ false → is_timed_out now a ≡ false
late_here now (waiting_call id c name arg cancelled until) h = absurd (true≢false h)
late_here now (handed_call id) h = refl
late_here now (waiting_listen id c event until) h = absurd (true≢false h)
late_here now (listener id c event) h = refl

pub waits_here : (channel : List ℕ) (a : Active) → is_here a ≡ false → waits_for channel a ≡ false
waits_here channel (waiting_call id c name arg cancelled until) h = absurd (true≢false h)
waits_here channel (handed_call id) h = refl
waits_here channel (waiting_listen id c event until) h = absurd (true≢false h)
waits_here channel (listener id c event) h = refl

pub timeout_here : (now : ℕ) (a : Active) → is_here a ≡ false → timeout_one now a ≡ None
timeout_here now (waiting_call id c name arg cancelled until) h = absurd (true≢false h)
timeout_here now (handed_call id) h = refl
timeout_here now (waiting_listen id c event until) h = refl
timeout_here now (listener id c event) h = refl

pub fire_here : (channel event : List ℕ) (body : Tree) (a : Active) → is_here a ≡ false → fire_one channel event body a ≡ None
fire_here channel event body (waiting_call id c name arg cancelled until) h = refl
fire_here channel event body (handed_call id) h = refl
fire_here channel event body (waiting_listen id c e until) h = refl
fire_here channel event body (listener id c e) h = absurd (true≢false h)
