-- Requests by their arrivals: one more behind all others, one taken out, one changed.
use Rattle.std.proofs.Common.{◌≡◌, ℕ, ◌+◌, ◌<◌, ◌^◌, Bool, List, [], ◌∷◌, ◌++◌, map, true, false, not, leb, Option, Some, None, refl, sym, ap, ◌∙◌, arith, ◌⊎◌, inl, inr, option_map, append_assoc, append-nil}
use Rattle.std.proofs.lemmas.Bool.{cases_Bool, cond_both, eqb-true, eqb-false, ne_eqb, eq-eqb}
use Rattle.std.proofs.lemmas.Map.{keys-set_value}
use Rattle.std.specs.Prelude.{◌==◌, ◌||◌, ◌≤◌, length, if◌then◌else◌}
use Rattle.std.specs.Option.{is_some}
use Rattle.std.specs.List.{AllByRecursion, filter, filter_map, find, list_any}
use Rattle.std.specs.Map.{keys_of, lookup, set_value, remove_entry}
use Rattle.std.specs.BTreeMap.{is_at}
use Rattle.std.specs.Ordering.{nat_cmp}
use Rattle.ra_ipc.specs.ChannelServers.{Active, Call, waiting_call, handed_call, waiting_listen, listener, holds, is_timed_out, timeout_one}
use Rattle.ra_chan_server.specs.declared.request.Request.{Request}
use Rattle.ra_chan_server.specs.Requests.{id_in, is_here, opened, opened_call, marked, at_id, HaveOwnIds, ActiveFits}
use Rattle.ra_chan_server.specs.View.{active_of}
use Rattle.ra_chan_server.specs.Held.{Ascending, AreArrivals, AreHeld, without, actives, arrival_of, request_of, here, SetAt}
use Rattle.ra_chan_server.proofs.Arrivals.{at_is, arrivals_push, arrivals_filter, all_push, all_filter, keys_push, keys_without, entry_goes, all_stay}
use Rattle.ra_chan_server.proofs.Several.{here_map_is, timeout_here}
use Rattle.ra_chan_server.proofs.Lists.{filter-map, filter_alike, holds_is, has_id, other_id, own_filter, own_push, own_map, none_changes, keeps_id_at, fits_at, keeps_id_opened, keeps_id_marked, keeps_here_marked, keeps_fit_opened, keeps_fit_marked, handed_out, not_handed_out}

-- ---- one more

pub actives_push : (es : List (ℕ × Request)) (n : ℕ) (r : Request) → actives (es ++ (n, r) ∷ []) ≡ actives es ++ active_of r ∷ []
actives_push [] n r = refl
actives_push (e ∷ es) n r = ap (λ (w : List Active). active_of e.1 ∷ w) (actives_push es n r)

pub here_push : (es : List (ℕ × Request)) (n : ℕ) (r : Request) → here (es ++ (n, r) ∷ []) ≡ (if is_here (active_of r) then here es ++ n ∷ [] else here es)
here_push [] n r = cond_both (is_here (active_of r)) _ _ (λ (w : List (ℕ × Request)). keys_of w ≡ (if is_here (active_of r) then n ∷ [] else [])) (λ t. rw t refl) (λ f. rw f refl)
here_push (e ∷ es) n r = elim (cases_Bool (is_here (active_of e.1))) [
  | inl t ↦ elim (cases_Bool (is_here (active_of r))) [
    | inl u ↦ rw (t, u) (ap (λ (w : List ℕ). e.0 ∷ w) (rw u at (here_push es n r)))
    | inr g ↦ rw (t, g) (ap (λ (w : List ℕ). e.0 ∷ w) (rw g at (here_push es n r)))
  ]
  | inr f ↦ rw f (here_push es n r)
]

absent_push : (es : List (ℕ × Request)) (n i : ℕ) (r : Request) → holds i (active_of r) ≡ false → arrival_of i (es ++ (n, r) ∷ []) ≡ arrival_of i es
absent_push [] n i r h = rw h refl
absent_push (e ∷ es) n i r h = rw (absent_push es n i r h) refl

last_push : (es : List (ℕ × Request)) (n i : ℕ) (r : Request) → arrival_of i es ≡ None → holds i (active_of r) ≡ true → arrival_of i (es ++ (n, r) ∷ []) ≡ Some n
last_push [] n i r none h = rw h refl
last_push (e ∷ es) n i r none h = elim (cases_Bool (holds i (active_of e.1))) [
  | inl t ↦ absurd (let no : Some e.0 ≡ None = rw t at none in cc)
  | inr f ↦ rw f (last_push es n i r (rw f at none) h)
]

pub arrival_push : (es : List (ℕ × Request)) (n id : ℕ) (r : Request) → id_in (active_of r) ≡ id → arrival_of id es ≡ None → (i : ℕ) → arrival_of i (es ++ (n, r) ∷ []) ≡ (if i == id then Some n else arrival_of i es)
arrival_push es n id r same none i = elim (cases_Bool (i == id)) [
  | inl t ↦ let is : i ≡ id = eqb-true i id t in rw (t, is) (last_push es n id r none (holds_is id (active_of r) ∙ eq-eqb (id_in (active_of r)) id same))
  | inr f ↦ rw f (absent_push es n i r (holds_is i (active_of r) ∙ ne_eqb (id_in (active_of r)) i (λ e. eqb-false i id f (sym e ∙ same))))
]

pub lacks : (i : ℕ) (es : List (ℕ × Request)) → arrival_of i es ≡ None → AllByRecursion (λ a. holds i a ≡ false) (actives es)
lacks i [] h = tt
lacks i (e ∷ es) h = elim (cases_Bool (holds i (active_of e.1))) [
  | inl t ↦ absurd (let no : Some e.0 ≡ None = rw t at h in cc)
  | inr f ↦ (f, lacks i es (rw f at h))
]

pub held_add : (n id : ℕ) (es : List (ℕ × Request)) (r : Request) (arrivals named : List (ℕ × ℕ)) (hs : List ℕ) →
    AreHeld n es arrivals hs → id_in (active_of r) ≡ id → ActiveFits (active_of r) → arrival_of id es ≡ None →
    ((i : ℕ) → lookup (is_at (nat_cmp i)) named ≡ (if i == id then Some n else lookup (is_at (nat_cmp i)) arrivals)) →
    AreHeld (n + 1) (es ++ (n, r) ∷ []) named (here (es ++ (n, r) ∷ []))
held_add n id es r arrivals named hs held same fits none gives = record {
  order = rw (keys_push es n r) (arrivals_push n (keys_of es) held.order);
  own = rw (actives_push es n r) (own_push (actives es) (active_of r) held.own (rw same (lacks id es none)));
  found = λ i. gives i ∙ ap (λ (w : Option ℕ). if i == id then Some n else w) (held.found i) ∙ sym (arrival_push es n id r same none i);
  here = refl;
  fits = rw (actives_push es n r) (all_push ActiveFits (actives es) (active_of r) held.fits fits);
}

-- ---- one found

later : (i k x : ℕ) (es : List (ℕ × Request)) → arrival_of i es ≡ Some k → AllByRecursion (λ y. x < y) (keys_of es) → x < k
later i k x [] h above = absurd cc
later i k x (e ∷ es) h above = elim (cases_Bool (holds i (active_of e.1))) [
  | inl t ↦ let is : Some e.0 ≡ Some k = rw t at h in let same : e.0 ≡ k = cc in omega (arith, above.0)
  | inr f ↦ later i k x es (rw f at h) above.1
]

pub looked : (i k : ℕ) (es : List (ℕ × Request)) → arrival_of i es ≡ Some k → Ascending (keys_of es) → lookup (is_at (nat_cmp k)) es ≡ request_of i es
looked i k [] h a = refl
looked i k (e ∷ es) h a = elim (cases_Bool (holds i (active_of e.1))) [
  | inl t ↦ let is : Some e.0 ≡ Some k = rw t at h in let same : e.0 ≡ k = cc in rw (at_is k e.0, eq-eqb e.0 k same, t) refl
  | inr f ↦ rw (at_is k e.0, ne_eqb e.0 k (omega (arith, later i k e.0 es (rw f at h) a.0)), f) (looked i k es (rw f at h) a.1)
]

pub never_lost : (i k : ℕ) (es : List (ℕ × Request)) → arrival_of i es ≡ Some k → request_of i es ≡ None → ⊥
never_lost i k [] h n = cc
never_lost i k (e ∷ es) h n = elim (cases_Bool (holds i (active_of e.1))) [
  | inl t ↦ let no : Some e.1 ≡ None = rw t at n in cc
  | inr f ↦ never_lost i k es (rw f at h) (rw f at n)
]

pub none_found : (i : ℕ) (es : List (ℕ × Request)) → arrival_of i es ≡ None → request_of i es ≡ None
none_found i [] h = refl
none_found i (e ∷ es) h = elim (cases_Bool (holds i (active_of e.1))) [
  | inl t ↦ absurd (let no : Some e.0 ≡ None = rw t at h in cc)
  | inr f ↦ rw f (none_found i es (rw f at h))
]

found_active : (i : ℕ) (es : List (ℕ × Request)) → option_map active_of (request_of i es) ≡ find (holds i) (actives es)
found_active i [] = refl
found_active i (e ∷ es) = elim (cases_Bool (holds i (active_of e.1))) [ inl t ↦ rw t refl | inr f ↦ rw f (found_active i es) ]

pub at_arrival : (i k : ℕ) (es : List (ℕ × Request)) (r : Request) → Some k ≡ arrival_of i es → Some r ≡ request_of i es → Ascending (keys_of es) → lookup (is_at (nat_cmp k)) es ≡ Some r
at_arrival i k es r found is a = looked i k es (sym found) a ∙ sym is

pub active_found : (i : ℕ) (es : List (ℕ × Request)) (r : Request) → Some r ≡ request_of i es → Some (active_of r) ≡ find (holds i) (actives es)
active_found i es r is = ap (option_map active_of) is ∙ found_active i es

pub active_not_found : (i : ℕ) (es : List (ℕ × Request)) → None ≡ request_of i es → None ≡ find (holds i) (actives es)
active_not_found i es is = ap (option_map active_of) is ∙ found_active i es

pub never_came : (i : ℕ) (es : List (ℕ × Request)) → AllByRecursion (λ a. holds i a ≡ false) (actives es) → arrival_of i es ≡ None
never_came i [] h = refl
never_came i (e ∷ es) h = rw h.0 (never_came i es h.1)

-- ---- one taken out

keys_apart : (k : ℕ) (es : List (ℕ × Request)) (i x : ℕ) → x ≡ k → AllByRecursion (λ y. x < y) (keys_of es) → AllByRecursion (λ a. holds i a ≡ false) (actives es) → AllByRecursion (λ e. not (e.0 == k) ≡ not (holds i (active_of e.1))) es
keys_apart k [] i x same above lack = tt
keys_apart k (e ∷ es) i x same above lack = (rw (ne_eqb e.0 k (omega (arith, above.0)), lack.0) refl, keys_apart k es i x same above.1 lack.1)

one_by_both : (i k : ℕ) (es : List (ℕ × Request)) → arrival_of i es ≡ Some k → Ascending (keys_of es) → HaveOwnIds (actives es) → AllByRecursion (λ e. not (e.0 == k) ≡ not (holds i (active_of e.1))) es
one_by_both i k [] h a own = tt
one_by_both i k (e ∷ es) h a own = elim (cases_Bool (holds i (active_of e.1))) [
  | inl t ↦ let is : Some e.0 ≡ Some k = rw t at h in let same : e.0 ≡ k = cc in
      let lack : AllByRecursion (λ b. holds i b ≡ false) (actives es) = rw (has_id i (active_of e.1) t) at own.0 in
      (rw (eq-eqb e.0 k same, t) refl, keys_apart k es i e.0 same a.0 lack)
  | inr f ↦ (rw (ne_eqb e.0 k (omega (arith, later i k e.0 es (rw f at h) a.0)), f) refl, one_by_both i k es (rw f at h) a.1 own.1)
]

arrival_filter : (i j : ℕ) (es : List (ℕ × Request)) → arrival_of j (filter (λ e. not (holds i (active_of e.1))) es) ≡ (if j == i then None else arrival_of j es)
arrival_filter i j [] = cond_both (j == i) None None (λ w. None ≡ w) (λ _. refl) (λ _. refl)
arrival_filter i j (e ∷ es) = elim (cases_Bool (holds i (active_of e.1))) [
  | inl t ↦ elim (cases_Bool (j == i)) [
    | inl u ↦ rw (t, u) (rw u at (arrival_filter i j es))
    | inr g ↦ rw (t, g, other_id i j (active_of e.1) t g) (rw g at (arrival_filter i j es))
  ]
  | inr f ↦ elim (cases_Bool (j == i)) [
    | inl u ↦ let not_here : holds j (active_of e.1) ≡ false = ap (λ (n : ℕ). holds n (active_of e.1)) (eqb-true j i u) ∙ f in rw (f, u, not_here) (rw u at (arrival_filter i j es))
    | inr g ↦ rw (f, g) (rw (rw g at (arrival_filter i j es)) refl)
  ]
]

here_filter : (k : ℕ) (es : List (ℕ × Request)) → here (filter (λ e. not (e.0 == k)) es) ≡ without k (here es)
here_filter k [] = refl
here_filter k (e ∷ es) = elim (cases_Bool (e.0 == k)) [
  | inl t ↦ elim (cases_Bool (is_here (active_of e.1))) [ inl u ↦ rw (t, u, t) (here_filter k es) | inr g ↦ rw (t, g) (here_filter k es) ]
  | inr f ↦ elim (cases_Bool (is_here (active_of e.1))) [
    | inl u ↦ rw (f, u, f) (ap (λ (w : List ℕ). e.0 ∷ w) (here_filter k es))
    | inr g ↦ rw (f, g) (here_filter k es)
  ]
]

here_above : (x : ℕ) (es : List (ℕ × Request)) → AllByRecursion (λ y. x < y) (keys_of es) → AllByRecursion (λ y. x < y) (here es)
here_above x [] h = tt
here_above x (e ∷ es) h = cond_both (is_here (active_of e.1)) (e ∷ filter (λ e. is_here (active_of e.1)) es) (filter (λ e. is_here (active_of e.1)) es) (λ (w : List (ℕ × Request)). AllByRecursion (λ y. x < y) (keys_of w)) (λ _. (h.0, here_above x es h.1)) (λ _. here_above x es h.1)

pub here_ascending : (es : List (ℕ × Request)) → Ascending (keys_of es) → Ascending (here es)
here_ascending [] a = tt
here_ascending (e ∷ es) a = cond_both (is_here (active_of e.1)) (e ∷ filter (λ e. is_here (active_of e.1)) es) (filter (λ e. is_here (active_of e.1)) es) (λ (w : List (ℕ × Request)). Ascending (keys_of w)) (λ _. (here_above e.0 es a.0, here_ascending es a.1)) (λ _. here_ascending es a.1)

here_below : (n : ℕ) (es : List (ℕ × Request)) → AllByRecursion (λ y. y < n) (keys_of es) → AllByRecursion (λ y. y < n) (here es)
here_below n [] h = tt
here_below n (e ∷ es) h = cond_both (is_here (active_of e.1)) (e ∷ filter (λ e. is_here (active_of e.1)) es) (filter (λ e. is_here (active_of e.1)) es) (λ (w : List (ℕ × Request)). AllByRecursion (λ y. y < n) (keys_of w)) (λ _. (h.0, here_below n es h.1)) (λ _. here_below n es h.1)

pub here_arrivals : (n : ℕ) (es : List (ℕ × Request)) → AreArrivals n (keys_of es) → AreArrivals n (here es)
here_arrivals n es h = record { ascending = here_ascending es h.ascending; below = here_below n es h.below }

pub held_take : (n i k : ℕ) (es fs : List (ℕ × Request)) (arrivals named : List (ℕ × ℕ)) (hs gs : List ℕ) →
    AreHeld n es arrivals hs → arrival_of i es ≡ Some k → fs ≡ remove_entry (is_at (nat_cmp k)) es →
    ((j : ℕ) → lookup (is_at (nat_cmp j)) named ≡ (if j == i then None else lookup (is_at (nat_cmp j)) arrivals)) →
    gs ≡ without k hs →
    AreHeld n fs named gs × (actives fs ≡ filter (λ a. not (holds i a)) (actives es))
held_take n i k es fs arrivals named hs gs held found goes gives left =
    let by_key : fs ≡ filter (λ e. not (e.0 == k)) es = goes ∙ entry_goes k es held.order.ascending in
    let by_id : fs ≡ filter (λ e. not (holds i (active_of e.1))) es = by_key ∙ filter_alike (λ (e : ℕ × Request). not (e.0 == k)) (λ e. not (holds i (active_of e.1))) es (one_by_both i k es found held.order.ascending held.own) in
    let left_actives : actives fs ≡ filter (λ a. not (holds i a)) (actives es) = ap actives by_id ∙ filter-map (λ (e : ℕ × Request). active_of e.1) (λ a. not (holds i a)) es in (
      record {
        order = rw (by_key, keys_without k es) (arrivals_filter n (λ j. not (j == k)) (keys_of es) held.order);
        own = rw left_actives (own_filter (λ a. not (holds i a)) (actives es) held.own);
        found = λ j. gives j ∙ ap (λ (w : Option ℕ). if j == i then None else w) (held.found j) ∙ sym (arrival_filter i j es) ∙ ap (arrival_of j) (sym by_id);
        here = left ∙ ap (without k) held.here ∙ sym (here_filter k es) ∙ ap here (sym by_key);
        fits = rw left_actives (all_filter ActiveFits (λ a. not (holds i a)) (actives es) held.fits);
      },
      left_actives,
    )

-- ---- one changed

set_actives : (f : Active → Active) (i k : ℕ) (es : List (ℕ × Request)) (r w : Request) → arrival_of i es ≡ Some k → Ascending (keys_of es) → HaveOwnIds (actives es) →
    lookup (is_at (nat_cmp k)) es ≡ Some r → active_of w ≡ f (active_of r) → actives (set_value (is_at (nat_cmp k)) es w) ≡ map (at_id i f) (actives es)
set_actives f i k [] r w h a own looks same = refl
set_actives f i k (e ∷ es) r w h a own looks same = elim (cases_Bool (holds i (active_of e.1))) [
  | inl t ↦ let is : Some e.0 ≡ Some k = rw t at h in let key : e.0 ≡ k = cc in
      let here_at : is_at (nat_cmp k) e.0 ≡ true = at_is k e.0 ∙ eq-eqb e.0 k key in
      let found : Some e.1 ≡ Some r = rw here_at at looks in
      let one : e.1 ≡ r = cc in
      let lack : AllByRecursion (λ b. holds i b ≡ false) (actives es) = rw (has_id i (active_of e.1) t) at own.0 in
      rw (here_at, t, none_changes i f (actives es) lack) (ap (λ (b : Active). b ∷ actives es) (same ∙ ap (λ (q : Request). f (active_of q)) (sym one)))
  | inr g ↦
      let not_at : is_at (nat_cmp k) e.0 ≡ false = at_is k e.0 ∙ ne_eqb e.0 k (omega (arith, later i k e.0 es (rw g at h) a.0)) in
      rw (not_at, g) (ap (λ (b : List Active). active_of e.1 ∷ b) (set_actives f i k es r w (rw g at h) a.1 own.1 (rw not_at at looks) same))
]

set_arrival : (j k : ℕ) (es : List (ℕ × Request)) (r w : Request) → lookup (is_at (nat_cmp k)) es ≡ Some r → holds j (active_of w) ≡ holds j (active_of r) → arrival_of j (set_value (is_at (nat_cmp k)) es w) ≡ arrival_of j es
set_arrival j k [] r w looks same = refl
set_arrival j k (e ∷ es) r w looks same = elim (cases_Bool (is_at (nat_cmp k) e.0)) [
  | inl t ↦ let found : Some e.1 ≡ Some r = rw t at looks in let one : e.1 ≡ r = cc in rw (t, same, one) refl
  | inr f ↦ rw (f, set_arrival j k es r w (rw f at looks) same) refl
]

set_here : (k : ℕ) (es : List (ℕ × Request)) (r w : Request) → lookup (is_at (nat_cmp k)) es ≡ Some r → is_here (active_of w) ≡ is_here (active_of r) → here (set_value (is_at (nat_cmp k)) es w) ≡ here es
set_here k [] r w looks same = refl
set_here k (e ∷ es) r w looks same = elim (cases_Bool (is_at (nat_cmp k) e.0)) [
  | inl t ↦ let found : Some e.1 ≡ Some r = rw t at looks in let one : e.1 ≡ r = cc in
      elim (cases_Bool (is_here (active_of r))) [ inl u ↦ rw (t, same, one, u) refl | inr g ↦ rw (t, same, one, g) refl ]
  | inr f ↦ elim (cases_Bool (is_here (active_of e.1))) [ inl u ↦ rw (f, u) (ap (λ (x : List ℕ). e.0 ∷ x) (set_here k es r w (rw f at looks) same)) | inr g ↦ rw (f, g) (set_here k es r w (rw f at looks) same) ]
]

unset_here : (k : ℕ) (es : List (ℕ × Request)) (r w : Request) → lookup (is_at (nat_cmp k)) es ≡ Some r → is_here (active_of w) ≡ false → Ascending (keys_of es) → here (set_value (is_at (nat_cmp k)) es w) ≡ without k (here es)
unset_here k [] r w looks gone a = refl
unset_here k (e ∷ es) r w looks gone a = elim (cases_Bool (e.0 == k)) [
  | inl t ↦
      let key : e.0 ≡ k = eqb-true e.0 k t in
      let stays : without k (here es) ≡ here es = all_stay e.0 k (here es) key (here_above e.0 es a.0) in
      elim (cases_Bool (is_here (active_of e.1))) [
        | inl u ↦ rw (at_is k e.0, t, gone, u, t) (sym stays)
        | inr g ↦ rw (at_is k e.0, t, gone, g) (sym stays)
      ]
  | inr f ↦
      let not_at : is_at (nat_cmp k) e.0 ≡ false = at_is k e.0 ∙ f in
      let rest = unset_here k es r w (rw not_at at looks) gone a.1 in
      elim (cases_Bool (is_here (active_of e.1))) [
        | inl u ↦ rw (not_at, u, f) (ap (λ (x : List ℕ). e.0 ∷ x) rest)
        | inr g ↦ rw (not_at, g) rest
      ]
]

pub held_set : (f : Active → Active) (n i k : ℕ) (es fs : List (ℕ × Request)) (arrivals : List (ℕ × ℕ)) (hs gs : List ℕ) (r w : Request) →
    ((a : Active) → id_in (f a) ≡ id_in a) → ((a : Active) → ActiveFits a → ActiveFits (f a)) →
    AreHeld n es arrivals hs → arrival_of i es ≡ Some k → lookup (is_at (nat_cmp k)) es ≡ Some r → active_of w ≡ f (active_of r) → fs ≡ set_value (is_at (nat_cmp k)) es w → gs ≡ here fs →
    AreHeld n fs arrivals gs × (actives fs ≡ map (at_id i f) (actives es))
held_set f n i k es fs arrivals hs gs r w keeps_id keeps_fit held found looks same set left =
    let changed : actives fs ≡ map (at_id i f) (actives es) = ap actives set ∙ set_actives f i k es r w found held.order.ascending held.own looks same in
    let same_id : (j : ℕ) → holds j (active_of w) ≡ holds j (active_of r) = λ j. holds_is j (active_of w) ∙ ap (λ (a : Active). id_in a == j) same ∙ ap (λ (m : ℕ). m == j) (keeps_id (active_of r)) ∙ sym (holds_is j (active_of r)) in (
      record {
        order = rw (set, keys-set_value) held.order;
        own = rw changed (own_map (at_id i f) (keeps_id_at i f keeps_id) (actives es) held.own);
        found = λ j. held.found j ∙ sym (set_arrival j k es r w looks (same_id j)) ∙ ap (arrival_of j) (sym set);
        here = left;
        fits = rw changed (fits_at i f keeps_fit (actives es) held.fits);
      },
      changed,
    )

pub held_mark : (n i k : ℕ) (es fs : List (ℕ × Request)) (arrivals : List (ℕ × ℕ)) (hs : List ℕ) (r : Request) →
    AreHeld n es arrivals hs → Some k ≡ arrival_of i es → Some r ≡ request_of i es → SetAt marked k es fs →
    AreHeld n fs arrivals hs × (actives fs ≡ map (at_id i marked) (actives es))
held_mark n i k es fs arrivals hs r held found is sets =
    let looks : lookup (is_at (nat_cmp k)) es ≡ Some r = at_arrival i k es r found is held.order.ascending in
    let set = sets r looks in
    held_set marked n i k es fs arrivals hs hs r set.0 keeps_id_marked keeps_fit_marked held (sym found) looks set.1 set.2
    (held.here ∙ sym (set_here k es r set.0 looks (ap is_here set.1 ∙ keeps_here_marked (active_of r))) ∙ ap here (sym set.2))

pub held_open_call : (n i k : ℕ) (es fs : List (ℕ × Request)) (arrivals : List (ℕ × ℕ)) (hs gs : List ℕ) (r : Request) (call : Call) →
    AreHeld n es arrivals hs → Some k ≡ arrival_of i es → Some r ≡ request_of i es → SetAt opened k es fs → opened_call (active_of r) ≡ Some call → gs ≡ without k hs →
    AreHeld n fs arrivals gs × (actives fs ≡ map (at_id i opened) (actives es))
held_open_call n i k es fs arrivals hs gs r call held found is sets calls left =
    let looks : lookup (is_at (nat_cmp k)) es ≡ Some r = at_arrival i k es r found is held.order.ascending in
    let set = sets r looks in
    held_set opened n i k es fs arrivals hs gs r set.0 keeps_id_opened keeps_fit_opened held (sym found) looks set.1 set.2
    (left ∙ ap (without k) held.here ∙ sym (unset_here k es r set.0 looks (ap is_here set.1 ∙ handed_out (active_of r) call calls) held.order.ascending) ∙ ap here (sym set.2))

pub held_open_other : (n i k : ℕ) (es fs : List (ℕ × Request)) (arrivals : List (ℕ × ℕ)) (hs : List ℕ) (r : Request) →
    AreHeld n es arrivals hs → Some k ≡ arrival_of i es → Some r ≡ request_of i es → SetAt opened k es fs → opened_call (active_of r) ≡ None →
    AreHeld n fs arrivals hs × (actives fs ≡ map (at_id i opened) (actives es))
held_open_other n i k es fs arrivals hs r held found is sets none =
    let looks : lookup (is_at (nat_cmp k)) es ≡ Some r = at_arrival i k es r found is held.order.ascending in
    let set = sets r looks in
    held_set opened n i k es fs arrivals hs hs r set.0 keeps_id_opened keeps_fit_opened held (sym found) looks set.1 set.2
    (held.here ∙ sym (set_here k es r set.0 looks (ap is_here set.1 ∙ not_handed_out (active_of r) none)) ∙ ap here (sym set.2))

-- ---- each looked up by its arrival

passed_by : (k : ℕ) (r : Request) (es fs : List (ℕ × Request)) → AllByRecursion (λ y. k < y) (keys_of es) → AllByRecursion (λ e. lookup (is_at (nat_cmp e.0)) fs ≡ Some e.1) es → AllByRecursion (λ e. lookup (is_at (nat_cmp e.0)) ((k, r) ∷ fs) ≡ Some e.1) es
passed_by k r [] fs above h = tt
passed_by k r (e ∷ es) fs above h = (rw (at_is e.0 k, ne_eqb k e.0 (omega (arith, above.0))) h.0, passed_by k r es fs above.1 h.1)

each_looked : (es : List (ℕ × Request)) → Ascending (keys_of es) → AllByRecursion (λ e. lookup (is_at (nat_cmp e.0)) es ≡ Some e.1) es
each_looked [] a = tt
each_looked (e ∷ es) a = (rw (at_is e.0 e.0, eq-eqb e.0 e.0 refl) refl, passed_by e.0 e.1 es es a.0 (each_looked es a.1))

-- what is found at these arrivals
abbrev pub shown : List (ℕ × Request) → List ℕ → List Active
shown all ks = filter_map (λ k. option_map active_of (lookup (is_at (nat_cmp k)) all)) ks

shown_part : (all es : List (ℕ × Request)) → AllByRecursion (λ e. lookup (is_at (nat_cmp e.0)) all ≡ Some e.1) es → shown all (here es) ≡ filter is_here (actives es)
shown_part all [] h = refl
shown_part all (e ∷ es) h = elim (cases_Bool (is_here (active_of e.1))) [
  | inl t ↦ rw (t, h.0) (ap (λ (w : List Active). active_of e.1 ∷ w) (shown_part all es h.1))
  | inr f ↦ rw f (shown_part all es h.1)
]

pub all_shown : (es : List (ℕ × Request)) → Ascending (keys_of es) → shown es (here es) ≡ filter is_here (actives es)
all_shown es a = shown_part es es (each_looked es a)

-- what waited too long was not handed out
pub any_here : (now : ℕ) (xs : List Active) → list_any (is_timed_out now) (filter is_here xs) ≡ list_any (is_timed_out now) xs
any_here now [] = refl
any_here now (waiting_call id channel name arg cancelled until ∷ xs) = ap (λ (b : Bool). leb until now || b) (any_here now xs)
any_here now (handed_call id ∷ xs) = any_here now xs
any_here now (waiting_listen id channel event until ∷ xs) = ap (λ (b : Bool). leb until now || b) (any_here now xs)
any_here now (listener id channel event ∷ xs) = any_here now xs

pub all_late : (now : ℕ) (es : List (ℕ × Request)) → Ascending (keys_of es) → list_any (is_timed_out now) (shown es (here es)) ≡ list_any (is_timed_out now) (actives es)
all_late now es a = ap (λ (xs : List Active). list_any (is_timed_out now) xs) (all_shown es a) ∙ any_here now (actives es)

pub next_late : (all : List (ℕ × Request)) (p : Active → Bool) (goal : Bool) (left : List ℕ) (k : ℕ) (ks : List ℕ) (r : Request) → left ≡ k ∷ ks → lookup (is_at (nat_cmp k)) all ≡ Some r
    → list_any p (shown all left) ≡ goal → (p (active_of r) || list_any p (shown all ks)) ≡ goal
next_late all p goal left k ks r is found inv = rw (is, found) at inv

pub none_late : (all : List (ℕ × Request)) (p : Active → Bool) (goal : Bool) (left : List ℕ) (k : ℕ) (ks : List ℕ) → left ≡ k ∷ ks → lookup (is_at (nat_cmp k)) all ≡ None
    → list_any p (shown all left) ≡ goal → list_any p (shown all ks) ≡ goal
none_late all p goal left k ks is found inv = rw (is, found) at inv

pub late_left : (all : List (ℕ × Request)) (p : Active → Bool) (goal : Bool) (left : List ℕ) → left ≡ [] → list_any p (shown all left) ≡ goal → false ≡ goal
late_left all p goal left is inv = rw is at inv

pub next_shown : (all : List (ℕ × Request)) (ms goal : List Active) (left : List ℕ) (k : ℕ) (ks : List ℕ) (r : Request) → left ≡ k ∷ ks → lookup (is_at (nat_cmp k)) all ≡ Some r → ms ++ shown all left ≡ goal → (ms ++ active_of r ∷ []) ++ shown all ks ≡ goal
next_shown all ms goal left k ks r is found inv = append_assoc ms (active_of r ∷ []) (shown all ks) ∙ (rw (is, found) at inv)

pub none_shown : (all : List (ℕ × Request)) (ms goal : List Active) (left : List ℕ) (k : ℕ) (ks : List ℕ) → left ≡ k ∷ ks → lookup (is_at (nat_cmp k)) all ≡ None → ms ++ shown all left ≡ goal → ms ++ shown all ks ≡ goal
none_shown all ms goal left k ks is found inv = rw (is, found) at inv

pub none_left : (all : List (ℕ × Request)) (ms goal : List Active) (left : List ℕ) → left ≡ [] → ms ++ shown all left ≡ goal → ms ≡ goal
none_left all ms goal left is inv = sym (append-nil ms) ∙ (rw is at inv)

-- ---- how many waited too long

-- an option holds nothing, or something
none_or_some : {B : Type 0} (o : Option B) → (o ≡ None) ⊎ ((x : B) × (o ≡ Some x))
none_or_some None = inl refl
none_or_some (Some x) = inr (x, refl)

at_most : {A B : Type 0} (h : A → Option B) (xs : List A) → length (filter_map h xs) ≤ length xs
at_most h [] = omega (arith)
at_most h (x ∷ xs) = elim (none_or_some (h x)) [
  | inl none ↦ rw none (omega (arith, at_most h xs))
  | inr some ↦ rw some.1 (omega (arith, at_most h xs))
]

shown_late : (now : ℕ) (es : List (ℕ × Request)) → Ascending (keys_of es) → length (filter_map (timeout_one now) (shown es (here es))) ≡ length (filter_map (timeout_one now) (actives es))
shown_late now es a = ap (λ (xs : List Active). length (filter_map (timeout_one now) xs)) (all_shown es a) ∙ ap length (here_map_is (timeout_one now) (timeout_here now) (actives es))

few_late : (now : ℕ) (es : List (ℕ × Request)) → Ascending (keys_of es) → length (filter_map (timeout_one now) (actives es)) ≤ length (here es)
few_late now es a =
    let shown_few : length (shown es (here es)) ≤ length (here es) = at_most (λ k. option_map active_of (lookup (is_at (nat_cmp k)) es)) (here es) in
    let late_few : length (filter_map (timeout_one now) (shown es (here es))) ≤ length (shown es (here es)) = at_most (timeout_one now) (shown es (here es)) in
    let few : length (filter_map (timeout_one now) (shown es (here es))) ≤ length (here es) = omega (arith, shown_few, late_few) in
    rw (shown_late now es a) at few

pub none_counted : (now : ℕ) (es : List (ℕ × Request)) (left : List ℕ) → Ascending (keys_of es) → left ≡ here es → 0 + length (filter_map (timeout_one now) (shown es left)) ≡ length (filter_map (timeout_one now) (actives es))
none_counted now es left a is = let all : length (filter_map (timeout_one now) (shown es left)) ≡ length (filter_map (timeout_one now) (actives es)) = rw is (shown_late now es a) in omega (arith, all)

pub few_keys : (now : ℕ) (es : List (ℕ × Request)) (keys : List ℕ) → Ascending (keys_of es) → keys ≡ here es → length keys < 2 ^ 63 → length (filter_map (timeout_one now) (actives es)) < 2 ^ 64
few_keys now es keys a is small = let few = few_late now es a in let bound : length (here es) < 2 ^ 63 = rw is at small in omega (arith, few, bound)

pub one_more_late : (all : List (ℕ × Request)) (now count goal : ℕ) (left : List ℕ) (k : ℕ) (ks : List ℕ) (r : Request) → left ≡ k ∷ ks → lookup (is_at (nat_cmp k)) all ≡ Some r → is_some (timeout_one now (active_of r)) ≡ true
    → count + length (filter_map (timeout_one now) (shown all left)) ≡ goal → (count + 1) + length (filter_map (timeout_one now) (shown all ks)) ≡ goal
one_more_late all now count goal left k ks r is found late inv = elim (none_or_some (timeout_one now (active_of r))) [
  | inl none ↦ absurd (let never : false ≡ true = rw none at late in cc)
  | inr some ↦ omega (arith, rw (is, found, some.1) at inv)
]

pub one_not_late : (all : List (ℕ × Request)) (now count goal : ℕ) (left : List ℕ) (k : ℕ) (ks : List ℕ) (r : Request) → left ≡ k ∷ ks → lookup (is_at (nat_cmp k)) all ≡ Some r → is_some (timeout_one now (active_of r)) ≡ false
    → count + length (filter_map (timeout_one now) (shown all left)) ≡ goal → count + length (filter_map (timeout_one now) (shown all ks)) ≡ goal
one_not_late all now count goal left k ks r is found late inv = elim (none_or_some (timeout_one now (active_of r))) [
  | inl none ↦ rw (is, found, none) at inv
  | inr some ↦ absurd (let never : true ≡ false = rw some.1 at late in cc)
]

pub none_there : (all : List (ℕ × Request)) (now count goal : ℕ) (left : List ℕ) (k : ℕ) (ks : List ℕ) → left ≡ k ∷ ks → lookup (is_at (nat_cmp k)) all ≡ None
    → count + length (filter_map (timeout_one now) (shown all left)) ≡ goal → count + length (filter_map (timeout_one now) (shown all ks)) ≡ goal
none_there all now count goal left k ks is found inv = rw (is, found) at inv

pub all_counted : (all : List (ℕ × Request)) (now count goal : ℕ) (left : List ℕ) → left ≡ [] → count + length (filter_map (timeout_one now) (shown all left)) ≡ goal → count ≡ goal
all_counted all now count goal left is inv = omega (arith, rw is at inv)
