-- What is told of hops, over whole lists of steps.
use Rattle.std.proofs.Common.{◌≡◌, ℕ, ◌+◌, ◌-◌, ◌<◌, ◌≤◌, ◌&&◌, ◌||◌, Bool, true, false, true≢false, zero, suc, List, [], ◌∷◌, ◌++◌, length, take, drop, refl, sym, ap, subst, ◌∙◌, arith}
use Rattle.std.specs.Prelude.{bytes_eq}
use Rattle.std.specs.Prelude.{filter, slice_get, Option, Some, None}
use Rattle.std.specs.List.{list_any}
use Rattle.std.proofs.lemmas.List.{take-append-le}
use Rattle.ra_router.specs.declared.ask.Step.{Step}
use Rattle.ra_router.specs.Hops.{Placed, placed, Delivery, hops, nexts_of, hop_limit, is_for, is_to, is_next, window_of, delivery, delivery_of, taken_by, later, delivered_at}
use Rattle.ra_router.proofs.Placed.{get_inside, same_some, get_take, get_filter, placed_at, Grows, grows_placed, grows_filter, grows_hops, stays, back}

-- ---- the lists

pub asks_of : List ℕ → Placed → Bool
asks_of w s = is_next s.step.ask && (bytes_eq s.step.from w)

pub grows_nexts : (w : List ℕ) (xs ys : List Step) → Grows (length xs) (nexts_of w xs) (nexts_of w (xs ++ ys))
grows_nexts w xs ys = grows_filter (λ s. is_next s.step.ask && (bytes_eq s.step.from w)) (length xs) _ _ (grows_placed xs ys)

pub hop_there : (xs : List Step) (h : ℕ) (c : Placed) → slice_get (hops xs) h ≡ Some c → (slice_get xs c.place ≡ Some c.step) × (is_to c.step.ask ≡ true)
hop_there xs h c e =
    let f = get_filter (λ s. is_to s.step.ask) (placed xs) h c (get_take hop_limit _ h c e) in
    let p = placed_at 0 xs f.at c f.there in
    (ap (slice_get xs) (p.0 ∙ omega arith) ∙ p.1, f.passes)

pub next_there : (w : List ℕ) (xs : List Step) (j : ℕ) (c : Placed) → slice_get (nexts_of w xs) j ≡ Some c → (slice_get xs c.place ≡ Some c.step) × ((is_next c.step.ask && (bytes_eq c.step.from w)) ≡ true)
next_there w xs j c e =
    let f = get_filter (λ s. is_next s.step.ask && (bytes_eq s.step.from w)) (placed xs) j c e in
    let p = placed_at 0 xs f.at c f.there in
    (ap (slice_get xs) (p.0 ∙ omega arith) ∙ p.1, f.passes)

pub and_left : (a b : Bool) → (a && b) ≡ true → a ≡ true
and_left true b e = refl
and_left false b e = e

pub and_right : (a b : Bool) → (a && b) ≡ true → b ≡ true
and_right true b e = e
and_right false b e = absurd (true≢false (sym e))

-- ---- deliveries

pub rank : List Step → ℕ → Placed → ℕ
rank xs h c = length (filter (is_for (window_of c.step.ask)) (take h (hops xs)))

pub record IsDelivery (xs : List Step) (h : ℕ) (d : Delivery) : Type 0 where
  pub hop : slice_get (hops xs) h ≡ Some d.hop
  pub next : slice_get (nexts_of (window_of d.hop.step.ask) xs) (length (filter (is_for (window_of d.hop.step.ask)) (take h (hops xs)))) ≡ Some d.next

taken_is : (hop : Placed) (n : Option Placed) (d : Delivery) → taken_by hop n ≡ Some d → (hop ≡ d.hop) × (n ≡ Some d.next)
taken_is hop None d e = absurd cc
taken_is hop (Some n) d e =
    let q = same_some (record { hop = hop; next = n }) d e in
    (ap (λ (x : Delivery). x.hop) q, ap (λ (x : Delivery). Some x.next) q)

of_is : (xs : List Step) (h : ℕ) (o : Option Placed) (d : Delivery) → slice_get (hops xs) h ≡ o → delivery_of xs h o ≡ Some d → IsDelivery xs h d
of_is xs h None d o e = absurd cc
of_is xs h (Some hop) d o e =
    let t = taken_is hop _ d e in
    record {
      hop = o ∙ ap Some t.0;
      next = subst (λ (c : Placed). slice_get (nexts_of (window_of c.step.ask) xs) (length (filter (is_for (window_of c.step.ask)) (take h (hops xs)))) ≡ Some d.next) t.0 t.1;
    }

pub delivery_is : (xs : List Step) (h : ℕ) (d : Delivery) → delivery xs h ≡ Some d → IsDelivery xs h d
delivery_is xs h d e = of_is xs h (slice_get (hops xs) h) d refl e

pub is_delivery : (xs : List Step) (h : ℕ) (d : Delivery) → IsDelivery xs h d → delivery xs h ≡ Some d
is_delivery xs h d i = ap (delivery_of xs h) i.hop ∙ ap (taken_by d.hop) i.next

pub take_hops : (xs ys : List Step) (h : ℕ) (c : Placed) → slice_get (hops xs) h ≡ Some c → take h (hops (xs ++ ys)) ≡ take h (hops xs)
take_hops xs ys h c e =
    let g = grows_hops xs ys in let i = get_inside (hops xs) h c e in
    ap (take h) g.is ∙ take-append-le h (hops xs) g.more (omega arith)

pub delivery_stays : (xs ys : List Step) (h : ℕ) (d : Delivery) → delivery xs h ≡ Some d → delivery (xs ++ ys) h ≡ Some d
delivery_stays xs ys h d e =
    let i = delivery_is xs h d e in
    is_delivery (xs ++ ys) h d (record {
      hop = stays (length xs) _ _ (grows_hops xs ys) h d.hop i.hop;
      next = ap (λ l. slice_get (nexts_of (window_of d.hop.step.ask) (xs ++ ys)) (length (filter (is_for (window_of d.hop.step.ask)) l))) (take_hops xs ys h d.hop i.hop)
          ∙ stays (length xs) _ _ (grows_nexts (window_of d.hop.step.ask) xs ys) _ d.next i.next;
    })

pub delivery_back : (xs ys : List Step) (h : ℕ) (d : Delivery) → delivery (xs ++ ys) h ≡ Some d → d.hop.place < length xs → d.next.place < length xs → delivery xs h ≡ Some d
delivery_back xs ys h d e hop_early next_early =
    let i = delivery_is (xs ++ ys) h d e in
    let there = back (length xs) _ _ (grows_hops xs ys) h d.hop i.hop hop_early in
    is_delivery xs h d (record {
      hop = there;
      next = back (length xs) _ _ (grows_nexts (window_of d.hop.step.ask) xs ys) _ d.next
          (ap (λ l. slice_get (nexts_of (window_of d.hop.step.ask) (xs ++ ys)) (length (filter (is_for (window_of d.hop.step.ask)) l))) (sym (take_hops xs ys h d.hop there)) ∙ i.next) next_early;
    })

pub later_left : (m n : ℕ) → m ≤ later m n
later_left zero n = omega arith
later_left (suc m) zero = omega arith
later_left (suc m) (suc n) = let h = later_left m n in omega arith

pub later_right : (m n : ℕ) → n ≤ later m n
later_right zero n = omega arith
later_right (suc m) zero = omega arith
later_right (suc m) (suc n) = let h = later_right m n in omega arith

pub later_below : (m n k : ℕ) → m < k → n < k → later m n < k
later_below zero n k a b = b
later_below (suc m) zero k a b = a
later_below (suc m) (suc n) zero a b = absurd (omega arith)
later_below (suc m) (suc n) (suc k) a b = let h = later_below m n k (omega arith) (omega arith) in omega arith

pub delivered_inside : (xs : List Step) (h : ℕ) (d : Delivery) → delivery xs h ≡ Some d → delivered_at d < length xs
delivered_inside xs h d e =
    let i = delivery_is xs h d e in
    later_below d.hop.place d.next.place (length xs)
    (get_inside xs d.hop.place d.hop.step (hop_there xs h d.hop i.hop).0)
    (get_inside xs d.next.place d.next.step (next_there (window_of d.hop.step.ask) xs _ d.next i.next).0)

-- ---- none before

none_there_on : (p : Step → Bool) (x : Step) (xs : List Step) (b : Bool) → p x ≡ b → (b || list_any p xs) ≡ false
    → (list_any p xs ≡ false → (n : ℕ) (s : Step) → slice_get xs n ≡ Some s → p s ≡ false) → (n : ℕ) (s : Step) → slice_get (x ∷ xs) n ≡ Some s → p s ≡ false
none_there_on p x xs true is none more n s e = absurd (true≢false none)
none_there_on p x xs false is none more zero s e = subst (λ z. p z ≡ false) (same_some x s e) is
none_there_on p x xs false is none more (suc n) s e = more none n s e

none_there : (p : Step → Bool) (xs : List Step) → list_any p xs ≡ false → (n : ℕ) (s : Step) → slice_get xs n ≡ Some s → p s ≡ false
none_there p [] none n s e = absurd cc
none_there p (x ∷ xs) none n s e = none_there_on p x xs (p x) refl none (λ rest k t h. none_there p xs rest k t h) n s e

there_none : (p : Step → Bool) (xs : List Step) → ((n : ℕ) (s : Step) → slice_get xs n ≡ Some s → p s ≡ false) → list_any p xs ≡ false
there_none p [] all = refl
there_none p (x ∷ xs) all = ap (λ b. b || list_any p xs) (all 0 x refl) ∙ there_none p xs (λ n s e. all (suc n) s e)

get_drop : (m : ℕ) (xs : List Step) (n : ℕ) → slice_get (drop m xs) n ≡ slice_get xs (m + n)
get_drop zero xs n = let z : n ≡ 0 + n = omega arith in ap (slice_get xs) z
get_drop (suc m) [] n = refl
get_drop (suc m) (x ∷ xs) n = let z : suc (m + n) ≡ suc m + n = omega arith in get_drop m xs n ∙ ap (slice_get (x ∷ xs)) z

pub none_after : (p : Step → Bool) (at : ℕ) (xs : List Step) → list_any p (drop (suc at) xs) ≡ false → (n : ℕ) (s : Step) → at < n → slice_get xs n ≡ Some s → p s ≡ false
none_after p at xs none n s after e =
    none_there p (drop (suc at) xs) none (n - suc at) s (get_drop (suc at) xs (n - suc at) ∙ ap (slice_get xs) (omega arith) ∙ e)

pub after_none : (p : Step → Bool) (at : ℕ) (xs : List Step) → ((n : ℕ) (s : Step) → at < n → slice_get xs n ≡ Some s → p s ≡ false) → list_any p (drop (suc at) xs) ≡ false
after_none p at xs all = there_none p (drop (suc at) xs) (λ n s e. all (suc at + n) s (omega arith) (sym (get_drop (suc at) xs n) ∙ e))
