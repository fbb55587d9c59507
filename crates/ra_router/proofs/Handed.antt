-- Hops are handed over to the calls that take them, in order, as soon as both are there.
use Rattle.std.proofs.Common.{◌≡◌, ◌⊎◌, ℕ, ◌<◌, ◌≤◌, true, true≢false, cond, zero, suc, List, [], ◌∷◌, ◌++◌, length, take, refl, sym, ap, subst, ◌∙◌, inl, inr, arith}
use Rattle.std.specs.Prelude.{bytes_eq}
use Rattle.ra_router.proofs.Bytes.{same_bytes, bytes_same}
use Rattle.std.specs.Prelude.{filter, slice_get, Some, nat_lt}
use Rattle.std.proofs.lemmas.Bool.{lt-ltb}
use Rattle.std.proofs.lemmas.List.{take_at}
use Rattle.ra_router.specs.declared.ask.Ask.{Ask}
use Rattle.ra_router.specs.declared.ask.Ask.TheVariants.{BadTo, To, Next, Reply, BadReply}
use Rattle.ra_router.specs.declared.ask.Step.{Step}
use Rattle.ra_router.specs.declared.ask.Said.TheVariants.{Full, Hop}
use Rattle.ra_router.specs.Hops.{Placed, Delivery, hops, hops_for, nexts_of, hop_limit, is_for, is_to, is_next, window_of, arg_of, delivery, later, give, given_by, hand_over, hand_on}
use Rattle.ra_router.specs.Routes.{Gives, HopsDelivered, DeliveredInOrder}
use Rattle.ra_router.proofs.Placed.{get_inside, grows_hops, back}
use Rattle.ra_router.proofs.Answered.{grows_nexts, hop_there, next_there, and_left, and_right, delivery_is, take_hops}
use Rattle.ra_router.proofs.Ranks.{rises_hops, rises_nexts, rises_less, rank_is, filter_rank, rank_less}
use Rattle.ra_router.proofs.Settled.{same_step, not_both, hop_below, splits}

-- ---- in order

pub delivered_in_order : (xs : List Step) → DeliveredInOrder xs
delivered_in_order xs m n d e lt dm en same =
    let i = delivery_is xs m d dm in
    let k = delivery_is xs n e en in
    let w = window_of d.hop.step.ask in
    let later_next = subst (λ v. slice_get (nexts_of v xs) (length (filter (is_for v) (take n (hops xs)))) ≡ Some e.next) (sym same) k.next in
    rises_less 0 (nexts_of w xs) (rises_nexts w xs) _ _ d.next e.next
    (rank_less (is_for w) (hops xs) m n d.hop lt i.hop (same_bytes w w refl)) i.next later_next

-- ---- places of hops and of the calls that take them

early_hop : (xs : List Step) (h : ℕ) (c : Placed) → slice_get (hops xs) h ≡ Some c → c.place < length xs
early_hop xs h c e = get_inside xs c.place c.step (hop_there xs h c e).0

early_next : (w : List ℕ) (xs : List Step) (j : ℕ) (c : Placed) → slice_get (nexts_of w xs) j ≡ Some c → c.place < length xs
early_next w xs j c e = get_inside xs c.place c.step (next_there w xs j c e).0

-- a hop's number is how many hops were made before it
pub number_is : (past more : List Step) (h : ℕ) (c : Placed) → slice_get (hops (past ++ more)) h ≡ Some c → c.place ≡ length past → h ≡ length (hops past)
number_is past more h c e here =
    rank_is (length past) (hops past) (hops (past ++ more)) (rises_hops (past ++ more)) (grows_hops past more) (early_hop past) h c e here

pub take_number : (xs : List Step) (h : ℕ) (c : Placed) → slice_get (hops xs) h ≡ Some c → length (hops (take c.place xs)) ≡ h
take_number xs h c e =
    let s = splits xs c.place c.step (hop_there xs h c e).0 in
    let front = ap (take c.place) s.whole ∙ take_at s.past (c.step ∷ s.rest) c.place s.at in
    ap (λ l. length (hops l)) front ∙ sym (number_is s.past (c.step ∷ s.rest) h c (ap (λ l. slice_get (hops l) h) (sym s.whole) ∙ e) (sym s.at))

pub next_number : (w : List ℕ) (past more : List Step) (j : ℕ) (c : Placed) → slice_get (nexts_of w (past ++ more)) j ≡ Some c → c.place ≡ length past → j ≡ length (nexts_of w past)
next_number w past more j c e here =
    rank_is (length past) (nexts_of w past) (nexts_of w (past ++ more)) (rises_nexts w (past ++ more)) (grows_nexts w past more) (early_next w past) j c e here

pub later_is_left : (m n : ℕ) → n ≤ m → later m n ≡ m
later_is_left zero zero le = refl
later_is_left zero (suc n) le = absurd (omega arith)
later_is_left (suc m) zero le = refl
later_is_left (suc m) (suc n) le = ap suc (later_is_left m n (omega arith))

pub later_is_right : (m n : ℕ) → m ≤ n → later m n ≡ n
later_is_right zero n le = refl
later_is_right (suc m) zero le = absurd (omega arith)
later_is_right (suc m) (suc n) le = ap suc (later_is_right m n (omega arith))

next_is : (a : Ask) → is_next a ≡ true → a ≡ Next
next_is BadTo e = absurd (true≢false (sym e))
next_is (To w v) e = absurd (true≢false (sym e))
next_is Next e = refl
next_is (Reply h g v) e = absurd (true≢false (sym e))
next_is BadReply e = absurd (true≢false (sym e))

to_is : (a : Ask) → is_to a ≡ true → a ≡ To (window_of a) (arg_of a)
to_is BadTo e = absurd (true≢false (sym e))
to_is (To w v) e = refl
to_is Next e = absurd (true≢false (sym e))
to_is (Reply h g v) e = absurd (true≢false (sym e))
to_is BadReply e = absurd (true≢false (sym e))

-- ---- each delivery is told

-- the hop came first
told_at_next : (xs : List Step) (h : ℕ) (d : Delivery) → delivery xs h ≡ Some d → d.hop.place < d.next.place
    → Gives xs d.next.place (give d.next (Hop h (arg_of d.hop.step.ask)))
told_at_next xs h d e first =
    let i = delivery_is xs h d e in
    let w = window_of d.hop.step.ask in
    let n = next_there w xs _ d.next i.next in
    let s = splits xs d.next.place d.next.step n.0 in
    let at = s.at in
    let x = d.next.step in
    let asks = and_left (is_next x.ask) (bytes_eq x.from w) n.1 in
    let from = bytes_same x.from w (and_right (is_next x.ask) (bytes_eq x.from w) n.1) in
    let hop_xs = ap (λ l. slice_get (hops l) h) (sym s.whole) ∙ i.hop in
    let hop_past = back (length s.past) _ _ (grows_hops s.past (x ∷ s.rest)) h d.hop hop_xs (omega arith) in
    let rank = filter_rank (is_for w) (hops s.past) h d.hop hop_past (same_bytes w w refl) in
    let rank_same = next_number w s.past (x ∷ s.rest) _ d.next (ap (λ l. slice_get (nexts_of w l) (length (filter (is_for w) (take h (hops xs))))) (sym s.whole) ∙ i.next) (sym at) in
    let takes = ap (λ l. length (filter (is_for w) l)) (ap (λ l. take h (hops l)) s.whole ∙ take_hops s.past (x ∷ s.rest) h d.hop hop_past) in
    let found = ap (slice_get (hops_for w s.past)) (sym rank_same ∙ takes) ∙ rank in
    let found_from = subst (λ v. slice_get (hops_for v s.past) (length (nexts_of v s.past)) ≡ Some d.hop) (sym from) found in
    let here : Placed = record { place = length s.past; step = x } in
    record {
      past = s.past;
      step = x;
      rest = s.rest;
      whole = s.whole;
      at = at;
      index = 0;
      among = ap (λ a. slice_get (given_by a s.past here) 0) (next_is x.ask asks)
          ∙ ap (λ o. slice_get (hand_on o s.past here) 0) found_from
          ∙ ap (λ m. Some (give here (Hop m (arg_of d.hop.step.ask)))) (take_number s.past h d.hop hop_past)
          ∙ ap (λ p. Some (give (record { place = p; step = x }) (Hop h (arg_of d.hop.step.ask)))) at;
    }

told_at_hop : (xs : List Step) (h : ℕ) (d : Delivery) → delivery xs h ≡ Some d → d.next.place < d.hop.place
    → Gives xs d.hop.place (give d.next (Hop h (arg_of d.hop.step.ask)))
told_at_hop xs h d e first =
    let i = delivery_is xs h d e in
    let w = window_of d.hop.step.ask in
    let t = hop_there xs h d.hop i.hop in
    let s = splits xs d.hop.place d.hop.step t.0 in
    let at = s.at in
    let x = d.hop.step in
    let hop_xs = ap (λ l. slice_get (hops l) h) (sym s.whole) ∙ i.hop in
    let number = number_is s.past (x ∷ s.rest) h d.hop hop_xs (sym at) in
    let below = hop_below xs h d.hop i.hop in
    let g = grows_hops s.past (x ∷ s.rest) in
    let takes = ap (λ l. take h (hops l)) s.whole ∙ ap (λ l. take h l) g.is ∙ take_at (hops s.past) g.more h (sym number) in
    let next_xs = ap (λ l. slice_get (nexts_of w l) (length (filter (is_for w) (take h (hops xs))))) (sym s.whole) ∙ i.next in
    let next_past = back (length s.past) _ _ (grows_nexts w s.past (x ∷ s.rest)) _ d.next next_xs (omega arith) in
    let found = ap (λ l. slice_get (nexts_of w s.past) (length (filter (is_for w) l))) (sym takes) ∙ next_past in
    let here : Placed = record { place = length s.past; step = x } in
    let room : nat_lt (length (hops s.past)) hop_limit ≡ true = lt-ltb (length (hops s.past)) hop_limit (omega arith) in
    record {
      past = s.past;
      step = x;
      rest = s.rest;
      whole = s.whole;
      at = at;
      index = 0;
      among = ap (λ a. slice_get (given_by a s.past here) 0) (to_is x.ask t.1)
          ∙ ap (λ b. slice_get (cond b (hand_over (slice_get (nexts_of w s.past) (length (hops_for w s.past))) (length (hops s.past)) (arg_of x.ask)) (give here Full ∷ [])) 0) room
          ∙ ap (λ o. slice_get (hand_over o (length (hops s.past)) (arg_of x.ask)) 0) found
          ∙ ap (λ m. Some (give d.next (Hop m (arg_of x.ask)))) (sym number);
    }

apart : (m n : ℕ) → (m ≡ n) ⊎ ((m < n) ⊎ (n < m))
apart zero zero = inl refl
apart zero (suc n) = inr (inl (omega arith))
apart (suc m) zero = inr (inr (omega arith))
apart (suc m) (suc n) = elim (apart m n) [
  | inl e ↦ inl (ap suc e)
  | inr r ↦ elim r [ inl lt ↦ inr (inl (omega arith)) | inr gt ↦ inr (inr (omega arith)) ]
]

pub hops_delivered : (xs : List Step) → HopsDelivered xs
hops_delivered xs h d e = elim (apart d.hop.place d.next.place) [
  | inl same ↦
      let i = delivery_is xs h d e in
      let t = hop_there xs h d.hop i.hop in
      let n = next_there (window_of d.hop.step.ask) xs _ d.next i.next in
      let s = same_step xs d.hop.place d.next.place d.hop.step d.next.step t.0 n.0 same in
      absurd (not_both d.hop.step.ask t.1 (ap (λ (y : Step). is_next y.ask) s ∙ and_left _ _ n.1))
  | inr r ↦ elim r [
    | inl lt ↦ subst (λ p. Gives xs p (give d.next (Hop h (arg_of d.hop.step.ask)))) (sym (later_is_right d.hop.place d.next.place (omega arith))) (told_at_next xs h d e lt)
    | inr gt ↦ subst (λ p. Gives xs p (give d.next (Hop h (arg_of d.hop.step.ask)))) (sym (later_is_left d.hop.place d.next.place (omega arith))) (told_at_hop xs h d e gt)
  ]
]
