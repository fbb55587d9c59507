-- Which calls are answered by hops, and which are refused.
use Rattle.std.proofs.Common.{◌≡◌, ℕ, ◌+◌, ◌<◌, ◌&&◌, Bool, true, false, true≢false, cond, zero, suc, List, [], ◌∷◌, ◌++◌, length, take, refl, sym, ap, subst, ◌∙◌, arith}
use Rattle.std.specs.Prelude.{ℤ}
use Rattle.std.specs.Prelude.{bytes_eq}
use Rattle.ra_values.specs.declared.value.Value.{Value}
use Rattle.ra_router.proofs.Bytes.{same_bytes, bytes_same}
use Rattle.std.specs.Prelude.{filter, slice_get, Option, Some, None, nat_lt}
use Rattle.std.proofs.lemmas.Bool.{ltb-true}
use Rattle.std.proofs.lemmas.List.{take_at}
use Rattle.std.proofs.lemmas.List.Elements.{filter-append}
use Rattle.ra_router.specs.declared.ask.Ask.{Ask}
use Rattle.ra_router.specs.declared.ask.Ask.TheVariants.{BadTo, To, Next, Reply, BadReply}
use Rattle.ra_router.specs.declared.ask.Step.{Step}
use Rattle.ra_router.specs.declared.ask.Said.TheVariants.{Full, Hop}
use Rattle.ra_router.specs.Hops.{Placed, placed, placed_from, Given, hops, hops_for, nexts_of, hop_limit, is_for, is_to, is_next, window_of, arg_of, give, given_by, open_hop, settle, hand_over, hand_on}
use Rattle.ra_router.specs.Routes.{IsHandedOver, NextsAnswered}
use Rattle.ra_router.proofs.Placed.{get_inside, same_some, get_left, get_middle, get_filter, placed_append, grows_hops, stays}
use Rattle.ra_router.proofs.Answered.{grows_nexts, hop_there, next_there, delivery_is, is_delivery, take_hops}
use Rattle.ra_router.proofs.Ranks.{filter_unrank}
use Rattle.ra_router.proofs.Settled.{mk, same_step, not_both, open_is}
use Rattle.ra_router.proofs.Handed.{take_number, later_is_left, later_is_right}

-- ---- what a step adds to the lists

gains_on : (l more : List Placed) (x : Placed) (b : Bool) → b ≡ true → slice_get (l ++ cond b (x ∷ more) more) (length l) ≡ Some x
gains_on [] more x true e = refl
gains_on (y ∷ ys) more x true e = gains_on ys more x true e
gains_on l more x false e = absurd (true≢false (sym e))

pub filter_gains : (p : Placed → Bool) (past rest : List Step) (x : Step) → p (record { place = length past; step = x }) ≡ true
    → slice_get (filter p (placed (past ++ x ∷ rest))) (length (filter p (placed past))) ≡ Some (record { place = length past; step = x })
filter_gains p past rest x passes =
    let here : Placed = record { place = 0 + length past; step = x } in
    let zero_is : 0 + length past ≡ length past = omega arith in
    let passes_here : p here ≡ true = ap (λ n. p (record { place = n; step = x })) zero_is ∙ passes in
    ap (λ l. slice_get (filter p l) (length (filter p (placed past)))) (placed_append 0 past (x ∷ rest))
    ∙ ap (λ l. slice_get l (length (filter p (placed past)))) (filter-append p (placed past) (placed_from (0 + length past) (x ∷ rest)))
    ∙ gains_on (filter p (placed past)) (filter p (placed_from (suc (0 + length past)) rest)) here (p here) passes_here
    ∙ ap (λ n. Some (record { place = n; step = x })) zero_is

take_get : (n : ℕ) (l : List Placed) (h : ℕ) (c : Placed) → slice_get l h ≡ Some c → h < n → slice_get (take n l) h ≡ Some c
take_get zero l h c e lt = absurd (omega arith)
take_get (suc n) [] h c e lt = absurd cc
take_get (suc n) (x ∷ xs) zero c e lt = e
take_get (suc n) (x ∷ xs) (suc h) c e lt = take_get n xs h c e (omega arith)

pub short_take : (n : ℕ) (l : List Placed) → length (take n l) < n → take n l ≡ l
short_take zero l lt = absurd (omega arith)
short_take (suc n) [] lt = refl
short_take (suc n) (x ∷ xs) lt = ap (λ l. x ∷ l) (short_take n xs (omega arith))

pub hop_gained : (past rest : List Step) (x : Step) → is_to x.ask ≡ true → length (hops past) < hop_limit
    → slice_get (hops (past ++ x ∷ rest)) (length (hops past)) ≡ Some (record { place = length past; step = x })
hop_gained past rest x to room =
    let whole = short_take hop_limit (filter (λ s. is_to s.step.ask) (placed past)) room in
    take_get hop_limit _ (length (hops past)) (record { place = length past; step = x })
    (ap (λ l. slice_get (filter (λ s. is_to s.step.ask) (placed (past ++ x ∷ rest))) (length l)) whole ∙ filter_gains (λ s. is_to s.step.ask) past rest x to) room

pub next_gained : (w : List ℕ) (past rest : List Step) (x : Step) → is_next x.ask ≡ true → x.from ≡ w
    → slice_get (nexts_of w (past ++ x ∷ rest)) (length (nexts_of w past)) ≡ Some (record { place = length past; step = x })
next_gained w past rest x next from =
    filter_gains (λ s. is_next s.step.ask && (bytes_eq s.step.from w)) past rest x
    (ap (λ b. b && (bytes_eq x.from w)) next ∙ same_bytes x.from w from)

-- ---- answers to a window's call for hops

pub is_here : (past rest : List Step) (x : Step) (n : ℕ) (s : Step) → slice_get (past ++ x ∷ rest) n ≡ Some s → length past ≡ n → x ≡ s
is_here past rest x n s e here = same_step (past ++ x ∷ rest) (length past) n x s (get_middle past rest x) e here

-- the hop comes to a call that waits
over_case : (past rest : List Step) (x : Step) (n : ℕ) (s : Step) (g : Given) (j : ℕ) → is_to x.ask ≡ true → length (hops past) < hop_limit → slice_get (past ++ x ∷ rest) n ≡ Some s
    → (o : Option Placed) → slice_get (nexts_of (window_of x.ask) past) (length (hops_for (window_of x.ask) past)) ≡ o
    → slice_get (hand_over o (length (hops past)) (arg_of x.ask)) j ≡ Some g → g.call ≡ n → IsHandedOver (past ++ x ∷ rest) (length past) g
over_case past rest x n s g j to room e None o is call = absurd cc
over_case past rest x n s g zero to room e (Some next) o is call =
    let here : Placed = record { place = length past; step = x } in
    let w = window_of x.ask in
    let grown = grows_hops past (x ∷ rest) in
    let front = ap (take (length (hops past))) grown.is ∙ take_at (hops past) grown.more (length (hops past)) refl in
    let early = get_inside past next.place next.step (next_there w past _ next o).0 in
    record {
      number = length (hops past);
      d = record { hop = here; next = next };
      delivered = is_delivery (past ++ x ∷ rest) (length (hops past)) (record { hop = here; next = next }) (record {
        hop = hop_gained past rest x to room;
        next = ap (λ l. slice_get (nexts_of w (past ++ x ∷ rest)) (length (filter (is_for w) l))) front
            ∙ stays (length past) _ _ (grows_nexts w past (x ∷ rest)) _ next o;
      });
      at = sym (later_is_left (length past) next.place (omega arith));
      is = sym (same_some _ g is);
    }
over_case past rest x n s g (suc j) to room e (Some next) o is call = absurd cc

-- the call takes a hop that waits
on_case : (past rest : List Step) (x : Step) (g : Given) (j : ℕ) → is_next x.ask ≡ true
    → (o : Option Placed) → slice_get (hops_for x.from past) (length (nexts_of x.from past)) ≡ o
    → slice_get (hand_on o past (record { place = length past; step = x })) j ≡ Some g → IsHandedOver (past ++ x ∷ rest) (length past) g
on_case past rest x g j next None o is = absurd cc
on_case past rest x g zero next (Some hop) o is =
    let here : Placed = record { place = length past; step = x } in
    let r = filter_unrank (is_for x.from) (hops past) (length (nexts_of x.from past)) hop o in
    let passes = get_filter (is_for x.from) (hops past) (length (nexts_of x.from past)) hop o in
    let window = bytes_same (window_of hop.step.ask) x.from passes.passes in
    let number = take_number past r.at hop r.there in
    let early = get_inside past hop.place hop.step (hop_there past r.at hop r.there).0 in
    record {
      number = r.at;
      d = record { hop = hop; next = here };
      delivered = is_delivery (past ++ x ∷ rest) r.at (record { hop = hop; next = here }) (record {
        hop = stays (length past) _ _ (grows_hops past (x ∷ rest)) r.at hop r.there;
        next = subst (λ w. slice_get (nexts_of w (past ++ x ∷ rest)) (length (filter (is_for w) (take r.at (hops (past ++ x ∷ rest))))) ≡ Some here) (sym window)
            (ap (λ l. slice_get (nexts_of x.from (past ++ x ∷ rest)) (length (filter (is_for x.from) l))) (take_hops past (x ∷ rest) r.at hop r.there)
            ∙ ap (slice_get (nexts_of x.from (past ++ x ∷ rest))) r.rank ∙ next_gained x.from past rest x next refl);
      });
      at = sym (later_is_right hop.place (length past) (omega arith));
      is = sym (same_some _ g is) ∙ ap (λ m. give here (Hop m (arg_of hop.step.ask))) number;
    }
on_case past rest x g (suc j) next (Some hop) o is = absurd cc

not_next : (past rest : List Step) (x : Step) (n : ℕ) (s : Step) → is_next x.ask ≡ false → slice_get (past ++ x ∷ rest) n ≡ Some s → is_next s.ask ≡ true → length past ≡ n → ⊥
not_next past rest x n s other e next here = true≢false (sym next ∙ ap (λ (y : Step). is_next y.ask) (sym (is_here past rest x n s e here)) ∙ other)

to_case : (past rest : List Step) (x : Step) (n : ℕ) (s : Step) (g : Given) (j : ℕ) → is_to x.ask ≡ true → is_next x.ask ≡ false → slice_get (past ++ x ∷ rest) n ≡ Some s → is_next s.ask ≡ true → g.call ≡ n
    → (b : Bool) → nat_lt (length (hops past)) hop_limit ≡ b
    → slice_get (cond b (hand_over (slice_get (nexts_of (window_of x.ask) past) (length (hops_for (window_of x.ask) past))) (length (hops past)) (arg_of x.ask))
    (give (record { place = length past; step = x }) Full ∷ [])) j ≡ Some g → IsHandedOver (past ++ x ∷ rest) (length past) g
to_case past rest x n s g j to other e next call true b is = over_case past rest x n s g j to (ltb-true (length (hops past)) hop_limit b) e _ refl is call
to_case past rest x n s g zero to other e next call false b is = absurd (not_next past rest x n s other e next (ap (λ (k : Given). k.call) (same_some _ g is) ∙ call))
to_case past rest x n s g (suc j) to other e next call false b is = absurd cc

reply_case : (past rest : List Step) (from : List ℕ) (id : ℤ) (m : ℕ) (good : Bool) (value : Value) (n : ℕ) (s : Step) (g : Given) (j : ℕ) → slice_get (past ++ mk from id (Reply m good value) ∷ rest) n ≡ Some s → is_next s.ask ≡ true → g.call ≡ n
    → (o : Option Placed) → open_hop past from m ≡ o → slice_get (settle o good value (record { place = length past; step = mk from id (Reply m good value) })) j ≡ Some g → ⊥
reply_case past rest from id m good value n s g zero e next call None o is = not_next past rest (mk from id (Reply m good value)) n s refl e next (ap (λ (k : Given). k.call) (same_some _ g is) ∙ call)
reply_case past rest from id m good value n s g (suc j) e next call None o is = absurd cc
reply_case past rest from id m good value n s g zero e next call (Some hop) o is =
    let i = open_is past from m hop o in
    let d = delivery_is past m i.d i.delivered in
    let t = hop_there past m i.d.hop d.hop in
    let x = mk from id (Reply m good value) in
    let at = ap (λ (p : Placed). p.place) i.hop ∙ ap (λ (k : Given). k.call) (same_some _ g is) ∙ call in
    let same = same_step (past ++ x ∷ rest) i.d.hop.place n i.d.hop.step s (get_left past (x ∷ rest) i.d.hop.place i.d.hop.step t.0) e at in
    not_both i.d.hop.step.ask t.1 (ap (λ (y : Step). is_next y.ask) same ∙ next)
reply_case past rest from id m good value n s g (suc zero) e next call (Some hop) o is = not_next past rest (mk from id (Reply m good value)) n s refl e next (ap (λ (k : Given). k.call) (same_some _ g is) ∙ call)
reply_case past rest from id m good value n s g (suc (suc j)) e next call (Some hop) o is = absurd cc

next_case : (ask : Ask) (from : List ℕ) (id : ℤ) (past rest : List Step) (n : ℕ) (s : Step) (g : Given) (j : ℕ) → slice_get (past ++ mk from id ask ∷ rest) n ≡ Some s → is_next s.ask ≡ true
    → slice_get (given_by ask past (record { place = length past; step = mk from id ask })) j ≡ Some g → g.call ≡ n
    → IsHandedOver (past ++ mk from id ask ∷ rest) (length past) g
next_case BadTo from id past rest n s g zero e next is call = absurd (not_next past rest (mk from id BadTo) n s refl e next (ap (λ (k : Given). k.call) (same_some _ g is) ∙ call))
next_case BadTo from id past rest n s g (suc j) e next is call = absurd cc
next_case (To w arg) from id past rest n s g j e next is call = to_case past rest (mk from id (To w arg)) n s g j refl refl e next call (nat_lt (length (hops past)) hop_limit) refl is
next_case Next from id past rest n s g j e next is call = on_case past rest (mk from id Next) g j refl _ refl is
next_case (Reply m good value) from id past rest n s g j e next is call = absurd (reply_case past rest from id m good value n s g j e next call (open_hop past from m) refl is)
next_case BadReply from id past rest n s g zero e next is call = absurd (not_next past rest (mk from id BadReply) n s refl e next (ap (λ (k : Given). k.call) (same_some _ g is) ∙ call))
next_case BadReply from id past rest n s g (suc j) e next is call = absurd cc

pub nexts_answered : (xs : List Step) → NextsAnswered xs
nexts_answered xs p n s g e next gives call =
    let r = next_case gives.step.ask gives.step.from gives.step.id gives.past gives.rest n s g gives.index (ap (λ l. slice_get l n) (sym gives.whole) ∙ e) next gives.among call in
    subst (λ q. IsHandedOver xs q g) gives.at (subst (λ l. IsHandedOver l (length gives.past) g) (sym gives.whole) r)
