-- Each step keeps the balance.
use Rattle.std.proofs.Common.{◌≡◌, ◌≢◌, ℕ, ◌+◌, ◌-◌, ◌^◌, ◌<◌, ◌≤◌, zero, suc, List, [], ◌∷◌, ◌++◌, length, set, sym, refl, ap, ◌∙◌, subst, ⊎_elim, arith}
use mathlib.Core.Option.{some, some-ne-none}
use lib.ListN.{get_elem?}
use Rattle.crossbeam_queue.specs.Fifo.{Pushes, Pops, Forks, Merges, Learns}
use Rattle.crossbeam_queue.proofs.Lists.{at_set, at_snoc}
use Rattle.ra_jobs.specs.declared.protocol.SeatLog.{SeatLog}
use Rattle.ra_hub.specs.Jobs.{JobState}
use Rattle.ra_jobs.specs.Logs.{seat_log, weigh, Balanced, IdleIsEmpty, IsIdle, Within, EachWithin, Orders, Whole, put_weight}
use Rattle.ra_jobs.specs.Orders.{InOneOrder, WholeOrder}
use Rattle.std.proofs.Common.{inl, inr}
use Rattle.ra_jobs.specs.Seats.{all_taken}
use Rattle.std.proofs.Common.{append_assoc}
use Rattle.std.proofs.lemmas.List.{append-nil}

pub weigh-append : {A : Type 0} (h : A → ℕ) (xs ys : List A) → weigh h (xs ++ ys) ≡ weigh h xs + weigh h ys
weigh-append h [] ys = omega arith
weigh-append h (x ∷ xs) ys = let e = weigh-append h xs ys in omega arith

-- the weight of one view counts in the whole
weigh_set : {A : Type 0} (f : A → ℕ) (views : List A) (port : ℕ) (v w : A) → get_elem? views port ≡ some v → weigh f (set views port w) + f v ≡ weigh f views + f w
weigh_set f [] port v w e = absurd (some-ne-none v (sym e))
weigh_set f (x ∷ xs) zero v w e = let same : x ≡ v = cc in let s : f x ≡ f v = ap f same in omega arith
weigh_set f (x ∷ xs) (suc k) v w e = let r = weigh_set f xs k v w e in omega arith

weigh_at : {A : Type 0} (f : A → ℕ) (views : List A) (port : ℕ) (v : A) → get_elem? views port ≡ some v → f v ≤ weigh f views
weigh_at f [] port v e = absurd (some-ne-none v (sym e))
weigh_at f (x ∷ xs) zero v e = let same : x ≡ v = cc in let s : f x ≡ f v = ap f same in omega arith
weigh_at f (x ∷ xs) (suc k) v e = let r = weigh_at f xs k v e in omega arith

abbrev AllOf : (SeatLog → Type 0) → List SeatLog → Type 0
AllOf F views = (port : ℕ) (v : SeatLog) → get_elem? views port ≡ some v → F v

all_set : (F : SeatLog → Type 0) (views : List SeatLog) (port : ℕ) (w : SeatLog) → F w → AllOf F views → AllOf F (set views port w)
all_set F views port w mine all j u e = ⊎_elim (λ (x : (j ≡ port) × (w ≡ u)). subst F x.1 mine) (λ (x : (j ≢ port) × (get_elem? views j ≡ some u)). all j u x.1) (at_set views port j w u e)

all_snoc : (F : SeatLog → Type 0) (views : List SeatLog) (w : SeatLog) → F w → AllOf F views → AllOf F (views ++ w ∷ [])
all_snoc F views w mine all j u e = ⊎_elim (λ x. all j u x) (λ (is : w ≡ u). subst F is mine) (at_snoc views w u j e)

abbrev IdleOk : SeatLog → Type 0
IdleOk v = v.parts ≡ 0 → IsIdle v

-- ---- orders

within_more : (xs ys : List JobState) (y : JobState) → Within xs ys → Within xs (ys ++ y ∷ [])
within_more [] ys y h = tt
within_more (x ∷ xs) [] y h = absurd h
within_more (x ∷ xs) (z ∷ zs) y (inl h) = inl (h.0, within_more xs zs y h.1)
within_more (x ∷ xs) (z ∷ zs) y (inr h) = inr (within_more (x ∷ xs) zs y h)

within_last : (y : JobState) (ys : List JobState) → Within (y ∷ []) (ys ++ y ∷ [])
within_last y [] = inl (refl, tt)
within_last y (z ∷ zs) = inr (within_last y zs)

within_snoc : (xs ys : List JobState) (y : JobState) → Within xs ys → Within (xs ++ y ∷ []) (ys ++ y ∷ [])
within_snoc [] ys y h = within_last y ys
within_snoc (x ∷ xs) [] y h = absurd h
within_snoc (x ∷ xs) (z ∷ zs) y (inl h) = inl (h.0, within_snoc xs zs y h.1)
within_snoc (x ∷ xs) (z ∷ zs) y (inr h) = inr (within_snoc (x ∷ xs) zs y h)

each_more : (ls : List (List JobState)) (ys : List JobState) (y : JobState) → EachWithin ls ys → EachWithin ls (ys ++ y ∷ [])
each_more [] ys y h = tt
each_more (l ∷ ls) ys y h = (within_more l ys y h.0, each_more ls ys y h.1)

each_append : (ls ms : List (List JobState)) (ys : List JobState) → EachWithin ls ys → EachWithin ms ys → EachWithin (ls ++ ms) ys
each_append [] ms ys h k = k
each_append (l ∷ ls) ms ys h k = (h.0, each_append ls ms ys h.1 k)

order_more : (log : List JobState) (y : JobState) (v : SeatLog) → Orders log v → Orders (log ++ y ∷ []) v
order_more log y v h = (within_more v.put log y h.0, each_more v.joined log y h.1)

-- ---- the steps

pub begins : Balanced [] (seat_log (2 ^ 62) [] [] [] ∷ [])
begins = (
  omega arith,
  (λ h. refl),
  all_snoc IdleOk [] (seat_log (2 ^ 62) [] [] []) (λ none. absurd (omega arith)) (λ j u e none. absurd (some-ne-none u (sym e))),
  ([], (λ h. refl), all_snoc (Orders []) [] (seat_log (2 ^ 62) [] [] []) (tt, tt) (λ j u e. absurd (some-ne-none u (sym e)))),
)

pub puts : (n port : ℕ) (v : SeatLog) (x : JobState) → 0 < v.parts → Pushes Balanced n port v x (λ w. w ≡ seat_log v.parts (v.put ++ x ∷ []) v.joined v.taken)
puts n port v x some_part items views room b at =
    let w = seat_log v.parts (v.put ++ x ∷ []) v.joined v.taken in
    let log = b.3.0 in
    let mine = b.3.2 port v at in (
      w,
      (
        (let s = weigh_set (λ (u : SeatLog). u.parts) views port v w at in let p = b.0 in omega arith),
        (λ h.
            let s = weigh_set (put_weight h) views port v w at in
            let t = weigh_set (λ (u : SeatLog). weigh h u.taken) views port v w at in
            let p = b.1 h in
            omega (arith, weigh-append h v.put (x ∷ []), weigh-append h items (x ∷ []))),
        all_set IdleOk views port w (λ none. absurd (omega arith)) b.2,
        (
          log ++ x ∷ [],
          (λ h.
              let t = weigh_set (λ (u : SeatLog). weigh h u.taken) views port v w at in
              let p = b.3.1 h in
              omega (arith, weigh-append h log (x ∷ []), weigh-append h items (x ∷ []))),
          all_set (Orders (log ++ x ∷ [])) views port w (within_snoc v.put log x mine.0, each_more v.joined log x mine.1) (λ j u e. order_more log x u (b.3.2 j u e)),
        ),
      ),
      refl,
    )

pub takes : (port : ℕ) (v : SeatLog) → 0 < v.parts → Pops Balanced port v (λ x w. w ≡ seat_log v.parts v.put v.joined (v.taken ++ x ∷ []))
takes port v some_part x items views b at =
    let w = seat_log v.parts v.put v.joined (v.taken ++ x ∷ []) in (
      w,
      (
        (let s = weigh_set (λ (u : SeatLog). u.parts) views port v w at in let p = b.0 in omega arith),
        (λ h.
            let s = weigh_set (put_weight h) views port v w at in
            let t = weigh_set (λ (u : SeatLog). weigh h u.taken) views port v w at in
            let p = b.1 h in
            omega (arith, weigh-append h v.taken (x ∷ []))),
        all_set IdleOk views port w (λ none. absurd (omega arith)) b.2,
        (
          b.3.0,
          (λ h.
              let t = weigh_set (λ (u : SeatLog). weigh h u.taken) views port v w at in
              let p = b.3.1 h in
              omega (arith, weigh-append h v.taken (x ∷ []))),
          all_set (Orders b.3.0) views port w (b.3.2 port v at) b.3.2,
        ),
      ),
      refl,
    )

pub forks : (port : ℕ) (v : SeatLog) → 1 < v.parts → Forks Balanced port v (seat_log (v.parts - 1) v.put v.joined v.taken) (seat_log 1 [] [] [])
forks port v more items views b at =
    let l = seat_log (v.parts - 1) v.put v.joined v.taken in
    let r = seat_log 1 [] [] [] in
    let vs = set views port l in (
      (let s = weigh_set (λ (u : SeatLog). u.parts) views port v l at in let p = b.0 in omega (arith, weigh-append (λ (u : SeatLog). u.parts) vs (r ∷ []))),
      (λ h.
          let s = weigh_set (put_weight h) views port v l at in
          let t = weigh_set (λ (u : SeatLog). weigh h u.taken) views port v l at in
          let p = b.1 h in
          omega (arith, weigh-append (put_weight h) vs (r ∷ []), weigh-append (λ (u : SeatLog). weigh h u.taken) vs (r ∷ []))),
      all_snoc IdleOk vs r (λ none. absurd (omega arith)) (all_set IdleOk views port l (λ none. absurd (omega arith)) b.2),
      (
        b.3.0,
        (λ h.
            let t = weigh_set (λ (u : SeatLog). weigh h u.taken) views port v l at in
            let p = b.3.1 h in
            omega (arith, weigh-append (λ (u : SeatLog). weigh h u.taken) vs (r ∷ []))),
        all_snoc (Orders b.3.0) vs r (tt, tt) (all_set (Orders b.3.0) views port l (b.3.2 port v at) b.3.2),
      ),
    )

pub merges : (port : ℕ) (v : SeatLog) (other : ℕ) (u : SeatLog) → 0 < v.parts
    → Merges Balanced port v other u (seat_log (v.parts + u.parts) v.put (v.joined ++ u.put ∷ u.joined) (v.taken ++ u.taken)) (seat_log 0 [] [] [])
merges port v other u some_part items views b at apart at2 =
    let both = seat_log (v.parts + u.parts) v.put (v.joined ++ u.put ∷ u.joined) (v.taken ++ u.taken) in
    let spent = seat_log 0 [] [] [] in
    let vs = set views port both in
    let was : get_elem? views other ≡ some u = ⊎_elim (λ x. absurd (apart x.0)) (λ x. x.1) (at_set views port other both u at2) in
    let mine = b.3.2 port v at in
    let theirs = b.3.2 other u was in (
      (let s = weigh_set (λ (y : SeatLog). y.parts) views port v both at in let t = weigh_set (λ (y : SeatLog). y.parts) vs other u spent at2 in let p = b.0 in omega arith),
      (λ h.
          let s = weigh_set (put_weight h) views port v both at in
          let t = weigh_set (put_weight h) vs other u spent at2 in
          let s2 = weigh_set (λ (y : SeatLog). weigh h y.taken) views port v both at in
          let t2 = weigh_set (λ (y : SeatLog). weigh h y.taken) vs other u spent at2 in
          let p = b.1 h in
          omega (arith, weigh-append (weigh h) v.joined (u.put ∷ u.joined), weigh-append h v.taken u.taken)),
      all_set IdleOk vs other spent (λ _. (refl, refl, refl)) (all_set IdleOk views port both (λ none. absurd (omega arith)) b.2),
      (
        b.3.0,
        (λ h.
            let s2 = weigh_set (λ (y : SeatLog). weigh h y.taken) views port v both at in
            let t2 = weigh_set (λ (y : SeatLog). weigh h y.taken) vs other u spent at2 in
            let p = b.3.1 h in
            omega (arith, weigh-append h v.taken u.taken)),
        all_set (Orders b.3.0) vs other spent (tt, tt) (all_set (Orders b.3.0) views port both (mine.0, each_append v.joined (u.put ∷ u.joined) b.3.0 mine.1 theirs) b.3.2),
      ),
    )

none_weighs : (f : SeatLog → ℕ) (xs : List SeatLog) → ((w : SeatLog) → IsIdle w → f w ≡ 0) → weigh (λ u. u.parts) xs ≡ 0 → IdleIsEmpty xs → weigh f xs ≡ 0
none_weighs f [] zeros parts idle = refl
none_weighs f (x ∷ xs) zeros parts idle =
    let a = zeros x (idle 0 x refl (omega arith)) in
    let b = none_weighs f xs zeros (omega arith) (λ j u at. idle (suc j) u at) in omega arith

-- where one view has every part, the others weigh nothing
alone_weighs : (f : SeatLog → ℕ) (views : List SeatLog) (port : ℕ) (v : SeatLog) → ((w : SeatLog) → IsIdle w → f w ≡ 0) → get_elem? views port ≡ some v
    → weigh (λ u. u.parts) views ≡ v.parts → IdleIsEmpty views → weigh f views ≡ f v
alone_weighs f [] port v zeros e parts idle = absurd (some-ne-none v (sym e))
alone_weighs f (x ∷ xs) zero v zeros e parts idle =
    let same : x ≡ v = cc in
    let s : f x ≡ f v = ap f same in
    let p : x.parts ≡ v.parts = ap (λ (y : SeatLog). y.parts) same in
    let n = none_weighs f xs zeros (omega arith) (λ j u at. idle (suc j) u at) in omega arith
alone_weighs f (x ∷ xs) (suc k) v zeros e parts idle =
    let in_rest = weigh_at (λ (u : SeatLog). u.parts) xs k v e in
    let a = zeros x (idle 0 x refl (omega arith)) in
    let r = alone_weighs f xs k v zeros e (omega arith) (λ j u at. idle (suc j) u at) in omega arith

pub learns : (port : ℕ) (v : SeatLog) → v.parts ≡ 2 ^ 62 → Learns Balanced port v (Whole v)
learns port v whole items views b at =
    let taken = λ (h : JobState → ℕ). alone_weighs (λ u. weigh h u.taken) views port v (λ w none. rw (none.2) refl) at (b.0 ∙ sym whole) b.2 in (
      (λ h.
          let put = alone_weighs (put_weight h) views port v (λ w none. rw (none.0, none.1) refl) at (b.0 ∙ sym whole) b.2 in
          let t = taken h in let p = b.1 h in omega arith),
      (b.3.0, (λ h. let t = taken h in let p = b.3.1 h in omega arith), b.3.2 port v at),
    )

-- nothing is left, so the order is of what was taken
pub settles : (v w : SeatLog) (rest items : List JobState) → v ≡ seat_log w.parts w.put w.joined (w.taken ++ rest) → length items ≡ 0 → Whole v items → WholeOrder w (w.taken ++ rest)
settles v w rest [] is none fact =
    let t = λ (h : JobState → ℕ). ap (λ (y : SeatLog). weigh h y.taken) is in (
      (λ h. let f = fact.0 h in let p : put_weight h v ≡ put_weight h w = ap (put_weight h) is in let s = t h in omega arith),
      (fact.1.0, (λ h. let f = fact.1.1 h in let s = t h in omega arith), subst (Orders fact.1.0) is fact.1.2),
    )
settles v w rest (x ∷ items) is none fact = absurd (omega arith)

pub taken-snoc : (vs : List SeatLog) (v : SeatLog) → all_taken (vs ++ v ∷ []) ≡ all_taken vs ++ v.taken
taken-snoc [] v = append-nil v.taken
taken-snoc (w ∷ ws) v = ap (λ l. w.taken ++ l) (taken-snoc ws v) ∙ sym (append_assoc w.taken (all_taken ws) v.taken)

pub one_order : (w : SeatLog) (puts : List (List JobState)) (all : List JobState) → w.put ≡ [] → w.joined ≡ puts → WholeOrder w all → InOneOrder puts all
one_order w puts all none is h = (
  (λ f. let a = h.0 f in let b : weigh f w.put ≡ 0 = rw none refl in let d = ap (weigh (weigh f)) is in omega arith),
  (h.1.0, h.1.1, subst (λ l. EachWithin l h.1.0) is h.1.2.1),
)

-- one seat more
pub log_more : (v : SeatLog) (n : ℕ) (ps : List (List JobState)) (vs : List SeatLog) (w : SeatLog) → w.parts ≡ 1 → w.joined ≡ []
    → seat_log ((v.parts + n) + w.parts) v.put ((v.joined ++ ps) ++ w.put ∷ w.joined) ((v.taken ++ all_taken vs) ++ w.taken)
    ≡ seat_log (v.parts + (n + 1)) v.put (v.joined ++ (ps ++ w.put ∷ [])) (v.taken ++ all_taken (vs ++ w ∷ []))
log_more v n ps vs w one none =
    let p : (v.parts + n) + w.parts ≡ v.parts + (n + 1) = omega arith in
    let j : (v.joined ++ ps) ++ w.put ∷ w.joined ≡ v.joined ++ (ps ++ w.put ∷ []) = ap (λ l. (v.joined ++ ps) ++ w.put ∷ l) none ∙ append_assoc v.joined ps (w.put ∷ []) in
    let t : (v.taken ++ all_taken vs) ++ w.taken ≡ v.taken ++ all_taken (vs ++ w ∷ []) = append_assoc v.taken (all_taken vs) w.taken ∙ ap (λ l. v.taken ++ l) (sym (taken-snoc vs w)) in
    rw (p, j, t) refl
