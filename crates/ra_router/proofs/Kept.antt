-- The queues in memory against the hops and calls that they stand for.
use Rattle.std.proofs.Common.{◌≡◌, Bool, true, false, cond, List, [], ◌∷◌, ◌++◌, length, drop, refl, ap, subst}
use Rattle.std.specs.Prelude.{map, slice_get, Some, None}
use Rattle.ra_router.specs.declared.ask.Step.{Step}
use Rattle.ra_router.specs.declared.window.Held.{Held}
use Rattle.ra_router.specs.Hops.{Placed}
use Rattle.ra_router.specs.Standing.{IsHeld, AreHeld}
use Rattle.ra_router.proofs.Placed.{same_some, stays, grows_hops}

-- ---- hops that wait

pub is_held_stays : (past more : List Step) (kept : Held) (hop : Placed) → IsHeld past kept hop → IsHeld (past ++ more) kept hop
is_held_stays past more kept hop h = record {
  number_is = stays (length past) _ _ (grows_hops past more) kept.number hop h.number_is;
  caller_is = h.caller_is;
  id_is = h.id_is;
  arg_is = h.arg_is;
}

pub held_stays : (past more : List Step) (es : List Held) (ps : List Placed) → AreHeld past es ps → AreHeld (past ++ more) es ps
held_stays past more [] [] a = tt
held_stays past more [] (p ∷ ps) a = absurd a
held_stays past more (e ∷ es) [] a = absurd a
held_stays past more (e ∷ es) (p ∷ ps) a = (is_held_stays past more e p a.0, held_stays past more es ps a.1)

held_push : (past : List Step) (es : List Held) (ps : List Placed) (e : Held) (p : Placed) → AreHeld past es ps → IsHeld past e p → AreHeld past (es ++ e ∷ []) (ps ++ p ∷ [])
held_push past [] [] e p a h = (h, tt)
held_push past [] (q ∷ ps) e p a h = absurd a
held_push past (f ∷ es) [] e p a h = absurd a
held_push past (f ∷ es) (q ∷ ps) e p a h = (a.0, held_push past es ps e p a.1 h)

held_end : (past : List Step) (es : List Held) (ps : List Placed) → AreHeld past es ps → AreHeld past es (ps ++ [])
held_end past [] [] a = tt
held_end past [] (p ∷ ps) a = absurd a
held_end past (e ∷ es) [] a = absurd a
held_end past (e ∷ es) (p ∷ ps) a = (a.0, held_end past es ps a.1)

pub held_more : (b : Bool) (past : List Step) (es : List Held) (ps : List Placed) (e : Held) (p : Placed) → AreHeld past es ps → IsHeld past e p
    → AreHeld past (cond b (es ++ e ∷ []) es) (ps ++ cond b (p ∷ []) [])
held_more true past es ps e p a h = held_push past es ps e p a h
held_more false past es ps e p a h = held_end past es ps a

held_drop : (past : List Step) (es : List Held) (ps : List Placed) → AreHeld past es ps → AreHeld past (drop 1 es) (drop 1 ps)
held_drop past [] [] a = tt
held_drop past [] (p ∷ ps) a = absurd a
held_drop past (e ∷ es) [] a = absurd a
held_drop past (e ∷ es) (p ∷ ps) a = a.1

pub held_less : (b : Bool) (past : List Step) (es : List Held) (ps : List Placed) → AreHeld past es ps → AreHeld past (cond b (drop 1 es) es) (cond b (drop 1 ps) ps)
held_less true past es ps a = held_drop past es ps a
held_less false past es ps a = a

pub record First (past : List Step) (e : Held) (ps : List Placed) : Type 0 where
  pub hop : Placed
  pub there : slice_get ps 0 ≡ Some hop
  pub is : IsHeld past e hop

pub held_first : (past : List Step) (es : List Held) (ps : List Placed) (e : Held) → AreHeld past es ps → slice_get es 0 ≡ Some e → First past e ps
held_first past [] ps e a f = absurd cc
held_first past (k ∷ es) [] e a f = absurd a
held_first past (k ∷ es) (p ∷ ps) e a f = record { hop = p; there = refl; is = subst (λ (h : Held). IsHeld past h p) (same_some k e f) a.0 }

pub held_none : (past : List Step) (es : List Held) (ps : List Placed) → AreHeld past es ps → slice_get es 0 ≡ None → slice_get ps 0 ≡ None
held_none past [] [] a f = refl
held_none past [] (p ∷ ps) a f = absurd a
held_none past (e ∷ es) ps a f = absurd cc

-- ---- calls that wait

pub map_more : {A : Type 0} (f : Placed → A) (b : Bool) (l : List Placed) (x : Placed) → map f (l ++ cond b (x ∷ []) []) ≡ cond b (map f l ++ f x ∷ []) (map f l)
map_more f true [] x = refl
map_more f false [] x = refl
map_more f true (y ∷ ys) x = ap (λ l. f y ∷ l) (map_more f true ys x)
map_more f false (y ∷ ys) x = ap (λ l. f y ∷ l) (map_more f false ys x)

map_drop : {A : Type 0} (f : Placed → A) (l : List Placed) → map f (drop 1 l) ≡ drop 1 (map f l)
map_drop f [] = refl
map_drop f (x ∷ xs) = refl

pub map_less : {A : Type 0} (f : Placed → A) (b : Bool) (l : List Placed) → map f (cond b (drop 1 l) l) ≡ cond b (drop 1 (map f l)) (map f l)
map_less f true l = map_drop f l
map_less f false l = refl

pub record FirstCall {A : Type 0} (f : Placed → A) (y : A) (l : List Placed) : Type 0 where
  pub call : Placed
  pub there : slice_get l 0 ≡ Some call
  pub is : f call ≡ y

pub map_first : {A : Type 0} (f : Placed → A) (l : List Placed) (y : A) → slice_get (map f l) 0 ≡ Some y → FirstCall f y l
map_first f [] y e = absurd cc
map_first f (x ∷ xs) y e = record { call = x; there = refl; is = same_some (f x) y e }

pub map_none : {A : Type 0} (f : Placed → A) (l : List Placed) → slice_get (map f l) 0 ≡ None → slice_get l 0 ≡ None
map_none f [] e = refl
map_none f (x ∷ xs) e = absurd cc
