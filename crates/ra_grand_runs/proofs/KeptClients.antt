-- What a change of one client leaves.
use Rattle.std.proofs.Common.{◌≡◌, ℕ, zero, suc, ◌+◌, Option, Some, None, List, [], ◌∷◌, ◌++◌, length, map, refl, ap, sym, ◌∙◌, arith}
use Rattle.std.specs.Prelude.{slice_get, slice_set}
use Rattle.ra_base.specs.declared.key.Key.{Key}
use Rattle.ra_model.specs.Links.{at_number, put_number}
use Rattle.ra_grand_runs.specs.GrandClients.{Client}
use Rattle.ra_grand_runs.specs.Grands.{changed}

pub none_there : {X : Type 0} → {Y : Type 0} → {x : X} → ◌≡◌ {A = Option X} None (Some x) → Y
none_there e = absurd cc

pub there_is : {X : Type 0} → {x y : X} → ◌≡◌ {A = Option X} (Some x) (Some y) → x ≡ y
there_is e = cc

-- ---- others

get_other : {X : Type 0} → (xs : List X) (n m : ℕ) (x : X) → (n ≡ m → ⊥) → slice_get (slice_set xs n x) m ≡ slice_get xs m
get_other [] n m x ne = refl
get_other (y ∷ ys) zero zero x ne = absurd (ne refl)
get_other (y ∷ ys) zero (suc m) x ne = refl
get_other (y ∷ ys) (suc n) zero x ne = refl
get_other (y ∷ ys) (suc n) (suc m) x ne = get_other ys n m x (λ e. ne (ap (λ k. suc k) e))

pub put_other : {X : Type 0} → (xs : List X) (n m : ℕ) (x : X) → (n ≡ m → ⊥) → at_number (put_number xs n x) m ≡ at_number xs m
put_other xs zero m x ne = refl
put_other xs (suc n) zero x ne = refl
put_other xs (suc n) (suc m) x ne = get_other xs n m x (λ e. ne (ap (λ k. suc k) e))

pub changed_other : (n m : ℕ) (f : Client → Client) (o : Option Client) (cs : List Client) → (n ≡ m → ⊥) → at_number (changed n f o cs) m ≡ at_number cs m
changed_other n m f None cs ne = refl
changed_other n m f (Some c) cs ne = put_other cs n m (f c) ne

get_more : {X : Type 0} → (xs : List X) (x : X) (m : ℕ) → (length xs ≡ m → ⊥) → slice_get (xs ++ x ∷ []) m ≡ slice_get xs m
get_more [] x zero ne = absurd (ne refl)
get_more [] x (suc m) ne = refl
get_more (y ∷ ys) x zero ne = refl
get_more (y ∷ ys) x (suc m) ne = get_more ys x m (λ e. ne (ap (λ k. suc k) e))

pub number_more : {X : Type 0} → (xs : List X) (x : X) (m : ℕ) → (length xs + 1 ≡ m → ⊥) → at_number (xs ++ x ∷ []) m ≡ at_number xs m
number_more xs x zero ne = refl
number_more xs x (suc m) ne = get_more xs x m (λ e. ne (omega (arith, e)))

-- ---- keys

abbrev pub keys : List Client → List Key
keys cs = map (λ (c : Client). c.key) cs

set_keys : (cs : List Client) (n : ℕ) (c d : Client) → slice_get cs n ≡ Some c → d.key ≡ c.key → keys (slice_set cs n d) ≡ keys cs
set_keys [] n c d is same = refl
set_keys (x ∷ cs) zero c d is same = ap (λ (k : Key). k ∷ keys cs) (same ∙ ap (λ (y : Client). y.key) (sym (there_is is)))
set_keys (x ∷ cs) (suc n) c d is same = ap (λ ks. x.key ∷ ks) (set_keys cs n c d is same)

pub put_keys : (cs : List Client) (n : ℕ) (c d : Client) → at_number cs n ≡ Some c → d.key ≡ c.key → keys (put_number cs n d) ≡ keys cs
put_keys cs zero c d is same = refl
put_keys cs (suc n) c d is same = set_keys cs n c d is same

pub changed_keys : (n : ℕ) (f : Client → Client) (o : Option Client) (cs : List Client) → at_number cs n ≡ o → ((c : Client) → (f c).key ≡ c.key)
    → keys (changed n f o cs) ≡ keys cs
changed_keys n f None cs is same = refl
changed_keys n f (Some c) cs is same = put_keys cs n c (f c) is (same c)
