-- Legal histories: one more entry, and what holds of all of them.
use Rattle.std.proofs.Common.{◌≡◌, ℕ, zero, suc, ◌<◌, ◌+◌, ◌≤◌, List, [], ◌∷◌, ◌++◌, length, take, get_or, arith, length-append, refl, sym, subst, below_more}
use Rattle.std.proofs.lemmas.List.{take-append-le, take_at, take_all, take-take, length-take, get_or_append_left, get_or_push, get_or-take}
use Rattle.std.proofs.Math.Seq.{take-suc}
use Rattle.ra_base.specs.declared.kind.Kind.TheVariants.{Management}
use Rattle.ra_registry.specs.declared.past.Did.TheVariants.{Missed}
use Rattle.ra_registry.specs.declared.past.Past.{Past}
use Rattle.ra_registry.specs.RegistryStates.{RegistryState, with_entry, up_to}
use Rattle.ra_registry.specs.Legal.{Fits, IsLegal}

-- a legal history stays legal with an entry that fits
pub legal_push : (r : RegistryState) (entry : Past) → IsLegal r → Fits r entry → IsLegal (with_entry r entry)
legal_push r entry legal fits = record { fits = each }
  where
    each : (i : ℕ) (d : Past) → i < length (r.history ++ entry ∷ []) → Fits (up_to i (with_entry r entry)) (get_or (r.history ++ entry ∷ []) i d)
    each i d below =
        let h : List Past = r.history in
        let P : ℕ → Type 0 = λ k. (e : Past) → Fits (record r { history = take k (h ++ entry ∷ []) }) (get_or (h ++ entry ∷ []) k e) in
        let old : (k : ℕ) → k < length h → P k =
        λ k small e.
        let in_old : k ≤ length h = omega arith in
        rw (take-append-le k h (entry ∷ []) in_old, get_or_append_left h (entry ∷ []) e k small) (legal.fits k e small) in
        let last : P (length h) =
        λ e. rw (take_at h (entry ∷ []) (length h) refl, get_or_push h entry e (length h) refl) fits in
        let len : i < length h + 1 = omega (arith, length-append h (entry ∷ [])) in
        below_more P (length h) old last i len d

some_entry : Past
some_entry = record { at = 0; key = record { kind = Management; token = [] }; did = Missed }

-- a front of a legal history is legal
pub legal_front : (r : RegistryState) (n : ℕ) → n ≤ length r.history → IsLegal r → IsLegal (up_to n r)
legal_front r n within legal = record { fits = each }
  where
    each : (i : ℕ) (d : Past) → i < length (take n r.history) → Fits (up_to i (up_to n r)) (get_or (take n r.history) i d)
    each i d below =
        let small : i < n = omega (arith, length-take n r.history) in
        let front : take i (take n r.history) ≡ take i r.history = take-take i n r.history (omega arith) in
        rw (front, get_or-take n r.history i d small) (legal.fits i d (omega arith))

-- what holds of no entries, and with each entry that fits, holds of every legal history
pub each_legal : (r : RegistryState) (P : List Past → Type 0) → P []
    → ((h : List Past) (entry : Past) → IsLegal (record r { history = h }) → P h → Fits (record r { history = h }) entry → P (h ++ entry ∷ []))
    → IsLegal r → P r.history
each_legal r P none more legal = subst P (take_all (length r.history) r.history (omega arith)) (upto (length r.history) (omega arith))
  where
    upto : (n : ℕ) → n ≤ length r.history → P (take n r.history)
    upto zero le = none
    upto (suc n) le =
        let small : n < length r.history = omega arith in
        let fits : Fits (up_to n r) (get_or r.history n some_entry) = legal.fits n some_entry small in
        subst P (sym (take-suc r.history n some_entry small))
        (more (take n r.history) (get_or r.history n some_entry) (legal_front r n (omega arith) legal) (upto n (omega arith)) fits)
