-- The bytes of a value are its spelling.
use Rattle.std.proofs.Common.{◌≡◌, ℕ, zero, suc, ◌*◌, ◌/◌, ◌<◌, ◌^◌, List, ◌++◌, length, refl, ap, ◌∙◌, arith, ltb}
use Rattle.std.proofs.lemmas.Bool.{cond_both, ltb-true, ltb-false}
use Rattle.ra_values.specs.Number.{IsGroups, SpellsNumber}
use Rattle.ra_values.specs.Spelling.{Spells, SpellsAll, Fits, AllFit, levels, Appends}
use Rattle.ra_values.specs.Tree.{Tree, undefined, text, buffer, vs_buffer, array, object, int, Trees, none, more, count}
use Rattle.ra_values.proofs.Numbers.{groups_on}
use Rattle.ra_values.specs.ValueBytes.{groups_of, number_bytes, value_bytes, items_bytes}
use Rattle.ra_values.proofs.Once.{spelled_once, spelled_fits}

-- what so many groups and one more can stand for is below this
limit : ℕ → ℕ
limit zero = 128
limit (suc left) = 128 * limit left

groups_are : (left n : ℕ) → n < limit left → IsGroups (groups_of left n) n
unfolding limit
groups_are zero n small = (small, refl)
groups_are (suc left) n small =
    cond_both (ltb n 128) _ _ (λ (bytes : List ℕ). IsGroups bytes n) (λ t. (ltb-true n 128 t, refl))
    (λ f. groups_on n (groups_of left (n / 128)) (ltb-false n 128 f) (groups_are left (n / 128) (omega (arith, small))))

pub number_is : (n : ℕ) → n < 2 ^ 32 → SpellsNumber n (number_bytes n)
unfolding number_bytes limit
number_is n small = (small, groups_are 4 n (omega (arith, small)))

mutual
  unfolding value_bytes

  pub value_is : (left : ℕ) (t : Tree) → Fits left t → Spells left t (value_bytes t)
  value_is zero t fits = absurd fits
  value_is (suc left) undefined fits = refl
  value_is (suc left) (text t) fits = (fits.0, (number_bytes (length t), number_is (length t) fits.1, refl))
  value_is (suc left) (buffer t) fits = (number_bytes (length t), number_is (length t) fits, refl)
  value_is (suc left) (vs_buffer t) fits = (number_bytes (length t), number_is (length t) fits, refl)
  value_is (suc left) (array items) fits = (number_bytes (count items), items_bytes items, number_is (count items) fits.0, items_are left items fits.1, refl)
  value_is (suc left) (object t) fits = (fits.0, (number_bytes (length t), number_is (length t) fits.1, refl))
  value_is (suc left) (int n) fits = (number_bytes n, number_is n fits, refl)

  pub items_are : (left : ℕ) (ts : Trees) → AllFit left ts → SpellsAll left ts (items_bytes ts)
  items_are left none fits = refl
  items_are left (more t ts) fits = (value_bytes t, items_bytes ts, value_is left t fits.0, items_are left ts fits.1, refl)

-- what is behind the bytes is the spelling by the function
pub appends_bytes : (t : Tree) (old new : List ℕ) → Appends levels t old new → new ≡ old ++ value_bytes t
appends_bytes t old new a = a.2 ∙ ap (λ (w : List ℕ). old ++ w) (spelled_once levels t a.0 (value_bytes t) a.1 (value_is levels t (spelled_fits levels t a.0 a.1)))
