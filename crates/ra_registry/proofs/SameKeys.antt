-- Keys that are the same one.
use Rattle.std.proofs.Common.{◌≡◌, ◌≢◌, true≢false, Bool, true, false, refl, sym, ap, ◌∙◌}
use Rattle.std.specs.Prelude.{MatchBool}
use Rattle.std.specs.Ordering.{is_eq}
use Rattle.std.specs.Cmp.{IsEquivalence}
use Rattle.std.proofs.lemmas.Cmp.{eq_by_cmp_equiv}
use Rattle.std.specs.declared.cmp.Ordering.{Ordering}
use Rattle.std.specs.declared.cmp.Ordering.TheVariants.{Less, Equal, Greater}
use Rattle.ra_base.specs.Keys.{key_cmp}
use Rattle.ra_base.proofs.KeyLemmas.{exact_keys, keys_total}
use Rattle.ra_base.specs.declared.key.Key.{Key}
use Rattle.ra_registry.specs.Rows.{same_key}

is_equal : (o : Ordering) → is_eq o ≡ true → o ≡ Equal
is_equal Less h = cc
is_equal Equal h = refl
is_equal Greater h = cc

pub same_key_is : (a b : Key) → same_key a b ≡ true → a ≡ b
same_key_is a b h = exact_keys a b (is_equal (key_cmp a b) h)

pub same_keys_laws : IsEquivalence same_key
same_keys_laws = eq_by_cmp_equiv keys_total

pub same_key_itself : (a : Key) → same_key a a ≡ true
same_key_itself a = same_keys_laws.refl a

pub same_key_other_way : (a b : Key) → same_key a b ≡ same_key b a
same_key_other_way a b = same_keys_laws.symm a b

-- the comparison of keys decides their equality
pub key_decides : (a b : Key) (r : Bool) → r ≡ same_key a b → MatchBool r (a ≡ b) (a ≢ b)
key_decides a b true is = same_key_is a b (sym is)
key_decides a b false is = λ e. absurd (true≢false (sym (same_key_itself b) ∙ (ap (λ (k : Key). same_key k b) (sym e) ∙ sym is)))
