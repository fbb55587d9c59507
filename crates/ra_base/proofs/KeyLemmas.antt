-- The order of keys tells all keys apart.
use Rattle.std.proofs.Common.{◌≡◌, ℕ, List, ap, refl, ◌∙◌}
use Rattle.std.specs.Ordering.{nat_cmp}
use Rattle.std.specs.Cmp.{IsTotalOrder}
use Rattle.std.specs.Cmp.Lexicographic.{slice_cmp, nat_list_cmp_total}
use Rattle.std.proofs.lemmas.Map.Lookups.{CmpEqualImpliesEq, exact_pairs, exact_unsigned, exact_bytes}
use Rattle.std.proofs.lemmas.Cmp.{then_total, on_total, nat_cmp_total}
use Rattle.ra_base.specs.declared.kind.Kind.{Kind}
use Rattle.ra_base.specs.declared.kind.Kind.TheVariants.{Management, ExtensionHost, Tunnel}
use Rattle.ra_base.specs.declared.key.Key.{Key}
use Rattle.ra_base.specs.Kinds.{rank}
use Rattle.ra_base.specs.Keys.{key_cmp}

same_kind : (a b : Kind) → rank a ≡ rank b → a ≡ b
same_kind Management Management h = refl
same_kind Management ExtensionHost h = cc
same_kind Management Tunnel h = cc
same_kind ExtensionHost Management h = cc
same_kind ExtensionHost ExtensionHost h = refl
same_kind ExtensionHost Tunnel h = cc
same_kind Tunnel Management h = cc
same_kind Tunnel ExtensionHost h = cc
same_kind Tunnel Tunnel h = refl

-- keys that compare alike are one
pub exact_keys : CmpEqualImpliesEq key_cmp
exact_keys a b h =
    let same = exact_pairs nat_cmp (slice_cmp nat_cmp) exact_unsigned exact_bytes (rank a.kind, a.token) (rank b.kind, b.token) h in
    let kinds : a.kind ≡ b.kind = same_kind a.kind b.kind (ap (λ (p : ℕ × List ℕ). p.0) same) in
    let tokens : a.token ≡ b.token = ap (λ (p : ℕ × List ℕ). p.1) same in
    ap (λ (kind : Kind). record { kind = kind; token = a.token }) kinds ∙ ap (λ (token : List ℕ). record { kind = b.kind; token = token }) tokens

pub keys_total : IsTotalOrder key_cmp
keys_total = then_total (on_total (λ k. rank k.kind) nat_cmp_total) (on_total (λ k. k.token) nat_list_cmp_total)
