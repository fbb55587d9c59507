-- Texts that are put together.
use Rattle.std.proofs.Common.{◌≡◌, ℕ, List, ◌++◌, append_assoc, ap, sym, ◌∙◌}

flat : (p l m j k : List ℕ) → p ++ (((l ++ m) ++ j) ++ k) ≡ (((p ++ l) ++ m) ++ j) ++ k
flat p l m j k =
    sym (append_assoc p ((l ++ m) ++ j) k)
    ∙ ap (λ x. x ++ k) (sym (append_assoc p (l ++ m) j) ∙ ap (λ x. x ++ j) (sym (append_assoc p l m)))

pub joined : (t p l m j k e : List ℕ) → ((t ++ p) ++ (((l ++ m) ++ j) ++ k)) ++ e ≡ t ++ (((((p ++ l) ++ m) ++ j) ++ k) ++ e)
joined t p l m j k e =
    ap (λ x. x ++ e) (append_assoc t p (((l ++ m) ++ j) ++ k) ∙ ap (λ x. t ++ x) (flat p l m j k)) ∙ append_assoc t ((((p ++ l) ++ m) ++ j) ++ k) e
