-- The queues of windows, when those of one change.
use Rattle.std.proofs.Common.{◌≡◌, ℕ, Bool, true, false, cond, List, Result, Ok, Err, OnErr, refl, sym, ap, ◌∙◌}
use Rattle.std.specs.Prelude.{bytes_eq, ◌==◌, Option}
use Rattle.std.specs.Cmp.{unsigned_ties}
use Rattle.std.specs.BTreeMap.{BTreeMap, get, is_at}
use Rattle.std.specs.Ordering.{nat_cmp}
use Rattle.std.specs.Cmp.Lexicographic.{slice_cmp, texts_ties}
use Rattle.std.specs.Prelude.{ℤ}
use Rattle.ra_values.specs.declared.value.Value.{Value}
use Rattle.ra_router.specs.declared.window.Held.{Held}
use Rattle.ra_router.specs.declared.window.Out.{Out}
use Rattle.ra_router.specs.declared.window.Window.{Window}
use Rattle.ra_router.proofs.Bytes.{bytes_same}

-- the new map has this at the key, and else what the old one has
abbrev pub Sets : BTreeMap (List ℕ) Window → BTreeMap (List ℕ) Window → List ℕ → Option Window → Type 0
Sets old new k o = (w : List ℕ) → get (slice_cmp nat_cmp) new w ≡ cond (is_at (slice_cmp nat_cmp k) w) o (get (slice_cmp nat_cmp) old w)

sets_at : (old new : BTreeMap (List ℕ) Window) (k : List ℕ) (o : Option Window) → Sets old new k o
    → (w : List ℕ) → get (slice_cmp nat_cmp) new w ≡ cond (bytes_eq k w) o (get (slice_cmp nat_cmp) old w)
sets_at old new k o sets w = sets w ∙ ap (λ (b : Bool). cond b o (get (slice_cmp nat_cmp) old w)) (sym (texts_ties k w))

pub changed : {A : Type 0} (f : Option Window → List A) (g : List A → List A) (old new : BTreeMap (List ℕ) Window) (k : List ℕ) (before after : Option Window)
    → get (slice_cmp nat_cmp) old k ≡ before → Sets old new k after → f after ≡ g (f before)
    → (w : List ℕ) → f (get (slice_cmp nat_cmp) new w) ≡ cond (bytes_eq k w) (g (f (get (slice_cmp nat_cmp) old w))) (f (get (slice_cmp nat_cmp) old w))
changed {A} f g old new k before after was sets is w = at (bytes_eq k w) refl
  where
    at : (b : Bool) → bytes_eq k w ≡ b → f (get (slice_cmp nat_cmp) new w) ≡ cond b (g (f (get (slice_cmp nat_cmp) old w))) (f (get (slice_cmp nat_cmp) old w))
    at true e =
        ap f (sets_at old new k after sets w ∙ ap (λ (b : Bool). cond b after (get (slice_cmp nat_cmp) old w)) e)
        ∙ is ∙ ap (λ (o : Option Window). g (f o)) (sym was ∙ ap (get (slice_cmp nat_cmp) old) (bytes_same k w e))
    at false e = ap f (sets_at old new k after sets w ∙ ap (λ (b : Bool). cond b after (get (slice_cmp nat_cmp) old w)) e)

same_either : {A : Type 0} (b : Bool) (x : A) → cond b x x ≡ x
same_either true x = refl
same_either false x = refl

pub kept : {A : Type 0} (f : Option Window → List A) (old new : BTreeMap (List ℕ) Window) (k : List ℕ) (before after : Option Window)
    → get (slice_cmp nat_cmp) old k ≡ before → Sets old new k after → f after ≡ f before
    → (w : List ℕ) → f (get (slice_cmp nat_cmp) new w) ≡ f (get (slice_cmp nat_cmp) old w)
kept f old new k before after was sets is w =
    changed f (λ l. l) old new k before after was sets is w ∙ same_either (bytes_eq k w) (f (get (slice_cmp nat_cmp) old w))

pub on_err : {A E P : Type 0} (r : Result A E) → P → OnErr r P
on_err (Ok x) p = tt
on_err (Err e) p = p

-- a map by numbers, where one is set
pub set_number : {A : Type 0} (old new : BTreeMap ℕ A) (k : ℕ) (o : Option A)
    → ((n : ℕ) → get nat_cmp new n ≡ cond (is_at (nat_cmp k) n) o (get nat_cmp old n)) → (n : ℕ) → get nat_cmp new n ≡ cond (k == n) o (get nat_cmp old n)
set_number old new k o sets n = sets n ∙ ap (λ (b : Bool). cond b o (get nat_cmp old n)) (sym (unsigned_ties k n))

abbrev pub held_with : ℕ → List ℕ → ℤ → Value → Held
held_with number caller id arg = record { number = number; caller = caller; id = id; arg = arg }

abbrev pub out_with : List ℕ → List ℕ → ℤ → Out
out_with window caller id = record { window = window; caller = caller; id = id }
