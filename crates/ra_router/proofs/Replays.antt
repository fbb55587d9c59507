-- What is told at a list of steps, and at one step more.
use Rattle.std.proofs.Common.{◌≡◌, ℕ, ◌+◌, List, [], ◌∷◌, ◌++◌, length, map, refl, sym, ap, ◌∙◌, arith}
use Rattle.std.proofs.lemmas.List.{append-nil}
use Rattle.ra_router.specs.declared.acts.Acts.{Acts}
use Rattle.ra_router.specs.declared.ask.Step.{Step}
use Rattle.ra_router.specs.declared.ask.Told.{Told}
use Rattle.ra_router.specs.Hops.{replay, told}
use Rattle.ra_router.specs.Stepping.{told_by}

joined : (l m r : List Step) → (l ++ m) ++ r ≡ l ++ (m ++ r)
joined [] m r = refl
joined (x ∷ xs) m r = ap (λ (k : List Step). x ∷ k) (joined xs m r)

pub replay_snoc : (past l : List Step) (x : Step) → replay past (l ++ x ∷ []) ≡ replay past l ++ told (past ++ l) x ∷ []
replay_snoc past [] x = ap (λ (k : List Step). told k x ∷ []) (sym (append-nil past))
replay_snoc past (y ∷ ys) x =
    ap (λ (k : List (List Told)). told past y ∷ k) (replay_snoc (past ++ y ∷ []) ys x)
    ∙ ap (λ (k : List Step). told past y ∷ (replay (past ++ y ∷ []) ys ++ told k x ∷ [])) (joined past (y ∷ []) ys)

map_snoc : (l : List Acts) (a : Acts) → map told_by (l ++ a ∷ []) ≡ map told_by l ++ told_by a ∷ []
map_snoc [] a = refl
map_snoc (y ∷ ys) a = ap (λ (k : List (List Told)). told_by y ∷ k) (map_snoc ys a)

pub one_step : (done : List Step) (x : Step) (before after : List Acts) (acts : Acts) → map told_by before ≡ replay [] done → after ≡ before ++ acts ∷ []
    → told_by acts ≡ told done x → map told_by after ≡ replay [] (done ++ x ∷ [])
one_step done x before after acts so_far grown tells =
    ap (map told_by) grown ∙ map_snoc before acts ∙ ap (λ (k : List (List Told)). k ++ told_by acts ∷ []) so_far
    ∙ ap (λ (k : List Told). replay [] done ++ k ∷ []) tells ∙ sym (replay_snoc [] done x)

-- ---- lists that are gone through

pub one_less : {A : Type 0} (len next : ℕ) (xs : List A) (x : A) (ys : List A) → xs ≡ x ∷ ys → next + 1 ≡ len → len ≡ length xs → next ≡ length ys
one_less len next xs x ys e more all = let n = ap length e in omega arith

pub ended : {A : Type 0} (done rest all : List A) → done ++ rest ≡ all → length rest ≡ 0 → done ≡ all
ended done [] all e none = sym (append-nil done) ∙ e
ended done (x ∷ xs) all e none = absurd (omega arith)
