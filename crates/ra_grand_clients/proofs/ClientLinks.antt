-- The last link of a client that is written on.
use Rattle.std.proofs.Common.{◌≡◌, ℕ, ◌-◌, List, [], ◌∷◌, length, Result, Ok, Err, OnOk, ap, ◌∙◌, arith}
use Rattle.std.specs.Prelude.{slice_set, slice_index_or}
use Rattle.ra_base.specs.declared.event.Side.TheVariants.{B}
use Rattle.ra_base.specs.declared.memory.NoMemory.{NoMemory}
use Rattle.ra_model.specs.Links.{Link, written_to}
use Rattle.ra_grand_clients.specs.ClientStates.{put_on_last}
use Rattle.ra_grand_runs.specs.Lasts.{with_last}
use Rattle.ra_grand_runs.proofs.LastLemmas.{at_end_of}

set_last : (links : List Link) (n : ℕ) (d : Link) (f : Link → Link) → n ≡ length links → (n ≡ 0 → ⊥)
    → slice_set links (n - 1) (f (slice_index_or links (n - 1) d)) ≡ with_last f links
set_last [] n d f is some = absurd (some is)
set_last (x ∷ xs) n d f is some =
    let at : n - 1 ≡ length xs = omega (arith, is) in
    ap (λ k. slice_set (x ∷ xs) k (f (slice_index_or (x ∷ xs) k d))) at ∙ at_end_of f x d xs

pub last_written : (links : List Link) (n : ℕ) (bytes : List ℕ) (d before after : Link) (r : Result (Unit {0}) NoMemory) → n ≡ length links → (n ≡ 0 → ⊥)
    → before ≡ slice_index_or links (n - 1) d → OnOk r (after ≡ written_to B bytes before) → OnOk r (slice_set links (n - 1) after ≡ put_on_last bytes links)
last_written links n bytes d before after (Err fault) is some at written = written
last_written links n bytes d before after (Ok u) is some at written =
    ap (λ l. slice_set links (n - 1) l) (written ∙ ap (λ l. written_to B bytes l) at) ∙ set_last links n d (written_to B bytes) is some
