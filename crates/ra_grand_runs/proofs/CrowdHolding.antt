-- What holds of each client of a world, where one of them changes or another one comes.
use Rattle.std.proofs.Common.{◌≡◌, ℕ, zero, suc, Option, Some, List, [], ◌∷◌, ◌++◌, subst}
use Rattle.std.specs.Prelude.{slice_set, slice_get}
use Rattle.ra_grand_runs.specs.GrandClients.{Client}
use Rattle.ra_grand_runs.specs.Reached.{ClientHolds, ClientsHold}

pub holds_one : (cs : List Client) (n : ℕ) (c : Client) → ClientsHold cs → slice_get cs n ≡ Some c → ClientHolds c
holds_one [] n c hold is = absurd cc
holds_one (x ∷ cs) zero c hold is = subst (λ (y : Client). ClientHolds y) (there_is is) hold.0
  where
    there_is : {x c : Client} → ◌≡◌ {A = Option Client} (Some x) (Some c) → x ≡ c
    there_is e = cc
holds_one (x ∷ cs) (suc n) c hold is = holds_one cs n c hold.1 is

pub holds_set : (cs : List Client) (n : ℕ) (c : Client) → ClientsHold cs → ClientHolds c → ClientsHold (slice_set cs n c)
holds_set [] n c hold is = tt
holds_set (x ∷ cs) zero c hold is = (is, hold.1)
holds_set (x ∷ cs) (suc n) c hold is = (hold.0, holds_set cs n c hold.1 is)

pub holds_more : (cs : List Client) (c : Client) → ClientsHold cs → ClientHolds c → ClientsHold (cs ++ c ∷ [])
holds_more [] c hold is = (is, tt)
holds_more (x ∷ cs) c hold is = (hold.0, holds_more cs c hold.1 is)
