-- What a router does at a call.
use Rattle.std.specs.Prelude.{◌≡◌, ℕ, ℤ, List, [], ◌∷◌, ◌++◌}
use Rattle.ra_router.specs.declared.acts.Acts.{Acts}
use Rattle.ra_router.specs.declared.acts.Acts.TheVariants.{Nothing, One, Two}
use Rattle.ra_router.specs.declared.ask.Ask.{Ask}
use Rattle.ra_router.specs.declared.ask.Said.{Said}
use Rattle.ra_router.specs.declared.ask.Step.{Step}
use Rattle.ra_router.specs.declared.ask.Told.{Told}
use Rattle.ra_router.specs.declared.router.Router.{Router}
use Rattle.ra_router.specs.Hops.{told}
use Rattle.ra_router.specs.Standing.{Windows, Outs, Stands}

abbrev pub call : List ℕ → ℤ → Ask → Step
call from id ask = record { from = from; id = id; ask = ask }

abbrev pub told_by : Acts → List Told
told_by Nothing = []
told_by (One t) = t ∷ []
told_by (Two first second) = first ∷ second ∷ []

abbrev pub tells : List ℕ → ℤ → Said → Told
tells key id said = record { key = key; id = id; said = said }

abbrev pub alone : List ℕ → ℤ → Said → Acts
alone key id said = One (tells key id said)

-- the router stands for these steps
abbrev pub StandsFor : Router → List Step → Type 0
StandsFor router past = Stands router.made router.windows router.out past

-- at a step after these, it tells what it has to, and then stands for one step more
pub record Did (acts : Acts) (made : ℕ) (windows : Windows) (out : Outs) (past : List Step) (x : Step) : Type 0 where
  pub tells : told_by acts ≡ told past x
  pub after : Stands made windows out (past ++ x ∷ [])
