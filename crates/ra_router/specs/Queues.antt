-- What waits at a window after a list of steps.
use Rattle.std.specs.Prelude.{ℕ, List, length, drop}
use Rattle.ra_router.specs.declared.ask.Step.{Step}
use Rattle.ra_router.specs.Hops.{Placed, hops_for, nexts_of}

-- the calls of the window that took no hop
abbrev pub waiting : List ℕ → List Step → List Placed
waiting window steps = drop (length (hops_for window steps)) (nexts_of window steps)

-- the hops for the window that no call took
abbrev pub held : List ℕ → List Step → List Placed
held window steps = drop (length (nexts_of window steps)) (hops_for window steps)
