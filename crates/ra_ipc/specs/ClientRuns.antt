-- A channel client alone, whatever its peer sends: the steps of a pair that are its own, and messages that it hears from whomever. The
-- server of the pair says nothing.
use Rattle.std.specs.Prelude.{◌≡◌, ℕ, ◌≤◌, List, [], ◌∷◌, ◌==◌}
use Rattle.ra_values.specs.Tree.{Tree}
use Rattle.ra_ipc.specs.Messages.{Message, number_of}
use Rattle.ra_ipc.specs.ChannelPairs as pairs
use Rattle.ra_ipc.specs.ChannelPairs.{Pair, Outcome, start, after_client_hears}
use Rattle.ra_ipc.specs.ChannelLaws.{settled_as, outcome}

pub data ClientStep : Type 0 where
  call : (channel name : List ℕ) (arg : Tree) → ClientStep
  cancel : (id : ℕ) → ClientStep
  listen : (channel event : List ℕ) (arg : Tree) → ClientStep
  dispose : (id : ℕ) → ClientStep
  hear : (m : Message) → ClientStep

abbrev pub happens : Pair → ClientStep → Pair
happens p (call channel name arg) = pairs.happens p (pairs.call channel name arg)
happens p (cancel id) = pairs.happens p (pairs.cancel id)
happens p (listen channel event arg) = pairs.happens p (pairs.listen channel event arg)
happens p (dispose id) = pairs.happens p (pairs.dispose id)
happens p (hear m) = after_client_hears p (m ∷ [])

abbrev pub run : List ClientStep → Pair → Pair
run [] p = p
run (e ∷ es) p = run es (happens p e)

-- A call settles at most once,
abbrev pub SettlesOnceAlone : Type 0
SettlesOnceAlone = (steps : List ClientStep) (i : ℕ) → number_of (λ (s : ℕ × Outcome). s.0 == i) (run steps start).settled ≤ 1

-- and by its own cancel or the first response behind it.
abbrev pub SettlesByItsOwnAlone : Type 0
SettlesByItsOwnAlone = (steps : List ClientStep) (i : ℕ) → settled_as i (run steps start).settled ≡ outcome i (run steps start).entries
