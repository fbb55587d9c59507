-- A link whose head asks for no framed stream does not wait to be framed.
use Rattle.std.proofs.Common.{◌≡◌, ℕ, true, false, Option, List, sym, ◌∙◌}
use Rattle.ra_upgrade.specs.declared.request_head.HeadFault.{HeadFault}
use Rattle.ra_upgrade.specs.declared.request_head.Upgrade.{Upgrade}
use Rattle.ra_items.specs.Heads.{Head}
use Rattle.ra_opening.specs.Openings.{Grounds}
use Rattle.ra_hub.specs.Hubs.{Hub}
use Rattle.ra_hub.specs.Jobs.{SeenJob}
use Rattle.ra_link_core.specs.LinkRuns.{Serving, asks_framing}
use Rattle.ra_link_core.specs.Cores.{CoreStands, NotHeld}
use Rattle.ra_link_core.specs.declared.phase.Phase.{Phase}
use Rattle.ra_link_core.specs.declared.phase.Phase.TheVariants as phases
use Rattle.ra_link_core.proofs.CutLemmas.{held_asks_in}

pub core_free : (phase : Phase) (g : Grounds) (head : Head Upgrade HeadFault) (text before : List ℕ) (next : ℕ → List ℕ) (stands : Hub → Type 0) (jobs : Option (List SeenJob)) (out : List ℕ) (s : Serving)
    → CoreStands phase g head text before next stands jobs out s → asks_framing head.says ≡ false → NotHeld phase
core_free (phases.Opening opening) g head text before next stands jobs out s x asks =
    λ held. apart (sym (held_asks_in opening.phase g head x.raw before next opening.reader out x.opens held) ∙ asks)
  where
    apart : true ≡ false → ⊥
    apart e = cc
core_free (phases.Seated seat) g head text before next stands jobs out s x asks = tt
core_free (phases.Ended seat) g head text before next stands jobs out s x asks = absurd x
core_free phases.Over g head text before next stands jobs out s x asks = absurd x
