use Rattle.std.proofs.Common.{◌≡◌, ◌<◌, ◌≤◌, ℕ, false, List, length}
use Rattle.ra_opening.specs.Openings.{grounds_of}
use Rattle.ra_link_core.specs.LinkRuns.{Serving}
use Rattle.ra_link_core.specs.Makes.{Holds, Balance}
use Rattle.ra_link_core.specs.Cores.{NotHeld, seat_in}
use Rattle.ra_link.specs.Served.{Starts, SoFar, raised}
use Rattle.ra_link.proofs.serve.serve_pieces.Given as goal

abbrev pub invariant-loop-turn : goal.invariant-loop-turn
invariant-loop-turn g l = Holds (g.H.Hub.seats l.hub) (seat_in l.core)
    × Balance (seat_in l.fn.core) (g.H.Hub.seats l.fn.hub) (seat_in l.core) (g.H.Hub.seats l.hub)
    × NotHeld l.core
    × (g.L.Link.faults l.fn.link ≤ g.L.Link.faults l.link)
    × (g.H.Hub.keep_faults l.fn.hub ≤ g.H.Hub.keep_faults l.hub)
    × ((g.L.Link.incoming l.fn.link).ended ≡ false → (g.L.Link.incoming l.link).ended ≡ false)
    × ((g.L.Link.incoming l.link).receives ≡ raised l.turn (g.L.Link.incoming l.fn.link).receives)
    × ((draw : ℕ → List ℕ) (first : List ℕ) (start : Serving) (moments : ℕ → ℕ)
    → let grounds = grounds_of l.settings.shake (g.G.Signer.signature_of l.signer) (g.G.Signer.counts l.signer) draw in
    Starts grounds start first moments (g.L.Link.sent l.fn.link) l.fn.core (g.E.Entropy.draw l.fn.entropy) (g.H.Hub.stands l.fn.hub) (g.J.JobSink.told l.fn.jobs) (g.C.Clock.tells l.fn.clock) (g.C.Clock.moment l.fn.clock)
    → SoFar l.turn grounds start first moments (g.L.Link.incoming l.fn.link) (g.L.Link.incoming l.link) (g.L.Link.sent l.link) l.core (g.E.Entropy.draw l.entropy) (g.H.Hub.stands l.hub) (g.J.JobSink.told l.jobs) (g.C.Clock.tells l.clock) (g.C.Clock.moment l.clock) l.now)
    × (0 < l.turn → (g.L.Link.incoming l.link).room ≡ length l.into)
