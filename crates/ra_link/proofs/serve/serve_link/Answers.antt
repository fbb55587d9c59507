use Rattle.std.proofs.Common.{refl, sym}
use Rattle.ra_opening.specs.Openings.{Grounds, grounds_of}
use Rattle.ra_ports.specs.Causes.{Rose}
use Rattle.ra_link_core.specs.LinkRuns.{new_serving}
use Rattle.ra_link_core.specs.Cores.{seat_in}
use Rattle.ra_link.proofs.LoopLemmas.{served_left, not_served, new_starts}
use Rattle.ra_link.proofs.CompleteLemmas.{completes, kept_left}
use Rattle.ra_link.specs.Served.{link_outcome}
use Rattle.ra_link.specs.declared.ends.LinkEnd.TheVariants as ends
use Rattle.ra_link.proofs.serve.serve_link.Goals as goal

pub returns-in_default-clause-made : goal.returns-in_default-clause-made
returns-in_default-clause-made g c = λ first h js sent stands jobs told.
    let grounds : Grounds = grounds_of c.args.settings.now.shake (g.G.Signer.signature_of c.args.signer.now) (g.G.Signer.counts c.args.signer.now) (g.E.Entropy.draw c.args.entropy.now) in
    not_served grounds first h js (g.C.Clock.moment c.args.clock.now) c.args.turns (g.L.Link.incoming c.args.link.now) (g.L.Link.sent c.args.link.now) (g.H.Hub.stands c.args.hub.now)
    (g.J.JobSink.told c.args.jobs.now) (Rose (g.L.Link.faults c.args.link.now) (g.L.Link.faults c.args.link.now)) sent stands jobs

pub returns-in_default-clause-complete : goal.returns-in_default-clause-complete
returns-in_default-clause-complete g c = λ first h js sent stands jobs told whole all.
    let grounds : Grounds = grounds_of c.args.settings.now.shake (g.G.Signer.signature_of c.args.signer.now) (g.G.Signer.counts c.args.signer.now) (g.E.Entropy.draw c.args.entropy.now) in
    let served = returns-in_default-clause-made g c first h js sent stands jobs told in
    completes ends.NoMemory grounds (new_serving h js) first (g.C.Clock.moment c.args.clock.now) c.args.turns (g.L.Link.incoming c.args.link.now) (g.L.Link.incoming c.args.link.now)
    (g.L.Link.sent c.args.link.now) (g.H.Hub.stands c.args.hub.now) (g.J.JobSink.told c.args.jobs.now) (Rose (g.L.Link.faults c.args.link.now) (g.L.Link.faults c.args.link.now))
    ⊥ ⊥ served tt tt (λ no. no) (λ no. no)

pub returns-clause-made : goal.returns-clause-made
returns-clause-made g c = λ first h js sent stands jobs told.
    let grounds : Grounds = grounds_of c.args.settings.now.shake (g.G.Signer.signature_of c.args.signer.now) (g.G.Signer.counts c.args.signer.now) (g.E.Entropy.draw c.args.entropy.now) in
    let starts = new_starts grounds first h js (g.C.Clock.moment c.args.clock.now) (g.L.Link.sent c.args.link.now) c.new-core.result (g.E.Entropy.draw c.args.entropy.now) (g.H.Hub.stands c.args.hub.now)
    (g.J.JobSink.told c.args.jobs.now) (g.C.Clock.tells c.args.clock.now) c.new-core.ensures (λ n. refl) sent stands jobs told in
    let served = c.serve_pieces-served.ensures.made (g.E.Entropy.draw c.args.entropy.now) first (new_serving h js) (g.C.Clock.moment c.args.clock.now) starts in
    served_left c.serve_pieces-served.result.end grounds (new_serving h js) first (g.C.Clock.moment c.args.clock.now) c.args.turns (g.L.Link.incoming c.args.link.now)
    (g.L.Link.incoming c.serve_pieces-served.new.link) (g.L.Link.sent c.serve_pieces-served.new.link) (seat_in c.serve_pieces-served.new.core)
    (g.H.Hub.stands c.serve_pieces-served.new.hub) (g.H.Hub.stands c.leave.new.hub) (g.J.JobSink.told c.serve_pieces-served.new.jobs)
    (Rose (g.L.Link.faults c.args.link.now) (g.L.Link.faults c.serve_pieces-served.new.link)) c.serve_pieces-served.result.now c.leave.ensures.made served

pub returns-clause-complete : goal.returns-clause-complete
returns-clause-complete g c = λ first h js sent stands jobs told whole all.
    let grounds : Grounds = grounds_of c.args.settings.now.shake (g.G.Signer.signature_of c.args.signer.now) (g.G.Signer.counts c.args.signer.now) (g.E.Entropy.draw c.args.entropy.now) in
    let served = returns-clause-made g c first h js sent stands jobs told in
    completes c.serve_pieces-served.result.end grounds (new_serving h js) first (g.C.Clock.moment c.args.clock.now) c.args.turns (g.L.Link.incoming c.args.link.now)
    (g.L.Link.incoming c.serve_pieces-served.new.link) (g.L.Link.sent c.serve_pieces-served.new.link) (g.H.Hub.stands c.leave.new.hub) (g.J.JobSink.told c.serve_pieces-served.new.jobs)
    (Rose (g.L.Link.faults c.args.link.now) (g.L.Link.faults c.serve_pieces-served.new.link)) (Rose (g.L.Link.faults c.args.link.now) (g.L.Link.faults c.serve_pieces-served.new.link))
    (Rose (g.H.Hub.keep_faults c.args.hub.now) (g.H.Hub.keep_faults c.leave.new.hub)) served c.serve_pieces-served.ensures.cause (kept_left (link_outcome c.serve_pieces-served.result.end) _ _ _ (sym c.leave.ensures.kept) c.serve_pieces-served.ensures.kept) whole all
