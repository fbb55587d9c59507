use Rattle.ra_opening.specs.Openings.{Grounds, grounds_of}
use Rattle.ra_link_core.specs.Cores.{base_of}
use Rattle.ra_link_core.proofs.GrowLemmas.{happens_refl}
use Rattle.ra_link_core.proofs.PieceLemmas.{piece_seated, core_of_step, seat_done}
use Rattle.ra_link_core.proofs.link_core.take_piece.Goals as goal

pub returns-in-Seated-clause-made : goal.returns-in-Seated-clause-made
returns-in-Seated-clause-made g c = λ draw head text before s is unheld stands.
    let x = rw c.in-Seated.is at stands in
    let grounds : Grounds = grounds_of c.args.settings.now.shake (g.G.Signer.signature_of c.args.signer.now) (g.G.Signer.counts c.args.signer.now) draw in
    let made = c.serve_turns.ensures.made (base_of grounds before (g.E.Entropy.draw c.args.entropy.now)) s s x (happens_refl s) in
    let served = piece_seated grounds head text (record { bytes = c.args.piece.now; now = c.args.now }) c.in-Seated.seat s x.seat_is x.end_is in
    let core = core_of_step c.serve_turns.result grounds head _ before _ _ _ _ s _ c.serve_turns.ensures.seated made in
    rw c.after_step.ensures (rw served core)

pub returns-in-Opening-clause-framing : goal.returns-in-Opening-clause-framing
returns-in-Opening-clause-framing g c = rw c.in-Opening.is c.open_piece.ensures.framing

pub returns-in-Seated-clause-done : goal.returns-in-Seated-clause-done
returns-in-Seated-clause-done g c = λ some. rw c.after_step.ensures (seat_done c.serve_turns.result.seat c.serve_turns.result.end (rw c.after_step.ensures at some))
