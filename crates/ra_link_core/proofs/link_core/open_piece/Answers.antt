use Rattle.std.proofs.Common.{ℕ, List, ◌++◌, sym, ap, ◌∙◌}
use Rattle.ra_link_core.specs.Cores.{base_of}
use Rattle.ra_link_core.proofs.PieceLemmas.{piece_waits, unheld_stands, opened_as, asks_going, asks_happens, drawn_later, asks_serves, core_of_step, opening_ends_so, seat_free, seat_past, seat_done}
use Rattle.ra_link_core.proofs.CutLemmas.{counts_so, not_cut, cut_or_not, held_unread}
use Rattle.ra_opening.specs.Openings.{Grounds, grounds_of, opened}
use Rattle.ra_link_core.proofs.link_core.open_piece.Goals as goal

pub returns-in-Waits-clause-made : goal.returns-in-Waits-clause-made
returns-in-Waits-clause-made g c = λ draw head text before s is unheld x.
    let grounds : Grounds = grounds_of c.args.settings.now.shake (g.G.Signer.signature_of c.args.signer.now) (g.G.Signer.counts c.args.signer.now) draw in
    let stood = unheld_stands c.args.opening grounds head text before (g.E.Entropy.draw c.args.entropy.now) (g.H.Hub.stands c.args.hub.now) (g.J.JobSink.told c.args.jobs.now) c.args.out.now.items s x unheld in
    let opens = c.in-Waits.ensures.made draw head text before is stood in
    let counts = counts_so c.piece.new.self.phase c.piece.new.self.reader c.args.opening grounds head text c.args.piece.now before
    (g.E.Entropy.draw c.args.entropy.now) (g.E.Entropy.draw c.piece.new.entropy) c.args.out.now.items c.piece.new.out.items is stood unheld opens c.in-Waits.ensures.framing c.in-Waits.ensures.once in
    piece_waits c.args.opening c.piece.new.self grounds head text c.args.piece.now before (g.E.Entropy.draw c.args.entropy.now) (g.E.Entropy.draw c.piece.new.entropy)
    (g.H.Hub.stands c.args.hub.now) (g.J.JobSink.told c.args.jobs.now) c.args.out.now.items c.piece.new.out.items c.args.now s x counts opens

pub returns-in-Ask-clause-made : goal.returns-in-Ask-clause-made
returns-in-Ask-clause-made g c = λ draw head text before s is unheld x.
    let grounds : Grounds = grounds_of c.args.settings.now.shake (g.G.Signer.signature_of c.args.signer.now) (g.G.Signer.counts c.args.signer.now) draw in
    let stood = unheld_stands c.args.opening grounds head text before (g.E.Entropy.draw c.args.entropy.now) (g.H.Hub.stands c.args.hub.now) (g.J.JobSink.told c.args.jobs.now) c.args.out.now.items s x unheld in
    let a = c.in-Ask.ensures.made draw head text before is stood in
    let counts = not_cut c.args.opening grounds head text c.args.piece.now before (g.E.Entropy.draw c.args.entropy.now) c.args.out.now.items is stood unheld c.in-Ask.ensures.framing in
    let o = opened grounds head (text ++ c.args.piece.now) in
    let going = asks_going c.args.opening grounds head text (text ++ c.args.piece.now) before (g.E.Entropy.draw c.args.entropy.now) (g.E.Entropy.draw c.piece.new.entropy)
    (g.H.Hub.stands c.args.hub.now) (g.J.JobSink.told c.args.jobs.now) c.args.out.now.items c.piece.new.out.items c.in-Ask.request c.piece.new.self.reader.unread s x a in
    let serves = asks_serves c.args.opening grounds head text c.args.piece.now before (g.E.Entropy.draw c.args.entropy.now) (g.E.Entropy.draw c.piece.new.entropy)
    (g.H.Hub.stands c.args.hub.now) (g.J.JobSink.told c.args.jobs.now) c.args.out.now.items c.piece.new.out.items c.in-Ask.request c.piece.new.self.reader.unread c.args.now s x counts a in
    let later = drawn_later c.args.opening grounds head text c.args.piece.now before (g.E.Entropy.draw c.args.entropy.now) (g.H.Hub.stands c.args.hub.now) (g.J.JobSink.told c.args.jobs.now) c.args.out.now.items s x in
    let made = rw c.unread.ensures at (c.ask.ensures.made a.place (base_of grounds before (g.E.Entropy.draw c.piece.new.entropy)) s (opened_as o s) going (asks_happens o s later)) in
    let core = core_of_step c.ask.result grounds head _ before _ _ _ _ s _ c.ask.ensures.seated made in
    rw c.after_step.ensures (rw (sym serves) core)

pub returns-in-End-clause-made : goal.returns-in-End-clause-made
returns-in-End-clause-made g c = λ draw head text before s is unheld x.
    let grounds : Grounds = grounds_of c.args.settings.now.shake (g.G.Signer.signature_of c.args.signer.now) (g.G.Signer.counts c.args.signer.now) draw in
    let stood = unheld_stands c.args.opening grounds head text before (g.E.Entropy.draw c.args.entropy.now) (g.H.Hub.stands c.args.hub.now) (g.J.JobSink.told c.args.jobs.now) c.args.out.now.items s x unheld in
    let ends = c.in-End.ensures.made draw head text before is stood in
    let cut = cut_or_not c.args.opening grounds head text c.args.piece.now before (g.E.Entropy.draw c.args.entropy.now) c.args.out.now.items is stood unheld in
    rw c.opening_end.ensures.value
    (opening_ends_so c.in-End.end c.args.opening grounds head text c.args.piece.now before (g.E.Entropy.draw c.args.entropy.now) (g.E.Entropy.draw c.piece.new.entropy)
    (g.H.Hub.stands c.args.hub.now) (g.J.JobSink.told c.args.jobs.now) c.args.out.now.items c.piece.new.out.items c.args.now s x unheld cut c.in-End.ensures.framing c.piece.ensures.draws ends)

pub returns-in-Waits-clause-unread : goal.returns-in-Waits-clause-unread
returns-in-Waits-clause-unread g c = λ draw head text before s is unheld x.
    let grounds : Grounds = grounds_of c.args.settings.now.shake (g.G.Signer.signature_of c.args.signer.now) (g.G.Signer.counts c.args.signer.now) draw in
    let stood = unheld_stands c.args.opening grounds head text before (g.E.Entropy.draw c.args.entropy.now) (g.H.Hub.stands c.args.hub.now) (g.J.JobSink.told c.args.jobs.now) c.args.out.now.items s x unheld in
    let opens = c.in-Waits.ensures.made draw head text before is stood in
    let counts = counts_so c.piece.new.self.phase c.piece.new.self.reader c.args.opening grounds head text c.args.piece.now before
    (g.E.Entropy.draw c.args.entropy.now) (g.E.Entropy.draw c.piece.new.entropy) c.args.out.now.items c.piece.new.out.items is stood unheld opens c.in-Waits.ensures.framing c.in-Waits.ensures.once in
    λ held.
    held_unread c.piece.new.self.phase grounds head (text ++ c.args.piece.now) before (g.E.Entropy.draw c.piece.new.entropy) c.piece.new.self.reader c.piece.new.out.items opens held
    ∙ ap (λ (l : List ℕ). l ++ c.piece.new.self.reader.unread) (sym counts)

pub returns-in-Ask-clause-once : goal.returns-in-Ask-clause-once
returns-in-Ask-clause-once g c = λ shakes. rw c.after_step.ensures (seat_free c.ask.result.seat c.ask.result.end)

pub returns-in-Ask-clause-unread : goal.returns-in-Ask-clause-unread
returns-in-Ask-clause-unread g c = λ draw head text before s is unheld x. rw c.after_step.ensures (seat_past c.ask.result.seat c.ask.result.end _)

pub returns-in-Ask-clause-done : goal.returns-in-Ask-clause-done
returns-in-Ask-clause-done g c = λ some. rw c.after_step.ensures (seat_done c.ask.result.seat c.ask.result.end (rw c.after_step.ensures at some))
