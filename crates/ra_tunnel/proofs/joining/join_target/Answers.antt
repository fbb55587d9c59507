use Rattle.std.proofs.Common.{refl, ◌∙◌, arith}
use Rattle.ra_tunnel.proofs.JoinLemmas.{rose_line, same_end, reaches_at}
use Rattle.ra_tunnel.specs.Pipes.{side}
use Rattle.ra_tunnel.proofs.joining.join_target.Goals as goal

pub returns-in-Err-clause-none : goal.returns-in-Err-clause-none
returns-in-Err-clause-none g c = λ _. (refl, c.in-Err.ensures.cause.failed, c.in-Err.ensures.keeps, c.in-Err.ensures.line)

pub returns-in-Err-clause-reached : goal.returns-in-Err-clause-reached
returns-in-Err-clause-reached g c = λ end e. absurd cc

pub returns-in-Err-clause-client_fault : goal.returns-in-Err-clause-client_fault
returns-in-Err-clause-client_fault g c = λ e. absurd cc

pub returns-in-Err-clause-target_fault : goal.returns-in-Err-clause-target_fault
returns-in-Err-clause-target_fault g c = λ e. absurd cc

pub returns-in-Err-clause-room : goal.returns-in-Err-clause-room
returns-in-Err-clause-room g c = c.in-Err.ensures.room

pub returns-in-Ok-clause-none : goal.returns-in-Ok-clause-none
returns-in-Ok-clause-none g c = λ e. absurd cc

pub returns-in-Ok-clause-reached : goal.returns-in-Ok-clause-reached
returns-in-Ok-clause-reached g c = λ end e.
    let k = c.in-Ok.ensures in
    let back = c.give_back.ensures in
    reaches_at (λ line. side (g.D.Line.Link.incoming line) (g.D.Line.Link.sent line) (g.D.Line.Link.faults line)) _ _ _ _ c.join-end.result end
    c.args.turns c.args.ok.now c.args.rest.now _ _ (same_end c.join-end.result end e)
    (record {
      line = c.in-Ok.line;
      back = c.join-end.new.target;
      taken = λ told is. let t = k.line told is in (t.0, t.1, back.keeps ∙ t.2);
      fresh = λ told is. k.fresh told is;
      kept = λ told is. back.kept told (k.keeps ∙ is);
      joins = c.join-end.ensures;
    })

pub returns-in-Ok-clause-client_fault : goal.returns-in-Ok-clause-client_fault
returns-in-Ok-clause-client_fault g c = λ e. c.join-end.ensures.client_fault (same_end c.join-end.result _ e)

pub returns-in-Ok-clause-target_fault : goal.returns-in-Ok-clause-target_fault
returns-in-Ok-clause-target_fault g c = λ e.
    let rose = c.join-end.ensures.target_fault (same_end c.join-end.result _ e) in
    let same = c.in-Ok.ensures.line_faults in
    rose_line _ _ _ _ _ same c.give_back.ensures.line_faults rose

pub returns-in-Ok-clause-room : goal.returns-in-Ok-clause-room
returns-in-Ok-clause-room g c =
    let more = c.in-Ok.ensures.room in
    let less = c.give_back.ensures.room in
    omega arith
