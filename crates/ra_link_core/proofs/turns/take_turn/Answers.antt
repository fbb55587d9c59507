use Rattle.ra_link_core.proofs.GrowLemmas.{happens_more, grows_writes}
use Rattle.ra_link_core.proofs.TurnLemmas.{unwritten, written}
use Rattle.ra_link_core.specs.LinkRuns.{writes}
use Rattle.std.proofs.Common.{◌≡◌, ◌++◌, refl}
use Rattle.ra_link_core.proofs.turns.take_turn.Goals as goal

pub returns-in-Err-clause-made : goal.returns-in-Err-clause-made
returns-in-Err-clause-made g c = λ n base s v going grows.
    let put = rw c.same.ensures at c.put_job.ensures in
    rw c.no_memory.ensures (unwritten n c.args.turn c.args.seat c.args.now (g.H.Hub.stands c.args.hub.now) _ _ base _ _ s v going put c.in-Err.ensures.err grows)

pub returns-clause-made : goal.returns-clause-made
returns-clause-made g c = λ n base s v going grows.
    let put = rw c.same.ensures at c.put_job.ensures in
    let wrote : c.write.new.out.items ≡ c.args.out.now.items ++ c.args.turn.out = rw c.as_slice.ensures at c.in-Ok.ensures.ok in
    let going' = written c.args.turn.out _ (g.H.Hub.stands c.args.hub.now) _ _ base _ _ v going put wrote in
    c.after_turn.ensures.made n _ base c.write.new.out.items s (writes c.args.turn.out v) _ going' (happens_more s v (writes c.args.turn.out v) grows (grows_writes v c.args.turn.out v.welcome v.end)) refl
