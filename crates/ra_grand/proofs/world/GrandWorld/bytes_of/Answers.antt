use Rattle.std.proofs.Common.{refl, sym, ◌∙◌}
use Rattle.std.proofs.lemmas.Result.{err_from_is_err_and}
use Rattle.ra_grand.proofs.SpotLemmas.{still_there, still_has, on_ok, chosen_fault, chosen_bytes}
use Rattle.ra_grand.proofs.world.GrandWorld.bytes_of.Goals as goal

pub returns-then-is_err-clause-there : goal.returns-then-is_err-clause-there
returns-then-is_err-clause-there c = still_there c.args.self.now _ c.args.spot c.flush.ensures.links c.requires

pub readable-there-requires : goal.readable-there-requires
readable-there-requires c = still_has c.args.self.now.clients c.flush.new.self c.args.spot.client c.args.spot.link c.flush.ensures.links c.requires.link

pub returns-in_err-n-clause-chosen : goal.returns-in_err-n-clause-chosen
returns-in_err-n-clause-chosen c =
    let flushed = on_ok c.flush.result _ c.flush.ensures.done (sym c.is_err.ensures.value ∙ c.if-is_err.false) in
    let p = err_from_is_err_and c.from_residual.result c.from_residual.ensures.1 in
    λ w f stands found.
    rw (p.1, p.2) (chosen_fault _ _ w f c.args.spot c.args.self.now c.args.side c.args.count c.readable-there.result.now c.in_err-n.field-0.0 refl flushed c.readable-there.ensures c.in_err-n.ensures.refused stands found)

pub returns-in_err-n-clause-there : goal.returns-in_err-n-clause-there
returns-in_err-n-clause-there c = still_there c.args.self.now _ c.args.spot c.flush.ensures.links c.requires

pub returns-in-Ok-clause-chosen : goal.returns-in-Ok-clause-chosen
returns-in-Ok-clause-chosen c =
    let flushed = on_ok c.flush.result _ c.flush.ensures.done (sym c.is_err.ensures.value ∙ c.if-is_err.false) in
    λ w f stands found.
    chosen_bytes _ _ w f c.args.spot c.args.self.now c.args.side c.args.count c.readable-there.result.now c.in-Ok.bytes c.in_ok-n.n refl flushed c.readable-there.ensures c.in_ok-n.ensures.refused
    c.in_ok-n.ensures.amount c.in-Ok.ensures stands found

pub returns-in-Ok-clause-there : goal.returns-in-Ok-clause-there
returns-in-Ok-clause-there c = still_there c.args.self.now _ c.args.spot c.flush.ensures.links c.requires

pub returns-in-Err-clause-there : goal.returns-in-Err-clause-there
returns-in-Err-clause-there c = still_there c.args.self.now _ c.args.spot c.flush.ensures.links c.requires
