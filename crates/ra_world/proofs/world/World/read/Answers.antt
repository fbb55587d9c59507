use Rattle.std.proofs.Common.{◌≡◌, ◌∙◌, refl, ap, Err, Ok, length, arith}
use Rattle.std.proofs.lemmas.List.{with_items_is}
use Rattle.std.proofs.lemmas.Result.{err_from_is_err_and}
use Rattle.ra_world.proofs.WorldEvents.{read_does, read_refused, has_unread}
use Rattle.ra_world.proofs.world.World.read.Goals as goal

pub read_link-requires : goal.read_link-requires
read_link-requires c =
    let chosen = rw c.deref.ensures.value at c.in_ok-piece.ensures.found in
    rw c.deref_mut.ensures.value (has_unread _ c.args.side c.args.count c.args.link _ chosen.0 chosen.1)

pub returns-in_err-piece-clause-does : goal.returns-in_err-piece-clause-does
returns-in_err-piece-clause-does c =
    let p = err_from_is_err_and c.from_residual.result c.from_residual.ensures.1 in
    rw (p.1, p.2, ← c.self.view_is) (read_refused c.args.side c.args.link c.args.count _ _ (rw c.deref.ensures.value at c.in_err-piece.ensures.refused))

pub returns-in_err-effect-clause-does : goal.returns-in_err-effect-clause-does
returns-in_err-effect-clause-does c =
    let p = err_from_is_err_and c.from_residual-in_err-effect.result c.from_residual-in_err-effect.ensures.1 in
    let chosen = rw c.deref.ensures.value at c.in_ok-piece.ensures.found in
    rw (p.1, p.2, ← c.self.view_is)
    (read_does c.args.side c.args.link c.args.count _ chosen.0 _ _ _ (Err c.in_err-effect.field-0.0) chosen.1 c.in_err-effect.ensures.does c.in_err-effect.ensures.other refl)

pub returns-clause-does : goal.returns-clause-does
returns-clause-does c =
    let chosen = rw c.deref.ensures.value at c.in_ok-piece.ensures.found in
    let same : length c.read_link.new.links ≡ c.self.inside.links.len = omega (arith, ap length c.deref_mut.ensures.value, c.self.inside.links.ok.0) in
    rw (← c.self.view_is)
    (read_does c.args.side c.args.link c.args.count _ chosen.0 _ _ _ (Ok c.in_ok-effect.effect) chosen.1 c.in_ok-effect.ensures.does c.in_ok-effect.ensures.other (with_items_is c.self.inside.links c.read_link.new.links same ∙ (rw c.deref_mut.ensures.value at c.read_link.ensures) chosen.0 chosen.1.found))
