use Rattle.std.proofs.Common.{◌≡◌, ◌∙◌, ap, refl, length, arith}
use Rattle.std.proofs.lemmas.List.{with_items_is}
use Rattle.std.proofs.lemmas.Result.{err_from_is_err_and}
use Rattle.ra_world.proofs.WorldEvents.{cut_answers, cut_refused}
use Rattle.ra_world.proofs.world.World.cut.Goals as goal

pub returns-in_err-cut_link-clause-does : goal.returns-in_err-cut_link-clause-does
returns-in_err-cut_link-clause-does c =
    let p = err_from_is_err_and c.from_residual.result c.from_residual.ensures.1 in
    rw (p.1, p.2, ← c.self.view_is) (cut_refused c.args.link _ _ (rw c.deref_mut.ensures.value at c.in_err-cut_link.ensures.refused))

pub returns-clause-does : goal.returns-clause-does
returns-clause-does c =
    let same : length c.cut_link.new.links ≡ c.self.inside.links.len = omega (arith, ap length c.deref_mut.ensures.value, c.self.inside.links.ok.0) in
    rw (← c.self.view_is)
    (cut_answers c.args.link _ _ _ refl (rw c.deref_mut.ensures.value at c.in_ok-cut_link.ensures.refused) (λ l found. with_items_is c.self.inside.links c.cut_link.new.links same ∙ (rw c.deref_mut.ensures.value at c.in_ok-cut_link.ensures.ok) l found))
