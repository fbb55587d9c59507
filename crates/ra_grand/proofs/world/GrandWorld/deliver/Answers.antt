use Rattle.std.proofs.Common.{ℕ, None, Some, refl, sym, subst}
use Rattle.ra_link_core.specs.Makes.{outcome_of}
use Rattle.ra_grand_server.specs.Pieces.{LeavesAt}
use Rattle.ra_grand_server.proofs.PieceSteps.{ends_so}
use Rattle.ra_grand.proofs.ReceiveSteps.{delivers_goes, delivers_ends}
use Rattle.ra_grand.proofs.world.GrandWorld.deliver.Goals as goal

pub returns-in-None : goal.returns-in-None
returns-in-None c =
    let receives = rw c.as_slice.ensures at c.in-None.ensures.receives in
    delivers_goes c.args.self.now c.receive.new.self c.args.spot (outcome_of None) c.args.bytes refl c.requires.there c.receive.ensures.moment receives

pub returns-in-Some : goal.returns-in-Some
returns-in-Some c =
    let receives = rw c.as_slice.ensures at c.in-Some.ensures.receives in
    let leaves = subst (λ (n : ℕ). LeavesAt c.args.spot.served n c.receive.new.self.server c.leave.new.self) c.receive.ensures.moment c.leave.ensures in
    delivers_ends c.args.self.now c.receive.new.self _ c.args.spot (outcome_of (Some c.in-Some.end)) c.args.bytes (sym (ends_so (Some c.in-Some.end))) c.requires.there c.receive.ensures.moment receives leaves refl
