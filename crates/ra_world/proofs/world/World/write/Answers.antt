use Rattle.std.proofs.Common.{◌≡◌, ◌∙◌, ap, length, arith}
use Rattle.std.proofs.lemmas.Result.{err_from_is_err_and}
use Rattle.std.proofs.lemmas.List.{with_items_is}
use Rattle.ra_proto.specs.Shown.{shown_of}
use Rattle.ra_world.specs.WorldStates.{PeerState}
use Rattle.ra_world.proofs.WorldEvents.{write_answers, write_refused}
use Rattle.ra_world.proofs.world.World.write.Goals as goal

pub returns-in_err-n-clause-does : goal.returns-in_err-n-clause-does
returns-in_err-n-clause-does c =
    let p = err_from_is_err_and c.from_residual.result c.from_residual.ensures.1 in
    let shows = c.out-out.ensures ∙ ap (λ (x : PeerState). shown_of x.endpoint) (c.behind-self.view_is ∙ c.at.ensures) in
    rw (p.1, p.2, ← c.self.view_is) (write_refused c.args.side c.args.count _ c.out-out.result.now shows _ c.in_err-n.ensures.refused)

pub returns-clause-does : goal.returns-clause-does
returns-clause-does c =
    let peer_is = c.behind-self.view_is ∙ c.at.ensures in
    let shows = c.out-out.ensures ∙ ap (λ (x : PeerState). shown_of x.endpoint) peer_is in
    let present = c.epoch-present.ensures ∙ ap (λ (x : PeerState). x.endpoint.epoch) peer_is in
    let same : length c.write_link.new.links ≡ c.self.inside.links.len = omega (arith, ap length c.deref_mut.ensures.value, c.self.inside.links.ok.0) in
    let more = with_items_is c.self.inside.links c.write_link.new.links same ∙ (rw (c.deref_mut.ensures.value, c.as_slice.ensures) at c.in_ok-write_link.ensures.ok) in
    rw (← c.self.view_is)
    (write_answers c.args.side c.args.count _ c.out-out.result.now shows _ _ c.in_ok-bytes.bytes c.in_ok-n.n c.epoch-present.result c.in_ok-n.ensures.refused c.in_ok-n.ensures.amount c.in_ok-bytes.ensures present more c.wrote.ensures.does c.wrote.ensures.other)
