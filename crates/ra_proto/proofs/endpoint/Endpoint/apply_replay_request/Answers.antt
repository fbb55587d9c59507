use Rattle.std.proofs.Common.{◌≡◌, ◌++◌, ◌-◌, ◌+◌, ◌&&◌, ltb, max, min, map, drop, length, sym, ap, ◌∙◌, subst, arith}
use Rattle.ra_model.specs.Frames.{joined}
use Rattle.ra_model.specs.FrameKinds.FrameKind.{ReplayRequest}
use Rattle.ra_model.specs.Timing.{watched}
use Rattle.ra_model.specs.Endpoints.{Endpoint as AbstractEndpoint, is_up, entry_frame, first_written}
use Rattle.ra_model.specs.Calls.{moment}
use Rattle.ra_model.specs.HeardPlaces.{applied}
use Rattle.ra_model.specs.EndpointStates.{EndpointState, IsConsistent, StandsFor, behind, entry_written}
use Rattle.ra_model.proofs.Consistent.{behind_drop, replayed_consistent}
use Rattle.ra_proto.specs.Passed.{upto}
use Rattle.ra_proto.proofs.Applied.{applied_kind}
use Rattle.ra_proto.proofs.Passing.{with_unwritten}
use Rattle.ra_proto.proofs.endpoint.Endpoint.apply_replay_request.Goals as goal

pub append_rest-requires-clause-n : goal.append_rest-requires-clause-n
append_rest-requires-clause-n c =
    let all : c.self.inside.acknowledged + length c.self.inside.queue.entries ≡ c.self.inside.sent = c.self.invariant.0.all in
    omega (arith, c.max-upto.ensures, c.min.ensures)

pub invariant_of-self-3 : goal.invariant_of-self-3
unfolding watched
invariant_of-self-3 c =
    let k = replayed_consistent c.self-2.inside.timing.latest _ c.self-2.invariant.0 in
    (rw (c.mark_written.ensures) (record { all = k.all; id = k.id; fits = k.fits; told = k.told }), rw (c.watched-self-inside.ensures) c.self-2.invariant.1, rw (c.watched-self-inside.ensures) c.self-2.invariant.2)

pub returns-clause-stands : goal.returns-clause-stands
returns-clause-stands c =
    let s : EndpointState = c.args.self.now in
    let whole : IsConsistent s = subst (λ (x : EndpointState). IsConsistent x) c.self.view_is c.self.invariant.0 in
    let front : drop (c.max-upto.result - c.self.inside.acknowledged) c.self.inside.queue.entries ≡ behind (max c.self.inside.acknowledged (min c.args.frame.now.ack c.self.inside.sent)) c.self.inside.queue.entries =
    sym (behind_drop (max c.self.inside.acknowledged (min c.args.frame.now.ack c.self.inside.sent)) c.self.inside.acknowledged c.self.inside.queue.entries (c.max-upto.result - c.self.inside.acknowledged) c.self.invariant.0.id (omega (arith, c.max-upto.ensures, c.min.ensures))) in
    let wrote : c.append_rest.new.out ≡ c.self.inside.unwritten ++ joined (map entry_frame (behind (max c.self.inside.acknowledged (min c.args.frame.now.ack c.self.inside.sent)) c.self.inside.queue.entries)) =
    rw (front) at c.in_ok-append_rest.ensures.ok in
    let is = c.self-2.view_is ∙ c.pass.ensures.passed
    ∙ with_unwritten c.args.frame.now.ack c.args.now (λ x. joined (map entry_frame (behind (upto c.args.frame.now.ack x) x.queue))) _ s _ c.self.view_is wrote in
    rw (c.watched-self-inside.ensures, c.waits.ensures, c.is_up.ensures, c.oldest_written.ensures, c.mark_written.ensures)
    (subst (λ (x : EndpointState). (e : AbstractEndpoint) → StandsFor s e → StandsFor (record x { queue = map (entry_written x.timing.latest) x.queue; timing = watched (is_up x.phase && ltb x.acknowledged x.sent) (first_written (map (entry_written x.timing.latest) x.queue)) x.timing.latest x.timing }) (applied (moment c.args.now e) c.args.frame.now e)) (sym is)
    (applied_kind ReplayRequest c.args.frame.now c.args.now s c.requires.kind whole))

pub returns-clause-unread : goal.returns-clause-unread
returns-clause-unread c = ap (λ (x : EndpointState). x.unread) (c.self-2.view_is ∙ c.pass.ensures.passed) ∙ ap (λ (x : EndpointState). x.unread) c.self.view_is

pub returns-clause-epoch : goal.returns-clause-epoch
returns-clause-epoch c = ap (λ (x : EndpointState). x.epoch) (c.self-2.view_is ∙ c.pass.ensures.passed) ∙ ap (λ (x : EndpointState). x.epoch) c.self.view_is
