use Rattle.std.proofs.Common.{ap, arith}
use Rattle.ra_model.specs.FrameKinds.{frame_kind}
use Rattle.ra_model.specs.FrameKinds.FrameKind.{Control, Disconnect, ReplayRequest, Pause, Resume, Other}
use Rattle.ra_model.proofs.StandsTaking.{other_kind}
use Rattle.ra_proto.proofs.Applied.{applied_kind, handed_kind}
use Rattle.ra_proto.proofs.endpoint.Endpoint.apply.Goals as goal

pub returns-in-2-clause-stands : goal.returns-in-2-clause-stands
returns-in-2-clause-stands c =
    rw (c.pass.ensures.passed) (applied_kind Control c.args.frame c.args.now c.args.self.now (ap frame_kind c.in-2.is) c.pass.ensures.consistent)

pub returns-in-2-clause-handed : goal.returns-in-2-clause-handed
returns-in-2-clause-handed c = handed_kind Control c.args.frame c.args.self.now (ap frame_kind c.in-2.is)

pub returns-in-5-clause-handed : goal.returns-in-5-clause-handed
returns-in-5-clause-handed c = handed_kind Disconnect c.args.frame c.args.self.now (ap frame_kind c.in-5.is)

pub returns-in_ok-apply_replay_request-in-6-clause-handed : goal.returns-in_ok-apply_replay_request-in-6-clause-handed
returns-in_ok-apply_replay_request-in-6-clause-handed c = handed_kind ReplayRequest c.args.frame c.args.self.now (ap frame_kind c.in-6.is)

pub returns-in-7-clause-handed : goal.returns-in-7-clause-handed
returns-in-7-clause-handed c = handed_kind Pause c.args.frame c.args.self.now (ap frame_kind c.in-7.is)

pub returns-in-8-clause-handed : goal.returns-in-8-clause-handed
returns-in-8-clause-handed c = handed_kind Resume c.args.frame c.args.self.now (ap frame_kind c.in-8.is)

pub returns-in_default-clause-stands : goal.returns-in_default-clause-stands
returns-in_default-clause-stands c =
    rw (c.pass-in_default.ensures.passed)
    (applied_kind Other c.args.frame c.args.now c.args.self.now (other_kind c.args.frame.kind (omega arith) (omega arith) (omega arith) (omega arith) (omega arith) (omega arith)) c.pass-in_default.ensures.consistent)

pub returns-in_default-clause-handed : goal.returns-in_default-clause-handed
returns-in_default-clause-handed c =
    handed_kind Other c.args.frame c.args.self.now (other_kind c.args.frame.kind (omega arith) (omega arith) (omega arith) (omega arith) (omega arith) (omega arith))
