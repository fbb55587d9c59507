use Rattle.std.proofs.Common.{◌-◌}
use Rattle.ra_endpoint_commands.specs.Receive.{input_limit}
use Rattle.ra_endpoint_commands.proofs.Receiving.{IsCounting}
use Rattle.ra_endpoint_commands.proofs.receive.count_rest.Given as goal

abbrev pub invariant-pieces : goal.invariant-pieces
invariant-pieces g l =
    IsCounting (g.S.Source.left l.fn.source) (g.K.Sink.taken l.fn.sink) (g.S.Source.left l.source) (g.K.Sink.taken l.sink) l.fn.heard l.fn.rest l.fn.fed l.rest l.fed
    (g.S.Source.faults l.fn.source) (g.S.Source.faults l.source) (g.K.Sink.faults l.fn.sink) (g.K.Sink.faults l.sink)

abbrev pub decreases-pieces : goal.decreases-pieces
decreases-pieces g l = input_limit - l.fed
