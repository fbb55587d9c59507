use Rattle.ra_model.proofs.Stands.{new_stands}
use Rattle.ra_proto.proofs.endpoint.Endpoint.from_base.Goals as goal

pub returns : goal.returns
returns c = rw (c.new_timing.ensures, c.millis.ensures.value, c.new-3.ensures, c.new-2.ensures, c.new.ensures) (new_stands c.args.base c.args.now c.args.keep_alive)
