use Rattle.ra_frame.proofs.Headers.{wide_of}
use Rattle.ra_frame.proofs.writer.wide_header.Goals as goal

pub returns : goal.returns
returns c = λ f. wide_of f c.args.kind c.args.id c.args.ack c.args.len c.to_be_bytes.result c.to_be_bytes-2.result c.to_be_bytes-3.result c.to_be_bytes.ensures c.to_be_bytes-2.ensures c.to_be_bytes-3.ensures
