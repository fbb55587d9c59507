use Rattle.ra_endpoint_commands.proofs.WholeLemmas.{reading_at_start}
use Rattle.ra_endpoint_commands.proofs.read_whole.read_into.Goals as goal

pub pieces-init : goal.pieces-init
pieces-init g c = reading_at_start c.args.limit _ _ _ c.new-bytes.ensures.items
