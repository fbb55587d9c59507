use Rattle.std.proofs.Common.{◌<◌, ◌^◌, w32, to_z, of_z, arith}
use Rattle.std.proofs.lemmas.Int.{to_z-of_z}
use Rattle.ra_ipc.specs.View.{id_of}
use Rattle.ra_chan_server.proofs.Texts.{tree_object, error_length}
use Rattle.ra_chan_server.proofs.unknown.answer.Goals as goal

pub returns-clause-fits : goal.returns-clause-fits
returns-clause-fits c =
    let small : id_of (to_z w32 (of_z w32 c.args.id)) < 2 ^ 31 = rw (to_z-of_z w32 c.args.id c.ranges.id) c.requires in
    (small, (omega arith, (omega arith, (omega arith, tt))), rw (tree_object c.in_ok-json.json) (c.in_ok-json.ensures.utf8, rw c.in_ok-json.ensures.text (error_length c.args.channel.now)))
