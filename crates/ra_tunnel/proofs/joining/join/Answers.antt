use Rattle.ra_tunnel.proofs.JoinLemmas.{joins_no_client, joins_no_target, joins_pipe}
use Rattle.ra_tunnel.proofs.joining.join.Goals as goal

pub returns-in-Err : goal.returns-in-Err
returns-in-Err g c =
    let e = c.in-Err.ensures in
    joins_no_client c.args.turns c.args.ok.now c.args.rest.now _ _ _ e.err e.keeps e.cause.later e.cause.failed

pub returns-in-Err-send_all : goal.returns-in-Err-send_all
returns-in-Err-send_all g c =
    let k = c.in-Ok.ensures in
    let e = c.in-Err-send_all.ensures in
    joins_no_target c.args.turns c.args.ok.now c.args.rest.now _ _ _ _ k.ok k.keeps k.cause.later e.err e.keeps e.cause.later e.cause.failed

pub returns-in-Ok-send_all : goal.returns-in-Ok-send_all
returns-in-Ok-send_all g c =
    let k = c.in-Ok.ensures in
    let e = c.in-Ok-send_all.ensures in
    let p = c.pipe.ensures in
    joins_pipe c.pipe.result c.args.turns c.args.ok.now c.args.rest.now _ _ _ _ _ _ k.ok k.keeps k.cause.later e.ok e.keeps e.cause.later
    p.piped p.calls p.client_ended p.target_ended p.client_later p.target_later p.client_fault p.target_fault
