use Rattle.std.proofs.Common.{◌<◌, ◌≤◌, length, arith}
use Rattle.ra_grand_clients.proofs.Holders.{found_holder, other_holder, key_at, no_holder}
use Rattle.ra_grand_clients.proofs.clients.Clients.holder.Goals as goal

pub returns-then-has : goal.returns-then-has
returns-then-has c =
    let less : c.loop-n.n < length c.args.self.now = omega (arith, c.loop-n-test.true, c.len-n-end.ensures) in
    found_holder c.loop-n.n c.args.key.now c.args.self.now _ c.loop-n.invariant less (key_at c.loop-n.n c.args.key.now _ _ _ _ _ _ c.self.view_is c.index.ensures c.has.ensures c.if-has.true)

pub loop-n-preserved : goal.loop-n-preserved
loop-n-preserved c =
    let less : c.loop-n.n < length c.args.self.now = omega (arith, c.loop-n-test.true, c.len-n-end.ensures) in
    other_holder c.loop-n.n c.args.key.now c.args.self.now _ c.loop-n.invariant less (key_at c.loop-n.n c.args.key.now _ _ _ _ _ _ c.self.view_is c.index.ensures c.has.ensures c.if-has.false)

pub returns : goal.returns
returns c =
    let past : length c.args.self.now ≤ c.loop-n.n = omega (arith, c.loop-n-test.false, c.len-n-end.ensures) in
    no_holder c.loop-n.n c.args.key.now c.args.self.now c.loop-n.invariant past
