use Rattle.ra_script.proofs.Draws.{one_byte, one_state, no_byte, no_state}
use Rattle.ra_script.specs.Generated.{bytes_drawn, state_after}
use Rattle.ra_script.proofs.generating.draw_bytes.Goals as goal

pub loop-preserved : goal.loop-preserved
loop-preserved c =
    let bytes = one_byte c.loop.bytes.items (bytes_drawn c.args.count c.args.state.now) c.args.count c.loop.counter c.loop.state c.loop-test.true c.loop.invariant.bytes in
    let state = one_state c.args.count c.loop.counter c.loop.state (state_after c.args.count c.args.state.now) c.loop-test.true c.loop.invariant.state in
    record {
      bytes = rw (c.in_ok-push.ensures.items, c.draw.ensures.drawn, c.draw.ensures.state) bytes;
      state = rw c.draw.ensures.state state;
    }

pub returns-clause-bytes : goal.returns-clause-bytes
returns-clause-bytes c = no_byte c.loop.bytes.items (bytes_drawn c.args.count c.args.state.now) c.args.count c.loop.counter c.loop.state c.loop-test.false c.loop.invariant.bytes

pub returns-clause-state : goal.returns-clause-state
returns-clause-state c = no_state c.args.count c.loop.counter c.loop.state (state_after c.args.count c.args.state.now) c.loop-test.false c.loop.invariant.state
