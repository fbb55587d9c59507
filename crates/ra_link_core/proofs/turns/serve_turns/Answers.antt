use Rattle.std.proofs.Common.{◌≡◌, suc, ◌+◌, ◌-◌, ◌<◌, ◌≤◌, ◌∙◌, arith}
use Rattle.ra_link_core.specs.LinkRuns.{served}
use Rattle.ra_link_core.proofs.TurnLemmas.{next_turn, from_part}
use Rattle.ra_link_core.proofs.turns.serve_turns.Goals as goal

pub returns-in-Waits-clause-made : goal.returns-in-Waits-clause-made
returns-in-Waits-clause-made g c = λ base s v going grows.
    rw c.in-Waits.is at (c.loop-turn.invariant.4 base s v going grows)

pub returns-in-Ends-clause-made : goal.returns-in-Ends-clause-made
returns-in-Ends-clause-made g c = λ base s v going grows.
    rw c.in-Ends.is at (c.loop-turn.invariant.4 base s v going grows)

pub loop-turn-preserved : goal.loop-turn-preserved
loop-turn-preserved g c = (
  c.turn_once-state-in-Again.ensures.holds,
  λ other.
      let a = rw c.in-Again.is at (c.loop-turn.invariant.1 other) in
      let b = c.turn_once-state-in-Again.ensures.seats other in
      omega (arith, a, b),
  c.turn_once-state-in-Again.ensures.kept ∙ c.loop-turn.invariant.2,
  c.turn_once-state-in-Again.ensures.never,
  λ base s v going grows.
      let f = rw c.in-Again.is at (c.loop-turn.invariant.4 base s v going grows) in
      let m = c.args.more - (c.loop-turn.turn + 1) in
      let inside : c.loop-turn.turn < c.args.more = c.loop-turn-test.true in
      let one : c.args.more - c.loop-turn.turn ≡ suc m = omega (arith, inside) in
      let same = next_turn (c.args.more - c.loop-turn.turn) m c.in-Again.seat c.args.now f.part (served c.args.more c.args.seat c.args.piece.now c.args.now v) one f.goes_on in
      let made = c.turn_once-state-in-Again.ensures.made m base s f.part f.going f.came in
      rw same at made,
  c.turn_once-state-in-Again.ensures.carries,
)

pub returns-clause-made : goal.returns-clause-made
returns-clause-made g c = λ base s v going grows.
    let done : c.args.more ≤ c.loop-turn.turn = c.loop-turn-test.false in
    let zero_left : c.args.more - c.loop-turn.turn ≡ 0 = omega (arith, done) in
    let f = rw zero_left at (c.loop-turn.invariant.4 base s v going grows) in
    rw c.rest.ensures.value (from_part c.loop-turn.state _ _ base _ c.args.now s (served c.args.more c.args.seat c.args.piece.now c.args.now v) f)
