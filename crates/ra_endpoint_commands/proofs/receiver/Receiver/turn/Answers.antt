use Rattle.std.proofs.Common.{◌≡◌, ◌-◌, min, length, refl, arith}
use Rattle.ra_endpoint_commands.specs.Receive.{input_limit}
use Rattle.ra_endpoint_commands.proofs.PieceLemmas.{turn_same, turn_refused, turn_past, not_refused, drains_at}
use Rattle.ra_endpoint_commands.proofs.receiver.Receiver.turn.Goals as goal

pub returns-then-count-piece : goal.returns-then-count-piece
returns-then-count-piece c =
    let piece = c.args.piece.now in
    let count : c.min-count.result ≡ min (length piece) (input_limit - c.args.self.now.fed) = omega (arith, c.min-count.ensures, c.fed.ensures) in
    let drained = drains_at _ _ c.args.self.now c.feed.new.self c.drain.new.self c.min-count.result piece _ _ refl c.in_ok-feed.ensures c.in_ok-turned.ensures in
    turn_same c.in_ok-turned.turned c.args.self.now c.drain.new.self c.min-count.result piece _ _ count c.if-count-piece.true c.requires.some drained

pub returns-in-Refused : goal.returns-in-Refused
returns-in-Refused c =
    let piece = c.args.piece.now in
    let count : c.min-count.result ≡ min (length piece) (input_limit - c.args.self.now.fed) = omega (arith, c.min-count.ensures, c.fed.ensures) in
    let drained = drains_at _ _ c.args.self.now c.feed.new.self c.drain.new.self c.min-count.result piece _ _ c.in-Refused.is c.in_ok-feed.ensures c.in_ok-turned.ensures in
    turn_refused c.args.self.now c.drain.new.self c.min-count.result piece _ _ count drained

pub returns-in_ok-push_over-in-Waiting : goal.returns-in_ok-push_over-in-Waiting
returns-in_ok-push_over-in-Waiting c =
    let piece = c.args.piece.now in
    let count : c.min-count.result ≡ min (length piece) (input_limit - c.args.self.now.fed) = omega (arith, c.min-count.ensures, c.fed.ensures) in
    let drained = drains_at _ _ c.args.self.now c.feed.new.self c.drain.new.self c.min-count.result piece _ _ refl c.in_ok-feed.ensures c.in_ok-turned.ensures in
    turn_past c.in_ok-turned.turned c.args.self.now c.drain.new.self c.drain.new.self c.min-count.result piece _ _ _ count (omega arith) (not_refused c.in_ok-turned.turned c.in-Waiting.is) drained c.in_ok-push_over-in-Waiting.ensures
