use Rattle.std.proofs.Common.{sym, subst, length, ◌≤◌, List, ℕ}
use Rattle.ra_model.specs.Frames.{body_limit}
use Rattle.ra_dial.proofs.ShortLemmas.{first_short}
use Rattle.ra_dial.proofs.handshake.Shaking.pass_answer.Goals as goal

pub says-requires-clause-short : goal.says-requires-clause-short
says-requires-clause-short c = subst (λ (x : List ℕ). length x ≤ body_limit) (sym c.in_ok-text.ensures) (first_short c.self.inside.shake c.self.invariant)

pub says-requires-2-clause-short : goal.says-requires-2-clause-short
says-requires-2-clause-short c = subst (λ (x : List ℕ). length x ≤ body_limit) (sym c.in_ok-text.ensures) (first_short c.self.inside.shake c.self.invariant)
