use Rattle.std.proofs.Common.{arith, rules, ◌<◌, ◌≤◌, ◌≡◌, None, length, position, not}
use Rattle.std.proofs.lemmas.Grind.{common_steps}
use Rattle.ra_base.specs.TokenGrammar.{is_visible}
use Rattle.ra_base.proofs.TokenLemmas.{AllPass-from_position}
use Rattle.ra_base.proofs.token.Token.from_text.Goals as goal

pub invariant_of-result : goal.invariant_of-result
invariant_of-result c = rw c.in_place.ensures (record {
  some = grind (arith, common_steps);
  most = grind (arith, common_steps);
  visible =
      let none : position (λ b. not (is_visible b)) c.args.text.now ≡ None = cc c.in_default.ensures in
      AllPass-from_position is_visible c.args.text.now none;
})
