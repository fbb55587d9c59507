use Rattle.std.proofs.Common.{ℕ, ◌∙◌, ap, arith}
use Rattle.ra_endpoint_commands.specs.Soak.{summary_of}
use Rattle.ra_endpoint_commands.proofs.SoakLemmas.{soaked, drawn_lines}
use Rattle.ra_endpoint_commands.proofs.soak.soak_line.Goals as goal

pub run_lines-requires : goal.run_lines-requires
run_lines-requires c = drawn_lines c.args.start c.args.steps c.deref.result.now c.requires (c.deref.ensures.value ∙ c.in_ok-lines.ensures.lines)

pub returns : goal.returns
returns c =
    soaked c.args.start c.args.steps c.deref.result.now c.in_ok-world.world c.summarize.result c.new-text.result.items _ (c.deref.ensures.value ∙ c.in_ok-lines.ensures.lines) c.in_ok-world.ensures
    (λ w stands. c.summarize.ensures w stands ∙ ap (λ (n : ℕ). summary_of c.args.start c.args.steps n w) (omega (arith, c.len.ensures, c.deref.ensures.len)))
    c.new-text.ensures.items c.in_ok-push_summary.ensures
