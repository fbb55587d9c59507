use Rattle.ra_endpoint_commands.proofs.SoakLemmas.{summed}
use Rattle.ra_endpoint_commands.proofs.soak.summarize.Goals as goal

pub returns : goal.returns
returns c = λ w stands. summed c.args.start c.args.steps c.args.lines _ w _ _ _ _ _ stands c.links.ensures c.said.ensures c.heard.ensures c.said-2.ensures c.heard-2.ensures
