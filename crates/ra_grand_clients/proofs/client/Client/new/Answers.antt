use Rattle.std.proofs.Common.{ap, ◌∙◌}
use Rattle.ra_base.specs.declared.key.Key.{Key}
use Rattle.ra_grand_runs.specs.SetUps.{settings_for}
use Rattle.ra_grand_clients.proofs.SetUpLemmas.{can_dial, role_fits, new_stands}
use Rattle.ra_grand_clients.proofs.client.Client.new.Goals as goal

pub new-requires-clause-dials : goal.new-requires-clause-dials
new-requires-clause-dials c = can_dial c.args.key _ (c.in_ok-settings.ensures.settings ∙ ap (λ (k : Key). settings_for k) c.same.ensures) c.requires

pub new-requires-clause-context : goal.new-requires-clause-context
new-requires-clause-context c = role_fits _ c.in_ok-settings.ensures.context

pub returns : goal.returns
returns c =
    new_stands _ c.args.key c.args.now _ _ _ _ _ (c.in_ok-settings.ensures.settings ∙ ap (λ (k : Key). settings_for k) c.same.ensures) c.in_ok-settings.ensures.context c.in_ok-dialer.ensures
    c.new-2.ensures c.empty.ensures c.new-3.ensures.items
