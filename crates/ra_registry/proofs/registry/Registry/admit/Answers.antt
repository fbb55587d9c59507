use Rattle.std.proofs.Common.{◌≡◌, Some, None, ap, ◌∙◌}
use Rattle.ra_registry.specs.Admission.{admission_refusal}
use Rattle.ra_registry.proofs.LawLemmas.{reconnected}
use Rattle.ra_registry.proofs.registry.Registry.admit.Goals as goal

pub returns-in-Some-clause-reconnected : goal.returns-in-Some-clause-reconnected
returns-in-Some-clause-reconnected g c = λ kind again can.
    let found : Some c.in-Some.reason ≡ admission_refusal c.args.self.now c.args.ask c.millis-at.result = c.in-Some.ensures in
    let never : Some c.in-Some.reason ≡ None =
    found ∙ ap (admission_refusal c.args.self.now c.args.ask) c.millis-at.ensures.value ∙ reconnected c.args.self.now c.args.ask c.args.now kind again can in
    cc
