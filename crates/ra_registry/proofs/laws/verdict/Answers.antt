use Rattle.ra_registry.specs.Admission.{admission_reasons, admission_refusal}
use Rattle.ra_registry.proofs.LawLemmas.{first_of_both, second_of_both}
use Rattle.ra_registry.proofs.laws.verdict.Goals as goal

pub returns : goal.returns
unfolding admission_refusal
returns c = record {
  earlier = λ reasons registry ask at reason first. first_of_both reasons (admission_reasons registry ask at) reason first;
  later = λ reasons registry ask at none. second_of_both reasons (admission_reasons registry ask at) none;
}
