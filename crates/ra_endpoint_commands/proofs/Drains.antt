-- The loop over the whole frames that are there.
use Rattle.std.proofs.Common.{◌≡◌, ℕ, List, sym, ap, subst, ◌∙◌}
use Rattle.ra_endpoint_commands.specs.Receive.{prefixed}
use Rattle.ra_endpoint_commands.specs.Progress.{Progress, IsReady, SameOutlook, IsRefused, IsOver, due}

pub record IsDraining (p : Progress) (before : List ℕ) (q : Progress) (after : List ℕ) : Type 0 where
  pub ready : IsReady q
  pub fed : q.fed ≡ p.fed
  pub same : SameOutlook p before q after

pub drained : (p : Progress) (before : List ℕ) (q : Progress) (after : List ℕ) → IsReady p → q ≡ p → after ≡ before → IsDraining p before q after
drained p before q after ready e t = record {
  ready = subst (λ (x : Progress). IsReady x) (sym e) ready;
  fed = ap (λ (x : Progress). x.fed) e;
  same = λ more over. ap (λ (x : Progress). prefixed before (due x more over)) (sym e) ∙ ap (λ (t : List ℕ). prefixed t (due q more over)) (sym t);
}

pub one_more : (p : Progress) (before : List ℕ) (q : Progress) (after : List ℕ) (r : Progress) (last : List ℕ) → IsDraining p before q after → IsReady r → r.fed ≡ q.fed → SameOutlook q after r last → IsDraining p before r last
one_more p before q after r last d ready fed same = record {
  ready = ready;
  fed = fed ∙ d.fed;
  same = λ more over. d.same more over ∙ same more over;
}

pub refused : (p : Progress) (before : List ℕ) (q : Progress) (after last : List ℕ) → IsDraining p before q after → IsRefused q after last → IsRefused p before last
refused p before q after last d is more over = d.same more over ∙ is more over

pub over : (p : Progress) (before : List ℕ) (q : Progress) (after : List ℕ) (r : Progress) (last : List ℕ) → IsDraining p before q after → r.fed ≡ q.fed → IsOver q after r last → (r.fed ≡ p.fed) × IsOver p before r last
over p before q after r last d fed is = (fed ∙ d.fed, λ more over. d.same more over ∙ is more over)
