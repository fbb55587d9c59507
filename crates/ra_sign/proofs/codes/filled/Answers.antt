use Rattle.std.proofs.Common.{◌-◌, ◌++◌, length, replicate, ap, List, ℕ}
use Rattle.std.proofs.lemmas.List.{drop-replicate}
use Rattle.ra_sign.proofs.codes.filled.Goals as goal

pub returns : goal.returns
returns c = simp drop-replicate (ap (λ (front : List ℕ). front ++ replicate (64 - length c.args.key.now) 0) c.copy_from_slice.ensures.after)
