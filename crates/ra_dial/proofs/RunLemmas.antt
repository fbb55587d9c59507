-- What a dialer goes through, cut in two.
use Rattle.std.proofs.Common.{◌≡◌, ℕ, List, [], ◌∷◌, ◌++◌, refl, ap, sym, ◌∙◌, append_assoc}
use Rattle.std.proofs.lemmas.Grind.{flat_map-append}
use Rattle.std.specs.List.{flat_map}
use Rattle.ra_dial.specs.Acts.{Act}
use Rattle.ra_dial.specs.Dialers.{Dialer}
use Rattle.ra_dial.specs.Runs.{Move, moved, after, acts_by, acts_of, outcome_by, outcomes_of}

pub after_more : (moves more : List Move) (d : Dialer) → after (moves ++ more) d ≡ after more (after moves d)
after_more [] more d = refl
after_more (m ∷ ms) more d = after_more ms more (moved m d)

pub acts_more : (moves more : List Move) (d : Dialer) → acts_of (moves ++ more) d ≡ acts_of moves d ++ acts_of more (after moves d)
acts_more [] more d = refl
acts_more (m ∷ ms) more d =
    ap (λ (acts : List Act). acts_by m d ++ acts) (acts_more ms more (moved m d))
    ∙ sym (append_assoc (acts_by m d) (acts_of ms (moved m d)) (acts_of more (after ms (moved m d))))

pub outcomes_more : (moves more : List Move) (d : Dialer) → outcomes_of (moves ++ more) d ≡ outcomes_of moves d ++ outcomes_of more (after moves d)
outcomes_more moves more d = ap (λ (acts : List Act). flat_map outcome_by acts) (acts_more moves more d) ∙ flat_map-append outcome_by (acts_of moves d) (acts_of more (after moves d))
