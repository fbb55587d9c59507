-- How what is taken from a link adds up.
use Rattle.std.proofs.Common.{ℕ, List, [], ◌++◌, Option, refl, sym, ap, ◌∙◌}
use Rattle.std.proofs.lemmas.List.{append_assoc}
use Rattle.ra_ports.specs.Links.{Takes}

pub takes_nothing : (a : Option (List ℕ)) → Takes a a []
takes_nothing a text is = (text, refl, is)

pub takes_both : (a b c : Option (List ℕ)) (x y : List ℕ) → Takes a b x → Takes b c y → Takes a c (x ++ y)
takes_both a b c x y p q text is =
    let first = p text is in
    let second = q first.0 first.2 in
    (second.0, first.1 ∙ ap (λ (l : List ℕ). x ++ l) second.1 ∙ sym (append_assoc x y second.0), second.2)
