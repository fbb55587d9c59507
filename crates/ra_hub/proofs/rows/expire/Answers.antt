use Rattle.std.proofs.Common.{◌≡◌, ◌-◌, length, take, drop, List, subst, ap, ◌∙◌, ℕ, arith}
use Rattle.std.proofs.lemmas.List.{take_all, length-drop}
use Rattle.ra_registry.specs.declared.past.Past.{Past}
use Rattle.ra_hub.specs.Sweeping.{EndsAll}
use Rattle.ra_hub.proofs.rows.expire.Goals as goal

rest : (n : ℕ) (entries : List Past) → take (length entries - n) (drop n entries) ≡ drop n entries
rest n entries = take_all (length entries - n) (drop n entries) (omega (arith, length-drop n entries))

pub returns-clause-sessions : goal.returns-clause-sessions
returns-clause-sessions c =
    subst (λ (entries : List Past). EndsAll entries c.args.sessions.now c.end_all.new.sessions)
    (rest (length c.history-before.result.now) c.history.result.now
    ∙ ap (λ (entries : List Past). drop (length entries) c.history.result.now) c.history-before.ensures.value
    ∙ ap (λ (entries : List Past). drop (length c.args.registry.now.history) entries) c.history.ensures.value)
    c.end_all.ensures
