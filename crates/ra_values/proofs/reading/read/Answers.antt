use Rattle.std.proofs.Common.{subst, ◌≡◌, ◌-◌, length, take, drop, refl, ap, ◌∙◌, arith}
use Rattle.std.proofs.lemmas.List.{take_at, drop_at, length-append}
use Rattle.ra_values.specs.Spelling.{levels}
use Rattle.ra_values.specs.View.{tree}
use Rattle.ra_values.specs.ReadValue.{value_at}
use Rattle.ra_values.proofs.Places.{Within, value_within}
use Rattle.ra_values.proofs.Takes.{value_takes}
use Rattle.ra_values.proofs.Again.{value_again}
use Rattle.ra_values.proofs.Once.{spelled_fits}
use Rattle.ra_values.proofs.reading.read.Goals as goal

pub overflow_sub-result : goal.overflow_sub-result
overflow_sub-result c =
    let t = value_takes levels c.args.bytes.now (tree c.in-Ok.value, c.in-Ok.rest.now) (λ i. omega (arith, c.type_inv.bytes i)) c.in-Ok.ensures in
    omega (arith, ap length t.1, length-append t.0 c.in-Ok.rest.now)

pub returns-in-Ok-clause-found : goal.returns-in-Ok-clause-found
returns-in-Ok-clause-found c =
    let t = value_takes levels c.args.bytes.now (tree c.in-Ok.value, c.in-Ok.rest.now) (λ i. omega (arith, c.type_inv.bytes i)) c.in-Ok.ensures in
    let long : length c.args.bytes.now - length c.in-Ok.rest.now ≡ length t.0 = omega (arith, ap length t.1, length-append t.0 c.in-Ok.rest.now) in
    let front : take (length c.args.bytes.now - length c.in-Ok.rest.now) c.args.bytes.now ≡ t.0 = rw long (ap (take (length t.0)) t.1 ∙ take_at t.0 c.in-Ok.rest.now (length t.0) refl) in
    (omega arith, rw front t.2)

pub returns-in-Ok-clause-fits : goal.returns-in-Ok-clause-fits
returns-in-Ok-clause-fits c =
    let t = value_takes levels c.args.bytes.now (tree c.in-Ok.value, c.in-Ok.rest.now) (λ i. omega (arith, c.type_inv.bytes i)) c.in-Ok.ensures in
    spelled_fits levels (tree c.in-Ok.value) t.0 t.2

pub returns-in-Err-Bad-clause-only : goal.returns-in-Err-Bad-clause-only
returns-in-Err-Bad-clause-only c = λ t front rest s is.
    let read = ap (value_at levels) is ∙ value_again levels t front rest s in
    let refused = rw c.in-Err-Bad.field-0-is at c.in-Err-Bad.ensures in
    absurd (cc (read, refused))

pub returns-in-Ok-clause-value : goal.returns-in-Ok-clause-value
returns-in-Ok-clause-value c =
    let t = value_takes levels c.args.bytes.now (tree c.in-Ok.value, c.in-Ok.rest.now) (λ i. omega (arith, c.type_inv.bytes i)) c.in-Ok.ensures in
    let long : length c.args.bytes.now - length c.in-Ok.rest.now ≡ length t.0 = omega (arith, ap length t.1, length-append t.0 c.in-Ok.rest.now) in
    let back : drop (length c.args.bytes.now - length c.in-Ok.rest.now) c.args.bytes.now ≡ c.in-Ok.rest.now = rw long (ap (drop (length t.0)) t.1 ∙ drop_at t.0 c.in-Ok.rest.now (length t.0) refl) in
    rw back c.in-Ok.ensures

pub overflow_sub-result-in-Err-Bad : goal.overflow_sub-result-in-Err-Bad
overflow_sub-result-in-Err-Bad c =
    let refused = rw c.in-Err-Bad.field-0-is at c.in-Err-Bad.ensures in
    subst (Within (length c.args.bytes.now)) refused (value_within levels c.args.bytes.now)

pub returns-in-Err-Bad-clause-fault : goal.returns-in-Err-Bad-clause-fault
returns-in-Err-Bad-clause-fault c =
    let refused = rw c.in-Err-Bad.field-0-is at c.in-Err-Bad.ensures in
    (c.in-Err-Bad.left, subst (Within (length c.args.bytes.now)) refused (value_within levels c.args.bytes.now), refl, refused)
