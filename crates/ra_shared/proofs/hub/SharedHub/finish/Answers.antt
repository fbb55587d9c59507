use Rattle.std.proofs.Common.{◌≡◌, List, length, map, ap, arith}
use Rattle.std.proofs.lemmas.List.{length-map}
use Rattle.std.proofs.lemmas.Simd.{map-map}
use Rattle.ra_shared.specs.declared.answers.KeptAnswer.{KeptAnswer}
use Rattle.ra_shared.proofs.Ended.{of_registry, of_answers}
use Rattle.ra_shared.proofs.hub.SharedHub.finish.Goals as goal

pub returns-in-Err-clause-not : goal.returns-in-Err-clause-not
returns-in-Err-clause-not g c =
    let books : List (List KeptAnswer) = map (λ h. h.answers.items) c.args.handles.items in
    let all : length c.in-Ok.taken.registries.items ≡ length books =
    omega (arith, ap length c.in-Ok.ensures.registries, length-map c.args.handles.items (λ h. h.registry), length-map c.args.handles.items (λ h. h.answers.items)) in
    rw (c.of-in-Err.ensures) (of_registry c.args.self.registry.made books _ (length c.in-Ok.taken.registries.items) c.in-Err.fault all c.in-Err.ensures.not)

pub returns-in-Err-check_books-clause-not : goal.returns-in-Err-check_books-clause-not
returns-in-Err-check_books-clause-not g c =
    let books : List (List KeptAnswer) = map (λ h. h.answers.items) c.args.handles.items in
    let untrue = rw (c.as_slice-3.ensures.value, c.in-Ok.ensures.answers) at c.in-Err-check_books.ensures.fault in
    let all : length books ≡ c.args.self.registry.made =
    omega (arith, c.in-Ok-finish.ensures.all, ap length c.in-Ok.ensures.registries, length-map c.args.handles.items (λ h. h.registry), length-map c.args.handles.items (λ h. h.answers.items)) in
    of_answers c.args.self.registry.made books _ c.in-Err-check_books.fault all untrue

pub returns-in-Ok-agree-clause-receipts : goal.returns-in-Ok-agree-clause-receipts
returns-in-Ok-agree-clause-receipts g c =
    let fused = map-map (λ r. r.receipts.items) (λ h. h.registry) c.args.handles.items in
    rw (c.in-Ok.ensures.registries, fused, c.into_parts-registry.ensures.registry) at c.in-Ok-finish.ensures.receipts

pub returns-in-Ok-agree-clause-kept : goal.returns-in-Ok-agree-clause-kept
returns-in-Ok-agree-clause-kept g c = rw (c.into_parts-registry.ensures.registry) at c.into_parts-registry.ensures.kept

pub returns-in-Ok-agree-clause-failed : goal.returns-in-Ok-agree-clause-failed
returns-in-Ok-agree-clause-failed g c =
    let fused = map-map (λ r. r.keep_faults) (λ h. h.registry) c.args.handles.items in
    let answered = rw (c.in-Ok.ensures.registries, fused) at c.in-Ok-finish.ensures.answered in
    omega (arith, answered, c.in-Ok-agree.ensures.agree, c.into_parts-registry.ensures.failed.0, c.into_parts-registry.ensures.failed.1)

pub returns-clause-not : goal.returns-clause-not
returns-clause-not g c =
    let fused = map-map (λ r. r.keep_faults) (λ h. h.registry) c.args.handles.items in
    let answered = rw (c.in-Ok.ensures.registries, fused) at c.in-Ok-finish.ensures.answered in
    let books : List (List KeptAnswer) = map (λ h. h.answers.items) c.args.handles.items in
    let all : length books ≡ c.args.self.registry.made =
    omega (arith, c.in-Ok-finish.ensures.all, ap length c.in-Ok.ensures.registries, length-map c.args.handles.items (λ h. h.registry), length-map c.args.handles.items (λ h. h.answers.items)) in
    rw (c.of-in-Err-agree.ensures, c.in-Err-agree.ensures.not.0) (all, answered, rw (answered) at c.in-Err-agree.ensures.not.1)
