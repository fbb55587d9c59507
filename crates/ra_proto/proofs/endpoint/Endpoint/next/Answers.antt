use Rattle.std.proofs.Common.{◌≡◌, ◌≢◌, ◌≤◌, true, Some, drop, length, ap, sym, subst, ◌∙◌, arith}
use Rattle.std.proofs.lemmas.Bool.{cond-true, cond-false, and_right, ne_eqb}
use Rattle.ra_model.specs.declared.session.Up.{Up as Delivery}
use Rattle.ra_model.specs.Endpoints.{is_linked}
use Rattle.ra_model.specs.EndpointStates.{EndpointState, StandsFor}
use Rattle.ra_model.specs.Taking.{take_frame}
use Rattle.ra_model.specs.FirstFrame.{first_frame}
use Rattle.ra_model.proofs.Cuts.{found-not_too_long}
use Rattle.ra_model.proofs.Stands.{take_none_stands}
use Rattle.ra_model.proofs.StandsTaking.{delivery_none}
use Rattle.ra_frame.specs.Fronts.{IsPartial}
use Rattle.ra_proto.proofs.Existing.{next_goes}
use Rattle.ra_proto.proofs.ReadFrame.{read_stands, left_stands, read_delivery}
use Rattle.ra_proto.proofs.endpoint.Endpoint.next.Goals as goal

pub returns-then-not-is_linked-clause-stands : goal.returns-then-not-is_linked-clause-stands
returns-then-not-is_linked-clause-stands c = rw (← c.self.view_is) (take_none_stands c.args.now _ (cond-false _ _ _ (sym c.if-not-is_linked.ensures)))

pub returns-then-not-is_linked-clause-handed : goal.returns-then-not-is_linked-clause-handed
returns-then-not-is_linked-clause-handed c = rw (← c.self.view_is) (λ e h. sym (delivery_none _ (cond-false _ _ _ (sym c.if-not-is_linked.ensures)) e h))

pub returns-in-Ok-None-clause-stands : goal.returns-in-Ok-None-clause-stands
returns-in-Ok-None-clause-stands c =
    let front : IsPartial c.self.inside.unread = rw (c.in-Ok-None.field-0-is) at c.in-Ok-None.ensures.found in
    rw (← c.self.view_is) (take_none_stands c.args.now _ (cond-true _ _ _ (sym c.if-not-is_linked.ensures) ∙ front.no_frame))

pub returns-in-Ok-None-clause-handed : goal.returns-in-Ok-None-clause-handed
returns-in-Ok-None-clause-handed c =
    let front : IsPartial c.self.inside.unread = rw (c.in-Ok-None.field-0-is) at c.in-Ok-None.ensures.found in
    rw (← c.self.view_is) (λ e h. sym (delivery_none _ (cond-true _ _ _ (sym c.if-not-is_linked.ensures) ∙ front.no_frame) e h))

pub returns-then-leaves-clause-stands : goal.returns-then-leaves-clause-stands
returns-then-leaves-clause-stands c =
    let linked : is_linked c.self.inside.phase ≡ true = sym c.if-not-is_linked.ensures in
    let found : (first_frame c.self.inside.unread ≡ Some (c.in-Ok-Some.frame, drop c.in-Ok-Some.len c.self.inside.unread)) × (c.in-Ok-Some.len ≤ length c.self.inside.unread) = rw (c.in-Ok-Some.field-0-is) at c.in-Ok-Some.ensures.found in
    let leaves : c.in-Ok-Some.frame.kind ≡ 5 = omega arith in
    let s : EndpointState = c.args.self.now in
    λ e h. left_stands c.in-Ok-Some.frame (drop c.in-Ok-Some.len c.self.inside.unread) c.args.now s _ (rw (← c.self.view_is) linked) (rw (← c.self.view_is) found.0) leaves e h (c.in_ok-up-in-Ok-Some.ensures.stands e h)

pub returns-then-leaves-clause-handed : goal.returns-then-leaves-clause-handed
returns-then-leaves-clause-handed c =
    let linked : is_linked c.self.inside.phase ≡ true = sym c.if-not-is_linked.ensures in
    let found : (first_frame c.self.inside.unread ≡ Some (c.in-Ok-Some.frame, drop c.in-Ok-Some.len c.self.inside.unread)) × (c.in-Ok-Some.len ≤ length c.self.inside.unread) = rw (c.in-Ok-Some.field-0-is) at c.in-Ok-Some.ensures.found in
    λ e h. ap (λ (up : Delivery). Some up) (c.in_ok-up-in-Ok-Some.ensures.handed e h)
    ∙ read_delivery c.in-Ok-Some.frame (drop c.in-Ok-Some.len c.self.inside.unread) c.args.self.now (rw (← c.self.view_is) linked) (rw (← c.self.view_is) found.0) e h

pub returns-then-leaves-clause-refused : goal.returns-then-leaves-clause-refused
returns-then-leaves-clause-refused c =
    let found : (first_frame c.self.inside.unread ≡ Some (c.in-Ok-Some.frame, drop c.in-Ok-Some.len c.self.inside.unread)) × (c.in-Ok-Some.len ≤ length c.self.inside.unread) = rw (c.in-Ok-Some.field-0-is) at c.in-Ok-Some.ensures.found in
    rw (← c.self.view_is) (cond-false _ _ _ (and_right _ _ (found-not_too_long c.self.inside.unread _ found.0)))

pub returns-else-leaves-clause-stands : goal.returns-else-leaves-clause-stands
returns-else-leaves-clause-stands c =
    let linked : is_linked c.self.inside.phase ≡ true = sym c.if-not-is_linked.ensures in
    let found : (first_frame c.self.inside.unread ≡ Some (c.in-Ok-Some.frame, drop c.in-Ok-Some.len c.self.inside.unread)) × (c.in-Ok-Some.len ≤ length c.self.inside.unread) = rw (c.in-Ok-Some.field-0-is) at c.in-Ok-Some.ensures.found in
    let stays : c.in-Ok-Some.frame.kind ≢ 5 = omega arith in
    let s : EndpointState = c.args.self.now in
    let before : c.self.inside.unread ≡ s.unread = ap (λ (x : EndpointState). x.unread) c.self.view_is in
    let same : c.self-in-Ok-Some.inside.unread ≡ c.self.inside.unread =
    ap (λ (x : EndpointState). x.unread) c.self-in-Ok-Some.view_is ∙ c.in_ok-up-in-Ok-Some.ensures.unread ∙ cond-false _ _ _ (ne_eqb c.in-Ok-Some.frame.kind 5 stays) ∙ sym before in
    λ e h. rw (c.skip.ensures, same) (subst (λ (x : EndpointState). StandsFor (record x { unread = drop c.in-Ok-Some.len c.self.inside.unread }) (take_frame c.args.now e)) (sym c.self-in-Ok-Some.view_is)
    (read_stands c.in-Ok-Some.frame (drop c.in-Ok-Some.len c.self.inside.unread) c.args.now s _ (rw (← c.self.view_is) linked) (rw (← c.self.view_is) found.0) stays e h (c.in_ok-up-in-Ok-Some.ensures.stands e h)))

pub returns-else-leaves-clause-handed : goal.returns-else-leaves-clause-handed
returns-else-leaves-clause-handed c =
    let linked : is_linked c.self.inside.phase ≡ true = sym c.if-not-is_linked.ensures in
    let found : (first_frame c.self.inside.unread ≡ Some (c.in-Ok-Some.frame, drop c.in-Ok-Some.len c.self.inside.unread)) × (c.in-Ok-Some.len ≤ length c.self.inside.unread) = rw (c.in-Ok-Some.field-0-is) at c.in-Ok-Some.ensures.found in
    λ e h. ap (λ (up : Delivery). Some up) (c.in_ok-up-in-Ok-Some.ensures.handed e h)
    ∙ read_delivery c.in-Ok-Some.frame (drop c.in-Ok-Some.len c.self.inside.unread) c.args.self.now (rw (← c.self.view_is) linked) (rw (← c.self.view_is) found.0) e h

pub returns-else-leaves-clause-refused : goal.returns-else-leaves-clause-refused
returns-else-leaves-clause-refused c =
    let found : (first_frame c.self.inside.unread ≡ Some (c.in-Ok-Some.frame, drop c.in-Ok-Some.len c.self.inside.unread)) × (c.in-Ok-Some.len ≤ length c.self.inside.unread) = rw (c.in-Ok-Some.field-0-is) at c.in-Ok-Some.ensures.found in
    rw (← c.self.view_is) (cond-false _ _ _ (and_right _ _ (found-not_too_long c.self.inside.unread _ found.0)))

pub returns-then-leaves-clause-going : goal.returns-then-leaves-clause-going
returns-then-leaves-clause-going c =
    next_goes c.args.self.now _ c.args.now _ (rw (← c.self.view_is) c.self.invariant.0) (returns-then-leaves-clause-stands c) (returns-then-leaves-clause-handed c)

pub returns-else-leaves-clause-going : goal.returns-else-leaves-clause-going
returns-else-leaves-clause-going c =
    next_goes c.args.self.now _ c.args.now _ (rw (← c.self.view_is) c.self.invariant.0) (returns-else-leaves-clause-stands c) (returns-else-leaves-clause-handed c)
