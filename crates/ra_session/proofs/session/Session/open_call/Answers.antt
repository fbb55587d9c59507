use Rattle.std.proofs.Common.{◌≡◌, Option, None}
use Rattle.ra_session.specs.Faults.{fault_of}
use Rattle.ra_session.specs.SessionRefusals.{Refusal, IsRefusal}
use Rattle.ra_session.proofs.SaySteps.{call_to, as_call, request_refuses, request_admits}
use Rattle.ra_session.proofs.Soundness.{called_sound}
use Rattle.ra_session.proofs.session.Session.open_call.Goals as goal

pub returns-in-Err-clause-refused : goal.returns-in-Err-clause-refused
returns-in-Err-clause-refused c =
    let going = rw (← c.self.view_is) at c.requires.going in
    let kind = rw (← c.self.view_is) at c.requires.kind in
    let left = rw (← c.self.view_is) at c.requires.left in
    let body = rw (← c.self.view_is) at c.requires.body in
    let refused = rw c.is_ready-goes.ensures at c.in-Err.ensures.refused in
    rw (c.from.ensures, ← c.self.view_is)
    (as_call _ _ _ _ (λ (r : Option Refusal). IsRefusal (fault_of c.in-Err.fault) r) (request_refuses _ _ _ _ going kind left body c.requires.size refused))

pub returns-clause-stands : goal.returns-clause-stands
returns-clause-stands c =
    let body = rw (← c.self.view_is) at c.requires.body in
    let stands = rw c.is_ready-goes.ensures at c.in_default-say_when.ensures.stands in
    rw (← c.self.view_is, c.in-Ok.ensures.after) (call_to _ _ _ _ _ c.args.now _ body c.requires.size stands)

pub returns-clause-refused : goal.returns-clause-refused
returns-clause-refused c =
    let going = rw (← c.self.view_is) at c.requires.going in
    let kind = rw (← c.self.view_is) at c.requires.kind in
    let left = rw (← c.self.view_is) at c.requires.left in
    let body = rw (← c.self.view_is) at c.requires.body in
    let refused = rw c.is_ready-goes.ensures at c.in_default-say_when.ensures.refused in
    rw (← c.self.view_is)
    (as_call _ _ _ _ (λ (r : Option Refusal). r ≡ None) (request_admits _ _ _ going kind left body c.requires.size refused))

pub invariant_of-self-in_default-say_when : goal.invariant_of-self-in_default-say_when
invariant_of-self-in_default-say_when c =
    let body = rw (← c.self.view_is) at c.requires.body in
    rw c.in-Ok.ensures.after (called_sound _ _ _ c.args.body c.self.invariant c.in_default-say_when.ensures.link body c.requires.size)
