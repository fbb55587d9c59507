use Rattle.ra_sign.specs.Signature.{signature_text}
use Rattle.ra_dial.proofs.LookLemmas.{spoiled, partial, framed, passed}
use Rattle.ra_dial.proofs.handshake.Shaking.take_frame.Goals as goal

pub returns-in-Ok-Some-clause-came : goal.returns-in-Ok-Some-clause-came
returns-in-Ok-Some-clause-came c =
    let came = rw (← c.self.view_is) at c.on_frame.ensures.came in
    let found = rw c.in-Ok-Some.field-0-is at c.in-Ok-Some.ensures in
    rw (← c.self.view_is) (framed (signature_text c.args.signer.now) _ c.on_frame.new.self c.in-Ok-Some.frame _ _ found.begins found.found.0 came)

pub returns-in-Ok-None-clause-came : goal.returns-in-Ok-None-clause-came
returns-in-Ok-None-clause-came c =
    let found = rw c.in-Ok-None.field-0-is at c.in-Ok-None.ensures in
    rw (← c.self.view_is) (partial (signature_text c.args.signer.now) _ found.found.not_too_long found.found.no_frame)

pub returns-in-Err-TooLong-clause-came : goal.returns-in-Err-TooLong-clause-came
returns-in-Err-TooLong-clause-came c =
    let stated = c.in-Err-TooLong.ensures.too_long c.in-Err-TooLong.field-0-0 c.in-Err-TooLong.field-0-is in
    rw (← c.self.view_is) (spoiled (signature_text c.args.signer.now) _ stated.too_long)

pub returns-then-kind-ne-PAUSE-clause-came : goal.returns-then-kind-ne-PAUSE-clause-came
returns-then-kind-ne-PAUSE-clause-came c =
    let came = rw (← c.self.view_is) at c.pass.ensures in
    rw (← c.self.view_is) (passed (signature_text c.args.signer.now) _ c.pass.new.self c.pass.result c.in-Some.kind c.in-Some.len c.in-Some.ensures
    c.if-kind-ne-CONTROL.true c.if-kind-ne-DISCONNECT.true c.if-kind-ne-PAUSE.true came)
