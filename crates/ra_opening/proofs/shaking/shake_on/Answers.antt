use Rattle.ra_opening.specs.Openings.{Grounds, grounds_of}
use Rattle.ra_opening.proofs.ServedLemmas.{asks_served}
use Rattle.ra_opening.proofs.ShakeLemmas.{asked, refused, unanswered, goes_on}
use Rattle.ra_opening.proofs.shaking.shake_on.Goals as goal

pub returns-in-Waits-clause-made : goal.returns-in-Waits-clause-made
returns-in-Waits-clause-made g c = λ settings draw head text before next x.
    let grounds : Grounds = grounds_of settings (g.G.Signer.signature_of c.args.signer.now) (g.G.Signer.counts c.args.signer.now) draw in
    c.in-Waits.ensures.found grounds head text before next c.controls.shake c.controls.out.items (c.controls.invariant.keeps settings draw head text before next x)

pub returns-in-Left-clause-made : goal.returns-in-Left-clause-made
returns-in-Left-clause-made g c = λ settings draw head text before next x.
    let grounds : Grounds = grounds_of settings (g.G.Signer.signature_of c.args.signer.now) (g.G.Signer.counts c.args.signer.now) draw in
    rw c.ended.ensures (c.in-Left.ensures.found grounds head text before next c.controls.shake c.controls.out.items (c.controls.invariant.keeps settings draw head text before next x))

pub returns-in-TooLong-clause-made : goal.returns-in-TooLong-clause-made
returns-in-TooLong-clause-made g c = λ settings draw head text before next x.
    let grounds : Grounds = grounds_of settings (g.G.Signer.signature_of c.args.signer.now) (g.G.Signer.counts c.args.signer.now) draw in
    rw c.ended-in-TooLong.ensures (c.in-TooLong.ensures.found grounds head text before next c.controls.shake c.controls.out.items (c.controls.invariant.keeps settings draw head text before next x))

pub returns-in-NoMemory-clause-made : goal.returns-in-NoMemory-clause-made
returns-in-NoMemory-clause-made g c = λ settings draw head text before next x.
    let grounds : Grounds = grounds_of settings (g.G.Signer.signature_of c.args.signer.now) (g.G.Signer.counts c.args.signer.now) draw in
    rw c.ended-in-NoMemory.ensures (c.in-NoMemory.ensures.found grounds head text before next c.controls.shake c.controls.out.items (c.controls.invariant.keeps settings draw head text before next x))

pub returns-in-Ask-clause-made : goal.returns-in-Ask-clause-made
returns-in-Ask-clause-made g c = λ settings draw head text before next x.
    let grounds : Grounds = grounds_of settings (g.G.Signer.signature_of c.args.signer.now) (g.G.Signer.counts c.args.signer.now) draw in
    let control = c.in-Control.ensures.found grounds head text before next c.controls.shake c.controls.out.items (c.controls.invariant.keeps settings draw head text before next x) in
    let answer = rw c.as_slice.ensures at c.in-Ask.ensures in
    asked grounds head text before next c.find.new.reader c.controls.shake c.in-Control.body c.controls.out.items c.answer_control.new.out.items c.in-Ask.request control answer.0 answer.1

pub returns-in-Refused-clause-made : goal.returns-in-Refused-clause-made
returns-in-Refused-clause-made g c = λ settings draw head text before next x.
    let grounds : Grounds = grounds_of settings (g.G.Signer.signature_of c.args.signer.now) (g.G.Signer.counts c.args.signer.now) draw in
    let control = c.in-Control.ensures.found grounds head text before next c.controls.shake c.controls.out.items (c.controls.invariant.keeps settings draw head text before next x) in
    let answer = rw c.as_slice.ensures at c.in-Refused.ensures in
    rw c.ended-in-Refused.ensures
    (refused grounds head text before next c.find.new.reader c.controls.shake c.in-Control.body c.controls.out.items c.answer_control.new.out.items c.in-Refused.reason control answer)

pub returns-in-NoMemory-answer_control-clause-made : goal.returns-in-NoMemory-answer_control-clause-made
returns-in-NoMemory-answer_control-clause-made g c = λ settings draw head text before next x.
    let grounds : Grounds = grounds_of settings (g.G.Signer.signature_of c.args.signer.now) (g.G.Signer.counts c.args.signer.now) draw in
    let control = c.in-Control.ensures.found grounds head text before next c.controls.shake c.controls.out.items (c.controls.invariant.keeps settings draw head text before next x) in
    rw c.ended-in-NoMemory-answer_control.ensures
    (unanswered grounds head text before next c.find.new.reader c.controls.shake c.in-Control.body c.controls.out.items c.answer_control.new.out.items control c.in-NoMemory-answer_control.ensures)

pub controls-preserved : goal.controls-preserved
controls-preserved g c =
    goes_on (g.G.Signer.signature_of c.args.signer.now) (g.G.Signer.counts c.args.signer.now) c.args.reader.now c.controls.reader c.find.new.reader
    c.args.shake.now c.controls.shake c.answer_control.new.shake c.args.out.now.items c.controls.out.items c.answer_control.new.out.items c.in-Control.body
    c.controls.invariant c.in-Control.ensures.behind
    (λ grounds head text before next x. c.in-Control.ensures.found grounds head text before next c.controls.shake c.controls.out.items x)
    (rw c.as_slice.ensures at c.in-Said.ensures)

pub returns-in-Ask-clause-served : goal.returns-in-Ask-clause-served
returns-in-Ask-clause-served g c =
    let answer = rw c.as_slice.ensures at c.in-Ask.ensures in
    asks_served (g.G.Signer.signature_of c.args.signer.now) (g.G.Signer.counts c.args.signer.now) c.controls.shake c.in-Control.body c.in-Ask.request answer.0
