use Rattle.std.proofs.Common.{◌≡◌, true, [], Ok, Some, None, ap, ◌∙◌}
use Rattle.ra_opening.specs.Openings.{Grounds}
use Rattle.ra_opening.proofs.BeginLemmas.{head_waits, head_begun, head_short, head_refused, known_by, known_refused, waits_unframed, begun_unframed, refused_unframed}
use Rattle.ra_opening.proofs.heading.open_head.Goals as goal

pub returns-in-Ok-None-clause-made : goal.returns-in-Ok-None-clause-made
returns-in-Ok-None-clause-made g c = λ signature counts draw head text before is x.
    let grounds : Grounds = record { settings = c.args.settings.now; signature = signature; counts = counts; draw = draw } in
    let found = rw c.in-Ok-None.field-0-is at c.in-Ok-None.ensures.found in
    let told = rw c.in-Ok-None.field-0-is at (c.in-Ok-None.ensures.read head text [] 0 is x.read) in
    head_waits grounds head text before (g.E.Entropy.draw c.args.entropy.now) c.args.reader.now c.next_request.new.self c.args.out.now.items x told
    (ap (λ r. r.behind_head) found.1 ∙ c.requires)

pub returns-in-Ok-clause-made : goal.returns-in-Ok-clause-made
returns-in-Ok-clause-made g c = λ signature counts draw head text before is x.
    let grounds : Grounds = record { settings = c.args.settings.now; signature = signature; counts = counts; draw = draw } in
    let found = rw c.in-Ok-Some.field-0-is at c.in-Ok-Some.ensures.found in
    let told = rw c.in-Ok-Some.field-0-is at (c.in-Ok-Some.ensures.read head text [] 0 is x.read) in
    let behind : c.next_request.new.self.behind_head ≡ true = ap (λ r. r.behind_head) found.2 in
    head_begun grounds head text before (g.E.Entropy.draw c.args.entropy.now) (g.E.Entropy.draw c.accept_head.new.entropy) c.args.reader.now c.next_request.new.self
    c.args.out.now.items c.accept_head.new.out.items c.in-Ok-Some.upgrade c.in-Ok.shake x told behind c.in-Ok.ensures.begins c.in-Ok.ensures.answers

pub returns-in-Err-accept_head-clause-made : goal.returns-in-Err-accept_head-clause-made
returns-in-Err-accept_head-clause-made g c = λ signature counts draw head text before is x.
    let grounds : Grounds = record { settings = c.args.settings.now; signature = signature; counts = counts; draw = draw } in
    let told = rw c.in-Ok-Some.field-0-is at (c.in-Ok-Some.ensures.read head text [] 0 is x.read) in
    head_short grounds head text before (g.E.Entropy.draw c.args.entropy.now) (g.E.Entropy.draw c.accept_head.new.entropy) c.args.reader.now c.next_request.new.self
    c.args.out.now.items c.accept_head.new.out.items c.in-Ok-Some.upgrade (record {}) x told c.in-Err-accept_head.ensures.begins c.in-Err-accept_head.ensures.answers

pub returns-in-Err-clause-made : goal.returns-in-Err-clause-made
returns-in-Err-clause-made g c = λ signature counts draw head text before is x.
    let grounds : Grounds = record { settings = c.args.settings.now; signature = signature; counts = counts; draw = draw } in
    head_refused grounds head text before (g.E.Entropy.draw c.args.entropy.now) c.args.reader.now c.next_request.new.self
    c.args.out.now.items c.refuse_head.new.out.items c.in-Err.fault c.refuse_head.result x (c.in-Err.ensures.read head text [] 0 is x.read) c.refuse_head.ensures.refuses

pub returns-in-Ok-None-clause-known : goal.returns-in-Ok-None-clause-known
returns-in-Ok-None-clause-known g c =
    let found = rw c.in-Ok-None.field-0-is at c.in-Ok-None.ensures.found in
    known_by c.args.reader.now.unread (Ok None) found.0

pub returns-in-Ok-clause-known : goal.returns-in-Ok-clause-known
returns-in-Ok-clause-known g c =
    let found = rw c.in-Ok-Some.field-0-is at c.in-Ok-Some.ensures.found in
    known_by c.args.reader.now.unread (Ok (Some (c.in-Ok-Some.upgrade, found.0))) found.1

pub returns-in-Err-clause-known : goal.returns-in-Err-clause-known
returns-in-Err-clause-known g c =
    known_refused c.args.reader.now.unread c.in-Err.fault c.refuse_head.result c.args.out.now.items c.refuse_head.new.out.items c.refuse_head.ensures.refuses c.in-Err.ensures.refused

pub returns-in-Ok-None-clause-framing : goal.returns-in-Ok-None-clause-framing
returns-in-Ok-None-clause-framing g c = λ asks.
    let found = rw c.in-Ok-None.field-0-is at c.in-Ok-None.ensures.found in
    waits_unframed c.args.reader.now.unread found.0 asks

pub returns-in-Ok-clause-framing : goal.returns-in-Ok-clause-framing
returns-in-Ok-clause-framing g c = λ asks.
    let found = rw c.in-Ok-Some.field-0-is at c.in-Ok-Some.ensures.found in
    begun_unframed c.args.reader.now.unread c.in-Ok-Some.upgrade found.0 found.1 asks

pub returns-in-Err-clause-framing : goal.returns-in-Err-clause-framing
returns-in-Err-clause-framing g c = λ asks.
    refused_unframed c.args.reader.now.unread c.in-Err.fault c.refuse_head.result c.args.out.now.items c.refuse_head.new.out.items c.refuse_head.ensures.refuses c.in-Err.ensures.refused asks
