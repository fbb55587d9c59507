use Rattle.std.proofs.Common.{◌≡◌, Some, None, Ok, Err, refl, ap, ◌∙◌}
use Rattle.ra_items.proofs.CallLemmas.{request_reads, request_told, request_refused, behind_inside}
use Rattle.ra_items.proofs.reader.ItemReader.next_request.Goals as goal

pub returns-in-Ok-Some-clause-read : goal.returns-in-Ok-Some-clause-read
returns-in-Ok-Some-clause-read c = λ head text done at is has.
    let same : c.unread.result.now ≡ c.args.self.now.unread = c.unread.ensures ∙ ap (λ r. r.unread) c.self.view_is in
    let told = request_told c.unread.result.now c.args.self.now.unread (Some (c.in-Ok-Some.upgrade, c.in-Ok-Some.len)) same (rw c.in-Ok-Some.field-0-is at c.in-Ok-Some.ensures.answer) in
    request_reads head text done at c.args.self.now _ (Ok (Some c.in-Ok-Some.upgrade)) c.requires
    (c.in-Ok-Some.len, told, behind_inside c.args.self.now c.self.inside.behind_head c.self.inside.unread c.skip.new.self c.in-Ok-Some.len c.self.view_is c.skip.ensures) tt is has

pub returns-in-Ok-None-clause-read : goal.returns-in-Ok-None-clause-read
returns-in-Ok-None-clause-read c = λ head text done at is has.
    let same : c.unread.result.now ≡ c.args.self.now.unread = c.unread.ensures ∙ ap (λ r. r.unread) c.self.view_is in
    let told = request_told c.unread.result.now c.args.self.now.unread None same (rw c.in-Ok-None.field-0-is at c.in-Ok-None.ensures.answer) in
    request_reads head text done at c.args.self.now c.args.self.now (Ok None) c.requires (told, refl) tt is has

pub returns-in-Err-clause-refused : goal.returns-in-Err-clause-refused
returns-in-Err-clause-refused c =
    request_refused c.unread.result.now c.args.self.now.unread c.in-Err.fault (c.unread.ensures ∙ ap (λ r. r.unread) c.self.view_is) c.in-Err.ensures.answer

pub returns-in-Err-clause-read : goal.returns-in-Err-clause-read
returns-in-Err-clause-read c = λ head text done at is has.
    let refused = request_refused c.unread.result.now c.args.self.now.unread c.in-Err.fault (c.unread.ensures ∙ ap (λ r. r.unread) c.self.view_is) c.in-Err.ensures.answer in
    request_reads head text done at c.args.self.now c.args.self.now (Err c.in-Err.fault) c.requires tt refused is has
