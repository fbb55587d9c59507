use Rattle.std.proofs.Common.{◌≡◌, Some, None, true, false, Ok, Err, refl, ap, ◌∙◌}
use Rattle.ra_items.proofs.CallLemmas.{answer_reads, answer_told, answer_refused, behind_inside}
use Rattle.ra_items.proofs.reader.ItemReader.next_answer.Goals as goal

pub returns-in-Ok-Some-clause-read : goal.returns-in-Ok-Some-clause-read
returns-in-Ok-Some-clause-read c = λ head text done at is has.
    let same : c.unread.result.now ≡ c.args.self.now.unread = c.unread.ensures ∙ ap (λ r. r.unread) c.self.view_is in
    let told = answer_told c.args.key c.unread.result.now c.args.self.now.unread (Some c.in-Ok-Some.size) same (rw c.in-Ok-Some.field-0-is at c.in-Ok-Some.ensures.answer) in
    answer_reads c.args.key head text done at c.args.self.now _ (Ok true) c.requires
    (c.in-Ok-Some.size, told, behind_inside c.args.self.now c.self.inside.behind_head c.self.inside.unread c.skip.new.self c.in-Ok-Some.size c.self.view_is c.skip.ensures) tt is has

pub returns-in-Ok-None-clause-read : goal.returns-in-Ok-None-clause-read
returns-in-Ok-None-clause-read c = λ head text done at is has.
    let same : c.unread.result.now ≡ c.args.self.now.unread = c.unread.ensures ∙ ap (λ r. r.unread) c.self.view_is in
    let told = answer_told c.args.key c.unread.result.now c.args.self.now.unread None same (rw c.in-Ok-None.field-0-is at c.in-Ok-None.ensures.answer) in
    answer_reads c.args.key head text done at c.args.self.now c.args.self.now (Ok false) c.requires (told, refl) tt is has

pub returns-in-Err-clause-refused : goal.returns-in-Err-clause-refused
returns-in-Err-clause-refused c =
    answer_refused c.args.key c.unread.result.now c.args.self.now.unread c.in-Err.fault (c.unread.ensures ∙ ap (λ r. r.unread) c.self.view_is) c.in-Err.ensures.answer

pub returns-in-Err-clause-read : goal.returns-in-Err-clause-read
returns-in-Err-clause-read c = λ head text done at is has.
    let refused = answer_refused c.args.key c.unread.result.now c.args.self.now.unread c.in-Err.fault (c.unread.ensures ∙ ap (λ r. r.unread) c.self.view_is) c.in-Err.ensures.answer in
    answer_reads c.args.key head text done at c.args.self.now c.args.self.now (Err c.in-Err.fault) c.requires tt refused is has
