use Rattle.ra_items.proofs.CallLemmas.{frame_call_reads}
use Rattle.ra_items.proofs.reader.ItemReader.next_frame.Goals as goal

pub returns-clause-of_request : goal.returns-clause-of_request
returns-clause-of_request c = λ head text done at has.
    let told = c.next.ensures in
    frame_call_reads head text done at c.args.self.now c.self.inside.behind_head c.self.inside.unread c.next.new.self c.next.result c.self.view_is c.requires told.found told.too_long told.err has

pub returns-clause-of_answer : goal.returns-clause-of_answer
returns-clause-of_answer c = λ head text done at has.
    let told = c.next.ensures in
    frame_call_reads head text done at c.args.self.now c.self.inside.behind_head c.self.inside.unread c.next.new.self c.next.result c.self.view_is c.requires told.found told.too_long told.err has
