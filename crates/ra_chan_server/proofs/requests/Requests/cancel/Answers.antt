use Rattle.std.proofs.Common.{sym, ◌∙◌}
use Rattle.ra_chan_server.specs.Requests.{marked}
use Rattle.ra_chan_server.specs.Held.{actives}
use Rattle.ra_chan_server.proofs.Lists.{marks_cancel, none_changes}
use Rattle.ra_chan_server.proofs.Entries.{held_mark, lacks}
use Rattle.ra_chan_server.proofs.requests.Requests.cancel.Goals as goal

pub invariant_of-self : goal.invariant_of-self
invariant_of-self c =
    (held_mark c.self.inside.next c.args.id c.in-Some.arrival c.self.inside.by_arrival.entries c.mark.new.requests.entries c.self.inside.arrivals.entries c.self.inside.not_handed.keys c.in-Some.field-0-1.now
    c.self.invariant c.in-Some.ensures.arrival c.in-Some.ensures.request c.mark.ensures).0

pub returns-in-Some : goal.returns-in-Some
returns-in-Some c =
    rw (← c.self.view_is)
    ((held_mark c.self.inside.next c.args.id c.in-Some.arrival c.self.inside.by_arrival.entries c.mark.new.requests.entries c.self.inside.arrivals.entries c.self.inside.not_handed.keys c.in-Some.field-0-1.now
    c.self.invariant c.in-Some.ensures.arrival c.in-Some.ensures.request c.mark.ensures).1 ∙ marks_cancel c.args.id (actives c.self.inside.by_arrival.entries))

pub returns-in_default : goal.returns-in_default
returns-in_default c =
    rw (← c.self.view_is)
    (sym (sym (marks_cancel c.args.id (actives c.self.inside.by_arrival.entries)) ∙ none_changes c.args.id marked (actives c.self.inside.by_arrival.entries) (lacks c.args.id c.self.inside.by_arrival.entries (sym c.in_default.ensures.arrival))))
