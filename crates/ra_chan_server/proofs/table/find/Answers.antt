use Rattle.std.proofs.Common.{◌≡◌, Some, None, refl, sym, ◌∙◌}
use Rattle.ra_chan_server.specs.Held.{arrival_of}
use Rattle.ra_chan_server.proofs.Entries.{looked, none_found, never_lost}
use Rattle.ra_chan_server.proofs.table.find.Goals as goal

pub returns-in_err-arrival-clause-request : goal.returns-in_err-arrival-clause-request
returns-in_err-arrival-clause-request c =
    let none : arrival_of c.args.id c.args.requests.now.entries ≡ None = sym (c.requires.found c.args.id) ∙ sym c.in_err-arrival.ensures.value in
    rw (c.from_residual.ensures, none_found c.args.id c.args.requests.now.entries none) refl

pub returns-in_err-request-clause-arrival : goal.returns-in_err-request-clause-arrival
returns-in_err-request-clause-arrival c =
    let found : arrival_of c.args.id c.args.requests.now.entries ≡ Some c.in_ok-arrival.arrival.now = sym (c.requires.found c.args.id) ∙ sym c.in_ok-arrival.ensures.value in
    absurd (never_lost c.args.id c.in_ok-arrival.arrival.now c.args.requests.now.entries found (sym (looked c.args.id c.in_ok-arrival.arrival.now c.args.requests.now.entries found c.requires.order) ∙ sym c.in_err-request.ensures.value))

pub returns-in_err-request-clause-request : goal.returns-in_err-request-clause-request
returns-in_err-request-clause-request c =
    let found : arrival_of c.args.id c.args.requests.now.entries ≡ Some c.in_ok-arrival.arrival.now = sym (c.requires.found c.args.id) ∙ sym c.in_ok-arrival.ensures.value in
    absurd (never_lost c.args.id c.in_ok-arrival.arrival.now c.args.requests.now.entries found (sym (looked c.args.id c.in_ok-arrival.arrival.now c.args.requests.now.entries found c.requires.order) ∙ sym c.in_err-request.ensures.value))

pub returns-clause-request : goal.returns-clause-request
returns-clause-request c =
    let found : arrival_of c.args.id c.args.requests.now.entries ≡ Some c.in_ok-arrival.arrival.now = sym (c.requires.found c.args.id) ∙ sym c.in_ok-arrival.ensures.value in
    c.in_ok-request.ensures.value ∙ looked c.args.id c.in_ok-arrival.arrival.now c.args.requests.now.entries found c.requires.order
