use Rattle.std.proofs.Common.{◌<◌, ◌^◌, not, refl, sym, ap, ◌∙◌}
use Rattle.std.proofs.lemmas.Bool.{OnTrue_from, OnFalse_from}
use Rattle.ra_ipc.specs.ChannelServers.{is_handed}
use Rattle.ra_chan_server.specs.Requests.{is_here}
use Rattle.ra_chan_server.specs.View.{active_of}
use Rattle.ra_chan_server.proofs.Lists.{handed_kind, found_tells, not_found_tells, found_fits}
use Rattle.ra_chan_server.proofs.requests.Requests.was_handed.Goals as goal

pub returns-in-Some-clause-found : goal.returns-in-Some-clause-found
returns-in-Some-clause-found c =
    let tells = found_tells is_handed (λ a. not (is_here a)) handed_kind c.args.id c.args.self.now (active_of c.in-Some.request.now) c.find.ensures.own c.in-Some.ensures.found in
    ap not c.is_here.ensures ∙ sym tells.any

pub returns-in-Some-clause-fits : goal.returns-in-Some-clause-fits
returns-in-Some-clause-fits c = OnTrue_from (not c.is_here.result) (c.args.id < 2 ^ 31) (λ _. found_fits c.args.id c.args.self.now (active_of c.in-Some.request.now) c.in-Some.ensures.found c.find.ensures.fits)

pub returns-in-Some-clause-one : goal.returns-in-Some-clause-one
returns-in-Some-clause-one c =
    let tells = found_tells is_handed (λ a. not (is_here a)) handed_kind c.args.id c.args.self.now (active_of c.in-Some.request.now) c.find.ensures.own c.in-Some.ensures.found in
    OnTrue_from (not c.is_here.result) _ (λ t. tells.gone (sym (ap not c.is_here.ensures) ∙ t))

pub returns-in-None-clause-found : goal.returns-in-None-clause-found
returns-in-None-clause-found c = sym (not_found_tells is_handed (λ a. not (is_here a)) handed_kind c.args.id c.args.self.now c.in-None.ensures.found).any

pub returns-in-Some-clause-no : goal.returns-in-Some-clause-no
returns-in-Some-clause-no c =
    let tells = found_tells is_handed (λ a. not (is_here a)) handed_kind c.args.id c.args.self.now (active_of c.in-Some.request.now) c.find.ensures.own c.in-Some.ensures.found in
    OnFalse_from (not c.is_here.result) _ (λ f. sym (tells.stays (sym (ap not c.is_here.ensures) ∙ f)))

pub returns-in-None-clause-no : goal.returns-in-None-clause-no
returns-in-None-clause-no c = sym ((not_found_tells is_handed (λ a. not (is_here a)) handed_kind c.args.id c.args.self.now c.in-None.ensures.found).stays refl)
