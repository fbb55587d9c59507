use Rattle.std.proofs.Common.{refl, sym, ◌∙◌}
use Rattle.std.proofs.lemmas.Bool.{OnTrue_from, OnFalse_from}
use Rattle.ra_ipc.specs.ChannelServers.{is_listener}
use Rattle.ra_chan_server.specs.Requests.{is_listen}
use Rattle.ra_chan_server.specs.View.{active_of}
use Rattle.ra_chan_server.proofs.Lists.{listen_kind, found_tells, not_found_tells}
use Rattle.ra_chan_server.proofs.requests.Requests.has_listen.Goals as goal

pub returns-in-Some-clause-yes : goal.returns-in-Some-clause-yes
returns-in-Some-clause-yes c =
    let tells = found_tells is_listener is_listen listen_kind c.args.id c.args.self.now (active_of c.in-Some.request.now) c.find.ensures.own c.in-Some.ensures.found in
    OnTrue_from c.is_listen.result _ (λ t. tells.gone (sym c.is_listen.ensures ∙ t))

pub returns-in-Some-clause-no : goal.returns-in-Some-clause-no
returns-in-Some-clause-no c =
    let tells = found_tells is_listener is_listen listen_kind c.args.id c.args.self.now (active_of c.in-Some.request.now) c.find.ensures.own c.in-Some.ensures.found in
    OnFalse_from c.is_listen.result _ (λ f. sym (tells.stays (sym c.is_listen.ensures ∙ f)))

pub returns-in-None-clause-no : goal.returns-in-None-clause-no
returns-in-None-clause-no c = sym ((not_found_tells is_listener is_listen listen_kind c.args.id c.args.self.now c.in-None.ensures.found).stays refl)
