use Rattle.std.proofs.Common.{◌∙◌, ap, length}
use Rattle.ra_base.specs.declared.event.Side.TheVariants.{B}
use Rattle.ra_model.specs.Links.{written_to}
use Rattle.ra_grand_clients.specs.ClientStates.{ClientState}
use Rattle.ra_grand_clients.proofs.Flushing.{handed_over, all_handed_over}
use Rattle.ra_grand_runs.proofs.LastLemmas.{length_last}
use Rattle.ra_grand_clients.proofs.client.Client.hand_over.Goals as goal

pub returns-clause-stays : goal.returns-clause-stays
returns-clause-stays c = handed_over _ _ _ c.take_out.result (c.self.view_is ∙ c.in_ok-put_held.ensures.ok) c.take_out.ensures.out c.take_out.ensures.stands

pub returns-clause-done : goal.returns-clause-done
returns-clause-done c is =
    all_handed_over _ _ _ c.take_out.result (c.self.view_is ∙ c.in_ok-put_held.ensures.ok) (c.is_empty.ensures.0 is) (c.take_out.ensures.none (c.is_empty.ensures.0 is)) c.take_out.ensures.stands

pub returns-clause-count : goal.returns-clause-count
returns-clause-count c =
    ap (λ (h : ClientState). length h.links) (c.self.view_is ∙ c.in_ok-put_held.ensures.ok) ∙ length_last (written_to B c.args.self.now.held) c.args.self.now.links
