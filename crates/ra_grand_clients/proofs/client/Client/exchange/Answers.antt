use Rattle.ra_base.specs.declared.event.Side.TheVariants.{B}
use Rattle.ra_model.specs.Links.{read_on}
use Rattle.ra_grand_clients.specs.ClientLinks.{exchanged}
use Rattle.ra_grand_clients.proofs.ExchangeLemmas.{exchange_meets, turned_unless}
use Rattle.ra_grand_clients.proofs.LinkTurnLemmas.{turned_if, reading_meets}
use Rattle.ra_grand_clients.proofs.client.Client.exchange.Goals as goal

pub returns-clause-ok : goal.returns-clause-ok
returns-clause-ok c =
    turned_if c.exchange.result (exchanged c.args.n c.args.bytes.now) (exchange_meets c.args.n c.args.bytes.now) _ _ _ _ _ _ c.self.view_is c.index_mut.ensures.value c.exchange.ensures.ok

pub returns-clause-err : goal.returns-clause-err
returns-clause-err c =
    turned_unless c.exchange.result (read_on B c.args.n) (reading_meets B c.args.n) _ _ _ _ _ _ c.self.view_is c.index_mut.ensures.value c.exchange.ensures.err
