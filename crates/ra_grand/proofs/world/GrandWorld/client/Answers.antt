use Rattle.ra_grand.proofs.JoiningSteps.{free, joined, number_joined}
use Rattle.ra_grand.proofs.world.GrandWorld.client.Goals as goal

pub returns-in-Ok : goal.returns-in-Ok
returns-in-Ok c =
    λ w stands. (
      free c.args.self.now c.args.key c.in-None.ensures w stands,
      number_joined c.args.self.now c.in-Ok.number c.in-Ok.ensures.number w stands,
      joined c.args.self.now c.add.new.self c.args.key c.know_token.ensures c.requires c.in-Ok.ensures.made w stands,
    )
