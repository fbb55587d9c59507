use Rattle.ra_ipc.proofs.ClientOnce.{own_alone, once_alone}
use Rattle.ra_ipc.proofs.laws.client_alone.Goals as goal

pub returns : goal.returns
returns c = record { once = once_alone; own = own_alone }
