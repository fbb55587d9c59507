use Rattle.ra_ports.proofs.Sending.{sends_nothing, sends_both, sends_front}
use Rattle.ra_ports.proofs.laws.sending.Goals as goal

pub returns : goal.returns
returns c = record { nothing = sends_nothing; both = sends_both; front = sends_front }
