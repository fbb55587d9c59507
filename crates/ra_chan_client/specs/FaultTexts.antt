-- How a fault is printed.
use Rattle.std.specs.Prelude.{ℕ, List, codes}
use Rattle.ra_chan_client.specs.declared.fault.ClientFault.{ClientFault}
use Rattle.ra_chan_client.specs.declared.fault.ClientFault.TheVariants.{IdsSpent, NoSuchCall, NoMemory}

abbrev pub fault_text : ClientFault → List ℕ
fault_text IdsSpent = codes "the last id was given"
fault_text (NoSuchCall id) = codes "no open call or listener has this id"
fault_text NoMemory = codes "want of memory"
