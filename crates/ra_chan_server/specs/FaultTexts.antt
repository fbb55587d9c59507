-- How a fault is printed.
use Rattle.std.specs.Prelude.{ℕ, List, codes}
use Rattle.ra_chan_server.specs.declared.fault.ServerFault.{ServerFault}
use Rattle.ra_chan_server.specs.declared.fault.ServerFault.TheVariants.{ActiveId, NoSuchCall, NoMemory}

abbrev pub fault_text : ServerFault → List ℕ
fault_text (ActiveId id) = codes "the id is active"
fault_text (NoSuchCall id) = codes "no call that was handed out has this id"
fault_text NoMemory = codes "want of memory"
