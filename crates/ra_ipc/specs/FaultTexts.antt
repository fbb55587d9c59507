-- How a fault is printed.
use Rattle.std.specs.Prelude.{ℕ, List, ◌++◌, codes}
use Rattle.std.specs.Fmt.{decimal}
use Rattle.ra_values.specs.FaultTexts.{wrong_text}
use Rattle.ra_ipc.specs.declared.fault.PacketFault.{PacketFault}
use Rattle.ra_ipc.specs.declared.fault.PacketFault.TheVariants.{Value, BadHeader, BadBody, Trailing, NoMemory}

abbrev pub fault_text : PacketFault → List ℕ
fault_text (Value at what) = wrong_text what ++ codes " at byte " ++ decimal at
fault_text (BadHeader at) = codes "wrong element " ++ decimal at ++ codes " of the header"
fault_text BadBody = codes "a body that is not undefined"
fault_text (Trailing at) = codes "more bytes at byte " ++ decimal at
fault_text NoMemory = codes "want of memory"
