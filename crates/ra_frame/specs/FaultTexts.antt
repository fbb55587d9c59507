-- How a fault is printed.
use Rattle.std.specs.Prelude.{ℕ, List, ◌++◌, codes}
use Rattle.std.specs.Fmt.{decimal}
use Rattle.ra_frame.specs.declared.reader.FrameFault.{FrameFault}
use Rattle.ra_frame.specs.declared.reader.FrameFault.TheVariants.{TooLong, NoMemory}

abbrev pub fault_text : FrameFault → List ℕ
fault_text (TooLong n) = codes "a body of " ++ decimal n ++ codes " bytes"
fault_text NoMemory = codes "want of memory"
