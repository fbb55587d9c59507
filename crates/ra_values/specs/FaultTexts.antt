-- How a fault is printed.
use Rattle.std.specs.Prelude.{ℕ, List, ◌++◌, codes}
use Rattle.std.specs.Fmt.{decimal}
use Rattle.ra_values.specs.declared.fault.Wrong.{Wrong}
use Rattle.ra_values.specs.declared.fault.Wrong.TheVariants.{Short, BadTag, BadNumber, BadText, TooDeep}
use Rattle.ra_values.specs.declared.fault.ReadFault.{ReadFault}
use Rattle.ra_values.specs.declared.fault.ReadFault.TheVariants.{Bad, NoMemory}

abbrev pub wrong_text : Wrong → List ℕ
wrong_text Short = codes "the bytes end before the value"
wrong_text BadTag = codes "no tag"
wrong_text BadNumber = codes "no number"
wrong_text BadText = codes "no UTF-8"
wrong_text TooDeep = codes "a value below the last level"

abbrev pub fault_text : ReadFault → List ℕ
fault_text (Bad at what) = wrong_text what ++ codes " at byte " ++ decimal at
fault_text NoMemory = codes "want of memory"
