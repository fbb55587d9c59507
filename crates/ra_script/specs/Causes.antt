-- The causes by name.
use Rattle.std.specs.Prelude.{ℕ, List, codes}
use Rattle.ra_script.specs.declared.line.What.{What}
use Rattle.ra_script.specs.declared.line.What.TheVariants.{NotText, UnknownWord, WrongCount, BadNumber, BadBytes}

abbrev pub cause_name : What → List ℕ
cause_name NotText = codes "NotText"
cause_name UnknownWord = codes "UnknownWord"
cause_name WrongCount = codes "WrongCount"
cause_name BadNumber = codes "BadNumber"
cause_name BadBytes = codes "BadBytes"
