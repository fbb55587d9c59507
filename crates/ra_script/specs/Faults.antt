-- What a call that reads a line or a part of one answers.
use Rattle.std.specs.Prelude.{◌≡◌, Result, Ok, Err}
use Rattle.ra_script.specs.declared.line.What.{What}
use Rattle.ra_script.specs.declared.fault.LineFault.{LineFault}
use Rattle.ra_script.specs.declared.fault.LineFault.TheVariants.{Wrong, NoMemory}

-- what a call returned is what reading gives, unless memory ran out
abbrev pub LineGives : {X : Type 0} → Result X LineFault → Result X What → Type 0
LineGives (Ok x) read = read ≡ Ok x
LineGives (Err (Wrong what)) read = read ≡ Err what
LineGives (Err NoMemory) read = Unit {0}
