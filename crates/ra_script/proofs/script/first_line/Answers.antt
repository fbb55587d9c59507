use Rattle.ra_script.proofs.Lines.{front_found, rest_found, front_none, rest_none}
use Rattle.ra_script.proofs.script.first_line.Goals as goal

pub returns-in-Some-clause-line : goal.returns-in-Some-clause-line
returns-in-Some-clause-line c = front_found c.args.text.now c.in-Some.at c.in-Some.ensures

pub returns-in-Some-clause-rest : goal.returns-in-Some-clause-rest
returns-in-Some-clause-rest c = rest_found c.args.text.now c.in-Some.at c.in-Some.ensures

pub returns-in-None-clause-line : goal.returns-in-None-clause-line
returns-in-None-clause-line c = front_none c.args.text.now c.in-None.ensures

pub returns-in-None-clause-rest : goal.returns-in-None-clause-rest
returns-in-None-clause-rest c = rest_none c.args.text.now c.in-None.ensures
