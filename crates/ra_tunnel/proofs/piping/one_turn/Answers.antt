use Rattle.std.proofs.lemmas.Bool.{eq-eqb, ne_eqb}
use Rattle.ra_tunnel.specs.declared.piping.Carried.TheVariants as carried
use Rattle.ra_tunnel.proofs.TurnLemmas.{turned_up, turned_down}
use Rattle.ra_tunnel.proofs.piping.one_turn.Goals as goal

pub returns-in-On : goal.returns-in-On
returns-in-On g c = turned_up c.args.turn carried.On _ _ _ _ (eq-eqb _ 0 c.if-turn-eq0.true) (c.in-On.ensures)

pub returns-in-End : goal.returns-in-End
returns-in-End g c = turned_up c.args.turn carried.End _ _ _ _ (eq-eqb _ 0 c.if-turn-eq0.true) (c.in-End.ensures)

pub returns-in-FromFault : goal.returns-in-FromFault
returns-in-FromFault g c = turned_up c.args.turn carried.FromFault _ _ _ _ (eq-eqb _ 0 c.if-turn-eq0.true) (c.in-FromFault.ensures)

pub returns-in-ToFault : goal.returns-in-ToFault
returns-in-ToFault g c = turned_up c.args.turn carried.ToFault _ _ _ _ (eq-eqb _ 0 c.if-turn-eq0.true) (c.in-ToFault.ensures)

pub returns-in-On-carry : goal.returns-in-On-carry
returns-in-On-carry g c = turned_down c.args.turn carried.On _ _ _ _ (ne_eqb _ 0 c.if-turn-eq0.false) (c.in-On-carry.ensures)

pub returns-in-End-carry : goal.returns-in-End-carry
returns-in-End-carry g c = turned_down c.args.turn carried.End _ _ _ _ (ne_eqb _ 0 c.if-turn-eq0.false) (c.in-End-carry.ensures)

pub returns-in-FromFault-carry : goal.returns-in-FromFault-carry
returns-in-FromFault-carry g c = turned_down c.args.turn carried.FromFault _ _ _ _ (ne_eqb _ 0 c.if-turn-eq0.false) (c.in-FromFault-carry.ensures)

pub returns-in-ToFault-carry : goal.returns-in-ToFault-carry
returns-in-ToFault-carry g c = turned_down c.args.turn carried.ToFault _ _ _ _ (ne_eqb _ 0 c.if-turn-eq0.false) (c.in-ToFault-carry.ensures)
