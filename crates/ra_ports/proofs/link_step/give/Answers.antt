use Rattle.std.proofs.Common.{◌≡◌, get_or, subst, arith}
use Rattle.ra_ports.specs.declared.link_step.LinkStep.{LinkStep}
use Rattle.ra_ports.specs.declared.link_step.LinkStep.TheVariants.{Piece, Idle, Fault}
use Rattle.ra_ports.proofs.Steps.{gives_piece, gives_idle, gives_fault}
use Rattle.ra_ports.specs.Giving.{GivesPiece}
use Rattle.ra_ports.proofs.link_step.give.Goals as goal

pub returns-in-Piece : goal.returns-in-Piece
returns-in-Piece c =
    let steps = c.args.steps.now in
    let bytes = c.in-Piece.bytes in
    let found = c.in-Some.ensures.lookup in
    let is : Piece bytes ≡ get_or steps c.args.at (Piece bytes) = subst (λ (s : LinkStep). s ≡ get_or steps c.args.at s) c.in-Piece.is found.1 in
    let gives : GivesPiece bytes c.args.at c.args.from c.give_piece.result.answer c.give_piece.result.at c.give_piece.result.from c.give_piece.new.into = rw c.as_slice.ensures at c.give_piece.ensures in
    gives_piece steps c.args.at c.args.from bytes _ _ _ c.give_piece.new.into c.requires.place found.3.0 is (omega arith) gives

pub returns-in-Idle : goal.returns-in-Idle
returns-in-Idle c =
    let steps = c.args.steps.now in
    let found = c.in-Some.ensures.lookup in
    let is : Idle ≡ get_or steps c.args.at Idle = subst (λ (s : LinkStep). s ≡ get_or steps c.args.at s) c.in-Idle.is found.1 in
    gives_idle steps c.args.at c.args.from c.args.into.now c.requires.place found.3.0 is

pub returns-in-Fault : goal.returns-in-Fault
returns-in-Fault c =
    let steps = c.args.steps.now in
    let found = c.in-Some.ensures.lookup in
    let is : Fault ≡ get_or steps c.args.at Fault = subst (λ (s : LinkStep). s ≡ get_or steps c.args.at s) c.in-Fault.is found.1 in
    gives_fault steps c.args.at c.args.from c.args.into.now (record {}) c.requires.place found.3.0 is
