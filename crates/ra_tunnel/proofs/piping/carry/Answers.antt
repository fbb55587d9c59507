use Rattle.std.proofs.Common.{arith, refl, ap, ◌∙◌, take}
use Rattle.std.specs.Prelude.{Ok}
use Rattle.ra_ports.specs.Links.{has_ended}
use Rattle.ra_ports.specs.declared.link.Got.TheVariants.{NotYet, End}
use Rattle.ra_tunnel.specs.Pipes.{Side, side, PipesWhole}
use Rattle.ra_tunnel.proofs.FlowLemmas.{whole_prefix, lost_prefix, bytes_got, nothing_got, whole_nothing}
use Rattle.ra_tunnel.proofs.piping.carry.Goals as goal

pub returns-in-Ok : goal.returns-in-Ok
returns-in-Ok g c =
    let f : Side = side (g.N.Link.incoming c.args.from.now) (g.N.Link.sent c.args.from.now) (g.N.Link.faults c.args.from.now) in
    let fn : Side = side (g.N.Link.incoming c.recv.new.self) (g.N.Link.sent c.recv.new.self) (g.N.Link.faults c.recv.new.self) in
    let t : Side = side (g.T.Link.incoming c.args.to.now) (g.T.Link.sent c.args.to.now) (g.T.Link.faults c.args.to.now) in
    let tn : Side = side (g.T.Link.incoming c.send_all.new.link) (g.T.Link.sent c.send_all.new.link) (g.T.Link.faults c.send_all.new.link) in
    let whole : PipesWhole f fn t tn = (take c.in-Ok-Bytes.n c.recv.new.into, bytes_got f.incoming.left fn.incoming.left c.in-Ok-Bytes.field-0 c.in-Ok-Bytes.n c.recv.new.into c.in-Ok-Bytes.field-0-is c.in-Ok-Bytes.ensures.bytes, c.in-Ok.ensures.ok) in
    record {
      whole = λ _. whole;
      part = whole_prefix f fn t tn whole;
      keeps_sent = c.in-Ok-Bytes.ensures.keeps;
      keeps = c.in-Ok.ensures.keeps;
      counted = c.in-Ok-Bytes.ensures.counted;
      ended = c.in-Ok-Bytes.ensures.ended ∙ ap (λ k. has_ended f.incoming.ended (Ok k)) c.in-Ok-Bytes.field-0-is;
      from_later = c.in-Ok-Bytes.ensures.cause.later;
      to_later = c.in-Ok.ensures.cause.later;
      from_fault = λ e. absurd cc;
      to_fault = λ e. absurd cc;
    }

pub returns-in-Err-send_all : goal.returns-in-Err-send_all
returns-in-Err-send_all g c =
    let f : Side = side (g.N.Link.incoming c.args.from.now) (g.N.Link.sent c.args.from.now) (g.N.Link.faults c.args.from.now) in
    let fn : Side = side (g.N.Link.incoming c.recv.new.self) (g.N.Link.sent c.recv.new.self) (g.N.Link.faults c.recv.new.self) in
    let t : Side = side (g.T.Link.incoming c.args.to.now) (g.T.Link.sent c.args.to.now) (g.T.Link.faults c.args.to.now) in
    let tn : Side = side (g.T.Link.incoming c.send_all.new.link) (g.T.Link.sent c.send_all.new.link) (g.T.Link.faults c.send_all.new.link) in
    let part = bytes_got f.incoming.left fn.incoming.left c.in-Ok-Bytes.field-0 c.in-Ok-Bytes.n c.recv.new.into c.in-Ok-Bytes.field-0-is c.in-Ok-Bytes.ensures.bytes in
    record {
      whole = λ e. absurd (e refl);
      part = lost_prefix f fn t tn (take c.in-Ok-Bytes.n c.recv.new.into) part c.in-Err-send_all.ensures.err;
      keeps_sent = c.in-Ok-Bytes.ensures.keeps;
      keeps = c.in-Err-send_all.ensures.keeps;
      counted = c.in-Ok-Bytes.ensures.counted;
      ended = c.in-Ok-Bytes.ensures.ended ∙ ap (λ k. has_ended f.incoming.ended (Ok k)) c.in-Ok-Bytes.field-0-is;
      from_later = c.in-Ok-Bytes.ensures.cause.later;
      to_later = c.in-Err-send_all.ensures.cause.later;
      from_fault = λ e. absurd cc;
      to_fault = λ _. c.in-Err-send_all.ensures.cause.failed;
    }

pub returns-in-Ok-NotYet : goal.returns-in-Ok-NotYet
returns-in-Ok-NotYet g c =
    let f : Side = side (g.N.Link.incoming c.args.from.now) (g.N.Link.sent c.args.from.now) (g.N.Link.faults c.args.from.now) in
    let fn : Side = side (g.N.Link.incoming c.recv.new.self) (g.N.Link.sent c.recv.new.self) (g.N.Link.faults c.recv.new.self) in
    let t : Side = side (g.T.Link.incoming c.args.to.now) (g.T.Link.sent c.args.to.now) (g.T.Link.faults c.args.to.now) in
    let tn : Side = t in
    let whole : PipesWhole f fn t t = whole_nothing f fn t t (nothing_got f.incoming.left fn.incoming.left c.in-Ok-NotYet.field-0 NotYet c.recv.new.into c.in-Ok-NotYet.field-0-is c.in-Ok-NotYet.ensures.bytes) refl in
    record {
      whole = λ _. whole;
      part = whole_prefix f fn t t whole;
      keeps_sent = c.in-Ok-NotYet.ensures.keeps;
      keeps = refl;
      counted = c.in-Ok-NotYet.ensures.counted;
      ended = c.in-Ok-NotYet.ensures.ended ∙ ap (λ k. has_ended f.incoming.ended (Ok k)) c.in-Ok-NotYet.field-0-is;
      from_later = c.in-Ok-NotYet.ensures.cause.later;
      to_later = omega arith;
      from_fault = λ e. absurd cc;
      to_fault = λ e. absurd cc;
    }

pub returns-in-Ok-End : goal.returns-in-Ok-End
returns-in-Ok-End g c =
    let f : Side = side (g.N.Link.incoming c.args.from.now) (g.N.Link.sent c.args.from.now) (g.N.Link.faults c.args.from.now) in
    let fn : Side = side (g.N.Link.incoming c.recv.new.self) (g.N.Link.sent c.recv.new.self) (g.N.Link.faults c.recv.new.self) in
    let t : Side = side (g.T.Link.incoming c.args.to.now) (g.T.Link.sent c.args.to.now) (g.T.Link.faults c.args.to.now) in
    let tn : Side = t in
    let whole : PipesWhole f fn t t = whole_nothing f fn t t (nothing_got f.incoming.left fn.incoming.left c.in-Ok-End.field-0 End c.recv.new.into c.in-Ok-End.field-0-is c.in-Ok-End.ensures.bytes) refl in
    record {
      whole = λ _. whole;
      part = whole_prefix f fn t t whole;
      keeps_sent = c.in-Ok-End.ensures.keeps;
      keeps = refl;
      counted = c.in-Ok-End.ensures.counted;
      ended = c.in-Ok-End.ensures.ended ∙ ap (λ k. has_ended f.incoming.ended (Ok k)) c.in-Ok-End.field-0-is;
      from_later = c.in-Ok-End.ensures.cause.later;
      to_later = omega arith;
      from_fault = λ e. absurd cc;
      to_fault = λ e. absurd cc;
    }

pub returns-in-Err : goal.returns-in-Err
returns-in-Err g c =
    let f : Side = side (g.N.Link.incoming c.args.from.now) (g.N.Link.sent c.args.from.now) (g.N.Link.faults c.args.from.now) in
    let fn : Side = side (g.N.Link.incoming c.recv.new.self) (g.N.Link.sent c.recv.new.self) (g.N.Link.faults c.recv.new.self) in
    let t : Side = side (g.T.Link.incoming c.args.to.now) (g.T.Link.sent c.args.to.now) (g.T.Link.faults c.args.to.now) in
    let tn : Side = t in
    let whole : PipesWhole f fn t t = whole_nothing f fn t t c.in-Err.ensures.bytes refl in
    record {
      whole = λ _. whole;
      part = whole_prefix f fn t t whole;
      keeps_sent = c.in-Err.ensures.keeps;
      keeps = refl;
      counted = c.in-Err.ensures.counted;
      ended = c.in-Err.ensures.ended;
      from_later = c.in-Err.ensures.cause.later;
      to_later = omega arith;
      from_fault = λ _. c.in-Err.ensures.cause.failed;
      to_fault = λ e. absurd cc;
    }
