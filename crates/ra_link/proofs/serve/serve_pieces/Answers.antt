use Rattle.std.proofs.Common.{◌≡◌, ◌+◌, ◌≤◌, take, refl, sym, ap, ◌∙◌, arith, Some, None}
use Rattle.ra_opening.specs.Openings.{Grounds, grounds_of}
use Rattle.ra_ports.specs.Causes.{Rose, next_count}
use Rattle.ra_ports.specs.Links.{Takes}
use Rattle.ra_link.specs.Served.{link_outcome}
use Rattle.ra_link_core.specs.LinkRuns.{with_piece, piece_done}
use Rattle.ra_link.proofs.LoopLemmas.{failed_there, closed_there, spent_there, ended_there, goes_there, starts_there, raised_more, after_failed, rose_from, piece_at, PieceCame, got_piece, got_none, got_goes, never_spent}
use Rattle.ra_link.proofs.serve.serve_pieces.Goals as goal

pub loop-turn-init : goal.loop-turn-init
loop-turn-init g c = (
  c.requires.holds,
  λ other. refl,
  c.requires.framed,
  omega arith,
  omega arith,
  λ h. h,
  refl,
  λ draw first start moments starts.
      starts_there (grounds_of c.args.settings.now.shake (g.G.Signer.signature_of c.args.signer.now) (g.G.Signer.counts c.args.signer.now) draw) start first moments _ _ c.args.core.now _ _ _ _ _ _ starts,
  λ some. absurd (omega (arith, some)),
)

pub returns-in-Err-clause-calls : goal.returns-in-Err-clause-calls
returns-in-Err-clause-calls g c =
    rw c.ending_at.ensures
    (record {
      reads = c.loop-turn.turn + 1;
      within = omega (arith, c.loop-turn-test.true);
      counted = c.in-Err.ensures.counted ∙ ap next_count c.loop-turn.invariant.6 ∙ sym (raised_more c.loop-turn.turn _);
      asked = λ some. c.in-Err.ensures.room ∙ c.loop-turn.auto.into;
      spent = tt;
    })

pub returns-in-Err-clause-made : goal.returns-in-Err-clause-made
returns-in-Err-clause-made g c = λ draw first start moments starts.
    let grounds : Grounds = grounds_of c.args.settings.now.shake (g.G.Signer.signature_of c.args.signer.now) (g.G.Signer.counts c.args.signer.now) draw in
    let s = c.loop-turn.invariant.7 draw first start moments starts in
    rw c.ending_at.ensures
    (failed_there c.loop-turn.turn c.args.turns grounds start first moments (g.L.Link.incoming c.args.link.now) (g.L.Link.incoming c.loop-turn.link) (g.L.Link.incoming c.recv-got.new.self)
    (g.L.Link.sent c.loop-turn.link) (g.L.Link.sent c.recv-got.new.self) c.loop-turn.core (g.E.Entropy.draw c.loop-turn.entropy) (g.H.Hub.stands c.loop-turn.hub) (g.J.JobSink.told c.loop-turn.jobs)
    (g.C.Clock.tells c.loop-turn.clock) (g.C.Clock.moment c.loop-turn.clock) c.loop-turn.now (Rose (g.L.Link.faults c.args.link.now) (g.L.Link.faults c.recv-got.new.self)) c.now-now.result s
    c.loop-turn-test.true c.now-now.ensures.value c.in-Err.ensures.keeps c.in-Err.ensures.bytes c.in-Err.ensures.payload c.in-Err.ensures.framed)

pub returns-in-None-clause-calls : goal.returns-in-None-clause-calls
returns-in-None-clause-calls g c =
    rw c.ending_at-in-None.ensures
    (record {
      reads = c.loop-turn.turn + 1;
      within = omega (arith, c.loop-turn-test.true);
      counted = c.in-Ok.ensures.counted ∙ ap next_count c.loop-turn.invariant.6 ∙ sym (raised_more c.loop-turn.turn _);
      asked = λ some. c.in-Ok.ensures.room ∙ c.loop-turn.auto.into;
      spent = tt;
    })

pub returns-in-None-clause-made : goal.returns-in-None-clause-made
returns-in-None-clause-made g c = λ draw first start moments starts.
    let grounds : Grounds = grounds_of c.args.settings.now.shake (g.G.Signer.signature_of c.args.signer.now) (g.G.Signer.counts c.args.signer.now) draw in
    let s = c.loop-turn.invariant.7 draw first start moments starts in
    let took = rw (got_none c.in-Ok.got c.recv-got.new.into (sym c.in-None.ensures)) at c.in-Ok.ensures.bytes in
    rw c.ending_at-in-None.ensures
    (closed_there c.loop-turn.turn c.args.turns grounds start first moments (g.L.Link.incoming c.args.link.now) (g.L.Link.incoming c.loop-turn.link) (g.L.Link.incoming c.recv-got.new.self)
    (g.L.Link.sent c.loop-turn.link) (g.L.Link.sent c.recv-got.new.self) c.loop-turn.core (g.E.Entropy.draw c.loop-turn.entropy) (g.H.Hub.stands c.loop-turn.hub) (g.J.JobSink.told c.loop-turn.jobs)
    (g.C.Clock.tells c.loop-turn.clock) (g.C.Clock.moment c.loop-turn.clock) c.loop-turn.now (Rose (g.L.Link.faults c.args.link.now) (g.L.Link.faults c.recv-got.new.self)) c.now-now.result s
    c.loop-turn-test.true c.now-now.ensures.value c.in-Ok.ensures.keeps took c.in-Ok.ensures.payload c.in-Ok.ensures.framed)

pub returns-in-Some-serve_piece-clause-calls : goal.returns-in-Some-serve_piece-clause-calls
returns-in-Some-serve_piece-clause-calls g c =
    rw c.ending_at-in-Some-serve_piece.ensures
    (record {
      reads = c.loop-turn.turn + 1;
      within = omega (arith, c.loop-turn-test.true);
      counted = c.serve_piece.ensures.calls ∙ c.in-Ok.ensures.counted ∙ ap next_count c.loop-turn.invariant.6 ∙ sym (raised_more c.loop-turn.turn _);
      asked = λ some. c.serve_piece.ensures.room ∙ c.in-Ok.ensures.room ∙ c.loop-turn.auto.into;
      spent = never_spent _ (link_outcome c.in-Some-serve_piece.end) c.in-Some-serve_piece.ensures.never;
    })

pub returns-in-Some-serve_piece-clause-made : goal.returns-in-Some-serve_piece-clause-made
returns-in-Some-serve_piece-clause-made g c = λ draw first start moments starts.
    let grounds : Grounds = grounds_of c.args.settings.now.shake (g.G.Signer.signature_of c.args.signer.now) (g.G.Signer.counts c.args.signer.now) draw in
    let s = c.loop-turn.invariant.7 draw first start moments starts in
    let n = c.in-Some.n in
    let piece = take n c.recv-got.new.into in
    let less : g.L.Link.faults c.args.link.now ≤ g.L.Link.faults c.recv-got.new.self = omega (arith, c.loop-turn.invariant.3, c.recv-got.ensures.cause.later) in
    let took : Takes (g.L.Link.incoming c.loop-turn.link).left (g.L.Link.incoming c.recv-got.new.self).left piece =
    rw (got_piece c.in-Ok.got n c.recv-got.new.into (sym c.in-Some.ensures)) at c.in-Ok.ensures.bytes in
    let came : PieceCame (Some c.in-Some-serve_piece.end) grounds piece c.now-now.result first c.loop-turn.core c.serve_piece.new.core (g.L.Link.sent c.loop-turn.link) (g.L.Link.sent c.serve_piece.new.link)
    (g.E.Entropy.draw c.loop-turn.entropy) (g.E.Entropy.draw c.serve_piece.new.entropy) (g.H.Hub.stands c.loop-turn.hub) (g.H.Hub.stands c.serve_piece.new.hub)
    (g.J.JobSink.told c.loop-turn.jobs) (g.J.JobSink.told c.serve_piece.new.jobs) (g.L.Link.incoming c.args.link.now) (g.L.Link.incoming c.loop-turn.link) (g.L.Link.incoming c.recv-got.new.self) (g.L.Link.incoming c.serve_piece.new.link)
    (Rose (g.L.Link.faults c.args.link.now) (g.L.Link.faults c.serve_piece.new.link)) = record {
      made = λ head text begin v is stands sent happens.
          after_failed (Some c.in-Some-serve_piece.end) c.serve_piece.new.core grounds head (with_piece head text piece) (g.E.Entropy.draw c.serve_piece.new.entropy) first (g.L.Link.sent c.serve_piece.new.link)
          (g.H.Hub.stands c.serve_piece.new.hub) (g.J.JobSink.told c.serve_piece.new.jobs) (Rose (g.L.Link.faults c.recv-got.new.self) (g.L.Link.faults c.serve_piece.new.link))
          (Rose (g.L.Link.faults c.args.link.now) (g.L.Link.faults c.serve_piece.new.link)) begin (piece_done grounds head text (piece_at piece c.now-now.result) v)
          (λ r. rose_from _ _ _ less r)
          (c.in-Some-serve_piece.ensures.made draw head text first begin v is c.loop-turn.invariant.2 stands (c.in-Ok.ensures.keeps ∙ sent) happens);
      took = took;
      keeps = c.in-Ok.ensures.payload;
      stays = c.in-Ok.ensures.framed;
      goes = λ going. c.in-Ok.ensures.ended ∙ got_goes c.in-Ok.got n _ (sym c.in-Some.ensures) ∙ c.loop-turn.invariant.5 going;
      free = c.loop-turn.invariant.2;
      known = c.in-Some-serve_piece.ensures.known;
      came = λ head text v is stands behind sent. c.in-Some-serve_piece.ensures.came draw head text first v is c.loop-turn.invariant.2 behind stands (c.in-Ok.ensures.keeps ∙ sent);
    } in
    rw c.ending_at-in-Some-serve_piece.ensures
    (ended_there c.in-Some-serve_piece.end c.loop-turn.turn c.args.turns grounds start first moments (g.L.Link.incoming c.args.link.now) (g.L.Link.incoming c.loop-turn.link) (g.L.Link.incoming c.recv-got.new.self) (g.L.Link.incoming c.serve_piece.new.link)
    (g.L.Link.sent c.loop-turn.link) (g.L.Link.sent c.serve_piece.new.link) c.loop-turn.core c.serve_piece.new.core (g.E.Entropy.draw c.loop-turn.entropy) (g.E.Entropy.draw c.serve_piece.new.entropy)
    (g.H.Hub.stands c.loop-turn.hub) (g.H.Hub.stands c.serve_piece.new.hub) (g.J.JobSink.told c.loop-turn.jobs) (g.J.JobSink.told c.serve_piece.new.jobs)
    (g.C.Clock.tells c.loop-turn.clock) (g.C.Clock.moment c.loop-turn.clock) c.loop-turn.now (Rose (g.L.Link.faults c.args.link.now) (g.L.Link.faults c.serve_piece.new.link)) piece c.now-now.result s
    c.loop-turn-test.true c.now-now.ensures.value came c.in-Some-serve_piece.ensures.never)

pub loop-turn-preserved : goal.loop-turn-preserved
loop-turn-preserved g c = (
  c.serve_piece.ensures.holds,
  λ other. omega (arith, c.loop-turn.invariant.1 other, c.serve_piece.ensures.seats other),
  c.in-None-serve_piece.ensures.framed refl,
  omega (arith, c.loop-turn.invariant.3, c.recv-got.ensures.cause.later, c.serve_piece.ensures.later),
  omega (arith, c.loop-turn.invariant.4, c.serve_piece.ensures.kept_later),
  λ going. c.serve_piece.ensures.ended ∙ c.in-Ok.ensures.ended ∙ got_goes c.in-Ok.got c.in-Some.n _ (sym c.in-Some.ensures) ∙ c.loop-turn.invariant.5 going,
  c.serve_piece.ensures.calls ∙ c.in-Ok.ensures.counted ∙ ap next_count c.loop-turn.invariant.6 ∙ sym (raised_more c.loop-turn.turn _),
  λ draw first start moments starts.
      let grounds : Grounds = grounds_of c.args.settings.now.shake (g.G.Signer.signature_of c.args.signer.now) (g.G.Signer.counts c.args.signer.now) draw in
      let s = c.loop-turn.invariant.7 draw first start moments starts in
      let n = c.in-Some.n in
      let piece = take n c.recv-got.new.into in
      let less : g.L.Link.faults c.args.link.now ≤ g.L.Link.faults c.recv-got.new.self = omega (arith, c.loop-turn.invariant.3, c.recv-got.ensures.cause.later) in
      let took : Takes (g.L.Link.incoming c.loop-turn.link).left (g.L.Link.incoming c.recv-got.new.self).left piece =
      rw (got_piece c.in-Ok.got n c.recv-got.new.into (sym c.in-Some.ensures)) at c.in-Ok.ensures.bytes in
      let came : PieceCame None grounds piece c.now-now.result first c.loop-turn.core c.serve_piece.new.core (g.L.Link.sent c.loop-turn.link) (g.L.Link.sent c.serve_piece.new.link)
      (g.E.Entropy.draw c.loop-turn.entropy) (g.E.Entropy.draw c.serve_piece.new.entropy) (g.H.Hub.stands c.loop-turn.hub) (g.H.Hub.stands c.serve_piece.new.hub)
      (g.J.JobSink.told c.loop-turn.jobs) (g.J.JobSink.told c.serve_piece.new.jobs) (g.L.Link.incoming c.args.link.now) (g.L.Link.incoming c.loop-turn.link) (g.L.Link.incoming c.recv-got.new.self) (g.L.Link.incoming c.serve_piece.new.link)
      (Rose (g.L.Link.faults c.args.link.now) (g.L.Link.faults c.serve_piece.new.link)) = record {
        made = λ head text begin v is stands sent happens.
            after_failed None c.serve_piece.new.core grounds head (with_piece head text piece) (g.E.Entropy.draw c.serve_piece.new.entropy) first (g.L.Link.sent c.serve_piece.new.link)
            (g.H.Hub.stands c.serve_piece.new.hub) (g.J.JobSink.told c.serve_piece.new.jobs) (Rose (g.L.Link.faults c.recv-got.new.self) (g.L.Link.faults c.serve_piece.new.link))
            (Rose (g.L.Link.faults c.args.link.now) (g.L.Link.faults c.serve_piece.new.link)) begin (piece_done grounds head text (piece_at piece c.now-now.result) v)
            (λ r. rose_from _ _ _ less r)
            (c.in-None-serve_piece.ensures.made draw head text first begin v is c.loop-turn.invariant.2 stands (c.in-Ok.ensures.keeps ∙ sent) happens);
        took = took;
        keeps = c.in-Ok.ensures.payload;
        stays = c.in-Ok.ensures.framed;
        goes = λ going. c.in-Ok.ensures.ended ∙ got_goes c.in-Ok.got n _ (sym c.in-Some.ensures) ∙ c.loop-turn.invariant.5 going;
        free = c.loop-turn.invariant.2;
        known = c.in-None-serve_piece.ensures.known;
        came = λ head text v is stands behind sent. c.in-None-serve_piece.ensures.came draw head text first v is c.loop-turn.invariant.2 behind stands (c.in-Ok.ensures.keeps ∙ sent);
      } in
      goes_there c.loop-turn.turn grounds start first moments (g.L.Link.incoming c.args.link.now) (g.L.Link.incoming c.loop-turn.link) (g.L.Link.incoming c.recv-got.new.self) (g.L.Link.incoming c.serve_piece.new.link)
      (g.L.Link.sent c.loop-turn.link) (g.L.Link.sent c.serve_piece.new.link) c.loop-turn.core c.serve_piece.new.core (g.E.Entropy.draw c.loop-turn.entropy) (g.E.Entropy.draw c.serve_piece.new.entropy)
      (g.H.Hub.stands c.loop-turn.hub) (g.H.Hub.stands c.serve_piece.new.hub) (g.J.JobSink.told c.loop-turn.jobs) (g.J.JobSink.told c.serve_piece.new.jobs)
      (g.C.Clock.tells c.loop-turn.clock) (g.C.Clock.tells c.now-now.new.self) (g.C.Clock.moment c.loop-turn.clock) (g.C.Clock.moment c.now-now.new.self) c.loop-turn.now
      (Rose (g.L.Link.faults c.args.link.now) (g.L.Link.faults c.serve_piece.new.link)) piece c.now-now.result s
      c.now-now.ensures.value c.now-now.ensures.keeps c.now-now.ensures.after came,
  λ some. c.serve_piece.ensures.room ∙ c.in-Ok.ensures.room ∙ sym c.recv-got.auto.into,
)

pub returns-clause-made : goal.returns-clause-made
returns-clause-made g c = λ draw first start moments starts.
    let grounds : Grounds = grounds_of c.args.settings.now.shake (g.G.Signer.signature_of c.args.signer.now) (g.G.Signer.counts c.args.signer.now) draw in
    let end : c.loop-turn.turn ≡ c.args.turns = omega (arith, c.loop-turn-test.false, c.loop-turn.auto.turn-end) in
    rw c.ending_at-2.ensures
    (spent_there c.loop-turn.turn c.args.turns grounds start first moments (g.L.Link.incoming c.args.link.now) (g.L.Link.incoming c.loop-turn.link) (g.L.Link.sent c.loop-turn.link) c.loop-turn.core
    (g.E.Entropy.draw c.loop-turn.entropy) (g.H.Hub.stands c.loop-turn.hub) (g.J.JobSink.told c.loop-turn.jobs) (g.C.Clock.tells c.loop-turn.clock) (g.C.Clock.moment c.loop-turn.clock)
    (Rose (g.L.Link.faults c.args.link.now) (g.L.Link.faults c.loop-turn.link)) c.loop-turn.now (c.loop-turn.invariant.7 draw first start moments starts) end)
