use Rattle.std.proofs.Common.{◌+◌, refl, ap, ◌∙◌, arith}
use Rattle.std.specs.Prelude.{Some, ⊤}
use Rattle.ra_tunnel.specs.Ends.{IsWhole, client_ended, target_ended}
use Rattle.ra_tunnel.proofs.FlowLemmas.{piped_none, piped_more, rose_earlier, asked_more}
use Rattle.ra_tunnel.proofs.piping.pipe.Goals as goal

pub loop-turn-init : goal.loop-turn-init
loop-turn-init g c = record {
  piped = piped_none _ _ ⊤;
  asked = (refl, refl);
  client_goes = refl;
  target_goes = refl;
  client_later = omega arith;
  target_later = omega arith;
}

pub loop-turn-preserved : goal.loop-turn-preserved
loop-turn-preserved g c =
    let k = c.loop-turn.invariant in
    let e = c.in-None.ensures in
    let a = k.client_later in
    let b = k.target_later in
    let d = e.client_later in
    let f = e.target_later in
    record {
      piped = piped_more _ _ _ _ _ _ ⊤ ⊤ tt k.piped e.piped;
      asked = asked_more c.loop-turn.turn _ _ _ _ _ _ k.asked e.asked;
      client_goes = e.client_ended ∙ k.client_goes;
      target_goes = e.target_ended ∙ k.target_goes;
      client_later = omega arith;
      target_later = omega arith;
    }

pub returns-in-Some-clause-piped : goal.returns-in-Some-clause-piped
returns-in-Some-clause-piped g c =
    piped_more _ _ _ _ _ _ ⊤ (IsWhole c.in-Some.end) tt c.loop-turn.invariant.piped c.in-Some.ensures.piped

pub returns-in-Some-clause-calls : goal.returns-in-Some-clause-calls
returns-in-Some-clause-calls g c =
    let less = c.loop-turn-test.true in
    record {
      reads = c.loop-turn.turn + 1;
      within = omega arith;
      asked = asked_more c.loop-turn.turn _ _ _ _ _ _ c.loop-turn.invariant.asked c.in-Some.ensures.asked;
      spent = λ e. absurd (c.in-Some.ensures.goes_on (ap Some e));
    }

pub returns-in-Some-clause-client_ended : goal.returns-in-Some-clause-client_ended
returns-in-Some-clause-client_ended g c =
    c.in-Some.ensures.client_ended ∙ ap (λ b. client_ended c.in-Some.end b) c.loop-turn.invariant.client_goes

pub returns-in-Some-clause-target_ended : goal.returns-in-Some-clause-target_ended
returns-in-Some-clause-target_ended g c =
    c.in-Some.ensures.target_ended ∙ ap (λ b. target_ended c.in-Some.end b) c.loop-turn.invariant.target_goes

pub returns-in-Some-clause-client_later : goal.returns-in-Some-clause-client_later
returns-in-Some-clause-client_later g c = let a = c.loop-turn.invariant.client_later in let b = c.in-Some.ensures.client_later in omega arith

pub returns-in-Some-clause-target_later : goal.returns-in-Some-clause-target_later
returns-in-Some-clause-target_later g c = let a = c.loop-turn.invariant.target_later in let b = c.in-Some.ensures.target_later in omega arith

pub returns-in-Some-clause-client_fault : goal.returns-in-Some-clause-client_fault
returns-in-Some-clause-client_fault g c = λ e. rose_earlier _ _ _ c.loop-turn.invariant.client_later (c.in-Some.ensures.client_fault (ap Some e))

pub returns-in-Some-clause-target_fault : goal.returns-in-Some-clause-target_fault
returns-in-Some-clause-target_fault g c = λ e. rose_earlier _ _ _ c.loop-turn.invariant.target_later (c.in-Some.ensures.target_fault (ap Some e))

pub returns-clause-piped : goal.returns-clause-piped
returns-clause-piped g c = c.loop-turn.invariant.piped

pub returns-clause-calls : goal.returns-clause-calls
returns-clause-calls g c =
    let least = c.loop-turn-test.false in
    let most = c.loop-turn.auto.turn-end in
    record {
      reads = c.loop-turn.turn;
      within = omega arith;
      asked = c.loop-turn.invariant.asked;
      spent = λ _. omega arith;
    }

pub returns-clause-client_ended : goal.returns-clause-client_ended
returns-clause-client_ended g c = c.loop-turn.invariant.client_goes

pub returns-clause-target_ended : goal.returns-clause-target_ended
returns-clause-target_ended g c = c.loop-turn.invariant.target_goes

pub returns-clause-client_later : goal.returns-clause-client_later
returns-clause-client_later g c = c.loop-turn.invariant.client_later

pub returns-clause-target_later : goal.returns-clause-target_later
returns-clause-target_later g c = c.loop-turn.invariant.target_later

pub returns-clause-client_fault : goal.returns-clause-client_fault
returns-clause-client_fault g c = λ e. absurd cc

pub returns-clause-target_fault : goal.returns-clause-target_fault
returns-clause-target_fault g c = λ e. absurd cc
