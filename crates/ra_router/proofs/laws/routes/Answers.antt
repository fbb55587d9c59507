use Rattle.ra_router.proofs.Settled.{hops_answered, hops_answered_there, hops_answered_once}
use Rattle.ra_router.proofs.Handed.{hops_delivered, delivered_in_order}
use Rattle.ra_router.proofs.Nexts.{nexts_answered}
use Rattle.ra_router.proofs.Refused.{others_refused, others_refused_there}
use Rattle.ra_router.proofs.Replied.{answers_apart, hops_made, replies_settle, replies_refused}
use Rattle.ra_router.proofs.laws.routes.Goals as goal

pub returns-clause-answered : goal.returns-clause-answered
returns-clause-answered c = hops_answered

pub returns-clause-there : goal.returns-clause-there
returns-clause-there c = hops_answered_there

pub returns-clause-once : goal.returns-clause-once
returns-clause-once c = hops_answered_once

pub returns-clause-delivered : goal.returns-clause-delivered
returns-clause-delivered c = hops_delivered

pub returns-clause-nexts : goal.returns-clause-nexts
returns-clause-nexts c = nexts_answered

pub returns-clause-order : goal.returns-clause-order
returns-clause-order c = delivered_in_order

pub returns-clause-refused : goal.returns-clause-refused
returns-clause-refused c = others_refused

pub returns-clause-refused_there : goal.returns-clause-refused_there
returns-clause-refused_there c = others_refused_there

pub returns-clause-apart : goal.returns-clause-apart
returns-clause-apart c = answers_apart

pub returns-clause-made : goal.returns-clause-made
returns-clause-made c = hops_made

pub returns-clause-settle : goal.returns-clause-settle
returns-clause-settle c = replies_settle

pub returns-clause-no_call : goal.returns-clause-no_call
returns-clause-no_call c = replies_refused
