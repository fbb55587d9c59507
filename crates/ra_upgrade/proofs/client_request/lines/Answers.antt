use Rattle.ra_upgrade.proofs.RequestLemmas.{request_lines}
use Rattle.ra_upgrade.proofs.client_request.lines.Goals as goal

pub returns : goal.returns
returns c =
    rw (
      c.in_ok-push_str-6.ensures.bytes,
      c.in_ok-push_str-5.ensures.bytes,
      c.in_ok-push_str-4.ensures.bytes,
      c.in_ok-push_str-3.ensures.bytes,
      c.in_ok-push_str-2.ensures.bytes,
      c.in_ok-push_str.ensures.bytes,
      c.in_ok-text.ensures.ok,
    )
    (request_lines c.args.host.now c.args.query.now c.args.key.now)
