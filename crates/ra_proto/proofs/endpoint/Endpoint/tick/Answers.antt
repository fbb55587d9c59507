use Rattle.std.proofs.Common.{◌≡◌, sym, ◌∙◌, ap, ◌&&◌, Bool, true, false}
use Rattle.ra_model.proofs.Stands.{tick_stands, tick_down_stands, times_out_is}
use Rattle.ra_proto.proofs.endpoint.Endpoint.tick.Goals as goal

where_true : (a b : Bool) → a ≡ true → (a && b) ≡ b
where_true a b is = ap (λ x. x && b) is

where_false : (a b : Bool) → a ≡ false → (a && b) ≡ false
where_false a b is = ap (λ x. x && b) is

pub returns-then-not-is_up-clause-stands : goal.returns-then-not-is_up-clause-stands
returns-then-not-is_up-clause-stands c = rw (← c.self.view_is) (tick_down_stands c.args.now _ (sym c.is_up-is_up.ensures ∙ c.if-not-is_up.true))

pub returns-then-not-is_up-clause-timeout : goal.returns-then-not-is_up-clause-timeout
returns-then-not-is_up-clause-timeout c = rw (← c.self.view_is) (λ e h. sym (times_out_is c.args.now _ e h ∙ where_false _ _ (sym c.is_up-is_up.ensures ∙ c.if-not-is_up.true)))

pub returns-clause-stands : goal.returns-clause-stands
returns-clause-stands c =
    rw (c.keep_alive_served-self-inside.ensures.timing, c.timeout_served-self-inside.ensures.timing, c.acknowledge_served-self-inside.ensures.timing, c.waits-is_waiting.ensures, c.oldest_written-oldest.ensures, c.told_after-self-inside.ensures, c.in_ok-append_tick.ensures.ok, c.acks-writes_ack.ensures, c.is_due-writes_keep_alive.ensures, c.is_up-is_up.ensures, c.later-now.ensures.value, ← c.self.view_is)
    (tick_stands c.args.now _ (sym c.is_up-is_up.ensures ∙ c.if-not-is_up.false))

pub returns-clause-timeout : goal.returns-clause-timeout
returns-clause-timeout c =
    rw (c.fires-is_timeout.ensures, c.waits-is_waiting.ensures, c.oldest_written-oldest.ensures, c.is_up-is_up.ensures, c.later-now.ensures.value, ← c.self.view_is)
    (λ e h. sym (times_out_is c.args.now _ e h ∙ where_true _ _ (sym c.is_up-is_up.ensures ∙ c.if-not-is_up.false)))
