use Rattle.std.proofs.Common.{◌≡◌, refl}
use Rattle.ra_chan_server.proofs.Texts.{error_tokens, error_printed}
use Rattle.ra_chan_server.proofs.unknown.error_text.Goals as goal

pub returns-clause-text : goal.returns-clause-text
returns-clause-text c =
    let written : c.end_object.new.self.tokens ≡ error_tokens c.args.message.now =
    rw (c.in_ok-end_object.ensures.ok, c.in_ok-string-2.ensures.ok, c.in_ok-key-2.ensures.ok, c.in_ok-string.ensures.ok, c.in_ok-key.ensures.ok, c.in_ok-begin_object.ensures.ok, c.new-writer.ensures.tokens) refl in
    rw (c.into_inner.ensures.items, written, error_printed c.args.message.now, c.in_ok-end_object.ensures.room.0, c.in_ok-string-2.ensures.room.0, c.in_ok-key-2.ensures.room.0, c.in_ok-string.ensures.room.0, c.in_ok-key.ensures.room.0, c.in_ok-begin_object.ensures.room.0, c.new-writer.ensures.before, c.new.ensures.items) refl
