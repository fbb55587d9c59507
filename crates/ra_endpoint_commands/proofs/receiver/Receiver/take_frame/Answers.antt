use Rattle.std.proofs.Common.{◌≡◌, ◌∙◌, ◌-◌, true, false, sym, ap, refl}
use Rattle.std.specs.Prelude.{Ok}
use Rattle.ra_model.specs.Endpoints.{is_ended}
use Rattle.ra_endpoint_commands.specs.Receive.{after_frame}
use Rattle.ra_endpoint_commands.specs.Progress.{Progress, endpoint_of}
use Rattle.ra_endpoint_commands.proofs.Outlooks.{look_frame, look_ended, look_fault}
use Rattle.ra_endpoint_commands.proofs.receiver.Receiver.take_frame.Goals as goal

pub returns-then-branch : goal.returns-then-branch
returns-then-branch c =
    let inside = c.self.inside in
    let p : Progress = record { end = inside.end; unread = inside.reader; fed = inside.fed } in
    let r : Progress = record { end = c.hear.new.end; unread = c.next.new.self; fed = inside.fed } in
    let found = rw c.in-Ok-Some.field-0-is at c.in-Ok-Some.ensures.found in
    let heard = c.in_ok-hear-in-Ok-Some.ensures in
    let left : is_ended (after_frame c.in-Ok-Some.frame (endpoint_of inside.end)).phase ≡ true = sym heard.left ∙ c.if-branch.true in
    look_ended p c.args.self.now r c.in-Ok-Some.frame c.next.new.self _ _ c.self.view_is c.requires found left
    (heard.ended (ap (λ b. Ok b) c.if-branch.true)) refl refl heard.text

pub returns-else-branch : goal.returns-else-branch
returns-else-branch c =
    let inside = c.self.inside in
    let p : Progress = record { end = inside.end; unread = inside.reader; fed = inside.fed } in
    let r : Progress = record { end = c.hear.new.end; unread = c.next.new.self; fed = inside.fed } in
    let found = rw c.in-Ok-Some.field-0-is at c.in-Ok-Some.ensures.found in
    let heard = c.in_ok-hear-in-Ok-Some.ensures in
    let there : is_ended (after_frame c.in-Ok-Some.frame (endpoint_of inside.end)).phase ≡ false = sym heard.left ∙ c.if-branch.false in
    look_frame p c.args.self.now r c.in-Ok-Some.frame c.next.new.self _ _ c.self.view_is c.requires found there
    (heard.«open» (ap (λ b. Ok b) c.if-branch.false)) (heard.listening (ap (λ b. Ok b) c.if-branch.false)) refl refl heard.text

pub returns-in-Err : goal.returns-in-Err
returns-in-Err c =
    let inside = c.self.inside in
    let p : Progress = record { end = inside.end; unread = inside.reader; fed = inside.fed } in
    look_fault p c.args.self.now _ c.in-Err.fault _ _ _ c.refuse.result c.self.view_is c.in-Err.ensures.too_long (ap (λ n. inside.fed - n) c.rest_len.ensures) c.refuse.ensures
