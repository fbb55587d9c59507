use Rattle.std.proofs.Common.{◌≡◌, rules, w32, to_z, of_z}
use Rattle.std.proofs.lemmas.Int.{to_z-of_z, ints}
use Rattle.ra_grand.specs.GrandStates.{StandsForGrand}
use Rattle.ra_grand.proofs.ApplySteps.{applies_at, applies_step, applies_frame, applies_lost, applies_stop, applies_cancel, applies_dispose, applies_client, applies_linked, applies_no_link, applies_down, applies_cut, applies_gone, applies_up, applies_idle}
use Rattle.ra_grand.proofs.world.GrandWorld.apply.Goals as goal

pub returns-in-At : goal.returns-in-At
returns-in-At c = rw c.in-At.is (λ w stands. applies_at c.at.result c.in-At.now w (StandsForGrand c.at.new.self) c.at.ensures.effect (c.at.ensures.changed w stands))

pub returns-in-Step : goal.returns-in-Step
returns-in-Step c = rw c.in-Step.is (λ w stands. applies_step c.dial.result c.in-Step.client w (StandsForGrand c.dial.new.self) (c.dial.ensures w stands))

pub returns-in-Frame : goal.returns-in-Frame
returns-in-Frame c = rw c.in-Frame.is (λ w stands. applies_frame c.dial-in-Frame.result c.in-Frame.client w (StandsForGrand c.dial-in-Frame.new.self) (c.dial-in-Frame.ensures w stands))

pub returns-in-Lost : goal.returns-in-Lost
returns-in-Lost c = rw c.in-Lost.is (λ w stands. applies_lost c.dial-in-Lost.result c.in-Lost.client w (StandsForGrand c.dial-in-Lost.new.self) (c.dial-in-Lost.ensures w stands))

pub returns-in-Stop : goal.returns-in-Stop
returns-in-Stop c = rw c.in-Stop.is (λ w stands. applies_stop c.dial-in-Stop.result c.in-Stop.client w (StandsForGrand c.dial-in-Stop.new.self) (c.dial-in-Stop.ensures w stands))

pub returns-in-Cancel : goal.returns-in-Cancel
returns-in-Cancel c =
    let same : to_z w32 (of_z w32 c.in-Cancel.id) ≡ c.in-Cancel.id = search (rules, ints, to_z-of_z, c.in-Cancel.is, c.well_formed) in
    rw c.in-Cancel.is (λ w stands. applies_cancel c.cancel.result c.in-Cancel.client c.in-Cancel.id w (StandsForGrand c.cancel.new.self) (rw same at c.cancel.ensures w stands))

pub returns-in-Dispose : goal.returns-in-Dispose
returns-in-Dispose c =
    let same : to_z w32 (of_z w32 c.in-Dispose.id) ≡ c.in-Dispose.id = search (rules, ints, to_z-of_z, c.in-Dispose.is, c.well_formed) in
    rw c.in-Dispose.is (λ w stands. applies_dispose c.dispose.result c.in-Dispose.client c.in-Dispose.id w (StandsForGrand c.dispose.new.self) (rw same at c.dispose.ensures w stands))

pub returns-in-Client : goal.returns-in-Client
returns-in-Client c =
    let clause = rw c.same.ensures at c.client.ensures in
    rw c.in-Client.is (λ w stands. applies_client c.client.result c.in-Client.key w (StandsForGrand c.client.new.self) (clause w stands))

pub returns-in-Linked : goal.returns-in-Linked
returns-in-Linked c = rw c.in-Linked.is (λ w stands. applies_linked c.linked.result c.in-Linked.client w (StandsForGrand c.linked.new.self) (c.linked.ensures w stands))

pub returns-in-NoLink : goal.returns-in-NoLink
returns-in-NoLink c = rw c.in-NoLink.is (λ w stands. applies_no_link c.no_link.result c.in-NoLink.client w (StandsForGrand c.no_link.new.self) (c.no_link.ensures w stands))

pub returns-in-Up : goal.returns-in-Up
returns-in-Up c = rw c.in-Up.is (λ w stands. applies_up c.up.result c.in-Up.link c.in-Up.count w (StandsForGrand c.up.new.self) (c.up.ensures w stands))

pub returns-in-Idle : goal.returns-in-Idle
returns-in-Idle c = rw c.in-Idle.is (λ w stands. applies_idle c.idle.result c.in-Idle.link w (StandsForGrand c.idle.new.self) (c.idle.ensures w stands))

pub returns-in-Down : goal.returns-in-Down
returns-in-Down c = rw c.in-Down.is (λ w stands. applies_down c.down.result c.in-Down.link c.in-Down.count w (StandsForGrand c.down.new.self) (c.down.ensures w stands))

pub returns-in-Cut : goal.returns-in-Cut
returns-in-Cut c = rw c.in-Cut.is (λ w stands. applies_cut c.cut.result c.in-Cut.link w (StandsForGrand c.cut.new.self) (c.cut.ensures w stands))

pub returns-in-Gone : goal.returns-in-Gone
returns-in-Gone c = rw c.in-Gone.is (λ w stands. applies_gone c.gone.result c.in-Gone.link w (StandsForGrand c.gone.new.self) (c.gone.ensures w stands))
