use Rattle.std.proofs.Common.{◌≡◌, List, [], ℕ, drop, sym, ap, ◌∙◌}
use Rattle.std.proofs.lemmas.List.{drop_all}
use Rattle.ra_chan_server.proofs.Several.{left_after, left_is}
use Rattle.ra_chan_server.proofs.requests.Requests.take_all.Goals as goal

pub returns : goal.returns
returns c = λ test is.
    let all : drop c.loop-id.id-index c.args.ids.now ≡ [] = drop_all c.loop-id.id-index c.args.ids.now c.loop-id-test.false in
    sym (ap (λ (ids : List ℕ). left_after ids c.loop-id.self) all) ∙ c.loop-id.invariant ∙ ap (λ (ids : List ℕ). left_after ids c.args.self.now) is
    ∙ left_is test [] c.args.self.now c.requires
