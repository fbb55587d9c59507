use Rattle.std.proofs.Common.{◌≡◌, List, [], ◌++◌, ℕ, map, drop, sym, ap, ◌∙◌, append-nil}
use Rattle.std.proofs.lemmas.List.{drop_all}
use Rattle.ra_chan_server.specs.View.{call_of}
use Rattle.ra_chan_server.proofs.Several.{opened_after, calls_after, opens_are}
use Rattle.ra_chan_server.proofs.requests.Requests.open_all.Goals as goal

pub returns-clause-after : goal.returns-clause-after
returns-clause-after c = λ channel is.
    let all : drop c.loop-id.id-index c.args.ids.now ≡ [] = drop_all c.loop-id.id-index c.args.ids.now c.loop-id-test.false in
    sym (ap (λ (ids : List ℕ). opened_after ids c.loop-id.self) all) ∙ c.loop-id.invariant.after ∙ ap (λ (ids : List ℕ). opened_after ids c.args.self.now) is
    ∙ (opens_are channel [] c.args.self.now c.requires.own).0

pub returns-clause-calls : goal.returns-clause-calls
returns-clause-calls c = λ channel is.
    let all : drop c.loop-id.id-index c.args.ids.now ≡ [] = drop_all c.loop-id.id-index c.args.ids.now c.loop-id-test.false in
    sym (append-nil (map call_of c.loop-id.calls.items))
    ∙ sym (ap (λ (ids : List ℕ). map call_of c.loop-id.calls.items ++ calls_after ids c.loop-id.self) all) ∙ c.loop-id.invariant.calls
    ∙ ap (λ (ids : List ℕ). map call_of c.args.calls.now.items ++ calls_after ids c.args.self.now) is
    ∙ ap (λ calls. map call_of c.args.calls.now.items ++ calls) (opens_are channel [] c.args.self.now c.requires.own).1
