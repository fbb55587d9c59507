-- The ack of a frame counts behind a call that wrote bytes.
use Rattle.std.proofs.Common.{◌≡◌, ℕ, List, ◌++◌, ap, ◌∙◌}
use Rattle.ra_model.specs.EndpointStates.{EndpointState}
use Rattle.ra_proto.specs.Passed.{passed}

pub with_unwritten : (ack now : ℕ) (more : EndpointState → List ℕ) (v s : EndpointState) (out : List ℕ) → v ≡ s → out ≡ v.unwritten ++ more v
    → passed ack now (record v { unwritten = out }) ≡ passed ack now (record s { unwritten = s.unwritten ++ more s })
with_unwritten ack now more v s out same is =
    ap (λ (o : List ℕ). passed ack now (record v { unwritten = o })) is
    ∙ ap (λ (x : EndpointState). passed ack now (record x { unwritten = x.unwritten ++ more x })) same
