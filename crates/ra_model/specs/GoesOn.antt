-- Which calls never end an endpoint.
use Rattle.std.specs.Prelude.{◌≡◌, false}
use Rattle.ra_model.specs.Endpoints.{Endpoint, is_ended}

-- an endpoint that has not ended has not ended after this call
abbrev pub GoesOn : (Endpoint → Endpoint) → Type 0
GoesOn call = (e : Endpoint) → is_ended e.phase ≡ false → is_ended (call e).phase ≡ false
