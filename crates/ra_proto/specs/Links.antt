-- What calls leave as it is.
use Rattle.std.specs.Prelude.{◌≡◌}
use Rattle.ra_model.specs.EndpointStates.{EndpointState}

-- the link, or its loss, is as it was
pub record SameLink (old new : EndpointState) : Type 0 where
  pub phase : new.phase ≡ old.phase
  pub epoch : new.epoch ≡ old.epoch
