-- Two endpoints and the links between them.
use Rattle.std.specs.Prelude.{ℕ, true, false, List, []}
use Rattle.ra_model.specs.declared.frame.Frame.{Frame}
use Rattle.ra_base.specs.declared.event.Side.{Side}
use Rattle.ra_base.specs.declared.event.Side.TheVariants.{A, B}
use Rattle.ra_model.specs.Endpoints.{Endpoint, new_endpoint}
use Rattle.ra_model.specs.Links.{Link}

-- an endpoint, the messages that it handed up, and the frames that it applied on its present link
pub record Peer : Type 0 where
  pub endpoint : Endpoint
  pub heard : List (List ℕ)
  pub applied : List Frame

abbrev pub with_endpoint : Endpoint → Peer → Peer
with_endpoint endpoint p = record { endpoint = endpoint; heard = p.heard; applied = p.applied }

pub record World : Type 0 where
  pub now : ℕ
  pub a : Peer
  pub b : Peer
  pub links : List Link

-- two new endpoints and no link. A keeps alive, B does not
abbrev pub new_world : ℕ → World
new_world base = record {
  now = 0;
  a = record { endpoint = new_endpoint base 0 true; heard = []; applied = [] };
  b = record { endpoint = new_endpoint base 0 false; heard = []; applied = [] };
  links = [];
}

abbrev pub peer : Side → World → Peer
peer A w = w.a
peer B w = w.b

abbrev pub with_peer : Side → Peer → World → World
with_peer A p w = record { now = w.now; a = p; b = w.b; links = w.links }
with_peer B p w = record { now = w.now; a = w.a; b = p; links = w.links }

abbrev pub with_links : List Link → World → World
with_links links w = record { now = w.now; a = w.a; b = w.b; links = links }
