-- A link that begins, and is joined at once.
use Rattle.std.specs.Prelude.{ℕ, Bool, if◌then◌else◌}
use Rattle.ra_model.specs.Endpoints.{Endpoint, is_joining}
use Rattle.ra_model.specs.Calls.{finish, ask_resume}

-- a reconnection ends
abbrev pub rejoined : ℕ → Endpoint → Endpoint
rejoined now e = if is_joining e.phase then finish now e else e

-- and a Resume is written, where the peer waits for it
abbrev pub joined : Bool → ℕ → Endpoint → Endpoint
joined with_resume now e = if with_resume then ask_resume (rejoined now e) else rejoined now e
