-- The table of the shipped tools.
use Rattle.std.specs.Prelude.{ℕ, List, length, Bool, Option, Some, None, bytes_eq, codes, if◌then◌else◌}
use Rattle.ra_values.specs.Tree.{Tree, undefined, text, buffer, vs_buffer, array, object, int}
use Rattle.ra_ipc.specs.Messages.{Reply, success, error}
use Rattle.ra_app.specs.Effects.{Effect, quiet}

-- an error with this JSON text
abbrev pub fails_with : List ℕ → Effect
fails_with json = quiet (error (object json))

-- how many bytes a text has
abbrev pub length_of : Tree → Effect
length_of (text t) = quiet (success (int (length t)))
length_of _ = fails_with (codes "{\"message\":\"not a text\",\"name\":\"Error\"}")

-- the argument goes out as the event `said`
abbrev pub told : Tree → Effect
told arg = record { answer = success undefined; event = Some (record { name = codes "said"; body = arg }) }

abbrev pub tools : List ℕ → Tree → Bool → Effect
tools name arg cancelled =
    if cancelled then fails_with (codes "{\"message\":\"Canceled\",\"name\":\"Canceled\"}")
    else (if bytes_eq name (codes "echo") then quiet (success arg)
    else (if bytes_eq name (codes "length") then length_of arg
    else (if bytes_eq name (codes "fail") then fails_with (codes "{\"message\":\"failed\",\"name\":\"Error\"}")
    else (if bytes_eq name (codes "say") then told arg
    else fails_with (codes "{\"message\":\"unknown name\",\"name\":\"Error\"}")))))
