-- An id as it stands in a packet.
use Rattle.std.proofs.Common.{◌≡◌, ℤ, ◌<◌, ◌^◌, w32, to_z, of_z, arith}
use Rattle.std.proofs.lemmas.Int.{of_z-to_z}
use Rattle.ra_ipc.specs.View.{id_of}

pub same_id : (id : ℤ) → id_of id < 2 ^ 31 → id_of (to_z w32 (of_z w32 id)) ≡ id_of id
same_id id small = of_z-to_z w32 (of_z w32 id) (omega arith)
