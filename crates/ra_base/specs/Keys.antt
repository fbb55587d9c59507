-- The order of the keys of sessions.
use Rattle.std.specs.Prelude.{ℕ, List}
use Rattle.std.specs.Ordering.{nat_cmp, ordering_then}
use Rattle.std.specs.declared.cmp.Ordering.{Ordering}
use Rattle.std.specs.Cmp.Lexicographic.{slice_cmp}
use Rattle.ra_base.specs.Kinds.{rank}
use Rattle.ra_base.specs.declared.key.Key.{Key}

-- by kind, and then by the bytes of the token
abbrev pub key_cmp : Key → Key → Ordering
key_cmp a b = ordering_then (nat_cmp (rank a.kind) (rank b.kind)) (slice_cmp nat_cmp a.token b.token)
