-- The order of the kinds of sessions.
use Rattle.std.specs.Prelude.{ℕ}
use Rattle.ra_base.specs.declared.kind.Kind.{Kind}
use Rattle.ra_base.specs.declared.kind.Kind.TheVariants.{Management, ExtensionHost, Tunnel}

-- the place of a kind among the kinds
abbrev pub rank : Kind → ℕ
rank Management = 0
rank ExtensionHost = 1
rank Tunnel = 2
