-- A client is set up with what can dial.
use Rattle.std.proofs.Common.{◌≡◌, ◌≢◌, ◌≤◌, ℕ, List, [], length, refl, sym, subst, arith}
use Rattle.std.specs.Prelude.{codes}
use Rattle.std.specs.Str.{is_utf8, chars}
use Rattle.std.proofs.lemmas.Str.{IsUtf8-from_is_utf8}
use lib.Utf8.{encode}
use Rattle.ra_base.specs.declared.key.Key.{Key}
use Rattle.ra_base.specs.declared.kind.Kind.TheVariants.{Tunnel}
use Rattle.ra_model.specs.Frames.{body_limit}
use Rattle.ra_model.specs.Links.{Link}
use Rattle.ra_values.specs.declared.value.Value.{Value}
use Rattle.ra_values.specs.Spelling.{Fits, levels}
use Rattle.ra_values.specs.Tree.{Tree}
use Rattle.ra_values.specs.ValueBytes.{value_bytes, number_bytes}
use Rattle.ra_values.specs.View.{tree}
use Rattle.ra_dial.specs.Clients.{Settings, CanDial}
use Rattle.ra_dial.specs.Table.{new_dialer}
use Rattle.ra_dial.specs.DialerStates.{DialerState, StandsForDialer}
use Rattle.ra_session.specs.View.{RoleFits}
use Rattle.ra_session.specs.declared.values.Role.TheVariants as roles
use Rattle.ra_grand_clients.specs.ClientStates.{StandsForClient}
use Rattle.ra_grand_runs.specs.GrandClients.{new_client}
use Rattle.ra_grand_runs.specs.SetUps.{secret, context, settings_for}

can_dial_for : (key : Key) → key.kind ≢ Tunnel → CanDial (settings_for key)
unfolding is_utf8 chars encode
can_dial_for key kind = record {
  kind = kind;
  secret_text = IsUtf8-from_is_utf8 secret refl;
  secret_short = omega arith;
  commit_text = IsUtf8-from_is_utf8 [] refl;
  commit_short = omega arith;
  host_text = IsUtf8-from_is_utf8 (codes "localhost") refl;
}

pub can_dial : (key : Key) (s : Settings) → s ≡ settings_for key → key.kind ≢ Tunnel → CanDial s
can_dial key s is kind = subst (λ (x : Settings). CanDial x) (sym is) (can_dial_for key kind)

context_small : length (value_bytes context) ≤ body_limit
unfolding value_bytes number_bytes
context_small = omega arith

pub role_fits : (v : Value) → tree v ≡ context → RoleFits (roles.Dialling v)
unfolding is_utf8 chars encode
role_fits v is =
    subst (λ (t : Tree). Fits levels t × (length (value_bytes t) ≤ body_limit)) (sym is) ((IsUtf8-from_is_utf8 (codes "window") refl, omega arith), context_small)

new_one : (h : DialerState) (key : Key) (now : ℕ) (s : Settings) (t : Tree) → s ≡ settings_for key → t ≡ context → StandsForDialer h (new_dialer s t now)
    → StandsForClient (record { key = key; dialer = h; drawn = 0; held = []; links = [] }) (new_client key now)
new_one h key now s t settings is stands = (
  new_client key now,
  record {
    key = refl;
    dialer = subst (λ (x : Settings). StandsForDialer h (new_dialer x context now)) settings (subst (λ (x : Tree). StandsForDialer h (new_dialer s x now)) is stands);
    draws = refl;
    links = refl;
  },
  refl,
)

pub new_stands : (h : DialerState) (key : Key) (now : ℕ) (s : Settings) (t : Tree) (drawn : ℕ) (held : List ℕ) (links : List Link) → s ≡ settings_for key → t ≡ context
    → StandsForDialer h (new_dialer s t now) → drawn ≡ 0 → held ≡ [] → links ≡ []
    → StandsForClient (record { key = key; dialer = h; drawn = drawn; held = held; links = links }) (new_client key now)
new_stands h key now s t drawn held links settings is stands none empty without =
    subst (λ (n : ℕ). StandsForClient (record { key = key; dialer = h; drawn = n; held = held; links = links }) (new_client key now)) (sym none)
    (subst (λ (bs : List ℕ). StandsForClient (record { key = key; dialer = h; drawn = 0; held = bs; links = links }) (new_client key now)) (sym empty)
    (subst (λ (ls : List Link). StandsForClient (record { key = key; dialer = h; drawn = 0; held = []; links = ls }) (new_client key now)) (sym without) (new_one h key now s t settings is stands)))
