-- The channels of a client and of the session of its key, while one of the two changes.
use Rattle.std.proofs.Common.{◌≡◌, ℕ, Bool, true, false, cond, Option, Some, None, List, refl, sym, ◌∙◌, subst}
use Rattle.std.specs.Prelude.{option_map}
use Rattle.std.specs.Option.{is_some}
use Rattle.std.proofs.lemmas.Bool.{cond_both}
use Rattle.ra_base.specs.declared.key.Cause.TheVariants.{GraceOver}
use Rattle.ra_base.specs.declared.kind.Kind.{Kind}
use Rattle.ra_base.specs.declared.kind.Kind.TheVariants.{Management, ExtensionHost, Tunnel}
use Rattle.ra_values.specs.Tree.{Tree}
use Rattle.ra_ipc.specs.ChannelPairs.{Outcome}
use Rattle.ra_session.specs.SessionCalls.{end_session, tick_session}
use Rattle.ra_session.specs.SessionRefusals.{Refusal, tick_refusal}
use Rattle.ra_session.specs.Sessions.{Session}
use Rattle.ra_hub.specs.Sweeps.{swept, tick_one}
use Rattle.ra_channel_laws.specs.Channels.{ChannelsHold, SaysNothing}
use Rattle.ra_channel_laws.proofs.Answering.{server_tick, client_tick}
use Rattle.ra_channel_laws.proofs.Links.{client_silent, server_silent}
use Rattle.ra_channel_laws.proofs.Silence.{silent_end}
use Rattle.ra_grand_runs.specs.SetUps.{context}
use Rattle.ra_grand_laws.specs.ChannelParts.{HearsNone, ChannelsOf}

-- ---- the client's session

-- it becomes another, and nothing is handed up
abbrev pub Stays : Kind → Option Session → Session → Session → Type 0
Stays kind session d e = (settled : List (ℕ × Outcome)) (fired : List (ℕ × Tree)) → ChannelsOf kind session d settled fired → ChannelsOf kind session e settled fired

pub stays_itself : (kind : Kind) (session : Option Session) (d : Session) → Stays kind session d d
stays_itself kind session d settled fired h = h

pub stays_on : (kind : Kind) (session : Option Session) (c d e : Session) → Stays kind session c d → Stays kind session d e → Stays kind session c e
stays_on kind session c d e one two settled fired h = two settled fired (one settled fired h)

silent_hears : (call : Session → Session) (d : Session) → SaysNothing call d → HearsNone d → HearsNone (call d)
silent_hears call d says hears = record { kind = says.kind ∙ hears.kind; cause = says.cause hears.cause }

-- a call that says nothing and hears nothing
pub stays_silent : (kind : Kind) (session : Option Session) (call : Session → Session) (d : Session) → SaysNothing call d → Stays kind session d (call d)
stays_silent Management session call d says settled fired (s, is, h) = (s, is, client_silent context d s settled fired call says h)
stays_silent ExtensionHost session call d says settled fired (hears, other, none, empty) = (silent_hears call d says hears, other, none, empty)
stays_silent Tunnel session call d says settled fired h = tt

ticked_hears : (now : ℕ) (d : Session) → HearsNone d → HearsNone (tick_session now d)
unfolding tick_session
ticked_hears now d hears =
    cond_both (is_some d.cause) d _ (λ (x : Session). HearsNone x) (λ _. hears) (λ _. record { kind = hears.kind; cause = hears.cause })

-- a moment passes
pub stays_ticked : (kind : Kind) (session : Option Session) (now : ℕ) (d : Session) → Stays kind session d (tick_session now d)
stays_ticked Management session now d settled fired (s, is, h) = (s, is, client_tick context d s settled fired now h)
stays_ticked ExtensionHost session now d settled fired (hears, other, none, empty) = (ticked_hears now d hears, other, none, empty)
stays_ticked Tunnel session now d settled fired h = tt

-- ---- the server's session

-- it becomes another
abbrev pub Becomes : Kind → Option Session → Option Session → Type 0
Becomes kind o p = (d : Session) (settled : List (ℕ × Outcome)) (fired : List (ℕ × Tree)) → ChannelsOf kind o d settled fired → ChannelsOf kind p d settled fired

pub becomes_itself : (kind : Kind) (o p : Option Session) → p ≡ o → Becomes kind o p
becomes_itself kind o p same d settled fired h = subst (λ (x : Option Session). ChannelsOf kind x d settled fired) (sym same) h

-- what a call of any session keeps
pub record KeepsEnd (call : Session → Session) : Type 0 where
  pub channels : (d s : Session) (settled : List (ℕ × Outcome)) (fired : List (ℕ × Tree)) → ChannelsHold context d s settled fired → ChannelsHold context d (call s) settled fired
  pub hears : (s : Session) → HearsNone s → HearsNone (call s)

pub becomes_mapped : (kind : Kind) (o : Option Session) (call : Session → Session) → KeepsEnd call → Becomes kind o (option_map call o)
becomes_mapped Management None call keeps d settled fired h = h
becomes_mapped Management (Some t) call keeps d settled fired (s, is, h) =
    (call t, refl, keeps.channels d t settled fired (subst (λ (x : Session). ChannelsHold context d x settled fired) is h))
becomes_mapped ExtensionHost None call keeps d settled fired h = h
becomes_mapped ExtensionHost (Some t) call keeps d settled fired (hears, other, none, empty) = (hears, keeps.hears t other, none, empty)
becomes_mapped Tunnel o call keeps d settled fired h = tt

pub keeps_end_itself : KeepsEnd (λ (s : Session). s)
keeps_end_itself = record { channels = λ d s settled fired h. h; hears = λ s h. h }

pub keeps_end_silent : (call : Session → Session) → ((s : Session) → SaysNothing call s) → KeepsEnd call
keeps_end_silent call says = record {
  channels = λ d s settled fired h. server_silent context d s settled fired call (says s) h;
  hears = λ s h. silent_hears call s (says s) h;
}

pub keeps_end_if : (b : Bool) (f g : Session → Session) → KeepsEnd f → KeepsEnd g → KeepsEnd (λ (s : Session). cond b (f s) (g s))
keeps_end_if true f g so other = so
keeps_end_if false f g so other = other

-- ---- sweeps

unspent : (o : Option Refusal) → is_some o ≡ false → o ≡ None
unspent None is = refl
unspent (Some refusal) is = absurd cc

keeps_tick_one : (now : ℕ) → KeepsEnd (tick_one now)
keeps_tick_one now = record {
  channels = λ d s settled fired h.
      cond_both (is_some (tick_refusal now s)) s (tick_session now s) (λ (x : Session). ChannelsHold context d x settled fired) (λ _. h)
      (λ free. server_tick context d s settled fired now (unspent (tick_refusal now s) free) h);
  hears = λ s h. cond_both (is_some (tick_refusal now s)) s (tick_session now s) (λ (x : Session). HearsNone x) (λ _. h) (λ _. ticked_hears now s h);
}

pub keeps_swept : (over left : Bool) (now : ℕ) → KeepsEnd (swept over left now)
keeps_swept over left now =
    keeps_end_if over (end_session GraceOver) (λ (s : Session). cond left s (tick_one now s))
    (keeps_end_silent (end_session GraceOver) (λ s. silent_end GraceOver s (λ is. cc)))
    (keeps_end_if left (λ (s : Session). s) (tick_one now) keeps_end_itself (keeps_tick_one now))
