-- No header that states too long a body comes to an endpoint of a view.
use Rattle.std.proofs.Common.{◌≡◌, ℕ, ◌≤◌, true, false, ◌&&◌, None, List, refl}
use Rattle.std.proofs.lemmas.Bool.{cond-false}
use Rattle.ra_model.specs.declared.session.Phase.{Phase}
use Rattle.ra_model.specs.declared.session.Phase.TheVariants.{Away, Joining, Up, Ended}
use Rattle.ra_model.specs.Frames.{last_id}
use Rattle.ra_model.specs.FirstFrame.{is_too_long}
use Rattle.ra_model.specs.Endpoints.{is_linked}
use Rattle.ra_model.specs.Worlds.{Peer, new_world, peer}
use Rattle.ra_model.specs.Links.{Link}
use Rattle.ra_model.specs.Refusals.{take_refusal}
use Rattle.ra_model.specs.Events.{run}
use Rattle.ra_base.specs.declared.event.Side.{Side}
use Rattle.ra_base.specs.declared.event.Event.{Event}
use Rattle.ra_model.proofs.Incoming.{unread_within}
use Rattle.ra_model.specs.Views.{View}
use Rattle.ra_model.proofs.EveryRun.{view_of}

takes : (phase : Phase) (unread : List ℕ) → (is_linked phase ≡ true → is_too_long unread ≡ false) → (is_linked phase && is_too_long unread) ≡ false
takes Away unread within = refl
takes Joining unread within = within refl
takes Up unread within = within refl
takes Ended unread within = refl

pub never_too_long : {start : ℕ} {s : Side} {i j : ℕ} {p o : Peer} {links : List Link} → View start s i j p o links → take_refusal p.endpoint ≡ None
never_too_long {p = p} v = cond-false _ _ _ (takes p.endpoint.phase p.endpoint.unread (λ up. unread_within v.reads v.theirs up))

pub never_refused : (base : ℕ) (events : List Event) (s : Side) → base ≤ last_id → take_refusal (peer s (run events (new_world base))).endpoint ≡ None
never_refused base events s fits = never_too_long (view_of base events s fits)
