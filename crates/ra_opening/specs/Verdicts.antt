-- What a server writes when it has judged a request.
use Rattle.std.specs.Prelude.{ℕ, List, [], ◌++◌}
use Rattle.ra_base.specs.declared.handshake.Reason.{Reason}
use Rattle.ra_base.specs.declared.kind.Kind.{Kind}
use Rattle.ra_base.specs.declared.kind.Kind.TheVariants.{Management, ExtensionHost, Tunnel}
use Rattle.ra_model.specs.Frames.{frame_bytes}
use Rattle.ra_model.specs.FrameKinds.{control_frame, pause_frame}
use Rattle.ra_shake.specs.Texts.{accept_text, refuse_text}

-- a refusal
abbrev pub refusal_bytes : Reason → List ℕ
refusal_bytes reason = frame_bytes (control_frame (refuse_text reason))

-- an acceptance; an extension host begins paused
abbrev pub acceptance_bytes : Kind → List ℕ
acceptance_bytes Management = frame_bytes (control_frame (accept_text Management))
acceptance_bytes ExtensionHost = frame_bytes pause_frame ++ frame_bytes (control_frame (accept_text ExtensionHost))
acceptance_bytes Tunnel = []
