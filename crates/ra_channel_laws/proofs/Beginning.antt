-- Two ends that begin.
use Rattle.std.proofs.Common.{◌≡◌, ℕ, ◌-◌, ◌≤◌, true, false, ltb, None, List, [], ◌∷◌, ◌++◌, length, refl, ap, sym, ◌∙◌, subst, arith}
use Rattle.ra_base.specs.declared.kind.Kind.TheVariants.{Management}
use Rattle.ra_model.specs.Endpoints.{Endpoint, new_endpoint, sent}
use Rattle.ra_model.specs.Calls.{say}
use Rattle.ra_model.specs.Frames.{body_limit, last_id}
use Rattle.ra_model.specs.Pairs.{messages}
use Rattle.ra_model.specs.Refusals.{fault_if}
use Rattle.ra_model.proofs.Ending.{goes_say}
use Rattle.ra_values.specs.Tree.{Tree}
use Rattle.ra_values.specs.Spelling.{levels, Fits}
use Rattle.ra_values.specs.ValueBytes.{value_bytes}
use Rattle.ra_ipc.specs.Messages.{initialize}
use Rattle.ra_ipc.specs.Packets.{message_bytes}
use Rattle.ra_ipc.specs.ChannelPairs.{register}
use Rattle.ra_session.specs.Sessions.{Session, tools, new_session, on_endpoint}
use Rattle.ra_session.specs.Saying.{dialling, serving}
use Rattle.ra_session.specs.SessionRefusals.{ids_spent}
use Rattle.ra_channel_laws.specs.Channels.{ChannelsHold}
use Rattle.ra_channel_laws.proofs.Said.{CanSay, said_one, sent_one, says_all, says_runs}
use Rattle.ra_channel_laws.proofs.Sizes.{initialize_fits, initialize_small}
use Rattle.ra_channel_laws.proofs.Holding.{hold}

pub channels_begin : (context : Tree) (now later : ℕ) → Fits levels context → length (value_bytes context) ≤ body_limit
    → ChannelsHold context (dialling Management context now) (serving Management later) [] []
channels_begin context now later fits small =
    let e : Endpoint = new_endpoint 0 now true in
    let told : Session = on_endpoint (say (value_bytes context) now) (new_session Management false now) in
    let first : messages told.peer.endpoint ≡ value_bytes context ∷ [] = said_one (value_bytes context) now e refl small (omega arith) in
    let one : sent told.peer.endpoint ≡ 1 = sent_one (value_bytes context) now e first in
    let can : CanSay (initialize ∷ []) told = record {
      going = refl;
      small = (initialize_small, tt);
      room = subst (λ (n : ℕ). fault_if (ltb (last_id - n) 1) ids_spent ≡ None) (sym one) refl;
    } in
    hold context (dialling Management context now) (serving Management later) [] [] (register tools ∷ []) (record {
      client = record {
        client_end = record {
          kind = refl;
          role = refl;
          runs = says_runs (initialize ∷ []) now told (λ _. goes_say (value_bytes context) now e refl);
          cause = λ is. cc;
          fits = (initialize_fits, tt);
        };
        client = refl;
        entries = refl;
        said = says_all (initialize ∷ []) now told (λ _. goes_say (value_bytes context) now e refl) can
            ∙ ap (λ (t : List (List ℕ)). t ++ message_bytes initialize ∷ []) first;
        packets = refl;
        context_fits = fits;
        fits = record { waiting = tt; sayable = tt; calls = tt; listeners = tt };
        serves = (refl, refl);
      };
      server = record {
        server_end = record { kind = refl; role = refl; runs = λ _. refl; cause = λ is. cc; fits = tt };
        server = refl;
        said = refl;
        asks = (refl, refl, refl);
        answers = tt;
        late = tt;
      };
      settles = refl;
      fires = refl;
      packets_back = (refl, refl, refl, refl, refl);
      heard_back = refl;
    })
