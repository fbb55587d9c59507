-- A link on which the server has read and written, in memory.
use Rattle.std.proofs.Common.{◌≡◌, ℕ, Result, Ok, Err, OnErr, List, refl}
use Rattle.std.specs.Prelude.{slice_set, slice_index_or}
use Rattle.ra_model.specs.Links.{Link}
use Rattle.ra_grand_clients.specs.ClientLinks.{LinkTurns, LinkTurnsAt, exchanged}
use Rattle.ra_grand_clients.specs.ClientStates.{ClientState}
use Rattle.ra_grand_clients.proofs.CrowdLemmas.{turns_at}
use Rattle.ra_grand_clients.proofs.LinkTurnLemmas.{MeetsBytes, turned_by}

pub exchange_meets : (n : ℕ) (more : List ℕ) → MeetsBytes (exchanged n more)
exchange_meets n more bytes l = refl

pub turned_unless : {X E : Type 0} → (r : Result X E) (change : Link → Link) → MeetsBytes change → (h mid : ClientState) (k : ℕ) (d before after : Link) → mid ≡ h
    → before ≡ slice_index_or mid.links k d → OnErr r (after ≡ change before) → OnErr r (LinkTurns k change h (record mid { links = slice_set mid.links k after }))
turned_unless (Ok u) change meets h mid k d before after same is becomes = becomes
turned_unless (Err e) change meets h mid k d before after same is becomes = turned_by change meets h mid k d before after same is becomes

pub turns_unless : {X E : Type 0} → (r : Result X E) (k : ℕ) (change : Link → Link) (hs : List ClientState) (n : ℕ) (d h : ClientState) → OnErr r (LinkTurns k change (slice_index_or hs n d) h)
    → OnErr r (LinkTurnsAt n k change hs (slice_set hs n h))
turns_unless (Ok x) k change hs n d h turns = turns
turns_unless (Err e) k change hs n d h turns = turns_at k change hs n d h turns
