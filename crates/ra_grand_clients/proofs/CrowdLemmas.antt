-- The clients of a world, one after the other.
use Rattle.std.proofs.Common.{◌≡◌, ℕ, zero, suc, ◌<◌, Option, Some, Result, Ok, Err, OnOk, OnErr, IfOk, List, [], ◌∷◌, length, refl, ap, sym, ◌∙◌, subst, arith}
use Rattle.std.specs.Prelude.{ℤ, slice_set, slice_index_or, slice_get}
use Rattle.ra_session.specs.declared.values.SessionFault.{SessionFault}
use Rattle.ra_session.specs.SessionRefusals.{Refusal}
use Rattle.ra_session.specs.Sessions.{Session}
use Rattle.ra_base.specs.declared.memory.NoMemory.{NoMemory}
use Rattle.ra_model.specs.Links.{Link}
use Rattle.ra_dial.specs.declared.values.DialAct.{DialAct}
use Rattle.ra_dial.specs.declared.values.DialEvent.{DialEvent}
use Rattle.ra_dial.specs.Acts.{act_of}
use Rattle.ra_grand_clients.specs.ClientLinks.{LinkTurns, LinkTurnsAt, links_at, IsFlushedAt}
use Rattle.ra_grand_clients.specs.ClientStates.{ClientState, StandsForClient, StaysClient, IsFlushed, Dials, Asks, IsNextId}
use Rattle.ra_grand_runs.specs.GrandClients.{Client, dialled, asked}
use Rattle.ra_grand_clients.specs.Crowds.{ClientsStand, ClientsStay, DialsAt, AsksAt, IsNextIdAt}
use Rattle.ra_grand_runs.specs.Grands.{with_link}

pub count : (hs : List ClientState) (cs : List Client) → ClientsStand hs cs → length hs ≡ length cs
count [] [] all = refl
count [] (c ∷ cs) all = absurd all
count (h ∷ hs) [] all = absurd all
count (h ∷ hs) (c ∷ cs) all = ap (λ n. suc n) (count hs cs all.1)

pub one : (hs : List ClientState) (cs : List Client) (n : ℕ) (d : ClientState) (c : Client) → ClientsStand hs cs → slice_get cs n ≡ Some c
    → StandsForClient (slice_index_or hs n d) c
one [] [] n d c all is = absurd cc
one [] (x ∷ cs) n d c all is = absurd all
one (h ∷ hs) [] n d c all is = absurd all
one (h ∷ hs) (x ∷ cs) zero d c all is = subst (λ (y : Client). StandsForClient h y) (there_is is) all.0
  where
    there_is : {x c : Client} → ◌≡◌ {A = Option Client} (Some x) (Some c) → x ≡ c
    there_is e = cc
one (h ∷ hs) (x ∷ cs) (suc n) d c all is = one hs cs n d c all.1 is

pub set_one : (hs : List ClientState) (cs : List Client) (n : ℕ) (h : ClientState) (c : Client) → ClientsStand hs cs → StandsForClient h c
    → ClientsStand (slice_set hs n h) (slice_set cs n c)
set_one [] [] n h c all is = all
set_one [] (x ∷ cs) n h c all is = absurd all
set_one (y ∷ hs) [] n h c all is = absurd all
set_one (y ∷ hs) (x ∷ cs) zero h c all is = (is, all.1)
set_one (y ∷ hs) (x ∷ cs) (suc n) h c all is = (all.0, set_one hs cs n h c all.1 is)

-- one that is there
pub there : (cs : List Client) (n : ℕ) → n < length cs → (c : Client) × (slice_get cs n ≡ Some c)
there [] n less = absurd (omega (arith, less))
there (c ∷ cs) zero less = (c, refl)
there (c ∷ cs) (suc n) less = there cs n (omega (arith, less))

pub same_one : (hs : List ClientState) (cs : List Client) (n : ℕ) (d h : ClientState) → ClientsStand hs cs → StaysClient (slice_index_or hs n d) h
    → ClientsStand (slice_set hs n h) cs
same_one [] [] n d h all stays = all
same_one [] (x ∷ cs) n d h all stays = absurd all
same_one (y ∷ hs) [] n d h all stays = absurd all
same_one (y ∷ hs) (x ∷ cs) zero d h all stays = (stays x all.0, all.1)
same_one (y ∷ hs) (x ∷ cs) (suc n) d h all stays = (all.0, same_one hs cs n d h all.1 stays)

pub dials_at : (r : Result DialAct NoMemory) (hs : List ClientState) (n : ℕ) (d h : ClientState) (event : DialEvent) (now : ℕ)
    → IfOk r (λ act. Dials (slice_index_or hs n d) h event now (act_of act)) → IfOk r (λ act. DialsAt n event now (act_of act) hs (slice_set hs n h))
dials_at (Ok act) hs n d h event now dials =
    λ cs c all is reads.
    let made = dials c (one hs cs n d c all is) reads in (made.0, set_one hs cs n h (dialled event now c) all made.1)
dials_at (Err fault) hs n d h event now dials = dials

pub stay_at : (r : Result DialAct NoMemory) (hs : List ClientState) (n : ℕ) (d h : ClientState) → OnErr r (StaysClient (slice_index_or hs n d) h)
    → OnErr r (ClientsStay hs (slice_set hs n h))
stay_at (Ok act) hs n d h stays = stays
stay_at (Err fault) hs n d h stays = λ cs all. same_one hs cs n d h all stays

-- the client that stands there is put back
put_back : (cs : List Client) (n : ℕ) (c : Client) → slice_get cs n ≡ Some c → slice_set cs n c ≡ cs
put_back [] n c is = refl
put_back (x ∷ cs) zero c is = ap (λ y. y ∷ cs) (sym (there_is is))
  where
    there_is : {x c : Client} → ◌≡◌ {A = Option Client} (Some x) (Some c) → x ≡ c
    there_is e = cc
put_back (x ∷ cs) (suc n) c is = ap (λ ys. x ∷ ys) (put_back cs n c is)

pub asks_in : {X : Type 0} → (r : Result X SessionFault) (hs : List ClientState) (n : ℕ) (d h : ClientState) (call : Session → Session) (refusal : Session → Option Refusal)
    → Asks r (slice_index_or hs n d) h call refusal → AsksAt n r hs (slice_set hs n h) call refusal
asks_in (Ok x) hs n d h call refusal asks =
    λ cs c all is.
    let made = asks c (one hs cs n d c all is) in (made.0, set_one hs cs n h (asked call c) all made.1)
asks_in (Err fault) hs n d h call refusal asks =
    λ cs c all is.
    let made = asks c (one hs cs n d c all is) in
    (made.0, subst (λ (ys : List Client). ClientsStand (slice_set hs n h) ys) (put_back cs n c is) (set_one hs cs n h c all made.1))

pub next_id_in : (r : Result ℤ SessionFault) (hs : List ClientState) (n : ℕ) (d : ClientState) → IfOk r (λ id. IsNextId (slice_index_or hs n d) id) → IfOk r (λ id. IsNextIdAt n hs id)
next_id_in (Ok id) hs n d next = λ cs c all is. next c (one hs cs n d c all is)
next_id_in (Err fault) hs n d next = next

-- ---- one link of a client

pub turns_at : (k : ℕ) (change : Link → Link) (hs : List ClientState) (n : ℕ) (d h : ClientState) → LinkTurns k change (slice_index_or hs n d) h → LinkTurnsAt n k change hs (slice_set hs n h)
turns_at k change hs n d h turns = λ cs c l m all is at becomes. set_one hs cs n h (with_link (suc k) m c) all (turns c l m (one hs cs n d c all is) at becomes)

pub turns_in : {X E : Type 0} → (r : Result X E) (k : ℕ) (change : Link → Link) (hs : List ClientState) (n : ℕ) (d h : ClientState) → OnOk r (LinkTurns k change (slice_index_or hs n d) h)
    → OnOk r (LinkTurnsAt n k change hs (slice_set hs n h))
turns_in (Ok x) k change hs n d h turns = turns_at k change hs n d h turns
turns_in (Err e) k change hs n d h turns = turns

pub stay_in : {X E : Type 0} → (r : Result X E) (hs : List ClientState) (n : ℕ) (d h : ClientState) → OnErr r (StaysClient (slice_index_or hs n d) h) → OnErr r (ClientsStay hs (slice_set hs n h))
stay_in (Ok x) hs n d h stays = stays
stay_in (Err e) hs n d h stays = λ cs all. same_one hs cs n d h all stays

pub set_there : (hs : List ClientState) (n : ℕ) (h : ClientState) → n < length hs → slice_get (slice_set hs n h) n ≡ Some h
set_there [] n h less = absurd (omega (arith, less))
set_there (x ∷ hs) zero h less = refl
set_there (x ∷ hs) (suc n) h less = set_there hs n h (omega (arith, less))

pub index_there : (hs : List ClientState) (n : ℕ) (d : ClientState) → n < length hs → slice_get hs n ≡ Some (slice_index_or hs n d)
index_there [] n d less = absurd (omega (arith, less))
index_there (x ∷ hs) zero d less = refl
index_there (x ∷ hs) (suc n) d less = index_there hs n d (omega (arith, less))

pub flushed_at : {X E : Type 0} → (r : Result X E) (hs : List ClientState) (n : ℕ) (d h : ClientState) → n < length hs → OnOk r (IsFlushed (slice_index_or hs n d) h) → OnOk r (h.held ≡ [])
    → OnOk r (IsFlushedAt n hs (slice_set hs n h))
flushed_at (Ok x) hs n d h less flushed none = λ cs c all is. (h, set_there hs n h less, flushed c (one hs cs n d c all is), none)
flushed_at (Err e) hs n d h less flushed none = flushed

-- as many links as before
pub as_many : (hs : List ClientState) (n : ℕ) (d h : ClientState) → n < length hs → length h.links ≡ length (slice_index_or hs n d).links
    → length (links_at (slice_get (slice_set hs n h) n)) ≡ length (links_at (slice_get hs n))
as_many hs n d h less same =
    ap (λ (x : Option ClientState). length (links_at x)) (set_there hs n h less) ∙ same ∙ ap (λ (x : Option ClientState). length (links_at x)) (sym (index_there hs n d less))
