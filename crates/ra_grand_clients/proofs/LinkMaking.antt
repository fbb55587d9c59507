-- A link that a client makes, in memory.
use Rattle.std.proofs.Common.{◌≡◌, ℕ, Bool, Result, Ok, Err, OnOk, OnErr, List, [], ◌∷◌, ◌++◌, length, take, map, ap, sym, ◌∙◌, subst}
use Rattle.std.proofs.lemmas.List.{map-append, take_at}
use Rattle.std.specs.Prelude.{slice_set, slice_index_or}
use Rattle.ra_model.specs.Links.{Link, new_link}
use Rattle.ra_dial.specs.Calling.{is_calling}
use Rattle.ra_dial.specs.DialerStates.{OfEachDialer}
use Rattle.ra_dial.specs.declared.values.DialEvent.TheVariants as events
use Rattle.ra_grand_clients.specs.ClientStates.{ClientState, Holds, StandsForClient, StaysClient, IsFlushed, ReadsAnswer, put_on_last, wire}
use Rattle.ra_grand_clients.specs.Crowds.{LinksAt, IsCallingAt}
use Rattle.ra_grand_runs.specs.GrandClients.{Client, dialled, linked, fresh_link}
use Rattle.ra_grand_clients.proofs.CrowdLemmas.{one, set_one}
use Rattle.ra_grand_clients.proofs.Flushing.{put_nothing}

-- ---- a client that waits for a link

pub calling_one : (h : ClientState) (answer : Bool) → OfEachDialer h.dialer (λ d. answer ≡ is_calling d.stage) → (c : Client) → StandsForClient h c → answer ≡ is_calling c.dialer.stage
calling_one h answer is c stands = is stands.0.dialer stands.1.dialer ∙ ap (λ (x : Client). is_calling x.dialer.stage) (sym stands.2)

pub calling_at : (hs : List ClientState) (n : ℕ) (d : ClientState) (answer : Bool) → ((c : Client) → StandsForClient (slice_index_or hs n d) c → answer ≡ is_calling c.dialer.stage)
    → IsCallingAt n hs answer
calling_at hs n d answer is cs c all at = is c (one hs cs n d c all at)

-- ---- one client

abbrev with_fresh : Client → Client
with_fresh c = record c { links = c.links ++ fresh_link c ∷ [] }

fresh_links : (h : ClientState) (c : Client) → Holds h c → h.held ≡ [] → map wire (c.links ++ fresh_link c ∷ []) ≡ put_on_last h.held (h.links ++ new_link ∷ [])
fresh_links h c holds none =
    map-append wire c.links (fresh_link c ∷ [])
    ∙ ap (λ (ls : List Link). ls ++ new_link ∷ []) (holds.links ∙ ap (λ (bs : List ℕ). put_on_last bs h.links) none ∙ put_nothing h.links)
    ∙ sym (ap (λ (bs : List ℕ). put_on_last bs (h.links ++ new_link ∷ [])) none ∙ put_nothing (h.links ++ new_link ∷ []))

fresh_one : (h : ClientState) (c : Client) → Holds h c → h.held ≡ [] → Holds (record h { links = h.links ++ new_link ∷ [] }) (with_fresh c)
fresh_one h c holds none = record { key = holds.key; dialer = holds.dialer; draws = holds.draws; links = fresh_links h c holds none }

pub link_made : (old mid h new : ClientState) (fresh : Link) (pushed : List Link) (now : ℕ) → h ≡ mid → IsFlushed old mid → mid.held ≡ [] → fresh ≡ new_link → pushed ≡ h.links ++ fresh ∷ []
    → ((c : Client) → Holds (record h { links = pushed }) c → ReadsAnswer c → StandsForClient new (dialled events.Linked now c))
    → (c : Client) → StandsForClient old c → ReadsAnswer c → StandsForClient new (linked now c)
link_made old mid h new fresh pushed now same flushed none empty push becomes c stands reads =
    let holds = subst (λ (x : ClientState). Holds x c) (sym same) (flushed c stands) in
    let nothing : h.held ≡ [] = ap (λ (x : ClientState). x.held) same ∙ none in
    becomes (with_fresh c)
    (subst (λ (ls : List Link). Holds (record h { links = ls }) (with_fresh c)) (sym (push ∙ ap (λ (l : Link). h.links ++ l ∷ []) empty)) (fresh_one h c holds nothing)) reads

-- the links are as before
pub not_pushed : (old mid h : ClientState) (links : List Link) → h ≡ mid → StaysClient old mid → links ≡ h.links → StaysClient old (record h { links = links })
not_pushed old mid h links same stays is =
    subst (λ (ls : List Link). StaysClient old (record h { links = ls })) (sym is) (subst (λ (x : ClientState). StaysClient old x) (sym same) stays)

pub popped : (old mid h g : ClientState) (fresh : Link) (pushed links : List Link) (n : ℕ) → h ≡ mid → StaysClient old mid → pushed ≡ h.links ++ fresh ∷ [] → g ≡ record h { links = pushed }
    → n ≡ length mid.links → links ≡ take n g.links → StaysClient old (record g { links = links })
popped old mid h g fresh pushed links n same stays push began count is =
    let whole : g.links ≡ h.links ++ fresh ∷ [] = ap (λ (x : ClientState). x.links) began ∙ push in
    let short : length h.links ≡ n = ap (λ (x : ClientState). length x.links) same ∙ sym count in
    let back : links ≡ h.links = is ∙ ap (λ (ls : List Link). take n ls) whole ∙ take_at h.links (fresh ∷ []) n short in
    subst (λ (x : ClientState). StaysClient old (record x { links = links })) (sym began) (not_pushed old mid h links same stays back)

pub on_err : {X E : Type 0} → (r : Result X E) (P : Type 0) → P → OnErr r P
on_err (Ok x) P p = tt
on_err (Err e) P p = p

-- ---- one of many

pub links_in : {X E : Type 0} → (r : Result X E) (hs : List ClientState) (n : ℕ) (d h : ClientState) (now : ℕ)
    → OnOk r ((c : Client) → StandsForClient (slice_index_or hs n d) c → ReadsAnswer c → StandsForClient h (linked now c)) → OnOk r (LinksAt n now hs (slice_set hs n h))
links_in (Ok x) hs n d h now made = λ cs c all is reads. set_one hs cs n h (linked now c) all (made c (one hs cs n d c all is) reads)
links_in (Err e) hs n d h now made = made
