-- What a keeper holds of a registry, entry by entry.
use Rattle.std.proofs.Common.{◌≡◌, ℕ, List, [], ◌∷◌, ◌++◌, append-nil, append_assoc, map, Option, None, Some, option_map, Result, Ok, Err, refl, sym, ap, ◌∙◌}
use Rattle.std.proofs.lemmas.Grind.{flat_map-append}
use Rattle.ra_base.specs.declared.handshake.Request.{Request}
use Rattle.ra_base.specs.declared.key.Key.{Key}
use Rattle.ra_base.specs.declared.key.Seat.{Seat}
use Rattle.ra_keep.specs.declared.record.Record.{Record}
use Rattle.ra_registry.specs.declared.fault.AdmitFault.{AdmitFault}
use Rattle.ra_registry.specs.declared.fault.AdmitFault.TheVariants.{Refused, KeepFault, NoMemory}
use Rattle.ra_registry.specs.declared.past.Past.{Past}
use Rattle.ra_registry.specs.Admission.{Admits}
use Rattle.ra_registry.specs.Expiry.{expiry_of, Expires}
use Rattle.ra_registry.specs.KeptRecords.{kept_of, records_of, record_of, IsKept, Keeps}
use Rattle.ra_registry.specs.RegistryStates.{RegistryState, with_entry}

pub records_more : (history : List Past) (entry : Past) → records_of (history ++ entry ∷ []) ≡ records_of history ++ kept_of entry.key entry.at entry.did
records_more history entry =
    flat_map-append (λ (e : Past). kept_of e.key e.at e.did) history (entry ∷ [])
    ∙ ap (λ (l : List Record). records_of history ++ l) (append-nil (kept_of entry.key entry.at entry.did))

-- an entry without a record leaves the list
pub kept_without : (registry : RegistryState) (entry : Past) (told : Option (List Record)) → kept_of entry.key entry.at entry.did ≡ [] → IsKept told registry
    → IsKept told (with_entry registry entry)
kept_without registry entry told none kept list is =
    kept list is
    ∙ ap (λ (l : List Record). registry.start ++ l)
    (sym (records_more registry.history entry ∙ ap (λ (l : List Record). records_of registry.history ++ l) none ∙ append-nil (records_of registry.history)))

pub records_expired : (at : ℕ) (history : List Past) (keys : List Key) → records_of (history ++ map (expiry_of at) keys) ≡ records_of history
records_expired at history [] = ap records_of (append-nil history)
records_expired at history (key ∷ keys) =
    ap records_of (sym (append_assoc history (expiry_of at key ∷ []) (map (expiry_of at) keys)))
    ∙ records_expired at (history ++ expiry_of at key ∷ []) keys ∙ records_more history (expiry_of at key) ∙ append-nil (records_of history)

from_map : (told : Option (List Record)) (r : Record) (list : List Record) → option_map (λ l. l ++ r ∷ []) told ≡ Some list
    → (before : List Record) × (told ≡ Some before) × (before ++ r ∷ [] ≡ list)
from_map None r list is = cc
from_map (Some before) r list is = (before, refl, cc)

pub keeps_kept : (before after : RegistryState) (ask : Request) (at : ℕ) (result : Result Seat AdmitFault) (told told' : Option (List Record))
    → Admits before ask at result after → Keeps result at told told' → IsKept told before → IsKept told' after
keeps_kept before after ask at (Ok seat) told told' answered keeps kept list is =
    let was = from_map told (record_of seat at) list (keeps list is) in
    sym was.2 ∙ ap (λ (l : List Record). l ++ record_of seat at ∷ []) (kept was.0 was.1)
    ∙ append_assoc before.start (records_of before.history) (record_of seat at ∷ [])
    ∙ ap (λ (s : Seat). before.start ++ (records_of before.history ++ record_of s at ∷ [])) answered.1
    ∙ ap (λ (l : List Record). before.start ++ l) (sym (records_more before.history _))
    ∙ ap (λ (r : RegistryState). r.start ++ records_of r.history) (sym answered.2)
keeps_kept before after ask at (Err (Refused reason)) told told' answered keeps kept list is =
    kept_without before _ told refl kept list (keeps list is) ∙ ap (λ (r : RegistryState). r.start ++ records_of r.history) (sym answered.1)
keeps_kept before after ask at (Err KeepFault) told told' answered keeps kept list is =
    kept list (keeps list is) ∙ ap (λ (r : RegistryState). r.start ++ records_of r.history) (sym answered)
keeps_kept before after ask at (Err NoMemory) told told' answered keeps kept list is =
    kept list (keeps list is) ∙ ap (λ (r : RegistryState). r.start ++ records_of r.history) (sym answered)

-- expiries have no records
pub kept_expired : (before after : RegistryState) (at count : ℕ) (told : Option (List Record)) → Expires before at count after → IsKept told before → IsKept told after
kept_expired before after at count told expires kept list is =
    kept list is ∙ ap (λ (l : List Record). before.start ++ l) (sym (records_expired at before.history expires.keys))
    ∙ ap (λ (r : RegistryState). r.start ++ records_of r.history) (sym expires.entered)
