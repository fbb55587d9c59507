-- Each client that an accepted run makes is one of a token, and of no tunnel, where all clients of its last world are.
use Rattle.std.proofs.Common.{◌≡◌, ℕ, zero, suc, Bool, true, false, ◌&&◌, Option, Some, None, is_none, List, [], ◌∷◌, ◌++◌, length, map, refl, ap, sym, ◌∙◌, subst}
use Rattle.std.specs.Prelude.{slice_get}
use Rattle.std.specs.List.{AllByRecursion}
use Rattle.ra_base.specs.TokenGrammar.{IsToken}
use Rattle.ra_base.specs.declared.key.Key.{Key}
use Rattle.ra_base.specs.declared.kind.Kind.TheVariants.{Tunnel}
use Rattle.ra_model.specs.Links.{at_number}
use Rattle.ra_script.specs.GrandLines.{GrandEventFits}
use Rattle.ra_script.specs.declared.grand_line.GrandEvent.{GrandEvent}
use Rattle.ra_script.specs.declared.grand_line.GrandEvent.TheVariants as events
use Rattle.ra_grand.specs.declared.world.GrandWorld.{GrandWorld}
use Rattle.ra_grand_runs.specs.GrandClients.{Client, new_client}
use Rattle.ra_grand.specs.GrandEvents.{IsGrandEvent, Ran}
use Rattle.ra_grand_runs.specs.GrandRefusals.{Refusal, refusal}
use Rattle.ra_grand_runs.specs.GrandRuns.{happens, unless, after, run, is_accepted}
use Rattle.ra_grand_runs.specs.Grands.{Grand, new_grand}
use Rattle.ra_grand_runs.specs.Marks.{Entry}
use Rattle.ra_grand_runs.specs.Reached.{ClientHolds, ClientsHold}
use Rattle.ra_run_laws.specs.Runs.{HasKey, HaveKeys, HaveRequests, IsRun}
use Rattle.ra_run_laws.proofs.Lists.{none_there, there_is}
use Rattle.ra_run_laws.proofs.Rising.{WorldStep, step_run, step_after, rows_new}
use Rattle.ra_run_laws.proofs.RisingHubs.{HaveRows}

client_holds : (cs : List Client) (n : ℕ) (c : Client) → ClientsHold cs → slice_get cs n ≡ Some c → ClientHolds c
client_holds [] n c holds is = none_there is
client_holds (x ∷ cs) zero c holds is = subst (λ (y : Client). ClientHolds y) (there_is is) holds.0
client_holds (x ∷ cs) (suc n) c holds is = client_holds cs n c holds.1 is

at_end : (cs : List Client) (c : Client) → slice_get (cs ++ c ∷ []) (length cs) ≡ Some c
at_end [] c = refl
at_end (x ∷ cs) c = at_end cs c

none_of : (o : Option Refusal) → is_none o ≡ true → o ≡ None
none_of None is = refl
none_of (Some r) is = absurd cc

both : (a b : Bool) → (a && b) ≡ true → (a ≡ true) × (b ≡ true)
both true b is = (refl, is)
both false b is = absurd cc

-- what is made by an event that is not refused
made : (entry : Entry) (w : Grand) → refusal entry.event w ≡ None → after entry w ≡ happens entry.mark entry.event w
made entry w none = ap (λ (o : Option Refusal). unless o (happens entry.mark entry.event w) w) none

-- the client that was made is there at the end
key_of_made : (key : Key) (w v u : Grand) → v.clients ≡ w.clients ++ new_client key w.now ∷ [] → WorldStep v u → ClientsHold u.clients
    → IsToken key.token × (key.kind ≡ Tunnel → ⊥)
key_of_made key w v u clients step holds =
    let there : at_number v.clients (suc (length w.clients)) ≡ Some (new_client key w.now) =
    ap (λ (l : List Client). at_number l (suc (length w.clients))) clients ∙ at_end w.clients (new_client key w.now) in
    let d = step.clients (suc (length w.clients)) (new_client key w.now) there in
    let h = client_holds u.clients (length w.clients) d.0 holds d.1 in
    (subst (λ (k : Key). IsToken k.token) d.2 h.token, subst (λ (k : Key). k.kind ≡ Tunnel → ⊥) d.2 h.kind)

key_of_event : (entry : Entry) (event : GrandEvent) (w u : Grand) → entry.event ≡ event → refusal entry.event w ≡ None → WorldStep (after entry w) u → ClientsHold u.clients → HasKey event
unfolding happens
key_of_event entry (events.Client key) w u is none step holds =
    key_of_made key w (after entry w) u
    (ap (λ (v : Grand). v.clients) (made entry w none) ∙ ap (λ (e : GrandEvent). (happens entry.mark e w).clients) is) step holds
key_of_event entry (events.At now) w u is none step holds = tt
key_of_event entry (events.Step n) w u is none step holds = tt
key_of_event entry (events.Linked n) w u is none step holds = tt
key_of_event entry (events.NoLink n) w u is none step holds = tt
key_of_event entry (events.Up link count) w u is none step holds = tt
key_of_event entry (events.Idle link) w u is none step holds = tt
key_of_event entry (events.Down link count) w u is none step holds = tt
key_of_event entry (events.Frame n) w u is none step holds = tt
key_of_event entry (events.Cut link) w u is none step holds = tt
key_of_event entry (events.Gone link) w u is none step holds = tt
key_of_event entry (events.Lost n) w u is none step holds = tt
key_of_event entry events.Sweep w u is none step holds = tt
key_of_event entry (events.Work job) w u is none step holds = tt
key_of_event entry (events.Call n channel name arg) w u is none step holds = tt
key_of_event entry (events.CallText n channel name arg) w u is none step holds = tt
key_of_event entry (events.Listen n channel name) w u is none step holds = tt
key_of_event entry (events.Cancel n id) w u is none step holds = tt
key_of_event entry (events.Dispose n id) w u is none step holds = tt
key_of_event entry (events.Say n body) w u is none step holds = tt
key_of_event entry (events.Stop n) w u is none step holds = tt

keys_from : (entries : List Entry) (w : Grand) → HaveRows w.hub → is_accepted entries w ≡ true → ClientsHold (run entries w).clients → HaveKeys entries
keys_from [] w rows accepted holds = tt
keys_from (entry ∷ entries) w rows accepted holds =
    let b = both (is_none (refusal entry.event w)) (is_accepted entries (after entry w)) accepted in
    let more = (step_after entry w rows).hub.1 in (
      key_of_event entry entry.event w (run entries (after entry w)) refl (none_of (refusal entry.event w) b.0) (step_run entries (after entry w) more) holds,
      keys_from entries (after entry w) more b.1 holds,
    )

pub run_keys : (entries : List Entry) → is_accepted entries new_grand ≡ true → ClientsHold (run entries new_grand).clients → HaveKeys entries
run_keys entries accepted holds = keys_from entries new_grand rows_new accepted holds

-- ---- what is asked for

requests_of : (entries : List Entry) (event_list : List GrandEvent) → map (λ (e : Entry). e.event) entries ≡ event_list → AllByRecursion IsGrandEvent event_list → HaveRequests entries
requests_of [] event_list same all = tt
requests_of (entry ∷ entries) [] same all = absurd cc
requests_of (entry ∷ entries) (e ∷ es) same all =
    (subst (λ (x : GrandEvent). GrandEventFits x) (sym (first same)) all.0.2, requests_of entries es (rest same) all.1)
  where
    first : {x y : GrandEvent} → {xs ys : List GrandEvent} → x ∷ xs ≡ y ∷ ys → x ≡ y
    first e = cc

    rest : {x y : GrandEvent} → {xs ys : List GrandEvent} → x ∷ xs ≡ y ∷ ys → xs ≡ ys
    rest e = cc

pub accepted_run : (event_list : List GrandEvent) (world : GrandWorld) (ran : Ran event_list world) → AllByRecursion IsGrandEvent event_list → IsRun ran.entries
accepted_run event_list world ran all = record {
  fits = ran.fits;
  keys = run_keys ran.entries ran.accepted ran.stands.holds;
  requests = requests_of ran.entries event_list ran.events_are all;
}
