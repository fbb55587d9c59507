-- Whatever others do in a run, the part of a key is what the run of that part alone makes of what it sees.
use Rattle.std.proofs.Common.{◌≡◌, inr, ℕ, max, Option, Some, None, List, [], ◌∷◌, ◌++◌, refl, ap, sym, subst}
use Rattle.ra_base.specs.declared.key.Key.{Key}
use Rattle.ra_values.specs.Tree.{undefined, text, buffer}
use Rattle.ra_ipc.specs.View.{id_of}
use Rattle.ra_session.specs.SessionCalls as calls
use Rattle.ra_views.proofs.SessionLinks.{link_call, link_listen, link_cancel, link_dispose, link_say}
use Rattle.ra_dial.specs.declared.values.DialEvent.TheVariants as dial_events
use Rattle.ra_script.specs.declared.grand_line.GrandEvent.{GrandEvent}
use Rattle.ra_script.specs.declared.grand_line.GrandEvent.TheVariants as events
use Rattle.ra_grand_runs.specs.GrandRefusals.{Refusal, refusal}
use Rattle.ra_grand_runs.specs.GrandRuns.{happens, unless, after, run}
use Rattle.ra_grand_runs.specs.Grands.{Grand, new_grand}
use Rattle.ra_grand_runs.specs.Marks.{Mark, whole, short, unticked, Entry}
use Rattle.ra_run_laws.specs.Runs.{IsUnbroken, IsWhole, AreWhole, HasKey, HaveKeys}
use Rattle.ra_run_laws.proofs.Lists.{none_there}
use Rattle.ra_run_laws.proofs.Rising.{step_after}
use Rattle.ra_run_laws.proofs.RisingHubs.{HaveRows}
use Rattle.ra_link_laws.specs.Parts.{WorldKeeps}
use Rattle.ra_isolation_laws.specs.Isolation.{Sight, moment, seen, unless_refused, view_of, alone_after, alone}
use Rattle.ra_isolation_laws.specs.Parted.{SamePart}
use Rattle.ra_isolation_laws.proofs.IsolatedArrivals.{alike_up, alike_idle}
use Rattle.ra_isolation_laws.proofs.IsolatedClients.{alike_dialled, alike_asked, alike_linked, alike_joined}
use Rattle.ra_isolation_laws.proofs.IsolatedHubs.{agree_itself}
use Rattle.ra_isolation_laws.proofs.IsolatedLinks.{alike_cut, alike_down, alike_gone}
use Rattle.ra_isolation_laws.proofs.IsolatedSweeps.{alike_swept}
use Rattle.ra_isolation_laws.proofs.IsolatedWork.{alike_worked}
use Rattle.ra_isolation_laws.proofs.IsolatedWorlds.{Alike, Between, left_itself, others_step, same_part}

-- ---- any event

alike_event : (key : Key) (event : GrandEvent) (w a : Grand) → refusal event w ≡ None → Between w (happens whole event w) → Alike key w a
    → Alike key (happens whole event w) (alone key (seen key event w) a)
unfolding refusal happens seen
alike_event key (events.At now) w a none between alike =
    others_step key w (happens whole (events.At now) w) a (alone_after key (moment now) a) between alike (left_itself key w.clients w.clients refl) refl refl
    (ap (λ (t : ℕ). max t now) alike.now) alike.hub alike.jobs_are
alike_event key (events.Client k) w a none between alike = alike_joined key k (events.Client k) w a refl between alike
alike_event key (events.Step n) w a none between alike = alike_dialled key n dial_events.Tick (events.Step 1) w a refl between alike
alike_event key (events.Linked n) w a none between alike = alike_linked key n (events.Linked 1) w a refl between alike
alike_event key (events.NoLink n) w a none between alike = alike_dialled key n dial_events.NoLink (events.NoLink 1) w a refl between alike
alike_event key (events.Up link count) w a none between alike = alike_up key link count w a none between alike
alike_event key (events.Idle link) w a none between alike = alike_idle key link w a none between alike
alike_event key (events.Down link count) w a none between alike = alike_down key link count w a between alike
alike_event key (events.Frame n) w a none between alike = alike_dialled key n dial_events.Frame (events.Frame 1) w a refl between alike
alike_event key (events.Cut link) w a none between alike = alike_cut key link w a between alike
alike_event key (events.Gone link) w a none between alike = alike_gone key link w a between alike
alike_event key (events.Lost n) w a none between alike = alike_dialled key n dial_events.LinkLost (events.Lost 1) w a refl between alike
alike_event key events.Sweep w a none between alike = alike_swept key w a between alike
alike_event key (events.Work job) w a none between alike = alike_worked key job w a between alike
alike_event key (events.Call n channel name arg) w a none between alike =
    alike_asked key n (calls.call channel name (buffer arg)) (events.Call 1 channel name arg) w a (link_call channel name (buffer arg)) refl between alike
alike_event key (events.CallText n channel name arg) w a none between alike =
    alike_asked key n (calls.call channel name (text arg)) (events.CallText 1 channel name arg) w a (link_call channel name (text arg)) refl between alike
alike_event key (events.Listen n channel name) w a none between alike =
    alike_asked key n (calls.listen channel name undefined) (events.Listen 1 channel name) w a (link_listen channel name undefined) refl between alike
alike_event key (events.Cancel n id) w a none between alike =
    alike_asked key n (calls.cancel (id_of id)) (events.Cancel 1 id) w a (link_cancel (id_of id)) refl between alike
alike_event key (events.Dispose n id) w a none between alike =
    alike_asked key n (calls.dispose (id_of id)) (events.Dispose 1 id) w a (link_dispose (id_of id)) refl between alike
alike_event key (events.Say n body) w a none between alike =
    alike_asked key n (calls.say_body body) (events.Say 1 body) w a (link_say body) refl between alike
alike_event key (events.Stop n) w a none between alike = alike_dialled key n dial_events.Stop (events.Stop 1) w a refl between alike

-- ---- an entry of a run

alike_unless : (key : Key) (o : Option Refusal) (sights : List Sight) (w v a : Grand) → Alike key w a → (o ≡ None → Alike key v (alone key sights a))
    → Alike key (unless o v w) (alone key (unless_refused o sights) a)
alike_unless key None sights w v a alike more = more refl
alike_unless key (Some refused) sights w v a alike more = alike

whole_is : (mark : Mark) → IsWhole mark → mark ≡ whole
whole_is whole is = refl
whole_is (short draws made bytes) is = absurd is
whole_is (unticked keys) is = absurd is

unbroken : (mark : Mark) → IsWhole mark → IsUnbroken mark
unbroken whole is = tt
unbroken (short draws made bytes) is = is
unbroken (unticked keys) is = tt

alike_entry : (key : Key) (entry : Entry) (w a : Grand) → IsWhole entry.mark → Between w (after entry w) → Alike key w a
    → Alike key (after entry w) (alone key (unless_refused (refusal entry.event w) (seen key entry.event w)) a)
alike_entry key entry w a is between alike =
    alike_unless key (refusal entry.event w) (seen key entry.event w) w (happens entry.mark entry.event w) a alike (λ none.
    let so : Between w (happens entry.mark entry.event w) = subst (λ (o : Option Refusal). Between w (unless o (happens entry.mark entry.event w) w)) none between in
    subst (λ (m : Mark). Alike key (happens m entry.event w) (alone key (seen key entry.event w) a)) (sym (whole_is entry.mark is))
    (alike_event key entry.event w a none (subst (λ (m : Mark). Between w (happens m entry.event w)) (whole_is entry.mark is) so) alike))

-- ---- a run

alone_both : (key : Key) (one other : List Sight) (a : Grand) → alone key (one ++ other) a ≡ alone key other (alone key one a)
alone_both key [] other a = refl
alone_both key (s ∷ one) other a = alone_both key one other (alone_after key s a)

-- every entry keeps what holds of a world
abbrev pub KeepsWorlds : Type 0
KeepsWorlds = (entry : Entry) (w : Grand) → IsUnbroken entry.mark → HasKey entry.event → WorldKeeps w → WorldKeeps (after entry w)

alike_run : KeepsWorlds → (key : Key) (entries : List Entry) (w a : Grand) → AreWhole entries → HaveKeys entries → WorldKeeps w → HaveRows w.hub → Alike key w a
    → SamePart key (run entries w) (alone key (view_of key entries w) a)
alike_run keeps key [] w a wholes keys holds rows alike = same_part key w a holds alike
alike_run keeps key (entry ∷ entries) w a wholes keys holds rows alike =
    let step = step_after entry w rows in
    let later : WorldKeeps (after entry w) = keeps entry w (unbroken entry.mark wholes.0) keys.0 holds in
    let sights : List Sight = unless_refused (refusal entry.event w) (seen key entry.event w) in
    subst (λ (b : Grand). SamePart key (run entries (after entry w)) b) (sym (alone_both key sights (view_of key entries (after entry w)) a))
    (alike_run keeps key entries (after entry w) (alone key sights a) wholes.1 keys.1 later step.hub.1
    (alike_entry key entry w a wholes.0 (record { before = holds; after = later; rises = step.hub.0 }) alike))

alike_new : (key : Key) → Alike key new_grand new_grand
alike_new key = record {
  now = refl;
  hub = agree_itself key new_grand.hub;
  jobs_are = refl;
  mine = inr (record { others = λ n c is. none_there is; alone = refl; places = refl });
}

pub isolated : KeepsWorlds → WorldKeeps new_grand → (key : Key) (entries : List Entry) → AreWhole entries → HaveKeys entries
    → SamePart key (run entries new_grand) (alone key (view_of key entries new_grand) new_grand)
isolated keeps new key entries wholes keys = alike_run keeps key entries new_grand new_grand wholes keys new (λ k none. refl) (alike_new key)
