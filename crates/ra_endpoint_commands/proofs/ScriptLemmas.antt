-- A script, line by line.
use Rattle.std.proofs.Common.{◌≡◌, ℕ, ◌+◌, ◌<◌, ◌≤◌, List, [], ◌∷◌, ◌++◌, length, drop, append_assoc, append-nil, refl, sym, ap, subst, ◌∙◌}
use Rattle.std.specs.Prelude.{Option, Some, None, Result, Ok, Err, IfOk, OnOk, ◌≢◌, codes}
use Rattle.std.proofs.lemmas.List.{length-map, drop_more, drop_all}
use Rattle.std.specs.Prelude.{slice_index_or}
use Rattle.ra_model.specs.declared.fault.EventFault.{EventFault}
use Rattle.ra_model.specs.declared.fault.EventFault.TheVariants.{NoSuchLink, TooMany, End, NoMemory}
use Rattle.ra_model.specs.Endpoints.{owed}
use Rattle.ra_model.specs.Pairs.{body_of}
use Rattle.ra_base.specs.declared.memory.NoMemory.{NoMemory as Lacking}
use Rattle.ra_base.specs.declared.event.Side.{Side}
use Rattle.ra_base.specs.declared.event.Side.TheVariants.{A, B}
use Rattle.ra_model.specs.declared.session.Entry.{Entry}
use Rattle.ra_model.specs.EndpointStates.{EndpointState}
use Rattle.ra_model.specs.Worlds.{World, peer}
use Rattle.ra_world.specs.WorldStates.{WorldState, StandsForWorld, StandsForPeer, PeerState, peer_of}
use Rattle.ra_model.specs.Worlds.{Peer}
use Rattle.ra_script.specs.declared.line.Line.{Line}
use Rattle.ra_endpoint_commands.specs.declared.report.Ending.{Ending}
use Rattle.ra_endpoint_commands.specs.declared.report.Ending.TheVariants.{Done, Refused}
use Rattle.ra_endpoint_commands.specs.ReplayLines.{fault_line, side_counts}
use Rattle.ra_endpoint_commands.specs.Receive.{Report, prefixed}
use Rattle.ra_endpoint_commands.specs.Replay.{Step, line_step, step_then, lines_report, world_line, side_line}
use Rattle.ra_endpoint_commands.specs.Soak.{world_behind}
use Rattle.ra_endpoint_commands.specs.Stepping.{Makes, Steps, Adds}

prefixed_both : (a b : List ℕ) (r : Report) → prefixed a (prefixed b r) ≡ prefixed (a ++ b) r
prefixed_both a b r = ap (λ (t : List ℕ). let x : Report = record { text = t; ending = r.ending } in x) (sym (append_assoc a b r.text))

-- what was printed so far, and the world in which the rest is run
pub record IsRunning (w0 : World) (lines rest : List Line) (n : ℕ) (s : WorldState) (before text : List ℕ) : Type 0 where
  pub w : World
  pub so_far : List ℕ
  pub stands : StandsForWorld s w
  pub text_is : text ≡ before ++ so_far
  pub same : lines_report 1 lines w0 ≡ prefixed so_far (lines_report n rest w)

pub running_at_start : (w : World) (lines : List Line) (s : WorldState) (before : List ℕ) → StandsForWorld s w → IsRunning w lines lines 1 s before before
running_at_start w lines s before stands = record { w = w; so_far = []; stands = stands; text_is = sym (append-nil before); same = refl }

line_then : (n : ℕ) (l : Line) (rest : List Line) (w : World) → lines_report n (l ∷ rest) w ≡ step_then (line_step l w).fault n (line_step l w).text (lines_report (n + 1) rest (line_step l w).world)
unfolding lines_report
line_then n l rest w = refl

-- one line more
pub running_on : (w0 : World) (lines rest : List Line) (l : Line) (n : ℕ) (s s' : WorldState) (before text text' : List ℕ) → IsRunning w0 lines (l ∷ rest) n s before text
    → ((w : World) → StandsForWorld s w → Makes None s' text text' (line_step l w)) → IsRunning w0 lines rest (n + 1) s' before text'
running_on w0 lines rest l n s s' before text text' r makes =
    let m = makes r.w r.stands in
    let step : Step = line_step l r.w in
    record {
      w = step.world;
      so_far = r.so_far ++ step.text;
      stands = m.stands;
      text_is = m.text ∙ ap (λ (t : List ℕ). t ++ step.text) r.text_is ∙ append_assoc before r.so_far step.text;
      same = r.same ∙ ap (prefixed r.so_far) (line_then n l rest r.w ∙ ap (λ (f : Option EventFault). step_then f n step.text (lines_report (n + 1) rest step.world)) m.is)
          ∙ prefixed_both r.so_far step.text (lines_report (n + 1) rest step.world);
    }

report_of : (w0 : World) (lines : List Line) (before text so_far more : List ℕ) (end : Ending) → text ≡ (before ++ so_far) ++ more
    → lines_report 1 lines w0 ≡ prefixed so_far (record { text = more; ending = end }) → Adds (lines_report 1 lines w0) before text end
report_of w0 lines before text so_far more end is same = record {
  text = is ∙ append_assoc before so_far more ∙ ap (λ (r : Report). before ++ r.text) (sym same);
  ending = ap (λ (r : Report). r.ending) (sym same);
}

-- a line is refused
refused_with : (w0 : World) (lines rest : List Line) (l : Line) (n : ℕ) (s s' : WorldState) (fault : EventFault) (before text text' last : List ℕ) → IsRunning w0 lines (l ∷ rest) n s before text
    → ((w : World) → StandsForWorld s w → Makes (Some fault) s' text text' (line_step l w)) → last ≡ text' ++ fault_line n fault → Adds (lines_report 1 lines w0) before last Refused
refused_with w0 lines rest l n s s' fault before text text' last r makes printed =
    let m = makes r.w r.stands in
    let step : Step = line_step l r.w in
    report_of w0 lines before last r.so_far (step.text ++ fault_line n fault) Refused
    (printed ∙ ap (λ (t : List ℕ). t ++ fault_line n fault) (m.text ∙ ap (λ (t : List ℕ). t ++ step.text) r.text_is) ∙ append_assoc (before ++ r.so_far) step.text (fault_line n fault))
    (r.same ∙ ap (prefixed r.so_far) (line_then n l rest r.w ∙ ap (λ (f : Option EventFault). step_then f n step.text (lines_report (n + 1) rest step.world)) m.is))

pub line_refused : (fault : EventFault) (w0 : World) (lines rest : List Line) (l : Line) (n : ℕ) (s s' : WorldState) (before text text' last : List ℕ) → IsRunning w0 lines (l ∷ rest) n s before text
    → ((w : World) → StandsForWorld s w → Steps (Err fault) s' text text' (line_step l w)) → (fault ≡ NoMemory → ⊥) → last ≡ text' ++ fault_line n fault → Adds (lines_report 1 lines w0) before last Refused
line_refused NoMemory w0 lines rest l n s s' before text text' last r makes other printed = absurd (other refl)
line_refused (NoSuchLink link) w0 lines rest l n s s' before text text' last r makes other printed = refused_with w0 lines rest l n s s' (NoSuchLink link) before text text' last r makes printed
line_refused (TooMany asked there) w0 lines rest l n s s' before text text' last r makes other printed = refused_with w0 lines rest l n s s' (TooMany asked there) before text text' last r makes printed
line_refused (End fault) w0 lines rest l n s s' before text text' last r makes other printed = refused_with w0 lines rest l n s s' (End fault) before text text' last r makes printed

-- all lines were run
no_lines : (n : ℕ) (w : World) → lines_report n [] w ≡ record { text = world_line w; ending = Done }
unfolding lines_report
no_lines n w = refl

pub lines_done : (w0 : World) (lines : List Line) (n : ℕ) (s : WorldState) (before text last : List ℕ) → IsRunning w0 lines [] n s before text
    → ((w : World) → StandsForWorld s w → last ≡ text ++ world_line w) → Adds (lines_report 1 lines w0) before last Done
lines_done w0 lines n s before text last r printed =
    report_of w0 lines before last r.so_far (world_line r.w) Done
    (printed r.w r.stands ∙ ap (λ (t : List ℕ). t ++ world_line r.w) r.text_is)
    (r.same ∙ ap (prefixed r.so_far) (no_lines n r.w))

-- ---- what a world in memory counts

pub record HasCounts (s : PeerState) (p : Peer) : Type 0 where
  pub said : length s.said ≡ length p.endpoint.said
  pub heard : length s.heard ≡ length p.heard
  pub owed : length s.endpoint.queue ≡ length (owed p.endpoint)

pub counts_of : (s : PeerState) (p : Peer) → StandsForPeer s p → HasCounts s p
counts_of s p h = record {
  said = ap length h.said ∙ length-map p.endpoint.said body_of;
  heard = ap length h.heard;
  owed = ap length h.endpoint.queue;
}

counts_at : (side : Side) (s : WorldState) (w : World) → StandsForWorld s w → HasCounts (peer_of side s) (peer side w)
counts_at A s w h = counts_of s.a w.a h.a
counts_at B s w h = counts_of s.b w.b h.b

pub side_printed : (side : Side) (s : WorldState) (w : World) (said heard : List (List ℕ)) (queue : List Entry) (endpoint : EndpointState) (owed_len : ℕ) (before behind : List ℕ) → StandsForWorld s w
    → said ≡ (peer_of side s).said → heard ≡ (peer_of side s).heard → endpoint ≡ (peer_of side s).endpoint → queue ≡ endpoint.queue → owed_len ≡ length queue
    → behind ≡ before ++ side_counts side (length said) (length heard) owed_len → behind ≡ before ++ side_line side w
unfolding side_line
side_printed side s w said heard queue endpoint owed_len before behind stands is_said is_heard is_endpoint is_queue is_len printed =
    let h = counts_at side s w stands in
    let n : length said ≡ length (peer side w).endpoint.said = ap length is_said ∙ h.said in
    let m : length heard ≡ length (peer side w).heard = ap length is_heard ∙ h.heard in
    let k : owed_len ≡ length (owed (peer side w).endpoint) = is_len ∙ ap length is_queue ∙ ap (λ (e : EndpointState). length e.queue) is_endpoint ∙ h.owed in
    printed
    ∙ ap (λ (x : ℕ). before ++ side_counts side x (length heard) owed_len) n
    ∙ ap (λ (x : ℕ). before ++ side_counts side (length (peer side w).endpoint.said) x owed_len) m
    ∙ ap (λ (x : ℕ). before ++ side_counts side (length (peer side w).endpoint.said) (length (peer side w).heard) x) k

joined_up : (t e a s b l : List ℕ) → ((((t ++ e) ++ a) ++ s) ++ b) ++ l ≡ t ++ ((((e ++ a) ++ s) ++ b) ++ l)
joined_up t e a s b l =
    ap (λ (x : List ℕ). ((x ++ s) ++ b) ++ l) (append_assoc t e a)
    ∙ ap (λ (x : List ℕ). (x ++ b) ++ l) (append_assoc t (e ++ a) s)
    ∙ ap (λ (x : List ℕ). x ++ l) (append_assoc t ((e ++ a) ++ s) b)
    ∙ append_assoc t (((e ++ a) ++ s) ++ b) l

pub world_printed : (w : World) (t one two three four five : List ℕ) → one ≡ t ++ codes "end " → two ≡ one ++ side_line A w → three ≡ two ++ 32 ∷ [] → four ≡ three ++ side_line B w → five ≡ four ++ 10 ∷ [] → five ≡ t ++ world_line w
unfolding world_line
world_printed w t one two three four five is_one is_two is_three is_four is_five =
    is_five
    ∙ ap (λ (x : List ℕ). x ++ 10 ∷ []) (is_four ∙ ap (λ (x : List ℕ). x ++ side_line B w) (is_three ∙ ap (λ (x : List ℕ). x ++ 32 ∷ []) (is_two ∙ ap (λ (x : List ℕ). x ++ side_line A w) is_one)))
    ∙ joined_up t (codes "end ") (side_line A w) (codes " ") (side_line B w) (10 ∷ [])

-- ---- a world behind lines, where what is refused changes nothing

pub record IsBehind (w0 : World) (lines rest : List Line) (s : WorldState) : Type 0 where
  pub w : World
  pub stands : StandsForWorld s w
  pub same : world_behind lines w0 ≡ world_behind rest w

pub behind_at_start : (w : World) (lines : List Line) (s : WorldState) → StandsForWorld s w → IsBehind w lines lines s
behind_at_start w lines s stands = record { w = w; stands = stands; same = refl }

line_behind : (l : Line) (rest : List Line) (w : World) → world_behind (l ∷ rest) w ≡ world_behind rest (line_step l w).world
unfolding world_behind
line_behind l rest w = refl

pub behind_on : (w0 : World) (lines rest : List Line) (l : Line) (s s' : WorldState) → IsBehind w0 lines (l ∷ rest) s → ((w : World) → StandsForWorld s w → StandsForWorld s' (line_step l w).world) → IsBehind w0 lines rest s'
behind_on w0 lines rest l s s' b stands = record { w = (line_step l b.w).world; stands = stands b.w b.stands; same = b.same ∙ line_behind l rest b.w }

none_behind : (w : World) → world_behind [] w ≡ w
unfolding world_behind
none_behind w = refl

pub all_behind : (w0 : World) (lines : List Line) (s : WorldState) → IsBehind w0 lines [] s → StandsForWorld s (world_behind lines w0)
all_behind w0 lines s b = subst (λ (x : World). StandsForWorld s x) (sym (b.same ∙ none_behind b.w)) b.stands

-- ---- the lines of a list from a place on

line_at : (lines : List Line) (i : ℕ) (l : Line) → i < length lines → l ≡ slice_index_or lines i l → drop i lines ≡ l ∷ drop (i + 1) lines
line_at lines i l there is = drop_more lines i l there ∙ ap (λ (x : Line). x ∷ drop (i + 1) lines) (sym is)

pub line_on : (w0 : World) (lines : List Line) (i : ℕ) (l : Line) (s s' : WorldState) (before text text' : List ℕ) → i < length lines → l ≡ slice_index_or lines i l
    → IsRunning w0 lines (drop i lines) (i + 1) s before text → ((w : World) → StandsForWorld s w → Makes None s' text text' (line_step l w))
    → IsRunning w0 lines (drop (i + 1) lines) (i + 1 + 1) s' before text'
line_on w0 lines i l s s' before text text' there is r makes =
    running_on w0 lines (drop (i + 1) lines) l (i + 1) s s' before text text' (subst (λ (x : List Line). IsRunning w0 lines x (i + 1) s before text) (line_at lines i l there is) r) makes

pub line_off : (fault : EventFault) (w0 : World) (lines : List Line) (i : ℕ) (l : Line) (s s' : WorldState) (before text text' last : List ℕ) → i < length lines → l ≡ slice_index_or lines i l
    → IsRunning w0 lines (drop i lines) (i + 1) s before text → ((w : World) → StandsForWorld s w → Steps (Err fault) s' text text' (line_step l w)) → (fault ≡ NoMemory → ⊥)
    → last ≡ text' ++ fault_line (i + 1) fault → Adds (lines_report 1 lines w0) before last Refused
line_off fault w0 lines i l s s' before text text' last there is r makes other printed =
    line_refused fault w0 lines (drop (i + 1) lines) l (i + 1) s s' before text text' last (subst (λ (x : List Line). IsRunning w0 lines x (i + 1) s before text) (line_at lines i l there is) r) makes other printed

pub lines_over : (w0 : World) (lines : List Line) (i : ℕ) (s : WorldState) (before text last : List ℕ) → length lines ≤ i → IsRunning w0 lines (drop i lines) (i + 1) s before text
    → ((w : World) → StandsForWorld s w → last ≡ text ++ world_line w) → Adds (lines_report 1 lines w0) before last Done
lines_over w0 lines i s before text last all r printed =
    lines_done w0 lines (i + 1) s before text last (subst (λ (x : List Line). IsRunning w0 lines x (i + 1) s before text) (drop_all i lines all) r) printed

pub behind_line : (w0 : World) (lines : List Line) (i : ℕ) (l : Line) (s s' : WorldState) → i < length lines → l ≡ slice_index_or lines i l → IsBehind w0 lines (drop i lines) s
    → ((w : World) → StandsForWorld s w → StandsForWorld s' (line_step l w).world) → IsBehind w0 lines (drop (i + 1) lines) s'
behind_line w0 lines i l s s' there is b stands =
    behind_on w0 lines (drop (i + 1) lines) l s s' (subst (λ (x : List Line). IsBehind w0 lines x s) (line_at lines i l there is) b) stands

pub behind_over : (w0 : World) (lines : List Line) (i : ℕ) (s : WorldState) → length lines ≤ i → IsBehind w0 lines (drop i lines) s → StandsForWorld s (world_behind lines w0)
behind_over w0 lines i s all b = all_behind w0 lines s (subst (λ (x : List Line). IsBehind w0 lines x s) (drop_all i lines all) b)

-- the answer where a line is refused
pub refused_answer : (r : Result Ending Lacking) (fault : EventFault) (w0 : World) (lines : List Line) (i : ℕ) (l : Line) (s s' : WorldState) (before text text' last : List ℕ) → i < length lines → l ≡ slice_index_or lines i l
    → IsRunning w0 lines (drop i lines) (i + 1) s before text → ((w : World) → StandsForWorld s w → Steps (Err fault) s' text text' (line_step l w))
    → IfOk r (λ end. end ≡ Refused) → OnOk r (last ≡ text' ++ fault_line (i + 1) fault) → OnOk r (fault ≢ NoMemory)
    → IfOk r (λ end. Adds (lines_report 1 lines w0) before last end)
refused_answer (Ok end) fault w0 lines i l s s' before text text' last there is r makes refused printed other =
    subst (λ (x : Ending). Adds (lines_report 1 lines w0) before last x) (sym refused) (line_off fault w0 lines i l s s' before text text' last there is r makes other printed)
refused_answer (Err e) fault w0 lines i l s s' before text text' last there is r makes refused printed other = tt
