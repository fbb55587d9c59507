-- What is still to be printed, as the unread bytes go.
use Rattle.std.proofs.Common.{◌≡◌, ℕ, zero, suc, ◌+◌, ◌-◌, ◌<◌, ◌≤◌, Bool, true, false, cond, List, [], ◌∷◌, ◌++◌, length, append_assoc, append-nil, length-append, sym, ap, subst, ◌∙◌, refl, arith}
use Rattle.std.specs.Prelude.{Option, Some, None, Result, IfOk}
use Rattle.std.proofs.lemmas.Bool.{leb-true, and_parts, cond-true, cond-false}
use Rattle.std.proofs.lemmas.Result.{IfOk-weaker}
use Rattle.ra_model.specs.declared.frame.Frame.{Frame}
use Rattle.ra_model.specs.Frames.{frame_bytes, joined}
use Rattle.ra_model.specs.FirstFrame.{first_frame, is_too_long, stated, is_wide, header_len}
use Rattle.ra_model.specs.Cutting.{frames_of, rest_of, cut_from, cut_within}
use Rattle.ra_model.specs.Endpoints.{Endpoint, is_ended}
use Rattle.ra_model.proofs.Framing.{first_frame_more, header_more}
use Rattle.ra_model.proofs.Cuts.{found-not_too_long, too_long-more}
use Rattle.ra_model.proofs.CuttingLemmas.{frames_step, frames_none, found_shorter, frame_bytes_some}
use Rattle.ra_frame.specs.declared.reader.FrameFault.{FrameFault}
use Rattle.ra_frame.specs.declared.reader.FrameFault.TheVariants.{TooLong}
use Rattle.ra_frame.specs.Fronts.{IsTooLong}
use Rattle.ra_endpoint_commands.specs.declared.receiver.Taken.{Taken}
use Rattle.ra_endpoint_commands.specs.declared.receiver.Taken.TheVariants.{Refused as RefusedNow}
use Rattle.ra_endpoint_commands.specs.declared.report.Ending.{Ending}
use Rattle.ra_endpoint_commands.specs.declared.report.Ending.TheVariants.{Done, Refused}
use Rattle.ra_endpoint_commands.specs.Lines.{too_long_line, end_line, over_line}
use Rattle.ra_endpoint_commands.specs.Receive.{Report, prefixed, report, closing, after_end, lines_of, after_frame, flushed}
use Rattle.ra_endpoint_commands.specs.Progress.{Progress, endpoint_of, IsListening, IsReady, IsWaiting, IsWithin, IsRefused, IsOver, SameOutlook, Looks, due}

pub prefixed_both : (a b : List ℕ) (r : Report) → prefixed a (prefixed b r) ≡ prefixed (a ++ b) r
prefixed_both a b r = ap (λ (t : List ℕ). let x : Report = record { text = t; ending = r.ending } in x) (sym (append_assoc a b r.text))

pub ending_with : (text other : List ℕ) (ending : Ending) → text ≡ other → (let x : Report = record { text = text; ending = ending } in x) ≡ record { text = other; ending = ending }
ending_with text other ending e = ap (λ (t : List ℕ). let x : Report = record { text = t; ending = ending } in x) e

-- The frames of a text and its rest have as many bytes as the text

abbrev HasLength : ℕ → Type 0
HasLength n = (text : List ℕ) → length text ≤ n → length (joined (cut_within n text).0 ++ (cut_within n text).1) ≡ length text

length_at : (n : ℕ) (text : List ℕ) (found : Option (Frame × List ℕ)) → first_frame text ≡ found → length text ≤ suc n → HasLength n
    → length (joined (cut_from found text (cut_within n)).0 ++ (cut_from found text (cut_within n)).1) ≡ length text
length_at n text None is size next = refl
length_at n text (Some found) is size next =
    let shorter : length text ≡ length (frame_bytes found.0) + length found.1 = found_shorter text found.0 found.1 is in
    let some : 0 < length (frame_bytes found.0) = frame_bytes_some found.0 in
    let rest = cut_within n found.1 in
    let inner : length (joined rest.0 ++ rest.1) ≡ length found.1 = next found.1 (omega arith) in
    ap length (append_assoc (frame_bytes found.0) (joined rest.0) rest.1) ∙ length-append (frame_bytes found.0) (joined rest.0 ++ rest.1)
    ∙ ap (λ (k : ℕ). length (frame_bytes found.0) + k) inner ∙ sym shorter

length_within : (n : ℕ) → HasLength n
unfolding cut_within
length_within zero text size = refl
length_within (suc n) text size = length_at n text (first_frame text) refl size (length_within n)

length_cut : (text : List ℕ) → length (joined (frames_of text) ++ rest_of text) ≡ length text
unfolding frames_of rest_of
length_cut text = length_within (length text) text (omega arith)

-- One frame on

-- a frame that begins the unread bytes is the first of what comes
first_on : (p : Progress) (f : Frame) (rest more : List ℕ) (over : Bool) → first_frame p.unread ≡ Some (f, rest)
    → due p more over ≡ report (endpoint_of p.end) (p.fed - length p.unread) (f ∷ frames_of (rest ++ more)) (rest_of (rest ++ more)) over
unfolding due
first_on p f rest more over h =
    let step = frames_step (p.unread ++ more) f (rest ++ more) (first_frame_more p.unread more f rest h) in
    ap (λ (fs : List Frame). report (endpoint_of p.end) (p.fed - length p.unread) fs (rest_of (p.unread ++ more)) over) step.0
    ∙ ap (λ (r : List ℕ). report (endpoint_of p.end) (p.fed - length p.unread) (f ∷ frames_of (rest ++ more)) r over) step.1

-- the report of a frame and what follows, by whether the peer has left
abbrev goes : Bool → Endpoint → Endpoint → ℕ → Frame → List Frame → List ℕ → Bool → Report
goes b e next at f frames rest over =
    prefixed (lines_of f e) (cond b (after_end next.received (length (joined frames ++ rest)) over) (report (flushed next) (at + length (frame_bytes f)) frames rest over))

report_step : (e : Endpoint) (at : ℕ) (f : Frame) (frames : List Frame) (rest : List ℕ) (over : Bool)
    → report e at (f ∷ frames) rest over ≡ goes (is_ended (after_frame f e).phase) e (after_frame f e) at f frames rest over
unfolding report
report_step e at f frames rest over = refl

-- a frame after which the peer is still there gives its lines
taken_on : (p q : Progress) (f : Frame) (rest more : List ℕ) (over : Bool) → length p.unread ≤ p.fed → first_frame p.unread ≡ Some (f, rest)
    → is_ended (after_frame f (endpoint_of p.end)).phase ≡ false → endpoint_of q.end ≡ flushed (after_frame f (endpoint_of p.end)) → q.unread ≡ rest → q.fed ≡ p.fed
    → due p more over ≡ prefixed (lines_of f (endpoint_of p.end)) (due q more over)
unfolding due
taken_on p q f rest more over within h there end unread fed =
    let e : Endpoint = endpoint_of p.end in
    let next : Endpoint = after_frame f e in
    let at : ℕ = p.fed - length p.unread in
    let fs : List Frame = frames_of (rest ++ more) in
    let r : List ℕ = rest_of (rest ++ more) in
    let shorter : length p.unread ≡ length (frame_bytes f) + length rest = found_shorter p.unread f rest h in
    let place : at + length (frame_bytes f) ≡ q.fed - length q.unread = omega (arith, ap length unread) in
    first_on p f rest more over h ∙ report_step e at f fs r over
    ∙ ap (λ (b : Bool). goes b e next at f fs r over) there
    ∙ ap (λ (x : Endpoint). prefixed (lines_of f e) (report x (at + length (frame_bytes f)) fs r over)) (sym end)
    ∙ ap (λ (n : ℕ). prefixed (lines_of f e) (report (endpoint_of q.end) n fs r over)) place
    ∙ ap (λ (u : List ℕ). prefixed (lines_of f e) (report (endpoint_of q.end) (q.fed - length q.unread) (frames_of (u ++ more)) (rest_of (u ++ more)) over)) (sym unread)

-- a frame with which the peer has left gives its lines, and what follows is counted
ended_on : (p q : Progress) (f : Frame) (rest more : List ℕ) (over : Bool) → first_frame p.unread ≡ Some (f, rest)
    → is_ended (after_frame f (endpoint_of p.end)).phase ≡ true → endpoint_of q.end ≡ after_frame f (endpoint_of p.end) → q.unread ≡ rest
    → due p more over ≡ prefixed (lines_of f (endpoint_of p.end)) (after_end q.end.received (length q.unread + length more) over)
ended_on p q f rest more over h left end unread =
    let e : Endpoint = endpoint_of p.end in
    let next : Endpoint = after_frame f e in
    let at : ℕ = p.fed - length p.unread in
    let fs : List Frame = frames_of (rest ++ more) in
    let r : List ℕ = rest_of (rest ++ more) in
    let len : length (joined fs ++ r) ≡ length q.unread + length more =
    length_cut (rest ++ more) ∙ length-append rest more ∙ ap (λ (u : List ℕ). length u + length more) (sym unread) in
    first_on p f rest more over h ∙ report_step e at f fs r over
    ∙ ap (λ (b : Bool). goes b e next at f fs r over) left
    ∙ ap (λ (n : ℕ). prefixed (lines_of f e) (after_end next.received n over)) len
    ∙ ap (λ (x : Endpoint). prefixed (lines_of f e) (after_end x.received (length q.unread + length more) over)) (sym end)

-- Where no frame begins the bytes, the run closes

no_frame_on : (p : Progress) (more : List ℕ) (over : Bool) → first_frame (p.unread ++ more) ≡ None → due p more over ≡ closing (endpoint_of p.end) (p.fed - length p.unread) (p.unread ++ more) over
unfolding due report
no_frame_on p more over none =
    let both = frames_none (p.unread ++ more) none in
    ap (λ (fs : List Frame). report (endpoint_of p.end) (p.fed - length p.unread) fs (rest_of (p.unread ++ more)) over) both.0
    ∙ ap (λ (r : List ℕ). report (endpoint_of p.end) (p.fed - length p.unread) [] r over) both.1

none_of_too_long : (text : List ℕ) (found : Option (Frame × List ℕ)) → first_frame text ≡ found → is_too_long text ≡ true → first_frame text ≡ None
none_of_too_long text None is long = is
none_of_too_long text (Some found) is long = let small : is_too_long text ≡ false = found-not_too_long text found is in absurd cc

header_there : (text : List ℕ) → is_too_long text ≡ true → header_len (is_wide text) ≤ length text
unfolding is_too_long
header_there text long = leb-true (header_len (is_wide text)) (length text) (and_parts _ _ long).0

closing_too_long : (e : Endpoint) (at : ℕ) (rest : List ℕ) (over : Bool) → is_too_long rest ≡ true → closing e at rest over ≡ record { text = too_long_line (stated rest) at; ending = Refused }
unfolding closing
closing_too_long e at rest over long = cond-true _ _ _ long

closing_small : (e : Endpoint) (at : ℕ) (rest : List ℕ) (over : Bool) → is_too_long rest ≡ false
    → closing e at rest over ≡ cond over (record { text = over_line; ending = Refused }) (record { text = end_line e.received (length rest); ending = Done })
unfolding closing
closing_small e at rest over small = cond-false _ _ _ small

pub too_long_on : (p : Progress) (n : ℕ) (more : List ℕ) (over : Bool) → is_too_long p.unread ≡ true → stated p.unread ≡ n
    → due p more over ≡ record { text = too_long_line n (p.fed - length p.unread); ending = Refused }
too_long_on p n more over long is =
    let all : List ℕ = p.unread ++ more in
    let on : is_too_long all ≡ true = too_long-more p.unread more long in
    let same : stated all ≡ n = (header_more p.unread more (header_there p.unread long)).1 ∙ is in
    no_frame_on p more over (none_of_too_long all (first_frame all) refl on)
    ∙ closing_too_long (endpoint_of p.end) (p.fed - length p.unread) all over on
    ∙ ap (λ (k : ℕ). let x : Report = record { text = too_long_line k (p.fed - length p.unread); ending = Refused } in x) same

-- less than a frame ends the run
waiting_on : (p : Progress) (over : Bool) → IsWaiting p.unread
    → due p [] over ≡ cond over (record { text = over_line; ending = Refused }) (record { text = end_line p.end.received (length p.unread); ending = Done })
waiting_on p over h =
    let all : p.unread ++ [] ≡ p.unread = append-nil p.unread in
    no_frame_on p [] over (ap first_frame all ∙ h.none) ∙ ap (λ (r : List ℕ). closing (endpoint_of p.end) (p.fed - length p.unread) r over) all
    ∙ closing_small (endpoint_of p.end) (p.fed - length p.unread) p.unread over h.small

pub end_on : (p : Progress) → IsWaiting p.unread → due p [] false ≡ record { text = end_line p.end.received (length p.unread); ending = Done }
end_on p h = waiting_on p false h

-- and so do bytes over the limit
pub over_on : (p : Progress) → IsWaiting p.unread → due p [] true ≡ record { text = over_line; ending = Refused }
over_on p h = waiting_on p true h

-- One look, with its text

pub look_too_long : (p q : Progress) (n : ℕ) (before after : List ℕ) (place : ℕ) → p ≡ q → is_too_long p.unread ≡ true → stated p.unread ≡ n → place ≡ p.fed - length p.unread
    → after ≡ before ++ too_long_line n place → IsRefused q before after
look_too_long p q n before after place same long is at text more over =
    subst (λ (x : Progress). prefixed before (due x more over) ≡ record { text = after; ending = Refused }) same
    (ap (prefixed before) (too_long_on p n more over long is) ∙ ending_with _ _ Refused (ap (λ (k : ℕ). before ++ too_long_line n k) (sym at) ∙ sym text))

pub look_frame : (p q r : Progress) (f : Frame) (rest before after : List ℕ) → p ≡ q → IsReady q → first_frame p.unread ≡ Some (f, rest)
    → is_ended (after_frame f (endpoint_of p.end)).phase ≡ false → endpoint_of r.end ≡ flushed (after_frame f (endpoint_of p.end)) → IsListening r.end → r.unread ≡ rest → r.fed ≡ p.fed
    → after ≡ before ++ lines_of f (endpoint_of p.end)
    → IsReady r × (length r.unread < length q.unread) × (r.fed ≡ q.fed) × SameOutlook q before r after
look_frame p q r f rest before after same ready h there end listening unread fed text =
    let ready-p : IsReady p = subst (λ (x : Progress). IsReady x) (sym same) ready in
    let shorter : length p.unread ≡ length (frame_bytes f) + length rest = found_shorter p.unread f rest h in
    let some : 0 < length (frame_bytes f) = frame_bytes_some f in
    let len : length r.unread ≡ length rest = ap length unread in
    let within : length p.unread ≤ p.fed = ready-p.within.unread in
    let limited = ready-p.within.fed in
    let look : SameOutlook p before r after = λ more over.
    ap (prefixed before) (taken_on p r f rest more over within h there end unread fed)
    ∙ prefixed_both before (lines_of f (endpoint_of p.end)) (due r more over)
    ∙ ap (λ (t : List ℕ). prefixed t (due r more over)) (sym text) in (
      record { listening = listening; within = record { unread = omega arith; fed = omega (arith, fed, limited) } },
      subst (λ (x : Progress). length r.unread < length x.unread) same (omega arith),
      fed ∙ ap (λ (x : Progress). x.fed) same,
      subst (λ (x : Progress). SameOutlook x before r after) same look,
    )

pub look_ended : (p q r : Progress) (f : Frame) (rest before after : List ℕ) → p ≡ q → IsReady q → first_frame p.unread ≡ Some (f, rest)
    → is_ended (after_frame f (endpoint_of p.end)).phase ≡ true → endpoint_of r.end ≡ after_frame f (endpoint_of p.end) → r.unread ≡ rest → r.fed ≡ p.fed
    → after ≡ before ++ lines_of f (endpoint_of p.end)
    → IsWithin r × (r.fed ≡ q.fed) × IsOver q before r after
look_ended p q r f rest before after same ready h left end unread fed text =
    let ready-p : IsReady p = subst (λ (x : Progress). IsReady x) (sym same) ready in
    let shorter : length p.unread ≡ length (frame_bytes f) + length rest = found_shorter p.unread f rest h in
    let len : length r.unread ≡ length rest = ap length unread in
    let within : length p.unread ≤ p.fed = ready-p.within.unread in
    let limited = ready-p.within.fed in
    let look : IsOver p before r after = λ more over.
    ap (prefixed before) (ended_on p r f rest more over h left end unread)
    ∙ prefixed_both before (lines_of f (endpoint_of p.end)) (after_end r.end.received (length r.unread + length more) over)
    ∙ ap (λ (t : List ℕ). prefixed t (after_end r.end.received (length r.unread + length more) over)) (sym text) in (
      record { unread = omega arith; fed = omega (arith, fed, limited) },
      fed ∙ ap (λ (x : Progress). x.fed) same,
      subst (λ (x : Progress). IsOver x before r after) same look,
    )

-- a fault of the reader, where it gives a last line
pub look_fault : {E : Type 0} (p q r : Progress) (fault : FrameFault) (before after : List ℕ) (place : ℕ) (result : Result Taken E) → p ≡ q
    → ((n : ℕ) → fault ≡ TooLong n → IsTooLong p.unread n) → place ≡ p.fed - length p.unread
    → IfOk result (λ taken. (taken ≡ RefusedNow) × ((n : ℕ) × (fault ≡ TooLong n) × (after ≡ before ++ too_long_line n place)))
    → IfOk result (λ taken. Looks taken q before r after)
look_fault p q r fault before after place result same too_long at =
    IfOk-weaker result (λ taken. (taken ≡ RefusedNow) × ((n : ℕ) × (fault ≡ TooLong n) × (after ≡ before ++ too_long_line n place))) (λ taken. Looks taken q before r after)
    (λ taken h.
    let long = too_long h.1.0 h.1.1 in
    subst (λ (x : Taken). Looks x q before r after) (sym h.0) (look_too_long p q h.1.0 before after place same long.too_long long.stated at h.1.2))
