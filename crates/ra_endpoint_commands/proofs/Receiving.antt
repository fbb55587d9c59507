-- The loops of `receive`: the frames of a link, and what is counted once the peer has left.
use Rattle.std.proofs.Common.{◌≡◌, ℕ, ◌+◌, ◌-◌, ◌<◌, ◌≤◌, Bool, true, false, List, [], ◌++◌, length, take, length-append, sym, ap, subst, ◌∙◌, refl, arith, rules}
use Rattle.std.specs.Prelude.{nat_lt, Option}
use Rattle.std.specs.Io.KnownBytes.{Appends, Consumes}
use Rattle.std.proofs.lemmas.List.{take_all}
use Rattle.ra_model.specs.FirstFrame.{is_too_long, number_at}
use Rattle.ra_model.specs.Cutting.{frames_of, rest_of}
use Rattle.ra_model.specs.Endpoints.{Endpoint}
use Rattle.ra_model.proofs.Framing.{first_frame-nil}
use Rattle.ra_ports.specs.Texts.{Told}
use Rattle.ra_endpoint_commands.specs.declared.report.Ending.TheVariants.{Done, Refused}
use Rattle.ra_endpoint_commands.specs.declared.receiver.Turned.{Turned}
use Rattle.ra_endpoint_commands.specs.declared.receiver.Turned.TheVariants.{Waiting, Refused as RefusedThere, Ended as EndedThere}
use Rattle.ra_endpoint_commands.specs.Lines.{end_line, over_line}
use Rattle.ra_endpoint_commands.specs.Receive.{Report, report, after_end, receive_report, input_limit, first_link}
use Rattle.ra_endpoint_commands.specs.Progress.{Progress, IsReady, IsWaiting, Turns, endpoint_of, due, due_input, due_after_end}
use Rattle.ra_endpoint_commands.proofs.Outlooks.{end_on}
use Rattle.ra_endpoint_commands.proofs.PieceLemmas.{over_both}
use Rattle.ra_endpoint_commands.proofs.Runs.{Stands, ComesNext, stands_at_start, stands_on, counts_on, next_on, next_last}

-- the last line at the end of the input
pub last_line : (p : Progress) → IsWaiting p.unread → due_input p [] ≡ record { text = end_line p.end.received (length p.unread); ending = Done }
unfolding due_input
last_line p waiting =
    let none : take (input_limit - p.fed) [] ≡ [] = take_all (input_limit - p.fed) [] (omega arith) in
    let test : nat_lt (input_limit - p.fed) 0 ≡ false = search rules in
    ap (λ (t : List ℕ). due p t (nat_lt (input_limit - p.fed) 0)) none ∙ ap (λ (b : Bool). due p [] b) test ∙ end_on p waiting

-- the frames of a link are still applied
pub record IsUnderWay (left taken left' taken' : Option (List ℕ)) (p : Progress) (reads reads' writes writes' : ℕ) : Type 0 where
  pub told : Told left taken (λ input before. Stands receive_report (due_input p) input before left' taken')
  pub ready : IsReady p
  pub waiting : IsWaiting p.unread
  pub source_faults : reads ≤ reads'
  pub sink_faults : writes ≤ writes'

waiting_nothing : IsWaiting []
unfolding is_too_long number_at
waiting_nothing = record { none = first_frame-nil; small = refl }

begins : (p : Progress) → endpoint_of p.end ≡ first_link → p.unread ≡ [] → p.fed ≡ 0 → (more : List ℕ) → receive_report more ≡ due_input p more
unfolding receive_report due_input due
begins p end empty zero more =
    let front : List ℕ → ℕ → ℕ → Endpoint → Report = λ unread at fed e.
    report e at (frames_of (unread ++ take (input_limit - fed) more)) (rest_of (unread ++ take (input_limit - fed) more)) (nat_lt (input_limit - fed) (length more)) in
    let at : 0 ≡ p.fed - length p.unread = omega (arith, zero) in
    ap (λ (e : Endpoint). front [] 0 0 e) (sym end)
    ∙ ap (λ (n : ℕ). front [] n 0 (endpoint_of p.end)) at
    ∙ ap (λ (n : ℕ). front [] (p.fed - length p.unread) n (endpoint_of p.end)) (sym zero)
    ∙ ap (λ (t : List ℕ). front t (p.fed - length p.unread) p.fed (endpoint_of p.end)) (sym empty)

pub under_way_at_start : (left taken : Option (List ℕ)) (p : Progress) (reads writes : ℕ) → IsReady p → endpoint_of p.end ≡ first_link → (p.unread ≡ []) × (p.fed ≡ 0)
    → IsUnderWay left taken left taken p reads reads writes writes
under_way_at_start left taken p reads writes ready end empty = record {
  told = λ input before source sink. stands_at_start receive_report (due_input p) input before left taken (begins p end empty.0 empty.1) source sink;
  ready = ready;
  waiting = subst (λ (u : List ℕ). IsWaiting u) (sym empty.0) waiting_nothing;
  source_faults = omega arith;
  sink_faults = omega arith;
}

pub under_way_on : (left taken lo lo' to to' : Option (List ℕ)) (p q : Progress) (reads reads' reads'' writes writes' writes'' : ℕ) (piece text : List ℕ)
    → IsUnderWay left taken lo to p reads reads' writes writes' → Consumes lo lo' piece → Turns Waiting p [] piece q text → Appends to to' text → reads' ≤ reads'' → writes' ≤ writes''
    → IsUnderWay left taken lo' to' q reads reads'' writes writes''
under_way_on left taken lo lo' to to' p q reads reads' reads'' writes writes' writes'' piece text u read turn wrote r w = record {
  told = λ input before source sink. stands_on receive_report (due_input p) (due_input q) input before lo lo' to to' piece text (u.told input before source sink) read turn.3 wrote;
  ready = turn.0;
  waiting = turn.1;
  source_faults = omega (arith, u.source_faults, r);
  sink_faults = omega (arith, u.sink_faults, w);
}

-- what a piece gave comes next
pub next_of_turn : (o : Turned) (lo lo' : Option (List ℕ)) (p q : Progress) (piece text : List ℕ) → Consumes lo lo' piece → Turns o p [] piece q text → ComesNext (due_input p) lo text
next_of_turn Waiting lo lo' p q piece text read turn = next_on (due_input p) (due_input q) lo lo' piece text read turn.3
next_of_turn RefusedThere lo lo' p q piece text read turn = next_last (due_input p) lo lo' piece text Refused read turn
next_of_turn EndedThere lo lo' p q piece text read turn = next_on (due_input p) (due_after_end q.end.received (length q.unread) q.fed) lo lo' piece text read turn.1

-- the text that the lines were added to was empty
pub turn_text : (o o' : Turned) (p q : Progress) (before piece after : List ℕ) → before ≡ [] → o ≡ o' → Turns o p before piece q after → Turns o' p [] piece q after
turn_text o o' p q before piece after none is turn = subst (λ (x : Turned). Turns x p [] piece q after) is (subst (λ (t : List ℕ). Turns o p t piece q after) none turn)

-- Once the peer has left

pub ended_told : (left taken lo lo' to to' : Option (List ℕ)) (p q : Progress) (reads reads' writes writes' heard rest fed : ℕ) (piece text : List ℕ)
    → IsUnderWay left taken lo to p reads reads' writes writes' → Consumes lo lo' piece → Turns EndedThere p [] piece q text → Appends to to' text
    → heard ≡ q.end.received → rest ≡ length q.unread → fed ≡ q.fed
    → Told left taken (λ input before. Stands receive_report (due_after_end heard rest fed) input before lo' to')
ended_told left taken lo lo' to to' p q reads reads' writes writes' heard rest fed piece text u read turn wrote h r f = λ input before source sink.
    subst (λ (due : List ℕ → Report). Stands receive_report due input before lo' to') (λ i. due_after_end (sym h i) (sym r i) (sym f i))
    (stands_on receive_report (due_input p) (due_after_end q.end.received (length q.unread) q.fed) input before lo lo' to to' piece text (u.told input before source sink) read turn.1 wrote)

pub counted_end : (heard rest fed : ℕ) → due_after_end heard rest fed [] ≡ record { text = end_line heard rest; ending = Done }
unfolding due_after_end
counted_end heard rest fed =
    let test : nat_lt (input_limit - fed) 0 ≡ false = search rules in
    let same : rest + 0 ≡ rest = omega arith in
    ap (λ (b : Bool). after_end heard (rest + 0) b) test ∙ ap (λ (n : ℕ). after_end heard n false) same

pub counted_over : (heard rest fed k : ℕ) (piece left : List ℕ) → k ≡ length piece → input_limit - fed < k → due_after_end heard rest fed (piece ++ left) ≡ record { text = over_line; ending = Refused }
unfolding due_after_end
counted_over heard rest fed k piece left is over =
    let long : input_limit - fed < length (piece ++ left) = omega (arith, is, over, length-append piece left) in
    let test : nat_lt (input_limit - fed) (length (piece ++ left)) ≡ true = search (rules, long) in
    ap (λ (b : Bool). after_end heard (rest + length (piece ++ left)) b) test

pub counted_on : (heard rest fed k : ℕ) (piece left : List ℕ) → k ≡ length piece → k ≤ input_limit - fed → due_after_end heard rest fed (piece ++ left) ≡ due_after_end heard (rest + k) (fed + k) left
unfolding due_after_end
counted_on heard rest fed k piece left is room =
    let sum : rest + length (piece ++ left) ≡ rest + k + length left = omega (arith, is, length-append piece left) in
    let behind : input_limit - fed - k ≡ input_limit - (fed + k) = omega arith in
    ap (λ (n : ℕ). after_end heard n (nat_lt (input_limit - fed) (length (piece ++ left)))) sum
    ∙ ap (λ (b : Bool). after_end heard (rest + k + length left) b) (over_both (input_limit - fed) k 0 piece left (sym is) room)
    ∙ ap (λ (n : ℕ). after_end heard (rest + k + length left) (nat_lt n (length left))) behind

-- what follows is counted
pub record IsCounting (left taken left' taken' : Option (List ℕ)) (heard rest fed rest' fed' reads reads' writes writes' : ℕ) : Type 0 where
  pub told : Told left taken (λ input before. Stands (due_after_end heard rest fed) (due_after_end heard rest' fed') input before left' taken')
  pub within : rest' ≤ fed'
  pub limited : fed' ≤ input_limit
  pub source_faults : reads ≤ reads'
  pub sink_faults : writes ≤ writes'

pub counting_at_start : (left taken : Option (List ℕ)) (heard rest fed reads writes : ℕ) → rest ≤ fed → fed ≤ input_limit → IsCounting left taken left taken heard rest fed rest fed reads reads writes writes
counting_at_start left taken heard rest fed reads writes within limited = record {
  told = λ input before source sink. stands_at_start (due_after_end heard rest fed) (due_after_end heard rest fed) input before left taken (λ more. refl) source sink;
  within = within;
  limited = limited;
  source_faults = omega arith;
  sink_faults = omega arith;
}

pub counting_on : (left taken lo lo' to : Option (List ℕ)) (heard rest fed rest' fed' reads reads' reads'' writes writes' k : ℕ) (piece : List ℕ)
    → IsCounting left taken lo to heard rest fed rest' fed' reads reads' writes writes' → Consumes lo lo' piece → k ≡ length piece → k ≤ input_limit - fed' → reads' ≤ reads''
    → IsCounting left taken lo' to heard rest fed (rest' + k) (fed' + k) reads reads'' writes writes'
counting_on left taken lo lo' to heard rest fed rest' fed' reads reads' reads'' writes writes' k piece u read is room r = record {
  told = λ input before source sink.
      counts_on (due_after_end heard rest fed) (due_after_end heard rest' fed') (due_after_end heard (rest' + k) (fed' + k)) input before lo lo' to piece (u.told input before source sink) read
      (λ left. counted_on heard rest' fed' k piece left is room);
  within = omega (arith, u.within);
  limited = omega (arith, u.limited, room);
  source_faults = omega (arith, u.source_faults, r);
  sink_faults = u.sink_faults;
}
