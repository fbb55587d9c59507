-- A run over a source and a sink, piece by piece: what is printed for all of the input, and what is still printed for the rest.
use Rattle.std.proofs.Common.{◌≡◌, ℕ, ◌≤◌, List, [], ◌++◌, take, drop, append_assoc, append-nil, sym, ap, subst, ◌∙◌, refl, arith}
use Rattle.std.specs.Prelude.{Option, Some, None, Result, Ok, Err, OnOk, OnErr, IfOk}
use Rattle.std.specs.Io.KnownBytes.{Appends, Consumes, IsAtEnd, Keeps}
use Rattle.std.proofs.lemmas.List.{take-append-drop}
use Rattle.ra_ports.specs.Causes.{AppendsFront, Rose}
use Rattle.ra_ports.specs.Texts.{Told, WroteAll, WroteFront}
use Rattle.ra_endpoint_commands.specs.declared.report.Ending.{Ending}
use Rattle.ra_endpoint_commands.specs.declared.report.Ending.TheVariants.{Done}
use Rattle.ra_endpoint_commands.specs.Lines.{end_line}
use Rattle.ra_endpoint_commands.specs.Receive.{Report, prefixed}
use Rattle.ra_endpoint_commands.specs.Progress.{WroteLines, IsReported}
use Rattle.ra_endpoint_commands.proofs.Outlooks.{prefixed_both}

-- What told options are after a read or a write

kept : (lo lo' : Option (List ℕ)) (rest : List ℕ) → lo ≡ Some rest → Keeps lo lo' → lo' ≡ Some rest
kept None lo' rest e k = absurd cc
kept (Some x) None rest e k = absurd k
kept (Some x) (Some y) rest e k = ap (λ (t : List ℕ). Some t) (k ∙ (let same : x ≡ rest = cc in same))

-- what a source has left, after a read that it tells
some_left : (lo lo' : Option (List ℕ)) (piece rest : List ℕ) → lo ≡ Some rest → Consumes lo lo' piece → (rest' : List ℕ) × (lo' ≡ Some rest') × (rest ≡ piece ++ rest')
some_left None lo' piece rest e c = absurd cc
some_left (Some x) None piece rest e c = absurd c
some_left (Some x) (Some y) piece rest e c = (y, refl, (let same : x ≡ rest = cc in sym same ∙ c))

-- what a sink has taken, after a write that it tells
pub some_taken : (to to' : Option (List ℕ)) (text had : List ℕ) → to ≡ Some had → Appends to to' text → to' ≡ Some (had ++ text)
some_taken None to' text had e a = absurd cc
some_taken (Some x) None text had e a = absurd a
some_taken (Some x) (Some y) text had e a = ap (λ (t : List ℕ). Some t) (a ∙ ap (λ (t : List ℕ). t ++ text) (let same : x ≡ had = cc in same))

at_end : (lo : Option (List ℕ)) (rest : List ℕ) → lo ≡ Some rest → IsAtEnd lo → rest ≡ []
at_end None rest e end = absurd cc
at_end (Some x) rest e end = let same : x ≡ rest = cc in sym same ∙ end

-- How far a run has come

-- what was read of the input, what is left, and what was written, whatever comes: `printed` is printed for all, `due` for the rest
pub record Stands (printed due : List ℕ → Report) (input before : List ℕ) (left taken : Option (List ℕ)) : Type 0 where
  pub read : List ℕ
  pub rest : List ℕ
  pub written : List ℕ
  pub parts : input ≡ read ++ rest
  pub source : left ≡ Some rest
  pub sink : taken ≡ Some (before ++ written)
  pub whole : (more : List ℕ) → printed (read ++ more) ≡ prefixed written (due more)

pub stands_at_start : (printed due : List ℕ → Report) (input before : List ℕ) (lo to : Option (List ℕ)) → ((more : List ℕ) → printed more ≡ due more) → lo ≡ Some input → to ≡ Some before
    → Stands printed due input before lo to
stands_at_start printed due input before lo to same source sink = record {
  read = [];
  rest = input;
  written = [];
  parts = refl;
  source = source;
  sink = sink ∙ ap (λ (t : List ℕ). Some t) (sym (append-nil before));
  whole = λ more. same more;
}

-- the same of the input
of_input : (printed due : List ℕ → Report) (input before : List ℕ) (lo to : Option (List ℕ)) (s : Stands printed due input before lo to) → printed input ≡ prefixed s.written (due s.rest)
of_input printed due input before lo to s = ap printed s.parts ∙ s.whole s.rest

-- a piece was read and taken, and its lines are written
pub stands_on : (printed due next : List ℕ → Report) (input before : List ℕ) (lo lo' to to' : Option (List ℕ)) (piece text : List ℕ)
    → Stands printed due input before lo to → Consumes lo lo' piece → ((left : List ℕ) → due (piece ++ left) ≡ prefixed text (next left)) → Appends to to' text
    → Stands printed next input before lo' to'
stands_on printed due next input before lo lo' to to' piece text s read turn wrote =
    let l = some_left lo lo' piece s.rest s.source read in
    record {
      read = s.read ++ piece;
      rest = l.0;
      written = s.written ++ text;
      parts = s.parts ∙ ap (λ (t : List ℕ). s.read ++ t) l.2 ∙ sym (append_assoc s.read piece l.0);
      source = l.1;
      sink = some_taken to to' text (before ++ s.written) s.sink wrote ∙ ap (λ (t : List ℕ). Some t) (append_assoc before s.written text);
      whole = λ more. ap printed (append_assoc s.read piece more) ∙ s.whole (piece ++ more) ∙ ap (prefixed s.written) (turn more) ∙ prefixed_both s.written text (next more);
    }

-- the same where nothing is written
pub counts_on : (printed due next : List ℕ → Report) (input before : List ℕ) (lo lo' to : Option (List ℕ)) (piece : List ℕ)
    → Stands printed due input before lo to → Consumes lo lo' piece → ((left : List ℕ) → due (piece ++ left) ≡ next left) → Stands printed next input before lo' to
counts_on printed due next input before lo lo' to piece s read turn =
    let l = some_left lo lo' piece s.rest s.source read in
    record {
      read = s.read ++ piece;
      rest = l.0;
      written = s.written;
      parts = s.parts ∙ ap (λ (t : List ℕ). s.read ++ t) l.2 ∙ sym (append_assoc s.read piece l.0);
      source = l.1;
      sink = s.sink;
      whole = λ more. ap printed (append_assoc s.read piece more) ∙ s.whole (piece ++ more) ∙ ap (prefixed s.written) (turn more);
    }

-- Where a run ends

-- all that is due for the rest is written
all_of : (printed due : List ℕ → Report) (input before : List ℕ) (lo to to' : Option (List ℕ)) (text : List ℕ) (end : Ending) (s : Stands printed due input before lo to)
    → due s.rest ≡ record { text = text; ending = end } → Appends to to' text → WroteAll before (printed input).text to' × (end ≡ (printed input).ending)
all_of printed due input before lo to to' text end s is wrote =
    let last : Report = record { text = text; ending = end } in
    let whole : printed input ≡ prefixed s.written last = of_input printed due input before lo to s ∙ ap (prefixed s.written) is in (
      record { now = some_taken to to' text (before ++ s.written) s.sink wrote ∙ ap (λ (t : List ℕ). Some t) (append_assoc before s.written text ∙ ap (λ (r : Report). before ++ r.text) (sym whole)) },
      ap (λ (r : Report). r.ending) (sym whole),
    )

-- the run ends with this piece
pub ends_on : (printed due : List ℕ → Report) (input before : List ℕ) (lo lo' to to' : Option (List ℕ)) (piece text : List ℕ) (end : Ending)
    → Stands printed due input before lo to → Consumes lo lo' piece → ((left : List ℕ) → due (piece ++ left) ≡ record { text = text; ending = end }) → Appends to to' text → (end ≡ Done → ⊥)
    → IsReported printed input before end lo' to'
ends_on printed due input before lo lo' to to' piece text end s read turn wrote other =
    let l = some_left lo lo' piece s.rest s.source read in
    let both = all_of printed due input before lo to to' text end s (ap due l.2 ∙ turn l.0) wrote in
    record { text = both.0; ending = both.1; read = λ is. absurd (other is) }

-- the input ends
pub ends_there : (printed due : List ℕ → Report) (input before : List ℕ) (lo lo' to to' : Option (List ℕ)) (text : List ℕ) (end : Ending)
    → Stands printed due input before lo to → Consumes lo lo' [] → IsAtEnd lo' → due [] ≡ record { text = text; ending = Done } → end ≡ Done → Appends to to' text
    → IsReported printed input before end lo' to'
ends_there printed due input before lo lo' to to' text end s read at is done wrote =
    let l = some_left lo lo' [] s.rest s.source read in
    let none : l.0 ≡ [] = at_end lo' l.0 l.1 at in
    let both = all_of printed due input before lo to to' text Done s (ap due (l.2 ∙ none) ∙ is) wrote in
    record { text = both.0; ending = done ∙ both.1; read = λ _. l.1 ∙ ap (λ (t : List ℕ). Some t) none }

-- What a run that goes on with the rest has done, from where it began

pub reported_from : (printed due : List ℕ → Report) (input before : List ℕ) (lo to lo' to' : Option (List ℕ)) (end : Ending) (s : Stands printed due input before lo to)
    → IsReported due s.rest (before ++ s.written) end lo' to' → IsReported printed input before end lo' to'
reported_from printed due input before lo to lo' to' end s r =
    let whole : printed input ≡ prefixed s.written (due s.rest) = of_input printed due input before lo to s in
    record {
      text = record { now = r.text.now ∙ ap (λ (t : List ℕ). Some t) (append_assoc before s.written (due s.rest).text ∙ ap (λ (x : Report). before ++ x.text) (sym whole)) };
      ending = r.ending ∙ ap (λ (x : Report). x.ending) (sym whole);
      read = r.read;
    }

pub front_from : (printed due : List ℕ → Report) (input before : List ℕ) (lo to to' : Option (List ℕ)) (s : Stands printed due input before lo to)
    → WroteFront (before ++ s.written) (due s.rest).text to' → WroteFront before (printed input).text to'
front_from printed due input before lo to to' s w = record {
  written = s.written ++ w.written;
  more = w.more;
  parts = ap (λ (x : Report). x.text) (of_input printed due input before lo to s) ∙ ap (λ (t : List ℕ). s.written ++ t) w.parts ∙ sym (append_assoc s.written w.written w.more);
  now = w.now ∙ ap (λ (t : List ℕ). Some t) (append_assoc before s.written w.written);
}

pub lines_from : (printed due : List ℕ → Report) (input before : List ℕ) (lo to lo' to' : Option (List ℕ)) (s : Stands printed due input before lo to)
    → WroteLines due s.rest (before ++ s.written) lo' to' → WroteLines printed input before lo' to'
lines_from printed due input before lo to lo' to' s w =
    let last : Report = record { text = w.written ++ end_line w.heard w.waiting; ending = Done } in
    record {
      read = s.read ++ w.read;
      rest = w.rest;
      written = s.written ++ w.written;
      heard = w.heard;
      waiting = w.waiting;
      parts = s.parts ∙ ap (λ (t : List ℕ). s.read ++ t) w.parts ∙ sym (append_assoc s.read w.read w.rest);
      source = w.source;
      lines = s.whole w.read ∙ ap (prefixed s.written) w.lines
          ∙ ap (λ (t : List ℕ). let x : Report = record { text = t; ending = Done } in x) (sym (append_assoc s.written w.written (end_line w.heard w.waiting)));
      sink = w.sink ∙ ap (λ (t : List ℕ). Some t) (append_assoc before s.written w.written);
    }

-- A run that is broken off

-- what is written so far is a front
pub front_of : (printed due : List ℕ → Report) (input before : List ℕ) (lo to : Option (List ℕ)) → Stands printed due input before lo to → WroteFront before (printed input).text to
front_of printed due input before lo to s = record { written = s.written; more = (due s.rest).text; parts = ap (λ (r : Report). r.text) (of_input printed due input before lo to s); now = s.sink }

-- a read failed, which took nothing
pub lines_read : (printed due : List ℕ → Report) (input before : List ℕ) (lo lo' to : Option (List ℕ)) (heard waiting : ℕ) → Stands printed due input before lo to
    → due [] ≡ record { text = end_line heard waiting; ending = Done } → Keeps lo lo' → WroteLines printed input before lo' to
lines_read printed due input before lo lo' to heard waiting s is keeps = record {
  read = s.read;
  rest = s.rest;
  written = s.written;
  heard = heard;
  waiting = waiting;
  parts = s.parts;
  source = kept lo lo' s.rest s.source keeps;
  lines = ap printed (sym (append-nil s.read)) ∙ s.whole [] ∙ ap (prefixed s.written) is;
  sink = s.sink;
}

-- what is still to be printed begins with this text
abbrev pub ComesNext : (List ℕ → Report) → Option (List ℕ) → List ℕ → Type 0
ComesNext due left text = (rest : List ℕ) → left ≡ Some rest → (more : List ℕ) × ((due rest).text ≡ text ++ more)

pub next_on : (due next : List ℕ → Report) (lo lo' : Option (List ℕ)) (piece text : List ℕ) → Consumes lo lo' piece → ((left : List ℕ) → due (piece ++ left) ≡ prefixed text (next left)) → ComesNext due lo text
next_on due next lo lo' piece text read turn rest is =
    let l = some_left lo lo' piece rest is read in
    ((next l.0).text, ap (λ (t : List ℕ). (due t).text) l.2 ∙ ap (λ (r : Report). r.text) (turn l.0))

pub next_last : (due : List ℕ → Report) (lo lo' : Option (List ℕ)) (piece text : List ℕ) (end : Ending) → Consumes lo lo' piece → ((left : List ℕ) → due (piece ++ left) ≡ record { text = text; ending = end })
    → ComesNext due lo text
next_last due lo lo' piece text end read turn rest is =
    let l = some_left lo lo' piece rest is read in
    ([], ap (λ (t : List ℕ). (due t).text) l.2 ∙ ap (λ (r : Report). r.text) (turn l.0) ∙ sym (append-nil text))

pub next_of_end : (due : List ℕ → Report) (lo lo' : Option (List ℕ)) (text : List ℕ) → Consumes lo lo' [] → IsAtEnd lo' → due [] ≡ record { text = text; ending = Done } → ComesNext due lo text
next_of_end due lo lo' text read at is rest same =
    let l = some_left lo lo' [] rest same read in
    let none : l.0 ≡ [] = at_end lo' l.0 l.1 at in
    ([], ap (λ (t : List ℕ). (due t).text) (l.2 ∙ none) ∙ ap (λ (r : Report). r.text) is ∙ sym (append-nil text))

-- a part of it was written
pub wrote_front : (printed due : List ℕ → Report) (input before : List ℕ) (lo to to' : Option (List ℕ)) (text : List ℕ) → Stands printed due input before lo to → ComesNext due lo text → AppendsFront to to' text
    → WroteFront before (printed input).text to'
wrote_front printed due input before lo to to' text s next wrote =
    let n = wrote.0 in
    let m = next s.rest s.source in
    let cut : text ++ m.0 ≡ take n text ++ (drop n text ++ m.0) = ap (λ (t : List ℕ). t ++ m.0) (sym (take-append-drop n text)) ∙ append_assoc (take n text) (drop n text) m.0 in
    record {
      written = s.written ++ take n text;
      more = drop n text ++ m.0;
      parts = ap (λ (r : Report). r.text) (of_input printed due input before lo to s) ∙ ap (λ (t : List ℕ). s.written ++ t) (m.1 ∙ cut) ∙ sym (append_assoc s.written (take n text) (drop n text ++ m.0));
      now = some_taken to to' (take n text) (before ++ s.written) s.sink wrote.1 ∙ ap (λ (t : List ℕ). Some t) (append_assoc before s.written (take n text));
    }

-- nothing was written
pub wrote_none : (printed : List ℕ → Report) (input before : List ℕ) (to : Option (List ℕ)) → to ≡ Some before → WroteFront before (printed input).text to
wrote_none printed input before to is = record { written = []; more = (printed input).text; parts = refl; now = is ∙ ap (λ (t : List ℕ). Some t) (sym (append-nil before)) }

-- A run that ends by one text, written whole or in part

pub done_by : {E : Type 0} (r : Result Ending E) (printed due : List ℕ → Report) (lo to lo' to' from taken : Option (List ℕ)) (text : List ℕ) (end : Ending)
    → Told from taken (λ input before. Stands printed due input before lo to)
    → ((input before : List ℕ) → Stands printed due input before lo to → Appends to to' text → IsReported printed input before end lo' to')
    → OnOk r (Appends to to' text) → IfOk r (λ ending. ending ≡ end) → IfOk r (λ ending. Told from taken (λ input before. IsReported printed input before ending lo' to'))
done_by (Ok x) printed due lo to lo' to' from taken text end told ends wrote is = λ input before source sink.
    subst (λ (e : Ending). IsReported printed input before e lo' to') (sym is) (ends input before (told input before source sink) wrote)
done_by (Err e) printed due lo to lo' to' from taken text end told ends wrote is = tt

pub front_by : {T E : Type 0} (r : Result T E) (printed due : List ℕ → Report) (lo to to' from taken : Option (List ℕ)) (text : List ℕ)
    → Told from taken (λ input before. Stands printed due input before lo to) → ComesNext due lo text → OnErr r (AppendsFront to to' text)
    → OnErr r (Told from taken (λ input before. WroteFront before (printed input).text to'))
front_by (Ok x) printed due lo to to' from taken text told next wrote = tt
front_by (Err e) printed due lo to to' from taken text told next wrote = λ input before source sink.
    wrote_front printed due input before lo to to' text (told input before source sink) next wrote

pub rose_from : (a b c : ℕ) → a ≤ b → Rose b c → Rose a c
rose_from a b c le rose = omega arith

-- A run that another call goes on with

pub done_from : {E : Type 0} (r : Result Ending E) (printed due : List ℕ → Report) (from taken lo to lo' to' : Option (List ℕ))
    → Told from taken (λ input before. Stands printed due input before lo to)
    → IfOk r (λ ending. Told lo to (λ input before. IsReported due input before ending lo' to'))
    → IfOk r (λ ending. Told from taken (λ input before. IsReported printed input before ending lo' to'))
done_from (Ok x) printed due from taken lo to lo' to' told done = λ input before source sink.
    let s = told input before source sink in
    reported_from printed due input before lo to lo' to' x s (done s.rest (before ++ s.written) s.source s.sink)
done_from (Err e) printed due from taken lo to lo' to' told done = tt

pub front_on : {T E : Type 0} (r : Result T E) (printed due : List ℕ → Report) (from taken lo to to' : Option (List ℕ))
    → Told from taken (λ input before. Stands printed due input before lo to)
    → OnErr r (Told lo to (λ input before. WroteFront before (due input).text to'))
    → OnErr r (Told from taken (λ input before. WroteFront before (printed input).text to'))
front_on (Ok x) printed due from taken lo to to' told wrote = tt
front_on (Err e) printed due from taken lo to to' told wrote = λ input before source sink.
    let s = told input before source sink in
    front_from printed due input before lo to to' s (wrote s.rest (before ++ s.written) s.source s.sink)

pub lines_on : (printed due : List ℕ → Report) (from taken lo to lo' to' : Option (List ℕ))
    → Told from taken (λ input before. Stands printed due input before lo to)
    → Told lo to (λ input before. WroteLines due input before lo' to') → Told from taken (λ input before. WroteLines printed input before lo' to')
lines_on printed due from taken lo to lo' to' told lines = λ input before source sink.
    let s = told input before source sink in
    lines_from printed due input before lo to lo' to' s (lines s.rest (before ++ s.written) s.source s.sink)
