-- What was sent before a pipe, and what passed then.
use Rattle.std.proofs.Common.{◌≡◌, ℕ, ◌<◌, ◌≤◌, List, [], ◌++◌, take, drop, refl, sym, ap, subst, ◌∙◌, arith}
use Rattle.std.specs.Prelude.{Option, Some}
use Rattle.std.proofs.lemmas.List.{append_assoc, append-nil, take-append-drop}
use Rattle.std.proofs.Common.{true, cond}
use Rattle.std.specs.Prelude.{nat_lt}
use Rattle.std.proofs.lemmas.Bool.{lt-ltb}
use Rattle.ra_edge.specs.Lines.{after_line}
use Rattle.ra_ports.specs.Causes.{Rose, next_count}
use Rattle.ra_ports.specs.Links.{Incoming, Takes, Sends, SendsFront}
use Rattle.ra_tunnel.specs.Pipes.{Side, PipesWhole, PipesPrefix, Piped, Joined, SendsBehind, SendsPrefixBehind}
use Rattle.ra_tunnel.specs.Turns.{Alternates}
use Rattle.ra_tunnel.specs.Joins.{Joins, Reaches}
use Rattle.ra_tunnel.specs.Ends.{IsWhole, client_ended, target_ended}
use Rattle.ra_tunnel.specs.declared.ends.PipeEnd.{PipeEnd}
use Rattle.ra_tunnel.specs.declared.ends.PipeEnd.TheVariants.{ClientFault, TargetFault, TurnsSpent}
use Rattle.ra_tunnel.proofs.FlowLemmas.{sends_more, takes_none, rose_earlier}

-- a prefix of what is to be sent first, and nothing was taken
pub first_prefix : (first : List ℕ) (f fn t tn : Side) → fn.incoming.left ≡ f.incoming.left → SendsFront t.sent tn.sent first → SendsPrefixBehind first f fn t tn
first_prefix first f fn t tn same s = (
  [],
  take s.0 first,
  drop s.0 first,
  subst (λ x. Takes f.incoming.left x []) (sym same) (takes_none f.incoming.left),
  append-nil first ∙ sym (take-append-drop s.0 first),
  s.1,
)

-- nothing was sent, and nothing was taken
pub no_prefix : (first : List ℕ) (f fn t tn : Side) → fn.incoming.left ≡ f.incoming.left → tn.sent ≡ t.sent → SendsPrefixBehind first f fn t tn
no_prefix first f fn t tn same s = (
  [],
  [],
  first,
  subst (λ x. Takes f.incoming.left x []) (sym same) (takes_none f.incoming.left),
  append-nil first,
  λ before e. s ∙ e ∙ ap Some (sym (append-nil before)),
)

-- all of it was sent, and nothing was taken
pub whole_first : (first : List ℕ) (f fn t tn : Side) → fn.incoming.left ≡ f.incoming.left → Sends t.sent tn.sent first → SendsPrefixBehind first f fn t tn
whole_first first f fn t tn same s =
    ([], first, [], subst (λ x. Takes f.incoming.left x []) (sym same) (takes_none f.incoming.left), refl, s)

behind_whole : (first : List ℕ) (f fm fn t tm tn : Side) → fm.incoming.left ≡ f.incoming.left → Sends t.sent tm.sent first → PipesWhole fm fn tm tn → SendsBehind first f fn t tn
behind_whole first f fm fn t tm tn same s w =
    (w.0, subst (λ x. Takes x fn.incoming.left w.0) same w.1, sends_more t.sent tm.sent tn.sent first w.0 s w.2)

behind_prefix : (first : List ℕ) (f fm fn t tm tn : Side) → fm.incoming.left ≡ f.incoming.left → Sends t.sent tm.sent first → PipesPrefix fm fn tm tn → SendsPrefixBehind first f fn t tn
behind_prefix first f fm fn t tm tn same s w = (
  w.0 ++ w.1,
  first ++ w.0,
  w.1,
  subst (λ x. Takes x fn.incoming.left (w.0 ++ w.1)) same w.2,
  sym (append_assoc first w.0 w.1),
  sends_more t.sent tm.sent tn.sent first w.0 s w.3,
)

pub joined_by : (ok rest : List ℕ) (c cm cn t tm tn : Side) (W : Type 0) → cm.incoming.left ≡ c.incoming.left → tm.incoming.left ≡ t.incoming.left
    → Sends c.sent cm.sent ok → Sends t.sent tm.sent rest → Piped cm cn tm tn W → Joined ok rest c cn t tn W
joined_by ok rest c cm cn t tm tn W cs ts co tr p = record {
  up = λ w. behind_whole rest c cm cn t tm tn cs tr (p.up w);
  down = λ w. behind_whole ok t tm tn c cm cn ts co (p.down w);
  up_prefix = behind_prefix rest c cm cn t tm tn cs tr p.up_prefix;
  down_prefix = behind_prefix ok t tm tn c cm cn ts co p.down_prefix;
}

rose_positive : (a n : ℕ) → Rose a n → 0 < n
rose_positive a n r = omega arith

left_same : (i j : Incoming) → j ≡ i → j.left ≡ i.left
left_same i j e = ap (λ (k : Incoming). k.left) e

ended_same : (i j : Incoming) → j ≡ i → j.ended ≡ i.ended
ended_same i j e = ap (λ (k : Incoming). k.ended) e

asked_none : (turns : ℕ) (S : Type 0) (i j k l : Incoming) → j ≡ i → l ≡ k → (S → ⊥) → Alternates turns S i.receives j.receives k.receives l.receives
asked_none turns S i j k l e f never = record {
  reads = 0;
  within = omega arith;
  asked = (ap (λ (m : Incoming). m.receives) e, ap (λ (m : Incoming). m.receives) f);
  spent = λ s. absurd (never s);
}

-- the client could not be sent all that it is sent first
pub joins_no_client : (turns : ℕ) (ok rest : List ℕ) (c cn t : Side) → SendsFront c.sent cn.sent ok → cn.incoming ≡ c.incoming
    → c.faults ≤ cn.faults → Rose c.faults cn.faults → Joins ClientFault turns ok rest c cn t t
joins_no_client turns ok rest c cn t sends same later rose = record {
  joined = record {
    up = λ w. absurd w;
    down = λ w. absurd w;
    up_prefix = no_prefix rest c cn t t (left_same c.incoming cn.incoming same) refl;
    down_prefix = first_prefix ok t t c cn refl sends;
  };
  calls = asked_none turns (◌≡◌ {A = PipeEnd} ClientFault TurnsSpent) c.incoming cn.incoming t.incoming t.incoming same refl (λ e. cc);
  client_over = ended_same c.incoming cn.incoming same;
  target_over = refl;
  client_later = later;
  target_later = omega arith;
  client_fault = λ _. rose;
  target_fault = λ e. absurd cc;
}

-- and the target could not
pub joins_no_target : (turns : ℕ) (ok rest : List ℕ) (c cn t tn : Side) → Sends c.sent cn.sent ok → cn.incoming ≡ c.incoming
    → c.faults ≤ cn.faults → SendsFront t.sent tn.sent rest → tn.incoming ≡ t.incoming → t.faults ≤ tn.faults → Rose t.faults tn.faults
    → Joins TargetFault turns ok rest c cn t tn
joins_no_target turns ok rest c cn t tn sends same later sends_target same_target later_target rose = record {
  joined = record {
    up = λ w. absurd w;
    down = λ w. absurd w;
    up_prefix = first_prefix rest c cn t tn (left_same c.incoming cn.incoming same) sends_target;
    down_prefix = whole_first ok t tn c cn (left_same t.incoming tn.incoming same_target) sends;
  };
  calls = asked_none turns (◌≡◌ {A = PipeEnd} TargetFault TurnsSpent) c.incoming cn.incoming t.incoming tn.incoming same same_target (λ e. cc);
  client_over = ended_same c.incoming cn.incoming same;
  target_over = ended_same t.incoming tn.incoming same_target;
  client_later = later;
  target_later = later_target;
  client_fault = λ e. absurd cc;
  target_fault = λ _. rose;
}

asked_from : (turns : ℕ) (S : Type 0) (i j k l m n : Incoming) → j ≡ i → m ≡ l → Alternates turns S j.receives k.receives m.receives n.receives
    → Alternates turns S i.receives k.receives l.receives n.receives
asked_from turns S i j k l m n e f a = subst (λ (x : Incoming). Alternates turns S x.receives k.receives l.receives n.receives) e
    (subst (λ (x : Incoming). Alternates turns S j.receives k.receives x.receives n.receives) f a)

-- all was sent, and then the pipe ran
pub joins_pipe : (end : PipeEnd) (turns : ℕ) (ok rest : List ℕ) (c cm cn t tm tn : Side) → Sends c.sent cm.sent ok → cm.incoming ≡ c.incoming
    → c.faults ≤ cm.faults → Sends t.sent tm.sent rest → tm.incoming ≡ t.incoming → t.faults ≤ tm.faults
    → Piped cm cn tm tn (IsWhole end)
    → Alternates turns (end ≡ TurnsSpent) cm.incoming.receives cn.incoming.receives tm.incoming.receives tn.incoming.receives
    → cn.incoming.ended ≡ client_ended end cm.incoming.ended → tn.incoming.ended ≡ target_ended end tm.incoming.ended
    → cm.faults ≤ cn.faults → tm.faults ≤ tn.faults
    → (end ≡ ClientFault → Rose cm.faults cn.faults) → (end ≡ TargetFault → Rose tm.faults tn.faults)
    → Joins end turns ok rest c cn t tn
joins_pipe end turns ok rest c cm cn t tm tn sends same later sends_target same_target later_target piped calls over target_over more more_target fault target_fault = record {
  joined = joined_by ok rest c cm cn t tm tn (IsWhole end) (left_same c.incoming cm.incoming same) (left_same t.incoming tm.incoming same_target) sends sends_target piped;
  calls = asked_from turns (end ≡ TurnsSpent) c.incoming cm.incoming cn.incoming t.incoming tm.incoming tn.incoming same same_target calls;
  client_over = over ∙ ap (client_ended end) (ended_same c.incoming cm.incoming same);
  target_over = target_over ∙ ap (target_ended end) (ended_same t.incoming tm.incoming same_target);
  client_later = omega (arith, later, more);
  target_later = omega (arith, later_target, more_target);
  client_fault = λ e. rose_earlier c.faults cm.faults cn.faults later (fault e);
  target_fault = λ e. rose_earlier t.faults tm.faults tn.faults later_target (target_fault e);
}

-- the count of links that had failed rises where the link had failed
pub line_rose : (before after count : ℕ) → Rose before after → Rose count (after_line after count)
line_rose before after count r =
    let some : 0 < after = rose_positive before after r in
    let is : nat_lt 0 after ≡ true = lt-ltb 0 after some in
    subst (λ b. Rose count (cond b (next_count count) count)) (sym is) (omega arith)

pub same_end : (a b : PipeEnd) → ◌≡◌ {A = Option PipeEnd} (Some a) (Some b) → a ≡ b
same_end a b e = cc

pub reaches_at : {L : Type 0} (side_of : L → Side) (l ln r rn : Option (List L)) (a b : PipeEnd) (turns : ℕ) (ok rest : List ℕ) (c cn : Side)
    → a ≡ b → Reaches side_of l ln r rn a turns ok rest c cn → Reaches side_of l ln r rn b turns ok rest c cn
reaches_at side_of l ln r rn a b turns ok rest c cn same k = subst (λ e. Reaches side_of l ln r rn e turns ok rest c cn) same k

-- and of those that were given back
pub rose_line : (before after count mid now : ℕ) → mid ≡ count → now ≡ after_line after mid → Rose before after → Rose count now
rose_line before after count mid now same is r =
    subst (λ n. Rose count n) (sym (is ∙ ap (λ m. after_line after m) same)) (line_rose before after count r)
