-- What one call of a link makes of a turn of a pipe.
use Rattle.std.proofs.Common.{◌≡◌, ℕ, true, false, refl, sym, ap, ◌∙◌}
use Rattle.std.specs.Prelude.{Option, Some, None, ◌==◌, ◌%◌, if◌then◌else◌}
use Rattle.ra_ports.specs.Causes.{next_count}
use Rattle.ra_ports.specs.Links.{Incoming}
use Rattle.ra_tunnel.specs.declared.ends.TunnelSide.TheVariants.{Client, Target}
use Rattle.ra_tunnel.specs.declared.piping.Carried.{Carried}
use Rattle.ra_tunnel.specs.declared.piping.Carried.TheVariants as carried
use Rattle.ra_tunnel.specs.declared.ends.PipeEnd.{PipeEnd}
use Rattle.ra_tunnel.specs.declared.ends.PipeEnd.TheVariants.{Closed, ClientFault, TargetFault}
use Rattle.ra_tunnel.specs.Pipes.{Side, Carries, Turned}
use Rattle.ra_tunnel.specs.Turns.{TurnsTo}
use Rattle.ra_tunnel.specs.Ends.{IsWholeTurn}
use Rattle.ra_tunnel.proofs.FlowLemmas.{piped_up, piped_down}

-- the end of a turn that asked the client, and of one that asked the target
abbrev pub client_turn : Carried → Option PipeEnd
client_turn carried.On = None
client_turn carried.End = Some (Closed Client)
client_turn carried.FromFault = Some ClientFault
client_turn carried.ToFault = Some TargetFault

abbrev pub target_turn : Carried → Option PipeEnd
target_turn carried.On = None
target_turn carried.End = Some (Closed Target)
target_turn carried.FromFault = Some TargetFault
target_turn carried.ToFault = Some ClientFault

to_client : (turn a b c d : ℕ) → ((turn % 2) == 0) ≡ true → b ≡ next_count a → d ≡ c → TurnsTo turn a b c d
to_client turn a b c d e x y =
    (x ∙ ap (λ k. if k then next_count a else a) (sym e), y ∙ ap (λ k. if k then c else next_count c) (sym e))

to_target : (turn a b c d : ℕ) → ((turn % 2) == 0) ≡ false → b ≡ a → d ≡ next_count c → TurnsTo turn a b c d
to_target turn a b c d e x y =
    (x ∙ ap (λ k. if k then next_count a else a) (sym e), y ∙ ap (λ k. if k then c else next_count c) (sym e))

receives_same : (i j : Incoming) → j ≡ i → j.receives ≡ i.receives
receives_same i j e = ap (λ (k : Incoming). k.receives) e

ended_same : (i j : Incoming) → j ≡ i → j.ended ≡ i.ended
ended_same i j e = ap (λ (k : Incoming). k.ended) e

pub turned_up : (turn : ℕ) (r : Carried) (c cn t tn : Side) → ((turn % 2) == 0) ≡ true → Carries r c cn t tn → Turned turn (client_turn r) c cn t tn
turned_up turn carried.On c cn t tn e k = record {
  piped = piped_up c cn t tn (IsWholeTurn (client_turn carried.On)) (λ _. k.whole (λ h. cc)) k.part k.keeps k.keeps_sent;
  asked = to_client turn c.incoming.receives cn.incoming.receives t.incoming.receives tn.incoming.receives e k.counted (receives_same t.incoming tn.incoming k.keeps);
  client_ended = k.ended;
  target_ended = ended_same t.incoming tn.incoming k.keeps;
  goes_on = λ h. cc;
  client_later = k.from_later;
  target_later = k.to_later;
  client_fault = λ h. absurd cc;
  target_fault = λ h. absurd cc;
}
turned_up turn carried.End c cn t tn e k = record {
  piped = piped_up c cn t tn (IsWholeTurn (client_turn carried.End)) (λ _. k.whole (λ h. cc)) k.part k.keeps k.keeps_sent;
  asked = to_client turn c.incoming.receives cn.incoming.receives t.incoming.receives tn.incoming.receives e k.counted (receives_same t.incoming tn.incoming k.keeps);
  client_ended = k.ended;
  target_ended = ended_same t.incoming tn.incoming k.keeps;
  goes_on = λ h. cc;
  client_later = k.from_later;
  target_later = k.to_later;
  client_fault = λ h. absurd cc;
  target_fault = λ h. absurd cc;
}
turned_up turn carried.FromFault c cn t tn e k = record {
  piped = piped_up c cn t tn (IsWholeTurn (client_turn carried.FromFault)) (λ _. k.whole (λ h. cc)) k.part k.keeps k.keeps_sent;
  asked = to_client turn c.incoming.receives cn.incoming.receives t.incoming.receives tn.incoming.receives e k.counted (receives_same t.incoming tn.incoming k.keeps);
  client_ended = k.ended;
  target_ended = ended_same t.incoming tn.incoming k.keeps;
  goes_on = λ h. cc;
  client_later = k.from_later;
  target_later = k.to_later;
  client_fault = λ _. k.from_fault refl;
  target_fault = λ h. absurd cc;
}
turned_up turn carried.ToFault c cn t tn e k = record {
  piped = piped_up c cn t tn (IsWholeTurn (client_turn carried.ToFault)) (λ w. absurd w) k.part k.keeps k.keeps_sent;
  asked = to_client turn c.incoming.receives cn.incoming.receives t.incoming.receives tn.incoming.receives e k.counted (receives_same t.incoming tn.incoming k.keeps);
  client_ended = k.ended;
  target_ended = ended_same t.incoming tn.incoming k.keeps;
  goes_on = λ h. cc;
  client_later = k.from_later;
  target_later = k.to_later;
  client_fault = λ h. absurd cc;
  target_fault = λ _. k.to_fault refl;
}

pub turned_down : (turn : ℕ) (r : Carried) (c cn t tn : Side) → ((turn % 2) == 0) ≡ false → Carries r t tn c cn → Turned turn (target_turn r) c cn t tn
turned_down turn carried.On c cn t tn e k = record {
  piped = piped_down c cn t tn (IsWholeTurn (target_turn carried.On)) (λ _. k.whole (λ h. cc)) k.part k.keeps k.keeps_sent;
  asked = to_target turn c.incoming.receives cn.incoming.receives t.incoming.receives tn.incoming.receives e (receives_same c.incoming cn.incoming k.keeps) k.counted;
  client_ended = ended_same c.incoming cn.incoming k.keeps;
  target_ended = k.ended;
  goes_on = λ h. cc;
  client_later = k.to_later;
  target_later = k.from_later;
  client_fault = λ h. absurd cc;
  target_fault = λ h. absurd cc;
}
turned_down turn carried.End c cn t tn e k = record {
  piped = piped_down c cn t tn (IsWholeTurn (target_turn carried.End)) (λ _. k.whole (λ h. cc)) k.part k.keeps k.keeps_sent;
  asked = to_target turn c.incoming.receives cn.incoming.receives t.incoming.receives tn.incoming.receives e (receives_same c.incoming cn.incoming k.keeps) k.counted;
  client_ended = ended_same c.incoming cn.incoming k.keeps;
  target_ended = k.ended;
  goes_on = λ h. cc;
  client_later = k.to_later;
  target_later = k.from_later;
  client_fault = λ h. absurd cc;
  target_fault = λ h. absurd cc;
}
turned_down turn carried.FromFault c cn t tn e k = record {
  piped = piped_down c cn t tn (IsWholeTurn (target_turn carried.FromFault)) (λ _. k.whole (λ h. cc)) k.part k.keeps k.keeps_sent;
  asked = to_target turn c.incoming.receives cn.incoming.receives t.incoming.receives tn.incoming.receives e (receives_same c.incoming cn.incoming k.keeps) k.counted;
  client_ended = ended_same c.incoming cn.incoming k.keeps;
  target_ended = k.ended;
  goes_on = λ h. cc;
  client_later = k.to_later;
  target_later = k.from_later;
  client_fault = λ h. absurd cc;
  target_fault = λ _. k.from_fault refl;
}
turned_down turn carried.ToFault c cn t tn e k = record {
  piped = piped_down c cn t tn (IsWholeTurn (target_turn carried.ToFault)) (λ w. absurd w) k.part k.keeps k.keeps_sent;
  asked = to_target turn c.incoming.receives cn.incoming.receives t.incoming.receives tn.incoming.receives e (receives_same c.incoming cn.incoming k.keeps) k.counted;
  client_ended = ended_same c.incoming cn.incoming k.keeps;
  target_ended = k.ended;
  goes_on = λ h. cc;
  client_later = k.to_later;
  target_later = k.from_later;
  client_fault = λ _. k.to_fault refl;
  target_fault = λ h. absurd cc;
}
