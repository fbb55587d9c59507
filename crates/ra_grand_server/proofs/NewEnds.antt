-- The server's end of a link on which nothing came.
use Rattle.std.proofs.Common.{◌≡◌, ℕ, ◌+◌, true, false, Bool, Option, Some, None, List, [], ◌∷◌, length, drop, refl, ap, ◌∙◌, arith, rules}
use Rattle.std.specs.Prelude.{nat_lt, if◌then◌else◌, Result, Ok}
use Rattle.ra_upgrade.specs.declared.request_head.HeadFault.{HeadFault}
use Rattle.ra_upgrade.specs.declared.request_head.Upgrade.{Upgrade}
use Rattle.ra_upgrade.specs.RequestTexts.{request_text, lines_of}
use Rattle.ra_items.specs.Heads.{Head, sized}
use Rattle.ra_items.specs.Items.{items}
use Rattle.ra_items.proofs.ItemLemmas.{items_open}
use Rattle.ra_items.proofs.ReaderLemmas.{read_nothing}
use Rattle.ra_opening.specs.Openings.{Opened}
use Rattle.ra_opening.specs.Stands.{new_opening}
use Rattle.ra_opening.proofs.RunLemmas.{opened_is}
use Rattle.ra_link_core.specs.declared.phase.Phase.TheVariants as phases
use Rattle.ra_dial.specs.Clients.{Settings, request_of}
use Rattle.ra_grand_runs.specs.GrandClients.{new_end}
use Rattle.ra_grand_server.specs.ServerStates.{EndStands}
use Rattle.ra_grand_runs.specs.SetUps.{grounds, request_head}

abbrev open_by : Bool → Head Upgrade HeadFault → Result (Option (Upgrade × ℕ)) HeadFault
open_by b head = if b then Ok None else sized head.size head.says

pub fresh_end : (head : Head Upgrade HeadFault) (client link : ℕ) → nat_lt 0 head.size ≡ true
    → EndStands (record { client = client; link = link; core = phases.Opening new_opening; is_over = false }) (Some (new_end head))
fresh_end head client link some =
    let none : items head [] ≡ [] = items_open head [] (ap (λ (b : Bool). open_by b head) some) in
    record {
      over = refl;
      goes = record {
        seat = refl;
        free = λ no. no;
        opens = λ next. record {
          waits = record {
            read = read_nothing head;
            unopened = refl;
            tells = record { written = refl; draws = λ n. ap next (from_none n) };
          };
          none = none;
        };
        draws = λ next. ap (λ (o : Opened). o.drawn) (opened_is (grounds next) head [] [] none);
      };
    }
  where
    from_none : (n : ℕ) → n ≡ 0 + n
    from_none n = omega arith

some_front : (x : ℕ) (xs : List ℕ) → nat_lt 0 (length (x ∷ xs)) ≡ true
some_front x xs = search rules

some_text : (text : List ℕ) → text ≡ 71 ∷ drop 1 text → nat_lt 0 (length text) ≡ true
some_text text is = ap (λ (t : List ℕ). nat_lt 0 (length t)) is ∙ some_front 71 (drop 1 text)

some_request : (settings : Settings) (reconnection : Bool) (key : List ℕ) → nat_lt 0 (request_head settings reconnection key).size ≡ true
unfolding request_text lines_of
some_request settings reconnection key = some_text (request_of settings reconnection key) refl

pub new_end_stands : (settings : Settings) (reconnection : Bool) (key : List ℕ) (client link : ℕ)
    → EndStands (record { client = client; link = link; core = phases.Opening new_opening; is_over = false }) (Some (new_end (request_head settings reconnection key)))
new_end_stands settings reconnection key client link = fresh_end (request_head settings reconnection key) client link (some_request settings reconnection key)
