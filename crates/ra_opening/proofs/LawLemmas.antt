-- The opening of a text as it goes on, and before its first byte.
use Rattle.std.proofs.Common.{◌≡◌, ℕ, ◌+◌, None, Ok, List, [], ◌++◌, inl, refl, sym, ap, subst, ◌∙◌, arith}
use Rattle.ra_base.specs.declared.handshake.Request.{Request}
use Rattle.ra_upgrade.specs.declared.request_head.HeadFault.{HeadFault}
use Rattle.ra_upgrade.specs.declared.request_head.Upgrade.{Upgrade}
use Rattle.ra_upgrade.specs.Ends.{NeverEnds}
use Rattle.ra_upgrade.specs.RequestHeads.{HeadIs}
use Rattle.ra_items.specs.Heads.{Head, answered, IsRequestOf}
use Rattle.ra_items.specs.Items.{items, fresh_items}
use Rattle.ra_items.proofs.HeadLemmas.{one_head, one_request_items}
use Rattle.ra_items.proofs.ItemLemmas.{items_grow, items_open}
use Rattle.ra_items.proofs.ReaderLemmas.{read_nothing}
use Rattle.ra_opening.specs.declared.ends.OpeningEnd.{OpeningEnd}
use Rattle.ra_opening.specs.Openings.{Grounds, Opened, new_opened, items_done, opened}
use Rattle.ra_opening.specs.Openings.Stage.{Asked, Over}
use Rattle.ra_opening.specs.Comes.{IsPart}
use Rattle.ra_opening.specs.Stands.{Stands, new_opening}
use Rattle.ra_opening.proofs.RunLemmas.{opened_is, items_both, items_grow as run_grows, still_asked, still_over}

pub opened_grows : (g : Grounds) (head : Head Upgrade HeadFault) (text piece : List ℕ) → opened g head (text ++ piece) ≡ items_done g (fresh_items head text piece) (opened g head text)
opened_grows g head text piece =
    opened_is g head (text ++ piece) (items head text ++ fresh_items head text piece) (items_grow head text piece)
    ∙ items_both g (items head text) (fresh_items head text piece) new_opened
    ∙ ap (items_done g (fresh_items head text piece)) (sym (opened_is g head text (items head text) refl))

pub asked_stays : (g : Grounds) (head : Head Upgrade HeadFault) (text more : List ℕ) (request : Request) (place : ℕ) → (opened g head text).stage ≡ Asked request place
    → opened g head (text ++ more) ≡ opened g head text
asked_stays g head text more request place is = opened_grows g head text more ∙ still_asked g (fresh_items head text more) (opened g head text) request place is

pub over_stays : (g : Grounds) (head : Head Upgrade HeadFault) (text more : List ℕ) (end : OpeningEnd) → (opened g head text).stage ≡ Over end
    → opened g head (text ++ more) ≡ opened g head text
over_stays g head text more end is = opened_grows g head text more ∙ still_over g (fresh_items head text more) (opened g head text) end is

pub written_stays : (g : Grounds) (head : Head Upgrade HeadFault) (text more : List ℕ) → IsPart (opened g head text) (opened g head (text ++ more))
written_stays g head text more =
    subst (λ (s : Opened). IsPart (opened g head text) s) (sym (opened_grows g head text more)) (run_grows g (fresh_items head text more) (opened g head text))

pub one_opening : (g : Grounds) (text : List ℕ) (head other : Head Upgrade HeadFault) → IsRequestOf text head → IsRequestOf text other → opened g head text ≡ opened g other text
one_opening g text head other is is_too =
    opened_is g head text (items other text) (one_request_items text head other is is_too) ∙ sym (opened_is g other text (items other text) refl)

-- ---- before the first byte

never_nothing : NeverEnds []
never_nothing = λ place fits occurs. omega (arith, occurs.fits)

nothing_open : HeadIs [] (Ok None)
nothing_open = inl (record { never = never_nothing; is = refl })

nothing_answered : (head : Head Upgrade HeadFault) (text : List ℕ) → IsRequestOf text head → answered head 0 ≡ Ok None
nothing_answered head text is = one_head [] (answered head 0) (Ok None) (is 0 (omega arith)) nothing_open

pub start : (g : Grounds) (head : Head Upgrade HeadFault) (text : List ℕ) (next : ℕ → List ℕ) → IsRequestOf text head → ((n : ℕ) → next n ≡ g.draw n)
    → Stands g head [] [] next new_opening []
start g head text next is draws = record {
  waits = record {
    read = read_nothing head;
    unopened = refl;
    tells = record { written = refl; draws = λ n. draws n ∙ ap g.draw (from_none n) };
  };
  none = items_open head [] (nothing_answered head text is);
}
  where
    from_none : (n : ℕ) → n ≡ 0 + n
    from_none n = omega arith
