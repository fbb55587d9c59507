use Rattle.std.proofs.Common.{◌≡◌, ℕ, List, ap, sym, ◌∙◌, arith}
use Rattle.std.specs.Int.{w32}
use Rattle.ra_model.specs.FirstFrame.{is_wide, header_len, len_place, number_at, stated}
use Rattle.ra_frame.proofs.FrontLemmas as fronts
use Rattle.ra_frame.proofs.front.front_of.Goals as goal

pub returns-then-is_empty : goal.returns-then-is_empty
returns-then-is_empty c = fronts.partial_empty c.args.unread.now (sym c.is_empty.ensures ∙ c.if-is_empty.true)

pub returns-then-unread-header : goal.returns-then-unread-header
returns-then-unread-header c =
    let header : c.header_len-header.result ≡ header_len (is_wide c.args.unread.now) = c.header_len-header.ensures.len ∙ ap header_len c.is_wide-wide.ensures in
    fronts.partial_header c.args.unread.now (omega arith)

pub read_u32-stated-requires : goal.read_u32-stated-requires
read_u32-stated-requires c =
    let header : c.header_len-header.result ≡ header_len c.is_wide-wide.result = c.header_len-header.ensures.len in
    let there = fronts.places c.is_wide-wide.result c.args.unread.now (omega arith) in
    omega (arith, there.2, c.len_place.ensures)

pub returns-then-body-gt-BODY_LIMIT : goal.returns-then-body-gt-BODY_LIMIT
returns-then-body-gt-BODY_LIMIT c =
    let text : List ℕ = c.args.unread.now in
    let header : c.header_len-header.result ≡ header_len (is_wide text) = c.header_len-header.ensures.len ∙ ap header_len c.is_wide-wide.ensures in
    let is : stated text ≡ c.read_u32-stated.result = sym (c.read_u32-stated.ensures ∙ ap (λ (p : ℕ). number_at w32 p text) (c.len_place.ensures ∙ ap len_place c.is_wide-wide.ensures)) in
    fronts.too_long text c.read_u32-stated.result is (omega arith) (omega arith)

pub returns-then-unread-header-2 : goal.returns-then-unread-header-2
returns-then-unread-header-2 c =
    let text : List ℕ = c.args.unread.now in
    let header : c.header_len-header.result ≡ header_len (is_wide text) = c.header_len-header.ensures.len ∙ ap header_len c.is_wide-wide.ensures in
    let is : stated text ≡ c.read_u32-stated.result = sym (c.read_u32-stated.ensures ∙ ap (λ (p : ℕ). number_at w32 p text) (c.len_place.ensures ∙ ap len_place c.is_wide-wide.ensures)) in
    fronts.partial_body text (omega arith) (omega arith)

pub returns : goal.returns
returns c =
    let text : List ℕ = c.args.unread.now in
    let header : c.header_len-header.result ≡ header_len (is_wide text) = c.header_len-header.ensures.len ∙ ap header_len c.is_wide-wide.ensures in
    let is : stated text ≡ c.read_u32-stated.result = sym (c.read_u32-stated.ensures ∙ ap (λ (p : ℕ). number_at w32 p text) (c.len_place.ensures ∙ ap len_place c.is_wide-wide.ensures)) in
    fronts.whole text c.read_u32-stated.result (λ k. omega (arith, c.type_inv.unread k)) is (omega arith) (omega arith)
