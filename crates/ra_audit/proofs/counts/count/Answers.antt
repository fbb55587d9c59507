use Rattle.std.proofs.Common.{◌≡◌, ◌+◌, Some, cond, unwrap_or, ap, ◌∙◌, rules}
use Rattle.std.specs.BTreeMap.{get, is_at}
use Rattle.ra_base.specs.Keys.{key_cmp}
use Rattle.ra_base.specs.declared.key.Key.{Key}
use Rattle.ra_audit.proofs.AuditLemmas.{same_key, counts_more}
use Rattle.ra_audit.proofs.counts.count.Goals as goal

pub returns-clause-counts : goal.returns-clause-counts
returns-clause-counts c other =
    let key = c.args.key.now in
    let counts = c.args.counts.now in
    let n = c.unwrap_or-n.result + 1 in
    let now : n ≡ unwrap_or (get key_cmp counts key) 0 + 1 = search rules in
    let made : get key_cmp c.insert.new.self other ≡ cond (is_at (key_cmp key) other) (Some n) (get key_cmp counts other) =
    c.in_ok-insert.ensures.updates.0 other ∙ ap (λ (k : Key). cond (is_at (key_cmp k) other) (Some n) (get key_cmp counts other)) c.same.ensures in
    ap (λ o. unwrap_or o 0) made
    ∙ counts_more (is_at (key_cmp key) other) n (get key_cmp counts other) (λ is. now ∙ ap (λ (k : Key). unwrap_or (get key_cmp counts k) 0 + 1) (same_key key other is))
