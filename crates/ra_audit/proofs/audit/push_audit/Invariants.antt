use Rattle.std.proofs.Common.{◌≡◌, ◌++◌, take, drop, [], unwrap_or}
use Rattle.std.specs.BTreeMap.{get}
use Rattle.ra_base.specs.Keys.{key_cmp}
use Rattle.ra_base.specs.declared.key.Key.{Key}
use Rattle.ra_audit.specs.Audits.{count_of, audit_from, AreDueFrom}
use Rattle.ra_audit.proofs.audit.push_audit.Given as goal

abbrev pub invariant-loop-kept : goal.invariant-loop-kept
invariant-loop-kept l = record {
  number : l.n ≡ l.kept-index;
  counts : (key : Key) → unwrap_or (get key_cmp l.counts key) 0 ≡ count_of key (take l.kept-index l.records);
  text : l.initial.text.items ++ audit_from [] l.records ≡ l.text.items ++ audit_from (take l.kept-index l.records) (drop l.kept-index l.records);
  due : AreDueFrom (take l.kept-index l.records) (drop l.kept-index l.records) → AreDueFrom [] l.records;
  wrong : AreDueFrom [] l.records → AreDueFrom (take l.kept-index l.records) (drop l.kept-index l.records);
}
