use Rattle.std.proofs.Common.{◌≡◌, ◌≤◌, ◌+◌, ◌++◌, length, map}
use Rattle.ra_locked.specs.Accounts.{OfCalls}
use Rattle.ra_locked.specs.PlaceMarks.{receipts_in}
use Rattle.ra_locked.proofs.shared.gather.Given as goal

abbrev pub invariant-loop-handle : goal.invariant-loop-handle
invariant-loop-handle g l = record {
  books : map (λ v. v.items) l.books.items ≡ map (λ h. h.receipts.items) l.yielded;
  whole : l.yielded ++ l.handle-iterator.rest.items ≡ l.fn.handles.items;
  len : l.handle-iterator.rest.len ≡ length l.handle-iterator.rest.items;
  parts : l.all.parts ≡ l.fn.all.parts + length l.yielded;
  amount : l.all.amount ≤ l.fn.all.amount + receipts_in (map (λ h. h.receipts.items) l.yielded);
  of_calls : OfCalls (map (λ h. h.receipts.items) l.yielded);
}
