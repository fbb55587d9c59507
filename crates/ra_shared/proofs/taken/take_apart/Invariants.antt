use Rattle.std.proofs.Common.{◌≡◌, ◌++◌, length, map}
use Rattle.ra_shared.proofs.taken.take_apart.Given as goal

abbrev pub invariant-loop-handle : goal.invariant-loop-handle
invariant-loop-handle g l = record {
  registries : l.registries.items ≡ map (λ h. h.registry) l.yielded;
  answers : map (λ v. v.items) l.books.items ≡ map (λ h. h.answers.items) l.yielded;
  whole : l.yielded ++ l.handle-iterator.rest.items ≡ l.fn.handles.items;
  len : l.handle-iterator.rest.len ≡ length l.handle-iterator.rest.items;
}
