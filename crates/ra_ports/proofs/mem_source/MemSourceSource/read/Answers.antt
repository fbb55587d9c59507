use Rattle.std.proofs.Common.{◌≡◌, ◌<◌, length, get_or, take, drop, sym, ap, ◌∙◌, arith}
use Rattle.std.proofs.lemmas.List.{take_rest}
use Rattle.ra_ports.specs.Memory.{SourceScript, bytes_of}
use Rattle.ra_ports.proofs.Pieces.{read_copied}
use Rattle.ra_ports.proofs.mem_source.MemSourceSource.read.Goals as goal

pub returns-then-count-rest-clause-bytes : goal.returns-then-count-rest-clause-bytes
returns-then-count-rest-clause-bytes c =
    let found = c.in-Some.ensures.lookup in
    let inner = c.self.inside in
    let pieces = inner.pieces.items in
    let piece = c.in-Some.piece.now in
    let n = c.copy_front-count.result in
    let into = c.copy_front-count.new.into in
    let inside : inner.at < length pieces = rw c.deref-2.ensures.value at found.3.0 in
    let is : piece ≡ get_or pieces inner.at piece = rw c.deref-2.ensures.value at found.1 in
    let copied : take n into ≡ take n (drop inner.from piece) = (rw c.as_slice.ensures at c.copy_front-count.ensures.copied) ∙ ap (take n) (take_rest piece inner.from) in (
      ap (λ (s : SourceScript). bytes_of s.pieces) (sym c.self.view_is) ∙ read_copied pieces inner.at inner.from n piece into inside is copied,
      λ none room. absurd (omega (arith, c.if-count-rest.true, c.copy_front-count.ensures.count)),
    )
