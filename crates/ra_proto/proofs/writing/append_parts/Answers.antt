use Rattle.std.proofs.Common.{List, ◌++◌, ◌≤◌, length, refl, subst}
use Rattle.std.specs.Prelude.{All}
use Rattle.std.proofs.lemmas.List.{drop_at}
use Rattle.std.proofs.lemmas.List.Elements.{All-drop}
use Rattle.ra_model.specs.declared.session.Entry.{Entry}
use Rattle.ra_model.specs.Frames.{body_limit}
use Rattle.ra_proto.proofs.writing.append_parts.Goals as goal

-- what holds of two parts holds of the second
all_second : (P : Entry → Type 0) (first second : List Entry) → All P (first ++ second) → All P second
all_second P first second all = subst (λ (es : List Entry). All P es) (drop_at first second (length first) refl) (All-drop P (length first) (first ++ second) all)

pub append_entries-requires-2 : goal.append_entries-requires-2
append_entries-requires-2 c = all_second (λ entry. length entry.body ≤ body_limit) c.args.first.now c.args.second.now c.requires
