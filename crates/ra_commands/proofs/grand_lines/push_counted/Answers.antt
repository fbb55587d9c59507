use Rattle.std.proofs.Common.{ℕ, List, [], ◌∷◌, ◌++◌, codes, ap, ◌∙◌}
use Rattle.std.specs.Fmt.{decimal}
use Rattle.ra_commands.proofs.GrandTexts.{joined}
use Rattle.ra_commands.proofs.grand_lines.push_counted.Goals as goal

pub returns : goal.returns
returns c =
    let rest = codes " links=" ++ decimal c.args.links ++ codes " jobs=" ++ decimal c.args.jobs in
    c.in_ok-push.ensures.items
    ∙ ap (λ t. t ++ 10 ∷ []) (c.in_ok-push_links_and_jobs.ensures ∙ ap (λ t. t ++ rest) c.in_ok-push_numbered.ensures)
    ∙ joined c.args.text.now.items (codes "end clients=" ++ decimal c.args.clients) (codes " links=") (decimal c.args.links) (codes " jobs=") (decimal c.args.jobs) (10 ∷ [])
