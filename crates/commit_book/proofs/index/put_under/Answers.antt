-- a new id is last
use Rattle.std.proofs.Common.{List, ℕ, ap, ◌∙◌}
use Rattle.std.proofs.lemmas.List.{map-append}
use Rattle.std.specs.Map.{keys_of}
use Rattle.std.specs.Str.{bytes_eq}
use Rattle.indexmap.proofs.CallerLemmas.{insert_entry-new}
use Rattle.commit_book.specs.declared.index.Record.{Record}
use Rattle.commit_book.proofs.index.put_under.Goals as goal

pub returns-clause-ids : goal.returns-clause-ids
returns-clause-ids c =
    ap keys_of (c.in-Ok.ensures.entries ∙ insert_entry-new bytes_eq c.args.records.now c.args.new.id _ c.requires.absent)
    ∙ map-append (λ (e : List ℕ × Record). e.0) c.args.records.now.entries _
