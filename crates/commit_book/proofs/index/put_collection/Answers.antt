-- the collection is added last, with one id
use Rattle.std.proofs.Common.{◌++◌, ◌∷◌, [], ℕ, List, sym, ap, ◌∙◌}
use Rattle.std.specs.Map.{keys_of, lookup}
use Rattle.std.specs.Str.{bytes_eq}
use Rattle.commit_book.specs.Index.{base_kept, commits_kept}
use Rattle.commit_book.proofs.NameLemmas.{adds-put, commits-at, commits-none, others-stay, based-put}
use Rattle.commit_book.proofs.index.put_collection.Goals as goal

pub returns : goal.returns
returns c =
    let old = c.args.collections.now in
    let new = c.args.new in
    let records = c.put_under.new.records in
    let added = c.insert.new.self in
    record {
      own =
          commits-at added new.name new.first.id records c.in-Ok.ensures.updates.1
          ∙ c.put_under.ensures.own
          ∙ ap (λ (xs : List ℕ). xs ++ c.args.commit ∷ []) (sym (commits-none old new.name new.first.id c.requires.absent));
      ids = λ other apart.
          commits-at added new.name other records c.in-Ok.ensures.updates.1
          ∙ c.put_under.ensures.others other apart
          ∙ ap (λ es. commits_kept (lookup (bytes_eq other) es)) c.requires.empty
          ∙ sym (commits-none old new.name other c.requires.absent);
      others = others-stay old added new.name c.in-Ok.ensures.updates.2;
      bases = based-put old added new.name records c.requires.absent c.in-Ok.ensures.updates (λ other. c.put_under.ensures.bases other ∙ ap (λ es. base_kept (lookup (bytes_eq other) es)) c.requires.empty);
      names = adds-put old added new.name new.first.id records c.requires.absent c.in-Ok.ensures.updates (c.put_under.ensures.ids ∙ ap (λ es. keys_of es ++ new.first.id ∷ []) c.requires.empty);
    }
