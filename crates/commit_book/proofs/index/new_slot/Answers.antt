-- memory is reserved, and nothing is added
use Rattle.std.proofs.Common.{sym, arith, ◌∙◌, ◌<◌, ◌≡◌, [], ap, subst, false}
use Rattle.std.specs.Map.{lookup}
use Rattle.std.specs.Str.{bytes_eq}
use Rattle.indexmap.specs.IndexMap.{spare}
use Rattle.commit_book.specs.declared.index.NewCollection.{NewCollection}
use Rattle.commit_book.specs.Index.{names_of, IsNew}
use Rattle.commit_book.specs.Names.{has_collection}
use Rattle.commit_book.proofs.NameLemmas.{collection-absent}
use Rattle.commit_book.proofs.index.new_slot.Goals as goal

pub returns-clause-ok : goal.returns-clause-ok
returns-clause-ok c =
    let maps = c.reserve.new.self in
    let name = c.args.collection.now in
    subst
    (λ (new : NewCollection). IsNew c.args.id.now new.first × (new.name ≡ name) × (new.records.entries ≡ []) × (0 < spare new.records) × (0 < spare maps) × (has_collection (names_of maps) name ≡ false))
    (sym c.in_ok-new-2.ensures.ok) (
      c.in_ok-new.ensures.first,
      c.in_ok-new.ensures.name,
      c.in_ok-new.ensures.empty,
      c.in_ok-new.ensures.spare,
      omega (arith, c.in_ok-reserve.ensures.ok),
      collection-absent maps name (ap (lookup (bytes_eq name)) c.reserve.ensures.entries ∙ c.requires),
    )
