-- what is not kept any more is part of what is kept
use Rattle.std.proofs.Common.{◌≡◌, ℕ, Bool, List, if◌then◌else◌, is_some, sym, ap, ◌∙◌, arith}
use Rattle.commit_book.specs.Index.{base_cost, base_in}
use Rattle.commit_book.specs.Journal.{cost_of}
use Rattle.commit_book.proofs.dropping.drop_row.Goals as goal
use Rattle.commit_book.proofs.dropping.drop_row.Goals.{then-has_document, else-has_document}

-- the row, where it puts no document
own : (c : goal.After-row_known-1) → c.if-has_document.own ≡ (if is_some c.args.row.document then 0 else cost_of c.args.row)
own c =
    elim c.if-has_document.branch [
      | then-has_document w ↦ w.own-is ∙ sym (ap (λ (b : Bool). if b then 0 else cost_of c.args.row) (sym c.has_document.ensures ∙ w.if-has_document.true))
      | else-has_document w ↦ w.own-is ∙ w.cost-own.ensures ∙ sym (ap (λ (b : Bool). if b then 0 else cost_of c.args.row) (sym c.has_document.ensures ∙ w.if-has_document.false))
    ]

-- and the base of its record
base : (c : goal.After-row_known-1) → c.base_cost.result ≡ base_cost c.args.row.collection c.args.row.id (base_in c.args.collections.now c.args.row.collection c.args.row.id)
base c =
    c.base_cost.ensures.cost
    ∙ ap (base_cost c.into_dropped-collection.result.collection c.into_dropped-collection.result.id) c.drop_in-was.ensures.was
    ∙ ap (λ (name : List ℕ). base_cost name c.into_dropped-collection.result.id (base_in c.args.collections.now name c.into_dropped-collection.result.id)) c.into_dropped-collection.ensures.collection
    ∙ ap (λ (name : List ℕ). base_cost c.args.row.collection name (base_in c.args.collections.now c.args.row.collection name)) c.into_dropped-collection.ensures.id

pub overflow_add-result : goal.overflow_add-result
overflow_add-result c = let first = own c in let second = base c in omega (arith, first, second, c.requires.fits)
