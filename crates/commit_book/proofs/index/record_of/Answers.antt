-- nothing is kept of a record that is not in the index
use Rattle.std.proofs.Common.{sym, subst, ◌∙◌}
use Rattle.commit_book.specs.declared.index.Slot.{Slot}
use Rattle.commit_book.specs.Index.{IsSlotIn}
use Rattle.commit_book.proofs.NameLemmas.{is-none, record-none}
use Rattle.commit_book.proofs.StepLemmas.{record-there}
use Rattle.commit_book.proofs.index.record_of.Goals as goal

pub returns-in-InCollection : goal.returns-in-InCollection
returns-in-InCollection c = λ collection id there.
    let maps = c.args.collections.now in
    let slot = subst (λ (s : Slot). IsSlotIn maps collection id s) c.in-InCollection.is there in
    sym (is-none _ (sym (record-there maps collection id) ∙ slot.3))

pub returns-in-InNewCollection : goal.returns-in-InNewCollection
returns-in-InNewCollection c = λ collection id there.
    let maps = c.args.collections.now in
    let slot = subst (λ (s : Slot). IsSlotIn maps collection id s) c.in-InNewCollection.is there in
    sym (record-none maps collection id slot.5)
