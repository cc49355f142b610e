use Rattle.std.proofs.Common.{◌≡◌, ◌+◌, ◌<◌, ℕ, List, length, get_or, max, sym, ap, ◌∙◌, subst, arith}
use Rattle.issued_expiries.specs.KeyCopies.{KeptCopies, greatest, IsIndexFor}
use Rattle.issued_expiries.proofs.CopyLemmas.{raised_written, inserted_written, over_inserted, space_of, as_many, one_more, counted}
use Rattle.issued_expiries.proofs.sorted_copies.SortedCopies.put.Goals as goal

pub insert_number-requires-clause-within : goal.insert_number-requires-clause-within
insert_number-requires-clause-within c =
    let space = space_of _ _ _ _ c.self.view_is c.requires in
    let value = ap length c.deref_mut-in-Err.ensures.value in
    let sized = c.self.invariant.over.sized in
    omega (arith, space, value, sized)

pub insert-requires-clause-space : goal.insert-requires-clause-space
insert-requires-clause-space c =
    let space = space_of _ _ _ _ c.self.view_is c.requires in
    omega (arith, space, c.self.invariant.reserved)

-- a new commit is inserted at its index
pub invariant_of-self-in-Err : goal.invariant_of-self-in-Err
invariant_of-self-in-Err c =
    let space = space_of _ _ _ _ c.self.view_is c.requires in
    let fits = subst (λ (xs : List ℕ). IsIndexFor c.args.commit xs c.in-Err.index) c.deref.ensures.value c.in-Err.ensures.absent in
    record {
      over = over_inserted _ _ _ _ _ _ _ _ c.self.invariant.over c.deref_mut-in-Err.ensures.value c.deref_mut-in-Err.ensures.len c.insert_number.auto.tree _ fits c.insert.ensures.items space c.insert_number.ensures.maxima;
      reserved = omega (arith, c.self.invariant.reserved, c.insert.ensures.capacity);
    }

pub returns-in-Ok-clause-greatest : goal.returns-in-Ok-clause-greatest
returns-in-Ok-clause-greatest c = λ test.
    let found = subst (λ (xs : List ℕ). (c.in-Ok.index < length xs) × (get_or xs c.in-Ok.index 0 ≡ c.args.commit)) c.deref.ensures.value c.in-Ok.ensures.found in
    raised_written _ _ _ _ _ _ c.in-Ok.index c.args.commit c.self.invariant.over c.deref_mut.ensures.value c.deref_mut.ensures.len c.set_number.auto.tree c.args.until _ _
    found.0 found.1 c.index-before.ensures c.max-after.ensures c.set_number.ensures.number c.set_number.ensures.others test
    ∙ ap (λ (kept : KeptCopies). max (greatest test kept.copies) (counted (test c.args.commit) c.args.until)) c.self.view_is

pub returns-in-Ok-clause-len : goal.returns-in-Ok-clause-len
returns-in-Ok-clause-len c = as_many c.self.inside.commits.items c.self.inside.tree.items c.self.inside.capacity _ c.self.view_is _

pub returns-in-Err-clause-greatest : goal.returns-in-Err-clause-greatest
returns-in-Err-clause-greatest c = λ test.
    let fits = subst (λ (xs : List ℕ). IsIndexFor c.args.commit xs c.in-Err.index) c.deref.ensures.value c.in-Err.ensures.absent in
    inserted_written _ _ _ _ _ _ c.in-Err.index c.args.commit c.self.invariant.over c.deref_mut-in-Err.ensures.value c.deref_mut-in-Err.ensures.len c.insert_number.auto.tree
    _ fits c.insert.ensures.items c.args.until _ (ap (λ (n : ℕ). c.self.inside.capacity + n) (c.len.ensures ∙ sym c.deref.ensures.len ∙ ap length c.deref.ensures.value)) c.insert_number.ensures.number c.insert_number.ensures.moved c.insert_number.ensures.before test
    ∙ ap (λ (kept : KeptCopies). max (greatest test kept.copies) (counted (test c.args.commit) c.args.until)) c.self.view_is

pub returns-in-Err-clause-len : goal.returns-in-Err-clause-len
returns-in-Err-clause-len c =
    let fits = subst (λ (xs : List ℕ). IsIndexFor c.args.commit xs c.in-Err.index) c.deref.ensures.value c.in-Err.ensures.absent in
    one_more c.self.inside.commits.items c.self.inside.tree.items c.self.inside.capacity _ c.self.view_is _ _ c.in-Err.index c.args.commit fits.within c.insert.ensures.items
