use Rattle.std.proofs.Common.{◌<◌, Option, IfSome, sym, subst}
use Rattle.issued_expiries.specs.KeyCopies.{KeptCopies, HasSpace, last_until}
use Rattle.issued_expiries.proofs.HeldLemmas.{index_found, kept_at, written_shown, trimmed, space_set, tied_written, length_written, none_found, none_shown, on_ok}
use Rattle.issued_expiries.proofs.held.make_space.Goals as goal

-- the key's copies have an unexpired one
pub make_space-requires : goal.make_space-requires
make_space-requires c =
    let found = kept_at c.args.held.now.entries c.args.key.now c.in-Some.index _ (index_found c.args.key.now _ c.in-Some.index c.in-Some.ensures.index) c.value_mut.ensures.value in
    subst (λ (o : Option KeptCopies). IfSome o (λ kept. c.args.clock < last_until kept)) found (c.requires.unexpired c.args.key.now)

pub returns-in-Some-clause-space : goal.returns-in-Some-clause-space
returns-in-Some-clause-space c =
    let at = index_found c.args.key.now _ c.in-Some.index c.in-Some.ensures.index in
    let found = kept_at c.args.held.now.entries c.args.key.now c.in-Some.index _ at c.value_mut.ensures.value in
    on_ok c.make_space.result _ _ c.make_space.ensures.ok (λ space. space_set _ _ c.args.key.now _ _ found (written_shown c.args.held.now.entries c.args.key.now c.in-Some.index c.make_space.new.self at) space)

-- the copies of the key were replaced, and no other's
pub returns-in-Some-clause-trims : goal.returns-in-Some-clause-trims
returns-in-Some-clause-trims c =
    let at = index_found c.args.key.now _ c.in-Some.index c.in-Some.ensures.index in
    let found = kept_at c.args.held.now.entries c.args.key.now c.in-Some.index _ at c.value_mut.ensures.value in
    trimmed _ _ c.args.key.now _ _ found (written_shown c.args.held.now.entries c.args.key.now c.in-Some.index c.make_space.new.self at) c.args.clock c.make_space.ensures.later c.make_space.ensures.last

pub returns-in-Some-clause-tied : goal.returns-in-Some-clause-tied
returns-in-Some-clause-tied c = tied_written c.args.held.now.entries c.in-Some.index _ c.make_space.new.self c.value_mut.ensures.value c.make_space.ensures.last c.requires.tied

pub returns-in-Some-clause-len : goal.returns-in-Some-clause-len
returns-in-Some-clause-len c = length_written c.args.held.now.entries c.in-Some.index c.make_space.new.self

pub returns-in-None-clause-space : goal.returns-in-None-clause-space
returns-in-None-clause-space c =
    subst (λ (o : Option KeptCopies). IfSome o HasSpace) (sym (none_shown c.args.held.now.entries c.args.key.now (none_found _ c.in-None.ensures.found))) tt
