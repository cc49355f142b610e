use Rattle.std.proofs.Common.{◌≡◌, ◌+◌, cond, length, is_some, true, Option, IfSome, sym, ap, ◌∙◌, subst, arith}
use Rattle.expiring_map.specs.Entries.{with_value_at, extended_at}
use Rattle.expiring_map.specs.Map.{Expiring}
use Rattle.issued_expiries.specs.KeyCopies.{KeptCopies, HasSpace}
use Rattle.issued_expiries.specs.Entries.{AreTied}
use Rattle.issued_expiries.proofs.HeldLemmas.{HeldKeys, index_found, kept_at, put_shown, puts_again, puts_new, new_shown, tied_put, distinct_set, distinct_shown, length_written, length_put, length_new, none_found, none_shown}
use Rattle.issued_expiries.proofs.held.put.Goals as goal

pub put-requires : goal.put-requires
put-requires c =
    let found = kept_at c.args.held.now.entries c.args.key.now c.in-Some.index _ (index_found c.args.key.now _ c.in-Some.index c.in-Some.ensures.index) c.value_mut.ensures.value in
    subst (λ (o : Option KeptCopies). IfSome o HasSpace) found c.requires.space

pub extend-requires : goal.extend-requires
extend-requires c =
    let same = length_written c.args.held.now.entries c.in-Some.index c.put.new.self in
    omega (arith, same, c.in-Some.ensures.within)

-- the copy was added at the key's index, and the key's second rose
after_is : (c : goal.After-release) → c.release.new.self.entries ≡ extended_at (with_value_at c.args.held.now.entries c.in-Some.index c.put.new.self) c.in-Some.index c.args.until
after_is c = c.release.ensures.entries ∙ ap (λ (m : Expiring KeptCopies). m.entries) c.extend.ensures

pub returns-in-Some-clause-puts : goal.returns-in-Some-clause-puts
returns-in-Some-clause-puts c =
    let at = index_found c.args.key.now _ c.in-Some.index c.in-Some.ensures.index in
    let found = kept_at c.args.held.now.entries c.args.key.now c.in-Some.index _ at c.value_mut.ensures.value in
    puts_again _ _ c.args.key.now _ _ found (put_shown c.args.held.now.entries _ c.args.key.now c.in-Some.index c.args.until c.put.new.self at (after_is c)) c.args.commit c.args.until c.put.ensures.greatest

pub returns-in-Some-clause-tied : goal.returns-in-Some-clause-tied
returns-in-Some-clause-tied c =
    subst (λ (es : HeldKeys). AreTied es) (sym (after_is c))
    (tied_put c.args.held.now.entries c.in-Some.index _ c.put.new.self c.args.until c.value_mut.ensures.value (c.put.ensures.greatest (λ _. true)) c.requires.tied)

pub returns-in-Some-clause-distinct : goal.returns-in-Some-clause-distinct
returns-in-Some-clause-distinct c =
    let at = index_found c.args.key.now _ c.in-Some.index c.in-Some.ensures.index in
    distinct_set _ _ c.args.key.now c.put.new.self (put_shown c.args.held.now.entries _ c.args.key.now c.in-Some.index c.args.until c.put.new.self at (after_is c)) (distinct_shown c.args.held.now.entries c.in-Some.ensures.once)

pub returns-in-Some-clause-len : goal.returns-in-Some-clause-len
returns-in-Some-clause-len c =
    let found = kept_at c.args.held.now.entries c.args.key.now c.in-Some.index _ (index_found c.args.key.now _ c.in-Some.index c.in-Some.ensures.index) c.value_mut.ensures.value in
    length_put c.args.held.now.entries _ c.in-Some.index c.args.until c.put.new.self (after_is c)
    ∙ sym (ap (λ (o : Option KeptCopies). cond (is_some o) (length c.args.held.now.entries) (length c.args.held.now.entries + 1)) found)

-- a new key is last
pub returns-in-None-clause-puts : goal.returns-in-None-clause-puts
returns-in-None-clause-puts c =
    puts_new _ _ c.args.key.now c.args.commit c.args.until c.one.result (none_shown c.args.held.now.entries c.args.key.now (none_found _ c.in-None.ensures.found))
    (new_shown c.args.held.now.entries _ c.args.key.now c.args.until c.one.result c.put-in-None.ensures.entries) c.one.ensures

pub returns-in-None-clause-distinct : goal.returns-in-None-clause-distinct
returns-in-None-clause-distinct c = distinct_shown _ c.put-in-None.ensures.once

pub returns-in-None-clause-len : goal.returns-in-None-clause-len
returns-in-None-clause-len c = length_new c.args.held.now.entries _ c.args.key.now _ c.put-in-None.ensures.entries (none_shown c.args.held.now.entries c.args.key.now (none_found _ c.in-None.ensures.found))
