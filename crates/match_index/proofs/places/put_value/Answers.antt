-- what is kept under the key was changed, or the key is new
use Rattle.std.proofs.Common.{sym, ap, ◌∙◌}
use Rattle.std.specs.BTreeMap.{get}
use Rattle.q_doc.specs.Order.{tree_cmp}
use Rattle.query_normal.specs.Keys.{same_key}
use Rattle.match_index.specs.Places.{has_key}
use Rattle.match_index.proofs.PlaceLemmas.{exact_value, added, added_elsewhere, left, left_elsewhere, level-written, on-ok, on-err}
use Rattle.match_index.proofs.places.put_value.Goals as goal

pub put_new_value-requires : goal.put_new_value-requires
put_new_value-requires c = ap (λ m. get tree_cmp m c.args.value.now) c.get_mut.follows.holds-at-none ∙ sym c.in-None.ensures.value

pub returns-in-Some-clause-ok : goal.returns-in-Some-clause-ok
returns-in-Some-clause-ok c =
    on-ok c.put_key.result
    (λ adds. level-written tree_cmp exact_value has_key added added_elsewhere (same_key c.args.key) c.args.value.now c.args.values.now (c.get_mut.follows.lender c.put_key.new.keys) c.in-Some.keys.now c.put_key.new.keys
    (sym c.in-Some.ensures.value) (c.get_mut.follows.holds c.put_key.new.keys) adds)
    c.put_key.ensures.ok

pub returns-in-Some-clause-err : goal.returns-in-Some-clause-err
returns-in-Some-clause-err c =
    on-err c.put_key.result
    (λ stays. level-written tree_cmp exact_value has_key left left_elsewhere (same_key c.args.key) c.args.value.now c.args.values.now (c.get_mut.follows.lender c.put_key.new.keys) c.in-Some.keys.now c.put_key.new.keys
    (sym c.in-Some.ensures.value) (c.get_mut.follows.holds c.put_key.new.keys) stays)
    c.put_key.ensures.err

pub returns-in-None-clause-ok : goal.returns-in-None-clause-ok
returns-in-None-clause-ok c = rw (c.get_mut.follows.holds-at-none) at c.put_new_value.ensures.ok

pub returns-in-None-clause-err : goal.returns-in-None-clause-err
returns-in-None-clause-err c = rw (c.get_mut.follows.holds-at-none) at c.put_new_value.ensures.err
