-- what is kept under the key was changed, or the key is new
use Rattle.std.proofs.Common.{sym, ap, ◌∙◌}
use Rattle.std.specs.BTreeMap.{get}
use Rattle.q_doc.specs.TextOrder.{path_cmp}
use Rattle.match_index.specs.Places.{has_value, at_value}
use Rattle.match_index.proofs.PlaceLemmas.{exact_path, added, added_elsewhere, left, left_elsewhere, level-written, on-ok, on-err}
use Rattle.match_index.proofs.places.put_path.Goals as goal

pub put_new_path-requires : goal.put_new_path-requires
put_new_path-requires c = ap (λ m. get path_cmp m c.args.path.now) c.get_mut.follows.holds-at-none ∙ sym c.in-None.ensures.value

pub returns-in-Some-clause-ok : goal.returns-in-Some-clause-ok
returns-in-Some-clause-ok c =
    on-ok c.put_value.result
    (λ adds. level-written path_cmp exact_path has_value added added_elsewhere (at_value c.args.value.now c.args.key) c.args.path.now c.args.paths.now (c.get_mut.follows.lender c.put_value.new.values) c.in-Some.values.now c.put_value.new.values
    (sym c.in-Some.ensures.value) (c.get_mut.follows.holds c.put_value.new.values) adds)
    c.put_value.ensures.ok

pub returns-in-Some-clause-err : goal.returns-in-Some-clause-err
returns-in-Some-clause-err c =
    on-err c.put_value.result
    (λ stays. level-written path_cmp exact_path has_value left left_elsewhere (at_value c.args.value.now c.args.key) c.args.path.now c.args.paths.now (c.get_mut.follows.lender c.put_value.new.values) c.in-Some.values.now c.put_value.new.values
    (sym c.in-Some.ensures.value) (c.get_mut.follows.holds c.put_value.new.values) stays)
    c.put_value.ensures.err

pub returns-in-None-clause-ok : goal.returns-in-None-clause-ok
returns-in-None-clause-ok c = rw (c.get_mut.follows.holds-at-none) at c.put_new_path.ensures.ok

pub returns-in-None-clause-err : goal.returns-in-None-clause-err
returns-in-None-clause-err c = rw (c.get_mut.follows.holds-at-none) at c.put_new_path.ensures.err
