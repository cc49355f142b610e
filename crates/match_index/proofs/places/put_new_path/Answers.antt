-- the key was not there
use Rattle.std.proofs.Common.{◌||◌, Bool, ap, ◌∙◌}
use Rattle.q_doc.specs.TextOrder.{path_cmp}
use Rattle.q_doc.specs.Order.{tree_cmp}
use Rattle.match_index.specs.Places.{has_key, has_value, at_value}
use Rattle.match_index.proofs.PlaceLemmas.{exact_path, added, added_elsewhere, level-inserted, level-same, no_entries, on-any-err}
use Rattle.match_index.proofs.places.put_new_path.Goals as goal

pub returns-clause-ok : goal.returns-clause-ok
returns-clause-ok c =
    level-inserted path_cmp exact_path has_value added added_elsewhere (at_value c.args.value.now c.args.key) c.args.path.now c.in_ok-own.own c.args.paths.now c.insert.new.self c.put_value.new.values
    c.in_ok-own.ensures.cases c.requires c.in_ok-insert.ensures.updates
    (λ i. c.in_ok-put_value.ensures.ok i ∙ ap (λ (b : Bool). b || (at_value c.args.value.now c.args.key) i) (no_entries tree_cmp has_key c.new-values.result c.new-values.ensures.empty i))

pub returns-in_err-insert-clause-err : goal.returns-in_err-insert-clause-err
returns-in_err-insert-clause-err c = on-any-err c.from_residual-in_err-insert.result (level-same path_cmp has_value c.args.paths.now c.insert.new.self c.in_err-insert.ensures.err)
