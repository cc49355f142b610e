-- the key was not there
use Rattle.std.proofs.Common.{◌||◌, Bool, ap, ◌∙◌}
use Rattle.q_doc.specs.Order.{tree_cmp}
use Rattle.query_normal.specs.Keys.{same_key}
use Rattle.match_index.specs.Places.{has_key}
use Rattle.match_index.proofs.PlaceLemmas.{exact_value, added, added_elsewhere, level-inserted, level-same, no_keys, on-any-err}
use Rattle.match_index.proofs.places.put_new_value.Goals as goal

pub returns-clause-ok : goal.returns-clause-ok
returns-clause-ok c =
    level-inserted tree_cmp exact_value has_key added added_elsewhere (same_key c.args.key) c.args.value.now c.in_ok-own.own c.args.values.now c.insert.new.self c.put_key.new.keys
    c.in_ok-own.ensures.cases c.requires c.in_ok-insert.ensures.updates
    (λ i. c.in_ok-put_key.ensures.ok i ∙ ap (λ (b : Bool). b || (same_key c.args.key) i) (no_keys c.new-keys.result c.new-keys.ensures.empty i))

pub returns-in_err-insert-clause-err : goal.returns-in_err-insert-clause-err
returns-in_err-insert-clause-err c = on-any-err c.from_residual-in_err-insert.result (level-same tree_cmp has_key c.args.values.now c.insert.new.self c.in_err-insert.ensures.err)
