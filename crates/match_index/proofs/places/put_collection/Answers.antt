-- the key was not there
use Rattle.std.proofs.Common.{◌||◌, Bool, option_map, ap, ◌∙◌}
use Rattle.q_doc.specs.TextOrder.{text_cmp}
use Rattle.match_index.specs.Places.{has_places, at_places}
use Rattle.match_index.proofs.PlaceLemmas.{exact_text, added, added_elsewhere, level-inserted, level-same, no_places, on-any-err}
use Rattle.match_index.proofs.places.put_collection.Goals as goal

pub returns-clause-ok : goal.returns-clause-ok
returns-clause-ok c =
    level-inserted text_cmp exact_text has_places added added_elsewhere (at_places (option_map (λ r. (r.0.now, r.1.now)) c.args.probe) c.args.key) c.args.name.now c.in_ok-own.own c.args.collections.now c.insert.new.self c.put_places.new.places
    c.in_ok-own.ensures.cases c.requires c.in_ok-insert.ensures.updates
    (λ i. c.in_ok-put_places.ensures.ok i ∙ ap (λ (b : Bool). b || (at_places (option_map (λ r. (r.0.now, r.1.now)) c.args.probe) c.args.key) i) (no_places (record { rest = c.new.result; equal = c.new-2.result }) c.new.ensures.empty c.new-2.ensures.empty i))

pub returns-in_err-insert-clause-err : goal.returns-in_err-insert-clause-err
returns-in_err-insert-clause-err c = on-any-err c.from_residual-in_err-insert.result (level-same text_cmp has_places c.args.collections.now c.insert.new.self c.in_err-insert.ensures.err)
