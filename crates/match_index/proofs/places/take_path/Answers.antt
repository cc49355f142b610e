-- what is kept under the key was changed, and the key taken out where nothing is left
use Rattle.std.proofs.Common.{sym}
use Rattle.q_doc.specs.TextOrder.{path_cmp}
use Rattle.q_doc.specs.Order.{tree_cmp}
use Rattle.match_index.specs.Places.{has_key, has_value, at_value}
use Rattle.match_index.proofs.PlaceLemmas.{exact_path, dropped, dropped_elsewhere, dropped_nothing, level-written, level-removed, level-missed, no_length, no_entries}
use Rattle.match_index.proofs.places.take_path.Goals as goal

pub returns-in_default : goal.returns-in_default
returns-in_default c =
    rw (c.get_mut.follows.holds-at-none)
    (level-missed path_cmp exact_path has_value dropped dropped_elsewhere (at_value c.args.value.now c.args.key.now) c.args.path.now c.args.paths.now (sym c.in_default.ensures.value) dropped_nothing)

pub returns-then-is_empty : goal.returns-then-is_empty
returns-then-is_empty c =
    level-removed path_cmp exact_path has_value dropped dropped_elsewhere (at_value c.args.value.now c.args.key.now) c.args.path.now c.args.paths.now (c.get_mut.follows.lender c.take_value.new.values) c.remove.new.self c.in-Some.values.now c.take_value.new.values
    (sym c.in-Some.ensures.value) (c.get_mut.follows.holds c.take_value.new.values) c.remove.ensures.updates
    (no_entries tree_cmp has_key c.take_value.new.values (no_length _ (c.is_empty.ensures.0 c.if-is_empty.true))) c.take_value.ensures

pub returns-else-is_empty : goal.returns-else-is_empty
returns-else-is_empty c =
    level-written path_cmp exact_path has_value dropped dropped_elsewhere (at_value c.args.value.now c.args.key.now) c.args.path.now c.args.paths.now (c.get_mut.follows.lender c.take_value.new.values) c.in-Some.values.now c.take_value.new.values
    (sym c.in-Some.ensures.value) (c.get_mut.follows.holds c.take_value.new.values) c.take_value.ensures
