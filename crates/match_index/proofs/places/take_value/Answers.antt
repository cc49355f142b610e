-- what is kept under the key was changed, and the key taken out where nothing is left
use Rattle.std.proofs.Common.{sym}
use Rattle.q_doc.specs.Order.{tree_cmp}
use Rattle.query_normal.specs.Keys.{same_key}
use Rattle.match_index.specs.Places.{has_key}
use Rattle.match_index.proofs.PlaceLemmas.{exact_value, dropped, dropped_elsewhere, dropped_nothing, level-written, level-removed, level-missed, no_length, no_keys}
use Rattle.match_index.proofs.places.take_value.Goals as goal

pub returns-in_default : goal.returns-in_default
returns-in_default c =
    rw (c.get_mut.follows.holds-at-none)
    (level-missed tree_cmp exact_value has_key dropped dropped_elsewhere (same_key c.args.key.now) c.args.value.now c.args.values.now (sym c.in_default.ensures.value) dropped_nothing)

pub returns-then-is_empty : goal.returns-then-is_empty
returns-then-is_empty c =
    level-removed tree_cmp exact_value has_key dropped dropped_elsewhere (same_key c.args.key.now) c.args.value.now c.args.values.now (c.get_mut.follows.lender c.take_key.new.keys) c.remove.new.self c.in-Some.keys.now c.take_key.new.keys
    (sym c.in-Some.ensures.value) (c.get_mut.follows.holds c.take_key.new.keys) c.remove.ensures.updates
    (no_keys c.take_key.new.keys (no_length _ (c.is_empty.ensures.0 c.if-is_empty.true))) c.take_key.ensures

pub returns-else-is_empty : goal.returns-else-is_empty
returns-else-is_empty c =
    level-written tree_cmp exact_value has_key dropped dropped_elsewhere (same_key c.args.key.now) c.args.value.now c.args.values.now (c.get_mut.follows.lender c.take_key.new.keys) c.in-Some.keys.now c.take_key.new.keys
    (sym c.in-Some.ensures.value) (c.get_mut.follows.holds c.take_key.new.keys) c.take_key.ensures
