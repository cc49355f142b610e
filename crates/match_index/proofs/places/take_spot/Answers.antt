-- what is kept under the key was changed, and the key taken out where nothing is left
use Rattle.std.proofs.Common.{option_map, sym}
use Rattle.q_doc.specs.TextOrder.{text_cmp}
use Rattle.match_index.specs.Places.{has_places, at_places}
use Rattle.match_index.proofs.PlaceLemmas.{exact_text, dropped, dropped_elsewhere, dropped_nothing, level-written, level-removed, level-missed}
use Rattle.match_index.proofs.places.take_spot.Goals as goal

pub returns-in_default : goal.returns-in_default
returns-in_default c =
    rw (c.get_mut.follows.holds-at-none)
    (level-missed text_cmp exact_text has_places dropped dropped_elsewhere (at_places (option_map (λ r. (r.0.now, r.1.now)) c.args.probe) c.args.key.now) c.args.name.now c.args.collections.now (sym c.in_default.ensures.value) dropped_nothing)

pub returns-then-has_none : goal.returns-then-has_none
returns-then-has_none c =
    level-removed text_cmp exact_text has_places dropped dropped_elsewhere (at_places (option_map (λ r. (r.0.now, r.1.now)) c.args.probe) c.args.key.now) c.args.name.now c.args.collections.now (c.get_mut.follows.lender c.take_places.new.places) c.remove.new.self c.in-Some.places.now c.take_places.new.places
    (sym c.in-Some.ensures.value) (c.get_mut.follows.holds c.take_places.new.places) c.remove.ensures.updates
    (c.has_none.ensures c.if-has_none.true) c.take_places.ensures

pub returns-else-has_none : goal.returns-else-has_none
returns-else-has_none c =
    level-written text_cmp exact_text has_places dropped dropped_elsewhere (at_places (option_map (λ r. (r.0.now, r.1.now)) c.args.probe) c.args.key.now) c.args.name.now c.args.collections.now (c.get_mut.follows.lender c.take_places.new.places) c.in-Some.places.now c.take_places.new.places
    (sym c.in-Some.ensures.value) (c.get_mut.follows.holds c.take_places.new.places) c.take_places.ensures
