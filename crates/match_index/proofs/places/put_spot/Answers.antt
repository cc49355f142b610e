-- what is kept under the key was changed, or the key is new
use Rattle.std.proofs.Common.{option_map, sym, ap, ◌∙◌}
use Rattle.std.specs.BTreeMap.{get}
use Rattle.q_doc.specs.TextOrder.{text_cmp}
use Rattle.match_index.specs.Places.{has_places, at_places}
use Rattle.match_index.proofs.PlaceLemmas.{exact_text, added, added_elsewhere, left, left_elsewhere, level-written, on-ok, on-err}
use Rattle.match_index.proofs.places.put_spot.Goals as goal

pub put_collection-requires : goal.put_collection-requires
put_collection-requires c = ap (λ m. get text_cmp m c.args.name.now) c.get_mut.follows.holds-at-none ∙ sym c.in-None.ensures.value

pub returns-in-Some-clause-ok : goal.returns-in-Some-clause-ok
returns-in-Some-clause-ok c =
    on-ok c.put_places.result
    (λ adds. level-written text_cmp exact_text has_places added added_elsewhere (at_places (option_map (λ r. (r.0.now, r.1.now)) c.args.probe) c.args.key) c.args.name.now c.args.collections.now (c.get_mut.follows.lender c.put_places.new.places) c.in-Some.places.now c.put_places.new.places
    (sym c.in-Some.ensures.value) (c.get_mut.follows.holds c.put_places.new.places) adds)
    c.put_places.ensures.ok

pub returns-in-Some-clause-err : goal.returns-in-Some-clause-err
returns-in-Some-clause-err c =
    on-err c.put_places.result
    (λ stays. level-written text_cmp exact_text has_places left left_elsewhere (at_places (option_map (λ r. (r.0.now, r.1.now)) c.args.probe) c.args.key) c.args.name.now c.args.collections.now (c.get_mut.follows.lender c.put_places.new.places) c.in-Some.places.now c.put_places.new.places
    (sym c.in-Some.ensures.value) (c.get_mut.follows.holds c.put_places.new.places) stays)
    c.put_places.ensures.err

pub returns-in-None-clause-ok : goal.returns-in-None-clause-ok
returns-in-None-clause-ok c = rw (c.get_mut.follows.holds-at-none) at c.put_collection.ensures.ok

pub returns-in-None-clause-err : goal.returns-in-None-clause-err
returns-in-None-clause-err c = rw (c.get_mut.follows.holds-at-none) at c.put_collection.ensures.err
