-- one of the two parts was changed
use Rattle.std.proofs.Common.{option_map, refl, ap}
use Rattle.match_index.proofs.PlaceLemmas.{dropped, dropped_elsewhere, rest-changed, equal-changed}
use Rattle.match_index.proofs.places.take_places.Goals as goal

pub returns-in-Some : goal.returns-in-Some
returns-in-Some c =
    equal-changed dropped dropped_elsewhere c.args.places.now (record { rest = c.args.places.now.rest; equal = c.take_path.new.paths }) _ c.in-Some.path.now c.in-Some.value.now c.args.key.now
    (ap (option_map (λ r. (r.0.now, r.1.now))) c.in-Some.is) refl c.take_path.ensures

pub returns-in-None : goal.returns-in-None
returns-in-None c =
    rest-changed dropped dropped_elsewhere c.args.places.now (record { rest = c.take_key.new.keys; equal = c.args.places.now.equal }) _ c.args.key.now
    (ap (option_map (λ r. (r.0.now, r.1.now))) c.in-None.is) refl c.take_key.ensures
