-- one of the two parts was changed
use Rattle.std.proofs.Common.{option_map, refl, ap}
use Rattle.match_index.proofs.PlaceLemmas.{added, added_elsewhere, left, left_elsewhere, rest-changed, equal-changed, on-ok, on-err}
use Rattle.match_index.proofs.places.put_places.Goals as goal

pub returns-in-Some-clause-ok : goal.returns-in-Some-clause-ok
returns-in-Some-clause-ok c =
    on-ok c.put_path.result
    (λ adds. equal-changed added added_elsewhere c.args.places.now (record { rest = c.args.places.now.rest; equal = c.put_path.new.paths }) _ c.in-Some.path.now c.in-Some.value.now c.args.key
    (ap (option_map (λ r. (r.0.now, r.1.now))) c.in-Some.is) refl adds)
    c.put_path.ensures.ok

pub returns-in-Some-clause-err : goal.returns-in-Some-clause-err
returns-in-Some-clause-err c =
    on-err c.put_path.result
    (λ stays. equal-changed left left_elsewhere c.args.places.now (record { rest = c.args.places.now.rest; equal = c.put_path.new.paths }) _ c.in-Some.path.now c.in-Some.value.now c.args.key
    (ap (option_map (λ r. (r.0.now, r.1.now))) c.in-Some.is) refl stays)
    c.put_path.ensures.err

pub returns-in-None-clause-ok : goal.returns-in-None-clause-ok
returns-in-None-clause-ok c =
    on-ok c.put_key.result
    (λ adds. rest-changed added added_elsewhere c.args.places.now (record { rest = c.put_key.new.keys; equal = c.args.places.now.equal }) _ c.args.key
    (ap (option_map (λ r. (r.0.now, r.1.now))) c.in-None.is) refl adds)
    c.put_key.ensures.ok

pub returns-in-None-clause-err : goal.returns-in-None-clause-err
returns-in-None-clause-err c =
    on-err c.put_key.result
    (λ stays. rest-changed left left_elsewhere c.args.places.now (record { rest = c.put_key.new.keys; equal = c.args.places.now.equal }) _ c.args.key
    (ap (option_map (λ r. (r.0.now, r.1.now))) c.in-None.is) refl stays)
    c.put_key.ensures.err
