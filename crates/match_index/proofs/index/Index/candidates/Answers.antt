-- by what is kept at the spots that are looked at
use Rattle.std.proofs.Common.{◌≡◌, true, false, ◌&&◌}
use Rattle.std.specs.List.{IsDistinct}
use Rattle.query_normal.specs.declared.key.KeyShape.{KeyShape}
use Rattle.query_normal.specs.Keys.{same_key}
use Rattle.match_index.specs.Candidates.{is_candidate_key, passes_key}
use Rattle.match_index.specs.Places.{is_held}
use Rattle.match_index.proofs.FoundLemmas.{found-all, found-only, found-once, if-found}
use Rattle.match_index.proofs.index.Index.candidates.Goals as goal

pub returns-clause-all : goal.returns-clause-all
returns-clause-all c =
    rw (← c.self.view_is)
    (if-found (λ keys. (key : KeyShape) → is_held c.self.inside.held.keys key ≡ true → passes_key key c.args.row.now ≡ false → is_held keys key ≡ true) (λ v. v.items) c.find.result _ c.find.ensures.found c.find.ensures.once
    (λ once key there change. found-all c.self.inside.held.keys c.self.inside.collections c.args.row.now key c.self.invariant.placed there change))

pub returns-clause-only : goal.returns-clause-only
returns-clause-only c =
    rw (← c.self.view_is)
    (if-found (λ keys. (key : KeyShape) → is_held keys key ≡ true → (is_held c.self.inside.held.keys key && is_candidate_key key c.args.row.now) ≡ true) (λ v. v.items) c.find.result _ c.find.ensures.found c.find.ensures.once
    (found-only c.self.inside.held.keys c.self.inside.collections c.self.invariant.placed c.args.row.now))

pub returns-clause-once : goal.returns-clause-once
returns-clause-once c =
    if-found (IsDistinct same_key) (λ v. v.items) c.find.result _ c.find.ensures.found c.find.ensures.once
    (found-once c.self.inside.held.keys c.self.inside.collections c.self.invariant.placed c.args.row.now)
