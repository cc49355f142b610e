-- the key is added where it was not there
use Rattle.std.proofs.Common.{◌≡◌, ◌&&◌, ◌||◌, ℕ, Bool, true, nat_lt, unwrap_or, ◌++◌, ◌∷◌, [], if◌then◌else◌, ap, sym, subst, ◌∙◌}
use Rattle.std.specs.List.{list_any}
use Rattle.std.proofs.lemmas.Bool.{lt-ltb}
use Rattle.query_normal.specs.Keys.{same_key}
use Rattle.query_normal.specs.declared.key.KeyShape.{KeyShape}
use Rattle.issued_expiries.specs.Copies.{latest_of}
use Rattle.hub_core.proofs.NoteLemmas.{and-true-right, key-added}
use Rattle.hub_core.proofs.purging.add_where_purged.Goals as goal

pub returns-in_ok-insert : goal.returns-in_ok-insert
returns-in_ok-insert c = λ key.
    let m = c.args.invalidation.now in
    let later : nat_lt c.args.second (unwrap_or (latest_of c.args.copies.now.copies m.key c.get.result m.commit) 0) ≡ true =
    ap (nat_lt c.args.second) (sym c.latest_until-until.ensures) ∙ lt-ltb c.args.second c.latest_until-until.result c.if-second-until.true in
    let there = ap (λ (n : ℕ). nat_lt c.args.second (unwrap_or (latest_of c.args.copies.now.copies m.key n m.commit) 0)) (sym c.get.ensures) ∙ later in
    key-added key m.key c.args.found.now.keys c.insert.new.self.keys
    (subst (λ (k : KeyShape). c.insert.new.self.keys ≡ (if list_any (same_key k) c.args.found.now.keys then c.args.found.now.keys else c.args.found.now.keys ++ k ∷ [])) (sym c.in_ok-clone.ensures.cases) c.in_ok-insert.ensures.keys)
    ∙ ap (λ (b : Bool). list_any (same_key key) c.args.found.now.keys || b) (sym (ap (λ (b : Bool). same_key key m.key && b) there ∙ and-true-right (same_key key m.key)))
