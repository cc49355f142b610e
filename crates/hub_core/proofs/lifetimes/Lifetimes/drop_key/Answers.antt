-- the key has no estimate, no entry and no last change
use Rattle.std.proofs.Common.{◌≡◌, Bool, false, Option, Some, None, is_some, if◌then◌else◌, refl, sym, ap, ◌∙◌, inl, inr}
use Rattle.std.specs.Map.{lookup}
use Rattle.std.proofs.lemmas.Bool.{cases_Bool}
use Rattle.query_normal.specs.Keys.{same_key}
use Rattle.query_normal.specs.SameKey.{same_key-Decides}
use Rattle.query_normal.specs.declared.key.KeyShape.{KeyShape}
use Rattle.ttl_estimator.specs.Estimates.{kept_of}
use Rattle.ttl_estimator.specs.Estimator.{Estimated}
use Rattle.hub_core.proofs.lifetimes.Lifetimes.drop_key.Goals as goal

none-of : {X : Type 0} (o : Option X) → is_some o ≡ false → o ≡ None
none-of None h = refl
none-of (Some x) h = absurd (let e = h in cc)

pub returns : goal.returns
returns c =
    let key = c.args.key.now in
    record {
      kept = λ other. c.forget.ensures.kept other ∙ c.note_idle.ensures.kept other;
      known = λ other.
          c.forget.ensures.known other
          ∙ elim (cases_Bool (same_key key other)) [
            | inl own ↦ (
                let gone : kept_of c.note_idle.new.self.keys key ≡ None = c.note_idle.ensures.kept key ∙ ap (λ (b : Bool). if b then None else kept_of c.args.self.now.estimator.keys key) ((same_key-Decides key key).1 refl) in
                rw (own) (ap is_some gone))
            | inr apart ↦ rw (apart) (c.note_idle.ensures.known other)
          ];
      changes = λ other. elim (cases_Bool (same_key key other)) [
        | inl own ↦ (
            let e : key ≡ other = (same_key-Decides key other).0 own in
            ap (λ (k : KeyShape). lookup (same_key k) c.forget-2.new.self) (sym e) ∙ none-of (lookup (same_key key) c.forget-2.new.self) c.forget-2.ensures.gone ∙ sym (ap (λ (b : Bool). if b then None else lookup (same_key other) c.args.self.now.changes) own))
        | inr apart ↦ c.forget-2.ensures.others other apart ∙ sym (ap (λ (b : Bool). if b then None else lookup (same_key other) c.args.self.now.changes) apart)
      ];
      rest = ap (λ (e : Estimated). record c.args.self.now { estimator = e; changes = c.forget-2.new.self }) (c.forget.ensures.rest ∙ ap (λ (e : Estimated). record e { keys = c.forget.new.self.keys }) c.note_idle.ensures.rest);
    }
