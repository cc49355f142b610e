-- What is noted of keys, after one more.
use Rattle.std.proofs.Common.{◌≡◌, Bool, cond, List, Some, sym, ap, ◌∙◌, subst, inl, inr}
use Rattle.std.specs.Prelude.{IfSome}
use Rattle.std.specs.Map.{lookup}
use Rattle.std.proofs.lemmas.Bool.{cases_Bool}
use Rattle.query_normal.specs.Keys.{key_text, same_key}
use Rattle.query_normal.specs.SameKey.{same_key-Decides}
use Rattle.query_normal.specs.declared.key.KeyShape.{KeyShape}
use Rattle.flat_snapshot.specs.Sight.{mark_of}
use Rattle.client_session.specs.declared.noted.KeyFloor.{KeyFloor}
use Rattle.client_session.specs.Noted.{AreMarked}

-- each key is noted with its mark, and so is one more
pub marked_more : (entries : List (KeyShape × KeyFloor)) (key : KeyShape) (known : KeyFloor) → known.mark ≡ mark_of (key_text key) → AreMarked entries → (other : KeyShape)
    → IfSome (cond (same_key key other) (Some known) (lookup (same_key other) entries)) (λ n. n.mark ≡ mark_of (key_text other))
marked_more entries key known is marked other = elim (cases_Bool (same_key key other)) [
  | inl same ↦
      subst (λ (b : Bool). IfSome (cond b (Some known) (lookup (same_key other) entries)) (λ n. n.mark ≡ mark_of (key_text other))) (sym same)
      (is ∙ ap (λ (k : KeyShape). mark_of (key_text k)) ((same_key-Decides key other).0 same))
  | inr differs ↦
      subst (λ (b : Bool). IfSome (cond b (Some known) (lookup (same_key other) entries)) (λ n. n.mark ≡ mark_of (key_text other))) (sym differs) (marked other)
]
