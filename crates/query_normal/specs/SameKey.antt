-- Internal. The test of equal keys is equality. The `impl`s of `PartialEq`, `Eq` and `Hash` cite these.
use Rattle.std.specs.Prelude.{◌≡◌, Bool, true, false, ◌&&◌, bytes_eq}
use Rattle.std.specs.Bool.{Decides}
use Rattle.std.specs.Cmp.{IsEquivalence}
use Rattle.std.specs.Hash as fed
use Rattle.std.proofs.Common.{refl, sym, ap, ap₂, ◌∙◌, inl, inr}
use Rattle.std.proofs.lemmas.Bool.{cases_Bool}
use Rattle.std.proofs.lemmas.Slice.Eq.{bytes_eq-Decides}
use Rattle.query_normal.specs.declared.key.KeyShape.{KeyShape}
use Rattle.query_normal.specs.declared.key.KeyShape.TheVariants.{Record, Query}
use Rattle.query_core.specs.declared.query.Kind.{Kind}
use Rattle.query_core.specs.declared.query.Kind.TheVariants.{Objects, Ids}
use Rattle.query_core.specs.Same.{same_query}
use Rattle.query_core.specs.SameLaws.{same_query-Decides}
use Rattle.query_normal.specs.Keys.{key_text, same_kind, same_key}

-- two tests at once
pub both : {P Q : Type 0} (x y : Bool) → Decides x P → Decides y Q → Decides (x && y) (P × Q)
both true true d e = ((λ _. (d.0 refl, e.0 refl)), (λ _. refl))
both true false d e = ((λ h. cc), (λ p. e.1 p.1))
both false y d e = ((λ h. cc), (λ p. d.1 p.0))

-- a test of the parts is a test of the whole
pub decides_whole : {P Q : Type 0} (x : Bool) → Decides x P → (P → Q) → (Q → P) → Decides x Q
decides_whole x d to back = (λ h. to (d.0 h), λ q. d.1 (back q))

pub same_kind-Decides : (a b : Kind) → Decides (same_kind a b) (a ≡ b)
same_kind-Decides Objects Objects = ((λ h. refl), (λ e. refl))
same_kind-Decides Objects Ids = ((λ h. cc), (λ e. cc))
same_kind-Decides Ids Objects = ((λ h. cc), (λ e. cc))
same_kind-Decides Ids Ids = ((λ h. refl), (λ e. refl))

-- `same_key` is equality
pub same_key-Decides : (a b : KeyShape) → Decides (same_key a b) (a ≡ b)
same_key-Decides (Record c i) (Record d j) =
    decides_whole (bytes_eq c d && bytes_eq i j) (both (bytes_eq c d) (bytes_eq i j) (bytes_eq-Decides c d) (bytes_eq-Decides i j))
    (λ e. ap₂ Record e.0 e.1) (λ e. (let h : c ≡ d = cc in h, let h : i ≡ j = cc in h))
same_key-Decides (Query k q) (Query l r) =
    decides_whole (same_kind k l && same_query q r) (both (same_kind k l) (same_query q r) (same_kind-Decides k l) (same_query-Decides q r))
    (λ e. ap₂ Query e.0 e.1) (λ e. (let h : k ≡ l = cc in h, let h : q ≡ r = cc in h))
same_key-Decides (Record c i) (Query k q) = ((λ h. cc), (λ e. cc))
same_key-Decides (Query k q) (Record c i) = ((λ h. cc), (λ e. cc))

-- a test of equality is symmetric
same_back : {X : Type 0} (eq : X → X → Bool) → ((x y : X) → Decides (eq x y) (x ≡ y)) → (x y : X) → eq x y ≡ true → eq y x ≡ true
same_back eq d x y h = (d y x).1 (sym ((d x y).0 h))

-- a test of equality is an equivalence
equiv_from_decides : {X : Type 0} (eq : X → X → Bool) → ((x y : X) → Decides (eq x y) (x ≡ y)) → IsEquivalence eq
equiv_from_decides eq d = record {
  refl = λ x. (d x x).1 refl;
  symm = λ x y. elim (cases_Bool (eq x y)) [
    | inl h ↦ h ∙ sym (same_back eq d x y h)
    | inr h ↦ elim (cases_Bool (eq y x)) [ inl k ↦ (let t = same_back eq d y x k in cc) | inr k ↦ h ∙ sym k ]
  ];
  congr = λ x y z h. ap (λ k. eq k z) ((d x y).0 h);
}

-- so `same_key` is an equivalence
pub same_key_equiv : IsEquivalence same_key
same_key_equiv = equiv_from_decides same_key same_key-Decides

-- equal keys have one text, so they are hashed alike
pub same_text : (a b : KeyShape) → same_key a b ≡ true → fed.slice fed.u8 (key_text a) ≡ fed.slice fed.u8 (key_text b)
same_text a b h = ap (λ k. fed.slice fed.u8 (key_text k)) ((same_key-Decides a b).0 h)
