-- a key goes from those that are left to those that are numbered
use Rattle.std.proofs.Common.{◌≡◌, ◌++◌, ℕ, List, [], ◌∷◌, length, map, append_assoc, append-nil, refl, ap, ◌∙◌, sym, arith}
use Rattle.std.specs.Vec.Iter.{into_iter_items}
use Rattle.query_normal.specs.Keys.{key_text}
use Rattle.query_normal.specs.declared.key.KeyShape.{KeyShape}
use Rattle.purge_list.specs.Purged.{Purged}
use Rattle.hub_core.proofs.lifetimes.push_all.Goals as goal

none_left : {A : Type 0} (xs : List A) → length xs ≡ 0 → xs ≡ []
none_left [] e = refl
none_left (x ∷ xs) e = absurd (omega arith)

pub push-requires : goal.push-requires
push-requires c = omega (arith, c.loop-key.invariant.room, ap length c.in-Some.ensures.steps.0)

pub loop-key-preserved : goal.loop-key-preserved
loop-key-preserved c =
    let l = c.loop-key in
    let left = into_iter_items c.next.new.self in
    let taken = c.in-Some.ensures.steps.0 in
    let texts : c.push.new.self.texts ≡ l.purges.texts ++ key_text c.in-Some.key ∷ [] = ap (λ (p : Purged). p.texts) c.push.ensures in
    let spare = ap (λ (p : Purged). p.spare) c.push.ensures in
    record {
      done =
          ap (λ (ts : List (List ℕ)). ts ++ map key_text left) texts
          ∙ append_assoc l.purges.texts (key_text c.in-Some.key ∷ []) (map key_text left)
          ∙ ap (λ (ks : List KeyShape). l.purges.texts ++ map key_text ks) (sym taken)
          ∙ l.invariant.done;
      room = omega (arith, l.invariant.room, spare, ap length taken);
      length = omega (arith, c.in-Some.ensures.steps.1, ap length taken);
    }

-- none is left
pub returns : goal.returns
returns c =
    let l = c.loop-key in
    let none : into_iter_items l.key-iterator ≡ [] = none_left (into_iter_items l.key-iterator) (sym l.invariant.length ∙ c.in-None.ensures.steps.0) in
    sym (append-nil l.purges.texts) ∙ ap (λ (ks : List KeyShape). l.purges.texts ++ map key_text ks) (sym none) ∙ l.invariant.done
