-- What any list of calls leaves.
use Rattle.std.proofs.Common.{◌≡◌, ℕ, ◌+◌, ◌-◌, Bool, true, false, ◌&&◌, List, [], ◌∷◌, ◌++◌, length, drop, Option, Some, None, option_map, unwrap_or, cond, bytes_eq, refl, sym, ap, ap₂, ◌∙◌, arith, inl, inr}
use Rattle.std.proofs.lemmas.Bool.{cases_Bool}
use Rattle.std.proofs.lemmas.List.{drop-append-le, length-append, length-drop, drop-drop}
use Rattle.std.proofs.lemmas.Slice.Eq.{bytes_eq-Decides}
use Rattle.query_normal.specs.declared.key.KeyShape.{KeyShape}
use Rattle.query_normal.specs.Keys.{same_key}
use Rattle.ttl_estimator.specs.declared.limits.Limits.{Limits}
use Rattle.ttl_estimator.specs.declared.estimates.Kept.{Kept}
use Rattle.ttl_estimator.specs.Calls.{Call, write, issue, purge, idle, room, EndsAs, estimate_after, write_clocks}
use Rattle.ttl_estimator.specs.Estimates.{after_issue, after_purge, kept_of}
use Rattle.ttl_estimator.specs.Estimator.{Estimated, rate_of}
use Rattle.ttl_estimator.specs.Rates.{last_eight, rate_at}
use Rattle.ttl_estimator.specs.Records.{IsKeptOrNew, clocks_of, entry_of}

-- an entry that is as it was or new has the same clocks
same_clocks : (old new : Option (List ℕ)) → IsKeptOrNew old new → unwrap_or new [] ≡ unwrap_or old []
same_clocks old new (inl same) = ap (λ (o : Option (List ℕ)). unwrap_or o []) same
same_clocks old new (inr added) = ap (λ (o : Option (List ℕ)). unwrap_or o []) added.1 ∙ sym (ap (λ (o : Option (List ℕ)). unwrap_or o []) added.0)

pub limits_end : (g : Limits) (calls : List Call) (after : Estimated) → EndsAs g calls after → after.limits ≡ g
limits_end g [] after ends = ap (λ (e : Estimated). e.limits) ends
limits_end g (write c i clock ∷ calls) after (before, ends, follows) = ap (λ (e : Estimated). e.limits) follows.0 ∙ limits_end g calls before ends
limits_end g (issue key ttl clock ∷ calls) after (before, ends, follows) = ap (λ (e : Estimated). e.limits) follows.0 ∙ limits_end g calls before ends
limits_end g (purge key clock ∷ calls) after (before, ends, follows) = ap (λ (e : Estimated). e.limits) follows.0 ∙ limits_end g calls before ends
limits_end g (idle key ∷ calls) after (before, ends, follows) = ap (λ (e : Estimated). e.limits) follows.0 ∙ limits_end g calls before ends
limits_end g (room ∷ calls) after (before, ends, follows) = follows.0 ∙ limits_end g calls before ends

-- one clock more behind the last eight, or behind all
last_again : (clocks : List ℕ) (clock : ℕ) → last_eight (last_eight clocks ++ clock ∷ []) ≡ last_eight (clocks ++ clock ∷ [])
last_again clocks clock =
    let n = length clocks - 8 in
    let joined : last_eight clocks ++ clock ∷ [] ≡ drop n (clocks ++ clock ∷ []) = sym (drop-append-le n clocks (clock ∷ []) (omega arith)) in
    let size = length-append clocks (clock ∷ []) in
    let left = length-drop n (clocks ++ clock ∷ []) in
    let m = length (drop n (clocks ++ clock ∷ [])) - 8 in
    let both : n + m ≡ length (clocks ++ clock ∷ []) - 8 = omega (arith, size, left) in
    ap last_eight joined
    ∙ drop-drop m n (clocks ++ clock ∷ [])
    ∙ ap (λ (k : ℕ). drop k (clocks ++ clock ∷ [])) both

both_true : (a b : Bool) → (a && b) ≡ true → (a ≡ true) × (b ≡ true)
both_true true b h = (refl, h)
both_true false b h = absurd (cc)

-- the clocks that an entry holds
abbrev clocks : Option (List ℕ) → List ℕ
clocks entry = unwrap_or entry []

clocks_end : (g : Limits) (calls : List Call) (after : Estimated) (collection id : List ℕ) → EndsAs g calls after → clocks_of after.records collection id ≡ last_eight (write_clocks calls collection id)
clocks_end g [] after collection id ends = ap (λ (e : Estimated). clocks_of e.records collection id) ends
clocks_end g (write c i clock ∷ calls) after collection id (before, ends, follows) =
    elim (cases_Bool (bytes_eq c collection && bytes_eq i id)) [
      | inl hit ↦ (
          let both = both_true (bytes_eq c collection) (bytes_eq i id) hit in
          let own : c ≡ collection = (bytes_eq-Decides c collection).0 both.0 in
          let same : i ≡ id = (bytes_eq-Decides i id).0 both.1 in
          ap clocks (follows.1 collection id)
          ∙ ap (λ (b : Bool). clocks (cond b (Some (last_eight (clocks_of before.records c i ++ clock ∷ []))) (entry_of before.records collection id))) hit
          ∙ ap₂ (λ (x y : List ℕ). last_eight (clocks_of before.records x y ++ clock ∷ [])) own same
          ∙ ap (λ (xs : List ℕ). last_eight (xs ++ clock ∷ [])) (clocks_end g calls before collection id ends)
          ∙ last_again (write_clocks calls collection id) clock
          ∙ sym (ap (λ (b : Bool). last_eight (cond b (write_clocks calls collection id ++ clock ∷ []) (write_clocks calls collection id))) hit))
      | inr miss ↦ (
          ap clocks (follows.1 collection id)
          ∙ ap (λ (b : Bool). clocks (cond b (Some (last_eight (clocks_of before.records c i ++ clock ∷ []))) (entry_of before.records collection id))) miss
          ∙ clocks_end g calls before collection id ends
          ∙ sym (ap (λ (b : Bool). last_eight (cond b (write_clocks calls collection id ++ clock ∷ []) (write_clocks calls collection id))) miss))
    ]
clocks_end g (issue key ttl clock ∷ calls) after collection id (before, ends, follows) = ap (λ (e : Estimated). clocks_of e.records collection id) follows.0 ∙ clocks_end g calls before collection id ends
clocks_end g (purge key clock ∷ calls) after collection id (before, ends, follows) = ap (λ (e : Estimated). clocks_of e.records collection id) follows.0 ∙ clocks_end g calls before collection id ends
clocks_end g (idle key ∷ calls) after collection id (before, ends, follows) = ap (λ (e : Estimated). clocks_of e.records collection id) follows.0 ∙ clocks_end g calls before collection id ends
clocks_end g (room ∷ calls) after collection id (before, ends, follows) =
    same_clocks (entry_of before.records collection id) (entry_of after.records collection id) (follows.1 collection id) ∙ clocks_end g calls before collection id ends

pub rates_end : (g : Limits) (calls : List Call) (after : Estimated) (now : ℕ) (collection id : List ℕ) → EndsAs g calls after → rate_of after now collection id ≡ rate_at now (last_eight (write_clocks calls collection id))
rates_end g calls after now collection id ends = ap (rate_at now) (clocks_end g calls after collection id ends)

pub estimates_end : (g : Limits) (calls : List Call) (after : Estimated) (key : KeyShape) → EndsAs g calls after → kept_of after.keys key ≡ estimate_after g calls key
estimates_end g [] after key ends = ap (λ (e : Estimated). kept_of e.keys key) ends
estimates_end g (write c i clock ∷ calls) after key (before, ends, follows) = ap (λ (e : Estimated). kept_of e.keys key) follows.0 ∙ estimates_end g calls before key ends
estimates_end g (issue other ttl clock ∷ calls) after key (before, ends, follows) =
    follows.1 key
    ∙ ap₂ (λ (own kept : Option Kept). cond (same_key other key) (Some (after_issue ttl clock own)) kept) (estimates_end g calls before other ends) (estimates_end g calls before key ends)
estimates_end g (purge other clock ∷ calls) after key (before, ends, follows) =
    follows.1 key
    ∙ ap (λ (l : Limits). cond (same_key other key) (option_map (after_purge l clock) (kept_of before.keys other)) (kept_of before.keys key)) (limits_end g calls before ends)
    ∙ ap₂ (λ (own kept : Option Kept). cond (same_key other key) (option_map (after_purge g clock) own) kept) (estimates_end g calls before other ends) (estimates_end g calls before key ends)
estimates_end g (idle other ∷ calls) after key (before, ends, follows) =
    follows.1 key ∙ ap (λ (kept : Option Kept). cond (same_key other key) None kept) (estimates_end g calls before key ends)
estimates_end g (room ∷ calls) after key (before, ends, follows) = follows.2 key ∙ estimates_end g calls before key ends
