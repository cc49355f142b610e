-- Where one seat has all levels that were split off, no other seat is left.
use Rattle.std.proofs.Common.{◌≡◌, ◌≢◌, ℕ, zero, suc, ◌<◌, List, [], ◌∷◌, ◌++◌, length, set, Option, Some, None, refl, sym, ap, ◌∙◌, subst, ⊎_elim, arith, length-append}
use mathlib.Core.Option.{some}
use lib.ListN.{get_elem?}
use Rattle.atomic_table.proofs.Lists.{at_set, set_else}
use Rattle.turnstile.specs.declared.view.View.{View}
use Rattle.turnstile.specs.Levels.{total, occurs, level_of, Lineage}
use Rattle.turnstile.specs.Views.{spent_view}
use Rattle.turnstile.specs.Rule.{claims, IsDoneIfSpent, AreClaimed, AreDescended, HasAllSeats, IsWhole}
use Rattle.turnstile.proofs.Totals.{total_set, total_at, total_none, occurs_append, occurs_first, occurs_behind}

own_joined : (ls ms : List ℕ) → 0 < occurs (level_of ls) ls → 0 < occurs (level_of (ls ++ ms)) (ls ++ ms)
own_joined [] ms own = absurd (omega (arith, own))
own_joined (x ∷ ls) ms own = omega (arith, occurs_append x (x ∷ ls) ms, own)

module _ {K : Type 0} where
  pub no_setting : (o : Option K) → ((k : K) → o ≢ Some k) → o ≡ None
  no_setting None f = refl
  no_setting (Some k) f = absurd (f k refl)

  pub lineage_first : (key : K) → Lineage (Some key) (0 ∷ []) []
  lineage_first key = record { own = λ k given. occurs_first 0 []; above = refl; next = λ n none. refl }

  pub lineage_right : (setting : Option K) (level : ℕ) → Lineage setting (suc level ∷ []) []
  lineage_right setting level = record { own = λ k given. occurs_first (suc level) []; above = refl; next = λ n none. refl }

  pub lineage_spent : Lineage {K = K} None [] []
  lineage_spent = record { own = λ k given. absurd cc; above = refl; next = λ n none. refl }

  pub lineage_left : (setting : Option K) (key : K) (levels children : List ℕ) → setting ≡ Some key → Lineage setting levels children → Lineage setting levels (suc (level_of levels) ∷ children)
  lineage_left setting key levels children given r = let level : ℕ = level_of levels in record {
    own = r.own;
    above = occurs_behind 0 (suc level) children (λ e. omega (arith, e)) ∙ r.above;
    next = λ n none. occurs_behind (suc n) (suc level) children (λ e. (let is : n ≡ level = omega (arith, e) in
        let here : occurs level levels ≡ 0 = subst (λ m. occurs m levels ≡ 0) is none in omega (arith, here, r.own key given))) ∙ r.next n none;
  }

  pub lineage_both : (setting other : Option K) (ls ms cs ds : List ℕ) → Lineage setting ls cs → Lineage other ms ds → Lineage setting (ls ++ ms) (cs ++ ds)
  lineage_both setting other ls ms cs ds a b = record {
    own = λ k given. own_joined ls ms (a.own k given);
    above = omega (arith, occurs_append 0 cs ds, a.above, b.above);
    next = λ n none. (let both = occurs_append n ls ms in
        omega (arith, occurs_append (suc n) cs ds, a.next n (omega (arith, both, none)), b.next n (omega (arith, both, none))));
  }

module _ {E K : Type 0} (views : List (View E K)) (id : ℕ) (v : View E K) (at : get_elem? views id ≡ some v) (descended : AreDescended views) (lines : (j : ℕ) (w : View E K) → get_elem? views j ≡ some w → Lineage w.setting w.levels w.children) (all : HasAllSeats v) where
  abbrev others : List (View E K)
  others = set views id spent_view

  other_line : (j : ℕ) (w : View E K) → get_elem? others j ≡ some w → Lineage w.setting w.levels w.children
  other_line j w here = ⊎_elim (λ (t : (j ≡ id) × (spent_view ≡ w)). subst (λ (x : View E K). Lineage x.setting x.levels x.children) t.1 lineage_spent)
      (λ (t : (j ≢ id) × (get_elem? views j ≡ some w)). lines j w t.1) (at_set views id j spent_view w here)

  abbrev levels_left : ℕ → View E K → ℕ
  levels_left n w = occurs n w.levels

  abbrev children_left : ℕ → View E K → ℕ
  children_left n w = occurs n w.children

  balance : (n : ℕ) → total (levels_left n) others ≡ total (children_left n) others
  balance n = omega (arith, total_set (levels_left n) views id v spent_view at, total_set (children_left n) views id v spent_view at, descended n, all n)

  none_left : (n : ℕ) → total (levels_left n) others ≡ 0
  none_left zero = balance 0 ∙ total_none (children_left 0) others (λ j w here. (other_line j w here).above)
  none_left (suc n) = balance (suc n) ∙ total_none (children_left (suc n)) others (λ j w here. (other_line j w here).next n (omega (arith, total_at (levels_left n) others j w here, none_left n)))

  pub others_spent : (j : ℕ) (w : View E K) → j ≢ id → get_elem? views j ≡ some w → w.setting ≡ None
  others_spent j w ne here = let other : get_elem? others j ≡ some w = set_else views id j spent_view ne ∙ here in
      no_setting w.setting (λ k given. omega (arith, (lines j w here).own k given, total_at (levels_left (level_of w.levels)) others j w other, none_left (level_of w.levels)))

  -- then the history has no entries but those of this seat
  pub only_whole : (history : List E) → AreClaimed history views → ((j : ℕ) (w : View E K) → get_elem? views j ≡ some w → IsDoneIfSpent w) → IsWhole history v
  only_whole history claimed done =
      let size : View E K → ℕ = λ w. length (claims w) in
      let none : total size others ≡ 0 = total_none size others (λ j w here. ⊎_elim (λ (t : (j ≡ id) × (spent_view ≡ w)). ap size (sym t.1))
      (λ (t : (j ≢ id) × (get_elem? views j ≡ some w)). ap length (done j w t.1 (others_spent j w t.0 t.1)).0) (at_set views id j spent_view w here)) in
      omega (arith, claimed, total_set size views id v spent_view at, none, length-append v.mine v.met)
