-- What a connection knows at its beginning of those that were handed back before.
use Rattle.std.proofs.Common.{◌≡◌, ℕ, ◌+◌, ◌<◌, List, [], ◌∷◌, ◌++◌, length, Option, Some, None, IfSome, unwrap_or, refl, sym, subst, arith}
use Rattle.std.specs.List.{enumerate_from}
use Rattle.std.specs.List.Sorted.{IsPermutation}
use Rattle.hub_model.specs.declared.entry.Entry.{Entry}
use Rattle.hub_model.specs.Desk.{IsPrefix}
use Rattle.hub_model.specs.Setting.{Setting}
use Rattle.q_outside.specs.Doors.{Counts}
use Rattle.q_outside.specs.Ends.{End, LastEnd}
use Rattle.quaestor_serve.specs.declared.begun.Begun.{Begun}
use Rattle.quaestor_serve.specs.Visits.{Visit, IsWell, IsKnownTo, AreOrdered}
use Rattle.turnstile.specs.Places.{AllOf}
use Rattle.turnstile.specs.Seats.{seen}
use Rattle.turnstile.proofs.PlaceLemmas.{all_map, all_append}
use Rattle.quaestor_serve.proofs.OrderLemmas.{all_permuted, all_both, numbered_below}
use Rattle.quaestor_serve.proofs.VisitLemmas.{served_ended}

-- how many the doors have given, where they count them
pub count_given : (given : Option ℕ) → IfSome given (λ n. unwrap_or given 0 ≡ n)
count_given None = tt
count_given (Some n) = refl

-- they are those before the first and those that came
pub count_now : (first now : Option ℕ) (size count : ℕ) → size ≡ count → Counts first now size 0 → IfSome now (λ n. unwrap_or first 0 + count ≡ n)
count_now None now size count is counts = subst (λ (o : Option ℕ). IfSome o (λ n. 0 + count ≡ n)) (sym counts) tt
count_now (Some before) now size count is counts =
    let same : before + count ≡ counts.0 = omega (arith, is, counts.2) in
    subst (λ (o : Option ℕ). IfSome o (λ n. before + count ≡ n)) (sym counts.1) same

-- the numbers of those that came are below their count, in whatever order
pub numbers_below : {X : Type 0} (came : List X) (ps : List (ℕ × X)) (count : ℕ) → length came ≡ count → IsPermutation (enumerate_from 0 came) ps → AllOf (λ (p : ℕ × X). p.0 < count) ps
numbers_below {X} came ps count size same = all_permuted (λ (p : ℕ × X). p.0 < count) (enumerate_from 0 came) ps same (numbered_below 0 count came (omega (arith, size)))

module _ {S K : Type 0} (start : ℕ) where
  -- one that is handed back now comes before none of those that came
  pub known_to_none : {Y : Type 0} (visit : Visit S K) (count : ℕ) (number : Y → ℕ) (began : Y → List Entry) (ys : List Y) → start + count ≡ visit.after → AllOf (λ (y : Y). number y < count) ys → AllOf (λ (y : Y). IsKnownTo start visit (number y) (began y)) ys
  known_to_none {Y} visit count number began ys is = all_map (λ (y : Y). number y < count) (λ (y : Y). IsKnownTo start visit (number y) (began y)) (λ y less asked. absurd (omega (arith, is, less, asked))) ys

  -- it is one of those that were handed back
  pub ordered_more : (visits : List (Visit S K)) (visit : Visit S K) → AreOrdered start visits → AllOf (λ v. IsKnownTo start v visit.number visit.began) visits → AllOf (λ (w : Visit S K). IsKnownTo start visit w.number w.began) (visits ++ visit ∷ []) → AreOrdered start (visits ++ visit ∷ [])
  ordered_more visits visit ordered known last =
      let Longer : Visit S K → Type 0 = λ v. AllOf (λ (w : Visit S K). IsKnownTo start v w.number w.began) (visits ++ visit ∷ []) in
      let before : AllOf Longer visits =
      all_both (λ v. AllOf (λ (w : Visit S K). IsKnownTo start v w.number w.began) visits) (λ v. IsKnownTo start v visit.number visit.began) Longer
      (λ v all one. all_append (λ (w : Visit S K). IsKnownTo start v w.number w.began) visits (visit ∷ []) all (one, tt)) visits ordered known in
      all_append Longer visits (visit ∷ []) before (last, tt)

module _ {S K C H : Type 0} (start : ℕ) where
  -- all those that were handed back before one came are known to it
  abbrev pub IsLater : List (Begun S K C H) → Visit S K → Type 0
  IsLater left visit = AllOf (λ b. IsKnownTo start visit b.number.value (seen b.seat.value)) left

  -- the order of those that are left is of no matter
  pub later_permuted : (visits : List (Visit S K)) (old new : List (Begun S K C H)) → IsPermutation old new → AllOf (IsLater old) visits → AllOf (IsLater new) visits
  later_permuted visits old new same = all_map (IsLater old) (IsLater new) (λ v all. all_permuted (λ b. IsKnownTo start v b.number.value (seen b.seat.value)) old new same all) visits

  -- one of them, and the others
  pub later_first : (visits : List (Visit S K)) (b : Begun S K C H) (left : List (Begun S K C H)) → AllOf (IsLater (b ∷ left)) visits → AllOf (λ v. IsKnownTo start v b.number.value (seen b.seat.value)) visits
  later_first visits b left = all_map (IsLater (b ∷ left)) (λ v. IsKnownTo start v b.number.value (seen b.seat.value)) (λ v all. all.0) visits

  pub later_rest : (visits : List (Visit S K)) (b : Begun S K C H) (left : List (Begun S K C H)) → AllOf (IsLater (b ∷ left)) visits → AllOf (IsLater left) visits
  later_rest visits b left = all_map (IsLater (b ∷ left)) (IsLater left) (λ v all. all.1) visits

  -- one more came, which knows all that all of them knew
  pub later_more : (visits : List (Visit S K)) (b : Begun S K C H) (left : List (Begun S K C H)) (history : List Entry) → seen b.seat.value ≡ history → AllOf (λ v. IsPrefix v.ended history) visits → AllOf (IsLater left) visits → AllOf (IsLater (b ∷ left)) visits
  later_more visits b left history is known later =
      all_both (λ v. IsPrefix v.ended history) (IsLater left) (IsLater (b ∷ left)) (λ v ended all. ((λ before. subst (λ (s : List Entry). IsPrefix v.ended s) (sym is) ended), all)) visits known later

-- what was known at the end of each is in the history
pub ends_known : {S K C H : Type 0} (source_at : S → End) (sink_at : K → End) (ended_at : K → LastEnd) (tick : C → ℕ → C → Type 0) (kept : H → ℕ → Type 0) (may : C → Type 0) (tie : H → Type 0) (g : Setting) (history : List Entry) (visits : List (Visit S K)) → AllOf (IsWell source_at sink_at ended_at tick kept may tie g history) visits → AllOf (λ v. IsPrefix v.ended history) visits
ends_known source_at sink_at ended_at tick kept may tie g history visits = all_map (IsWell source_at sink_at ended_at tick kept may tie g history) (λ v. IsPrefix v.ended history) (λ v w. served_ended tick (kept w.2) g history w.0 v.began v.ended _ _ v.own v.served w.4) visits
