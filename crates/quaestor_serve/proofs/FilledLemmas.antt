-- What filling a store leaves: its entries are the first of the history, in their order.
use Rattle.std.proofs.Common.{◌≡◌, ℕ, suc, ◌+◌, ◌<◌, ◌≤◌, List, [], ◌∷◌, ◌++◌, length, Bool, true, false, Some, slice_get, flat_map, Result, Ok, Err, OnOk, refl, sym, ap, ◌∙◌, subst, arith, append-nil, append_assoc, length-append}
use Rattle.std.specs.List.{enumerate_from}
use Rattle.commit_book.specs.declared.change.Change.{Change}
use Rattle.hub_desk.specs.HubValue.{hub_setting}
use Rattle.hub_model.specs.declared.entry.Entry.{Entry}
use Rattle.hub_model.specs.Desk.{IsPrefix}
use Rattle.kept_desk.specs.Filling.{Fills, IsFilling, Writes, written_by, writes_in}
use Rattle.kept_desk.proofs.FillLemmas.{numbered_writes}
use Rattle.quaestor_serve.specs.Filled.{HasFilledAt}
use Rattle.quaestor_serve.specs.Kept.{HubTurnstile, HubSeat, IsFreshAt, setting_at}
use Rattle.turnstile.specs.Places.{AllOf, AreAt, Increasing}
use Rattle.turnstile.specs.Rule.{Sound, IsWhole}
use Rattle.turnstile.specs.Seats.{IsSeatOf, IsIdle, IsSame, IsAlone, HasOut, seen, mine, met}
use Rattle.turnstile.specs.Views.{after_join, after_observe, with_seen}
use Rattle.turnstile.proofs.PlaceLemmas.{all_map, stand_below}
use Rattle.quaestor_serve.proofs.KeptLemmas.{parts, part_stays}

-- ---- entries that are the first of a history

module _ {E : Type 0} where
  -- so many positions that rise fit between two numbers
  fits : (ps : List (ℕ × E)) (a b : ℕ) → Increasing ps → AllOf (λ (p : ℕ × E). a ≤ p.0) ps → AllOf (λ (p : ℕ × E). p.0 < b) ps → a ≤ b → a + length ps ≤ b
  fits [] a b rise from below least = omega (arith, least)
  fits (p ∷ ps) a b rise from below least =
      let start : a ≤ p.0 = from.0 in
      let under : p.0 < b = below.0 in
      let later : AllOf (λ (q : ℕ × E). p.0 + 1 ≤ q.0) ps = all_map (λ (q : ℕ × E). p.0 < q.0) (λ (q : ℕ × E). p.0 + 1 ≤ q.0) (λ q less. omega (arith, less)) ps rise.0 in
      let rest : (p.0 + 1) + length ps ≤ b = fits ps (p.0 + 1) b rise.1 later below.1 (omega (arith, under)) in
      omega (arith, rest, start)

  -- the entry at the end of a beginning
  middle : (pre : List E) (x : E) (h : List E) → slice_get (pre ++ x ∷ h) (length pre) ≡ Some x
  middle [] x h = refl
  middle (y ∷ pre) x h = middle pre x h

  -- entries at positions that rise, as many as a history has behind a beginning, are all of them
  numbered_at : (pre h : List E) (ps : List (ℕ × E)) → Increasing ps → AllOf (λ (p : ℕ × E). length pre ≤ p.0) ps → AreAt (pre ++ h) ps → length ps ≡ length h → ps ≡ enumerate_from (length pre) h
  numbered_at pre [] [] rise from at size = refl
  numbered_at pre [] (p ∷ ps) rise from at size = absurd (omega (arith, size))
  numbered_at pre (x ∷ h) [] rise from at size = absurd (omega (arith, size))
  numbered_at pre (x ∷ h) (p ∷ ps) rise from at size =
      let whole : (pre ++ x ∷ []) ++ h ≡ pre ++ x ∷ h = append_assoc pre (x ∷ []) h in
      let long : length (pre ++ x ∷ []) ≡ length pre + 1 = length-append pre (x ∷ []) in
      let all : length (pre ++ x ∷ h) ≡ length pre + length (x ∷ h) = length-append pre (x ∷ h) in
      let below : AllOf (λ (q : ℕ × E). q.0 < length (pre ++ x ∷ h)) (p ∷ ps) = stand_below (pre ++ x ∷ h) (p ∷ ps) at in
      let under : p.0 < length (pre ++ x ∷ h) = below.0 in
      let start : length pre ≤ p.0 = from.0 in
      let later : AllOf (λ (q : ℕ × E). p.0 + 1 ≤ q.0) ps = all_map (λ (q : ℕ × E). p.0 < q.0) (λ (q : ℕ × E). p.0 + 1 ≤ q.0) (λ q less. omega (arith, less)) ps rise.0 in
      let few : (p.0 + 1) + length ps ≤ length (pre ++ x ∷ h) = fits ps (p.0 + 1) (length (pre ++ x ∷ h)) rise.1 later below.1 (omega (arith, under)) in
      let there : p.0 ≡ length pre = omega (arith, few, all, size, start) in
      let found : Some p.1 ≡ Some x = sym at.0 ∙ ap (λ (n : ℕ). slice_get (pre ++ x ∷ h) n) there ∙ middle pre x h in
      let same : p.1 ≡ x = cc (found) in
      let behind : AllOf (λ (q : ℕ × E). length (pre ++ x ∷ []) ≤ q.0) ps = all_map (λ (q : ℕ × E). p.0 + 1 ≤ q.0) (λ (q : ℕ × E). length (pre ++ x ∷ []) ≤ q.0) (λ q less. omega (arith, less, long, there)) ps later in
      let rest : ps ≡ enumerate_from (length pre + 1) h =
      subst (λ (n : ℕ). ps ≡ enumerate_from n h) long (numbered_at (pre ++ x ∷ []) h ps rise.1 behind (subst (λ (l : List E). AreAt l ps) (sym whole) at.1) (omega (arith, size))) in
      (λ i. (there i, same i) ∷ rest i)

  from_none : (ps : List (ℕ × E)) → AllOf (λ (p : ℕ × E). 0 ≤ p.0) ps
  from_none [] = tt
  from_none (p ∷ ps) = (omega arith, from_none ps)

  -- so they are those of a whole history
  pub numbered_whole : (h : List E) (ps : List (ℕ × E)) → Increasing ps → AreAt h ps → length h ≡ length ps → ps ≡ enumerate_from 0 h
  numbered_whole h ps rise at size = numbered_at [] h ps rise (from_none ps) at (sym size)

  -- what stands behind the first entry of a history
  shift_at : (y : E) (h xs : List E) (n : ℕ) → AreAt (y ∷ h) (enumerate_from (n + 1) xs) → AreAt h (enumerate_from n xs)
  shift_at y h [] n at = tt
  shift_at y h (x ∷ xs) n at =
      let next : n + 1 ≡ suc n = omega arith in
      let first : slice_get (y ∷ h) (suc n) ≡ Some x = subst (λ (k : ℕ). slice_get (y ∷ h) k ≡ Some x) next at.0 in
      (first, shift_at y h xs (n + 1) at.1)

  -- a history that has entries at the first positions begins with them
  pub at_prefix : (h xs : List E) → AreAt h (enumerate_from 0 xs) → IsPrefix xs h
  at_prefix h [] at = (h, refl)
  at_prefix [] (x ∷ xs) at = absurd (cc (at.0))
  at_prefix (y ∷ h) (x ∷ xs) at =
      let found : Some y ≡ Some x = at.0 in
      let same : y ≡ x = cc (found) in
      let rest : IsPrefix xs h = at_prefix h xs (shift_at y h xs 0 at.1) in
      (rest.0, ap (λ (l : List E). x ∷ l) rest.1 ∙ ap (λ (z : E). z ∷ h) (sym same))

-- ---- a seat at which a store was filled

-- a desk has filled the store, and then its seat saw the history; `turn_before` and `before` are the turnstile and the seat of the desk at first, `turn_after` and `after` at last
pub filled_after : (turnstile turn_before turn_after : HubTurnstile) (seat before after left last : HubSeat) → turn_before ≡ turnstile → before ≡ seat → turn_after ≡ turn_before → met after ≡ met before → parts after ≡ parts before → left ≡ after → IsSeatOf hub_setting turn_after left → IsIdle left
    → IsFreshAt turnstile seat → Fills (setting_at turn_before) (seen before) (seen after) (mine before) (mine after) → IsSame left last → last.me ≡ (with_seen (seen last) left.me.0, left.me.1) → Sound (seen last) last.me.0 → HasFilledAt turnstile last
filled_after turnstile turn_before turn_after seat before after left last at here same met_same parts_same left_is own idle fresh fills alike view sound =
    let there : IsSeatOf hub_setting turnstile left = subst (λ (t : HubTurnstile). IsSeatOf hub_setting t left) (same ∙ at) own in
    let none : mine before ≡ [] = ap mine here ∙ fresh.mine in
    let mine_is : mine last ≡ fills.entries = ap (λ m. m.0.mine) view ∙ ap mine left_is ∙ fills.mine ∙ ap (λ (l : List (ℕ × Entry)). l ++ fills.entries) none in
    record {
      own = (alike.0 ∙ there.0, alike.2 ∙ there.1);
      idle = (ap (λ m. m.0.phase) view ∙ ap (λ p. after_observe p) idle.0, ap (λ m. m.1) view ∙ idle.1);
      met = ap (λ m. m.0.met) view ∙ ap met left_is ∙ met_same ∙ ap met here ∙ fresh.met;
      part = part_stays seat last (ap (λ m. (m.0.levels, m.0.children)) view ∙ ap parts left_is ∙ parts_same ∙ ap parts here) fresh.part;
      filling = subst (λ (ps : List (ℕ × Entry)). AllOf (λ (own : ℕ × Entry). IsFilling own.1) ps) (sym mine_is) fills.filling;
      rises = sound.rises;
    }

-- its entries write what was kept
pub written_after : {X E : Type 0} (r : Result X E) (kept : List (ℕ × Change) → Type 0) (before after last : List (ℕ × Entry)) → before ≡ [] → last ≡ after → OnOk r ((changes : List (ℕ × Change)) × kept changes × Writes before after changes) → OnOk r (kept (writes_in last))
written_after (Ok x) kept before after last none is found =
    let wrote : writes_in after ≡ found.0 = found.2 ∙ ap (λ (l : List (ℕ × Entry)). writes_in l ++ found.0) none in
    subst kept (sym (ap (λ (l : List (ℕ × Entry)). writes_in l) is ∙ wrote)) found.1
written_after (Err e) kept before after last none is found = tt

-- ---- the main seat, to which it was joined

-- the main seat has met the entries of the seat that was joined, which are all of the history; `parted` is the main seat behind the split
pub met_whole : (main parted other new : HubSeat) → mine main ≡ [] → met main ≡ [] → mine parted ≡ mine main → met parted ≡ met main → met other ≡ [] → Increasing (mine other) → new.me ≡ (with_seen (seen new) (after_join parted.me.0 other.me.0), parted.me.1)
    → HasOut 0 new → (HasOut 0 new → IsAlone new) → (IsAlone new → IsWhole (seen new) new.me.0) → Sound (seen new) new.me.0 → (met new ≡ mine other) × (mine other ≡ enumerate_from 0 (seen new))
met_whole main parted other new mine_none met_none mine_same met_same other_none rises view out alone whole sound =
    let own : met new ≡ mine other =
    ap (λ m. m.0.met) view ∙ ap (λ (l : List (ℕ × Entry)). l ++ (mine other ++ met other)) (met_same ∙ met_none) ∙ ap (λ (l : List (ℕ × Entry)). mine other ++ l) other_none ∙ append-nil (mine other) in
    let none : length (mine new) ≡ 0 = ap (λ m. length m.0.mine) view ∙ ap length (mine_same ∙ mine_none) in
    let all : length (seen new) ≡ length (mine new) + length (met new) = whole (alone out) in
    let many : length (met new) ≡ length (mine other) = ap length own in
    let stand : AreAt (seen new) (mine other) = subst (λ (ps : List (ℕ × Entry)). AreAt (seen new) ps) own sound.met_stand in
    (own, numbered_whole (seen new) (mine other) rises stand (omega (arith, all, none, many)))

-- and they write what was kept
pub all_written : {X E : Type 0} (r : Result X E) (kept : List (ℕ × Change) → Type 0) (es : List Entry) (own : List (ℕ × Entry)) → own ≡ enumerate_from 0 es → OnOk r (kept (writes_in own)) → OnOk r (kept (flat_map written_by es))
all_written (Ok x) kept es own is wrote = subst kept (ap (λ (l : List (ℕ × Entry)). writes_in l) is ∙ numbered_writes 0 es) wrote
all_written (Err e) kept es own is wrote = tt

-- where there are none the history is empty
pub none_numbered : {E : Type 0} (es : List E) (own : List (ℕ × E)) → own ≡ enumerate_from 0 es → own ≡ [] → es ≡ []
none_numbered [] own is none = refl
none_numbered (e ∷ es) own is none = absurd (let size : length (enumerate_from 0 (e ∷ es)) ≡ 0 = ap length (sym is ∙ none) in omega (arith, size))

-- who may fail only where commits are to be kept does not where they are not
pub never_fails : (fails keeps : Bool) → (fails ≡ true → keeps ≡ true) → keeps ≡ false → fails ≡ false
never_fails false keeps only not = refl
never_fails true keeps only not = absurd (let both : true ≡ false = sym (only refl) ∙ not in cc (both))
