-- The record, its keys, and what reads and writes leave of it.
use Rattle.std.proofs.Common.{◌↔◌, Contains, ◌≡◌, ℕ, zero, suc, ◌≤◌, Bool, true, false, cond, not, ◌&&◌, ◌||◌, List, [], ◌∷◌, ◌++◌, map, filter, length, refl, sym, ap, ap₂, ◌∙◌, subst, inl, inr, arith, append-nil}
use Rattle.std.specs.Prelude.{nat_lt, ◌^◌}
use Rattle.std.specs.List.{list_any, IsDistinct, range_with_len}
use Rattle.std.specs.List.Sorted.{IsPermutation}
use Rattle.std.proofs.lemmas.Bool.{le-ltb, cases_lt, and_left}
use Rattle.std.proofs.lemmas.List.Elements.{filter-append}
use Rattle.std.proofs.lemmas.List.Sorted.{sum_by-IsPermutation, length_permutation}
use Rattle.std.proofs.lemmas.Map.Made.{is_member-Decides}
use Rattle.query_normal.specs.declared.key.KeyShape.{KeyShape}
use Rattle.query_normal.specs.Keys.{same_key}
use Rattle.query_normal.specs.SameKey.{same_key-Decides}
use Rattle.commit_book.specs.declared.change.Change.{Change}
use Rattle.hub_model.specs.declared.entry.Condition.{Condition}
use Rattle.hub_model.specs.declared.entry.Entry.{Entry}
use Rattle.hub_model.specs.declared.entry.Entry.TheVariants.{Write, Read, Tick, Horizon}
use Rattle.hub_model.specs.declared.entry.Tags.{Tags}
use Rattle.hub_model.specs.Copies.{IsActive, issues, live, some_copy, active_keys, is_active}
use Rattle.hub_model.specs.Journal.{result_at, same_finding}
use Rattle.hub_model.specs.Legal.{IsLegal}
use Rattle.hub_model.specs.Outdated.{IsOutdated, is_outdated}
use Rattle.hub_model.specs.Record.{count_among, IsRecorded, is_outdated_in, is_recorded, record_of, outdated_copies, bits_of}
use Rattle.hub_model.specs.Setting.{Setting}
use Rattle.hub_model.specs.State.{IssuedCopy, State, at_moment}
use Rattle.hub_model.specs.Step.{after, copy_of_read, has_read, state_of}
use Rattle.hub_model.specs.Until.{until_among, until_of_outdated}
use Rattle.hub_model.proofs.Accepted.{wrote-keeps}
use Rattle.hub_model.proofs.Copies.{any_from, found_by, live-parts, live-from, copy-parts, copy-from, among-keys_of, distinct-keys_of}
use Rattle.hub_model.proofs.Histories.{state_of-push, legal-parts, front-within}
use Rattle.hub_model.proofs.KeySets.{among-filter, distinct-filter, same_keys-permute}
use Rattle.hub_model.proofs.Results.{outdated-from_test, test-from_outdated, result_at-append}

-- ---- active keys

pub active-from_test : (s : State) (key : KeyShape) → is_active s key ≡ true → IsActive s key
active-from_test s key h =
    let f = found_by (λ r. same_key key r.key) (live s) h in
    let l = live-parts s f.0 f.1 in
    record { copy = f.0; among = l.0; key_is = sym ((same_key-Decides key f.0.key).0 f.2); issued = l.1; unexpired = l.2 }

pub test-from_active : (s : State) (key : KeyShape) → IsActive s key → is_active s key ≡ true
test-from_active s key a = any_from (λ r. same_key key r.key) (live s) a.copy (live-from s a.copy a.among a.issued a.unexpired) ((same_key-Decides key a.copy.key).1 (sym a.key_is))

pub among-active : (s : State) (key : KeyShape) → list_any (same_key key) (active_keys s) ≡ is_active s key
among-active s key = among-keys_of key (live s)

pub distinct-active : (s : State) → IsDistinct same_key (active_keys s)
distinct-active s = distinct-keys_of (live s)

-- ---- recorded keys

pub recorded-from_test : (s : State) (key : KeyShape) → is_recorded s key ≡ true → IsRecorded s key
recorded-from_test s key h =
    let f = copy-parts key (is_outdated_in s) (live s) h in
    let l = live-parts s f.0 f.1 in
    record { copy = f.0; among = l.0; key_is = f.2; issued = l.1; unexpired = l.2; outdated = subst (λ (k : KeyShape). IsOutdated k f.0.at s.journal s.front) f.2 (outdated-from_test f.0.key f.0.at s.journal s.front f.3) }

pub test-from_recorded : (s : State) (key : KeyShape) → IsRecorded s key → is_recorded s key ≡ true
test-from_recorded s key a = copy-from key (is_outdated_in s) (live s) a.copy (live-from s a.copy a.among a.issued a.unexpired) a.key_is
    (test-from_outdated a.copy.key a.copy.at s.journal s.front (subst (λ (k : KeyShape). IsOutdated k a.copy.at s.journal s.front) (sym a.key_is) a.outdated))

-- a recorded key is active
recorded_active : (s : State) (key : KeyShape) → is_recorded s key ≡ true → is_active s key ≡ true
recorded_active s key h = let r = recorded-from_test s key h in test-from_active s key (record { copy = r.copy; among = r.among; key_is = r.key_is; issued = r.issued; unexpired = r.unexpired })

both_by : (a b : Bool) → (b ≡ true → a ≡ true) → (a && b) ≡ b
both_by true b h = refl
both_by false true h = h refl
both_by false false h = refl

pub among-record : (s : State) (key : KeyShape) → list_any (same_key key) (record_of s) ≡ is_recorded s key
among-record s key = among-filter (is_recorded s) (active_keys s) key ∙ ap (λ (b : Bool). b && is_recorded s key) (among-active s key) ∙ both_by (is_active s key) (is_recorded s key) (recorded_active s key)

pub distinct-record : (s : State) → IsDistinct same_key (record_of s)
distinct-record s = distinct-filter (is_recorded s) (active_keys s) (distinct-active s)

pub active-listed : (s : State) (key : KeyShape) → Contains (active_keys s) key ↔ IsActive s key
active-listed s key =
    let listed = is_member-Decides same_key-Decides (active_keys s) key in
    ((λ h. active-from_test s key (sym (among-active s key) ∙ listed.1 h)), λ h. listed.0 (among-active s key ∙ test-from_active s key h))

pub record-listed : (s : State) (key : KeyShape) → Contains (record_of s) key ↔ IsRecorded s key
record-listed s key =
    let listed = is_member-Decides same_key-Decides (record_of s) key in
    ((λ h. recorded-from_test s key (sym (among-record s key) ∙ listed.1 h)), λ h. listed.0 (among-record s key ∙ test-from_recorded s key h))

-- ---- any list of the recorded keys, each once, serves as well

pub record-permutes : (s : State) (keys : List KeyShape) → IsDistinct same_key keys → ((key : KeyShape) → list_any (same_key key) keys ≡ is_recorded s key) → IsPermutation keys (record_of s)
record-permutes s keys d h = same_keys-permute keys (record_of s) d (distinct-record s) (λ key. h key ∙ sym (among-record s key))

pub active-permutes : (s : State) (keys : List KeyShape) → IsDistinct same_key keys → ((key : KeyShape) → list_any (same_key key) keys ≡ is_active s key) → IsPermutation keys (active_keys s)
active-permutes s keys d h = same_keys-permute keys (active_keys s) d (distinct-active s) (λ key. h key ∙ sym (among-active s key))

-- the bits do not depend on the order
count-permute : (keys others : List KeyShape) (log2_bits hashes : ℕ) → IsPermutation keys others → (j : ℕ) → count_among keys log2_bits hashes j ≡ count_among others log2_bits hashes j
count-permute keys others log2_bits hashes p j = sym (sum_by-IsPermutation _ keys others p)

pub bits-permute : (keys others : List KeyShape) (log2_bits hashes : ℕ) → IsPermutation keys others → bits_of keys log2_bits hashes ≡ bits_of others log2_bits hashes
bits-permute keys others log2_bits hashes p = ap (λ (count : ℕ → ℕ). map (λ j. nat_lt 0 (count j)) (range_with_len 0 (2 ^ log2_bits))) (λ i j. count-permute keys others log2_bits hashes p j i)

-- nor does the number of the keys
pub length-permute : (keys others : List KeyShape) → IsPermutation keys others → length keys ≡ length others
length-permute keys others p = sym (length_permutation keys others p)

-- ---- reads

-- up to a front that is not above the copy's commit nothing changed it
pub not_outdated : (key : KeyShape) (c : ℕ) (journal : List Change) (front : ℕ) → front ≤ c → is_outdated key c journal front ≡ false
not_outdated key c journal zero h = refl
not_outdated key c journal (suc n) h =
    let here : nat_lt c (suc n) ≡ false = le-ltb c (suc n) (omega (arith, h)) in
    let there = not_outdated key c journal n (omega (arith, h)) in
    cc

left_out : (p : IssuedCopy → Bool) (r : IssuedCopy) → p r ≡ false → filter p (r ∷ []) ≡ []
left_out p r h = ap (λ (b : Bool). cond b (r ∷ []) []) h

-- what a filter leaves out of the one list it leaves out of both
filter-none : (p q : IssuedCopy → Bool) (r : IssuedCopy) → p r ≡ false → filter p (filter q (r ∷ [])) ≡ []
filter-none p q r h = by (q r)
  where
    by : (b : Bool) → filter p (cond b (r ∷ []) []) ≡ []
    by true = left_out p r h
    by false = refl

-- a read at the front or above it adds no outdated copy
pub outdated_copies-read : (g : Setting) (s : State) (key : KeyShape) (at : ℕ) → s.front ≤ at → outdated_copies (has_read g key at s) ≡ outdated_copies s
outdated_copies-read g s key at h =
    let r : IssuedCopy = copy_of_read g s key at in
    let q : IssuedCopy → Bool = λ r. nat_lt 0 r.ttl in
    ap (filter (is_outdated_in s)) (filter-append q s.copies (r ∷ []))
    ∙ filter-append (is_outdated_in s) (issues s) (filter q (r ∷ []))
    ∙ ap (λ (l : List IssuedCopy). outdated_copies s ++ l) (filter-none (is_outdated_in s) q r (not_outdated key at s.journal s.front h))
    ∙ append-nil (outdated_copies s)

pub read-outdates_nothing : (g : Setting) (history : List Entry) (moment : ℕ) (key : KeyShape) (tags : Tags) (at : ℕ) → IsLegal g (history ++ Read moment key tags at ∷ []) → outdated_copies (state_of g (history ++ Read moment key tags at ∷ [])) ≡ outdated_copies (state_of g history)
read-outdates_nothing g history moment key tags at legal =
    let may = (legal-parts g history (Read moment key tags at ∷ []) legal).1.0 in
    ap outdated_copies (state_of-push g history (Read moment key tags at)) ∙ outdated_copies-read g (at_moment (state_of g history) moment) key at may.0.0

-- ---- writes

-- what was outdated at a front that the journal had does not depend on later changes
pub is_outdated-append : (key : KeyShape) (c : ℕ) (journal more : List Change) (front : ℕ) → front ≤ length journal → is_outdated key c (journal ++ more) front ≡ is_outdated key c journal front
is_outdated-append key c journal more zero h = refl
is_outdated-append key c journal more (suc n) h =
    let there = is_outdated-append key c journal more n (omega (arith, h)) in
    let here : result_at key (journal ++ more) (suc n) ≡ result_at key journal (suc n) = result_at-append key journal more (suc n) h in
    elim (cases_lt c (suc n)) [
      | inl before ↦ (
          let copied : result_at key (journal ++ more) c ≡ result_at key journal c = result_at-append key journal more c (omega (arith, before, h)) in
          ap₂ (λ (x y : Bool). x || y) (ap₂ (λ a b. nat_lt c (suc n) && not (same_finding a b)) here copied) there)
      | inr after ↦ (let none : nat_lt c (suc n) ≡ false = le-ltb c (suc n) after in
          ap₂ (λ (x y : Bool). x || y)
          (and_left (nat_lt c (suc n)) (not (same_finding (result_at key (journal ++ more) (suc n)) (result_at key (journal ++ more) c))) none
          ∙ sym (and_left (nat_lt c (suc n)) (not (same_finding (result_at key journal (suc n)) (result_at key journal c))) none))
          there)
    ]

-- a longer journal leaves the record, as long as the front stays
pub record-longer : (s : State) (more : List Change) → s.front ≤ length s.journal → record_of (record s { journal = s.journal ++ more }) ≡ record_of s
record-longer s more h = ap (λ (test : IssuedCopy → Bool). filter (λ key. some_copy key test (live s)) (active_keys s)) (λ i r. is_outdated-append r.key r.at s.journal more s.front h i)

-- and how long each key stays there
pub outdated_until-longer : (s : State) (more : List Change) (key : KeyShape) → s.front ≤ length s.journal → until_of_outdated (record s { journal = s.journal ++ more }) key ≡ until_of_outdated s key
outdated_until-longer s more key h = ap (λ (test : IssuedCopy → Bool). until_among key test (live s)) (λ i r. is_outdated-append r.key r.at s.journal more s.front h i)

pub write-records_nothing : (g : Setting) (history : List Entry) (moment : ℕ) (change : Change) (condition : Condition) → IsLegal g history → record_of (state_of g (history ++ Write moment change condition ∷ [])) ≡ record_of (state_of g (history ++ Tick moment ∷ []))
write-records_nothing g history moment change condition legal =
    ap record_of (state_of-push g history (Write moment change condition))
    ∙ wrote-keeps g (at_moment (state_of g history) moment) change condition (λ (t : State). record_of t ≡ record_of (at_moment (state_of g history) moment)) (record-longer (at_moment (state_of g history) moment) (change ∷ []) (front-within g history legal)) refl
    ∙ ap record_of (sym (state_of-push g history (Tick moment)))

-- ---- drops

-- the record does not look at the horizon
pub drop-records_nothing : (g : Setting) (history : List Entry) (moment to : ℕ) → record_of (state_of g (history ++ Horizon moment to ∷ [])) ≡ record_of (state_of g (history ++ Tick moment ∷ []))
drop-records_nothing g history moment to = ap record_of (state_of-push g history (Horizon moment to)) ∙ ap record_of (sym (state_of-push g history (Tick moment)))
