-- The index after a row was dropped.
use Rattle.std.proofs.Common.{◌≡◌, ◌<◌, ℕ, zero, suc, Bool, true, false, not, ◌&&◌, cond, List, [], ◌∷◌, drop, length, Option, Some, None, is_some, inl, inr, refl, sym, ap, ◌∙◌, arith}
use Rattle.std.specs.Map.{lookup}
use Rattle.std.specs.Str.{bytes_eq}
use Rattle.std.proofs.lemmas.Bool.{cases_Bool}
use Rattle.std.proofs.lemmas.Slice.Eq.{bytes_eq-Decides}
use Rattle.indexmap.specs.IndexMap.{IndexMap, get_by}
use Rattle.q_doc.specs.Tree.{Tree}
use Rattle.commit_book.specs.declared.index.Record.{Record}
use Rattle.commit_book.specs.Index.{base_kept, commits_kept, is_bare, record_in, DropsIn, DropsUnder}
use Rattle.commit_book.proofs.NameLemmas.{record-at, record_from}
use Rattle.commit_book.proofs.OrderLemmas.{itself}

abbrev Under : Type 0 → Type 0
Under S = IndexMap (List ℕ) Record S

abbrev Maps : Type 0 → Type 0 → Type 0
Maps S T = IndexMap (List ℕ) (Under S) T

-- a map with an entry has what the entry is of
some-entry : {X S : Type 0} (m : IndexMap (List ℕ) X S) → 0 < length m.entries → (key : List ℕ) × (is_some (get_by (bytes_eq key) m) ≡ true)
some-entry {X} m some = by m.entries some
  where
    by : (es : List (List ℕ × X)) → 0 < length es → (key : List ℕ) × (is_some (lookup (bytes_eq key) es) ≡ true)
    by [] none = absurd (omega arith)
    by (e ∷ es) there = (e.0, (let own = itself e.0 in rw own refl))

no-entry : {X S : Type 0} (m : IndexMap (List ℕ) X S) (key : List ℕ) → length m.entries ≡ 0 → get_by (bytes_eq key) m ≡ None
no-entry {X} m key none = by m.entries none
  where
    by : (es : List (List ℕ × X)) → length es ≡ 0 → lookup (bytes_eq key) es ≡ None
    by [] e = refl
    by (x ∷ xs) e = absurd (omega (arith, e))

-- a length that is not 0
pub not-none : (n : ℕ) (b : Bool) → (n ≡ 0 → b ≡ true) → b ≡ false → 0 < n
not-none zero b h e = absurd (let t = h refl in cc)
not-none (suc n) b h e = omega arith

module _ {S T : Type 0} (maps new : Maps S T) (collection id : List ℕ) (base : Option (ℕ × Tree)) (records now : Under S) (found : get_by (bytes_eq collection) maps ≡ Some records) (drops : DropsUnder id base records now) where
  -- the records of the collection are replaced; where none is left it leaves the index
  drops-in : ((q own : List ℕ) → record_in new q own ≡ record_from (cond (bytes_eq collection q) (Some now) (get_by (bytes_eq q) maps)) own) →
      ((other : List ℕ) → bytes_eq collection other ≡ false → get_by (bytes_eq other) new ≡ get_by (bytes_eq other) maps) →
      (is_some (get_by (bytes_eq collection) new) ≡ true → 0 < length now.entries) →
      DropsIn collection id base maps new
  drops-in seen apart filled =
      let was = record-at maps collection id records found in
      record {
        own = ap base_kept (under id) ∙ drops.own;
        commits = ap commits_kept (under id) ∙ drops.commits ∙ sym (ap (λ (o : Option Record). drop 1 (commits_kept o)) was);
        named = ap is_some (under id) ∙ drops.named ∙ sym (ap (λ (o : Option Record). not (is_bare base (drop 1 (commits_kept o)))) was);
        others = others;
        apart = apart;
        filled = λ there. (let entry = some-entry now (filled there) in (entry.0, ap is_some (under entry.0) ∙ entry.1));
      }
    where
      under : (own : List ℕ) → record_in new collection own ≡ get_by (bytes_eq own) now
      under own = seen collection own ∙ ap (λ (b : Bool). record_from (cond b (Some now) (get_by (bytes_eq collection) maps)) own) (itself collection)

      others : (collection' id' : List ℕ) → (bytes_eq id id' && bytes_eq collection collection') ≡ false → record_in new collection' id' ≡ record_in maps collection' id'
      others collection' id' differs =
          elim (cases_Bool (bytes_eq collection collection')) [
            | inl hit ↦ (
                let same : collection ≡ collection' = (bytes_eq-Decides collection collection').0 hit in
                let other : bytes_eq id id' ≡ false = by (bytes_eq id id') (bytes_eq collection collection') hit differs in
                seen collection' id'
                ∙ ap (λ (b : Bool). record_from (cond b (Some now) (get_by (bytes_eq collection') maps)) id') hit
                ∙ drops.others id' other
                ∙ sym (ap (λ (c : List ℕ). record_in maps c id') (sym same) ∙ record-at maps collection id' records found))
            | inr miss ↦ ap (λ o. record_from o id') (apart collection' miss)
          ]
        where
          by : (a b : Bool) → b ≡ true → (a && b) ≡ false → a ≡ false
          by true true e f = f
          by false b e f = refl
          by true false e f = absurd (cc)

  -- the collection is still there
  pub drops-written : ((q : List ℕ) → get_by (bytes_eq q) new ≡ cond (bytes_eq collection q) (Some now) (get_by (bytes_eq q) maps)) → 0 < length now.entries → DropsIn collection id base maps new
  drops-written puts some =
      drops-in (λ q own. ap (λ o. record_from o own) (puts q)) (λ other miss. puts other ∙ ap (λ (b : Bool). cond b (Some now) (get_by (bytes_eq other) maps)) miss) (λ there. some)

  -- it left the index
  pub drops-removed : (mid : Maps S T) → ((q : List ℕ) → get_by (bytes_eq q) mid ≡ cond (bytes_eq collection q) (Some now) (get_by (bytes_eq q) maps)) →
      ((q : List ℕ) → get_by (bytes_eq q) new ≡ cond (bytes_eq collection q) None (get_by (bytes_eq q) mid)) → length now.entries ≡ 0 → DropsIn collection id base maps new
  drops-removed mid puts goes none =
      drops-in seen (λ other miss. goes other ∙ ap (λ (b : Bool). cond b None (get_by (bytes_eq other) mid)) miss ∙ puts other ∙ ap (λ (b : Bool). cond b (Some now) (get_by (bytes_eq other) maps)) miss)
      (λ there. absurd (let gone = goes collection ∙ ap (λ (b : Bool). cond b None (get_by (bytes_eq collection) mid)) (itself collection) in let no : is_some (get_by (bytes_eq collection) new) ≡ false = ap is_some gone in cc))
    where
      seen : (q own : List ℕ) → record_in new q own ≡ record_from (cond (bytes_eq collection q) (Some now) (get_by (bytes_eq q) maps)) own
      seen q own =
          elim (cases_Bool (bytes_eq collection q)) [
            | inl hit ↦ (
                ap (λ o. record_from o own) (goes q ∙ ap (λ (b : Bool). cond b None (get_by (bytes_eq q) mid)) hit)
                ∙ sym (no-entry now own none)
                ∙ sym (ap (λ (b : Bool). record_from (cond b (Some now) (get_by (bytes_eq q) maps)) own) hit))
            | inr miss ↦ (
                ap (λ o. record_from o own) (goes q ∙ ap (λ (b : Bool). cond b None (get_by (bytes_eq q) mid)) miss ∙ puts q))
          ]
