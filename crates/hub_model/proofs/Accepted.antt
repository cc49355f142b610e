-- Which writes are accepted, and the journal that they make.
use Rattle.std.proofs.Common.{◌≡◌, ◌↔◌, ℕ, zero, suc, ◌≤◌, Bool, true, false, ◌&&◌, List, [], ◌∷◌, length, fold, Option, Some, None, refl, sym, ap, ◌∙◌, subst, inl, inr, arith}
use Rattle.std.specs.Prelude.{nat_le, slice_get, if◌then◌else◌, IfSome}
use Rattle.std.specs.Bool.{Decides}
use Rattle.std.proofs.lemmas.Bool.{cases_Bool, cases_lt, and_parts, and_from, leb-true, le-leb, both_ways}
use Rattle.q_doc.specs.Tree.{Tree}
use Rattle.commit_book.specs.declared.change.Change.{Change}
use Rattle.commit_book.specs.Journal.{is_of, put_at, document_after, document_at, kept_with}
use Rattle.hub_model.specs.declared.entry.Condition.{Condition}
use Rattle.hub_model.specs.declared.entry.Condition.TheVariants.{Always, Present, Absent, Unchanged}
use Rattle.hub_model.specs.declared.entry.Entry.{Entry}
use Rattle.hub_model.specs.declared.entry.Entry.TheVariants.{Write}
use Rattle.hub_model.specs.declared.entry.Found.{Found}
use Rattle.hub_model.specs.declared.entry.Found.TheVariants.{Missing, At}
use Rattle.hub_model.specs.declared.entry.Tags.TheVariants.{Any, Listed}
use Rattle.hub_model.specs.Direct.{found_behind, IsMet, IsAccepted, IsEqualAtOne, IsJournalFrom, IsJournalOf}
use Rattle.hub_model.specs.Setting.{Setting}
use Rattle.hub_model.specs.State.{State, start, at_moment}
use Rattle.hub_model.specs.Step.{found_of, found_now, is_met, is_accepted, wrote, after, state_of, with_change}
use Rattle.hub_model.proofs.Changes.{version_at}
use Rattle.hub_model.proofs.Copies.{any_from, found_by}

-- ---- the tests decide the facts

abbrev within : ℕ → ℕ → ℕ → Bool
within version commits t = nat_le version t && nat_le t commits

pub met-Decides : (condition : Condition) (found : Found) (commits : ℕ) → Decides (is_met condition found commits) (IsMet condition found commits)
met-Decides Always found commits = ((λ h. tt), (λ h. refl))
met-Decides Present Missing commits = ((λ h. cc), (λ h. (let e = h.1 in cc)))
met-Decides Present (At version) commits = ((λ h. (version, refl)), (λ h. refl))
met-Decides Absent Missing commits = ((λ h. refl), (λ h. refl))
met-Decides Absent (At version) commits = ((λ h. cc), (λ h. cc))
met-Decides (Unchanged Any) Missing commits = ((λ h. cc), (λ h. (let e = h.1 in cc)))
met-Decides (Unchanged Any) (At version) commits = ((λ h. (version, refl)), (λ h. refl))
met-Decides (Unchanged (Listed tags)) Missing commits = ((λ h. cc), (λ h. (let e = h.2 in cc)))
met-Decides (Unchanged (Listed tags)) (At version) commits = (
  (λ h.
      let f = found_by (within version commits) tags h in
      let parts = and_parts (nat_le version f.0) (nat_le f.0 commits) f.2 in
      (version, f.0, refl, f.1, leb-true version f.0 parts.0, leb-true f.0 commits parts.1)),
  (λ h.
      let e = h.2 in
      let same : version ≡ h.0 = cc in
      let late = h.4 in
      any_from (within version commits) tags h.1 h.3 (and_from (nat_le version h.1) (nat_le h.1 commits) (le-leb version h.1 (omega (arith, late, same))) (le-leb h.1 commits h.5))),
)

-- ---- what a write leaves

-- what holds of both states holds of the one that is chosen
pub kept_by : (P : State → Type 0) (b : Bool) (s t : State) → P s → P t → P (if b then s else t)
kept_by P true s t p q = p
kept_by P false s t p q = q

chosen : (b : Bool) (s t : State) → b ≡ true → (if b then s else t) ≡ s
chosen b s t h = ap (λ (c : Bool). if c then s else t) h

left : (b : Bool) (s t : State) → b ≡ false → (if b then s else t) ≡ t
left b s t h = ap (λ (c : Bool). if c then s else t) h

-- of one write
module _ (g : Setting) (s : State) (change : Change) (condition : Condition) where
  -- the test decides whether it is accepted
  pub accepted-Decides : Decides (is_accepted g s change condition) (IsAccepted g s.journal s.horizon change condition)
  accepted-Decides =
      let met = met-Decides condition (found_now s change) (length s.journal) in (
        (λ h.
            let parts = and_parts (is_met condition (found_now s change) (length s.journal)) (nat_le (kept_with s.journal s.horizon change) g.capacity) h in
            record { met = met.0 parts.0; fits = leb-true (kept_with s.journal s.horizon change) g.capacity parts.1 }),
        (λ h. and_from (is_met condition (found_now s change) (length s.journal)) (nat_le (kept_with s.journal s.horizon change) g.capacity) (met.1 h.met) (le-leb (kept_with s.journal s.horizon change) g.capacity h.fits)),
      )

  -- a write leaves a state or adds its change
  pub wrote-keeps : (P : State → Type 0) → P (with_change change s) → P s → P (wrote g change condition s)
  wrote-keeps P p q = kept_by P (is_accepted g s change condition) (with_change change s) s p q

  wrote-accepted : is_accepted g s change condition ≡ true → wrote g change condition s ≡ with_change change s
  wrote-accepted h = chosen (is_accepted g s change condition) (with_change change s) s h

  wrote-refused : is_accepted g s change condition ≡ false → wrote g change condition s ≡ s
  wrote-refused h = left (is_accepted g s change condition) (with_change change s) s h

  refuses : is_accepted g s change condition ≡ false → IsAccepted g s.journal s.horizon change condition → ⊥
  refuses h a = both_ways (is_accepted g s change condition) h (accepted-Decides.1 a)

-- ---- the journal

-- the fold's journal is that of the accepted writes
journal-from : (g : Setting) (s : State) (history : List Entry) → IsJournalFrom g s.journal s.horizon history (fold (after g) s history).journal
journal-from g s [] = refl
journal-from g s (Write moment change condition ∷ es) =
    let t = at_moment s moment in
    let rest = journal-from g (wrote g change condition t) es in
    elim (cases_Bool (is_accepted g t change condition)) [
      | inl takes ↦ inl ((accepted-Decides g t change condition).0 takes, subst (λ (u : State). IsJournalFrom g u.journal u.horizon es (fold (after g) (wrote g change condition t) es).journal) (wrote-accepted g t change condition takes) rest)
      | inr other ↦ inr (refuses g t change condition other, subst (λ (u : State). IsJournalFrom g u.journal u.horizon es (fold (after g) (wrote g change condition t) es).journal) (wrote-refused g t change condition other) rest)
    ]
journal-from g s (e ∷ es) = journal-from g (after g s e) es

-- and no other list is
journal-alone : (g : Setting) (s : State) (history : List Entry) (journal : List Change) → IsJournalFrom g s.journal s.horizon history journal → journal ≡ (fold (after g) s history).journal
journal-alone g s [] journal h = h
journal-alone g s (Write moment change condition ∷ es) journal h =
    let t = at_moment s moment in
    let next = wrote g change condition t in
    let rest : IsJournalFrom g next.journal next.horizon es journal → journal ≡ (fold (after g) next es).journal = journal-alone g next es journal in
    elim (cases_Bool (is_accepted g t change condition)) [
      | inl takes ↦ elim h [
        | inl took ↦ rest (subst (λ (u : State). IsJournalFrom g u.journal u.horizon es journal) (sym (wrote-accepted g t change condition takes)) took.1)
        | inr left_out ↦ absurd (left_out.0 ((accepted-Decides g t change condition).0 takes))
      ]
      | inr other ↦ elim h [
        | inl took ↦ absurd (refuses g t change condition other took.0)
        | inr left_out ↦ rest (subst (λ (u : State). IsJournalFrom g u.journal u.horizon es journal) (sym (wrote-refused g t change condition other)) left_out.1)
      ]
    ]
journal-alone g s (e ∷ es) journal h = journal-alone g (after g s e) es journal h

pub journal-writes : (g : Setting) (history : List Entry) (journal : List Change) → IsJournalOf g history journal ↔ (journal ≡ (state_of g history).journal)
unfolding state_of
journal-writes g history journal = ((λ h. journal-alone g start history journal h), (λ e. subst (λ (l : List Change). IsJournalOf g history l) (sym e) (journal-from g start history)))

-- ---- a listed result

-- a document before a commit is there behind it, where it is not of that commit
older : (collection id : List ℕ) (n : ℕ) (row : Option Change) (before : Option (ℕ × Tree)) (d : ℕ × Tree) → document_after collection id (suc n) row before ≡ Some d → d.0 ≤ n → before ≡ Some d
older collection id n None before d h late = h
older collection id n (Some change) before d h late = by (is_of collection id change) change.document h
  where
    by : (b : Bool) (document : Option Tree) → (if b then put_at (suc n) document else before) ≡ Some d → before ≡ Some d
    by true (Some tree) e = absurd (let same : suc n ≡ d.0 = cc in omega (arith, same, late))
    by true None e = cc
    by false document e = e

-- a document is there at each commit from its own on
pub stands : (journal : List Change) (collection id : List ℕ) (n t : ℕ) (d : ℕ × Tree) → document_at journal n collection id ≡ Some d → d.0 ≤ t → t ≤ n → document_at journal t collection id ≡ Some d
stands journal collection id zero t d h late within = cc
stands journal collection id (suc n) t d h late within = elim (cases_lt t (suc n)) [
  | inl before ↦ stands journal collection id n t d (older collection id n (slice_get journal n) (document_at journal n collection id) d h (omega (arith, late, before))) late (omega (arith, before))
  | inr same ↦ (let e : t ≡ suc n = omega (arith, within, same) in ap (λ m. document_at journal m collection id) e ∙ h)
]

-- a document has a listed commit's from that commit on
pub unchanged-equal : (journal : List Change) (change : Change) (tags : List ℕ) → IsMet (Unchanged (Listed tags)) (found_behind journal change) (length journal) ↔ IsEqualAtOne journal change tags
unchanged-equal journal change tags = by (document_at journal (length journal) change.collection change.id) refl
  where
    by : (d : Option (ℕ × Tree)) → document_at journal (length journal) change.collection change.id ≡ d → IsMet (Unchanged (Listed tags)) (found_of (document_at journal (length journal) change.collection change.id)) (length journal) ↔ IsEqualAtOne journal change tags
    by None e = (
      (λ h. (let f : Missing ≡ At h.0 = sym (ap found_of e) ∙ h.2 in cc)),
      (λ h. (let f : None ≡ Some h.found = sym e ∙ h.now in cc)),
    )
    by (Some d) e = (
      (λ h.
          let f : At d.0 ≡ At h.0 = sym (ap found_of e) ∙ h.2 in
          let same : d.0 ≡ h.0 = cc in
          let late = h.4 in
          record { tag = h.1; listed = h.3; within = h.5; found = d; now = e; then = stands journal change.collection change.id (length journal) h.1 d e (omega (arith, late, same)) h.5 }),
      (λ h.
          let f : Some d ≡ Some h.found = sym e ∙ h.now in
          let same : d.0 ≡ h.found.0 = cc in
          let late : h.found.0 ≤ h.tag = subst (λ (o : Option (ℕ × Tree)). IfSome o (λ x. x.0 ≤ h.tag)) h.then (version_at journal h.tag change.collection change.id) in
          (d.0, h.tag, ap found_of e, h.listed, omega (arith, late, same), h.within)),
    )
