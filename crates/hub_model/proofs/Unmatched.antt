-- How many commits come after the front.
use Rattle.std.proofs.Common.{◌≡◌, ℕ, ◌+◌, ◌<◌, ◌≤◌, Bool, true, false, ◌&&◌, List, [], ◌∷◌, ◌++◌, length, refl, sym, ap, ◌∙◌, arith, length-append}
use Rattle.std.specs.Prelude.{nat_le, if◌then◌else◌}
use Rattle.std.proofs.lemmas.Bool.{and_parts, leb-true, leb-false, lt-ltb, le-ltb}
use Rattle.commit_book.specs.declared.change.Change.{Change}
use Rattle.hub_model.specs.declared.entry.Condition.{Condition}
use Rattle.hub_model.specs.declared.entry.Entry.{Entry}
use Rattle.hub_model.specs.declared.entry.Entry.TheVariants.{Write, Read, Match, Fetch, Purges, Tick, Horizon}
use Rattle.hub_model.specs.Helps.{helps_of, match_between}
use Rattle.hub_model.specs.Legal.{most_unmatched, HasFewUnmatched, Admits, IsLegalFrom, IsLegal}
use Rattle.hub_model.specs.Setting.{Setting}
use Rattle.hub_model.specs.State.{State, start, at_moment}
use Rattle.hub_model.specs.Step.{is_accepted, with_change, after, after_all, state_of}
use Rattle.hub_model.proofs.Accepted.{wrote-keeps}
use Rattle.hub_model.proofs.Histories.{front-within}

-- ---- one write

second-false : (a b : Bool) → a ≡ true → (a && b) ≡ false → b ≡ false
second-false true b h e = e
second-false false b h e = cc

few-chosen : (accepts : Bool) (s t : State) → (accepts ≡ true → HasFewUnmatched t) → HasFewUnmatched s → HasFewUnmatched (if accepts then t else s)
few-chosen true s t longer few = longer refl
few-chosen false s t longer few = few

-- of one write
module _ (g : Setting) (s : State) (moment : ℕ) (change : Change) (condition : Condition) where
  -- it is accepted, and there is no room for a further commit
  abbrev is_helped : Bool
  is_helped = is_accepted g s change condition && nat_le (s.front + most_unmatched) (length s.journal)

  -- an accepted write adds one commit
  few-write : HasFewUnmatched s → is_helped ≡ false → HasFewUnmatched (after g s (Write moment change condition))
  few-write few room =
      few-chosen (is_accepted g s change condition) (at_moment s moment) (with_change change (at_moment s moment))
      (λ accepts.
      let size = length-append s.journal (change ∷ []) in
      let below : length s.journal < s.front + 1024 = leb-false (s.front + most_unmatched) (length s.journal) (second-false (is_accepted g s change condition) (nat_le (s.front + most_unmatched) (length s.journal)) accepts room) in
      omega (arith, size, below)) few

  -- behind a match of all commits it is the only one after the front
  few-helped : HasFewUnmatched (after g (after g s (Match moment (length s.journal))) (Write moment change condition))
  few-helped =
      wrote-keeps g (after g (after g s (Match moment (length s.journal))) (Tick moment)) change condition HasFewUnmatched
      (let size = length-append s.journal (change ∷ []) in omega (arith, size)) (omega arith)

  -- it goes on legally behind its help, if any
  behind : (b : Bool) → is_helped ≡ b → s.front ≤ length s.journal → HasFewUnmatched s → IsLegalFrom g s ((if b then Match moment (length s.journal) ∷ [] else []) ++ Write moment change condition ∷ [])
  behind true helped within few =
      let far : s.front + 1024 ≤ length s.journal = leb-true (s.front + most_unmatched) (length s.journal) (and_parts (is_accepted g s change condition) (nat_le (s.front + most_unmatched) (length s.journal)) helped).1 in
      let up : s.front < length s.journal = omega (arith, far) in
      let same : length s.journal ≤ length s.journal = omega arith in
      (((up, same), (let h : length s.journal ≤ length s.journal + 1024 = omega arith in h)), ((tt, few-helped), tt))
  behind false helped within few = ((tt, few-write few helped), tt)

  -- what helped it is told by the front after it
  told_by : (b : Bool) → is_helped ≡ b → (let helps = if b then Match moment (length s.journal) ∷ [] else [] in helps ≡ match_between moment s.front (after_all g s (helps ++ Write moment change condition ∷ [])).front)
  told_by true helped =
      let far : s.front + 1024 ≤ length s.journal = leb-true (s.front + most_unmatched) (length s.journal) (and_parts (is_accepted g s change condition) (nat_le (s.front + most_unmatched) (length s.journal)) helped).1 in
      let t = after g s (Match moment (length s.journal)) in
      let front : (after g t (Write moment change condition)).front ≡ length s.journal = wrote-keeps g (at_moment t moment) change condition (λ (u : State). u.front ≡ length s.journal) refl refl in
      let moves : match_between moment s.front (length s.journal) ≡ Match moment (length s.journal) ∷ [] = ap (λ (c : Bool). if c then Match moment (length s.journal) ∷ [] else []) (lt-ltb s.front (length s.journal) (omega (arith, far))) in
      sym (ap (match_between moment s.front) front ∙ moves)
  told_by false helped =
      let front : (after g s (Write moment change condition)).front ≡ s.front = wrote-keeps g (at_moment s moment) change condition (λ (u : State). u.front ≡ s.front) refl refl in
      let stays : match_between moment s.front s.front ≡ [] = ap (λ (c : Bool). if c then Match moment s.front ∷ [] else []) (le-ltb s.front s.front (omega arith)) in
      sym (ap (match_between moment s.front) front ∙ stays)

  pub helps-told : helps_of g s (Write moment change condition) ≡ match_between moment s.front (after_all g s (helps_of g s (Write moment change condition) ++ Write moment change condition ∷ [])).front
  helps-told = told_by is_helped refl

  pub helped_write-follows : s.front ≤ length s.journal → length s.journal ≤ s.front + most_unmatched → IsLegalFrom g s (helps_of g s (Write moment change condition) ++ Write moment change condition ∷ [])
  helped_write-follows within few = behind is_helped refl within few

-- ---- any entry

-- nothing but a write leaves more commits after the front
pub admitted-follows : (g : Setting) (s : State) (e : Entry) → s.front ≤ length s.journal → length s.journal ≤ s.front + most_unmatched → Admits s e → IsLegalFrom g s (helps_of g s e ++ e ∷ [])
admitted-follows g s (Write moment change condition) within few admits = helped_write-follows g s moment change condition within few
admitted-follows g s (Read moment key tags at) within few admits = ((admits, few), tt)
admitted-follows g s (Match moment to) within few admits = ((admits, (let up = admits.0 in omega (arith, up, few))), tt)
admitted-follows g s (Fetch moment) within few admits = ((tt, few), tt)
admitted-follows g s (Purges moment from) within few admits = ((tt, few), tt)
admitted-follows g s (Tick moment) within few admits = ((tt, few), tt)
admitted-follows g s (Horizon moment to) within few admits = ((admits, few), tt)

-- ---- every legal history

few-from : (g : Setting) (s : State) (es : List Entry) → HasFewUnmatched s → IsLegalFrom g s es → HasFewUnmatched (after_all g s es)
few-from g s [] few legal = few
few-from g s (e ∷ es) few legal = few-from g (after g s e) es legal.0.1 legal.1

pub few-unmatched : (g : Setting) (history : List Entry) → IsLegal g history → length (state_of g history).journal ≤ (state_of g history).front + most_unmatched
unfolding IsLegal state_of
few-unmatched g history legal = few-from g start history (omega arith) legal

-- so an entry that the state admits may follow
pub history-goes_on : (g : Setting) (history : List Entry) (e : Entry) → IsLegal g history → Admits (state_of g history) e → IsLegalFrom g (state_of g history) (helps_of g (state_of g history) e ++ e ∷ [])
history-goes_on g history e legal admits = admitted-follows g (state_of g history) e (front-within g history legal) (few-unmatched g history legal) admits
