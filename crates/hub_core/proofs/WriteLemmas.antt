-- The steps of a write.
use Rattle.std.proofs.Common.{◌≡◌, ◌⊎◌, ℕ, ◌+◌, max, arith, Bool, true, false, ◌&&◌, List, [], ◌∷◌, ◌++◌, length, Result, Ok, Err, nat_le, if◌then◌else◌, refl, sym, ap, ap₂, ◌∙◌, subst, IsErr, inl, inr}
use Rattle.commit_book.specs.declared.change.Change.{Change}
use Rattle.commit_book.specs.declared.refusal.BookRefusal.{BookRefusal}
use Rattle.commit_book.specs.declared.refusal.BookRefusal.TheVariants.{Full, Memory}
use Rattle.commit_book.specs.Contents.{Contents, judged}
use Rattle.commit_book.specs.Journal.{document_at, kept_with}
use Rattle.hub_model.specs.declared.entry.Condition.{Condition}
use Rattle.hub_model.specs.declared.entry.Found.{Found}
use Rattle.hub_model.specs.Setting.{Setting}
use Rattle.hub_model.specs.declared.entry.Entry.{Entry}
use Rattle.hub_model.specs.declared.entry.Entry.TheVariants.{Write, Match}
use Rattle.hub_model.specs.declared.entry.Written.TheVariants.{Done, Precondition, Full as WrittenFull}
use Rattle.hub_model.specs.Helps.{helps_of}
use Rattle.hub_model.specs.Legal.{most_unmatched}
use Rattle.hub_model.specs.Reply.{wrote as wrote_reply, written, reply_in}
use Rattle.hub_model.specs.State.{State, at_moment}
use Rattle.hub_model.specs.Step.{found_of, found_now, is_accepted, is_met, wrote, after_all, with_change}
use Rattle.hub_core.specs.HubState.{help_of}

-- ---- what the book answers

-- an answer other than Memory is the defined one
answered : (book : Contents) (change : Change) (result : Result (Unit {0}) BookRefusal) → (result ≡ Err Memory) ⊎ (result ≡ judged book change) → (result ≡ Err Memory → ⊥) → result ≡ judged book change
answered book change result (inl wrong) other = absurd (other wrong)
answered book change result (inr is) other = is

-- memory is reserved where the change fits the capacity
pub judged-ok : (book : Contents) (change : Change) (done : Unit {0}) (result : Result (Unit {0}) BookRefusal) → result ≡ Ok done → (result ≡ Err Memory) ⊎ (result ≡ judged book change) → nat_le (kept_with book.journal book.horizon change) book.capacity ≡ true
judged-ok book change done result ok told = by (nat_le (kept_with book.journal book.horizon change) book.capacity) refl
  where
    is : result ≡ judged book change
    is = answered book change result told (λ e. cc)

    by : (b : Bool) → nat_le (kept_with book.journal book.horizon change) book.capacity ≡ b → nat_le (kept_with book.journal book.horizon change) book.capacity ≡ true
    by true h = h
    by false h =
        let e : result ≡ Err (Full (kept_with book.journal book.horizon change)) = is ∙ ap (λ (b : Bool). if b then Ok tt else Err (Full (kept_with book.journal book.horizon change))) h in
        cc

-- and the sum is told where it does not
pub judged-full : (book : Contents) (change : Change) (bytes : ℕ) (result : Result (Unit {0}) BookRefusal) → result ≡ Err (Full bytes) → (result ≡ Err Memory) ⊎ (result ≡ judged book change) →
    (nat_le (kept_with book.journal book.horizon change) book.capacity ≡ false) × (bytes ≡ kept_with book.journal book.horizon change)
judged-full book change bytes result full told = by (nat_le (kept_with book.journal book.horizon change) book.capacity) refl
  where
    is : result ≡ judged book change
    is = answered book change result told (λ e. cc)

    by : (b : Bool) → nat_le (kept_with book.journal book.horizon change) book.capacity ≡ b → (nat_le (kept_with book.journal book.horizon change) book.capacity ≡ false) × (bytes ≡ kept_with book.journal book.horizon change)
    by true h =
        let e : result ≡ Ok tt = is ∙ ap (λ (b : Bool). if b then Ok tt else Err (Full (kept_with book.journal book.horizon change))) h in
        cc
    by false h =
        let e : result ≡ Err (Full (kept_with book.journal book.horizon change)) = is ∙ ap (λ (b : Bool). if b then Ok tt else Err (Full (kept_with book.journal book.horizon change))) h in
        (h, cc)

-- the change fitted where the answer was Memory
pub judged-memory : (book : Contents) (change : Change) (result : Result (Unit {0}) BookRefusal) → result ≡ Err Memory → (IsErr (judged book change) → result ≡ judged book change) → nat_le (kept_with book.journal book.horizon change) book.capacity ≡ true
judged-memory book change result none full = by (nat_le (kept_with book.journal book.horizon change) book.capacity) refl
  where
    refused : Full (kept_with book.journal book.horizon change) ≡ Memory → ⊥
    refused e = cc

    by : (b : Bool) → nat_le (kept_with book.journal book.horizon change) book.capacity ≡ b → nat_le (kept_with book.journal book.horizon change) book.capacity ≡ true
    by true h = h
    by false h =
        let is : judged book change ≡ Err (Full (kept_with book.journal book.horizon change)) = ap (λ (b : Bool). if b then Ok tt else Err (Full (kept_with book.journal book.horizon change))) h in
        let answer : result ≡ judged book change = full (subst IsErr (sym is) refl) in
        let wrong : Full (kept_with book.journal book.horizon change) ≡ Memory = cc in
        absurd (refused wrong)

-- ---- what helps a write

-- of a write after a state
module _ (g : Setting) (s : State) (moment : ℕ) (change : Change) (condition : Condition) where
  -- the entries that help it, by whether it is accepted
  helped : (b : Bool) → is_accepted g s change condition ≡ b → helps_of g s (Write moment change condition) ≡ (if b then help_of s moment else [])
  helped true accepted = ap (λ (b : Bool). if b && nat_le (s.front + most_unmatched) (length s.journal) then Match moment (length s.journal) ∷ [] else []) accepted
  helped false refused = ap (λ (b : Bool). if b && nat_le (s.front + most_unmatched) (length s.journal) then Match moment (length s.journal) ∷ [] else []) refused

  -- an accepted write comes after what helps it
  pub helped-after : is_accepted g s change condition ≡ true →
      wrote g change condition (at_moment (after_all g s (help_of s moment)) moment) ≡ after_all g s (helps_of g s (Write moment change condition) ++ Write moment change condition ∷ [])
  helped-after accepted =
      by (nat_le (s.front + most_unmatched) (length s.journal))
      ∙ sym (ap (λ (es : List Entry). after_all g s (es ++ Write moment change condition ∷ [])) (helped true accepted))
    where
      by : (b : Bool) → wrote g change condition (at_moment (after_all g s (if b then Match moment (length s.journal) ∷ [] else [])) moment) ≡ after_all g s ((if b then Match moment (length s.journal) ∷ [] else []) ++ Write moment change condition ∷ [])
      by true = refl
      by false = refl

  pub helped-reply : is_accepted g s change condition ≡ true →
      wrote_reply (written g change condition (at_moment (after_all g s (help_of s moment)) moment)) ≡ reply_in g (after_all g s (helps_of g s (Write moment change condition))) (Write moment change condition)
  helped-reply accepted = sym (ap (λ (es : List Entry). reply_in g (after_all g s es) (Write moment change condition)) (helped true accepted))

  -- a refused one is not helped
  pub refused-after : is_accepted g s change condition ≡ false → wrote g change condition (at_moment s moment) ≡ after_all g s (helps_of g s (Write moment change condition) ++ Write moment change condition ∷ [])
  refused-after refused = sym (ap (λ (es : List Entry). after_all g s (es ++ Write moment change condition ∷ [])) (helped false refused))

  pub refused-reply : is_accepted g s change condition ≡ false → wrote_reply (written g change condition (at_moment s moment)) ≡ reply_in g (after_all g s (helps_of g s (Write moment change condition))) (Write moment change condition)
  refused-reply refused = sym (ap (λ (es : List Entry). reply_in g (after_all g s es) (Write moment change condition)) (helped false refused))

-- ---- what a write leaves

-- the state behind a write, by whether it is accepted
left : Change → State → Bool → State
left change s b = if b then with_change change s else s

-- of a book whose journal is the state's
module _ (g : Setting) (book : Contents) (s : State) (change : Change) (condition : Condition) (found : Found) (commits : ℕ) (same : book.journal ≡ s.journal) (dropped : book.horizon ≡ s.horizon)
    (is : found ≡ found_of (document_at book.journal (length book.journal) change.collection change.id)) (count : commits ≡ length book.journal) where
  found-now : found ≡ found_now s change
  found-now = is ∙ ap (λ (xs : List Change). found_of (document_at xs (length xs) change.collection change.id)) same

  met-now : (b : Bool) → is_met condition found commits ≡ b → is_met condition (found_now s change) (length s.journal) ≡ b
  met-now b met = ap₂ (is_met condition) (sym found-now) (sym (count ∙ ap length same)) ∙ met

  pub refused-unmet : is_met condition found commits ≡ false → is_accepted g s change condition ≡ false
  refused-unmet unmet = ap (λ (b : Bool). b && nat_le (kept_with s.journal s.horizon change) g.capacity) (met-now false unmet)

  pub written-unmet : (clock : ℕ) → clock ≡ s.clock → is_met condition found commits ≡ false → Precondition found clock ≡ written g change condition s
  written-unmet clock now unmet =
      (λ i. Precondition (found-now i) (now i))
      ∙ sym (ap (λ (b : Bool). if b then (if nat_le (kept_with s.journal s.horizon change) g.capacity then Done (length s.journal + 1) (found_now s change) s.clock else WrittenFull (kept_with s.journal s.horizon change) s.clock) else Precondition (found_now s change) s.clock) (met-now false unmet))

  pub leaves-unmet : is_met condition found commits ≡ false → s ≡ wrote g change condition s
  unfolding left
  leaves-unmet unmet = sym (ap (λ (b : Bool). left change s (b && nat_le (kept_with s.journal s.horizon change) g.capacity)) (met-now false unmet))

  -- where the condition is met, by whether the change fits
  module _ (met : is_met condition found commits ≡ true) (limit : book.capacity ≡ g.capacity) where
    fits-now : nat_le (kept_with s.journal s.horizon change) g.capacity ≡ nat_le (kept_with book.journal book.horizon change) book.capacity
    fits-now = ap₂ nat_le (ap₂ (λ (xs : List Change) (n : ℕ). kept_with xs n change) (sym same) (sym dropped)) (sym limit)

    pub accepted-now : (b : Bool) → nat_le (kept_with book.journal book.horizon change) book.capacity ≡ b → is_accepted g s change condition ≡ b
    accepted-now b fits =
        ap₂ (λ (a c : Bool). a && c) (met-now true met) (fits-now ∙ fits)

    -- the reply, by whether it fits
    written-met : (b : Bool) → nat_le (kept_with book.journal book.horizon change) book.capacity ≡ b → (if b then Done (length s.journal + 1) (found_now s change) s.clock else WrittenFull (kept_with s.journal s.horizon change) s.clock) ≡ written g change condition s
    written-met b fits =
        sym (ap (λ (c : Bool). if c then Done (length s.journal + 1) (found_now s change) s.clock else WrittenFull (kept_with s.journal s.horizon change) s.clock) (fits-now ∙ fits))
        ∙ sym (ap (λ (c : Bool). if c then (if nat_le (kept_with s.journal s.horizon change) g.capacity then Done (length s.journal + 1) (found_now s change) s.clock else WrittenFull (kept_with s.journal s.horizon change) s.clock) else Precondition (found_now s change) s.clock) (met-now true met))

    pub written-full : (bytes clock : ℕ) → bytes ≡ kept_with book.journal book.horizon change → clock ≡ s.clock → nat_le (kept_with book.journal book.horizon change) book.capacity ≡ false → WrittenFull bytes clock ≡ written g change condition s
    written-full bytes clock sum now full = (let all : bytes ≡ kept_with s.journal s.horizon change = sum ∙ ap₂ (λ (xs : List Change) (n : ℕ). kept_with xs n change) same dropped in (λ i. WrittenFull (all i) (now i))) ∙ written-met false full

    pub written-done : (commit clock : ℕ) → commit ≡ length book.journal + 1 → clock ≡ s.clock → nat_le (kept_with book.journal book.horizon change) book.capacity ≡ true → Done commit found clock ≡ written g change condition s
    written-done commit clock next now fits = (let last : commit ≡ length s.journal + 1 = next ∙ ap (λ (xs : List Change). length xs + 1) same in (λ i. Done (last i) (found-now i) (now i))) ∙ written-met true fits

    pub leaves-full : nat_le (kept_with book.journal book.horizon change) book.capacity ≡ false → s ≡ wrote g change condition s
    unfolding left
    leaves-full full = sym (ap (left change s) (accepted-now false full))

    pub leaves-done : nat_le (kept_with book.journal book.horizon change) book.capacity ≡ true → with_change change s ≡ wrote g change condition s
    unfolding left
    leaves-done fits = sym (ap (left change s) (accepted-now true fits))

-- ---- what a write would answer

-- a match ahead of a write, at its moment, changes nothing of the reply
pub foreseen-reply : (g : Setting) (s : State) (moment : ℕ) (change : Change) (condition : Condition) →
    written g change condition (at_moment s moment) ≡ written g change condition (at_moment (after_all g s (help_of s moment)) moment)
foreseen-reply g s moment change condition = by (nat_le (s.front + most_unmatched) (length s.journal))
  where
    by : (b : Bool) → written g change condition (at_moment s moment) ≡ written g change condition (at_moment (after_all g s (if b then Match moment (length s.journal) ∷ [] else [])) moment)
    by false = refl
    by true = (let same : max s.clock moment ≡ max (max s.clock moment) moment = omega arith in ap (λ (n : ℕ). written g change condition (record s { clock = n })) same)
