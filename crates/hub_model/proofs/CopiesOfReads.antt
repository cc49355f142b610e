-- The copies of a history are those of its reads.
use Rattle.std.proofs.Common.{◌≡◌, ℕ, Bool, List, [], ◌∷◌, ◌++◌, fold, refl, sym, ap, ◌∙◌, subst, inl, inr, append_assoc, append-nil, arith}
use Rattle.std.specs.List.{Contains}
use Rattle.std.proofs.lemmas.List.Elements.{Contains-append_left, Contains-append_cases, Contains-push}
use Rattle.query_normal.specs.declared.key.KeyShape.{KeyShape}
use Rattle.hub_model.specs.declared.entry.Entry.{Entry}
use Rattle.hub_model.specs.declared.entry.Entry.TheVariants.{Write, Read}
use Rattle.hub_model.specs.declared.entry.Tags.{Tags}
use Rattle.hub_model.specs.Direct.{clock_of, IsRead}
use Rattle.hub_model.specs.Lifetime.{ttl_of, kept_for, is_absent}
use Rattle.hub_model.specs.Setting.{Setting}
use Rattle.hub_model.specs.State.{IssuedCopy, State, start, at_moment}
use Rattle.hub_model.specs.Step.{after, copy_of_read, state_of}
use Rattle.hub_model.proofs.Accepted.{wrote-keeps}
use Rattle.hub_model.proofs.Copies.{only}
use Rattle.hub_model.proofs.Histories.{state_of-push, state_of-append, clock-greatest}

-- the empty list has no item
none : (r : IssuedCopy) → Contains [] r → ⊥
none r h = let k = h.1 in omega (arith, k)

-- the reply of a read at a moment
copy_at : Setting → State → ℕ → KeyShape → ℕ → IssuedCopy
copy_at g s moment key at = copy_of_read g (at_moment s moment) key at

-- what an entry adds to the copies
given : Setting → State → Entry → List IssuedCopy
given g s (Read moment key tags at) = copy_at g s moment key at ∷ []
given g s e = []

given-after : (g : Setting) (s : State) (e : Entry) → (after g s e).copies ≡ s.copies ++ given g s e
unfolding given copy_at
given-after g s (Write moment change condition) = wrote-keeps g (at_moment s moment) change condition (λ (t : State). t.copies ≡ s.copies ++ []) (sym (append-nil s.copies)) (sym (append-nil s.copies))
given-after g s (Read moment key tags at) = refl
given-after g s e = sym (append-nil s.copies)

-- what entries add
given_from : Setting → State → List Entry → List IssuedCopy
given_from g s [] = []
given_from g s (e ∷ es) = given g s e ++ given_from g (after g s e) es

-- no entry removes a copy
copies-from : (g : Setting) (s : State) (es : List Entry) → (fold (after g) s es).copies ≡ s.copies ++ given_from g s es
unfolding given_from
copies-from g s [] = sym (append-nil s.copies)
copies-from g s (e ∷ es) = copies-from g (after g s e) es ∙ ap (λ (l : List IssuedCopy). l ++ given_from g (after g s e) es) (given-after g s e) ∙ append_assoc s.copies (given g s e) (given_from g (after g s e) es)

-- a copy that entries added was added by one of them
record IsMade (g : Setting) (s : State) (es : List Entry) (r : IssuedCopy) : Type 0 where
  before : List Entry
  entry : Entry
  rest : List Entry
  split : es ≡ before ++ entry ∷ rest
  made : Contains (given g (fold (after g) s before) entry) r

made-from : (g : Setting) (s : State) (es : List Entry) (r : IssuedCopy) → Contains (given_from g s es) r → IsMade g s es r
unfolding given_from
made-from g s [] r h = absurd (none r h)
made-from g s (e ∷ es) r h = elim (Contains-append_cases (given g s e) (given_from g (after g s e) es) r h) [
  | inl here ↦ record { before = []; entry = e; rest = es; split = refl; made = here }
  | inr there ↦ (let m = made-from g (after g s e) es r there in record { before = e ∷ m.before; entry = m.entry; rest = m.rest; split = ap (λ (l : List Entry). e ∷ l) m.split; made = m.made })
]

-- of one copy
module _ (g : Setting) (key : KeyShape) (at clock ttl : ℕ) (absent : Bool) where
  abbrev copy : IssuedCopy
  copy = record { key = key; at = at; clock = clock; ttl = ttl; absent = absent }

  -- a read that made a copy is of its key and commit, with its clock and lifetime
  read_by : (before : List Entry) (e : Entry) (rest history : List Entry) → history ≡ before ++ e ∷ rest → Contains (given g (state_of g before) e) copy → IsRead g history key at clock ttl absent
  unfolding given copy_at
  read_by before (Read moment of tags commit) rest history split h =
      let e = only (copy_at g (state_of g before) moment of commit) copy h in
      let key_is : of ≡ key = ap (λ (r : IssuedCopy). r.key) e in
      let at_is : commit ≡ at = ap (λ (r : IssuedCopy). r.at) e in
      let clock_is : (at_moment (state_of g before) moment).clock ≡ clock = ap (λ (r : IssuedCopy). r.clock) e in
      let ttl_is : kept_for g (ttl_of g (at_moment (state_of g before) moment) of commit) ≡ ttl = ap (λ (r : IssuedCopy). r.ttl) e in
      let absent_is : is_absent (state_of g before) of commit ≡ absent = ap (λ (r : IssuedCopy). r.absent) e in
      let told : clock_of (before ++ Read moment key tags at ∷ []) ≡ (at_moment (state_of g before) moment).clock =
      sym (clock-greatest g (before ++ Read moment key tags at ∷ [])) ∙ ap (λ (s : State). s.clock) (state_of-push g before (Read moment key tags at)) in
      record {
        before = before;
        moment = moment;
        tags = tags;
        rest = rest;
        split = cc;
        clock_is = sym (told ∙ clock_is);
        ttl_is = cc;
        absent_is = cc;
      }
  read_by before e rest history split h = absurd (none copy h)

  -- a copy of the state is of a read
  pub read-from : (history : List Entry) → Contains (state_of g history).copies copy → IsRead g history key at clock ttl absent
  unfolding state_of
  read-from history h =
      let m = made-from g start history copy (subst (λ (l : List IssuedCopy). Contains l copy) (copies-from g start history) h) in
      read_by m.before m.entry m.rest history m.split m.made

  same_copy_at : (s : State) (moment : ℕ) → clock ≡ (at_moment s moment).clock → ttl ≡ kept_for g (ttl_of g (at_moment s moment) key at) → absent ≡ is_absent s key at → copy_at g s moment key at ≡ copy
  unfolding copy_at
  same_copy_at s moment clock_is ttl_is absent_is = sym (λ i. record { key = key; at = at; clock = clock_is i; ttl = ttl_is i; absent = absent_is i })

  made_here : (s : State) (moment : ℕ) (tags : Tags) → copy_at g s moment key at ≡ copy → Contains (after g s (Read moment key tags at)).copies copy
  unfolding copy_at
  made_here s moment tags is = subst (λ (x : IssuedCopy). Contains (s.copies ++ copy_at g s moment key at ∷ []) x) is (Contains-push s.copies (copy_at g s moment key at))

  -- and each read has its copy there
  pub from-read : (history : List Entry) → IsRead g history key at clock ttl absent → Contains (state_of g history).copies copy
  from-read history h =
      let e : Entry = Read h.moment key h.tags at in
      let told : clock_of (h.before ++ e ∷ []) ≡ (at_moment (state_of g h.before) h.moment).clock =
      sym (clock-greatest g (h.before ++ e ∷ [])) ∙ ap (λ (s : State). s.clock) (state_of-push g h.before e) in
      let is : copy_at g (state_of g h.before) h.moment key at ≡ copy = same_copy_at (state_of g h.before) h.moment (h.clock_is ∙ told) h.ttl_is h.absent_is in
      let here : Contains (after g (state_of g h.before) e).copies copy = made_here (state_of g h.before) h.moment h.tags is in
      let later : Contains (fold (after g) (after g (state_of g h.before) e) h.rest).copies copy = subst (λ (l : List IssuedCopy). Contains l copy) (sym (copies-from g (after g (state_of g h.before) e) h.rest)) (Contains-append_left (after g (state_of g h.before) e).copies (given_from g (after g (state_of g h.before) e) h.rest) copy here) in
      subst (λ (l : List Entry). Contains (state_of g l).copies copy) (sym h.split) (subst (λ (s : State). Contains s.copies copy) (sym (state_of-append g h.before (e ∷ h.rest))) later)
