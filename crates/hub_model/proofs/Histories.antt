-- What one entry more does to a history, and what the fold's clock and front are.
use Rattle.std.proofs.Common.{◌≡◌, ℕ, ◌+◌, ◌≤◌, max, List, [], ◌∷◌, ◌++◌, length, map, fold, Some, None, refl, ap, ◌∙◌, arith, length-append}
use Rattle.std.specs.Prelude.{unwrap_or}
use Rattle.std.specs.List.{filter_map, last_or}
use Rattle.std.proofs.lemmas.List.Sums.{fold-append}
use Rattle.hub_model.specs.declared.entry.Entry.{Entry}
use Rattle.hub_model.specs.declared.entry.Entry.TheVariants.{Write, Match, Horizon}
use Rattle.hub_model.specs.Direct.{clock_of, to_of, front_of, dropped_to, horizon_of}
use Rattle.hub_model.specs.Legal.{MayFollow, IsLegalFrom, IsLegal}
use Rattle.hub_model.specs.Setting.{Setting}
use Rattle.hub_model.specs.State.{State, start, at_moment}
use Rattle.hub_model.specs.Step.{after, after_all, moment_of, state_of}
use Rattle.hub_model.proofs.Accepted.{wrote-keeps}

-- ---- one entry more, and more entries

-- no entry leaves the first state
pub state_of-none : (g : Setting) → state_of g [] ≡ start
unfolding state_of
state_of-none g = refl

-- the state of a history with one entry more
pub state_of-push : (g : Setting) (history : List Entry) (e : Entry) → state_of g (history ++ e ∷ []) ≡ after g (state_of g history) e
unfolding state_of
state_of-push g history e = fold-append (after g) start history (e ∷ [])

-- the state of a history with more entries
pub state_of-append : (g : Setting) (history more : List Entry) → state_of g (history ++ more) ≡ after_all g (state_of g history) more
unfolding state_of
state_of-append g history more = fold-append (after g) start history more

-- a history without entries is legal
pub legal-none : (g : Setting) → IsLegal g []
unfolding IsLegal
legal-none g = tt

legal_from-append : (g : Setting) (s : State) (history more : List Entry) → IsLegalFrom g s history → IsLegalFrom g (after_all g s history) more → IsLegalFrom g s (history ++ more)
legal_from-append g s [] more legal rest = rest
legal_from-append g s (e ∷ es) more legal rest = (legal.0, legal_from-append g (after g s e) es more legal.1 rest)

legal_from-parts : (g : Setting) (s : State) (history more : List Entry) → IsLegalFrom g s (history ++ more) → IsLegalFrom g s history × IsLegalFrom g (after_all g s history) more
legal_from-parts g s [] more legal = (tt, legal)
legal_from-parts g s (e ∷ es) more legal = (let parts = legal_from-parts g (after g s e) es more legal.1 in ((legal.0, parts.0), parts.1))

-- a legal history stays legal by an entry that may follow
pub legal-push : (g : Setting) (history : List Entry) (e : Entry) → IsLegal g history → MayFollow g (state_of g history) e → IsLegal g (history ++ e ∷ [])
unfolding IsLegal state_of
legal-push g history e legal may = legal_from-append g start history (e ∷ []) legal (may, tt)

-- what entries make of the first state is the state of a history
pub state_of-whole : (g : Setting) (history : List Entry) → state_of g history ≡ after_all g start history
unfolding state_of
state_of-whole g history = refl

-- a legal history stays legal by entries of which each may follow
pub legal-append : (g : Setting) (history more : List Entry) → IsLegal g history → IsLegalFrom g (state_of g history) more → IsLegal g (history ++ more)
unfolding IsLegal state_of
legal-append g history more legal rest = legal_from-append g start history more legal rest

-- a longer legal history is legal up to there, and goes on legally
pub legal-parts : (g : Setting) (history more : List Entry) → IsLegal g (history ++ more) → IsLegal g history × IsLegalFrom g (state_of g history) more
unfolding IsLegal state_of
legal-parts g history more legal = legal_from-parts g start history more legal

-- ---- the clock

clock-after : (g : Setting) (s : State) (e : Entry) → (after g s e).clock ≡ max s.clock (moment_of e)
clock-after g s (Write moment change condition) = wrote-keeps g (at_moment s moment) change condition (λ (t : State). t.clock ≡ max s.clock moment) refl refl
clock-after g s e = refl

clock-from : (g : Setting) (s : State) (history : List Entry) → (after_all g s history).clock ≡ fold max s.clock (map moment_of history)
clock-from g s [] = refl
clock-from g s (e ∷ es) = clock-from g (after g s e) es ∙ ap (λ (n : ℕ). fold max n (map moment_of es)) (clock-after g s e)

pub clock-greatest : (g : Setting) (history : List Entry) → (state_of g history).clock ≡ clock_of history
unfolding state_of
clock-greatest g history = clock-from g start history

-- ---- the front

front-after : (g : Setting) (s : State) (e : Entry) (es : List Entry) → unwrap_or (last_or (Some (after g s e).front) (filter_map to_of es)) 0 ≡ unwrap_or (last_or (Some s.front) (filter_map to_of (e ∷ es))) 0
front-after g s (Write moment change condition) es = wrote-keeps g (at_moment s moment) change condition (λ (t : State). unwrap_or (last_or (Some t.front) (filter_map to_of es)) 0 ≡ unwrap_or (last_or (Some s.front) (filter_map to_of es)) 0) refl refl
front-after g s e es = refl

front-from : (g : Setting) (s : State) (history : List Entry) → (after_all g s history).front ≡ unwrap_or (last_or (Some s.front) (filter_map to_of history)) 0
front-from g s [] = refl
front-from g s (e ∷ es) = front-from g (after g s e) es ∙ front-after g s e es

-- 0 before a list of numbers is as good as nothing
last_or-zero : (ns : List ℕ) → unwrap_or (last_or (Some 0) ns) 0 ≡ unwrap_or (last_or None ns) 0
last_or-zero [] = refl
last_or-zero (n ∷ ns) = refl

pub front-last : (g : Setting) (history : List Entry) → (state_of g history).front ≡ front_of history
unfolding state_of
front-last g history = front-from g start history ∙ last_or-zero (filter_map to_of history)

-- ---- the horizon

horizon-after : (g : Setting) (s : State) (e : Entry) (es : List Entry) → unwrap_or (last_or (Some (after g s e).horizon) (filter_map dropped_to es)) 0 ≡ unwrap_or (last_or (Some s.horizon) (filter_map dropped_to (e ∷ es))) 0
horizon-after g s (Write moment change condition) es = wrote-keeps g (at_moment s moment) change condition (λ (t : State). unwrap_or (last_or (Some t.horizon) (filter_map dropped_to es)) 0 ≡ unwrap_or (last_or (Some s.horizon) (filter_map dropped_to es)) 0) refl refl
horizon-after g s e es = refl

horizon-from : (g : Setting) (s : State) (history : List Entry) → (after_all g s history).horizon ≡ unwrap_or (last_or (Some s.horizon) (filter_map dropped_to history)) 0
horizon-from g s [] = refl
horizon-from g s (e ∷ es) = horizon-from g (after g s e) es ∙ horizon-after g s e es

pub horizon-last : (g : Setting) (history : List Entry) → (state_of g history).horizon ≡ horizon_of history
unfolding state_of
horizon-last g history = horizon-from g start history ∙ last_or-zero (filter_map dropped_to history)

-- ---- what every legal history keeps

-- the front is not above the number of commits
within-after : (g : Setting) (s : State) (e : Entry) → s.front ≤ length s.journal → MayFollow g s e → (after g s e).front ≤ length (after g s e).journal
within-after g s (Write moment change condition) h may = wrote-keeps g (at_moment s moment) change condition (λ (t : State). t.front ≤ length t.journal) (let size = length-append s.journal (change ∷ []) in omega (arith, size, h)) h
within-after g s (Match moment to) h may = may.0.1
within-after g s e h may = h

within-from : (g : Setting) (s : State) (history : List Entry) → s.front ≤ length s.journal → IsLegalFrom g s history → (after_all g s history).front ≤ length (after_all g s history).journal
within-from g s [] h legal = h
within-from g s (e ∷ es) h legal = within-from g (after g s e) es (within-after g s e h legal.0) legal.1

pub front-within : (g : Setting) (history : List Entry) → IsLegal g history → (state_of g history).front ≤ length (state_of g history).journal
unfolding IsLegal state_of
front-within g history legal = within-from g start history (omega arith) legal

-- the horizon is not above the front
kept-after : (g : Setting) (s : State) (e : Entry) → s.horizon ≤ s.front → MayFollow g s e → (after g s e).horizon ≤ (after g s e).front
kept-after g s (Write moment change condition) h may = wrote-keeps g (at_moment s moment) change condition (λ (t : State). t.horizon ≤ t.front) h h
kept-after g s (Match moment to) h may = (let up = may.0.0 in omega (arith, h, up))
kept-after g s (Horizon moment to) h may = may.0.1
kept-after g s e h may = h

kept-from : (g : Setting) (s : State) (history : List Entry) → s.horizon ≤ s.front → IsLegalFrom g s history → (after_all g s history).horizon ≤ (after_all g s history).front
kept-from g s [] h legal = h
kept-from g s (e ∷ es) h legal = kept-from g (after g s e) es (kept-after g s e h legal.0) legal.1

pub horizon-within : (g : Setting) (history : List Entry) → IsLegal g history → (state_of g history).horizon ≤ (state_of g history).front
unfolding IsLegal state_of
horizon-within g history legal = kept-from g start history (omega arith) legal

-- ---- the number of commits

-- an entry adds one at most
more-after : (g : Setting) (s : State) (e : Entry) → length (after g s e).journal ≤ length s.journal + 1
more-after g s (Write moment change condition) = wrote-keeps g (at_moment s moment) change condition (λ (t : State). length t.journal ≤ length s.journal + 1) (let size = length-append s.journal (change ∷ []) in omega (arith, size)) (omega arith)
more-after g s e = omega arith

more-from : (g : Setting) (s : State) (history : List Entry) → length (after_all g s history).journal ≤ length s.journal + length history
more-from g s [] = omega arith
more-from g s (e ∷ es) = (let first = more-after g s e in let rest = more-from g (after g s e) es in omega (arith, first, rest))

pub commits-few : (g : Setting) (history : List Entry) → length (state_of g history).journal ≤ length history
unfolding state_of
commits-few g history = (let few : length (state_of g history).journal ≤ length start.journal + length history = more-from g start history in omega (arith, few))
