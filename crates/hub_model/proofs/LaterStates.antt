-- Which states are later.
use Rattle.std.proofs.Common.{◌≡◌, ℕ, ◌≤◌, List, [], ◌∷◌, ◌++◌, refl, sym, ap, ◌∙◌, subst, append_assoc, append-nil, arith}
use Rattle.std.proofs.lemmas.List.Elements.{All-nil, All-cons, All-append, All-weaker}
use Rattle.hub_model.specs.declared.entry.Entry.{Entry}
use Rattle.hub_model.specs.declared.entry.Entry.TheVariants.{Write, Read, Match, Horizon}
use Rattle.hub_model.specs.Desk.{IsPrefix}
use Rattle.hub_model.specs.Later.{IsLater}
use Rattle.hub_model.specs.Legal.{MayFollow, IsLegalFrom, IsLegal}
use Rattle.hub_model.specs.Setting.{Setting}
use Rattle.hub_model.specs.State.{IssuedCopy, State, at_moment}
use Rattle.hub_model.specs.Step.{after, after_all, copy_of_read, moment_of, state_of}
use Rattle.hub_model.proofs.Accepted.{wrote-keeps}
use Rattle.hub_model.proofs.Histories.{state_of-append, legal-parts}

-- ---- the order

-- the copy is of no commit below the front of the state
abbrev IsFrom : State → IssuedCopy → Type 0
IsFrom s r = s.front ≤ r.at

-- a state with another clock, which is no earlier
later_clock : (s : State) (moment : ℕ) → s.clock ≤ moment → IsLater s (record s { clock = moment })
later_clock s moment late =
    record {
      clock = late;
      front = omega arith;
      horizon = omega arith;
      commits = [];
      journal = sym (append-nil s.journal);
      issued = [];
      copies = sym (append-nil s.copies);
      fresh = All-nil (IsFrom s);
    }

pub later_itself : (s : State) → IsLater s s
later_itself s = later_clock s s.clock (omega arith)

joined : {X : Type 0} (xs ys zs more others : List X) → ys ≡ xs ++ more → zs ≡ ys ++ others → zs ≡ xs ++ (more ++ others)
joined xs ys zs more others first second = second ∙ ap (λ l. l ++ others) first ∙ append_assoc xs more others

pub later_onward : (s t u : State) → IsLater s t → IsLater t u → IsLater s u
later_onward s t u a b =
    let rises = a.front in
    let dropped = a.horizon in
    record {
      clock = (let x = a.clock in let y = b.clock in omega (arith, x, y));
      front = (let y = b.front in omega (arith, rises, y));
      horizon = (let y = b.horizon in omega (arith, dropped, y));
      commits = a.commits ++ b.commits;
      journal = joined s.journal t.journal u.journal a.commits b.commits a.journal b.journal;
      issued = a.issued ++ b.issued;
      copies = joined s.copies t.copies u.copies a.issued b.issued a.copies b.copies;
      fresh = All-append (IsFrom s) a.issued b.issued a.fresh (All-weaker (IsFrom t) (IsFrom s) (λ r h. omega (arith, h, rises)) b.issued b.fresh);
    }

-- ---- histories

-- an entry that may follow leaves a later state
later_after : (g : Setting) (s : State) (e : Entry) → MayFollow g s e → IsLater s (after g s e)
later_after g s (Write moment change condition) may =
    wrote-keeps g (at_moment s moment) change condition (λ (t : State). IsLater s t)
    (record { clock = omega arith; front = omega arith; horizon = omega arith; commits = change ∷ []; journal = refl; issued = []; copies = sym (append-nil s.copies); fresh = All-nil (IsFrom s) })
    (later_clock s (at_moment s moment).clock (omega arith))
later_after g s (Read moment key tags at) may =
    let r : IssuedCopy = copy_of_read g (at_moment s moment) key at in
    record { clock = omega arith; front = omega arith; horizon = omega arith; commits = []; journal = sym (append-nil s.journal); issued = r ∷ []; copies = refl; fresh = All-cons (IsFrom s) r [] may.0.0 (All-nil (IsFrom s)) }
later_after g s (Match moment to) may =
    record { clock = omega arith; front = (let up = may.0.0 in omega (arith, up)); horizon = omega arith; commits = []; journal = sym (append-nil s.journal); issued = []; copies = sym (append-nil s.copies); fresh = All-nil (IsFrom s) }
later_after g s (Horizon moment to) may =
    record { clock = omega arith; front = omega arith; horizon = (let up = may.0.0 in omega (arith, up)); commits = []; journal = sym (append-nil s.journal); issued = []; copies = sym (append-nil s.copies); fresh = All-nil (IsFrom s) }
later_after g s e may = later_clock s (at_moment s (moment_of e)).clock (omega arith)

later_from : (g : Setting) (s : State) (es : List Entry) → IsLegalFrom g s es → IsLater s (after_all g s es)
later_from g s [] legal = later_itself s
later_from g s (e ∷ es) legal = later_onward s (after g s e) (after_all g (after g s e) es) (later_after g s e legal.0) (later_from g (after g s e) es legal.1)

-- a history that begins a legal one, with what it goes on by
begun : (g : Setting) (history longer : List Entry) (begins : IsPrefix history longer) → IsLegal g longer → IsLegal g history × IsLegalFrom g (state_of g history) begins.0
begun g history longer begins legal = legal-parts g history begins.0 (subst (λ (l : List Entry). IsLegal g l) (sym begins.1) legal)

pub legal_beginning : (g : Setting) (history longer : List Entry) → IsPrefix history longer → IsLegal g longer → IsLegal g history
legal_beginning g history longer begins legal = (begun g history longer begins legal).0

pub later_longer : (g : Setting) (history longer : List Entry) → IsPrefix history longer → IsLegal g longer → IsLater (state_of g history) (state_of g longer)
later_longer g history longer begins legal =
    let goes_on = (begun g history longer begins legal).1 in
    subst (λ (l : List Entry). IsLater (state_of g history) (state_of g l)) begins.1
    (subst (λ (s : State). IsLater (state_of g history) s) (sym (state_of-append g history begins.0)) (later_from g (state_of g history) begins.0 goes_on))

-- the front never falls
pub front-never_falls : (g : Setting) (history more : List Entry) → IsLegal g (history ++ more) → (state_of g history).front ≤ (state_of g (history ++ more)).front
front-never_falls g history more legal = (later_longer g history (history ++ more) (more, refl) legal).front

-- nor does the horizon
pub horizon-never_falls : (g : Setting) (history more : List Entry) → IsLegal g (history ++ more) → (state_of g history).horizon ≤ (state_of g (history ++ more)).horizon
horizon-never_falls g history more legal = (later_longer g history (history ++ more) (more, refl) legal).horizon
