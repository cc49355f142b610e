-- What stays true of a connection in a longer history.
use Rattle.std.proofs.Common.{◌≡◌, ℕ, ◌+◌, ◌++◌, Bool, List, [], ◌∷◌, length, All, refl, sym, ap, ◌∙◌, subst, append_assoc, length-append}
use Rattle.std.specs.List.{enumerate_from}
use Rattle.std.proofs.lemmas.List.Elements.{All-nil, All-cons, All-append}
use Rattle.dialogue.specs.Dialogue.{Sides, Exchange, Answered}
use Rattle.http_message.specs.Item.{Item}
use Rattle.hub_model.specs.declared.entry.Entry.{Entry}
use Rattle.hub_model.specs.Desk.{IsPrefix, Makes}
use Rattle.hub_model.specs.Reply.{Replied}
use Rattle.hub_model.specs.Setting.{Setting}
use Rattle.q_outside.specs.declared.served.Served.{Served}
use Rattle.quaestor_server.specs.Answer.{serves, fails}
use Rattle.quaestor_server.specs.Conversation.{ConnectionState, Replies}
use Rattle.quaestor_server.specs.WellServed.{WellServed, HasEntryAt}
use Rattle.quaestor_server.proofs.PrefixLemmas.{prefix_trans}

-- a connection that was well served stays so
pub well_stays : (g : Setting) (unready : Bool) (history longer : List Entry) (moments : List ℕ) (entered : List Bool) (before after : Sides) (own : List (ℕ × Entry)) (served : Served) → IsPrefix history longer → WellServed g unready history moments entered before after own served → WellServed g unready longer moments entered before after own served
well_stays g unready history longer moments entered before after own served p w =
    record { begins = w.begins; ends = w.ends; beginning = prefix_trans w.ends history longer w.beginning p; dialogue = w.dialogue }

-- an entry is in place in every longer history
still_at : (history longer : List Entry) (own : ℕ × Entry) → IsPrefix history longer → HasEntryAt history own → HasEntryAt longer own
still_at history longer own p at =
    let joined : (at.0 ++ own.1 ∷ at.1) ++ p.0 ≡ at.0 ++ own.1 ∷ (at.1 ++ p.0) = append_assoc at.0 (own.1 ∷ at.1) p.0 in
    let here : history ≡ at.0 ++ own.1 ∷ at.1 = at.2 in
    let there : history ++ p.0 ≡ longer = p.1 in
    (at.0, at.1 ++ p.0, sym there ∙ ap (λ (l : List Entry). l ++ p.0) here ∙ joined, at.3)

-- so do all of a list
all_still : (history longer : List Entry) (own : List (ℕ × Entry)) → IsPrefix history longer → All (HasEntryAt history) own → All (HasEntryAt longer) own
all_still history longer own p all = λ k d below. still_at history longer _ p (all k d below)

-- entries that are numbered after others are in place after them
numbered : (before more : List Entry) → All (HasEntryAt (before ++ more)) (enumerate_from (length before) more)
numbered before [] = All-nil (HasEntryAt (before ++ []))
numbered before (e ∷ es) =
    let joined : (before ++ e ∷ []) ++ es ≡ before ++ (e ∷ es) = append_assoc before (e ∷ []) es in
    let size : length (before ++ e ∷ []) ≡ length before + 1 = length-append before (e ∷ []) in
    let rest : All (HasEntryAt (before ++ (e ∷ es))) (enumerate_from (length (before ++ e ∷ [])) es) = subst (λ (l : List Entry). All (HasEntryAt l) (enumerate_from (length (before ++ e ∷ [])) es)) joined (numbered (before ++ e ∷ []) es) in
    All-cons (HasEntryAt (before ++ (e ∷ es))) (length before, e) (enumerate_from (length before + 1) es) (before, es, refl, refl)
    (subst (λ (n : ℕ). All (HasEntryAt (before ++ (e ∷ es))) (enumerate_from n es)) size rest)

-- what a call made is where it says
adds_made : (g : Setting) (old new : List Entry) (mine mine_new : List (ℕ × Entry)) (e : Entry) (told : Replied) → Makes g old new mine mine_new e told → All (HasEntryAt old) mine → All (HasEntryAt new) mine_new
adds_made g old new mine mine_new e told m all =
    let whole : new ≡ m.before ++ (m.helps ++ e ∷ []) = m.seen ∙ append_assoc m.before m.helps (e ∷ []) in
    let rest : IsPrefix m.before new = (m.helps ++ e ∷ [], sym whole) in
    let grew : IsPrefix old new = prefix_trans old m.before new m.grew rest in
    let more : All (HasEntryAt new) (enumerate_from (length m.before) (m.helps ++ e ∷ [])) = subst (λ (l : List Entry). All (HasEntryAt l) (enumerate_from (length m.before) (m.helps ++ e ∷ []))) (sym whole) (numbered m.before (m.helps ++ e ∷ [])) in
    subst (λ (l : List (ℕ × Entry)). All (HasEntryAt new) l) (sym m.mine) (All-append (HasEntryAt new) mine (enumerate_from (length m.before) (m.helps ++ e ∷ [])) (all_still old new mine grew all) more)

-- so it is after each answer
adds_answer : (g : Setting) (unready : Bool) (a b : ConnectionState) (item : Item) (close : Bool) (text : List ℕ) → Replies g unready a item close text b → All (HasEntryAt a.seen) a.mine → All (HasEntryAt b.seen) b.mine
adds_answer g unready a b item close text r all = elim r.at.shows.answer [
  | serves s ↦ adds_made g a.seen b.seen a.mine b.mine s.entry s.replied s.made all
  | fails why f ↦ subst (λ (l : List (ℕ × Entry)). All (HasEntryAt b.seen) l) (sym f.learns.mine) (all_still a.seen b.seen a.mine f.learns.grew all)
]

-- and after a list of them
all_adds : (g : Setting) (unready : Bool) (count : ℕ) (first last : ConnectionState) (xs : List Exchange) → Answered (Replies g unready) count first xs last → All (HasEntryAt first.seen) first.mine → All (HasEntryAt last.seen) last.mine
all_adds g unready count first last [] t all = subst (λ (s : ConnectionState). All (HasEntryAt s.seen) s.mine) t all
all_adds g unready count first last (x ∷ xs) t all = all_adds g unready (count + 1) t.0 last xs t.2 (adds_answer g unready first t.0 x.item _ x.answer t.1 all)

-- the entries of a connection that was well served are in place in the history
pub own_are_in_place : (g : Setting) (unready : Bool) (history : List Entry) (moments : List ℕ) (entered : List Bool) (before after : Sides) (own : List (ℕ × Entry)) (served : Served) → WellServed g unready history moments entered before after own served → All (HasEntryAt history) own
own_are_in_place g unready history moments entered before after own served w =
    all_still w.ends history own w.beginning (all_adds g unready 0 _ _ w.dialogue.passed.exchanges w.dialogue.answered (All-nil (HasEntryAt w.begins)))
