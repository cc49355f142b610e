-- The reading of a filter's text, and its grammar.
use Rattle.std.proofs.Common.{◌≡◌, ℕ, Bool, true, false, cond, nat_lt, List, [], Result, Ok, Err, refl, sym, ap, ◌∙◌, subst}
use Rattle.query_core.specs.Filters.{Filter, height}
use Rattle.query_core.specs.Limits.{leaves}
use Rattle.query_lang.specs.declared.filter_reader.PathUse.TheVariants.{Exists as ForExists}
use Rattle.query_lang.specs.declared.filter_reader.Pending.{Pending}
use Rattle.query_lang.specs.declared.filter_reader.Pending.TheVariants as pending
use Rattle.query_lang.specs.declared.refusal.Cause.{Cause}
use Rattle.query_lang.specs.FilterReading.{State, start, on_token, on_operand, segment_at, item_at, on_exists, on_path, on_value, on_list, on_first_item, on_after_item, on_joint, ended, judged_if, without_pending, filter_rules, read_filter}
use Rattle.query_lang.specs.FilterText.{IsFilterText, decided, capped, IsWhole}
use Rattle.query_lang.specs.declared.refusal.QueryRefusal.TheVariants.{TooMany, TooDeep}
use Rattle.query_lang.specs.Spelling.{Tokenizes}
use Rattle.query_lang.specs.Grammar.{filter_tokens, filter_meaning}
use Rattle.query_lang.specs.Tokens.{bad_number}
use Rattle.query_lang.proofs.Completeness.{whole_filter}
use Rattle.query_lang.proofs.Readings.{refusal_not_whole, written_read, read_written}
use Rattle.query_lang.proofs.Runs.{outcome}
use Rattle.query_lang.proofs.Soundness.{outcome_has_tree}

-- the end of a text does not depend on its length where it is good
end_alike : (m n : ℕ) (r : Result State Cause) → IsWhole (judged_if m r) → judged_if n r ≡ judged_if m r
end_alike m n (Ok s) good = refl
end_alike m n (Err e) good = absurd (refusal_not_whole Filter 102 m e good)

alike : (m n : ℕ) (s : State) → IsWhole (filter_rules.ends m s) → filter_rules.ends n s ≡ filter_rules.ends m s
alike m n s good = end_alike m n (ended s.pending (without_pending s)) good

-- a refused number is taken nowhere
no_bad_token : (p : Pending) (s s' : State) → on_token p s bad_number ≡ Ok s' → ⊥
unfolding on_token on_operand segment_at item_at on_exists on_path on_value on_list on_first_item on_after_item on_joint
no_bad_token (pending.Path ForExists path) s s' e = cc
no_bad_token p s s' e = cc

-- ---- the grammar

whole_choice : (a b : Bool) (m n : ℕ) (f : Filter) → IsWhole (cond a (Err (TooMany m)) (cond b (Err (TooDeep n)) (Ok f)))
whole_choice true b m n f = tt
whole_choice false true m n f = tt
whole_choice false false m n f = tt

whole_decided : (f : Filter) → IsWhole (decided f)
whole_decided f = whole_choice (nat_lt 256 (leaves f)) (nat_lt 32 (height f)) (capped (leaves f)) (capped (height f)) f

-- a text of the grammar is read as what it means, where that is within the limits
pub text_read : (bytes : List ℕ) (f : Filter) → IsFilterText bytes f → read_filter bytes ≡ decided f
unfolding read_filter
text_read bytes f text =
    let whole = whole_filter text.tree text.fits ∙ ap decided text.means in
    written_read filter_rules alike bytes (filter_tokens text.tree []) start text.tokenizes (subst IsWhole (sym whole) (whole_decided f)) ∙ whole

-- what is read well is a text of the grammar
pub read_text : (bytes : List ℕ) → IsWhole (read_filter bytes) → (f : Filter) × IsFilterText bytes f × (read_filter bytes ≡ decided f)
unfolding read_filter
read_text bytes good =
    let (ts, tokenizes, same) = read_written filter_rules alike (λ s s' e. no_bad_token s.pending (without_pending s) s' e) bytes start good in
    let (tree, fits, tree_tokens) = outcome_has_tree ts (subst IsWhole (sym same) good) in (
      filter_meaning tree,
      record { tree = tree; tokenizes = subst (Tokenizes bytes) (sym tree_tokens) tokenizes; fits = fits; means = refl },
      sym same ∙ ap (outcome start) (sym tree_tokens) ∙ whole_filter tree fits,
    )
