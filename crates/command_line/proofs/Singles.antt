-- clap has at most one kind of error for the words of a command without subcommands.
use Rattle.std.proofs.Common.{◌≡◌, ◌==◌, ◌&&◌, ◌||◌, ℕ, zero, suc, ◌+◌, Bool, true, false, not, List, [], ◌∷◌, length, min, drop, Option, Some, None, is_some, if◌then◌else◌, nat_lt, sym, ◌∙◌, subst, inl, inr}
use Rattle.std.specs.Prelude.{codes, encode_utf8, slice_get}
use Rattle.std.specs.Option.{option_map_or}
use Rattle.std.specs.Str.{bytes_eq, chars}
use Rattle.clap.specs.Lexer.{long_of, short_of}
use Rattle.clap.specs.Matches.{count_text}
use Rattle.clap.specs.Facts.{parser_of_value, unwrap_or_range}
use Rattle.clap.specs.Values.{refused_kind}
use Rattle.clap.specs.ValueTests.{accepts}
use Rattle.clap.specs.Walk.{Held, Names, Row, Rule, Step, Text, Waiting, Walk, action_of, arg_by_id, arg_by_index, arg_by_long, arg_by_short, attached_value, count_of, has_row, is_empty, is_pending, most_values, nothing_held, reacted, settled, subcommand_met, takes_several, takes_values, value, next, trailing, subcommand, values_or_missing, walk, walk_from, walked, with_default, word_met}
use Rattle.clap.specs.Simple.{App, Shape, argument_words, built}
use Rattle.clap.specs.Kinds.{Kinds, IsAmong, check_kinds, or_else, range_kinds, request_kinds, value_kinds, values_kinds}
use Rattle.clap.specs.Faults.{values_fault, count_fault, repeat_fault, set_fault, action_fault, use_fault, settle_fault, react_fault, option_fault, long_fault, short_fault, bundle_step_fault, flags_fault, flag_word_fault, other_fault, word_fault, stray_fault, step_fault, turn_fault, walk_fault, default_fault, defaults_fault, level_fault, fault_of}
use Rattle.clap.specs.declared.builder.action.ArgAction.{ArgAction}
use Rattle.clap.specs.declared.builder.action.ArgAction.TheVariants as action
use Rattle.clap.specs.declared.builder.value_parser.ValueParser.{ValueParser}
use Rattle.clap.specs.declared.error.kind.ErrorKind.{ErrorKind}
use Rattle.clap.specs.declared.error.kind.ErrorKind.TheVariants as kind
use Rattle.clap.proofs.FaultLemmas.{leaf_fault}

-- the list has at most one kind
abbrev pub Single : Kinds → Type 0
Single kinds = (a b : ErrorKind) → IsAmong a kinds → IsAmong b kinds → a ≡ b

none : Single []
none a b p q = absurd p

one : (k : ErrorKind) → Single (k ∷ [])
one k a b (inl p) (inl q) = p ∙ sym q
one k a b (inl p) (inr q) = absurd q
one k a b (inr p) q = absurd p

either : (b : Bool) (xs ys : Kinds) → Single xs → Single ys → Single (if b then xs else ys)
either true xs ys s t = s
either false xs ys s t = t

both : (xs ys : Kinds) → Single xs → Single ys → Single (or_else xs ys)
both [] ys s t = t
both (x ∷ xs) ys s t = s

maybe : {A : Type 0} (f : A → Kinds) (o : Option A) (d : Kinds) → ((a : A) → Single (f a)) → Single d → Single (option_map_or f o d)
maybe f None d s t = t
maybe f (Some a) d s t = s a

value_single : (i : Bool) (p : ValueParser) (t : Text) → Single (value_kinds i p t)
value_single i p t = either (accepts i p t) [] (refused_kind p ∷ []) none (one (refused_kind p))

values_single : (i : Bool) (p : ValueParser) (ts : List Text) → Single (values_kinds i p ts)
values_single i p [] = none
values_single i p (t ∷ ts) = both (value_kinds i p t) (values_kinds i p ts) (value_single i p t) (values_single i p ts)

range_single : (least most n : ℕ) → Single (range_kinds least most n)
range_single least most n =
    either (nat_lt 0 least && n == 0) _ _ (one kind.InvalidValue)
    (either (least == most) _ _ (either (least == n) _ _ none (one kind.WrongNumberOfValues))
    (either (nat_lt n least) _ _ (one kind.TooFewValues) (either (nat_lt most n) _ _ (one kind.TooManyValues) none)))

request_single : (x : ArgAction) → Single (request_kinds x)
request_single action.Help = one kind.DisplayHelp
request_single action.HelpShort = one kind.DisplayHelp
request_single action.HelpLong = one kind.DisplayHelp
request_single action.Version = one kind.DisplayVersion
request_single action.Set = none
request_single action.Append = none
request_single action.SetTrue = none
request_single action.SetFalse = none
request_single action.Count = none

check_single : (a b c : Bool) → Single (check_kinds a b c)
check_single a b c = either a _ _ (one kind.DisplayHelpOnMissingArgumentOrSubcommand) (either b _ _ (one kind.MissingSubcommand) (either c _ _ (one kind.MissingRequiredArgument) none))

-- one use of an argument
parsed_single : (a : Rule) (ts : List Text) → Single (values_fault a ts)
parsed_single a ts = values_single a.ignore_case (parser_of_value a.parser) ts

count_single : (a : Rule) (ts : List Text) (rows : List Row) → Single (count_fault a ts rows)
count_single a [] rows = value_single a.ignore_case (parser_of_value a.parser) (count_text (min (count_of a.id rows + 1) 255))
count_single a (t ∷ ts) rows = parsed_single a (t ∷ ts)

set_single : (again : Bool) (a : Rule) (ts : List Text) (rows : List Row) → Single (set_fault again a ts rows)
set_single again a ts rows = both (repeat_fault again a.id rows) (values_fault a ts) (either (has_row a.id rows && not again) _ _ (one kind.ArgumentConflict) none) (parsed_single a ts)

action_single : (x : ArgAction) (again : Bool) (a : Rule) (ts : List Text) (rows : List Row) → Single (action_fault x again a ts rows)
action_single action.Set again a ts rows = set_single again a ts rows
action_single action.SetTrue again a ts rows = set_single again a ts rows
action_single action.SetFalse again a ts rows = set_single again a ts rows
action_single action.Append again a ts rows = parsed_single a ts
action_single action.Count again a ts rows = count_single a ts rows
action_single action.Help again a ts rows = request_single action.Help
action_single action.HelpShort again a ts rows = request_single action.HelpShort
action_single action.HelpLong again a ts rows = request_single action.HelpLong
action_single action.Version again a ts rows = request_single action.Version

use_single : (again : Bool) (a : Rule) (ts : List Text) (rows : List Row) → Single (use_fault again a ts rows)
use_single again a ts rows =
    both _ _ (range_single (unwrap_or_range a.range).start_inclusive (most_values a) (length ts)) (action_single (action_of a) again a (values_or_missing a ts) rows)

-- the walk over the words
settle_single : (c : List Rule) (again : Bool) (h : Held) → Single (settle_fault c again h)
settle_single c again h = maybe _ h.pending [] (λ p. maybe _ (arg_by_id c p.0) [] (λ a. use_single again a p.1 h.rows) none) none

react_single : (c : List Rule) (again : Bool) (a : Rule) (ts : List Text) (h : Held) → Single (react_fault c again a ts h)
react_single c again a ts h = both _ _ (settle_single c again h) (use_single again a ts (settled c h).rows)

option_single : (c : List Rule) (again : Bool) (a : Rule) (v : Option Text) (h : Held) → Single (option_fault c again a v h)
option_single c again a (Some v) h = react_single c again a (v ∷ []) h
option_single c again a None h = settle_single c again h

long_single : (c : List Rule) (again : Bool) (o : Option Rule) (v : Option Text) (h : Held) → Single (long_fault c again o v h)
long_single c again None v h = one kind.UnknownArgument
long_single c again (Some a) v h = either (takes_values a) _ _ (option_single c again a v h) (either (is_some v) _ _ (one kind.TooManyValues) (react_single c again a [] h))

short_single : (c : List Rule) (again : Bool) (o : Option Rule) (rest : Text) (h : Held) (go : Held → Kinds) → ((k : Held) → Single (go k)) → Single (short_fault c again o rest h go)
short_single c again None rest h go s = one kind.UnknownArgument
short_single c again (Some a) rest h go s = either (takes_values a) _ _ (option_single c again a (attached_value rest) h) (both _ _ (react_single c again a [] h) (s (reacted c a [] h)))

bundle_single : (c : List Rule) (again : Bool) (o : Option ℕ) (flags : Text) (skip : ℕ) (h : Held) (go : Text → ℕ → Held → Kinds) → ((t : Text) (n : ℕ) (k : Held) → Single (go t n k)) → Single (bundle_step_fault c again o flags skip h go)
bundle_single c again None flags skip h go s = none
bundle_single c again (Some x) flags zero h go s = short_single c again (arg_by_short c x) _ h _ (s (drop (length (encode_utf8 x)) flags) 0)
bundle_single c again (Some x) flags (suc skip) h go s = s (drop (length (encode_utf8 x)) flags) skip h

flags_single : (c : List Rule) (again : Bool) (k : ℕ) (flags : Text) (skip : ℕ) (h : Held) → Single (flags_fault c again k flags skip h)
unfolding flags_fault
flags_single c again zero flags skip h = none
flags_single c again (suc k) flags skip h = bundle_single c again (slice_get (chars flags) 0) flags skip h (flags_fault c again k) (flags_single c again k)

flag_word_single : (c : List Rule) (again : Bool) (o : Option (Text × Option Text)) (word : Text) (h : Held) → Single (flag_word_fault c again o word h)
flag_word_single c again (Some p) word h = long_single c again (arg_by_long c p.0) p.1 h
flag_word_single c again None word h = maybe _ (short_of word) [] (λ flags. flags_single c again (length flags) flags h.skip (record h { skip = 0 })) none

no_help : (b d : Bool) (kinds : Kinds) → d ≡ true → Single (if b && not d then kinds else [])
no_help b false kinds e = absurd cc
no_help true true kinds e = none
no_help false true kinds e = none

other_single : (s : Shape) (o : Option Text) (word : Text) (h : Held) → s.disable_help_subcommand ≡ true → Single (other_fault s o word h)
other_single s (Some name) word h e = no_help (bytes_eq name (codes "help")) s.disable_help_subcommand _ e
other_single s None word h e = either (bytes_eq word (45 ∷ 45 ∷ [])) _ _ none (flag_word_single s.rules s.args_override_self (long_of word) word h)

word_single : (s : Shape) (names : Names) (is_trailing : Bool) (waiting : Waiting) (word : Text) (h : Held) → s.disable_help_subcommand ≡ true → Single (word_fault s names is_trailing waiting word h)
word_single s names is_trailing waiting word h e = either is_trailing _ _ none (other_single s (subcommand_met names waiting word) word h e)

stray_single : (s : Shape) → s.is_leaf ≡ true → Single (stray_fault s)
stray_single s e = subst (λ (b : Bool). Single (if b then kind.UnknownArgument ∷ [] else kind.UnknownArgument ∷ kind.InvalidSubcommand ∷ [])) (sym e) (one kind.UnknownArgument)

step_single : (s : Shape) (position : ℕ) (h : Held) (step : Step) → s.is_leaf ≡ true → Single (step_fault s position h step)
step_single s position h value e = maybe _ (arg_by_index s.rules position) (stray_fault s) (λ a. either (is_pending a h.pending && takes_several a) _ _ none (settle_single s.rules s.args_override_self h)) (stray_single s e)
step_single s position h (next w) e = none
step_single s position h (trailing n) e = none
step_single s position h (subcommand t) e = none

turn_single : (s : Shape) (names : Names) (w : Walk) (word : Text) → s.is_leaf ≡ true → s.disable_help_subcommand ≡ true → Single (turn_fault s names w word)
turn_single s names w word leaf e =
    let met = word_met s.rules names w.is_trailing w.waiting w.position word w.held in
    either (is_some w.stopped) _ _ none (both _ _ (word_single s names w.is_trailing w.waiting word w.held e) (step_single s w.position met.0 met.1 leaf))

walk_single : (s : Shape) (names : Names) (w : Walk) (words : List Text) → s.is_leaf ≡ true → s.disable_help_subcommand ≡ true → Single (walk_fault s names w words)
unfolding walk_fault
walk_single s names w [] leaf e = none
walk_single s names w (word ∷ rest) leaf e = both _ _ (turn_single s names w word leaf e) (walk_single s names (walked s.rules names w word) rest leaf e)

-- after the walk
default_single : (rows : List Row) (a : Rule) → Single (default_fault rows a)
default_single rows a = either (has_row a.id rows || is_empty a.defaults) _ _ none (both _ _ (request_single (action_of a)) (parsed_single a a.defaults))

defaults_single : (rows : List Row) (rules : List Rule) → Single (defaults_fault rows rules)
unfolding defaults_fault
defaults_single rows [] = none
defaults_single rows (a ∷ rest) = both _ _ (default_single rows a) (defaults_single (with_default rows a) rest)

level_single : (s : Shape) (names : Names) (h : Held) (words : List Text) (below : Bool) → s.is_leaf ≡ true → s.disable_help_subcommand ≡ true → Single (level_fault s names h words below [])
level_single s names h words below leaf e =
    let end = (walk s.rules names h words).held in
    both _ _ (walk_single s names (walk_from h) words leaf e) (both [] _ none (both _ _ (settle_single s.rules s.args_override_self end) (both _ _ (defaults_single (settled s.rules end).rows s.rules) (check_single _ _ _))))

-- a command that is built without subcommands has at most one kind of error
pub fault_single : (a : App) (words : List Text) → (built a).subs ≡ [] → (built a).top.is_leaf ≡ true → (built a).top.disable_help_subcommand ≡ true → Single (fault_of a words)
fault_single a words leaf flat e = subst Single (sym (leaf_fault (built a) nothing_held (argument_words a words) leaf)) (level_single (built a).top [] nothing_held (argument_words a words) false flat e)
