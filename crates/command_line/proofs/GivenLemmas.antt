-- clap takes no words of a command without each word that it needs.
use Rattle.std.proofs.Common.{◌≡◌, ◌⊎◌, ◌<◌, ◌≤◌, ◌&&◌, ℕ, zero, suc, Bool, true, false, not, nat_lt, List, [], ◌∷◌, map, length, is_some, codes, refl, sym, ap, ◌∙◌, subst, arith, inl, inr, get_or}
use Rattle.std.proofs.lemmas.Bool.{and_parts, ltb-true}
use Rattle.std.specs.List.{list_all, slice_index_or}
use Rattle.std.specs.Str.{bytes_eq}
use Rattle.clap.specs.Words.{App, Rule, Text, app_of, args_of, found_of, first_of, rows_of, rule_of, IsParsedFrom, IsPlain}
use Rattle.clap.specs.Facts.{unwrap_or_range}
use Rattle.clap.specs.Simple.{is_ready, is_ready_leaf}
use Rattle.clap.specs.declared.builder.arg.Arg.{Arg}
use Rattle.clap.specs.declared.builder.command.Command.{Command}
use Rattle.clap.specs.declared.parser.matches.ArgMatches.{ArgMatches}
use Rattle.clap.proofs.CallerLemmas.{required_has_value}
use Rattle.clap.proofs.SimpleLemmas.{ready_simple, simple_groups}
use Rattle.clap.proofs.TakesLemmas.{each_rule, free_arg}
use Rattle.clap.proofs.WalkLemmas.{first_value-rows}
use Rattle.command_line.specs.Commands.{word_rule, serve_app, read_app, simulation_app}
use Rattle.command_line.specs.declared.command_name.Simulation.{Simulation}
use Rattle.command_line.specs.declared.command_name.Simulation.TheVariants.{World, Crash}

abbrev is_other : Text → Rule → Bool
is_other name r = not (bytes_eq r.id name)

-- whether the rule at this place is the only one of this name
abbrev is_only : ℕ → Text → List Rule → Bool
is_only i name [] = true
is_only zero name (r ∷ rs) = list_all (is_other name) rs
is_only (suc i) name (r ∷ rs) = is_other name r && is_only i name rs

-- so no other argument has the name
only_at : (i : ℕ) (name : Text) (xs : List Arg) → is_only i name (map rule_of xs) ≡ true → (j : ℕ) (e : Arg) → j < length xs → bytes_eq (slice_index_or xs j e).id.now name ≡ true → j ≡ i
only_at i name [] only j e lt same = absurd (omega (arith, lt))
only_at zero name (x ∷ xs) only zero e lt same = refl
only_at zero name (x ∷ xs) only (suc j) e lt same =
    let no : is_other name (rule_of (slice_index_or xs j e)) ≡ true = each_rule (is_other name) xs only j e (omega (arith, lt)) in
    let bad : false ≡ true = sym (ap not same) ∙ no in
    absurd cc
only_at (suc i) name (x ∷ xs) only zero e lt same =
    let bad : false ≡ true = sym (ap not same) ∙ (and_parts _ _ only).0 in
    absurd cc
only_at (suc i) name (x ∷ xs) only (suc j) e lt same =
    ap suc (only_at i name xs (and_parts _ _ only).1 j e (omega (arith, lt)) same)

-- the rule of the argument at a place
rule_at : (xs : List Arg) (i : ℕ) (d : Arg) (r : Rule) → i < length xs → rule_of (slice_index_or xs i d) ≡ get_or (map rule_of xs) i r
rule_at [] i d r lt = absurd (omega (arith, lt))
rule_at (x ∷ xs) zero d r lt = refl
rule_at (x ∷ xs) (suc i) d r lt = rule_at xs i d r (omega (arith, lt))

length_of : (xs : List Arg) → length (map rule_of xs) ≡ length xs
length_of [] = refl
length_of (x ∷ xs) = ap suc (length_of xs)

-- The command has a word of this name at this place, nothing else of this name, and nothing that excludes anything.
record HasWord (app : App) (i : ℕ) (name : Text) : Type 0 where
  ready : is_ready app.top ≡ true
  leaves : list_all is_ready_leaf app.subs ≡ true
  simple : list_all (λ (r : Rule). r.is_simple) app.top.rules ≡ true
  free : list_all (λ (r : Rule). r.is_free) app.top.rules ≡ true
  negates : app.top.subcommand_negates_reqs ≡ false
  inside : i < length app.top.rules
  rule : get_or app.top.rules i (word_rule name) ≡ word_rule name
  only : is_only i name app.top.rules ≡ true
  named : name ≡ [] → ⊥
  other : (name ≡ codes "help") ⊎ (name ≡ codes "version") → ⊥

module _ (app : App) (command : Command) (m : ArgMatches) (is : app_of command ≡ app) (parsed : IsParsedFrom command m) where
  -- nothing in the command excludes anything
  plain : (i : ℕ) (name : Text) → HasWord app i name → IsPlain command
  plain i name h =
      let simple = ready_simple command (ap (λ (a : App). is_ready a.top) is ∙ h.ready) (ap (λ (a : App). list_all is_ready_leaf a.subs) is ∙ h.leaves) in
      let groups = simple_groups command (ap (λ (a : App). list_all (λ (r : Rule). r.is_simple) a.top.rules) is ∙ h.simple) in
      let free = each_rule (λ r. r.is_free) (args_of command) (ap (λ (a : App). list_all (λ (r : Rule). r.is_free) a.top.rules) is ∙ h.free) in (
        (λ k d lt. let f = free_arg (slice_index_or (args_of command) k d) (simple.args k d lt) (free k d lt) in
            (f.exclusive, f.conflicts, f.overrides, groups k d lt)),
        simple.groups,
      )

  with_any : (i : ℕ) (name : Text) (xs : List Arg) → args_of command ≡ xs → HasWord app i name → is_some (first_of name (rows_of (found_of m))) ≡ true
  with_any i name [] same h =
      let long : 0 ≡ length app.top.rules = sym (ap (λ l. length (map rule_of l)) same) ∙ ap (λ (a : App). length a.top.rules) is in
      let inside : i < length app.top.rules = h.inside in
      absurd (omega (arith, long, inside))
  with_any i name (x ∷ xs) same h =
      let simple = ready_simple command (ap (λ (a : App). is_ready a.top) is ∙ h.ready) (ap (λ (a : App). list_all is_ready_leaf a.subs) is ∙ h.leaves) in
      let rules : map rule_of (args_of command) ≡ app.top.rules = ap (λ (a : App). a.top.rules) is in
      let inside : i < length (args_of command) = subst (λ n. i < n) (length_of (args_of command)) (subst (λ l. i < length l) (sym rules) h.inside) in
      let a = slice_index_or (args_of command) i x in
      let rule : rule_of a ≡ word_rule name = rule_at (args_of command) i x (word_rule name) inside ∙ ap (λ l. get_or l i (word_rule name)) rules ∙ h.rule in
      let id : a.id.now ≡ name = ap (λ (r : Rule). r.id) rule in
      let least : 1 ≤ (unwrap_or_range a.num_vals).start_inclusive = subst (λ (r : Rule). 1 ≤ (unwrap_or_range r.range).start_inclusive) (sym rule) (omega arith) in
      let only = only_at i name (args_of command) (ap (is_only i name) rules ∙ h.only) in
      let value = required_has_value command m parsed (plain i name h) simple.globals (ap (λ (a : App). a.top.subcommand_negates_reqs) is ∙ h.negates) i x inside
      (ap (λ (r : Rule). r.required) rule) (ap (λ (r : Rule). r.action) rule) (simple.args i x inside).delimiter least
      (λ j e lt named. only j e lt (subst (λ t. bytes_eq (slice_index_or (args_of command) j e).id.now t ≡ true) id named))
      (λ empty. h.named (sym id ∙ empty))
      (λ own. h.other (subst (λ t. (t ≡ codes "help") ⊎ (t ≡ codes "version")) id own)) in
      subst (λ t. is_some (first_of t (rows_of (found_of m))) ≡ true) id (subst (λ o. is_some o ≡ true) (first_value-rows (found_of m) a.id.now) value)

  -- clap has found the word
  word_given : (i : ℕ) (name : Text) → HasWord app i name → is_some (first_of name (rows_of (found_of m))) ≡ true
  word_given i name h = with_any i name (args_of command) refl h

-- a name that begins with an upper-case letter is that of no flag of clap's
not_own : (name : Text) → get_or name 0 0 < 97 → (name ≡ codes "help") ⊎ (name ≡ codes "version") → ⊥
not_own name upper (inl help) = let first : get_or name 0 0 ≡ 104 = ap (λ s. get_or s 0 0) help in omega (arith, first, upper)
not_own name upper (inr version) = let first : get_or name 0 0 ≡ 118 = ap (λ s. get_or s 0 0) version in omega (arith, first, upper)

some : (name : Text) → 0 < length name → name ≡ [] → ⊥
some name long empty = let none : length name ≡ 0 = ap length empty in omega (arith, none, long)

-- whether a command has a word of this name at this place, nothing else of this name, and nothing that excludes anything
abbrev tests : App → ℕ → Text → Bool
tests app i name =
    is_ready app.top && (list_all is_ready_leaf app.subs && (list_all (λ (r : Rule). r.is_simple) app.top.rules && (list_all (λ (r : Rule). r.is_free) app.top.rules
    && (not app.top.subcommand_negates_reqs && (nat_lt i (length app.top.rules) && (is_only i name app.top.rules && (nat_lt 0 (length name) && nat_lt (get_or name 0 0) 97)))))))

-- so it has the word, where the rule there is that of a word
has_word : (app : App) (i : ℕ) (name : Text) → tests app i name ≡ true → get_or app.top.rules i (word_rule name) ≡ word_rule name → HasWord app i name
has_word app i name all rule =
    let ready = and_parts _ _ all in
    let leaves = and_parts _ _ ready.1 in
    let simple = and_parts _ _ leaves.1 in
    let free = and_parts _ _ simple.1 in
    let negates = and_parts _ _ free.1 in
    let inside = and_parts _ _ negates.1 in
    let only = and_parts _ _ inside.1 in
    let named = and_parts _ _ only.1 in
    record {
      ready = ready.0;
      leaves = leaves.0;
      simple = simple.0;
      free = free.0;
      negates = refuted _ negates.0;
      inside = ltb-true _ _ inside.0;
      rule = rule;
      only = only.0;
      named = some name (ltb-true _ _ named.0);
      other = not_own name (ltb-true _ _ named.1);
    }
  where
    refuted : (b : Bool) → not b ≡ true → b ≡ false
    refuted true p = sym p
    refuted false p = refl

-- clap has found the address of `serve`
pub serve_address : (command : Command) (m : ArgMatches) → app_of command ≡ serve_app → IsParsedFrom command m → is_some (first_of (codes "ADDR") (rows_of (found_of m))) ≡ true
serve_address command m is parsed = word_given serve_app command m is parsed 0 (codes "ADDR") (has_word serve_app 0 (codes "ADDR") refl refl)

-- the three words of `read`
pub read_address : (command : Command) (m : ArgMatches) → app_of command ≡ read_app → IsParsedFrom command m → is_some (first_of (codes "ADDR") (rows_of (found_of m))) ≡ true
read_address command m is parsed = word_given read_app command m is parsed 0 (codes "ADDR") (has_word read_app 0 (codes "ADDR") refl refl)

pub read_level : (command : Command) (m : ArgMatches) → app_of command ≡ read_app → IsParsedFrom command m → is_some (first_of (codes "LEVEL") (rows_of (found_of m))) ≡ true
read_level command m is parsed = word_given read_app command m is parsed 1 (codes "LEVEL") (has_word read_app 1 (codes "LEVEL") refl refl)

pub read_key : (command : Command) (m : ArgMatches) → app_of command ≡ read_app → IsParsedFrom command m → is_some (first_of (codes "KEY") (rows_of (found_of m))) ≡ true
read_key command m is parsed = word_given read_app command m is parsed 2 (codes "KEY") (has_word read_app 2 (codes "KEY") refl refl)

-- the two words of a simulation
pub seed_given : (which : Simulation) (command : Command) (m : ArgMatches) → app_of command ≡ simulation_app which → IsParsedFrom command m → is_some (first_of (codes "SEED") (rows_of (found_of m))) ≡ true
seed_given World command m is parsed = word_given (simulation_app World) command m is parsed 0 (codes "SEED") (has_word (simulation_app World) 0 (codes "SEED") refl refl)
seed_given Crash command m is parsed = word_given (simulation_app Crash) command m is parsed 0 (codes "SEED") (has_word (simulation_app Crash) 0 (codes "SEED") refl refl)

pub steps_given : (which : Simulation) (command : Command) (m : ArgMatches) → app_of command ≡ simulation_app which → IsParsedFrom command m → is_some (first_of (codes "STEPS") (rows_of (found_of m))) ≡ true
steps_given World command m is parsed = word_given (simulation_app World) command m is parsed 1 (codes "STEPS") (has_word (simulation_app World) 1 (codes "STEPS") refl refl)
steps_given Crash command m is parsed = word_given (simulation_app Crash) command m is parsed 1 (codes "STEPS") (has_word (simulation_app Crash) 1 (codes "STEPS") refl refl)
