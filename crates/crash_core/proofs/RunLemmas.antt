-- A run goes on by one step, and has the text of its draws.
use Rattle.std.proofs.Common.{◌≡◌, ℕ, zero, suc, ◌+◌, ◌-◌, min, Bool, true, false, nat_le, if◌then◌else◌, List, [], ◌∷◌, ◌++◌, length, Option, refl, sym, ap, ap₂, ◌∙◌, subst, append_assoc, append-nil, arith, length-append}
use Rattle.std.specs.declared.option.Option.TheVariants.{None, Some}
use Rattle.std.proofs.lemmas.List.Sums.{sum_by-append}
use Rattle.commit_book.specs.declared.change.Change.{Change}
use Rattle.commit_book.specs.Journal.{cost_of}
use Rattle.durable_book.specs.Journals.{costs_of}
use Rattle.durable_book.specs.Moments.{guard_of}
use Rattle.hub_model.specs.Setting.{default_setting}
use Rattle.world_core.specs.Draws.{after}
use Rattle.crash_core.specs.declared.expected.Expected.{Expected}
use Rattle.crash_core.specs.declared.lines.OpenLine.{OpenLine}
use Rattle.crash_core.specs.declared.step.CrashStep.{CrashStep}
use Rattle.crash_core.specs.declared.step.CrashStep.TheVariants as step
use Rattle.crash_core.specs.declared.step.QuietStep.{QuietStep}
use Rattle.crash_core.specs.declared.step.QuietStep.TheVariants as quiet
use Rattle.crash_core.specs.declared.step.Stopped.{Stopped}
use Rattle.crash_core.specs.Expected.{line_for, nothing, with_put, with_read, with_stop}
use Rattle.crash_core.specs.Lines.{lines_text, numbers_text}
use Rattle.crash_core.specs.Machine.{MachineView, IsCrashed, IsOpenedAs, IsQuietStep}
use Rattle.crash_core.specs.Run.{IsRun, IsSoFar, IsStep, StepsInto}
use Rattle.crash_core.specs.Steps.{bytes_from, kept_by, moment_at, next_step}
use Rattle.crash_core.specs.Stops.{is_stored, open_after, written_bytes}
use Rattle.crash_core.specs.Told.{Stand, AllLead, IsCrashText, Leads, at_first, fits, found_in, line_of, open_in, put_in}

-- ---- one step more

pub run_more : (number count : ℕ) (m : MachineView) (before : ℕ) (mid : MachineView) (drawn : ℕ) (lines : List OpenLine) (n : MachineView) (next : ℕ) (line : List OpenLine) → IsRun number count m before mid drawn lines
    → IsStep (number + count) (next_step drawn).0 mid (next_step drawn).1 n next line → IsRun number (suc count) m before n next (lines ++ line)
run_more number zero m before mid drawn lines n next line run step =
    let S : ℕ → MachineView → ℕ → Type 0 = λ k x d. IsStep k (next_step d).0 x (next_step d).1 n next line in
    let here : number + 0 ≡ number = omega arith in
    let first : S number m before = subst (λ (d : ℕ). S number m d) run.1 (subst (λ (x : MachineView). S number x drawn) run.0 (subst (λ (k : ℕ). S k mid drawn) here step)) in
    (n, next, line, [], first, (refl, refl, refl), ap (λ (xs : List OpenLine). xs ++ line) run.2 ∙ sym (append-nil line))
run_more number (suc count) m before mid drawn lines n next line run step =
    let k : number + suc count ≡ suc number + count = omega arith in
    let last : IsStep (suc number + count) (next_step drawn).0 mid (next_step drawn).1 n next line = subst (λ (i : ℕ). IsStep i (next_step drawn).0 mid (next_step drawn).1 n next line) k step in
    let rest = run_more (suc number) count run.0 run.1 mid drawn run.3 n next line run.5 last in
    (run.0, run.1, run.2, run.3 ++ line, run.4, rest, ap (λ (xs : List OpenLine). xs ++ line) run.6 ∙ append_assoc run.2 run.3 line)

-- the run so far goes on
pub so_far_more : (seed count done number : ℕ) (m : MachineView) (before : ℕ) (all : List OpenLine) (n : MachineView) (next : ℕ) (new : List OpenLine) → done ≡ count + 1 → number ≡ count + 1 → IsSoFar seed count m before all → StepsInto number m before all n next new
    → IsSoFar seed done n next new
so_far_more seed count done number m before all n next new more e s into =
    let k : number ≡ 1 + count = omega (arith, e) in
    let one : suc count ≡ done = omega (arith, more) in
    subst (λ (i : ℕ). IsSoFar seed i n next new) one (record {
      first = s.first;
      line = s.line;
      lines = s.lines ++ into.0;
      opened = s.opened;
      run = run_more 1 count s.first seed m before s.lines n next into.0 s.run (subst (λ (i : ℕ). IsStep i (next_step before).0 m (next_step before).1 n next into.0) k into.1);
      lines_are = into.2 ∙ ap (λ (xs : List OpenLine). xs ++ into.0) s.lines_are;
    })

-- it begins with the line of the empty disk
pub so_far_none : (seed : ℕ) (first : MachineView) (line : OpenLine) (all : List OpenLine) → IsOpenedAs 0 1000000 nothing (Some (record { start = []; calls = [] })) first line → all ≡ line ∷ [] → IsSoFar seed 0 first seed all
so_far_none seed first line all opened one = record { first = first; line = line; lines = []; opened = opened; run = (refl, refl, refl); lines_are = one }

-- ---- the counts of a machine are those of a journal

-- the commits are the journal's, and what they take of the capacity is what its changes take
pub record Holds (e : Expected) (journal : List Change) : Type 0 where
  pub commits : e.commits ≡ length journal
  pub bytes : e.bytes ≡ costs_of journal

-- what a store has, by its journal and the counts of its machine
abbrev pub stand_of : List Change → MachineView → ℕ → Stand
stand_of journal m number = record { journal = journal; kept = m.expected.kept; clock = m.clock; number = number }

abbrev stand_with : List Change → Option ℕ → (clock number : ℕ) → Stand
stand_with journal kept clock number = record { journal = journal; kept = kept; clock = clock; number = number }

stand_is : (journal : List Change) (kept last : Option ℕ) (clock later number next : ℕ) → last ≡ kept → later ≡ clock → next ≡ number → stand_with journal last later next ≡ stand_with journal kept clock number
stand_is journal kept last clock later number next k c n =
    ap (λ (x : Option ℕ). stand_with journal x later next) k ∙ ap (λ (x : ℕ). stand_with journal kept x next) c ∙ ap (λ (x : ℕ). stand_with journal kept clock x) n

-- a machine accepts what fits
accepts_is : (e : Expected) (journal : List Change) (change : Change) → Holds e journal → fits journal change ≡ nat_le (e.bytes + cost_of change) default_setting.capacity
accepts_is e journal change h =
    let more = sum_by-append cost_of journal (change ∷ []) in
    let sum : costs_of (journal ++ change ∷ []) ≡ e.bytes + cost_of change = omega (arith, more, h.bytes) in
    ap (λ (n : ℕ). nat_le n default_setting.capacity) sum

-- behind a put
holds_put : (e : Expected) (journal : List Change) (change : Change) → Holds e journal → Holds (with_put e (cost_of change)) (put_in journal change)
holds_put e journal change h =
    subst (λ (b : Bool). Holds (with_put e (cost_of change)) (if b then journal ++ change ∷ [] else journal)) (sym (accepts_is e journal change h))
    (by (nat_le (e.bytes + cost_of change) default_setting.capacity))
  where
    by : (b : Bool) → Holds (if b then record { commits = e.commits + 1; bytes = e.bytes + cost_of change; kept = e.kept } else e) (if b then journal ++ change ∷ [] else journal)
    by false = h
    by true =
        let more = sum_by-append cost_of journal (change ∷ []) in
        let size = length-append journal (change ∷ []) in
        record { commits = omega (arith, size, h.commits); bytes = omega (arith, more, h.bytes) }

kept_put : (e : Expected) (cost : ℕ) → (with_put e cost).kept ≡ e.kept
kept_put e cost = by (nat_le (e.bytes + cost) default_setting.capacity)
  where
    by : (b : Bool) → ◌≡◌ {A = Option ℕ} (if b then record { commits = e.commits + 1; bytes = e.bytes + cost; kept = e.kept } else e).kept e.kept
    by true = refl
    by false = refl

-- behind a put that stopped
holds_stop : (e : Expected) (journal : List Change) (change : Change) (calls : ℕ) (drawn : List ℕ) → Holds e journal → Holds (with_stop e (cost_of change) calls drawn) (found_in journal change calls drawn)
holds_stop e journal change calls drawn h = by (is_stored calls drawn)
  where
    by : (b : Bool) → Holds (if b then with_put e (cost_of change) else e) (if b then put_in journal change else journal)
    by true = holds_put e journal change h
    by false = h

kept_stop : (e : Expected) (cost calls : ℕ) (drawn : List ℕ) → (with_stop e cost calls drawn).kept ≡ e.kept
kept_stop e cost calls drawn = by (is_stored calls drawn)
  where
    by : (b : Bool) → ◌≡◌ {A = Option ℕ} (if b then with_put e cost else e).kept e.kept
    by true = kept_put e cost
    by false = refl

-- ---- a machine's steps are those of a store

-- a step leads from a journal to another, whose counts are the machine's
record Led (number : ℕ) (step : CrashStep) (journal : List Change) (m : MachineView) (before : ℕ) (n : MachineView) (next : ℕ) (lines : List OpenLine) : Type 0 where
  pub found : List Change
  pub holds : Holds n.expected found
  pub leads : Leads number step (stand_of journal m before) (stand_of found n next) lines

-- where nothing but the clock changes
still_is : (e f : Expected) (journal : List Change) → f ≡ e → Holds e journal → Holds f journal
still_is e f journal same h = subst (λ (x : Expected). Holds x journal) (sym same) h

quiet_leads : (number : ℕ) (it : QuietStep) (journal : List Change) (m : MachineView) (before : ℕ) (n : MachineView) (next : ℕ) (lines : List OpenLine) → Holds m.expected journal → IsQuietStep it m n → next ≡ before → lines ≡ []
    → Led number (step.Quiet it) journal m before n next lines
quiet_leads number (quiet.Put product price) journal m before n next lines h s number_is none = record {
  found = put_in journal s.change;
  holds = still_is (with_put m.expected (cost_of s.change)) n.expected (put_in journal s.change) s.expected (holds_put m.expected journal s.change h);
  leads = (
    (s.change, s.is_put, stand_is (put_in journal s.change) m.expected.kept n.expected.kept m.clock n.clock before next (ap (λ (x : Expected). x.kept) s.expected ∙ kept_put m.expected (cost_of s.change)) s.clock number_is),
    none,
  );
}
quiet_leads number (quiet.Read product) journal m before n next lines h s number_is none = record {
  found = journal;
  holds = still_is (with_read m.expected (moment_at m.clock)) n.expected journal s.expected (record { commits = h.commits; bytes = h.bytes });
  leads = (stand_is journal (kept_by (moment_at m.clock) m.expected.kept) n.expected.kept m.clock n.clock before next (ap (λ (x : Expected). x.kept) s.expected) s.clock number_is, none);
}
quiet_leads number quiet.Fetch journal m before n next lines h s number_is none = record {
  found = journal;
  holds = still_is m.expected n.expected journal s.expected h;
  leads = (stand_is journal m.expected.kept n.expected.kept m.clock n.clock before next (ap (λ (x : Expected). x.kept) s.expected) s.clock number_is, none);
}
quiet_leads number (quiet.Advance seconds) journal m before n next lines h s number_is none = record {
  found = journal;
  holds = still_is m.expected n.expected journal (ap (λ (x : MachineView). x.expected) s) h;
  leads = (stand_is journal m.expected.kept n.expected.kept (min (m.clock + seconds) 18446744073709551615) n.clock before next (ap (λ (x : MachineView). x.expected.kept) s) (ap (λ (x : MachineView). x.clock) s) number_is, none);
}
quiet_leads number quiet.Match journal m before n next lines h s number_is none = record {
  found = journal;
  holds = still_is m.expected n.expected journal s.expected h;
  leads = (stand_is journal m.expected.kept n.expected.kept m.clock n.clock before next (ap (λ (x : Expected). x.kept) s.expected) s.clock number_is, none);
}

-- the line of an opening
abbrev line_with : (number commits : ℕ) → Option ℕ → OpenLine
line_with number commits kept = record { step = number; commits = commits; guard = guard_of default_setting kept }

line_is : (number : ℕ) (e : Expected) (journal : List Change) (n : MachineView) (next : ℕ) → n.expected ≡ e → Holds e journal → line_for number e ≡ line_of number (stand_of journal n next)
line_is number e journal n next same h =
    ap (λ (k : ℕ). line_with number k e.kept) h.commits ∙ ap (λ (x : Expected). line_with number (length journal) x.kept) (sym same)

crash_leads : (number : ℕ) (stopped : Stopped) (journal : List Change) (m : MachineView) (before : ℕ) (n : MachineView) (next : ℕ) (line : OpenLine) (lines : List OpenLine) → Holds m.expected journal → IsCrashed number stopped m before next n line → lines ≡ line ∷ []
    → Led number (step.Crash stopped) journal m before n next lines
crash_leads number stopped journal m before n next line lines h c one =
    let change = c.begun.change in
    let calls = stopped.calls in
    let count : c.stop.count ≡ open_in journal change calls =
    c.begun.count_is ∙ ap (λ (b : Bool). if b then open_after (written_bytes change) calls else 0) (sym (accepts_is m.expected journal change h)) in
    let drawn = bytes_from c.stop.count before in
    let e = with_stop m.expected (cost_of change) calls drawn in
    let kept : with_stop c.mid.expected c.stop.cost calls drawn ≡ e = ap₂ (λ (x : Expected) (k : ℕ). with_stop x k calls drawn) c.begun.expected c.begun.cost_is in
    let expected : n.expected ≡ e = c.restarted.opened.expected_is ∙ kept in
    let clock : n.clock ≡ m.clock = c.restarted.opened.clock_is ∙ c.begun.clock in
    let lined : line ≡ line_for number e = c.restarted.opened.line_is ∙ ap (line_for number) kept in
    let here = holds_stop m.expected journal change calls drawn h in
    let found = found_in journal change calls (bytes_from (open_in journal change calls) before) in
    let same : found_in journal change calls drawn ≡ found = ap (λ (k : ℕ). found_in journal change calls (bytes_from k before)) count in
    let holds : Holds e found = subst (λ (xs : List Change). Holds e xs) same here in
    record {
      found = found;
      holds = still_is e n.expected found expected holds;
      leads = (
        (
          change,
          c.begun.is_put,
          stand_is found m.expected.kept n.expected.kept m.clock n.clock (after (open_in journal change calls) before) next
              (ap (λ (x : Expected). x.kept) expected ∙ kept_stop m.expected (cost_of change) calls drawn) clock (c.restarted.drawn ∙ ap (λ (k : ℕ). after k before) count),
        ),
        one ∙ ap (λ (x : OpenLine). x ∷ []) (lined ∙ line_is number e found n next expected holds),
      );
    }

step_leads : (number : ℕ) (s : CrashStep) (journal : List Change) (m : MachineView) (before : ℕ) (n : MachineView) (next : ℕ) (lines : List OpenLine) → Holds m.expected journal → IsStep number s m before n next lines → Led number s journal m before n next lines
step_leads number (step.Quiet it) journal m before n next lines h s = quiet_leads number it journal m before n next lines h s.0 s.1 s.2
step_leads number (step.Crash stopped) journal m before n next lines h s = crash_leads number stopped journal m before n next s.0 lines h s.1 s.2

-- and so is a run
record LedAll (number count : ℕ) (journal : List Change) (m : MachineView) (before : ℕ) (n : MachineView) (next : ℕ) (lines : List OpenLine) : Type 0 where
  pub found : List Change
  pub holds : Holds n.expected found
  pub lead : AllLead number count (stand_of journal m before) (stand_of found n next) lines

run_leads : (number count : ℕ) (journal : List Change) (m : MachineView) (before : ℕ) (n : MachineView) (next : ℕ) (lines : List OpenLine) → Holds m.expected journal → IsRun number count m before n next lines → LedAll number count journal m before n next lines
run_leads number zero journal m before n next lines h run = record {
  found = journal;
  holds = still_is m.expected n.expected journal (ap (λ (x : MachineView). x.expected) run.0) h;
  lead = (stand_is journal m.expected.kept n.expected.kept m.clock n.clock before next (ap (λ (x : MachineView). x.expected.kept) run.0) (ap (λ (x : MachineView). x.clock) run.0) run.1, run.2);
}
run_leads number (suc count) journal m before n next lines h run =
    let first = step_leads number (next_step before).0 journal m (next_step before).1 run.0 run.1 run.2 h run.4 in
    let rest = run_leads (suc number) count first.found run.0 run.1 n next run.3 first.holds run.5 in
    record {
      found = rest.found;
      holds = rest.holds;
      lead = (stand_of first.found run.0 run.1, run.2, run.3, first.leads, rest.lead, run.6);
    }

-- ---- the text

-- the text of a run is that of its draws
pub text_of_run : (seed count : ℕ) (last : MachineView) (number : ℕ) (all : List OpenLine) (commits crashes : ℕ) (text : List ℕ) → IsSoFar seed count last number all → commits ≡ last.expected.commits → crashes ≡ length all - 1
    → text ≡ lines_text all ++ numbers_text count commits crashes → IsCrashText seed count text
text_of_run seed count last number all commits crashes text s commits_are crashes_are same =
    let none : Holds nothing [] = record { commits = refl; bytes = refl } in
    let begun : Holds s.first.expected [] = still_is nothing s.first.expected [] s.opened.expected_is none in
    let led = run_leads 1 count [] s.first seed last number s.lines begun s.run in
    let first : stand_of [] s.first seed ≡ at_first seed = stand_is [] None s.first.expected.kept 1000000 s.first.clock seed seed (ap (λ (x : Expected). x.kept) s.opened.expected_is) s.opened.clock_is refl in
    let line : s.line ≡ line_of 0 (at_first seed) = s.opened.line_is ∙ line_is 0 nothing [] s.first seed s.opened.expected_is none ∙ ap (line_of 0) first in
    let lines : all ≡ line_of 0 (at_first seed) ∷ s.lines = s.lines_are ∙ ap (λ (x : OpenLine). x ∷ s.lines) line in
    let size : length all ≡ length (line_of 0 (at_first seed) ∷ s.lines) = ap (λ (xs : List OpenLine). length xs) lines in
    let crashed : crashes ≡ length s.lines = omega (arith, crashes_are, size) in
    let made : commits ≡ length led.found = commits_are ∙ led.holds.commits in
    record {
      last = stand_of led.found last number;
      lines = s.lines;
      run = subst (λ (x : Stand). AllLead 1 count x (stand_of led.found last number) s.lines) first led.lead;
      text_is = same
          ∙ ap₂ (λ (xs : List OpenLine) (k : ℕ). lines_text xs ++ numbers_text count k crashes) lines made
          ∙ ap (λ (k : ℕ). lines_text (line_of 0 (at_first seed) ∷ s.lines) ++ numbers_text count (length led.found) k) crashed;
    }
